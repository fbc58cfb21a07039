use Rattle.std.proofs.Common.{sym, subst, List}
use Rattle.std.specs.Prelude.{Contains}
use Rattle.wb_types.specs.declared.geometry.Geometry.{Geometry}
use Rattle.wb_types.specs.declared.number.Place.{Place}
use Rattle.wb_tree.specs.Mapping.{AreInside}
use Rattle.wb_tree.proofs.Stored.Edited.{places-edited}
use Rattle.wb_tests_meta.proofs.meta.cycle.change_and_plan.Goals as goal

pub loop-block-init : goal.loop-block-init
loop-block-init c =
    let state = c.in_ok-root.field-0 in
    let fits = c.in_ok-root.ensures.fits in
    record {
      size = fits.mapping.size;
      used = fits.known_used;
      inside = subst (λ n. AreInside n state.tree) (sym fits.size) fits.inside;
    }

pub loop-block-preserved : goal.loop-block-preserved
loop-block-preserved c = record {
  size = c.in_ok-change.ensures.size;
  used = λ place is. c.loop-block.invariant.used place (places-edited _ _ place c.change.ensures.edited is);
  inside = λ place is. c.loop-block.invariant.inside place (places-edited _ _ place c.change.ensures.edited is);
}

pub plan_at-requires-clause-used : goal.plan_at-requires-clause-used
plan_at-requires-clause-used c place is = subst (λ (places : List Place). Contains places place) (sym c.deref.ensures.value) (c.loop-block.invariant.used place is)

pub returns-clause-inside : goal.returns-clause-inside
returns-clause-inside c = subst (λ (g : Geometry). AreInside g.meta_sectors c.plan_at.new.tree) (sym c.in_ok-image.ensures.geometry) c.in_ok-image.ensures.inside
