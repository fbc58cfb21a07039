use Rattle.std.proofs.Common.{◌≡◌, ◌<◌, ◌≤◌, ◌∙◌, ◌-◌, ◌+◌, ◌++◌, suc, [], ◌∷◌, ℕ, List, Some, refl, ap, subst, arith}
use Rattle.wb_meta.proofs.Loaded.{IfErr-handed}
use Rattle.wb_types.specs.declared.geometry.Geometry.{Geometry}
use Rattle.wb_types.specs.declared.refusal.Refusal.TheVariants.{Failed}
use Rattle.wb_tasks.specs.declared.step.Answer.TheVariants.{Done as Finished, Refused as Refuses}
use Rattle.wb_target.specs.Works.{WasAsked}
use Rattle.wb_target.specs.Invalidates.{WasFound, InvalidationCame, IsEmptied, range_places, from_place}
use Rattle.wb_target.proofs.Invalidates.{EmptiedTo, emptied_one, emptied_all, rest_on}
use Rattle.wb_target.proofs.client.Client.invalidate_range.Goals as goal

-- where some are left, the next one is the first of them
next_first : (at end : ℕ) → at < end → from_place at (end - at) ≡ at ∷ from_place (at + 1) (end - (at + 1))
next_first at end below = let e : end - at ≡ suc (end - (at + 1)) = omega (arith, below) in ap (from_place at) e

none_left : (at end : ℕ) → end ≤ at → from_place at (end - at) ≡ []
none_left at end past = let e : end - at ≡ 0 = omega (arith, past) in ap (from_place at) e

pub loop-at-init : goal.loop-at-init
loop-at-init g c = record { rest = (refl, refl, refl, refl); emptied = ([], refl, refl) }

pub loop-at-preserved : goal.loop-at-preserved
loop-at-preserved g c = record {
  rest = rest_on c.args.self.now c.loop-at.self c.invalidate_at.new.self c.loop-at.invariant.rest c.invalidate_at.ensures.rest;
  emptied = emptied_one (WasFound g.row.P.Denot c.args.self.now.port.geometry.origin_blocks) (InvalidationCame (WasAsked g.P.Policy.with_entry g.P.Policy.without_entry []) c.args.self.now.port.geometry Finished) (range_places c.args.range) c.loop-at.at (from_place (c.loop-at.at + 1) (c.args.range.end.0 - (c.loop-at.at + 1))) c.args.self.now.port.hand c.loop-at.self.port.hand c.invalidate_at.new.self.port.hand
      (subst (λ (left : List ℕ). EmptiedTo (WasFound g.row.P.Denot c.args.self.now.port.geometry.origin_blocks) (InvalidationCame (WasAsked g.P.Policy.with_entry g.P.Policy.without_entry []) c.args.self.now.port.geometry Finished) (range_places c.args.range) left c.args.self.now.port.hand c.loop-at.self.port.hand) (next_first c.loop-at.at c.args.range.end.0 c.loop-at-test.true) c.loop-at.invariant.emptied)
      (subst (λ (geometry : Geometry). IsEmptied (WasFound g.row.P.Denot geometry.origin_blocks) (InvalidationCame (WasAsked g.P.Policy.with_entry g.P.Policy.without_entry []) geometry Finished) c.loop-at.at c.loop-at.self.port.hand c.invalidate_at.new.self.port.hand) c.loop-at.invariant.rest.1 c.in_ok-invalidate_at.ensures.emptied);
}

pub returns-clause-left : goal.returns-clause-left
returns-clause-left g c = emptied_all (WasFound g.row.P.Denot c.args.self.now.port.geometry.origin_blocks) (InvalidationCame (WasAsked g.P.Policy.with_entry g.P.Policy.without_entry []) c.args.self.now.port.geometry Finished) (range_places c.args.range) c.args.self.now.port.hand c.loop-at.self.port.hand
    (subst (λ (left : List ℕ). EmptiedTo (WasFound g.row.P.Denot c.args.self.now.port.geometry.origin_blocks) (InvalidationCame (WasAsked g.P.Policy.with_entry g.P.Policy.without_entry []) c.args.self.now.port.geometry Finished) (range_places c.args.range) left c.args.self.now.port.hand c.loop-at.self.port.hand) (none_left c.loop-at.at c.args.range.end.0 c.loop-at-test.false) c.loop-at.invariant.emptied)

pub returns-in_err-invalidate_at-clause-refused : goal.returns-in_err-invalidate_at-clause-refused
returns-in_err-invalidate_at-clause-refused g c =
    let here = c.in_err-invalidate_at.ensures.refused in
    let came = subst (λ (geometry : Geometry). InvalidationCame (WasAsked g.P.Policy.with_entry g.P.Policy.without_entry []) geometry (Refuses Failed) here.1.0 c.loop-at.self.port.hand c.invalidate_at.new.self.port.hand) c.loop-at.invariant.rest.1 here.1.2 in
    let found = subst (λ (geometry : Geometry). WasFound g.row.P.Denot geometry.origin_blocks c.loop-at.at (Some here.1.0)) c.loop-at.invariant.rest.1 here.1.1 in
    IfErr-handed c.from_residual.result c.in_err-invalidate_at.field-0.0 _ c.from_residual.ensures.1 (
      here.0,
      record {
        done = c.loop-at.invariant.emptied.0;
        place = c.loop-at.at;
        rest = from_place (c.loop-at.at + 1) (c.args.range.end.0 - (c.loop-at.at + 1));
        all = c.loop-at.invariant.emptied.1 ∙ ap (λ (left : List ℕ). c.loop-at.invariant.emptied.0 ++ left) (next_first c.loop-at.at c.args.range.end.0 c.loop-at-test.true);
        before = c.loop-at.self.port.hand;
        emptied = c.loop-at.invariant.emptied.2;
        block = here.1.0;
        found_there = found;
        stayed = came;
      },
    )
