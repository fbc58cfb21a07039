use Rattle.std.proofs.Common.{◌∙◌, sym, ap, subst, Option, None, length}
use Rattle.std.proofs.lemmas.List.{length-replicate}
use Rattle.wb_types.specs.declared.entry.Entry.{Entry}
use Rattle.wb_trial.specs.Own.{AreOwn}
use Rattle.wb_trial.proofs.OwnTrees.{none-known, none-own}
use Rattle.wb_tests_meta.proofs.tree.images.come_out.Goals as goal

pub loop-row-init : goal.loop-row-init
loop-row-init c = record {
  size = ap length c.new-tree.ensures.entries ∙ length-replicate {A = Option Entry} 40 None;
  own = subst AreOwn (sym c.new-tree.ensures.entries) (none-own 40);
  inside = λ place is. absurd (none-known c.new-tree.result place c.new-tree.ensures.known is);
}

pub plan_at-requires-clause-inside : goal.plan_at-requires-clause-inside
plan_at-requires-clause-inside c place is = c.loop-row.invariant.inside place (c.in_ok-change.ensures.stays place (c.in_ok-change-2.ensures.stays place is))

pub loop-row-preserved : goal.loop-row-preserved
loop-row-preserved c = record {
  size = ap length c.in_ok-image.ensures.entries ∙ (c.in_ok-change-2.ensures.size ∙ (c.in_ok-change.ensures.size ∙ c.loop-row.invariant.size));
  own = subst AreOwn (sym c.in_ok-image.ensures.entries) c.in_ok-change-2.ensures.own;
  inside = c.in_ok-image.ensures.inside;
}
