use Rattle.std.proofs.Common.{sym, subst}
use Rattle.wb_trial.specs.Own.{AreOwn}
use Rattle.wb_trial.proofs.OwnTrees.{none-known, none-own}
use Rattle.wb_tests_meta.proofs.tree.images.are_told.Goals as goal

pub change-requires-clause-own : goal.change-requires-clause-own
change-requires-clause-own c = subst AreOwn (sym c.new-tree.ensures.entries) (none-own 40)

pub plan_at-requires-clause-inside : goal.plan_at-requires-clause-inside
plan_at-requires-clause-inside c place is = absurd (none-known c.new-tree.result place c.new-tree.ensures.known (c.in_ok-change.ensures.stays place is))
