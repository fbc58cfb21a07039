use Rattle.wb_trial.proofs.OwnTrees.{none-known}
use Rattle.wb_tests_meta.proofs.tree.images.plans_a_leaf.Goals as goal

pub plan_at-requires-clause-inside : goal.plan_at-requires-clause-inside
plan_at-requires-clause-inside c place is = absurd (none-known c.new-tree.result place c.new-tree.ensures.known (c.in_ok-change.ensures.stays place is))
