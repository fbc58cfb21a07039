use Rattle.std.proofs.Common.{◌≡◌, ◌++◌, drop}
use Rattle.wb_tree.proofs.Branching.Copied.{values}
use Rattle.wb_tree.proofs.tree.node.Node.+copied.Given as goal

abbrev pub decreases-copied : goal.decreases-copied
decreases-copied g l = goal.size-copied g l

abbrev pub invariant-loop-kid : goal.invariant-loop-kid
invariant-loop-kid g l = values l.kids.items ++ values (drop l.kid-index l.kid-items) ≡ values l.kid-items
