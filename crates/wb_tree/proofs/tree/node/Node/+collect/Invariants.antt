use Rattle.std.proofs.Common.{◌≡◌, ◌++◌, drop}
use Rattle.wb_tree.specs.Branches.{known_below}
use Rattle.wb_tree.proofs.Nodes.Knowing.{places}
use Rattle.wb_tree.proofs.tree.node.Node.+collect.Given as goal

abbrev pub decreases-collect : goal.decreases-collect
decreases-collect g l = goal.size-collect g l

abbrev pub invariant-loop-kid : goal.invariant-loop-kid
invariant-loop-kid g l = l.places.items ++ places (known_below (drop l.kid-index l.kid-items)) ≡ l.fn.places.items ++ places l.self.known
