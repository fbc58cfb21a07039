use Rattle.std.proofs.Common.{◌-◌, ◌*◌}
use Rattle.wb_tree.proofs.Branching.Filling.{AreFilled}
use Rattle.wb_tree.proofs.tree.node.filling.+filled.Given as goal

abbrev pub decreases-filled : goal.decreases-filled
decreases-filled g l = l.level

abbrev pub invariant-loop-word : goal.invariant-loop-word
invariant-loop-word g l = AreFilled l.entries (l.level - 1) (32 * l.index) l.word l.kids.items
