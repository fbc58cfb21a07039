use Rattle.std.proofs.Common.{◌-◌, ◌*◌}
use Rattle.wb_tree.proofs.Images.Changes.{AreCounted}
use Rattle.wb_tree.proofs.counting.+count_changed.Given as goal

abbrev pub decreases-count_changed : goal.decreases-count_changed
decreases-count_changed g l = l.level

abbrev pub invariant-loop-j : goal.invariant-loop-j
invariant-loop-j g l = AreCounted l.tree (l.level - 1) (32 * l.index) l.j l.count
