use Rattle.std.proofs.Common.{◌-◌, ◌*◌}
use Rattle.wb_dirty.proofs.PlanCounting.{IsCountedTo}
use Rattle.wb_dirty.proofs.counting.+count_below.Given as goal

abbrev pub decreases-count_below : goal.decreases-count_below
decreases-count_below l = l.level

abbrev pub invariant-loop-j : goal.invariant-loop-j
invariant-loop-j l = IsCountedTo l.dirty (l.level - 1) (32 * l.index) l.j l.count
