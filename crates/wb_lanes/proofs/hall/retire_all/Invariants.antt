use Rattle.std.proofs.Common.{length}
use Rattle.wb_lanes.proofs.hall.retire_all.Given as goal

abbrev pub invariant-loop-slot : goal.invariant-loop-slot
invariant-loop-slot g l = Unit {0}

abbrev pub decreases-loop-slot : goal.decreases-loop-slot
decreases-loop-slot g l = length l.slots.items
