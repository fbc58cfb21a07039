use Rattle.std.proofs.Common.{◌*◌}
use Rattle.wb_dirty.proofs.PlanBits.{AreWordsTo}
use Rattle.wb_dirty.proofs.planning.bits_of_leaf.Given as goal

abbrev pub invariant-loop-j : goal.invariant-loop-j
invariant-loop-j l = AreWordsTo l.dirty (2048 * l.index) l.words l.j
