use Rattle.wb_dirty.proofs.TakenBits.{IsTaken}
use Rattle.wb_dirty.proofs.bits.take_bits.Given as goal

abbrev pub invariant-loop-k : goal.invariant-loop-k
invariant-loop-k l = IsTaken l.mapped l.leaf l.words l.fn.dirty l.dirty l.k
