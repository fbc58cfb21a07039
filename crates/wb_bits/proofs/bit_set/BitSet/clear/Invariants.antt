use Rattle.std.proofs.Common.{◌≡◌, length}
use Rattle.wb_bits.proofs.Chosen.{chosen}
use Rattle.wb_bits.proofs.bit_set.BitSet.clear.Given as goal

abbrev pub invariant-loop-i : goal.invariant-loop-i
invariant-loop-i l = length l.self ≡ length l.initial.self

abbrev pub decreases-loop-i : goal.decreases-loop-i
decreases-loop-i l = chosen (λ b. b) l.self
