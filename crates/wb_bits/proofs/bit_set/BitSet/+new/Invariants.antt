use Rattle.wb_bits.proofs.bit_set.BitSet.+new.Given as goal

abbrev pub decreases-new : goal.decreases-new
decreases-new l = l.bound
