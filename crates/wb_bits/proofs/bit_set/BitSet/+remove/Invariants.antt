use Rattle.wb_bits.proofs.bit_set.BitSet.+remove.Given as goal

abbrev pub decreases-remove : goal.decreases-remove
decreases-remove l = goal.size-remove l
