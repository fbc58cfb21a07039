use Rattle.wb_bits.proofs.bit_set.BitSet.+insert.Given as goal

abbrev pub decreases-insert : goal.decreases-insert
decreases-insert l = goal.size-insert l
