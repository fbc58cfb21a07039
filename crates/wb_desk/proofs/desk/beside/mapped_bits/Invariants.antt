use Rattle.wb_desk.proofs.Beside.{AreBitsTo}
use Rattle.wb_desk.proofs.desk.beside.mapped_bits.Given as goal

abbrev pub invariant-loop-c : goal.invariant-loop-c
invariant-loop-c l = AreBitsTo l.dirty l.tree.entries l.geometry.cache_blocks l.c l.bits
