use Rattle.wb_space.proofs.States.{Opened}
use Rattle.wb_space.proofs.blocks.Blocks.free_unmapped.Given as goal

abbrev pub invariant-loop-c : goal.invariant-loop-c
invariant-loop-c l = Opened l.mapped l.self l.c
