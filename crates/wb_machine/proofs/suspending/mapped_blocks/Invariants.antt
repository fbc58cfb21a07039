use Rattle.wb_machine.proofs.Mapped.{AreListed}
use Rattle.wb_machine.proofs.suspending.mapped_blocks.Given as goal

-- the blocks of the cache blocks that were looked at
abbrev pub invariant-loop-c : goal.invariant-loop-c
invariant-loop-c g l = AreListed l.desk.tree.entries l.c l.blocks.items
