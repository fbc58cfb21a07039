use Rattle.std.proofs.Common.{arith}
use Rattle.wb_space.proofs.States.{opened_all}
use Rattle.wb_space.proofs.blocks.Blocks.free_unmapped.Goals as goal

pub returns : goal.returns
returns c = opened_all c.args.mapped.now c.loop-c.self c.loop-c.c (omega arith) c.loop-c.invariant
