use Rattle.std.proofs.Common.{arith}
use Rattle.wb_desk.proofs.Beside.{all_bits}
use Rattle.wb_desk.proofs.desk.beside.mapped_bits.Goals as goal

pub returns-clause-bits : goal.returns-clause-bits
returns-clause-bits c = all_bits c.args.dirty.now c.args.tree.now.entries c.args.geometry.now.cache_blocks c.loop-c.c c.loop-c.bits c.requires.size (omega (arith, c.loop-c-test.false)) c.loop-c.invariant
