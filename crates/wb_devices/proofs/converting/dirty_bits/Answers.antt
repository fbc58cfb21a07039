use Rattle.std.proofs.Common.{arith}
use Rattle.wb_devices.proofs.Anew.{all_bits}
use Rattle.wb_devices.proofs.converting.dirty_bits.Goals as goal

pub returns-clause-bits : goal.returns-clause-bits
returns-clause-bits g c = all_bits c.args.tree.now.entries c.loop-block.block c.loop-block.bits (omega (arith, c.requires.size, c.loop-block-test.false)) c.loop-block.invariant
