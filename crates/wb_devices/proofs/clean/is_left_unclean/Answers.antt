use Rattle.std.proofs.Common.{arith}
use Rattle.wb_devices.proofs.BitEntries.{length-with_bits}
use Rattle.wb_devices.proofs.clean.is_left_unclean.Goals as goal

pub returns-clause-clean : goal.returns-clause-clean
returns-clause-clean c = (
  c.loop-c.invariant.flag,
  λ block below. c.loop-c.invariant.before block (omega (arith, below, length-with_bits c.args.state.now.dirty c.args.state.now.tree.entries, c.requires.size, c.loop-c-test.false)),
)
