use Rattle.std.proofs.Common.{arith}
use Rattle.wb_devices.specs.Clean.{entries_of}
use Rattle.wb_devices.proofs.BitEntries.{length-with_bits}
use Rattle.wb_target.proofs.Hinting.{opened_list}
use Rattle.wb_target.proofs.opening.opened_entries.Goals as goal

pub returns-clause-entries : goal.returns-clause-entries
returns-clause-entries c = opened_list c.args.clean (entries_of c.args.state.now) c.loop-c.entries.items
    (omega (arith, c.loop-c.invariant.size, c.requires, length-with_bits c.args.state.now.dirty c.args.state.now.tree.entries))
    (λ k l. c.loop-c.invariant.before k (omega (arith, l, c.loop-c.invariant.size, c.loop-c-test.false)))
