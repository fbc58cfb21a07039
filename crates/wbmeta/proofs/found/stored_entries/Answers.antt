use Rattle.std.proofs.Common.{None, arith}
use Rattle.std.proofs.lemmas.List.{ext_get_or}
use Rattle.wb_devices.specs.Clean.{entries_of}
use Rattle.wb_devices.proofs.BitEntries.{length-with_bits}
use Rattle.wbmeta.proofs.found.stored_entries.Goals as goal

pub returns : goal.returns
returns c = ext_get_or None c.loop-c.entries.items (entries_of c.args.state.now) (omega (arith, c.loop-c.invariant.size, c.requires, length-with_bits c.args.state.now.dirty c.args.state.now.tree.entries))
    (λ k l. c.loop-c.invariant.before k (omega (arith, l, c.loop-c.invariant.size, c.loop-c-test.false)))
