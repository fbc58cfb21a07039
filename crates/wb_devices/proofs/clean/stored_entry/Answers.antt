use Rattle.std.proofs.Common.{◌∙◌, Bool, false, List, Option, None, get_or, sym, ap}
use Rattle.std.specs.Prelude.{slice_index_or}
use Rattle.wb_types.specs.declared.entry.Entry.{Entry}
use Rattle.wb_dirty.specs.ImageReading.{entry_with, with_bits}
use Rattle.wb_devices.proofs.BitEntries.{entry-with_bits}
use Rattle.wb_devices.proofs.clean.stored_entry.Goals as goal

pub returns-in-Some : goal.returns-in-Some
returns-in-Some c =
    let entries = c.args.state.now.tree.entries in
    let bits = c.in-Some.bits in
    let made : Option (List Bool) → Option Entry = λ read. slice_index_or (with_bits read entries) c.args.block.0 None in
    c.entry_with_bit.ensures
    ∙ (ap (λ (bit : Bool). entry_with bit c.get-entry.result) c.has.ensures
    ∙ (ap (λ (entry : Option Entry). entry_with (get_or bits c.args.block.0 false) entry) c.get-entry.ensures.entry
    ∙ (sym (entry-with_bits bits entries c.args.block.0) ∙ ap made (sym c.in-Some.is))))
