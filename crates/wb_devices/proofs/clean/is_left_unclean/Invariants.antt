use Rattle.std.proofs.Common.{◌≡◌, ◌<◌, ℕ, true, false}
use Rattle.std.specs.Prelude.{None, slice_index_or}
use Rattle.wb_devices.specs.Clean.{entries_of}
use Rattle.wb_meta.specs.Conversions.{is_mapped_dirty}
use Rattle.wb_devices.proofs.clean.is_left_unclean.Given as goal

abbrev pub invariant-loop-c : goal.invariant-loop-c
invariant-loop-c l = record {
  flag : l.state.root.clean ≡ true;
  before : (block : ℕ) → block < l.c → is_mapped_dirty (slice_index_or (entries_of l.state) block None) ≡ false;
}
