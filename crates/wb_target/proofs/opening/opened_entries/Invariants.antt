use Rattle.std.proofs.Common.{◌≡◌, ◌<◌, ℕ, None, length, get_or}
use Rattle.wb_devices.specs.Clean.{entries_of}
use Rattle.wb_target.specs.Opening.{opened_entry}
use Rattle.wb_target.proofs.opening.opened_entries.Given as goal

abbrev pub invariant-loop-c : goal.invariant-loop-c
invariant-loop-c l = record {
  size : length l.entries.items ≡ l.state.root.geometry.cache_blocks;
  before : (k : ℕ) → k < l.c → get_or l.entries.items k None ≡ opened_entry l.clean (get_or (entries_of l.state) k None);
}
