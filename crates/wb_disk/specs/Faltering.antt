-- How a disk that fails by a choice fails.
use Rattle.std.specs.Prelude.{◌≡◌, ℕ, Bool}
use Rattle.wb_types.specs.declared.mode.Dev.{Dev}
use Rattle.wb_disk.specs.Extents.{Call, Reading, Writing, Syncing}
use Rattle.wb_disk.specs.Crash.{Choice}
use Rattle.wb_disk.specs.Failing.{lands}
use Rattle.wb_disk.specs.Memory.{Memory, HasRoomFor}

-- It lands on the sectors that the choice names, a write where there is room for all of it.
abbrev pub falters_as : Memory → Dev → Choice → Call → (ℕ → Bool) → Type 0
falters_as disk device choice Reading landed = Unit {0}
falters_as disk device choice (Writing first count) landed = HasRoomFor disk first count → landed ≡ lands device choice
falters_as disk device choice Syncing landed = landed ≡ lands device choice
