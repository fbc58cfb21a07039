-- A disk in memory, as its callers see it.
use Rattle.std.specs.Prelude.{◌≡◌, ◌<◌, ◌+◌, ℕ, Bool, List, [], map, length, replicate, take, slice_index, slice_set}
use Rattle.wb_disk.specs.Device.{Content, History}
use Rattle.wb_disk.specs.Extents.{Call, Reading, Writing, Syncing, written_each}

-- what it holds, how often it has failed (modulo 2^64), and of each sector how many writes since the last sync there is memory for
pub record Memory : Type 0 where
  pub contents : List History
  pub faults : ℕ
  pub capacity : List ℕ

-- a sector that was never written
abbrev pub blank : History
blank = record { first = replicate 512 0; later = [] }

-- a new disk of so many sectors
abbrev pub zero_disk : ℕ → Memory
zero_disk sectors = record { contents = replicate sectors blank; faults = 0; capacity = replicate sectors 0 }

-- how many writes since the last sync are kept of a sector
abbrev pub later_count : History → ℕ
later_count h = length h.later

-- the next write of this sector needs no memory
abbrev pub HasRoom : Memory → ℕ → Type 0
HasRoom disk at = slice_index (map later_count disk.contents) at < slice_index disk.capacity at

-- a write of so many sectors from this one on needs no memory
abbrev pub HasRoomFor : Memory → ℕ → ℕ → Type 0
HasRoomFor disk first count = (i : ℕ) → i < count → HasRoom disk (first + i)

-- the first contents of an extent are written, and not all
abbrev pub FrontWritten : List History → ℕ → List Content → List History → Type 0
FrontWritten old first contents new = (n : ℕ) × (n < length contents) × (new ≡ written_each old first (take n contents))

-- two lists of numbers differ at this place alone, if at all
abbrev pub DiffersOnlyAt : ℕ → List ℕ → List ℕ → Type 0
DiffersOnlyAt at old new = new ≡ slice_set old at (slice_index new at)

-- a disk in memory fails where a write has not all its room, and then lands as it may: on any sectors
abbrev pub memory_falters : Memory → Call → (ℕ → Bool) → Type 0
memory_falters disk Reading lands = ⊥
memory_falters disk (Writing first count) lands = ¬ HasRoomFor disk first count
memory_falters disk Syncing lands = ⊥
