-- When a block of the cache is the same as its block of the origin.
use Rattle.std.specs.Prelude.{◌≡◌, ◌<◌, ℕ, Bool, false, List, Option, Some, None, length, slice_index_or}
use Rattle.wb_types.specs.declared.entry.Entry.{Entry}
use Rattle.wb_disk.specs.Device.{History}
use Rattle.wb_checks.specs.Samples.{IsSameOnBoth}
use Rattle.wbmeta.specs.Counted.{counts_as_dirty}

-- a cache block that is mapped and does not count as dirty holds the same as its block of the origin
abbrev pub IsHome : List History → List History → ℕ → Bool → ℕ → Option Entry → Type 0
IsHome cache origin block clean c None = Unit {0}
IsHome cache origin block clean c (Some entry) = counts_as_dirty clean (Some entry) ≡ false → IsSameOnBoth cache origin block (record { cache = record { 0 = c }; origin = entry.origin })

-- each cache block does
abbrev pub AreAllHome : List History → List History → ℕ → Bool → List (Option Entry) → Type 0
AreAllHome cache origin block clean entries = (c : ℕ) → c < length entries → IsHome cache origin block clean c (slice_index_or entries c None)
