-- How calls that write leave a cache.
use Rattle.std.specs.Prelude.{◌≡◌, ◌⊎◌, ℕ, true, List, Option, count_by, is_some}
use Rattle.wb_types.specs.declared.entry.Entry.{Entry}
use Rattle.wb_types.specs.declared.geometry.Geometry.{Geometry}
use Rattle.wb_types.specs.declared.mode.Dev.{Dev}
use Rattle.wb_types.specs.declared.refusal.Refusal.{Refusal}
use Rattle.wb_types.specs.declared.refusal.Refusal.TheVariants.{Io, Failed}
use Rattle.wb_disk.specs.Device.{Content}
use Rattle.wbmeta.specs.declared.ending.Aim.{Aim}
use Rattle.wbmeta.specs.declared.ending.Aim.TheVariants.{Empty}
use Rattle.wbmeta.specs.declared.found.Counted.{Counted}
use Rattle.wbmeta.specs.Counted.{IsFound, counts_as_dirty}

-- Sectors with these contents represent a cache of these sizes that was left clean, of which no block counts as dirty; and where it was to be emptied no
-- block is mapped.
pub record IsLeftAs (aim : Aim) (sectors : List Content) (geometry : Geometry) : Type 0 where
  pub generation : ℕ
  pub entries : List (Option Entry)
  pub found : IsFound sectors geometry generation true entries
  pub home : count_by (counts_as_dirty true) entries ≡ 0
  pub empty : aim ≡ Empty → count_by is_some entries ≡ 0

-- what was counted is so: clean, no dirty block, and no mapped one where the cache was to be emptied
pub record IsReached (aim : Aim) (counted : Counted) : Type 0 where
  pub clean : counted.clean ≡ true
  pub home : counted.dirty ≡ 0
  pub empty : aim ≡ Empty → counted.mapped ≡ 0

-- a device, or the target, failed
abbrev pub IsDeviceFailure : Refusal → Type 0
IsDeviceFailure refusal = ((device : Dev) × (refusal ≡ Io device)) ⊎ (refusal ≡ Failed)
