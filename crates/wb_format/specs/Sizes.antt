-- The sizes, the version and the top nodes in a root.
use Rattle.std.specs.Prelude.{◌≡◌, ◌≤◌, ◌<◌, ℕ, Bool, true, List, Option, Some, None}
use Rattle.wb_types.specs.declared.geometry.Geometry.{Geometry}
use Rattle.wb_types.specs.Versions.{version_number}
use Rattle.wb_types.specs.declared.version.Version.{Version}
use Rattle.wb_types.specs.declared.version.Version.TheVariants.{Two}
use Rattle.wb_types.specs.declared.number.Place.{Place}
use Rattle.wb_format.specs.Bytes.{number_at}

-- where a top node may stand on a device of so many sectors: in none of the two slots
abbrev pub IsTop : ℕ → Option Place → Type 0
IsTop meta_sectors top = (place : Place) → top ≡ Some place → (2 ≤ place.0) × (place.0 < meta_sectors)

-- a root may name a tree of dirty bits: one of the second version with the clean flag
abbrev pub MayNameDirty : Version → Bool → Option Place → Type 0
MayNameDirty version clean top_dirty = (place : Place) → top_dirty ≡ Some place → (version_number version ≡ version_number Two) × (clean ≡ true)

-- the place of a top node, 0 where there is none
abbrev pub top_number : Option Place → ℕ
top_number None = 0
top_number (Some place) = place.0

-- the sizes in a root, and the version
pub record SpellsGeometry (sector : List ℕ) (geometry : Geometry) : Type 0 where
  pub block : number_at sector 24 4 ≡ geometry.block
  pub cache_blocks : number_at sector 28 4 ≡ geometry.cache_blocks
  pub origin_blocks : number_at sector 32 4 ≡ geometry.origin_blocks
  pub meta_sectors : number_at sector 36 4 ≡ geometry.meta_sectors
  pub version : number_at sector 16 4 ≡ version_number geometry.version
