-- Which places of the metadata device the images use, and where the nodes of the tree are known to stand.
use Rattle.std.specs.Prelude.{◌≡◌, ◌≤◌, ◌+◌, ℕ, Bool, true, false, if◌then◌else◌, List, length, map, take, Contains}
use Rattle.wb_types.specs.Limits.{HasRoom, depth_of, dirty_nodes, most_nodes}
use Rattle.wb_types.specs.declared.geometry.Geometry.{Geometry}
use Rattle.wb_types.specs.declared.number.Place.{Place}
use Rattle.wb_tree.specs.Mapping.{Mapping, IsPlaceOf, AreInside, changed}
use Rattle.wb_space.specs.Places.{PlacesInUse, free_places, noted, place, place_count, unused}

-- how many places an image takes at most: one for each node of its tree that changed, and for a clean one one for each that dirty bits
-- can have
abbrev pub places_wanted : Mapping → Geometry → Bool → ℕ
places_wanted m geometry clean = length (changed m (depth_of geometry.cache_blocks)) + (if clean then dirty_nodes geometry.version geometry.cache_blocks else 0)

-- so many of the free places, the least ones
abbrev pub places_for : Mapping → Geometry → Bool → PlacesInUse → List Place
places_for m geometry clean places = map place (take (places_wanted m geometry clean) (free_places places))

-- The places that an image of so many nodes uses are flagged, and no others: as many at most as a clean image of this geometry can
-- have nodes.
pub record AreFlagged (geometry : Geometry) (nodes : ℕ) (flags : List Bool) : Type 0 where
  pub used : List Place
  pub are : flags ≡ noted used (unused (place_count geometry))
  pub many : length used ≡ nodes
  pub few : nodes ≤ most_nodes geometry.version true geometry.cache_blocks

-- What holds of the places of a desk, whose committed image has so many nodes, and the one that a commit writes so many.
pub record PlacesInvariant (geometry : Geometry) (tree : Mapping) (places : PlacesInUse) (committing : Bool) (nodes coming : ℕ) : Type 0 where
  -- behind the slots there is room for two mappings, and the dirty bits of one image
  pub room : HasRoom geometry.version geometry.cache_blocks geometry.meta_sectors
  -- the known nodes of the tree stand on the device, behind the slots
  pub inside : AreInside geometry.meta_sectors tree
  pub committed : AreFlagged geometry nodes places.committed
  pub running : AreFlagged geometry coming places.running
  -- each stands at a place of the newest image
  pub known : (place : Place) → IsPlaceOf tree place → Contains (if committing then running.used else committed.used) place
  -- where no commit runs none has an image
  pub idle : committing ≡ false → coming ≡ 0
