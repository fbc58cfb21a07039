-- Which metadata places the images use.
use Rattle.std.specs.Prelude.{◌≡◌, ◌+◌, ◌*◌, ◌-◌, ℕ, Option, Some, None, List, [], ◌∷◌, Bool, true, false, not, ◌&&◌, filter, length, get_or, slice_set, replicate}
use Rattle.std.specs.List.{range_with_len}
use Rattle.wb_types.specs.Limits.{node_count, dirty_nodes}
use Rattle.wb_types.specs.declared.geometry.Geometry.{Geometry}
use Rattle.wb_types.specs.declared.number.Place.{Place}

-- the places that the committed and the running image use, each list by place
pub record PlacesInUse : Type 0 where
  pub committed : List Bool
  pub running : List Bool

-- no place
abbrev pub unused : ℕ → List Bool
unused count = replicate count false

-- with these places, as far as the list goes
abbrev pub noted : List Place → List Bool → List Bool
noted [] uses = uses
noted (p ∷ ps) uses = noted ps (slice_set uses p.0 true)

-- without the places of the first list
abbrev pub without : List Bool → List Bool → List Bool
without [] uses = uses
without (l ∷ left) [] = []
without (l ∷ left) (u ∷ uses) = (u && not l) ∷ without left uses

-- and without these
abbrev pub cleared_places : List Place → List Bool → List Bool
cleared_places [] uses = uses
cleared_places (p ∷ ps) uses = cleared_places ps (slice_set uses p.0 false)

-- with the places that are told of these, as far as the list goes
abbrev pub noted_known : List (Option Place) → List Bool → List Bool
noted_known [] uses = uses
noted_known (None ∷ ps) uses = noted_known ps uses
noted_known (Some p ∷ ps) uses = noted_known ps (slice_set uses p.0 true)

-- the places in use, and whether a commit runs
pub record PlacesNow : Type 0 where
  pub in_use : PlacesInUse
  pub committing : Bool

-- the running image has other places
abbrev pub with_running : PlacesNow → List Bool → PlacesNow
with_running places running = record places { in_use = record places.in_use { running = running } }

-- no image uses it
abbrev pub is_free_place : PlacesInUse → ℕ → Bool
is_free_place places at = not (get_or places.committed at false) && not (get_or places.running at false)

-- the free places, rising: 0 and 1 are the root slots
abbrev pub free_places : PlacesInUse → List ℕ
free_places places = filter (is_free_place places) (range_with_len 2 (length places.committed - 2))

-- the place of this number
abbrev pub place : ℕ → Place
place at = record { 0 = at }

-- Of the places of an image those have left at which nothing stands any more, where it is said what stands at a place.
pub record HaveLeft (Stands : Place → Type 0) (image left : List Bool) : Type 0 where
  pub size : length left ≡ length image
  pub stands : (place : Place) → Stands place → get_or left place.0 false ≡ false
  pub rest : (at : ℕ) → get_or image at false ≡ true → get_or left at false ≡ false → Stands (place at)

-- the places that can ever be handed out: behind the root slots, room for two mappings of all nodes, and for the dirty bits of one image
abbrev pub place_count : Geometry → ℕ
place_count g = 2 + 2 * node_count g.cache_blocks + dirty_nodes g.version g.cache_blocks
