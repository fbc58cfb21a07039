-- What a tree is to its callers, whatever holds it: the entries of the cache blocks, and which nodes are known to
-- stand where. A node that is not known was changed since the last image.
use Rattle.std.specs.Prelude.{◌≡◌, ◌≤◌, ◌<◌, ◌+◌, ◌*◌, ◌/◌, ◌^◌, ◌&&◌, ◌==◌, ℕ, zero, suc, Bool, true, if◌then◌else◌, Option, Some, None, IsSome, is_some, List, [], ◌∷◌, ◌++◌, length, map, take, drop, replicate, slice_index_or}
use Rattle.std.specs.List.{list_any}
use Rattle.wb_types.specs.declared.entry.Entry.{Entry}
use Rattle.wb_types.specs.declared.number.Place.{Place}
use Rattle.wb_types.specs.Limits.{depth_of}
use Rattle.wb_tree.specs.declared.placed.PlacedNode.{PlacedNode}

pub record Mapping : Type 0 where
  pub entries : List (Option Entry)
  pub known : List PlacedNode

-- the mapping in which none of so many cache blocks is mapped
abbrev pub empty_mapping : ℕ → Mapping
empty_mapping cache_blocks = record { entries = replicate cache_blocks None; known = [] }

-- the entry of a cache block
abbrev pub entry_at : Mapping → ℕ → Option Entry
entry_at m block = slice_index_or m.entries block None

-- where a node is known to stand; level 1 are the leaves
abbrev pub place_in : List PlacedNode → ℕ → ℕ → Option Place
place_in [] level index = None
place_in (node ∷ nodes) level index = if (node.level == level) && (node.index == index) then Some node.place else place_in nodes level index

abbrev pub place_of : Mapping → ℕ → ℕ → Option Place
place_of m level index = place_in m.known level index

-- the places at which the known nodes of a tree stand
abbrev pub used_places : Mapping → List Place
used_places m = map (λ node. node.place) m.known

-- where the nodes above a cache block are known to stand, from the leaf up; a tree has four levels at most
abbrev pub places_above : Mapping → ℕ → List (Option Place)
places_above m block =
    place_of m 1 (block / 32 ^ 1) ∷ place_of m 2 (block / 32 ^ 2) ∷ place_of m 3 (block / 32 ^ 3) ∷ place_of m 4 (block / 32 ^ 4) ∷ []

-- a node exists exactly where an entry lies below it
unfoldable pub exists : List (Option Entry) → ℕ → ℕ → Bool
exists entries level index = list_any is_some (take (32 ^ level) (drop (index * 32 ^ level) entries))

-- a node has this cache block below it
abbrev pub IsOnPath : ℕ → ℕ → ℕ → Type 0
IsOnPath block level index = block / 32 ^ level ≡ index

-- a node stands at this place
pub record IsPlaceOf (m : Mapping) (place : Place) : Type 0 where
  pub level : ℕ
  pub index : ℕ
  pub known : place_of m level index ≡ Some place

-- all nodes stand at places of a device of so many sectors, behind the slots
abbrev pub AreInside : ℕ → Mapping → Type 0
AreInside meta_sectors m = (place : Place) → IsPlaceOf m place → (2 ≤ place.0) × (place.0 < meta_sectors)

-- what holds of every tree
pub record IsSound (m : Mapping) : Type 0 where
  -- a node that is known is of a level of the tree
  pub known_level : (level index : ℕ) (place : Place) → place_of m level index ≡ Some place → (1 ≤ level) × (level ≤ depth_of (length m.entries))
  -- a node that is known exists
  pub known_exist : (level index : ℕ) (place : Place) → place_of m level index ≡ Some place → exists m.entries level index ≡ true
  -- below a node that is known every child that exists is known
  pub known_below : (level index child : ℕ) (place : Place) → 1 ≤ level → place_of m (level + 1) index ≡ Some place → child / 32 ≡ index
      → exists m.entries level child ≡ true → IsSome (place_of m level child)
  -- no place is known for two nodes
  pub apart : (level index level' index' : ℕ) (place : Place) → place_of m level index ≡ Some place → place_of m level' index' ≡ Some place
      → (level ≡ level') × (index ≡ index')

-- what a change of the entry of a cache block may do to what is known
pub record Forgets (old new : Mapping) (block : ℕ) : Type 0 where
  -- what is known was known before
  pub stays : (level index : ℕ) (place : Place) → place_of new level index ≡ Some place → place_of old level index ≡ Some place
  -- no node above the cache block is known
  pub path : (level index : ℕ) → 1 ≤ level → IsOnPath block level index → place_of new level index ≡ None

-- a list for each of so many numbers from one on, one after the other
unfoldable pub each_from : {X : Type 0} → (ℕ → List X) → ℕ → ℕ → List X
each_from f zero first = []
each_from f (suc count) first = f first ++ each_from f count (first + 1)

-- a node, by its level and its index in that level
pub record NodeName : Type 0 where
  pub level : ℕ
  pub index : ℕ

-- the nodes at and below a node in the order of an image: children rising, each before its parent
unfoldable pub nodes_below : List (Option Entry) → ℕ → ℕ → List NodeName
nodes_below entries zero index = []
nodes_below entries (suc level) index =
    if exists entries (suc level) index
    then each_from (nodes_below entries level) 32 (32 * index) ++ record { level = suc level; index = index } ∷ []
    else []

-- all nodes of a tree of so many levels
abbrev pub nodes_of : List (Option Entry) → ℕ → List NodeName
nodes_of entries depth = nodes_below entries depth 0

-- those of these nodes that are not known
abbrev pub changed_of : Mapping → List NodeName → List NodeName
changed_of m [] = []
changed_of m (node ∷ nodes) = if is_some (place_of m node.level node.index) then changed_of m nodes else node ∷ changed_of m nodes

-- the nodes that changed since the last image, in the order of an image
abbrev pub changed : Mapping → ℕ → List NodeName
changed m depth = changed_of m (nodes_of m.entries depth)

-- a mapping of this geometry: no origin block stands in two entries, each is below the origin's number, and hints
-- are at most 16
pub record IsMapping (cache_blocks origin_blocks : ℕ) (entries : List (Option Entry)) : Type 0 where
  pub size : length entries ≡ cache_blocks
  pub within : (block : ℕ) (entry : Entry) → slice_index_or entries block None ≡ Some entry → (entry.origin.0 < origin_blocks) × (entry.hint ≤ 16)
  pub once : (block other : ℕ) (entry same : Entry) → slice_index_or entries block None ≡ Some entry → slice_index_or entries other None ≡ Some same
      → entry.origin ≡ same.origin → block ≡ other
