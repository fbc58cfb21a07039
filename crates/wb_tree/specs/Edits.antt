-- What edits of a tree leave of it.
use Rattle.std.specs.Prelude.{◌≡◌, ◌↔◌, ◌≤◌, ◌<◌, ℕ, Option, Some, None, List, slice_index_or, slice_set, Contains}
use Rattle.wb_types.specs.declared.entry.Entry.{Entry}
use Rattle.wb_types.specs.declared.number.Place.{Place}
use Rattle.wb_tree.specs.Mapping.{Mapping, IsMapping, IsSound, IsPlaceOf, IsOnPath, Forgets, place_of, places_above}
use Rattle.wb_tree.specs.Images.{Stores, word_at}

-- Edits of one entry each, one after the other and any number of them, lead from the one tree to the other: a node that
-- is known after them was known before, where it stands, and has the words that it had.
pub record IsEdited (old new : Mapping) : Type 0 where
  pub stays : (level index : ℕ) (place : Place) → place_of new level index ≡ Some place → place_of old level index ≡ Some place
  pub words : (level index j : ℕ) (place : Place) → place_of new level index ≡ Some place → j < 32
      → word_at old level index j ≡ word_at new level index j

-- The entry of one cache block came or went: the nodes above it count as changed, and the others stand where they stood.
pub record IsChangedAt (old new : Mapping) (c : ℕ) (entry : Option Entry) : Type 0 where
  pub entries : new.entries ≡ slice_set old.entries c entry
  pub forgets : Forgets old new c
  pub others : (level index : ℕ) → (IsOnPath c level index → ⊥) → place_of new level index ≡ place_of old level index
  pub edited : IsEdited old new
  pub sound : IsSound new

-- An entry may come into a mapping at a cache block: its origin block is there, its hint is 16 at most, and no other
-- cache block has that origin block.
pub record MayEnter (origin_blocks : ℕ) (entries : List (Option Entry)) (block : ℕ) (entry : Entry) : Type 0 where
  pub origin : entry.origin.0 < origin_blocks
  pub hint : entry.hint ≤ 16
  pub alone : (other : ℕ) (same : Entry) → slice_index_or entries other None ≡ Some same → same.origin ≡ entry.origin → other ≡ block

-- ---- laws

-- one edit, after which no node above its cache block is known, and what is known is as before
abbrev pub OneEdit : Type 0
OneEdit = (old new : Mapping) (block : ℕ) (entry : Option Entry) → IsSound old → IsSound new
    → new.entries ≡ slice_set old.entries block entry → Forgets old new block → IsEdited old new

-- no edit, and edits after edits, are edits
abbrev pub EditsFollow : Type 0
EditsFollow = ((m : Mapping) → IsEdited m m) × ((a b c : Mapping) → IsEdited a b → IsEdited b c → IsEdited a c)

-- sectors that stored the tree before edits store it after them
abbrev pub EditsAreStored : Type 0
EditsAreStored = (old new : Mapping) (sectors : List (List ℕ)) (generation : ℕ) → IsEdited old new
    → Stores sectors old generation → Stores sectors new generation

-- after edits nodes stand at no place at which none stood
abbrev pub EditsTakeNoPlace : Type 0
EditsTakeNoPlace = (old new : Mapping) (place : Place) → IsEdited old new → IsPlaceOf new place → IsPlaceOf old place

-- after a change of the entry of a cache block nodes stand where they stood, but for those above it
abbrev pub LeavesAbove : Type 0
LeavesAbove = (old new : Mapping) (block : ℕ) → IsSound old → Forgets old new block
    → ((level index : ℕ) → (IsOnPath block level index → ⊥) → place_of new level index ≡ place_of old level index)
    → (place : Place) → IsPlaceOf new place ↔ (IsPlaceOf old place × (Contains (places_above old block) (Some place) → ⊥))

-- a mapping with one entry more, which may come in there, is one
abbrev pub SetIsMapping : Type 0
SetIsMapping = (cache_blocks origin_blocks block : ℕ) (entries : List (Option Entry)) (entry : Entry)
    → IsMapping cache_blocks origin_blocks entries → MayEnter origin_blocks entries block entry
    → IsMapping cache_blocks origin_blocks (slice_set entries block (Some entry))

-- and so is one with an entry less
abbrev pub ClearIsMapping : Type 0
ClearIsMapping = (cache_blocks origin_blocks block : ℕ) (entries : List (Option Entry))
    → IsMapping cache_blocks origin_blocks entries → IsMapping cache_blocks origin_blocks (slice_set entries block None)
