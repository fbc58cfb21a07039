-- Trees that are changed and planned by the simplest calls.
use Rattle.std.specs.Prelude.{◌≡◌, ◌≤◌, ℕ, Option, Some, None, List, length, slice_index_or}
use Rattle.wb_types.specs.declared.entry.Entry.{Entry}
use Rattle.wb_types.specs.declared.geometry.Geometry.{Geometry}
use Rattle.wb_tree.specs.Mapping.{Mapping, AreInside}

-- each entry is for the origin block of its own number, with a hint that a word can spell
abbrev pub AreOwn : List (Option Entry) → Type 0
AreOwn entries = (block : ℕ) (entry : Entry) → slice_index_or entries block None ≡ Some entry → (entry.origin.0 ≡ block) × (entry.hint ≤ 16)

-- such a tree of a geometry, and where its next image goes
pub record IsTrial (geometry : Geometry) (tree : Mapping) (next : ℕ) : Type 0 where
  pub origin : geometry.cache_blocks ≤ geometry.origin_blocks
  pub size : length tree.entries ≡ geometry.cache_blocks
  pub own : AreOwn tree.entries
  pub inside : AreInside geometry.meta_sectors tree
  pub behind : 2 ≤ next
