-- What an opening finds and counts.
use Rattle.std.specs.Prelude.{◌≡◌, ◌<◌, ◌≤◌, ◌^◌, ℕ, Bool, true, false, List, Option, Some, None, IfSome, is_some, count_by}
use Rattle.wb_types.specs.declared.entry.Entry.{Entry}
use Rattle.wb_types.specs.declared.number.Place.{Place}
use Rattle.wb_types.specs.declared.geometry.Geometry.{Geometry}
use Rattle.wb_table.specs.declared.table.Keys.{Keys}
use Rattle.wb_disk.specs.Device.{Content}
use Rattle.wb_format.specs.declared.root.Root.{Root}
use Rattle.wb_tree.specs.Mapping.{Mapping}
use Rattle.wb_dirty.specs.ImageReading.{with_bits}
use Rattle.wb_meta.specs.States.{RepresentsState}
use Rattle.wb_meta.specs.Sizes.{AreSameSizes}

-- Sectors with these contents represent a root of the sizes of this geometry, of this generation and clean flag, and a tree with these entries, each with the dirty
-- bit that stands beside the tree, where there is one.
pub record IsFound (sectors : List Content) (geometry : Geometry) (generation : ℕ) (clean : Bool) (entries : List (Option Entry)) : Type 0 where
  pub root : Root
  pub tree : Mapping
  pub dirty : Option (List Bool)
  pub used : List Place
  pub represents : RepresentsState sectors root tree dirty used
  pub sizes : AreSameSizes root.geometry geometry
  pub generation_is : root.generation ≡ generation
  pub clean_is : root.clean ≡ clean
  pub entries_are : with_bits dirty tree.entries ≡ entries

-- a mapped block counts as dirty where its entry says so, and without the clean flag in any case
abbrev pub counts_as_dirty : (clean : Bool) → Option Entry → Bool
counts_as_dirty clean None = false
counts_as_dirty true (Some entry) = entry.dirty
counts_as_dirty false (Some entry) = true

-- so many blocks are mapped, and so many of them count as dirty
pub record AreCounted (clean : Bool) (entries : List (Option Entry)) (mapped dirty : ℕ) : Type 0 where
  pub mapped_is : mapped ≡ count_by is_some entries
  pub dirty_is : dirty ≡ count_by (counts_as_dirty clean) entries

-- each key that is given has a value that it can have
pub record AreInRange (keys : Keys) : Type 0 where
  pub threshold : IfSome keys.migration_threshold (λ value. value < 2 ^ 32)
  pub least : IfSome keys.promote_min (λ value. (1 ≤ value) × (value ≤ 17))
