-- What formatting leaves.
use Rattle.std.specs.Prelude.{◌≡◌, ◌≤◌, true, None, List}
use Rattle.wb_types.specs.declared.geometry.Geometry.{Geometry}
use Rattle.wb_disk.specs.Device.{History, ReadGives}
use Rattle.wb_format.specs.declared.root.Root.{Root}
use Rattle.wb_tree.specs.Reading.{nothing_found}
use Rattle.wb_disk.specs.Crashes.{AfterEveryCrash}
use Rattle.wb_meta.specs.Commits.{Newest}
use Rattle.wb_meta.specs.Representing.{Represents, alone}

-- the root of the empty mapping, clean, in generation 0
pub record IsFirstRoot (geometry : Geometry) (root : Root) : Type 0 where
  pub generation : root.generation ≡ 0
  pub clean : root.clean ≡ true
  pub geometry_is : root.geometry ≡ geometry
  pub top : root.top ≡ None
  pub top_dirty : root.top_dirty ≡ None

-- a device represents the empty mapping, clean, in generation 0, whatever a crash leaves of it
pub record IsFormatted (geometry : Geometry) (device : List History) : Type 0 where
  pub root : Root
  pub first : IsFirstRoot geometry root
  pub represents : AfterEveryCrash (λ sectors. Represents sectors root (alone (nothing_found root))) device

-- behind the slots a read gives what it gave before
abbrev pub SlotsAlone : List History → List History → Type 0
SlotsAlone old new = Newest (λ at content. 2 ≤ at → ReadGives old at content) new
