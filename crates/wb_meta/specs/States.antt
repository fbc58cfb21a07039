-- What is read of sectors, and why nothing is read of others.
use Rattle.std.specs.Prelude.{◌≡◌, ◌≢◌, ℕ, Bool, Option, Some, Err, List, length, map, slice_get}
use Rattle.wb_types.specs.declared.number.Place.{Place}
use Rattle.wb_types.specs.declared.refusal.Refusal.{Refusal}
use Rattle.wb_types.specs.declared.refusal.Refusal.TheVariants.{Io, Memory, NotFormatted, Mismatch, Damaged}
use Rattle.wb_types.specs.declared.mode.Dev.TheVariants.{Metadata}
use Rattle.wb_disk.specs.Device.{Content, OneMore}
use Rattle.wb_format.specs.declared.root.Root.{Root}
use Rattle.wb_format.specs.Layout.{IsValidIn}
use Rattle.wb_tree.specs.declared.placed.PlacedNode.{PlacedNode}
use Rattle.wb_tree.specs.Mapping.{Mapping}
use Rattle.wb_tree.specs.Reading.{Nodes, IsNewestRoot}
use Rattle.wb_tree.specs.Images.{Stores}
use Rattle.wb_tree.specs.Loaded.{IsLoaded}
use Rattle.wb_dirty.specs.ImageReading.{image_read, with_bits}
use Rattle.wb_meta.specs.Representing.{Represents, ReadThere, Whole}

-- the places of nodes, in the same order
abbrev pub places_of : List PlacedNode → List Place
places_of nodes = map (λ node. node.place) nodes

-- What is read of the sectors: a root of a device of their number, and a tree of the entries with the dirty bits beside it, where
-- they are kept apart. The tree's nodes have these places in the order in which they are read, and the sectors store what the
-- tree knows of them.
pub record RepresentsState (sectors : List Content) (root : Root) (tree : Mapping) (dirty : Option (List Bool)) (used : List Place) : Type 0 where
  pub found : Whole
  pub represents : Represents sectors root found
  pub size : root.geometry.meta_sectors ≡ length sectors
  pub entries : with_bits dirty tree.entries ≡ found.entries
  pub mapping_entries : tree.entries ≡ found.mapping.entries
  pub used_are : used ≡ places_of found.mapping.reached
  pub loaded : IsLoaded root found.mapping tree
  pub stores : Stores sectors tree root.generation

-- no sector is a valid root of its slot
abbrev pub HasNoRoot : List Content → Type 0
HasNoRoot sectors = (slot : ℕ) (sector : Content) (root : Root) → slice_get sectors slot ≡ Some sector → ¬ IsValidIn slot sector root

-- the newest root is one of a device of another size
pub record HasOtherSize (sectors : List Content) : Type 0 where
  pub root : Root
  pub newest : IsNewestRoot sectors root
  pub other : root.geometry.meta_sectors ≢ length sectors

-- The image of the newest root has its first fault at this place, whatever other sectors than those of these nodes
-- read as.
pub record IsDamagedAt (sectors : List Content) (place : Place) : Type 0 where
  pub root : Root
  pub newest : IsNewestRoot sectors root
  pub size : root.geometry.meta_sectors ≡ length sectors
  pub nodes : Nodes
  pub reached : List PlacedNode
  pub there : ReadThere root.version sectors nodes reached
  pub reads : (others : Nodes) → ReadThere root.version sectors others reached → image_read root others ≡ Err place

-- the newest root is one of this device
pub record HasFittingRoot (sectors : List Content) : Type 0 where
  pub root : Root
  pub newest : IsNewestRoot sectors root
  pub size : root.geometry.meta_sectors ≡ length sectors

-- Why nothing is read of these sectors. A device that fails says nothing of them; memory is wanted for a tree alone;
-- and no other refusal comes.
abbrev pub IsRefusedBy : List Content → Refusal → Type 0
IsRefusedBy sectors (Io Metadata) = Unit {0}
IsRefusedBy sectors Memory = HasFittingRoot sectors
IsRefusedBy sectors NotFormatted = HasNoRoot sectors
IsRefusedBy sectors Mismatch = HasOtherSize sectors
IsRefusedBy sectors (Damaged place) = IsDamagedAt sectors place
IsRefusedBy sectors _ = ⊥

-- the refusals that say something of the sectors
abbrev pub SpeaksOfSectors : Refusal → Type 0
SpeaksOfSectors NotFormatted = Unit {0}
SpeaksOfSectors Mismatch = Unit {0}
SpeaksOfSectors (Damaged place) = Unit {0}
SpeaksOfSectors _ = ⊥

-- the refusals of a reading
abbrev pub IsOfReading : Refusal → Type 0
IsOfReading (Io Metadata) = Unit {0}
IsOfReading Memory = Unit {0}
IsOfReading NotFormatted = Unit {0}
IsOfReading Mismatch = Unit {0}
IsOfReading (Damaged place) = Unit {0}
IsOfReading _ = ⊥

-- the count of faults rose by one exactly where the refusal says that the device failed
abbrev pub CountsFault : Refusal → ℕ → ℕ → Type 0
CountsFault (Io device) old new = OneMore old new
CountsFault _ old new = new ≡ old

-- where it says so, the device may fail
abbrev pub FailsIf : Refusal → Type 0 → Type 0
FailsIf (Io device) May = May
FailsIf _ May = Unit {0}
