-- Sectors that represent a mapping.
use Rattle.std.specs.Prelude.{◌≡◌, ◌⊎◌, ℕ, true, Option, Some, Ok, List, slice_get}
use Rattle.wb_types.specs.declared.version.Version.{Version}
use Rattle.wb_disk.specs.Device.{Content}
use Rattle.wb_format.specs.declared.root.Root.{Root}
use Rattle.wb_tree.specs.declared.placed.PlacedNode.{PlacedNode}
use Rattle.wb_tree.specs.Mapping.{Mapping}
use Rattle.wb_tree.specs.Images.{Stores}
use Rattle.wb_tree.specs.Whole.{found_of}
use Rattle.wb_tree.specs.Reading.{Found, ReadOutcome, Nodes, ReadsAs, IsNewestRoot, is_reached, tree_read}
use Rattle.wb_dirty.specs.ImageReading.{image_read}
use Rattle.wb_types.specs.declared.entry.Entry.{Entry}

-- a sector of metadata of this version that reads as this place is said to read
pub record ReadsThere (version : Version) (sectors : List Content) (nodes : Nodes) (place : ℕ) : Type 0 where
  pub sector : Content
  pub there : slice_get sectors place ≡ Some sector
  pub reads : ReadsAs version sector (nodes place)

-- the places of these nodes read so
abbrev pub ReadThere : Version → List Content → Nodes → List PlacedNode → Type 0
ReadThere version sectors nodes reached = (place : ℕ) → is_reached place reached ≡ true → ReadsThere version sectors nodes place

-- What is read of an image: of its mapping, and of the mapping and the dirty bits behind it which nodes were reached, and each
-- entry with its bit.
pub record Whole : Type 0 where
  pub mapping : Found
  pub reached : List PlacedNode
  pub entries : List (Option Entry)

-- all that was found
abbrev pub all_of : Whole → Found
all_of whole = record { reached = whole.reached; entries = whole.entries; mapped = whole.mapping.mapped }

-- a mapping alone, with no dirty bits beside it
abbrev pub alone : Found → Whole
alone mapping = record { mapping = mapping; reached = mapping.reached; entries = mapping.entries }

-- What sectors represent: the valid root of higher generation, and what is read of its image or the place that its first
-- fault names, whatever other sectors than those of the nodes that are reached read as. No other root counts.
pub record RepresentsReading (sectors : List Content) (root : Root) (reading : ReadOutcome) : Type 0 where
  pub newest : IsNewestRoot sectors root
  pub nodes : Nodes
  pub reached : List PlacedNode
  pub there : ReadThere root.version sectors nodes reached
  pub reads : (others : Nodes) → ReadThere root.version sectors others reached → image_read root others ≡ reading

-- The sectors represent a root and its image: it is the valid root of higher generation, and the image is read from it
-- without a fault. Of the other sectors, those that the image does not reach, nothing is said.
pub record Represents (sectors : List Content) (root : Root) (found : Whole) : Type 0 where
  pub newest : IsNewestRoot sectors root
  pub nodes : Nodes
  pub reached : ReadThere root.version sectors nodes found.reached
  pub reads : image_read root nodes ≡ Ok (all_of found)
  pub mapping : tree_read root nodes ≡ Ok found.mapping

-- They represent a root and its image, and store what is known of a mapping.
pub record RepresentsAndStores (sectors : List Content) (root : Root) (found : Whole) (m : Mapping) : Type 0 where
  pub represents : Represents sectors root found
  pub stores : Stores sectors m root.generation

-- they represent this mapping by this root, with no dirty bits beside it, and store it
abbrev pub RepresentsTree : List Content → Root → Mapping → Type 0
RepresentsTree sectors root m = RepresentsAndStores sectors root (alone (found_of root m)) m

-- a root, and what is read of its image
pub record Stored : Type 0 where
  pub root : Root
  pub found : Whole

-- they represent what was stored before, or are as is wanted
abbrev pub RepresentsOr : Stored → (List Content → Type 0) → List Content → Type 0
RepresentsOr old New sectors = Represents sectors old.root old.found ⊎ New sectors

-- they represent what was stored before, or this mapping by this root
abbrev pub RepresentsOldOrTree : Stored → Root → Mapping → List Content → Type 0
RepresentsOldOrTree old root m = RepresentsOr old (λ sectors. RepresentsTree sectors root m)
