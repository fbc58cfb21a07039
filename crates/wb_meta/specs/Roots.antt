-- Which root and tree a metadata device may be read as, through commits, faults, crashes and openings: one state or, once
-- a root was put over it, one of two.
use Rattle.std.specs.Prelude.{◌≡◌, ◌⊎◌, ◌++◌, Bool, List, Option, Some, None, length, map}
use Rattle.wb_types.specs.declared.geometry.Geometry.{Geometry}
use Rattle.wb_types.specs.declared.number.Place.{Place}
use Rattle.wb_disk.specs.Device.{Content, History, newest}
use Rattle.wb_disk.specs.Crashes.{MayLeave, AfterEveryCrash}
use Rattle.wb_tree.specs.declared.image.Image.{Image}
use Rattle.wb_tree.specs.Mapping.{Mapping, used_places}
use Rattle.wb_meta.specs.CleanImages.{found_of_image, places_of_bits}
use Rattle.wb_meta.specs.Representing.{Represents, Stored, alone}
use Rattle.wb_meta.specs.Placing.{HavePlaces, MayCommit}
use Rattle.wb_meta.specs.Imaging.{DeviceStores, IsAllUsed}
use Rattle.wb_meta.specs.Laws.{Wanted}
use Rattle.wb_meta.specs.Sizes.{AreSameSizes}

-- the sectors represent this state
abbrev pub Are : Stored → List Content → Type 0
Are state sectors = Represents sectors state.root state.found

-- They represent the state that was committed or, where a root was put over it, perhaps the one after it.
abbrev pub AreOneOf : Stored → Option Stored → List Content → Type 0
AreOneOf committed None sectors = Are committed sectors
AreOneOf committed (Some later) sectors = Are committed sectors ⊎ Are later sectors

-- the state, if there is one, has the sizes of this geometry
abbrev pub StoredIsOf : Geometry → Option Stored → Type 0
StoredIsOf geometry None = Unit {0}
StoredIsOf geometry (Some state) = AreSameSizes state.root.geometry geometry

-- A device of the sizes of this geometry represents one of them, whatever a crash leaves of it.
pub record MayBeReadAs (geometry : Geometry) (committed : Stored) (later : Option Stored) (device : List History) : Type 0 where
  pub size : length device ≡ geometry.meta_sectors
  pub sizes : AreSameSizes committed.root.geometry geometry
  pub later_sizes : StoredIsOf geometry later
  pub represents : AfterEveryCrash (AreOneOf committed later) device

-- a crash leaves what reads give, and nothing else
abbrev pub IsSettled : List History → Type 0
IsSettled device = (sectors : List Content) → MayLeave device sectors → sectors ≡ map newest device

-- A commit: the state that the device represents before it, and the one to which it leads with the tree that is stored and the
-- places that are used then; its image, and the device on which it began.
pub record Commit : Type 0 where
  pub old : Stored
  pub new : Stored
  pub tree : Mapping
  pub used : List Place
  pub image : Image
  pub before : List History

-- The image may be committed: until it is the device represents the old state, and then it stores the tree by the new one.
pub record CanBeMade (c : Commit) : Type 0 where
  pub root_is : c.new.root ≡ c.image.root
  pub sizes : AreSameSizes c.new.root.geometry c.old.root.geometry
  pub size : length c.before ≡ c.old.root.geometry.meta_sectors
  pub places : HavePlaces c.image.nodes.items c.old.root.geometry.meta_sectors
  pub may : MayCommit c.image c.before c.old (Wanted c.image c.new.found c.tree)
  pub stores : (now : List History) → length now ≡ length c.before → AfterEveryCrash (Wanted c.image c.new.found c.tree) now → DeviceStores c.tree now c.new c.used
  -- all that is read of the new state stands on places that are used then
  pub all_used : IsAllUsed c.new c.used

-- that of the next image of a tree, with these dirty bits beside it
abbrev pub commit_of : Option (List Bool) → Image → Mapping → Stored → List History → Commit
commit_of bits image n old device = record {
  old = old;
  new = record { root = image.root; found = found_of_image bits image n };
  tree = n;
  used = used_places n ++ places_of_bits image;
  image = image;
  before = device;
}

-- That of an opening's root, over the same mapping. It names no dirty bits, whose nodes are free from then on.
abbrev pub opening_of : Image → Mapping → List Place → Stored → List History → Commit
opening_of image tree used old device = record {
  old = old;
  new = record { root = image.root; found = alone old.found.mapping };
  tree = tree;
  used = used;
  image = image;
  before = device;
}
