-- How far a reading has come, as the sectors show it.
use Rattle.std.specs.Prelude.{◌≡◌, ◌⊎◌, ◌≤◌, ◌<◌, ◌+◌, ◌-◌, ◌==◌, ℕ, Option, Some, None, IsSome, List, length, map, slice_get, Contains}
use Rattle.std.specs.List.{AllByRecursion, IsDistinct}
use Rattle.wb_types.specs.declared.number.Place.{Place}
use Rattle.wb_types.specs.declared.refusal.Refusal.{Refusal}
use Rattle.wb_types.specs.declared.version.Version.TheVariants.{One}
use Rattle.wb_disk.specs.Device.{Content, History, newest}
use Rattle.wb_format.specs.declared.root.Root.{Root}
use Rattle.wb_format.specs.declared.node.Node.{Node}
use Rattle.wb_format.specs.Layout.{IsOfVersion}
use Rattle.wb_types.specs.Limits.{node_count}
use Rattle.wb_tree.specs.Mapping.{Mapping, IsMapping, IsSound, IsPlaceOf, AreInside}
use Rattle.wb_tree.specs.Images.{kept_tree}
use Rattle.wb_tree.specs.Reading.{Nodes, IsNewestRoot, tree_read}
use Rattle.wb_tree.specs.Loading.{AgreeAt, wanted_place}
use Rattle.wb_dirty.specs.ImageReading.{image_read}
use Rattle.wb_dirty.specs.ImageLoading.{ImageLoading, image_outcome, mapping_outcome}
use Rattle.wb_meta.specs.declared.read_steps.ReadSteps.{ReadSteps}
use Rattle.wb_meta.specs.declared.read_steps.ReadSteps.TheVariants.{Begun, FirstSlotRead, RootFound, Done}
use Rattle.wb_meta.specs.Slots.{IsInSlot}
use Rattle.wb_meta.specs.Representing.{ReadThere}
use Rattle.wb_meta.specs.States.{RepresentsState, IsRefusedBy, places_of}

-- places of a device of so many sectors: behind the slots, and none twice
pub record AreApartPlaces (sectors : ℕ) (used : List Place) : Type 0 where
  pub from : AllByRecursion (λ place. 2 ≤ place.0) used
  pub to : AllByRecursion (λ place. place.0 < sectors) used
  pub apart : IsDistinct (λ (a b : Place). a.0 == b.0) used

-- Nodes of the root's version were told so far: wherever the same is read, the mapping reads as what was found and what is left.
pub record WasTold (root : Root) (l : ImageLoading) : Type 0 where
  pub nodes : Nodes
  pub version_has : (place : ℕ) (node : Node) → nodes place ≡ Some node → IsOfVersion root.version node
  pub mapping : (others : Nodes) → AgreeAt l.found.reached nodes others → mapping_outcome l others ≡ tree_read root others

-- the image of this root is read on a device of so many sectors
pub record IsImageOn (sectors : ℕ) (root : Root) (l : ImageLoading) : Type 0 where
  pub size : root.geometry.meta_sectors ≡ sectors
  pub root_is : l.root ≡ root
  pub used : AreApartPlaces sectors (places_of l.found.reached)
  pub told : WasTold root l

-- a sound tree of a mapping on a device of so many sectors, with the places of its nodes
pub record FitsDevice (sectors : ℕ) (root : Root) (tree : Mapping) (used : List Place) : Type 0 where
  pub size : root.geometry.meta_sectors ≡ sectors
  pub mapping : IsMapping root.geometry.cache_blocks root.geometry.origin_blocks tree.entries
  pub sound : IsSound tree
  pub inside : AreInside sectors tree
  -- every place at which a node of the tree is known to stand is used
  pub known_used : (place : Place) → IsPlaceOf tree place → Contains used place
  pub used_are : AreApartPlaces sectors used
  -- as many places at most as a tree of this size can have nodes
  pub used_few : length used ≤ node_count root.geometry.cache_blocks
  -- the words of the root's version say all of its entries
  pub keeps : kept_tree root.geometry.version tree ≡ tree

-- The steps are those of a device of so many sectors. An image of the first version has no more nodes than its mapping can have, and no dirty
-- bits beside it.
abbrev pub AreStepsOn : {A : Type 0} → ℕ → ReadSteps A → Type 0
AreStepsOn sectors (Begun alloc global) = Unit {0}
AreStepsOn sectors (FirstSlotRead alloc global first) = Unit {0}
AreStepsOn sectors (RootFound global root loader nodes) = IsImageOn sectors root loader × IsSome loader.wanted × (nodes ≡ length loader.found.reached)
AreStepsOn sectors (Done state) = FitsDevice sectors state.root state.tree state.used.items × (2 + state.nodes ≤ sectors)
    × (state.root.geometry.version ≡ One → state.nodes ≤ node_count state.root.geometry.cache_blocks)
    × (state.root.geometry.version ≡ One → state.dirty ≡ None)

-- how many steps are left at most on a device of so many sectors
abbrev pub steps_left : {A : Type 0} → ℕ → ReadSteps A → ℕ
steps_left sectors (Begun alloc global) = sectors + 2
steps_left sectors (FirstSlotRead alloc global first) = sectors + 1
steps_left sectors (RootFound global root loader nodes) = sectors - length loader.found.reached
steps_left sectors (Done state) = 0

-- The newest root was found, and nodes of its image were read: whatever the other sectors read as, the image reads as what was
-- found and what is left, and so does its mapping.
pub record HasLoaded (sectors : List Content) (root : Root) (l : ImageLoading) : Type 0 where
  pub newest : IsNewestRoot sectors root
  pub nodes : Nodes
  pub reached : ReadThere root.version sectors nodes l.found.reached
  pub rest : (others : Nodes) → ReadThere root.version sectors others l.found.reached → image_outcome l others ≡ image_read root others
  pub mapping : (others : Nodes) → ReadThere root.version sectors others l.found.reached → mapping_outcome l others ≡ tree_read root others

-- a reading of these sectors has come so far
abbrev pub HasRead : {A : Type 0} → List Content → ReadSteps A → Type 0
HasRead sectors (Begun alloc global) = Unit {0}
HasRead sectors (FirstSlotRead alloc global first) = IsInSlot sectors 0 first
HasRead sectors (RootFound global root loader nodes) = HasLoaded sectors root loader
HasRead sectors (Done state) = RepresentsState sectors state.root state.tree state.dirty state.used.items

-- no step is left
abbrev pub IsDone : {A : Type 0} → ReadSteps A → Type 0
IsDone (Begun alloc global) = ⊥
IsDone (FirstSlotRead alloc global first) = ⊥
IsDone (RootFound global root loader nodes) = ⊥
IsDone (Done state) = Unit {0}

-- ---- one sector a step

abbrev pub number_of_place : Option Place → Option ℕ
number_of_place (Some place) = Some place.0
number_of_place None = None

-- the sector that the next step reads; none where the reading is done
abbrev pub coming_sector : {A : Type 0} → ReadSteps A → Option ℕ
coming_sector (Begun alloc global) = Some 0
coming_sector (FirstSlotRead alloc global first) = Some 1
coming_sector (RootFound global root loader nodes) = number_of_place (wanted_place loader.wanted)
coming_sector (Done state) = None

-- how many sectors were read, each by a step
abbrev pub sectors_read : {A : Type 0} → ReadSteps A → ℕ
sectors_read (Begun alloc global) = 0
sectors_read (FirstSlotRead alloc global first) = 1
sectors_read (RootFound global root loader nodes) = 2 + length loader.found.reached
sectors_read (Done state) = 2 + state.nodes

-- the newest root, once it is known
abbrev pub known_root : {A : Type 0} → ReadSteps A → Option Root
known_root (Begun alloc global) = None
known_root (FirstSlotRead alloc global first) = None
known_root (RootFound global root loader nodes) = Some root
known_root (Done state) = Some state.root

-- As many sectors as the device has, and at this one, if any, what a read gives there. Of all others nothing is said.
pub record AgreeThere (at : Option ℕ) (device : List History) (sectors : List Content) : Type 0 where
  pub size : length sectors ≡ length device
  pub here : (place : ℕ) → at ≡ Some place → slice_get sectors place ≡ slice_get (map newest device) place

-- A step of a reading goes on so: of whatever sectors the reading had come so far, as far as they agree with the device in
-- the one sector that the step reads, it has come one step further.
abbrev pub ReadingGoesOn : {A : Type 0} → ReadSteps A → List History → ReadSteps A → Type 0
ReadingGoesOn steps device next = (sectors : List Content) → AgreeThere (coming_sector steps) device sectors
    → HasRead sectors steps → HasRead sectors next

-- and so it is refused: of whatever such sectors, for what stands there
abbrev pub StopsBy : {A : Type 0} → ReadSteps A → List History → Refusal → Type 0
StopsBy steps device refusal = (sectors : List Content) → AgreeThere (coming_sector steps) device sectors
    → HasRead sectors steps → IsRefusedBy sectors refusal

-- after a step fewer steps are left, unless none was
abbrev pub StepsFewer : {A : Type 0} → ℕ → ReadSteps A → ReadSteps A → Type 0
StepsFewer sectors old new = IsDone old ⊎ (steps_left sectors new < steps_left sectors old)

-- and one sector more was read
abbrev pub ReadOneMore : {A : Type 0} → ReadSteps A → ReadSteps A → Type 0
ReadOneMore old new = IsDone old ⊎ (sectors_read new ≡ sectors_read old + 1)
