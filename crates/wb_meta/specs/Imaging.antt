-- A tree on a device that represents it, and the next image of the tree.
use Rattle.std.specs.Prelude.{◌≡◌, ◌≤◌, ◌<◌, ◌+◌, ℕ, Bool, true, false, List, Option, Some, length, slice_get, Contains}
use Rattle.wb_types.specs.Limits.{depth_of, node_count}
use Rattle.wb_types.specs.declared.geometry.Geometry.{Geometry}
use Rattle.wb_types.specs.declared.number.Place.{Place}
use Rattle.wb_disk.specs.Device.{History}
use Rattle.wb_disk.specs.Crashes.{AfterEveryCrash}
use Rattle.wb_tree.specs.declared.image.Image.{Image}
use Rattle.wb_tree.specs.Mapping.{Mapping, IsMapping, IsSound, IsPlaceOf, AreInside, changed}
use Rattle.wb_tree.specs.Reading.{is_reached}
use Rattle.wb_tree.specs.Images.{AreFree, ImagePlan, IsImage, Stores, kept_tree}
use Rattle.wb_meta.specs.CleanImages.{IsImageOf}
use Rattle.wb_meta.specs.Representing.{Represents, Stored}
use Rattle.wb_meta.specs.Sizes.{AreSameSizes}

-- A device represents a root and what is read of its image, and stores what a tree knows, whatever a crash leaves of it; and
-- these places are used.
pub record DeviceStores (m : Mapping) (device : List History) (old : Stored) (used : List Place) : Type 0 where
  pub sound : IsSound m
  pub inside : AreInside old.root.geometry.meta_sectors m
  pub size : length device ≡ old.root.geometry.meta_sectors
  pub represents : AfterEveryCrash (λ sectors. Represents sectors old.root old.found) device
  pub stores : AfterEveryCrash (λ sectors. Stores sectors m old.root.generation) device
  -- every place of the mapping that is read is used, and so is every place at which a node of the tree is known to stand
  pub reached_used : (place : Place) → is_reached place.0 old.found.mapping.reached ≡ true → Contains used place
  pub known_used : (place : Place) → IsPlaceOf m place → Contains used place
  -- the used places lie behind the slots, on the device
  pub used_inside : (place : Place) → Contains used place → (2 ≤ place.0) × (place.0 < old.root.geometry.meta_sectors)

-- Places from which an image may take its own: at least so many, behind the slots, on the device, none twice, and none of
-- those that are used.
pub record HasUnused (count : ℕ) (geometry : Geometry) (used free : List Place) : Type 0 where
  pub enough : count ≤ length free
  pub behind : (i : ℕ) (place : Place) → slice_get free i ≡ Some place → 2 ≤ place.0
  pub inside : (i : ℕ) (place : Place) → slice_get free i ≡ Some place → place.0 < geometry.meta_sectors
  pub apart : (i j : ℕ) (place : Place) → slice_get free i ≡ Some place → slice_get free j ≡ Some place → i ≡ j
  pub unused : (i : ℕ) (place : Place) → slice_get free i ≡ Some place → ¬ Contains used place

-- enough for the nodes of a tree that changed
abbrev pub AreUnusedFor : Mapping → Geometry → List Place → List Place → Type 0
AreUnusedFor m geometry used free = HasUnused (length (changed m (depth_of geometry.cache_blocks))) geometry used free

-- enough for every node that a tree of this geometry can have
abbrev pub AreUnused : Geometry → List Place → List Place → Type 0
AreUnused geometry used free = HasUnused (node_count geometry.cache_blocks) geometry used free

-- An image leads from the tree m to the tree n, and the device represents what was stored before and stores m: the image
-- is the next.
pub record IsNextImage (m n : Mapping) (plan : ImagePlan) (image : Image) (device : List History) (old : Stored) : Type 0 where
  -- the entries, of which both trees have the same, are a mapping of this geometry
  pub mapping : IsMapping plan.geometry.cache_blocks plan.geometry.origin_blocks m.entries
  -- both trees are sound
  pub old_sound : IsSound m
  pub new_sound : IsSound n
  -- the new tree stands on the device, behind the slots
  pub inside : AreInside plan.geometry.meta_sectors n
  -- the places that the image may take
  pub free_are : AreFree m plan.geometry plan.free
  -- the image writes what changed
  pub image_is : IsImage m n plan image
  -- the words of the geometry's version say all of the new tree's entries
  pub keeps : kept_tree plan.geometry.version n ≡ n
  -- the device has the size of the geometry
  pub size : length device ≡ plan.geometry.meta_sectors
  -- and its root the sizes of it; its version may be another
  pub sizes : AreSameSizes old.root.geometry plan.geometry
  -- the image's generation comes after the root's
  pub next : plan.generation ≡ old.root.generation + 1
  -- whatever a crash leaves of the device, it represents what was stored before
  pub represents : AfterEveryCrash (λ sectors. Represents sectors old.root old.found) device
  -- whatever a crash leaves of the device, it stores what m knows
  pub stores : AfterEveryCrash (λ sectors. Stores sectors m old.root.generation) device
  -- no free place is one that the root's image reaches
  pub outside : (i : ℕ) (place : Place) → slice_get plan.free i ≡ Some place → is_reached place.0 old.found.reached ≡ false

-- The image leads from the tree m to the tree n, on places that are not used, and has these dirty bits beside it; and the words of its
-- version say all of the new tree's entries.
pub record IsPlanned (bits : Option (List Bool)) (m n : Mapping) (plan : ImagePlan) (image : Image) (used : List Place) : Type 0 where
  pub mapping : IsMapping plan.geometry.cache_blocks plan.geometry.origin_blocks m.entries
  pub free_are : AreUnusedFor m plan.geometry used plan.free
  pub image_is : IsImageOf bits m n plan image
  pub sound : IsSound n
  pub inside : AreInside plan.geometry.meta_sectors n
  pub keeps : kept_tree plan.geometry.version n ≡ n

-- every place that is read of what is stored is used, those of its dirty bits too
abbrev pub IsAllUsed : Stored → List Place → Type 0
IsAllUsed state used = (place : Place) → is_reached place.0 state.found.reached ≡ true → Contains used place

-- It has the sizes of what was stored before, all of which stands on used places, and is of the next generation. Its version may be another.
pub record Follows (plan : ImagePlan) (old : Stored) (used : List Place) : Type 0 where
  pub sizes : AreSameSizes old.root.geometry plan.geometry
  pub next : plan.generation ≡ old.root.generation + 1
  pub all_used : IsAllUsed old used
