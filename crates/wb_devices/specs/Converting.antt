-- Metadata of the first version, written anew in the second.
use Rattle.std.specs.Prelude.{◌≡◌, ◌≤◌, ◌<◌, ◌+◌, ◌^◌, ℕ, false, List, Option, Some, None, length, map, take}
use Rattle.wb_types.specs.Limits.{depth_of, node_count}
use Rattle.wb_types.specs.declared.geometry.Geometry.{Geometry}
use Rattle.wb_types.specs.declared.number.Place.{Place}
use Rattle.wb_types.specs.declared.version.Version.TheVariants.{One, Two}
use Rattle.wb_format.specs.declared.root.Root.{Root}
use Rattle.wb_tree.specs.Mapping.{Mapping, changed, used_places}
use Rattle.wb_tree.specs.Images.{ImagePlan}
use Rattle.wb_tree.specs.declared.image.Image.{Image}
use Rattle.wb_dirty.specs.ImageReading.{with_bits}
use Rattle.wb_meta.specs.Conversions.{dirty_bits_of, written_anew}
use Rattle.wb_meta.specs.Imaging.{IsPlanned}
use Rattle.wb_meta.specs.Openings.{reopened}
use Rattle.wb_meta.specs.Placing.{HavePlaces}
use Rattle.wb_meta.specs.Reads.{FitsDevice}
use Rattle.wb_meta.specs.declared.commit_steps.CommitSteps.TheVariants.{NodesWritten}
use Rattle.wb_meta.specs.declared.read_steps.ReadSteps.{ReadSteps}
use Rattle.wb_meta.specs.declared.read_steps.ReadSteps.TheVariants.{Done as AllRead}
use Rattle.wb_meta.specs.declared.read_steps.State.{State}
use Rattle.wb_space.specs.Places.{free_places, noted, place, place_count, unused}
use Rattle.wb_devices.specs.declared.running.RunningCommit.{RunningCommit}

-- so many of the places behind the slots that are not used, the least ones
abbrev pub least_unused : Geometry → List Place → ℕ → List Place
least_unused asked used count = map place (take count (free_places (record { committed = noted used (unused (place_count asked)); running = unused (place_count asked) })))

-- one for each node of the mapping
abbrev pub places_anew : Geometry → Mapping → List Place → List Place
places_anew asked tree used = least_unused asked used (length (changed tree (depth_of asked.cache_blocks)))

-- what that image is asked for with: a root of the next generation, not clean
abbrev pub conversion_plan : {A : Type 0} → Geometry → State A → ImagePlan
conversion_plan asked old = record {
  geometry = asked;
  generation = old.root.generation + 1;
  clean = false;
  free = places_anew asked (written_anew old.tree) old.used.items;
}

-- The root by which the second version says what was read: of the generation and the flag that were read, over the new image. No sector
-- holds it; the one that is written comes next over it.
pub record IsConvertedRoot (asked : Geometry) (image : Image) (old new : Root) : Type 0 where
  pub generation : new.generation ≡ old.generation
  pub clean : new.clean ≡ old.clean
  pub geometry : new.geometry ≡ asked
  pub top : new.top ≡ image.root.top
  pub no_bits : new.top_dirty ≡ None
  pub next : image.root ≡ reopened new

-- What was read of metadata of the first version, as the second has it, and the image that leads there: all nodes of the mapping, on places
-- that were not used. The dirty bits that the entries had stand beside them.
pub record IsConverted {A : Type 0} (asked : Geometry) (old : State A) (image : Image) (new : State A) : Type 0 where
  -- the dirty bits that were read stand in the tree
  pub in_tree : old.dirty ≡ None
  pub planned : IsPlanned None (written_anew old.tree) new.tree (conversion_plan asked old) image old.used.items
  pub root : IsConvertedRoot asked image old.root new.root
  pub dirty : new.dirty ≡ Some (dirty_bits_of old.tree.entries)
  pub entries : with_bits new.dirty new.tree.entries ≡ old.tree.entries
  pub used : new.used.items ≡ used_places new.tree
  pub fits : FitsDevice asked.meta_sectors new.root new.tree new.used.items
  pub placed : HavePlaces image.nodes.items asked.meta_sectors
  pub nodes : new.nodes ≡ length image.nodes.items
  pub few : length image.nodes.items ≤ node_count asked.cache_blocks
  pub spelled : image.root.generation < 2 ^ 64

-- all was read, of metadata of the first version where the second is asked for
pub record WantsConversion {A : Type 0} (asked : Geometry) (now : ReadSteps A) (state : State A) : Type 0 where
  pub all_read : now ≡ AllRead state
  pub first : state.root.geometry.version ≡ One
  pub second : asked.version ≡ Two

-- The nodes of the image are to be written, so many, and then its root; what was read is known as the second version has it.
pub record Converts {A : Type 0} (asked : Geometry) (now : ReadSteps A) (nodes : ℕ) (after : Option (ReadSteps A)) (commit : Option RunningCommit) : Type 0 where
  pub old : State A
  pub wants : WantsConversion asked now old
  pub new : State A
  pub after_is : after ≡ Some (AllRead new)
  pub next : RunningCommit
  pub commit_is : commit ≡ Some next
  pub steps : next.steps ≡ NodesWritten 0
  pub converted : IsConverted asked old next.image new
  pub count : nodes ≡ length next.image.nodes.items
