-- Metadata of the first version written anew in the second: every node of the mapping, without its dirty bits, which stand beside it
-- from then on.
use Rattle.std.specs.Prelude.{◌≡◌, ◌+◌, ℕ, Bool, false, Option, Some, None, List, [], map}
use Rattle.wb_types.specs.declared.entry.Entry.{Entry}
use Rattle.wb_types.specs.declared.number.Place.{Place}
use Rattle.wb_types.specs.declared.version.Version.TheVariants.{One, Two}
use Rattle.wb_disk.specs.Device.{History}
use Rattle.wb_format.specs.NodeWords.{kept}
use Rattle.wb_tree.specs.declared.image.Image.{Image}
use Rattle.wb_tree.specs.Mapping.{Mapping, IsMapping, IsSound}
use Rattle.wb_tree.specs.Edits.{IsEdited}
use Rattle.wb_tree.specs.Images.{ImagePlan}
use Rattle.wb_dirty.specs.ImageReading.{with_bits}
use Rattle.wb_meta.specs.declared.commit_steps.CommitSteps.TheVariants.{NodesWritten}
use Rattle.wb_meta.specs.CleanImages.{found_of_image}
use Rattle.wb_meta.specs.Commits.{CommitHasCome}
use Rattle.wb_meta.specs.Imaging.{DeviceStores, IsPlanned}
use Rattle.wb_meta.specs.Representing.{Stored}
use Rattle.wb_meta.specs.Roots.{CanBeMade, commit_of}
use Rattle.wb_meta.specs.Sizes.{AreSameSizes}

-- a cache block is mapped, and its entry is dirty
abbrev pub is_mapped_dirty : Option Entry → Bool
is_mapped_dirty (Some entry) = entry.dirty
is_mapped_dirty None = false

-- which blocks are dirty
abbrev pub dirty_bits_of : List (Option Entry) → List Bool
dirty_bits_of entries = map is_mapped_dirty entries

-- the entries without their dirty bits, none of whose nodes is known to stand anywhere: all are to be written
abbrev pub written_anew : Mapping → Mapping
written_anew m = record { entries = map (kept Two) m.entries; known = [] }

-- with their bits beside them the entries are what they were
abbrev pub BitsComeBack : Type 0
BitsComeBack = (entries : List (Option Entry)) → with_bits (Some (dirty_bits_of entries)) (map (kept Two) entries) ≡ entries

-- they are a mapping as before
abbrev pub AnewIsMapping : Type 0
AnewIsMapping = (cache_blocks origin_blocks : ℕ) (m : Mapping) → IsMapping cache_blocks origin_blocks m.entries
    → IsMapping cache_blocks origin_blocks (written_anew m).entries

-- and edits of the tree lead there, so that a device which stores the tree stores this
abbrev pub AnewIsEdited : Type 0
AnewIsEdited = (m : Mapping) → IsEdited m (written_anew m) × IsSound (written_anew m)

-- The image of it on places that are not used, of the same sizes and the next generation, may be committed over metadata of the first
-- version: until it is the device represents these, and then it stores the new tree.
abbrev pub ConversionBegins : Type 0
ConversionBegins = (m n : Mapping) (plan : ImagePlan) (image : Image) (device : List History) (old : Stored) (used : List Place) → DeviceStores m device old used
    → old.root.version ≡ One → IsPlanned None (written_anew m) n plan image used → AreSameSizes old.root.geometry plan.geometry → plan.generation ≡ old.root.generation + 1
    → CanBeMade (commit_of None image n old device) × CommitHasCome image device (NodesWritten 0) device

-- what it stands for then is, with the dirty bits, what the first version stood for
abbrev pub ConversionKeeps : Type 0
ConversionKeeps = (m n : Mapping) (plan : ImagePlan) (image : Image) (used : List Place) → IsPlanned None (written_anew m) n plan image used
    → with_bits (Some (dirty_bits_of m.entries)) (found_of_image None image n).entries ≡ m.entries
