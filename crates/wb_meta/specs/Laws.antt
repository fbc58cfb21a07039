-- The laws of commits, of the round from one image to the next, of openings and of readings, by name.
use Rattle.std.specs.Prelude.{◌≡◌, ◌⊎◌, ℕ, Bool, Option, Some, None, Ok, Err, List, [], length, map}
use Rattle.wb_types.specs.declared.geometry.Geometry.{Geometry}
use Rattle.wb_types.specs.declared.number.Place.{Place}
use Rattle.wb_types.specs.declared.refusal.Refusal.{Refusal}
use Rattle.wb_disk.specs.Device.{Content, History, newest}
use Rattle.wb_disk.specs.Crashes.{MayLeave, AfterEveryCrash}
use Rattle.wb_format.specs.declared.root.Root.{Root}
use Rattle.wb_tree.specs.declared.image.Image.{Image}
use Rattle.wb_tree.specs.Mapping.{Mapping, IsSound, empty_mapping, used_places}
use Rattle.wb_tree.specs.Edits.{IsEdited}
use Rattle.wb_tree.specs.Images.{AreFree, ImagePlan}
use Rattle.wb_tree.specs.Reading.{ReadOutcome, Nodes, AreNodes, IsNewestRoot, nothing_found}
use Rattle.wb_tree.specs.Whole.{found_of}
use Rattle.wb_dirty.specs.ImageReading.{image_read, with_bits}
use Rattle.wb_meta.specs.declared.commit_steps.CommitSteps.{CommitSteps}
use Rattle.wb_meta.specs.declared.commit_steps.CommitSteps.TheVariants.{NodesWritten, Done}
use Rattle.wb_meta.specs.CleanImages.{IsImageOf, IsImageWithBits, found_of_image}
use Rattle.wb_meta.specs.Representing.{Represents, RepresentsAndStores, RepresentsTree, RepresentsOr, RepresentsOldOrTree, RepresentsReading, Stored, Whole, all_of, alone}
use Rattle.wb_meta.specs.Steps.{DoesStep, FailsStep, steps_after}
use Rattle.wb_meta.specs.Placing.{HavePlaces, MayCommit}
use Rattle.wb_meta.specs.Commits.{CommitHasCome, HasFailed, IsBeforeRoot}
use Rattle.wb_meta.specs.Formats.{IsFirstRoot, IsFormatted}
use Rattle.wb_meta.specs.Imaging.{DeviceStores, AreUnusedFor, IsNextImage, IsPlanned, Follows}
use Rattle.wb_meta.specs.Openings.{IsOpening}
use Rattle.wb_meta.specs.Reads.{FitsDevice}
use Rattle.wb_meta.specs.States.{RepresentsState, HasNoRoot, HasOtherSize, HasFittingRoot, IsDamagedAt, IsRefusedBy, SpeaksOfSectors}

-- ---- commits

-- what is wanted of the sectors with the image in place: that they represent this by its root, and store a mapping
abbrev pub Wanted : Image → Whole → Mapping → List Content → Type 0
Wanted image found m sectors = RepresentsAndStores sectors image.root found m

-- a step leads a commit from where it has come to where it comes next
abbrev pub CommitGoesOn : Type 0
CommitGoesOn = (image : Image) (sectors : ℕ) (before now new : List History) (steps : CommitSteps)
    → HavePlaces image.nodes.items sectors → CommitHasCome image before steps now → DoesStep image steps now new
    → CommitHasCome image before (steps_after image steps) new

-- and one that fails, to a failure there
abbrev pub CommitFails : Type 0
CommitFails = (image : Image) (sectors : ℕ) (before now new : List History) (steps : CommitSteps)
    → HavePlaces image.nodes.items sectors → CommitHasCome image before steps now → FailsStep image steps now new
    → HasFailed image before steps new

-- however far a commit has come, every crash leaves what was stored before, or what is wanted
abbrev pub OldOrWantedDuring : Type 0
OldOrWantedDuring = (image : Image) (sectors : ℕ) (before now : List History) (steps : CommitSteps) (old : Stored) (found : Whole) (m : Mapping)
    → HavePlaces image.nodes.items sectors → MayCommit image before old (Wanted image found m) → CommitHasCome image before steps now
    → AfterEveryCrash (RepresentsOr old (Wanted image found m)) now

-- and so it does after a failure
abbrev pub OldOrWantedAfterFailure : Type 0
OldOrWantedAfterFailure = (image : Image) (sectors : ℕ) (before now : List History) (steps : CommitSteps) (old : Stored) (found : Whole) (m : Mapping)
    → HavePlaces image.nodes.items sectors → MayCommit image before old (Wanted image found m) → HasFailed image before steps now
    → AfterEveryCrash (RepresentsOr old (Wanted image found m)) now

-- until the root is written, it leaves what was stored before
abbrev pub OldBeforeRoot : Type 0
OldBeforeRoot = (image : Image) (sectors : ℕ) (before now : List History) (steps : CommitSteps) (old : Stored) (found : Whole) (m : Mapping)
    → HavePlaces image.nodes.items sectors → MayCommit image before old (Wanted image found m) → IsBeforeRoot steps → CommitHasCome image before steps now
    → AfterEveryCrash (λ sectors. Represents sectors old.root old.found) now

-- and so it does where a node, or the sync behind the nodes, failed
abbrev pub OldAfterFailedNode : Type 0
OldAfterFailedNode = (image : Image) (sectors count : ℕ) (before now : List History) (old : Stored) (found : Whole) (m : Mapping)
    → HavePlaces image.nodes.items sectors → MayCommit image before old (Wanted image found m) → HasFailed image before (NodesWritten count) now
    → AfterEveryCrash (λ sectors. Represents sectors old.root old.found) now

-- once the commit is done, it leaves what is wanted alone
abbrev pub WantedWhenDone : Type 0
WantedWhenDone = (image : Image) (before now : List History) (old : Stored) (found : Whole) (m : Mapping)
    → MayCommit image before old (Wanted image found m) → CommitHasCome image before Done now → AfterEveryCrash (Wanted image found m) now

-- ---- the next image of a tree

-- the nodes of an image of a tree, alone or with dirty bits beside it, have places of the device, whatever stands there
abbrev pub ImageHasPlaces : Type 0
ImageHasPlaces = (bits : Option (List Bool)) (m n : Mapping) (plan : ImagePlan) (image : Image) → AreFree m plan.geometry plan.free
    → IsImageOf bits m n plan image → HavePlaces image.nodes.items plan.geometry.meta_sectors

-- the next image may be committed: with it in place the sectors represent the new tree by the image's root, and store it
abbrev pub ImageMayCommit : Type 0
ImageMayCommit = (m n : Mapping) (plan : ImagePlan) (image : Image) (device : List History) (old : Stored) → IsNextImage m n plan image device old
    → MayCommit image device old (λ sectors. RepresentsTree sectors image.root n)

-- and so may one with dirty bits beside the tree: with it in place they represent the tree with its bits
abbrev pub ImageWithBitsMayCommit : Type 0
ImageWithBitsMayCommit = (bits : List Bool) (m n : Mapping) (plan : ImagePlan) (image : Image) (device : List History) (old : Stored) (marked : IsImageWithBits bits m n plan image)
    → IsNextImage m n plan marked.tree device old → MayCommit image device old (Wanted image (found_of_image (Some bits) image n) n)

abbrev pub OldOrTreeDuring : Type 0
OldOrTreeDuring = (m n : Mapping) (plan : ImagePlan) (image : Image) (device now : List History) (steps : CommitSteps) (old : Stored)
    → IsNextImage m n plan image device old → CommitHasCome image device steps now → AfterEveryCrash (RepresentsOldOrTree old image.root n) now

abbrev pub OldOrTreeAfterFailure : Type 0
OldOrTreeAfterFailure = (m n : Mapping) (plan : ImagePlan) (image : Image) (device now : List History) (steps : CommitSteps) (old : Stored)
    → IsNextImage m n plan image device old → HasFailed image device steps now → AfterEveryCrash (RepresentsOldOrTree old image.root n) now

abbrev pub TreeWhenDone : Type 0
TreeWhenDone = (m n : Mapping) (plan : ImagePlan) (image : Image) (device now : List History) (old : Stored)
    → IsNextImage m n plan image device old → CommitHasCome image device Done now → AfterEveryCrash (λ sectors. RepresentsTree sectors image.root n) now

-- ---- whole commits

-- where it has ended so, the new tree alone is there after every crash
abbrev pub TreeCommitted : Image → List History → List History → Type 0
TreeCommitted image before now = (m n : Mapping) (plan : ImagePlan) (old : Stored) → IsNextImage m n plan image before old
    → AfterEveryCrash (λ sectors. RepresentsTree sectors image.root n) now

-- where it has failed so, what was stored before or the new tree
abbrev pub TreeOrOld : Image → List History → List History → Type 0
TreeOrOld image before now = (m n : Mapping) (plan : ImagePlan) (old : Stored) → IsNextImage m n plan image before old
    → AfterEveryCrash (RepresentsOldOrTree old image.root n) now

-- the same of any image that may be committed
abbrev pub WantedCommitted : Image → List History → List History → Type 0
WantedCommitted image before now = (old : Stored) (found : Whole) (m : Mapping) → MayCommit image before old (Wanted image found m)
    → AfterEveryCrash (Wanted image found m) now

abbrev pub WantedOrOld : Image → List History → List History → Type 0
WantedOrOld image before now = (old : Stored) (found : Whole) (m : Mapping) → MayCommit image before old (Wanted image found m)
    → AfterEveryCrash (RepresentsOr old (Wanted image found m)) now

-- ---- round and round

-- what a formatted device stores
abbrev pub of_first : Root → Stored
of_first root = record { root = root; found = alone (nothing_found root) }

abbrev pub FormattedIsFirst : Type 0
FormattedIsFirst = (geometry : Geometry) (device : List History) (formatted : IsFormatted geometry device) → IsFirstRoot geometry formatted.root

abbrev pub FormattedIsEmpty : Type 0
FormattedIsEmpty = (geometry : Geometry) (device : List History) (formatted : IsFormatted geometry device)
    → AfterEveryCrash (λ sectors. RepresentsTree sectors formatted.root (empty_mapping geometry.cache_blocks)) device

-- a formatted device stores the empty mapping
abbrev pub FormattedStores : Type 0
FormattedStores = (geometry : Geometry) (device : List History) (formatted : IsFormatted geometry device) → length device ≡ geometry.meta_sectors
    → DeviceStores (empty_mapping geometry.cache_blocks) device (of_first formatted.root) []

-- one of which a crash leaves what reads give alone, stores the tree that is read of it
abbrev pub ReadStores : Type 0
ReadStores = (device : List History) (root : Root) (tree : Mapping) (dirty : Option (List Bool)) (used : List Place)
    → ((sectors : List Content) → MayLeave device sectors → sectors ≡ map newest device) → FitsDevice (length device) root tree used
    → (state : RepresentsState (map newest device) root tree dirty used) → DeviceStores tree device (record { root = root; found = state.found }) used

-- it stores what edits, any number of them, leave of the tree: also of edits that came while a commit ran
abbrev pub EditedStores : Type 0
EditedStores = (m n : Mapping) (device : List History) (old : Stored) (used : List Place) → DeviceStores m device old used
    → IsEdited m n → IsSound n → DeviceStores n device old used

-- places that are not used are free
abbrev pub UnusedAreFree : Type 0
UnusedAreFree = (m : Mapping) (device : List History) (old : Stored) (used free : List Place) → DeviceStores m device old used
    → AreUnusedFor m old.root.geometry used free → AreFree m old.root.geometry free

-- an image of the tree, on places that are not used, is the next
abbrev pub PlannedIsNext : Type 0
PlannedIsNext = (m n : Mapping) (plan : ImagePlan) (image : Image) (device : List History) (old : Stored) (used : List Place)
    → DeviceStores m device old used → IsPlanned None m n plan image used → Follows plan old used → IsNextImage m n plan image device old

-- once it is committed, the device stores the new tree, and the image's places are used
abbrev pub CommittedStores : Type 0
CommittedStores = (m n : Mapping) (plan : ImagePlan) (image : Image) (before now : List History) (old : Stored) → IsNextImage m n plan image before old
    → length now ≡ length before → AfterEveryCrash (λ sectors. RepresentsTree sectors image.root n) now
    → DeviceStores n now (record { root = image.root; found = alone (found_of image.root n) }) (used_places n)

-- ---- openings

-- the image of an opening may be committed, whatever nodes the tree has: with it in place the sectors represent the same
-- mapping by its root, with no dirty bits beside it, and store what they stored
abbrev pub OpeningMayCommit : Type 0
OpeningMayCommit = (m : Mapping) (image : Image) (device : List History) (old : Stored) (used : List Place) → DeviceStores m device old used
    → IsOpening image old.root → MayCommit image device old (Wanted image (alone old.found.mapping) m)

-- it has no node, so its nodes have places of the device
abbrev pub OpeningHasPlaces : Type 0
OpeningHasPlaces = (image : Image) (root : Root) → IsOpening image root → HavePlaces image.nodes.items root.geometry.meta_sectors

-- once it is committed, the device stores what it stored, by the new root
abbrev pub OpeningStores : Type 0
OpeningStores = (m : Mapping) (image : Image) (device now : List History) (old : Stored) (used : List Place) → DeviceStores m device old used
    → IsOpening image old.root → length now ≡ length device → AfterEveryCrash (Wanted image (alone old.found.mapping) m) now
    → DeviceStores m now (record { root = image.root; found = alone old.found.mapping }) used

-- ---- readings

abbrev pub OneRoot : Type 0
OneRoot = (sectors : List Content) (a b : Root) → IsNewestRoot sectors a → IsNewestRoot sectors b → a ≡ b

-- sectors represent one root and image
abbrev pub OneTree : Type 0
OneTree = (sectors : List Content) (a b : Root) (f g : Whole) → Represents sectors a f → Represents sectors b g → (a ≡ b) × (f ≡ g)

-- two readings of the same sectors give the same
abbrev pub OneState : Type 0
OneState = (sectors : List Content) (a b : Root) (t u : Mapping) (bits same : Option (List Bool)) (used also : List Place) → RepresentsState sectors a t bits used
    → RepresentsState sectors b u same also → (a ≡ b) × (t.entries ≡ u.entries) × (with_bits bits t.entries ≡ with_bits same u.entries) × (used ≡ also)

abbrev pub OneRefusal : Type 0
OneRefusal = (sectors : List Content) (a b : Refusal) → SpeaksOfSectors a → SpeaksOfSectors b → IsRefusedBy sectors a → IsRefusedBy sectors b → a ≡ b

abbrev pub StateAlone : Type 0
StateAlone = (sectors : List Content) (root : Root) (tree : Mapping) (dirty : Option (List Bool)) (used : List Place) (refusal : Refusal)
    → RepresentsState sectors root tree dirty used
    → SpeaksOfSectors refusal → ¬ IsRefusedBy sectors refusal

abbrev pub FittingAlone : Type 0
FittingAlone = (sectors : List Content) → HasFittingRoot sectors → (¬ HasNoRoot sectors) × (¬ HasOtherSize sectors)

-- sectors that represent a root and tree, and are as many as it says, are refused for nothing that stands there
abbrev pub TreeIsNotRefused : Type 0
TreeIsNotRefused = (sectors : List Content) (root : Root) (found : Whole) (refusal : Refusal) → Represents sectors root found
    → root.geometry.meta_sectors ≡ length sectors → SpeaksOfSectors refusal → ¬ IsRefusedBy sectors refusal

-- what is read after a commit that failed, or a crash within one, is what was stored before, or the new tree
abbrev pub OldOrTreeIsRead : Type 0
OldOrTreeIsRead = (sectors : List Content) (old : Stored) (root : Root) (m : Mapping) (r : Root) (tree : Mapping) (dirty : Option (List Bool)) (used : List Place)
    → RepresentsOldOrTree old root m sectors → (state : RepresentsState sectors r tree dirty used)
    → ((r ≡ old.root) × (state.found ≡ old.found)) ⊎ ((r ≡ root) × (state.found ≡ alone (found_of root m)))

-- and nothing of it is refused for what stands there
abbrev pub OldOrTreeIsNotRefused : Type 0
OldOrTreeIsNotRefused = (sectors : List Content) (old : Stored) (root : Root) (m : Mapping) (refusal : Refusal) → RepresentsOldOrTree old root m sectors
    → old.root.geometry.meta_sectors ≡ length sectors → root.geometry.meta_sectors ≡ length sectors → SpeaksOfSectors refusal
    → ¬ IsRefusedBy sectors refusal

-- ---- what sectors represent

abbrev pub StateIsRepresented : Type 0
StateIsRepresented = (sectors : List Content) (root : Root) (tree : Mapping) (dirty : Option (List Bool)) (used : List Place)
    (state : RepresentsState sectors root tree dirty used) → RepresentsReading sectors root (Ok (all_of state.found))

abbrev pub DamageIsRepresented : Type 0
DamageIsRepresented = (sectors : List Content) (place : Place) (damage : IsDamagedAt sectors place) → RepresentsReading sectors damage.root (Err place)

abbrev pub TreeIsRepresented : Type 0
TreeIsRepresented = (sectors : List Content) (root : Root) (found : Whole) → Represents sectors root found → RepresentsReading sectors root (Ok (all_of found))

abbrev pub OneReading : Type 0
OneReading = (sectors : List Content) (a b : Root) (x y : ReadOutcome) → RepresentsReading sectors a x → RepresentsReading sectors b y → (a ≡ b) × (x ≡ y)

-- it is what is read of all that the sectors spell
abbrev pub WholeIsRead : Type 0
WholeIsRead = (sectors : List Content) (nodes : Nodes) (root : Root) (reading : ReadOutcome) → RepresentsReading sectors root reading → AreNodes root.version sectors nodes
    → image_read root nodes ≡ reading
