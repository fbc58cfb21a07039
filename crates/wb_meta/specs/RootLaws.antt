-- The laws of what a metadata device may be read as, by name.
use Rattle.std.specs.Prelude.{◌≡◌, ◌⊎◌, ℕ, Bool, List, Option, Some, None, length, map}
use Rattle.wb_types.specs.declared.geometry.Geometry.{Geometry}
use Rattle.wb_types.specs.declared.number.Place.{Place}
use Rattle.wb_types.specs.declared.refusal.Refusal.{Refusal}
use Rattle.wb_disk.specs.Device.{History, Crashed, PartlySynced, newest, synced}
use Rattle.wb_format.specs.declared.root.Root.{Root}
use Rattle.wb_tree.specs.declared.image.Image.{Image}
use Rattle.wb_tree.specs.Mapping.{Mapping}
use Rattle.wb_tree.specs.Images.{ImagePlan}
use Rattle.wb_dirty.specs.ImageReading.{with_bits}
use Rattle.wb_meta.specs.declared.commit_steps.CommitSteps.{CommitSteps}
use Rattle.wb_meta.specs.declared.commit_steps.CommitSteps.TheVariants.{NodesWritten, NodesSynced, Done}
use Rattle.wb_meta.specs.Representing.{Stored}
use Rattle.wb_meta.specs.Steps.{DoesStep, FailsStep, steps_after}
use Rattle.wb_meta.specs.Commits.{CommitHasCome, HasFailed, IsBeforeRoot}
use Rattle.wb_meta.specs.Imaging.{DeviceStores, IsPlanned, Follows}
use Rattle.wb_meta.specs.Openings.{IsOpening}
use Rattle.wb_meta.specs.Reads.{FitsDevice}
use Rattle.wb_meta.specs.States.{RepresentsState, SpeaksOfSectors, IsRefusedBy}
use Rattle.wb_meta.specs.Roots.{MayBeReadAs, IsSettled, Commit, CanBeMade, commit_of, opening_of}

-- ---- commits

-- a commit of the next image begins, of the tree alone or with dirty bits beside it
abbrev pub CommitBegins : Type 0
CommitBegins = (bits : Option (List Bool)) (m n : Mapping) (plan : ImagePlan) (image : Image) (device : List History) (old : Stored) (used : List Place) → DeviceStores m device old used
    → IsPlanned bits m n plan image used → Follows plan old used → CanBeMade (commit_of bits image n old device) × CommitHasCome image device (NodesWritten 0) device

-- so does that of an opening's root
abbrev pub OpeningBegins : Type 0
OpeningBegins = (tree : Mapping) (image : Image) (device : List History) (old : Stored) (used : List Place) → DeviceStores tree device old used
    → IsOpening image old.root → CanBeMade (opening_of image tree used old device) × CommitHasCome image device NodesSynced device

-- a step leads it on
abbrev pub CommitGoesOn : Type 0
CommitGoesOn = (c : Commit) (steps : CommitSteps) (now new : List History) → CanBeMade c → CommitHasCome c.image c.before steps now
    → DoesStep c.image steps now new → CommitHasCome c.image c.before (steps_after c.image steps) new

-- or fails
abbrev pub CommitFails : Type 0
CommitFails = (c : Commit) (steps : CommitSteps) (now new : List History) → CanBeMade c → CommitHasCome c.image c.before steps now
    → FailsStep c.image steps now new → HasFailed c.image c.before steps new

-- however far it has come, the device is read as the old state or the new one
abbrev pub OneOfTwoDuring : Type 0
OneOfTwoDuring = (c : Commit) (steps : CommitSteps) (now : List History) → CanBeMade c → CommitHasCome c.image c.before steps now
    → MayBeReadAs c.old.root.geometry c.old (Some c.new) now

-- until the root is written, as the old one
abbrev pub OldBeforeRoot : Type 0
OldBeforeRoot = (c : Commit) (steps : CommitSteps) (now : List History) → CanBeMade c → IsBeforeRoot steps → CommitHasCome c.image c.before steps now
    → MayBeReadAs c.old.root.geometry c.old None now

-- the same after a failure
abbrev pub OneOfTwoAfterFailure : Type 0
OneOfTwoAfterFailure = (c : Commit) (steps : CommitSteps) (now : List History) → CanBeMade c → HasFailed c.image c.before steps now
    → MayBeReadAs c.old.root.geometry c.old (Some c.new) now

abbrev pub OldAfterFailedNode : Type 0
OldAfterFailedNode = (c : Commit) (count : ℕ) (now : List History) → CanBeMade c → HasFailed c.image c.before (NodesWritten count) now
    → MayBeReadAs c.old.root.geometry c.old None now

-- once it is done, the device stores the tree by the new state
abbrev pub StoresWhenDone : Type 0
StoresWhenDone = (c : Commit) (now : List History) → CanBeMade c → CommitHasCome c.image c.before Done now → DeviceStores c.tree now c.new c.used

-- ---- no commit

-- what is stored is what is read
abbrev pub StoredIsRead : Type 0
StoredIsRead = (m : Mapping) (device : List History) (state : Stored) (used : List Place) → DeviceStores m device state used
    → MayBeReadAs state.root.geometry state None device

-- One of the two is read: after a crash or a sync it is known which.
abbrev pub IsDecided : Geometry → Stored → Option Stored → List History → Type 0
IsDecided geometry committed later device = IsSettled device
    × (MayBeReadAs geometry committed None device ⊎ ((state : Stored) × (later ≡ Some state) × MayBeReadAs geometry state None device))

abbrev pub CrashDecides : Type 0
CrashDecides = (geometry : Geometry) (committed : Stored) (later : Option Stored) (device crashed : List History)
    → MayBeReadAs geometry committed later device → Crashed device crashed → IsDecided geometry committed later crashed

abbrev pub SyncDecides : Type 0
SyncDecides = (geometry : Geometry) (committed : Stored) (later : Option Stored) (device : List History)
    → MayBeReadAs geometry committed later device → IsDecided geometry committed later (synced device)

-- a sync that fails decides nothing, and brings nothing in
abbrev pub FailedSyncLeaves : Type 0
FailedSyncLeaves = (geometry : Geometry) (committed : Stored) (later : Option Stored) (device new : List History)
    → MayBeReadAs geometry committed later device → PartlySynced device new → MayBeReadAs geometry committed later new

-- ---- what is read

-- What is read of a device that is settled is that state, and the device stores the tree that was read.
abbrev pub ReadIsCommitted : Type 0
ReadIsCommitted = (geometry : Geometry) (committed : Stored) (device : List History) (root : Root) (tree : Mapping) (dirty : Option (List Bool)) (used : List Place)
    → MayBeReadAs geometry committed None device → IsSettled device → RepresentsState (map newest device) root tree dirty used
    → FitsDevice (length device) root tree used → (root ≡ committed.root) × (with_bits dirty tree.entries ≡ committed.found.entries)
    × (tree.entries ≡ committed.found.mapping.entries) × DeviceStores tree device committed used

-- the root that is found is that state's, which is of this geometry; and nothing that stands there is a reason to refuse it
abbrev pub NothingIsRefused : Type 0
NothingIsRefused = (geometry : Geometry) (committed : Stored) (device : List History) (refusal : Refusal) → MayBeReadAs geometry committed None device
    → SpeaksOfSectors refusal → ¬ IsRefusedBy (map newest device) refusal
