-- How far a commit has come, as the device shows it.
use Rattle.std.specs.Prelude.{◌≡◌, ◌⊎◌, ◌+◌, ◌-◌, ℕ, List, Some, length, slice_get, Contains}
use Rattle.wb_disk.specs.Device.{Content, History, entries, newest}
use Rattle.wb_tree.specs.declared.image.Image.{Image}
use Rattle.wb_meta.specs.declared.commit_steps.CommitSteps.{CommitSteps}
use Rattle.wb_meta.specs.declared.commit_steps.CommitSteps.TheVariants.{NodesWritten, NodesSynced, RootWritten, Done}
use Rattle.wb_meta.specs.Placing.{IsNodeHere, IsOfImage, FitsNodes, FitsRoot}

-- every content that a sector may have after a crash is so
abbrev pub Every : (ℕ → Content → Type 0) → List History → Type 0
Every Is device = (at : ℕ) (h : History) (content : Content) → slice_get device at ≡ Some h → Contains (entries h) content → Is at content

-- every content that a read gives is so
abbrev pub Newest : (ℕ → Content → Type 0) → List History → Type 0
Newest Is device = (at : ℕ) (h : History) → slice_get device at ≡ Some h → Is at (newest h)

-- the sector had this content before
abbrev pub WasThere : List History → ℕ → Content → Type 0
WasThere before at content = (h : History) → slice_get before at ≡ Some h → Contains (entries h) content

-- the sectors have no other contents than before and these
pub record Grew (by : ℕ → Content → Type 0) (before now : List History) : Type 0 where
  pub size : length now ≡ length before
  pub each : Every (λ at content. WasThere before at content ⊎ by at content) now

-- So many nodes were written.
pub record WroteNodes (image : Image) (before : List History) (count : ℕ) (now : List History) : Type 0 where
  pub grew : Grew (IsNodeHere image.nodes.items) before now
  pub nodes : Newest (FitsNodes image.nodes.items count) now

-- The nodes are safe, and no root was written.
pub record SyncedNodes (image : Image) (before now : List History) : Type 0 where
  pub grew : Grew (IsNodeHere image.nodes.items) before now
  pub nodes : Every (FitsNodes image.nodes.items (length image.nodes.items)) now

-- The nodes are safe, and the root may have been written.
pub record MayHaveRoot (image : Image) (before now : List History) : Type 0 where
  pub grew : Grew (IsOfImage image) before now
  pub nodes : Every (FitsNodes image.nodes.items (length image.nodes.items)) now

-- The root was written.
pub record WroteRoot (image : Image) (before now : List History) : Type 0 where
  pub safe : MayHaveRoot image before now
  pub root : Newest (FitsRoot image.root) now

-- The root is safe.
pub record SyncedRoot (image : Image) (before now : List History) : Type 0 where
  pub safe : MayHaveRoot image before now
  pub root : Every (FitsRoot image.root) now

-- a commit that began over this device has come so far
abbrev pub CommitHasCome : Image → List History → CommitSteps → List History → Type 0
CommitHasCome image before (NodesWritten count) now = WroteNodes image before count now
CommitHasCome image before NodesSynced now = SyncedNodes image before now
CommitHasCome image before RootWritten now = WroteRoot image before now
CommitHasCome image before Done now = SyncedRoot image before now

-- the root was not written yet
abbrev pub IsBeforeRoot : CommitSteps → Type 0
IsBeforeRoot (NodesWritten count) = Unit {0}
IsBeforeRoot NodesSynced = Unit {0}
IsBeforeRoot RootWritten = ⊥
IsBeforeRoot Done = ⊥

-- a commit that began over this device and had come so far has failed at its next step
abbrev pub HasFailed : Image → List History → CommitSteps → List History → Type 0
HasFailed image before (NodesWritten count) now = Grew (IsNodeHere image.nodes.items) before now
HasFailed image before NodesSynced now = MayHaveRoot image before now
HasFailed image before RootWritten now = MayHaveRoot image before now
HasFailed image before Done now = ⊥

-- how many steps are left of a commit of so many nodes
abbrev pub steps_left : ℕ → CommitSteps → ℕ
steps_left nodes (NodesWritten count) = (nodes - count) + 3
steps_left nodes NodesSynced = 2
steps_left nodes RootWritten = 1
steps_left nodes Done = 0

-- ---- one step

-- one step less is left
abbrev pub IsOneStepLess : Image → CommitSteps → CommitSteps → Type 0
IsOneStepLess image old new = steps_left (length image.nodes.items) new ≡ steps_left (length image.nodes.items) old - 1

-- whatever device the commit began over, it came from where it had come to where it has come now
abbrev pub Comes : Image → CommitSteps → List History → CommitSteps → List History → Type 0
Comes image old was new now = (before : List History) → CommitHasCome image before old was → CommitHasCome image before new now

-- or it failed there
abbrev pub FailsWhere : Image → CommitSteps → List History → List History → Type 0
FailsWhere image old was now = (before : List History) → CommitHasCome image before old was → HasFailed image before old now
