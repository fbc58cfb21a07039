-- What one step does to a device, and which step of a commit comes next.
use Rattle.std.specs.Prelude.{◌≡◌, ◌⊎◌, ◌+◌, ◌%◌, ℕ, Bool, [], ◌∷◌, List, Option, Some, None, replicate, slice_get}
use Rattle.wb_types.specs.declared.number.Place.{Place}
use Rattle.wb_disk.specs.Device.{Content, History, PartlySynced, synced, written}
use Rattle.wb_disk.specs.Extents.{Call, Writing, Syncing, WrittenSo}
use Rattle.wb_disk.specs.Failing.{SyncedSo}
use Rattle.wb_format.specs.declared.node.Node.{Node}
use Rattle.wb_format.specs.declared.root.Root.{Root}
use Rattle.wb_format.specs.Layout.{SpellsNode, SpellsRoot}
use Rattle.wb_tree.specs.declared.image.Image.{Image}
use Rattle.wb_meta.specs.declared.commit_steps.CommitStep.{CommitStep}
use Rattle.wb_meta.specs.declared.commit_steps.CommitStep.TheVariants.{WriteNode, Sync, WriteRoot}
use Rattle.wb_meta.specs.declared.commit_steps.CommitSteps.{CommitSteps}
use Rattle.wb_meta.specs.declared.commit_steps.CommitSteps.TheVariants.{NodesWritten, NodesSynced, RootWritten, Done}

-- a sector of zeros
abbrev pub zero_sector : Content
zero_sector = replicate 512 0

-- such a content was written
pub record Puts (spells : Content → Type 0) (at : ℕ) (old new : List History) : Type 0 where
  pub content : Content
  pub spelled : spells content
  pub wrote : new ≡ written old at content

-- such a content was written, or nothing
abbrev pub MayPut : (Content → Type 0) → ℕ → List History → List History → Type 0
MayPut spells at old new = (new ≡ old) ⊎ Puts spells at old new

-- ---- the steps of a commit: each node in turn, a sync, the root, a sync

-- the slot of a root
abbrev pub slot_of : Root → Place
slot_of root = record { 0 = root.generation % 2 }

abbrev pub node_or_sync : Option (Place × Node) → Option CommitStep
node_or_sync (Some node) = Some (WriteNode node.0)
node_or_sync None = Some Sync

-- the step that comes next; none where the commit is done
abbrev pub coming_step : Image → CommitSteps → Option CommitStep
coming_step image (NodesWritten count) = node_or_sync (slice_get image.nodes.items count)
coming_step image NodesSynced = Some (WriteRoot (slot_of image.root))
coming_step image RootWritten = Some Sync
coming_step image Done = None

abbrev pub after_node : Option (Place × Node) → ℕ → CommitSteps
after_node (Some node) count = NodesWritten (count + 1)
after_node None count = NodesSynced

-- how far the commit has come with it
abbrev pub steps_after : Image → CommitSteps → CommitSteps
steps_after image (NodesWritten count) = after_node (slice_get image.nodes.items count) count
steps_after image NodesSynced = RootWritten
steps_after image RootWritten = Done
steps_after image Done = Done

abbrev pub NodeOrSync : Option (Place × Node) → List History → List History → Type 0
NodeOrSync (Some node) old new = Puts (λ content. SpellsNode content node.1) node.0.0 old new
NodeOrSync None old new = new ≡ synced old

-- what it does to the device
abbrev pub DoesStep : Image → CommitSteps → List History → List History → Type 0
DoesStep image (NodesWritten count) old new = NodeOrSync (slice_get image.nodes.items count) old new
DoesStep image NodesSynced old new = Puts (λ content. SpellsRoot content image.root) (slot_of image.root).0 old new
DoesStep image RootWritten old new = new ≡ synced old
DoesStep image Done old new = new ≡ old

abbrev pub MayNodeOrSync : Option (Place × Node) → List History → List History → Type 0
MayNodeOrSync (Some node) old new = MayPut (λ content. SpellsNode content node.1) node.0.0 old new
MayNodeOrSync None old new = PartlySynced old new

-- what it may do where it fails: put its sector or not, or sync a part
abbrev pub FailsStep : Image → CommitSteps → List History → List History → Type 0
FailsStep image (NodesWritten count) old new = MayNodeOrSync (slice_get image.nodes.items count) old new
FailsStep image NodesSynced old new = MayPut (λ content. SpellsRoot content image.root) (slot_of image.root).0 old new
FailsStep image RootWritten old new = PartlySynced old new
FailsStep image Done old new = ⊥

-- ---- where a disk that fails says how it lands

-- such a content has landed as a write of this sector may
abbrev pub PutSo : (Call → (ℕ → Bool) → Type 0) → (Content → Type 0) → ℕ → List History → List History → Type 0
PutSo may spells at old new = (content : Content) × spells content × WrittenSo (may (Writing at 1)) old at (content ∷ []) new

abbrev pub NodeOrSyncSo : (Call → (ℕ → Bool) → Type 0) → Option (Place × Node) → List History → List History → Type 0
NodeOrSyncSo may (Some node) old new = PutSo may (λ content. SpellsNode content node.1) node.0.0 old new
NodeOrSyncSo may None old new = SyncedSo (may Syncing) old new

-- what a step that fails leaves of the device, which fails so
abbrev pub FailsStepSo : (Call → (ℕ → Bool) → Type 0) → Image → CommitSteps → List History → List History → Type 0
FailsStepSo may image (NodesWritten count) old new = NodeOrSyncSo may (slice_get image.nodes.items count) old new
FailsStepSo may image NodesSynced old new = PutSo may (λ content. SpellsRoot content image.root) (slot_of image.root).0 old new
FailsStepSo may image RootWritten old new = SyncedSo (may Syncing) old new
FailsStepSo may image Done old new = ⊥
