-- What a step that fails as its disk may leaves is what it may leave on any disk.
use Rattle.std.proofs.Common.{◌≡◌, ℕ, Bool, true, false, if◌then◌else◌, List, Option, Some, None, slice_get, inl, inr}
use Rattle.wb_types.specs.declared.number.Place.{Place}
use Rattle.wb_disk.specs.Device.{Content, History, written}
use Rattle.wb_disk.specs.Extents.{Call, Syncing}
use Rattle.wb_disk.proofs.FailedSyncs.{partly_so}
use Rattle.wb_format.specs.declared.node.Node.{Node}
use Rattle.wb_format.specs.Layout.{SpellsNode, SpellsRoot}
use Rattle.wb_tree.specs.declared.image.Image.{Image}
use Rattle.wb_meta.specs.declared.commit_steps.CommitSteps.{CommitSteps}
use Rattle.wb_meta.specs.declared.commit_steps.CommitSteps.TheVariants.{NodesWritten, NodesSynced, RootWritten, Done}
use Rattle.wb_meta.specs.Steps.{FailsStep, FailsStepSo, MayNodeOrSync, MayPut, NodeOrSyncSo, PutSo, slot_of}

put_or_not : (landed : Bool) (spells : Content → Type 0) (at : ℕ) (old new : List History) (content : Content) → spells content → new ≡ (if landed then written old at content else old) → MayPut spells at old new
put_or_not true spells at old new content spelled e = inr (record { content = content; spelled = spelled; wrote = e })
put_or_not false spells at old new content spelled e = inl e

-- a sector has its new content, or nothing was written
pub put_left : (may : Call → (ℕ → Bool) → Type 0) (spells : Content → Type 0) (at : ℕ) (old new : List History) → PutSo may spells at old new → MayPut spells at old new
put_left may spells at old new put = put_or_not (put.2.0 at) spells at old new put.0 put.1 put.2.2

node_left : (may : Call → (ℕ → Bool) → Type 0) (o : Option (Place × Node)) (old new : List History) → NodeOrSyncSo may o old new → MayNodeOrSync o old new
node_left may (Some node) old new fails = put_left may (λ content. SpellsNode content node.1) node.0.0 old new fails
node_left may None old new fails = partly_so (may Syncing) old new fails

-- a step of a commit
pub step_left : (may : Call → (ℕ → Bool) → Type 0) (image : Image) (steps : CommitSteps) (old new : List History) → FailsStepSo may image steps old new → FailsStep image steps old new
step_left may image (NodesWritten count) old new fails = node_left may (slice_get image.nodes.items count) old new fails
step_left may image NodesSynced old new fails = put_left may (λ content. SpellsRoot content image.root) (slot_of image.root).0 old new fails
step_left may image RootWritten old new fails = partly_so (may Syncing) old new fails
step_left may image Done old new fails = absurd fails
