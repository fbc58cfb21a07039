-- What a step of a running commit does: to the commit, and to the metadata device.
use Rattle.std.specs.Prelude.{◌≡◌, ◌==◌, ◌&&◌, ℕ, Bool, true, false, List, is_some, is_none, slice_get}
use Rattle.wb_types.specs.declared.mode.Dev.TheVariants.{Metadata}
use Rattle.wb_disk.specs.Device.{History, OneMore}
use Rattle.wb_tree.specs.declared.image.Image.{Image}
use Rattle.wb_meta.specs.declared.commit_steps.CommitSteps.{CommitSteps}
use Rattle.wb_meta.specs.declared.commit_steps.CommitSteps.TheVariants.{NodesWritten, NodesSynced, RootWritten, Done as Committed}
use Rattle.wb_meta.specs.Steps.{DoesStep, FailsStep, FailsStepSo, steps_after}
use Rattle.wb_tasks.specs.declared.step.DeviceStep.{DeviceStep}
use Rattle.wb_tasks.specs.declared.step.DeviceStep.TheVariants.{Sync, WriteNode, WriteRoot}
use Rattle.wb_tasks.specs.declared.step.Got.{Got}
use Rattle.wb_tasks.specs.declared.step.Got.TheVariants.{Done, Fault}
use Rattle.wb_devices.specs.Moving.{Ways}

-- The step of a table is the one that comes next of the commit: this node, a sync behind the last node, the root, a sync.
abbrev pub is_coming : Image → CommitSteps → DeviceStep → Bool
is_coming image (NodesWritten count) (WriteNode number) = (number == count) && is_some (slice_get image.nodes.items count)
is_coming image (NodesWritten count) (Sync Metadata) = is_none (slice_get image.nodes.items count)
is_coming image NodesSynced WriteRoot = true
is_coming image RootWritten (Sync Metadata) = true
is_coming image steps step = false

-- and the device is of the size that the image is for
abbrev pub goes_on : ℕ → Image → CommitSteps → DeviceStep → Bool
goes_on size image steps step = is_coming image steps step && (size == image.root.geometry.meta_sectors)

-- how far a commit is after a step with this result
abbrev pub steps_then : Got → Image → CommitSteps → CommitSteps
steps_then Done image steps = steps_after image steps
steps_then got image steps = steps

-- What a step that comes next of a commit does to the device: what wb_meta says of it, done or failed.
abbrev pub DidCommit : Image → CommitSteps → Got → List History → ℕ → List History → ℕ → Type 0
DidCommit image steps Done old faults new faults' = DoesStep image steps old new × (faults' ≡ faults)
DidCommit image steps Fault old faults new faults' = FailsStep image steps old new × OneMore faults faults'
DidCommit image steps got old faults new faults' = ⊥

-- a step that comes next of a commit failed as its device may
abbrev pub CommitStepFails : Ways → Image → CommitSteps → Got → List History → List History → Type 0
CommitStepFails may image steps Fault old new = FailsStepSo may image steps old new
CommitStepFails may image steps got old new = Unit {0}

-- all of the commit was done
abbrev pub is_committed : CommitSteps → Bool
is_committed (NodesWritten count) = false
is_committed NodesSynced = false
is_committed RootWritten = false
is_committed Committed = true
