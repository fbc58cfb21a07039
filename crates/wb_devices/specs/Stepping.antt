-- What one step of a table does to its device, and to the commit that runs.
use Rattle.std.specs.Prelude.{◌≡◌, ℕ, true, false, List, Option, Some, None, length, if◌then◌else◌}
use Rattle.wb_types.specs.declared.mode.Dev.TheVariants.{Metadata}
use Rattle.wb_disk.specs.Device.{History, Content as Bytes}
use Rattle.wb_tasks.specs.declared.step.DeviceStep.{DeviceStep}
use Rattle.wb_tasks.specs.declared.step.DeviceStep.TheVariants.{Read, Write, Sync, ReadMetadata, WriteNode, WriteRoot}
use Rattle.wb_tasks.specs.declared.step.Got.{Got}
use Rattle.wb_tasks.specs.declared.step.Got.TheVariants.{Fault}
use Rattle.wb_devices.specs.declared.running.RunningCommit.{RunningCommit}
use Rattle.wb_devices.specs.Moving.{DidRead, DidWrite, DidSync, Ways, ReadFails, WriteFails, SyncFails}
use Rattle.wb_devices.specs.Committing.{DidCommit, CommitStepFails, goes_on, steps_then}

-- the running commit after a step on the metadata device: its image stays, and where the step is its next one, it goes on
abbrev pub Goes : ℕ → Option RunningCommit → DeviceStep → Got → Option RunningCommit → Type 0
Goes size None step got commit' = commit' ≡ None
Goes size (Some commit) step got commit' = (later : RunningCommit) × (commit' ≡ Some later) × (later.image ≡ commit.image)
    × (later.steps ≡ (if goes_on size commit.image commit.steps step then steps_then got commit.image commit.steps else commit.steps))

-- other steps leave it
abbrev pub CommitGoes : ℕ → Option RunningCommit → DeviceStep → Got → Option RunningCommit → Type 0
CommitGoes size commit (Sync Metadata) got commit' = Goes size commit (Sync Metadata) got commit'
CommitGoes size commit (WriteNode number) got commit' = Goes size commit (WriteNode number) got commit'
CommitGoes size commit WriteRoot got commit' = Goes size commit WriteRoot got commit'
CommitGoes size commit step got commit' = commit' ≡ commit

-- A node or root is written where it comes next of the running commit; else nothing is, and the step fails.
abbrev pub DidPut : ℕ → Option RunningCommit → DeviceStep → Got → List History → ℕ → List History → ℕ → Type 0
DidPut size None step got old faults new faults' = (got ≡ Fault) × (new ≡ old) × (faults' ≡ faults)
DidPut size (Some commit) step got old faults new faults' =
    (goes_on size commit.image commit.steps step ≡ true → DidCommit commit.image commit.steps got old faults new faults')
    × (goes_on size commit.image commit.steps step ≡ false → (got ≡ Fault) × (new ≡ old) × (faults' ≡ faults))

-- What a step does to its device, of this size, contents and count of faults, with the buffer before and after it.
abbrev pub DidStep : Option RunningCommit → DeviceStep → Got → ℕ → List History → ℕ → List Bytes → List Bytes → List History → ℕ → Type 0
DidStep commit (Read device e) got size old faults buffer buffer' new faults' = DidRead e got size old faults buffer' new faults'
DidStep commit (Write device e) got size old faults buffer buffer' new faults' = DidWrite e got size buffer old faults new faults'
DidStep commit (Sync device) got size old faults buffer buffer' new faults' = DidSync got old faults new faults'
DidStep commit (ReadMetadata left) got size old faults buffer buffer' new faults' = (got ≡ Fault) × (new ≡ old) × (faults' ≡ faults)
DidStep commit (WriteNode number) got size old faults buffer buffer' new faults' = DidPut size commit (WriteNode number) got old faults new faults'
DidStep commit WriteRoot got size old faults buffer buffer' new faults' = DidPut size commit WriteRoot got old faults new faults'

-- only what is read changes the buffer
abbrev pub BufferStays : DeviceStep → List Bytes → List Bytes → Type 0
BufferStays (Read device e) buffer buffer' = length buffer' ≡ length buffer
BufferStays step buffer buffer' = buffer' ≡ buffer

-- ---- where a device that fails says how it lands

-- a node or root that comes next of the running commit was written as the device may fail
abbrev pub PutFails : Ways → ℕ → Option RunningCommit → DeviceStep → Got → List History → List History → Type 0
PutFails may size None step got old new = Unit {0}
PutFails may size (Some commit) step got old new = goes_on size commit.image commit.steps step ≡ true → CommitStepFails may commit.image commit.steps got old new

-- What a step that fails leaves of its device.
abbrev pub StepFails : Ways → Option RunningCommit → DeviceStep → Got → ℕ → List History → List Bytes → List History → Type 0
StepFails may commit (Read device e) got size old buffer new = ReadFails may e got size buffer
StepFails may commit (Write device e) got size old buffer new = WriteFails may e got size buffer old new
StepFails may commit (Sync device) got size old buffer new = SyncFails may got old new
StepFails may commit (ReadMetadata left) got size old buffer new = Unit {0}
StepFails may commit (WriteNode number) got size old buffer new = PutFails may size commit (WriteNode number) got old new
StepFails may commit WriteRoot got size old buffer new = PutFails may size commit WriteRoot got old new
