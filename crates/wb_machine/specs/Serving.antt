-- What a start or a step of an actor does over a target that stands.
use Rattle.std.specs.Prelude.{◌≡◌, ◌≤◌, ◌+◌, ◌⊎◌, ℕ, Bool, true, false, if◌then◌else◌, length, List, [], ◌∷◌, Option, Some, None, is_none, is_some, slice_get, slice_set, IfSome}
use Rattle.std.specs.declared.alloc.Global.{Global}
use Rattle.wb_types.specs.Extents.{pieces}
use Rattle.wb_types.specs.Limits.{most_nodes}
use Rattle.wb_types.specs.declared.entry.Entry.{Entry}
use Rattle.wb_types.specs.declared.extent.Extent.{Extent}
use Rattle.wb_types.specs.declared.geometry.Geometry.{Geometry}
use Rattle.wb_types.specs.declared.mode.Mode.{Mode}
use Rattle.wb_types.specs.declared.mode.Dev.{Dev}
use Rattle.wb_types.specs.declared.mode.Dev.TheVariants.{Metadata}
use Rattle.wb_disk.specs.Device.{Content as Bytes, History}
use Rattle.wb_disk.specs.Memory.{Memory, HasRoomFor}
use Rattle.wb_disk.specs.Crash.{Choice}
use Rattle.wb_disk.specs.Failing.{lands}
use Rattle.wb_words.specs.SharedWords.{Words, flag}
use Rattle.wb_words.specs.declared.step.CellStep.{CellStep}
use Rattle.wb_words.specs.declared.step.CellStep.TheVariants.{SetFailed, SetSuspended}
use Rattle.wb_cells.specs.Crews.{CrewState, crew_after}
use Rattle.wb_policy.specs.declared.quiet.Quiet.{Quiet}
use Rattle.wb_tree.specs.declared.image.Image.{Image}
use Rattle.wb_meta.specs.Steps.{coming_step}
use Rattle.wb_meta.specs.declared.commit_steps.CommitSteps.{CommitSteps}
use Rattle.wb_meta.specs.declared.commit_steps.CommitSteps.TheVariants.{NodesWritten, NodesSynced}
use Rattle.wb_tasks.specs.Plan.{Plan, Fits, IsStep, table, want, device_of}
use Rattle.wb_tasks.specs.Ready.{HoldsBlocks}
use Rattle.wb_tasks.specs.declared.step.DeviceStep.{DeviceStep}
use Rattle.wb_tasks.specs.declared.step.DeviceStep.TheVariants.{Read as ReadExtent, Write as WriteExtent, Sync, ReadMetadata, WriteNode, WriteRoot}
use Rattle.wb_tasks.specs.declared.step.DeskStep.{DeskStep}
use Rattle.wb_tasks.specs.declared.step.DeskStep.TheVariants.{Map, Unmap, ReleaseOrder, Arrive, Ask, BeginCommit, EndCommit}
use Rattle.wb_tasks.specs.declared.step.Answer.TheVariants.{Done as Finished}
use Rattle.wb_tasks.specs.declared.step.Want.{Want}
use Rattle.wb_tasks.specs.declared.step.Want.TheVariants.{Cell, Device, Desk, End}
use Rattle.wb_tasks.specs.declared.step.Got.{Got}
use Rattle.wb_tasks.specs.declared.step.Got.TheVariants.{Done, Fault}
use Rattle.wb_desk.specs.Calls.{reserved}
use Rattle.wb_desk.specs.Desks.{DeskState, MayReserve}
use Rattle.wb_policy.specs.declared.order.Order.{Order}
use Rattle.wb_policy.specs.declared.order.Order.TheVariants.{Replace as ReplaceOrder}
use Rattle.wb_tasks.specs.Tables.{whole_block}
use Rattle.wb_types.specs.declared.number.CBlock.{CBlock}
use Rattle.wb_types.specs.declared.number.OBlock.{OBlock}
use Rattle.wb_types.specs.declared.refusal.Refusal.TheVariants.{Busy}
use Rattle.wb_words.specs.declared.card.Card.{Card}
use Rattle.wb_devices.specs.declared.devices.Devices.{Devices}
use Rattle.wb_devices.specs.declared.running.RunningCommit.{RunningCommit}
use Rattle.wb_devices.specs.Committing.{goes_on}
use Rattle.wb_devices.specs.Moving.{device_in}
use Rattle.wb_promise.specs.declared.job.Job.{Job}
use Rattle.wb_promise.specs.declared.job.Job.TheVariants.{Read, Write, Flush, Suspend, Open, Invalidate, Migrate, Replace}
use Rattle.wb_promise.specs.declared.event.What.{What}
use Rattle.wb_promise.specs.declared.event.What.TheVariants.{Skipped, Refused, Started, Stepped}
use Rattle.wb_stage.specs.Sharing.{share_then}
use Rattle.wb_stage.specs.Stages.{DidAsk, DidBeginWith, is_all_done}
use Rattle.wb_stage.specs.declared.share.Share.{Share}
use Rattle.wb_promise.specs.States.{Shape, Actor, Stands, Gone, Target as RunTarget, block_size}
use Rattle.wb_promise.specs.Happenings.{Chosen, Plain, Orders, Looks, Puts, AreMapped, Awaits, Gives, IsNextOf, MayFailAt, Falters, KeepsMigration, KeepsReplacement, StartGives, begun_as, extent_of, order_for, task_job, sector_put}
use Rattle.wb_meta.specs.declared.read_steps.ReadSteps.{ReadSteps}
use Rattle.wb_runs.specs.Holding.{AllSuited}
use Rattle.wb_runs.specs.Laws.{FindsSizes}
use Rattle.wb_promise.specs.Effects.{buffer_then, commit_then, contents_at, contents_for, cut_of, desk_then, device_done, device_failed, devices_then, job_of, looks_of, awaiting_then, orders_given, orders_then, seen_then, task_then, unseen}
use Rattle.wb_machine.specs.declared.phase.Phase.{Phase}
use Rattle.wb_machine.specs.declared.phase.Phase.TheVariants.{Standing, Underway}
use Rattle.wb_machine.specs.declared.opener.Opener.{Opener}
use Rattle.wb_machine.specs.Making.{reading_of}
use Rattle.wb_machine.specs.declared.target.Target.{Target}
use Rattle.wb_machine.specs.Life.{Now, contents_of}
use Rattle.wb_machine.specs.Members.{Member, seat, somebody_works, with_cards, works_there}

-- ---- starts

-- one step moves one sector, in rising order
abbrev pub cut_for : Shape → Job → List Extent
cut_for shape (Migrate migration block) = pieces 1 (whole_block (block_size shape) block)
cut_for shape (Replace old new) = pieces 1 (whole_block (block_size shape) old)
cut_for shape job = pieces 1 (extent_of job)

-- a job runs under an order
abbrev pub is_ordered : Job → Bool
is_ordered (Migrate migration block) = true
is_ordered (Replace old new) = true
is_ordered job = false

-- the order under which a job runs that takes this cache block, if it is a migration or a replacement
abbrev pub order_by : Job → CBlock → Option Order
order_by (Migrate migration block) cache = Some (order_for migration block)
order_by (Replace old new) cache = Some (ReplaceOrder old new cache)
order_by job cache = None

-- a job may start under one of these orders
abbrev pub KeepsFor : DeskState Quiet → List Order → Job → Type 0
KeepsFor desk kept (Migrate migration block) = KeepsMigration desk kept migration block
KeepsFor desk kept (Replace old new) = KeepsReplacement desk kept old new
KeepsFor desk kept job = ⊥

-- the desk once an order was given with a job
abbrev pub desk_given : DeskState Quiet → Job → Chosen Quiet Global → DeskState Quiet
desk_given desk (Migrate migration block) (Orders cut cache) = reserved desk cache (order_for migration block) false
desk_given desk (Replace old new) (Orders cut cache) = reserved desk cache (ReplaceOrder old new cache) false
desk_given desk job chosen = desk

-- what is at this job from now on, over a target of this mode
abbrev pub member_given : Shape → Mode → Member → Job → Chosen Quiet Global → Member
member_given shape mode m job chosen = record {
  task = Some (begun_as job, table (task_job shape mode m.awaiting job (cut_of chosen) (looks_of chosen)));
  orders = orders_given m.orders job chosen;
  awaiting = m.awaiting;
  buffer = m.buffer;
  seen = unseen shape job m.seen;
  share = m.share;
}

-- What a start that is not skipped leaves of the desk and of who starts: an order may be given.
abbrev pub LeavesStarted : Shape → DeskState Quiet → Member → Job → What → Chosen Quiet Global → DeskState Quiet → Member → Type 0
LeavesStarted shape desk m job Started chosen desk' m' = (desk' ≡ desk_given desk job chosen) × (m' ≡ member_given shape desk.mode m job chosen)
LeavesStarted shape desk m job (Refused refusal) chosen desk' m' = (desk' ≡ desk) × (m' ≡ m)
LeavesStarted shape desk m job what chosen desk' m' = ⊥

-- what a start comes to, by what was free at it, of an actor that is at nothing, over a target with this desk
pub record GetsJob (shape : Shape) (desk : DeskState Quiet) (m : Member) (job : Job) (what : What) (desk' : DeskState Quiet) (m' : Member) : Type 0 where
  pub chosen : Chosen Quiet Global
  pub gives : (words : Words) (card : Card) → StartGives shape (Stands (record { words = words; desk = desk })) (Some (seat m card)) job what chosen
  pub leaves : LeavesStarted shape desk m job what chosen desk' m'

-- it is skipped
pub record IsPassed (desk : DeskState Quiet) (m : Member) (what : What) (desk' : DeskState Quiet) (m' : Member) : Type 0 where
  pub what_is : what ≡ Skipped
  pub desk_is : desk' ≡ desk
  pub member_is : m' ≡ m

abbrev pub StartsIf : Bool → Shape → DeskState Quiet → Member → Job → What → DeskState Quiet → Member → Type 0
StartsIf true shape desk m job what desk' m' = GetsJob shape desk m job what desk' m'
StartsIf false shape desk m job what desk' m' = IsPassed desk m what desk' m'

-- a start by who is at nothing, and any other
abbrev pub Starts : Shape → DeskState Quiet → Member → Job → What → DeskState Quiet → Member → Type 0
Starts shape desk m job what desk' m' = StartsIf (is_none m.task) shape desk m job what desk' m'

-- the block of an entry, if there is one
abbrev pub block_of_entry : Option Entry → List OBlock
block_of_entry None = []
block_of_entry (Some entry) = entry.origin ∷ []

-- What the start of a suspend comes to where nobody suspends the target: it is skipped where who starts it is at something, refused where another
-- is, and begins else to look at what is mapped, having seen nothing.
abbrev pub StartsSuspend : Shape → DeskState Quiet → List Member → ℕ → What → List Member → Type 0
StartsSuspend shape desk members a Skipped members' = (works_there members a ≡ true) × (members' ≡ members)
StartsSuspend shape desk members a (Refused Busy) members' = (works_there members a ≡ false) × (somebody_works members ≡ true) × (members' ≡ members)
StartsSuspend shape desk members a Started members' = (somebody_works members ≡ false) × ((looks : List OBlock) × AreMapped desk looks
    × ((m : Member) × (slice_get members a ≡ Some m) × (members' ≡ slice_set members a (member_given shape desk.mode m Suspend (Looks looks)))))
StartsSuspend shape desk members a what members' = ⊥

-- An order is given, and taken as the newest; or it may not be given, whatever cache block it took.
abbrev pub GetsOrder : DeskState Quiet → Member → Order → Bool → DeskState Quiet → Member → Type 0
GetsOrder desk m order true desk' m' = (cache : CBlock) × MayReserve desk cache order × (desk' ≡ reserved desk cache order false) × (m' ≡ record m { orders = order ∷ m.orders })
GetsOrder desk m order false desk' m' = ((cache : CBlock) → ¬ MayReserve desk cache order) × (desk' ≡ desk) × (m' ≡ m)

-- A job may start under an order that who starts it has, or is given now; or none may be given.
abbrev pub TakesOrder : DeskState Quiet → Member → Job → Bool → DeskState Quiet → Member → Type 0
TakesOrder desk m job true desk' m' = (KeepsFor desk m.orders job × (desk' ≡ desk) × (m' ≡ m))
    ⊎ ((cache : CBlock) × ((order : Order) × (order_by job cache ≡ Some order) × MayReserve desk cache order × (desk' ≡ reserved desk cache order false) × (m' ≡ record m { orders = order ∷ m.orders })))
TakesOrder desk m job false desk' m' = (¬ KeepsFor desk m.orders job) × ((cache : CBlock) (order : Order) → order_by job cache ≡ Some order → ¬ MayReserve desk cache order) × (desk' ≡ desk) × (m' ≡ m)

-- the orders of which a step of a job may give one up
abbrev pub may_give_up : Job → (orders awaiting : List Order) → List Order
may_give_up Flush orders awaiting = awaiting
may_give_up job orders awaiting = orders

-- an actor at this job has these to give up, has seen this of the copies in the cache, and has this of the commits that others lead
abbrev pub HasAtHand : Job → Actor → List Order → List Bool → Share → Type 0
HasAtHand job x held seen share = (may_give_up job x.orders x.awaiting ≡ held) × (x.seen ≡ seen) × (x.share ≡ share)

-- ---- steps

abbrev pub Reads : Job → Type 0
Reads (Read extent) = Unit {0}
Reads (Migrate migration block) = Unit {0}
Reads job = ⊥

abbrev pub Writes : Job → Type 0
Writes (Write extent content) = Unit {0}
Writes (Migrate migration block) = Unit {0}
Writes job = ⊥

abbrev pub Migrates : Job → Type 0
Migrates (Migrate migration block) = Unit {0}
Migrates job = ⊥

-- a migration takes a block out of the cache, and in passthrough a write or an invalidation
abbrev pub Unmaps : Job → Type 0
Unmaps (Migrate migration block) = Unit {0}
Unmaps (Write extent content) = Unit {0}
Unmaps (Invalidate block) = Unit {0}
Unmaps job = ⊥

-- a migration or a flush may give up an order
abbrev pub GivesUp : Job → Type 0
GivesUp (Migrate migration block) = Unit {0}
GivesUp Flush = Unit {0}
GivesUp job = ⊥

-- a read of no sector may be of any place, but for a migration's
abbrev pub ReadsInside : Job → Extent → ℕ → Type 0
ReadsInside (Migrate migration block) e sectors = e.first + e.count ≤ sectors
ReadsInside job e sectors = 1 ≤ e.count → e.first + e.count ≤ sectors

-- a step reads what a migration writes next
abbrev pub is_copied : Job → Want → Bool
is_copied (Migrate migration block) (Device (ReadExtent device e)) = true
is_copied job next = false

-- what is noted of what a step has read: nothing where it is what a migration writes next
abbrev pub noted_read : Job → Want → List Bytes → List Bytes
noted_read job next read = if is_copied job next then [] else read

abbrev pub Opens : Job → Type 0
Opens (Open mode second) = Unit {0}
Opens job = ⊥

-- the step comes next of the commit that runs
abbrev pub ComesNext : Option RunningCommit → DeviceStep → List History → Type 0
ComesNext commit step device = IsNextOf commit step device (λ running. Unit {0})

-- where the step writes a node or a root, it comes next of the commit
abbrev pub PutComes : DeviceStep → Option RunningCommit → List History → Type 0
PutComes (WriteNode number) commit device = ComesNext commit (WriteNode number) device
PutComes WriteRoot commit device = ComesNext commit WriteRoot device
PutComes step commit device = Unit {0}

-- where a commit runs, so does a sync of the metadata
abbrev pub SyncComes : Dev → Option RunningCommit → List History → Type 0
SyncComes Metadata commit device = IfSome commit (λ running. goes_on (length device) running.image running.steps (Sync Metadata) ≡ true)
SyncComes device commit disk = Unit {0}

-- a node or the root is written
abbrev pub IsPut : DeviceStep → Type 0
IsPut (WriteNode number) = Unit {0}
IsPut WriteRoot = Unit {0}
IsPut step = ⊥

-- the next step of a commit writes: a node, where there is one more, or the root
abbrev pub PutsSector : Image → CommitSteps → Type 0
PutsSector image (NodesWritten count) = is_some (slice_get image.nodes.items count) ≡ true
PutsSector image NodesSynced = Unit {0}
PutsSector image steps = ⊥

-- A step of a job on a device can be done: a read reads, a write writes and a migration does both, sectors that are there, of a device
-- on which blocks stand; what is written or synced of the metadata comes next of the commit that runs.
abbrev pub IsDoable : Devices (List History) → Option RunningCommit → Job → DeviceStep → Type 0
IsDoable devices commit job (ReadExtent device e) = Reads job × HoldsBlocks device × ReadsInside job e (length (device_in device devices))
IsDoable devices commit job (WriteExtent device e) = Writes job × HoldsBlocks device × (e.first + e.count ≤ length (device_in device devices))
IsDoable devices commit job (Sync Metadata) = ComesNext commit (Sync Metadata) devices.metadata
IsDoable devices commit job (Sync device) = Unit {0}
IsDoable devices commit job (WriteNode number) = ComesNext commit (WriteNode number) devices.metadata
IsDoable devices commit job WriteRoot = ComesNext commit WriteRoot devices.metadata
IsDoable devices commit job (ReadMetadata left) = ⊥

-- the desk can be asked for it: a commit ends once all of it was done; a migration's block is mapped, a block is unmapped, or an order given
-- up; the rest is asked for whenever it comes
abbrev pub IsAskable : Option RunningCommit → Job → DeskStep → Type 0
IsAskable commit job EndCommit = is_all_done commit ≡ true
IsAskable commit job (Map block place) = Migrates job
IsAskable commit job (Unmap block) = Unmaps job
IsAskable commit job (ReleaseOrder block) = GivesUp job
IsAskable commit job step = Unit {0}

-- A step of a job can be done. No opening is answered done over a target.
abbrev pub IsPossible : Devices (List History) → Option RunningCommit → Job → Want → Type 0
IsPossible devices commit job (Device step) = IsDoable devices commit job step
IsPossible devices commit job (Desk step) = IsAskable commit job step
IsPossible devices commit job (End Finished) = ¬ Opens job
IsPossible devices commit job next = Unit {0}

-- A commit that begins may have an image of as many nodes as so many cache blocks have, and that of a suspend has a bit for each.
abbrev pub Allows : Geometry → List Bool → Want → Type 0
Allows g seen (Desk (Arrive most)) = most_nodes g.version false g.cache_blocks ≤ most
Allows g seen (Desk (Ask most)) = most_nodes g.version false g.cache_blocks ≤ most
Allows g seen (Desk (BeginCommit most)) = (most_nodes g.version true g.cache_blocks ≤ most) × (length seen ≡ g.cache_blocks)
Allows g seen next = Unit {0}

-- what stands over these devices, with this commit, and these actors
abbrev pub stood : Devices (List History) → Option RunningCommit → RunTarget Quiet → List Actor → Now
stood devices commit t actors = record { devices = devices; commit = commit; phase = Stands t; actors = actors }

-- the words and the desk of a target
abbrev pub target_told : Target → RunTarget Quiet
target_told target = record { words = target.crew.words; desk = target.desk }

abbrev pub over : Devices (List History) → Target → List Actor → Now
over devices target actors = stood devices target.commit (target_told target) actors

-- a step that sets a bit of the fail word
abbrev pub sets_bit : CellStep → Bool
sets_bit SetFailed = true
sets_bit SetSuspended = true
sets_bit step = false

-- the crew after a step of one of its actors
abbrev pub crew_then : CrewState → ℕ → Want → CrewState
crew_then crew a (Cell step) = crew_after crew a step
crew_then crew a next = crew

-- what a step of a job makes of its device, and what one does that failed as the choice says
abbrev pub done_by : Job → List Bytes → Chosen Quiet Global → (DeviceStep → List History → List History)
done_by job buffer chosen = λ step. device_done job buffer step chosen

abbrev pub failed_by : Choice → Job → List Bytes → Chosen Quiet Global → (DeviceStep → List History → List History)
failed_by choice job buffer chosen = λ step. device_failed (lands (device_of step) choice) job buffer step chosen

-- what a migration has read is what the sectors held
abbrev pub IsCopy : Devices (List History) → Job → Want → List Bytes → Type 0
IsCopy devices (Migrate migration block) (Device (ReadExtent device e)) read = read ≡ contents_at (device_in device devices) e
IsCopy devices job next read = Unit {0}

-- The commit after a step that leaves the phase.
abbrev pub commit_by : Option RunningCommit → Want → Got → Chosen Quiet Global → Option RunningCommit
commit_by commit next got chosen = commit_then Gone commit next got chosen

-- ---- single steps

-- what was free at a step on a device: what the metadata are once a node or root was written
abbrev pub chosen_at : DeviceStep → Devices (List History) → Chosen Quiet Global
chosen_at (WriteNode number) devices = Puts devices.metadata
chosen_at WriteRoot devices = Puts devices.metadata
chosen_at step devices = Plain

-- A step of a job on a device, which read this, from the devices and the commit before to those after.
pub record DoesOn (devices : Devices (List History)) (commit : Option RunningCommit) (job : Job) (buffer : List Bytes) (step : DeviceStep) (read : List Bytes) (devices' : Devices (List History)) (commit' : Option RunningCommit) : Type 0 where
  pub gives : (shape : Shape) (t : RunTarget Quiet) (actors : List Actor) (x : Actor) → Gives shape (stood devices commit t actors) x job (Device step) Done (noted_read job (Device step) read) (chosen_at step devices')
  pub copies : IsCopy devices job (Device step) read
  pub devices_are : devices' ≡ devices_then (done_by job buffer (chosen_at step devices')) devices (Device step)
  pub commit_is : commit' ≡ commit_by commit (Device step) Done (chosen_at step devices')

-- what a step moves: what a job writes, or as many sectors as are read
abbrev pub Moves : Job → List Bytes → DeviceStep → List Bytes → Type 0
Moves job buffer (ReadExtent device e) moved = length moved ≡ e.count
Moves job buffer (WriteExtent device e) moved = moved ≡ contents_for job buffer e.count
Moves job buffer step moved = Unit {0}

-- what was read by a step that moved these
abbrev pub read_by : DeviceStep → List Bytes → List Bytes
read_by (ReadExtent device e) moved = moved
read_by step moved = []

-- an extent of as many of these sectors, from this one on, as there are
abbrev pub IsFront : ℕ → ℕ → ℕ → Extent → Type 0
IsFront sectors first count e = (e.first ≡ first) × (e.count ≤ count) × (first ≤ sectors → first + e.count ≤ sectors) × ((e.count ≡ count) ⊎ (sectors ≤ first + e.count))

-- the step whose extent has as many sectors as are written and are there
abbrev pub FittedTo : List Bytes → Devices (List History) → DeviceStep → DeviceStep → Type 0
FittedTo moved devices (WriteExtent device e) there = (f : Extent) × (there ≡ WriteExtent device f) × IsFront (length (device_in device devices)) e.first (length moved) f
FittedTo moved devices step there = there ≡ step

-- there is room for what a step writes
abbrev pub HasRoomAt : Devices Memory → Option RunningCommit → DeviceStep → Type 0
HasRoomAt devices commit (WriteExtent device e) = HasRoomFor (device_in device devices) e.first e.count
HasRoomAt devices commit (WriteNode number) = IfSome commit (λ running. HasRoomFor devices.metadata (sector_put (coming_step running.image running.steps)) 1)
HasRoomAt devices commit WriteRoot = IfSome commit (λ running. HasRoomFor devices.metadata (sector_put (coming_step running.image running.steps)) 1)
HasRoomAt devices commit step = Unit {0}

-- One that fails as the choice says.
pub record FailsAt (choice : Choice) (devices : Devices (List History)) (commit : Option RunningCommit) (job : Job) (buffer : List Bytes) (step : DeviceStep) (devices' : Devices (List History)) (commit' : Option RunningCommit) : Type 0 where
  pub falters : (t : RunTarget Quiet) (actors : List Actor) → Falters (stood devices commit t actors) choice (Device step) (chosen_at step devices')
  pub devices_are : devices' ≡ devices_then (failed_by choice job buffer (chosen_at step devices')) devices (Device step)
  pub commit_is : commit' ≡ commit_by commit (Device step) Fault (chosen_at step devices')

-- One call of the desk: a suspend's commit begins with what it has seen.
abbrev pub DidAskFor : (held : List Order) (seen : List Bool) → Share → DeskStep → Got → DeskState Quiet → Option RunningCommit → DeskState Quiet → Option RunningCommit → Type 0
DidAskFor held seen share (BeginCommit most) got desk commit desk' commit' = (hint_of : Quiet → ℕ → ℕ) × DidBeginWith hint_of seen most got desk commit desk' commit'
DidAskFor held seen share step got desk commit desk' commit' = (with_entry : Quiet → ℕ → ℕ → Quiet) × (without_entry : Quiet → ℕ → Quiet) × DidAsk with_entry without_entry held step share got desk commit desk' commit'

-- What the desk gives that is asked for a job, which may give up one of these orders, has seen this and has this of the commits that others
-- lead, and what that makes of it and of the commit.
pub record DeskWasAsked (desk : DeskState Quiet) (commit : Option RunningCommit) (job : Job) (held : List Order) (seen : List Bool) (share : Share) (step : DeskStep) (got : Got) (desk' : DeskState Quiet) (commit' : Option RunningCommit) : Type 0 where
  pub chosen : Chosen Quiet Global
  pub gives : (shape : Shape) (devices : Devices (List History)) (words : Words) (actors : List Actor) (x : Actor) → HasAtHand job x held seen share → Gives shape (stood devices commit (record { words = words; desk = desk }) actors) x job (Desk step) got [] chosen
  pub desk_is : desk' ≡ desk_then desk (Desk step) chosen
  pub commit_is : commit' ≡ commit_by commit (Desk step) got chosen

-- ---- a step of an actor

-- The devices and the target after a step of the actor a with this result, by what was free at it.
pub record Leads (change : DeviceStep → List History → List History) (devices : Devices (List History)) (old : Target) (a : ℕ) (next : Want) (got : Got) (chosen : Chosen Quiet Global) (devices' : Devices (List History)) (new : Target) : Type 0 where
  pub devices_are : devices' ≡ devices_then change devices next
  pub crew_is : new.crew ≡ crew_then old.crew a next
  pub desk_is : new.desk ≡ desk_then old.desk next chosen
  pub commit_is : new.commit ≡ commit_by old.commit next got chosen
  pub failed_is : new.failed ≡ flag new.crew.words.fail

-- One step of the actor a on a job, which may give up one of these orders, has seen this and has this of the commits that others lead, from the
-- devices and the target before to those after.
pub record Performs (devices : Devices (List History)) (old : Target) (a : ℕ) (job : Job) (held : List Order) (seen : List Bool) (share : Share) (buffer : List Bytes) (next : Want) (got : Got) (read : List Bytes) (devices' : Devices (List History)) (new : Target) : Type 0 where
  pub chosen : Chosen Quiet Global
  pub gives : (shape : Shape) (actors : List Actor) (x : Actor) → HasAtHand job x held seen share → Gives shape (over devices old actors) x job next got (noted_read job next read) chosen
  pub copies : IsCopy devices job next read
  pub leads : Leads (done_by job buffer chosen) devices old a next got chosen devices' new

-- ---- a member's step

-- what a flush has of the commits that others lead, once it has arrived or asked
abbrev pub share_after : DeskState Quiet → Share → Want → Got → Share
share_after desk share (Desk step) got = share_then desk share step got
share_after desk share next got = share

-- what a member is after a step on its job with this result, which leaves it this of the commits that others lead
abbrev pub member_then : Devices (List History) → Share → Member → Want → Got → Member
member_then devices share m next got = record {
  task = task_then m.task next got;
  orders = orders_then m.orders m.awaiting (job_of m.task) next got;
  awaiting = awaiting_then m.orders m.awaiting (job_of m.task) next got;
  buffer = buffer_then devices m.buffer next got (job_of m.task);
  seen = seen_then m.seen next got (job_of m.task);
  share = share;
}

-- this may be the result of the next step of a task, if there is one
abbrev pub ResultComes : Option (Job × Plan) → Want → Got → Type 0
ResultComes None next got = Unit {0}
ResultComes (Some doing) next got = (next ≡ want doing.1) × (IsStep next → Fits next got)

-- nothing happened
pub record Rests (devices : Devices (List History)) (old : Target) (m : Member) (what : What) (read : List Bytes) (devices' : Devices (List History)) (new : Target) (m' : Member) : Type 0 where
  pub what_is : what ≡ Skipped
  pub read_is : read ≡ []
  pub devices_are : devices' ≡ devices
  pub target_is : new ≡ old
  pub member_is : m' ≡ m

-- one step of the actor a, on its task
pub record StepsOn (devices : Devices (List History)) (old : Target) (a : ℕ) (m : Member) (job : Job) (plan : Plan) (what : What) (read : List Bytes) (devices' : Devices (List History)) (new : Target) (m' : Member) : Type 0 where
  pub got : Got
  pub given : List Bytes
  pub what_is : what ≡ Stepped (want plan) got
  pub read_is : read ≡ noted_read job (want plan) given
  pub performs : Performs devices old a job (may_give_up job m.orders m.awaiting) m.seen m.share m.buffer (want plan) got given devices' new
  pub member_is : m' ≡ member_then devices (share_after old.desk m.share (want plan) got) m (want plan) got

-- or none, where it has no task, or has to wait for a commit that another leads
abbrev pub MemberSteps : Devices (List History) → Target → ℕ → Member → Option (Job × Plan) → What → List Bytes → Devices (List History) → Target → Member → Type 0
MemberSteps devices old a m None what read devices' new m' = Rests devices old m what read devices' new m'
MemberSteps devices old a m (Some doing) what read devices' new m' = (Awaits old.desk m.share (want doing.1) × Rests devices old m what read devices' new m')
    ⊎ StepsOn devices old a m doing.0 doing.1 what read devices' new m'

abbrev pub Steps : Devices (List History) → Target → ℕ → Member → What → List Bytes → Devices (List History) → Target → Member → Type 0
Steps devices old a m what read devices' new m' = MemberSteps devices old a m m.task what read devices' new m'

-- one that fails, on a device
pub record StepFails (choice : Choice) (devices : Devices (List History)) (commit : Option RunningCommit) (m : Member) (job : Job) (plan : Plan) (what : What) (devices' : Devices (List History)) (commit' : Option RunningCommit) (m' : Member) : Type 0 where
  pub step : DeviceStep
  pub step_is : want plan ≡ Device step
  pub what_is : what ≡ Stepped (Device step) Fault
  pub may : MayFailAt devices choice (Device step)
  pub fails : FailsAt choice devices commit job m.buffer step devices' commit'
  pub member_is : m' ≡ member_then devices m.share m (want plan) Fault

-- or none does
pub record NothingFails (choice : Choice) (devices : Devices (List History)) (commit : Option RunningCommit) (m : Member) (what : What) (devices' : Devices (List History)) (commit' : Option RunningCommit) (m' : Member) : Type 0 where
  pub what_is : what ≡ Skipped
  pub devices_are : devices' ≡ devices
  pub commit_is : commit' ≡ commit
  pub member_is : m' ≡ m

abbrev pub MemberFails : Choice → Devices (List History) → Option RunningCommit → Member → Option (Job × Plan) → What → Devices (List History) → Option RunningCommit → Member → Type 0
MemberFails choice devices commit m None what devices' commit' m' = NothingFails choice devices commit m what devices' commit' m'
MemberFails choice devices commit m (Some doing) what devices' commit' m' = StepFails choice devices commit m doing.0 doing.1 what devices' commit' m'
    ⊎ (NothingFails choice devices commit m what devices' commit' m' × (¬ MayFailAt devices choice (want doing.1)))

abbrev pub FailsOrRests : Choice → Devices (List History) → Option RunningCommit → Member → What → Devices (List History) → Option RunningCommit → Member → Type 0
FailsOrRests choice devices commit m what devices' commit' m' = MemberFails choice devices commit m m.task what devices' commit' m'

-- ---- what a step needs

-- the next step of what an actor is at can be done
abbrev pub CanStep : Devices (List History) → Option RunningCommit → Option (Job × Plan) → Type 0
CanStep devices commit None = Unit {0}
CanStep devices commit (Some doing) = IsPossible devices commit doing.0 (want doing.1)

abbrev pub AllCan : Devices (List History) → Option RunningCommit → List Actor → Type 0
AllCan devices commit actors = (a : ℕ) (x : Actor) → slice_get actors a ≡ Some x → CanStep devices commit x.task

-- Over a target everybody has what the task needs, and can do its next step.
pub record AreServed (g : Geometry) (devices : Devices (List History)) (commit : Option RunningCommit) (actors : List Actor) : Type 0 where
  pub suited : AllSuited g.origin_blocks actors
  pub can : AllCan devices commit actors

-- an opening that reads one sector more of these metadata, while no commit runs, finds a root of these sizes, if it finds one
abbrev pub FindsItsRoot : Geometry → List History → Opener → Type 0
FindsItsRoot g metadata o = (was : ReadSteps Global) → reading_of o ≡ Some was → o.opening.commit ≡ None → FindsSizes g was metadata

abbrev pub IsPhaseServed : Geometry → Devices Memory → Phase → Type 0
IsPhaseServed g devices (Standing target members) = AreServed g (contents_of devices) target.commit (with_cards members.items target.crew.cards)
IsPhaseServed g devices (Underway opener) = FindsItsRoot g devices.metadata.contents opener
IsPhaseServed g devices phase = Unit {0}
