-- The tables of reads, writes, flushes and suspends as those of the abstract world: which job each is there, and which steps of it each
-- step stands for. A look at a lock word, the exchange and the look at the seal stand for nothing by themselves: the abstract
-- actor takes its block, and sees the seal, where the number is looked at, after which a task can no longer find its block worn.
use Rattle.std.specs.Prelude.{◌%◌, ◌/◌, ℕ, true, false, List, [], ◌∷◌, Option, Some, None}
use Rattle.wb_types.specs.declared.extent.Extent.{Extent}
use Rattle.wb_types.specs.Extents.{rising}
use Rattle.wb_types.specs.declared.mode.Mode.{Mode}
use Rattle.wb_types.specs.declared.mode.Mode.TheVariants.{Writeback, Writethrough, Passthrough}
use Rattle.wb_types.specs.declared.mode.Dev.{Dev}
use Rattle.wb_types.specs.declared.mode.Dev.TheVariants.{Cache, Origin}
use Rattle.wb_types.specs.declared.number.CBlock.{CBlock}
use Rattle.wb_types.specs.declared.refusal.Refusal.TheVariants.{Failed, Io}
use Rattle.wb_disk.specs.Device.{Content}
use Rattle.wb_words.specs.declared.word.Access.TheVariants.{Shared, Owned}
use Rattle.wb_words.specs.declared.word.Word.TheVariants.{Cell as LockWord, Seal as SealWord, Number, Count as CountWord, Fail}
use Rattle.wb_words.specs.declared.step.CellStep.{CellStep}
use Rattle.wb_words.specs.declared.step.CellStep.TheVariants.{Look, Take, Release, Seal, Finish, Count, SetFailed, SetSuspended}
use Rattle.wb_tasks.specs.Tables.{TaskJob, OnBlock, Reading, Writing, Displacing, Invalidating, Suspending}
use Rattle.wb_tasks.specs.Plan.{Plan}
use Rattle.wb_tasks.specs.declared.step.Answer.{Answer}
use Rattle.wb_tasks.specs.declared.step.Answer.TheVariants.{Done as Finished, Refused as Refuses}
use Rattle.wb_tasks.specs.declared.step.DeviceStep.{DeviceStep}
use Rattle.wb_tasks.specs.declared.step.DeviceStep.TheVariants.{Read, Write, Sync, WriteRoot}
use Rattle.wb_tasks.specs.declared.step.DeskStep.{DeskStep}
use Rattle.wb_tasks.specs.declared.step.DeskStep.TheVariants.{Arrive, Ask, BeginCommit, EndCommit, BreakCommit, Unmap}
use Rattle.wb_tasks.specs.declared.step.Want.{Want}
use Rattle.wb_tasks.specs.declared.step.Want.TheVariants.{Cell, Device, Desk, End}
use Rattle.wb_link.specs.Tables.{Script, Read_all, Write_all, abstract_acquire, abstract_later_steps, Begin, Break_commits, Set_failed, Job as AbstractJob, Reading as ReadingAt, Writing as WritingAt, Writing_through as WritingThroughAt, Invalidating as InvalidatingAt, Flushing as FlushingFor, Suspending as SuspendingThere, Want as AbstractWant, Look_fail, Unmap_plain, Set_seal, Set_suspended, Leave, Disown, Sync_cache_device, Sync_origin_device, Put_root, Sync_metadata, End_running, Answer as AbstractAnswer, Finished as AnsweredDone, Busy as AnsweredBusy, Failed as AnsweredFailed, Io as AnsweredIo}

-- the number of the cache block in which a block stands
abbrev pub number_of : Option CBlock → Option ℕ
number_of None = None
number_of (Some c) = Some c.0

-- where a step on this device moves an extent: in a cache block, or on the origin
abbrev pub location_at : ℕ → Dev → Extent → Option ℕ
location_at size Cache e = Some (e.first / size)
location_at size device e = None

-- the offsets in their block of an extent's sectors, and of those of a cut, extent by extent
abbrev pub offsets_in : ℕ → Extent → List ℕ
offsets_in size e = rising (e.first % size) e.count

abbrev pub offsets : ℕ → List Extent → List (List ℕ)
offsets size [] = []
offsets size (e ∷ es) = offsets_in size e ∷ offsets size es

-- a read of these sectors of a block, and a write of this content to them: in passthrough both are past the cache
abbrev pub reading_in : Mode → ℕ → List (List ℕ) → AbstractJob
reading_in Passthrough block os = ReadingAt true block os
reading_in mode block os = ReadingAt false block os

abbrev pub writing_in : Mode → ℕ → List (List ℕ) → Content → AbstractJob
writing_in Writeback block os content = WritingAt false block os content
writing_in Writethrough block os content = WritingThroughAt block os content
writing_in Passthrough block os content = WritingAt true block os content

-- A read, a write of this content to each sector, which may displace its block; an invalidation; a suspend; and a flush, which serves nobody there.
abbrev pub job_for : ℕ → Content → TaskJob → AbstractJob
job_for size content (OnBlock (Reading part)) = reading_in part.mode part.block.0 (offsets size part.extents)
job_for size content (OnBlock (Writing part)) = writing_in part.mode part.block.0 (offsets size part.extents) content
job_for size content (OnBlock (Displacing part)) = writing_in Passthrough part.block.0 (offsets size part.extents) content
job_for size content (OnBlock (Invalidating part)) = InvalidatingAt part.block.0
job_for size content (Suspending blocks most) = SuspendingThere
job_for size content job = FlushingFor None

-- the block of a read, a write or an invalidation
abbrev pub block_in : AbstractJob → ℕ
block_in (ReadingAt past block os) = block
block_in (WritingAt past block os content) = block
block_in (WritingThroughAt block os content) = block
block_in (InvalidatingAt block) = block
block_in job = 0

-- ---- what steps stand for, before what the later ones do

abbrev pub cell_wants : AbstractJob → CellStep → List AbstractWant → List AbstractWant
cell_wants job (Look Fail) rest = Look_fail ∷ rest
cell_wants job (Look (LockWord block)) rest = abstract_acquire job
cell_wants job (Look (SealWord block)) rest = abstract_acquire job
cell_wants job (Look (Number block)) rest = abstract_acquire job
cell_wants job (Look (CountWord kind)) rest = rest
cell_wants job (Take access block seen) rest = rest
cell_wants job (Release Shared block) rest = Leave block.0 ∷ rest
cell_wants job (Release Owned block) rest = Disown block.0 ∷ rest
cell_wants job (Seal block place dirty) rest = Set_seal block.0 (record { location = number_of place; dirty = dirty }) ∷ rest
cell_wants job (Finish block) rest = rest
cell_wants job (Count kind) rest = rest
cell_wants job SetFailed rest = Set_failed ∷ rest
cell_wants job SetSuspended rest = Set_suspended ∷ rest

-- An extent is one step there too. Of a commit's steps on metadata the root and the last sync are there; the latter stands
-- with the commit's end.
abbrev pub device_wants : ℕ → AbstractJob → DeviceStep → List AbstractWant → List AbstractWant
device_wants size job (Read device e) rest = Read_all (location_at size device e) (block_in job) (offsets_in size e) ∷ rest
device_wants size job (Write device e) rest = Write_all (location_at size device e) (block_in job) (offsets_in size e) ∷ rest
device_wants size job (Sync Cache) rest = Sync_cache_device ∷ rest
device_wants size job (Sync Origin) rest = Sync_origin_device ∷ rest
device_wants size job WriteRoot rest = Put_root ∷ rest
device_wants size job step rest = rest

-- a block leaves the cache block in which it is, if any
abbrev pub unmapping_at : ℕ → Option CBlock → List AbstractWant → List AbstractWant
unmapping_at block None rest = rest
unmapping_at block (Some c) rest = Unmap_plain block c.0 ∷ rest

abbrev pub desk_wants : Option CBlock → AbstractJob → DeskStep → List AbstractWant → List AbstractWant
desk_wants place job (Arrive most) rest = abstract_acquire job
desk_wants place job (Ask most) rest = abstract_acquire job
desk_wants place job (BeginCommit most) rest = abstract_acquire job
desk_wants place job EndCommit rest = Sync_metadata ∷ End_running ∷ rest
desk_wants place job BreakCommit rest = Break_commits ∷ rest
desk_wants place job (Unmap block) rest = unmapping_at block.0 place rest
desk_wants place job step rest = rest

abbrev pub step_wants : ℕ → Option CBlock → AbstractJob → Want → List AbstractWant → List AbstractWant
step_wants size place job (Cell step) rest = cell_wants job step rest
step_wants size place job (Device step) rest = device_wants size job step rest
step_wants size place job (Desk step) rest = desk_wants place job step rest
step_wants size place job (End answer) rest = rest

-- what the steps of a job stand for, whose block was seen at this place
abbrev pub wants_of : ℕ → Option CBlock → AbstractJob → List Want → List AbstractWant
wants_of size place job [] = []
wants_of size place job (next ∷ later) = step_wants size place job next (wants_of size place job later)

-- A flush or a suspend that is refused, for whatever reason, has not begun its commit; a read or write that did not take its block was busy.
abbrev pub refusal_for : AbstractJob → AbstractAnswer
refusal_for (FlushingFor order) = AnsweredFailed
refusal_for SuspendingThere = AnsweredFailed
refusal_for job = AnsweredBusy

abbrev pub answer_for : AbstractJob → Answer → AbstractAnswer
answer_for job Finished = AnsweredDone
answer_for job (Refuses Failed) = AnsweredFailed
answer_for job (Refuses (Io device)) = AnsweredIo
answer_for job (Refuses refusal) = refusal_for job

-- what is left of a task, whose block was seen at this place, as the abstract world has it
abbrev pub script_for : ℕ → Content → Option CBlock → Plan → Script
script_for size content place plan = record {
  job = job_for size content plan.job;
  steps = wants_of size place (job_for size content plan.job) plan.steps;
  answer = answer_for (job_for size content plan.job) plan.answer;
}

-- the same with the ticket of a flush that asks with one
abbrev pub with_ticket : Option ℕ → Script → Script
with_ticket None script = script
with_ticket (Some number) script = record script { steps = Begin (Some number) ∷ abstract_later_steps script.steps }
