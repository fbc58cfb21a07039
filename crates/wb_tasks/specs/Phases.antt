-- What is left of a task, by the phase that it is in.
use Rattle.std.specs.Prelude.{◌++◌, Bool, true, false, List, [], ◌∷◌, Option, Some, None, map}
use Rattle.wb_types.specs.declared.refusal.Refusal.TheVariants.{Worn, Io}
use Rattle.wb_types.specs.declared.mode.Mode.{Mode}
use Rattle.wb_types.specs.declared.mode.Mode.TheVariants.{Passthrough}
use Rattle.wb_words.specs.declared.word.Word.TheVariants.{Cell as LockWord, Seal as SealWord, Number as NumberWord}
use Rattle.wb_types.specs.declared.extent.Extent.{Extent}
use Rattle.wb_types.specs.declared.number.CBlock.{CBlock}
use Rattle.wb_tasks.specs.Tables.{BlockRange, BlockJob, Reading, Writing, Displacing, Invalidating, Migrating, OnBlock, range_of, access_of, acquire, taking, work, copies, ending, places_written, writes, read_step, write_step, read_count, write_count}
use Rattle.wb_tasks.specs.Plan.{Plan, release, answer_at}
use Rattle.wb_words.specs.declared.grip.GripStage.{GripStage}
use Rattle.wb_words.specs.declared.grip.GripStage.TheVariants.{LookFail, LookLock, Exchange, LookSeal, LookNumber}
use Rattle.wb_words.specs.SharedWords.{place_in, dirty_in}
use Rattle.wb_tasks.specs.declared.acquire.Seen.{Seen}
use Rattle.wb_tasks.specs.declared.acquire.Seen.TheVariants.{Next, Holds, Refused, Worn as WornOut}
use Rattle.wb_tasks.specs.declared.block.Work.{Work}
use Rattle.wb_tasks.specs.declared.block.Work.TheVariants.{Read as ToRead, Write as ToWrite, Displace as ToDisplace, Invalidate as ToInvalidate, Migrate as ToMigrate}
use Rattle.wb_tasks.specs.declared.block.Phase.{Phase}
use Rattle.wb_tasks.specs.declared.block.Phase.TheVariants.{Acquires, Dirties, Drops, SealsHome, Reads, Writes, Mirrors, Counts, Copies, Puts, Seals, Releases, GivesUp, SetsFailed, Ended}
use Rattle.wb_words.specs.declared.step.CellStep.TheVariants.{Look, Seal as SealStep, Finish, SetFailed}
use Rattle.wb_tasks.specs.declared.step.DeskStep.TheVariants.{Unmap, ReleaseOrder}
use Rattle.wb_tasks.specs.declared.step.Answer.{Answer}
use Rattle.wb_tasks.specs.declared.step.Answer.TheVariants.{Done as Finished, Refused as Refuses}
use Rattle.wb_tasks.specs.declared.step.Want.{Want}
use Rattle.wb_tasks.specs.declared.step.Want.TheVariants.{Cell, Desk}

-- the steps to come of a job that has not got its block
abbrev pub steps_from : BlockJob → GripStage → List Want
steps_from job LookFail = acquire (range_of job).block
steps_from job LookLock = Cell (Look (LockWord (range_of job).block)) ∷ []
steps_from job (Exchange seen) = taking (access_of job) (range_of job).block seen
steps_from job LookSeal = Cell (Look (SealWord (range_of job).block)) ∷ []
steps_from job (LookNumber seal) = Cell (Look (NumberWord (range_of job).block)) ∷ work job (place_in seal) (dirty_in seal)

-- what it is to answer, which may depend on its block's seal
abbrev pub answer_from : BlockJob → GripStage → Answer
answer_from job (LookNumber seal) = answer_at job (place_in seal) Finished
answer_from job stage = Finished

-- a job that has not got its block
abbrev pub acquiring : BlockJob → GripStage → Plan
acquiring job stage = record { job = OnBlock job; steps = steps_from job stage; answer = answer_from job stage }

-- what is left of a job after what it saw
abbrev pub after_seeing : BlockJob → Seen → Plan
after_seeing job (Next stage) = acquiring job stage
after_seeing job (Holds place dirty) = record { job = OnBlock job; steps = work job place dirty; answer = answer_at job place Finished }
after_seeing job (Refused refusal) = record { job = OnBlock job; steps = []; answer = Refuses refusal }
after_seeing job WornOut = record { job = OnBlock job; steps = release job ∷ []; answer = Refuses Worn }

-- the job of a task that does this with these sectors of its block
abbrev pub job_on_block : Work → BlockRange → BlockJob
job_on_block ToRead part = Reading part
job_on_block ToWrite part = Writing part
job_on_block ToDisplace part = Displacing part
job_on_block ToInvalidate part = Invalidating part
job_on_block (ToMigrate migration) part = Migrating migration part

-- a migration runs under an order
abbrev pub has_order : Work → Bool
has_order (ToMigrate migration) = true
has_order work = false

abbrev pub order_left : BlockRange → Bool → List Want
order_left part true = Desk (ReleaseOrder part.block) ∷ []
order_left part false = []

-- a write that displaces its block writes past the cache, whatever the mode
abbrev pub written_mode : Work → Mode → Mode
written_mode ToDisplace mode = Passthrough
written_mode work mode = mode

-- what a migration ends with, once its extents are copied; no other job copies
abbrev pub migration_ends : Work → BlockRange → Option CBlock → List Want
migration_ends (ToMigrate migration) part place = ending migration part.block place
migration_ends work part place = []

-- what a write ends with, once its extents are written
abbrev pub write_end : Work → BlockRange → Option CBlock → List Want
write_end work part place = Cell (Finish part.block) ∷ write_count place ∷ release (job_on_block work part) ∷ []

-- what is left of a write with these extents still to write
abbrev pub writes_left : Work → BlockRange → Option CBlock → List Extent → List Want
writes_left work part place extents = writes part (places_written (written_mode work part.mode) place) extents ++ write_end work part place

-- what is left of a job once its block, which stood in this cache block, has left the cache; no other job drops it
abbrev pub dropped : Work → BlockRange → CBlock → List Extent → List Want
dropped ToDisplace part c extents = writes_left ToDisplace part (Some c) extents
dropped ToInvalidate part c extents = release (Invalidating part) ∷ []
dropped work part c extents = []

-- the steps to come in a phase, with these extents still to move
abbrev pub steps_in : Work → BlockRange → Phase → List Extent → List Want
steps_in work part (Acquires stage) extents = steps_from (job_on_block work part) stage
steps_in work part (Dirties c) extents = Cell (SealStep part.block (Some c) true) ∷ writes_left work part (Some c) extents
steps_in work part (Drops c) extents = Desk (Unmap part.block) ∷ Cell (SealStep part.block None false) ∷ dropped work part c extents
steps_in work part (SealsHome c) extents = Cell (SealStep part.block None false) ∷ dropped work part c extents
steps_in work part (Reads place) extents = map (read_step part place) extents ++ read_count place ∷ release (job_on_block work part) ∷ []
steps_in work part (Writes place) extents = writes_left work part place extents
steps_in work part (Mirrors place e) extents = write_step part place e ∷ writes_left work part place extents
steps_in work part (Counts place) extents = write_count place ∷ release (job_on_block work part) ∷ []
steps_in work part (Copies from to) extents = copies part from to extents ++ migration_ends work part from
steps_in work part (Puts from to e) extents = write_step part to e ∷ (copies part from to extents ++ migration_ends work part from)
steps_in work part (Seals place) extents = Cell (SealStep part.block place false) ∷ release (job_on_block work part) ∷ []
steps_in work part (Releases order answer) extents = release (job_on_block work part) ∷ order_left part order
steps_in work part (GivesUp answer) extents = Desk (ReleaseOrder part.block) ∷ []
steps_in work part (SetsFailed device) extents = Cell SetFailed ∷ []
steps_in work part (Ended answer) extents = []

abbrev pub answer_in : BlockJob → Phase → Answer
answer_in job (Acquires stage) = answer_from job stage
answer_in job (Releases order answer) = answer
answer_in job (GivesUp answer) = answer
answer_in job (SetsFailed device) = Refuses (Io device)
answer_in job (Ended answer) = answer
answer_in job phase = Finished

-- what is left then
abbrev pub left_in : Work → BlockRange → Phase → List Extent → Plan
left_in work part phase extents = record { job = OnBlock (job_on_block work part); steps = steps_in work part phase extents; answer = answer_in (job_on_block work part) phase }
