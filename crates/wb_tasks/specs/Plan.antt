-- The plan of a task: what is left of it after each result; the plans of commits and openings.
use Rattle.std.specs.Prelude.{◌+◌, ◌-◌, ◌^◌, ◌≤◌, ◌==◌, ◌&&◌, ℕ, zero, suc, Bool, false, List, [], ◌∷◌, ◌++◌, Option, Some, if◌then◌else◌}
use Rattle.wb_types.specs.declared.mode.Mode.{Mode}
use Rattle.wb_types.specs.declared.mode.Mode.TheVariants.{Passthrough}
use Rattle.wb_types.specs.declared.mode.Dev.{Dev}
use Rattle.wb_types.specs.declared.mode.Dev.TheVariants.{Metadata, Cache, Origin}
use Rattle.wb_types.specs.declared.number.OBlock.{OBlock}
use Rattle.wb_types.specs.declared.number.CBlock.{CBlock}
use Rattle.wb_types.specs.declared.refusal.Refusal.{Refusal}
use Rattle.wb_types.specs.declared.refusal.Refusal.TheVariants.{Busy, Defer, Failed, Memory, Worn, NotFormatted, Damaged, Mismatch, NotClean, GenerationEnd, Io}
use Rattle.wb_words.specs.declared.word.Word.TheVariants.{Cell as LockWord, Seal as SealWord, Number, Fail}
use Rattle.wb_words.specs.SharedWords.{can_take, place_in, dirty_in}
use Rattle.wb_tasks.specs.Tables.{BlockJob, Reading, Writing, Displacing, Invalidating, Migrating, TaskJob, OnBlock, Flushing, Suspending, Opening, is_write, range_of, access_of, acquire, taking, work}
use Rattle.wb_words.specs.declared.step.CellResult.{CellResult}
use Rattle.wb_words.specs.declared.step.CellResult.TheVariants.{Done as CellDone, Word as Found, Lost as CellLost}
use Rattle.wb_words.specs.declared.step.CellStep.TheVariants.{Look, Take, Release, SetFailed, SetSuspended}
use Rattle.wb_tasks.specs.declared.step.DeviceStep.{DeviceStep}
use Rattle.wb_tasks.specs.declared.step.DeviceStep.TheVariants.{Read, Write, Sync, ReadMetadata, WriteNode, WriteRoot}
use Rattle.wb_tasks.specs.declared.step.DeskStep.TheVariants.{Map, ReleaseOrder, Arrive, Ask, BeginCommit, EndCommit, BreakCommit}
use Rattle.wb_tasks.specs.declared.step.Answer.{Answer}
use Rattle.wb_tasks.specs.declared.step.Answer.TheVariants.{Done as Finished, Refused as Refuses}
use Rattle.wb_tasks.specs.declared.step.Want.{Want}
use Rattle.wb_tasks.specs.declared.step.Want.TheVariants.{Cell, Device, Desk, End}
use Rattle.wb_tasks.specs.declared.step.Got.{Got}
use Rattle.wb_tasks.specs.declared.step.Got.TheVariants.{Begin, Done, Word, Lost, Fault, Refused, Began, Ticket, Served, More}

-- What is left of a task: the job that it is on, the steps to come, as far as they are known, and the answer
-- after them. The exchange is known once
-- the lock word was seen, the work once the seal was, and so is whether a write is to be deferred.
pub record Plan : Type 0 where
  pub job : TaskJob
  pub steps : List Want
  pub answer : Answer

-- the nodes of an image, so many from this one on
abbrev pub node_writes : ℕ → ℕ → List Want
node_writes zero first = []
node_writes (suc count) first = Device (WriteNode first) ∷ node_writes count (first + 1)

-- After the nodes are durable the root is written, and durable before the commit ends.
abbrev pub root_steps : List Want
root_steps = Device (Sync Metadata) ∷ Device WriteRoot ∷ Device (Sync Metadata) ∷ Desk EndCommit ∷ []

-- a commit whose image has so many nodes, once it began: what was written to cache and origin is durable before its nodes are written
abbrev pub commit_steps : ℕ → List Want
commit_steps nodes = Device (Sync Cache) ∷ Device (Sync Origin) ∷ (node_writes nodes 0 ++ root_steps)

-- the root of an opening, durable before it answers
abbrev pub opening_root : List Want
opening_root = Device WriteRoot ∷ Device (Sync Metadata) ∷ []

-- What begins with an image of so many nodes: a commit, that of a suspend followed by the bit that says so; of an opening the nodes,
-- which are durable before the root is written.
abbrev pub begun_steps : TaskJob → ℕ → List Want
begun_steps (Suspending blocks most) nodes = commit_steps nodes ++ Cell SetSuspended ∷ []
begun_steps (Opening left) nodes = node_writes nodes 0 ++ Device (Sync Metadata) ∷ opening_root
begun_steps job nodes = commit_steps nodes

-- the seals of these blocks, one after the other
abbrev pub seal_looks : List OBlock → List Want
seal_looks [] = []
seal_looks (block ∷ blocks) = Cell (Look (SealWord block)) ∷ seal_looks blocks

-- The steps of a job, as far as they are known before it begins. A flush asks to lead a commit, or for a ticket. A suspend asks for a commit
-- whose root is marked clean, once it has seen which blocks are dirty. An opening makes everything durable, reads the metadata,
-- and writes a root that no longer says that the metadata are clean. Where another version is asked for than theirs, the last read begins
-- an image: the nodes of the whole mapping are written anew, and synced, before that root.
abbrev pub first_steps : TaskJob → List Want
first_steps (OnBlock job) = acquire (range_of job).block
first_steps (Flushing serves most) = Cell (Look Fail) ∷ Desk (Arrive most) ∷ []
first_steps (Suspending blocks most) = Cell (Look Fail) ∷ (seal_looks blocks ++ Desk (BeginCommit most) ∷ [])
first_steps (Opening left) = Device (Sync Metadata) ∷ Device (Sync Cache) ∷ Device (Sync Origin) ∷ Device (ReadMetadata left) ∷ opening_root

-- a job that has not begun
abbrev pub table : TaskJob → Plan
table job = record { job = job; steps = first_steps job; answer = Finished }

abbrev pub first_step : List Want → Answer → Want
first_step [] answer = End answer
first_step (w ∷ ws) answer = w

-- the next step, the answer being the last
abbrev pub want : Plan → Want
want s = first_step s.steps s.answer

abbrev pub later_steps : List Want → List Want
later_steps [] = []
later_steps (w ∷ ws) = ws

-- on to the next step
abbrev pub onward : Plan → Plan
onward s = record s { steps = later_steps s.steps }

-- nothing is left but these steps and a refusal
abbrev pub refused : Plan → List Want → Refusal → Plan
refused s steps refusal = record { job = s.job; steps = steps; answer = Refuses refusal }

-- giving the block back
abbrev pub release : BlockJob → Want
release job = Cell (Release (access_of job) (range_of job).block)

-- a job without an order, as a write whose number is worn, gives back its block alone
abbrev pub gives_back : TaskJob → List Want
gives_back (OnBlock job) = release job ∷ []
gives_back job = []

-- a migration gives up its order; no other job on a block has one
abbrev pub gives_up : BlockJob → List Want
gives_up (Reading part) = []
gives_up (Writing part) = []
gives_up (Displacing part) = []
gives_up (Invalidating part) = []
gives_up (Migrating migration part) = Desk (ReleaseOrder part.block) ∷ []

-- the orders of these blocks
abbrev pub release_orders : List OBlock → List Want
release_orders [] = []
release_orders (block ∷ blocks) = Desk (ReleaseOrder block) ∷ release_orders blocks

-- What a job lets go once the desk has refused, or a step of it that changes nothing has failed: its block, then its order;
-- a flush the orders of the replacements that it serves.
abbrev pub lets_go : TaskJob → List Want
lets_go (OnBlock job) = release job ∷ gives_up job
lets_go (Flushing serves most) = release_orders serves
lets_go (Suspending blocks most) = []
lets_go (Opening left) = []

-- a job that takes a block may find that it can't
abbrev pub may_take : TaskJob → ℕ → Bool
may_take (OnBlock job) word = can_take (access_of job) word
may_take job word = false

-- its exchange, at the lock word that was seen
abbrev pub exchange : TaskJob → ℕ → List Want
exchange (OnBlock job) seen = taking (access_of job) (range_of job).block seen
exchange job seen = []

-- what it does where its block has this seal, once it knows the block's number
abbrev pub work_of : TaskJob → ℕ → List Want
work_of (OnBlock job) seal = work job (place_in seal) (dirty_in seal)
work_of job seal = []

-- After its block's seal was seen a job on a block looks at the number, and then does its work; a suspend goes on to these.
abbrev pub steps_seeing : TaskJob → OBlock → ℕ → List Want → List Want
steps_seeing (OnBlock job) block seal steps = Cell (Look (Number block)) ∷ work_of (OnBlock job) seal
steps_seeing job block seal steps = steps

-- in passthrough a write needs the desk first, where its block is mapped
abbrev pub deferring : Mode → Option CBlock → Answer → Answer
deferring Passthrough (Some c) answer = Refuses Defer
deferring mode place answer = answer

-- what a job whose block stands at this place answers, where else it would answer so
abbrev pub answer_at : BlockJob → Option CBlock → Answer → Answer
answer_at (Writing part) place answer = deferring part.mode place answer
answer_at job place answer = answer

abbrev pub answer_seeing : TaskJob → ℕ → Answer → Answer
answer_seeing (OnBlock job) seal answer = answer_at job (place_in seal) answer
answer_seeing job seal answer = answer

-- a write needs a number for itself
abbrev pub is_worn : TaskJob → ℕ → Bool
is_worn (OnBlock job) number = is_write job && (number == 2 ^ 64 - 1)
is_worn job number = false

-- what is left after a word was looked at
abbrev pub after_look : Plan → Want → ℕ → Plan
after_look s (Cell (Look Fail)) word = if word == 0 then onward s else refused s [] Failed
after_look s (Cell (Look (LockWord block))) word = if may_take s.job word then record s { steps = exchange s.job word } else refused s [] Busy
after_look s (Cell (Look (SealWord block))) word = record s { steps = steps_seeing s.job block word (later_steps s.steps); answer = answer_seeing s.job word s.answer }
after_look s (Cell (Look (Number block))) word = if is_worn s.job word then refused s (gives_back s.job) Worn else onward s
after_look s w word = onward s

-- the device that a step is on
abbrev pub device_of : DeviceStep → Dev
device_of (Read device e) = device
device_of (Write device e) = device
device_of (Sync device) = device
device_of (ReadMetadata left) = Metadata
device_of (WriteNode number) = Metadata
device_of WriteRoot = Metadata

abbrev pub failed_commit : List Want
failed_commit = Cell SetFailed ∷ Desk BreakCommit ∷ []

-- After a fault on a read a job on a block lets go what it has; after one on a write or sync the failed bit is set, and
-- what is owned is kept. One of a commit's step breaks the commits, too. An opening has nothing and sets nothing.
abbrev pub after_fault_of : TaskJob → DeviceStep → List Want
after_fault_of (OnBlock job) (Read device e) = release job ∷ gives_up job
after_fault_of (OnBlock job) step = Cell SetFailed ∷ []
after_fault_of (Flushing serves most) step = failed_commit
after_fault_of (Suspending blocks most) step = failed_commit
after_fault_of (Opening left) step = []

abbrev pub after_fault : Plan → Want → Plan
after_fault s (Device step) = refused s (after_fault_of s.job step) (Io (device_of step))
after_fault s w = s

-- After the desk refused, a job lets go what it has; but where commits are broken the orders that a flush serves stay, as all else of a
-- failed target.
abbrev pub lets_go_unless_failed : TaskJob → Refusal → List Want
lets_go_unless_failed job Failed = []
lets_go_unless_failed job refusal = lets_go job

abbrev pub after_refusal : Plan → Want → Refusal → Plan
after_refusal s (Desk (Arrive most)) refusal = refused s (lets_go_unless_failed s.job refusal) refusal
after_refusal s (Desk (Ask most)) refusal = refused s (lets_go_unless_failed s.job refusal) refusal
after_refusal s (Desk step) refusal = refused s (lets_go s.job) refusal
after_refusal s w refusal = refused s [] refusal

-- a metadata sector was read, and more is to be read
abbrev pub after_more : Plan → Want → Plan
after_more s (Device (ReadMetadata left)) = record s { steps = Device (ReadMetadata (left - 1)) ∷ later_steps s.steps }
after_more s w = onward s

-- who got a ticket on arriving asks with it next
abbrev pub after_ticket : Plan → Want → Plan
after_ticket s (Desk (Arrive most)) = record s { steps = Desk (Ask most) ∷ [] }
after_ticket s w = onward s

-- what is left after the result of a step
abbrev pub after : Plan → Got → Plan
after s Begin = s
after s Done = onward s
after s (Word word) = after_look s (want s) word
after s Lost = refused s [] Busy
after s Fault = after_fault s (want s)
after s (Refused refusal) = after_refusal s (want s) refusal
after s (Began nodes) = record s { steps = begun_steps s.job nodes }
after s Ticket = after_ticket s (want s)
after s Served = record s { steps = []; answer = Finished }
after s More = after_more s (want s)

-- what a step on a shared word gave, as a task is told it
abbrev pub got_of : CellResult → Got
got_of CellDone = Done
got_of (Found word) = Word word
got_of CellLost = Lost

-- What comes of a step is of the kind that it asks for.

abbrev pub MayBeDone : Want → Type 0
MayBeDone (Cell (Look word)) = ⊥
MayBeDone (Desk (Arrive most)) = ⊥
MayBeDone (Desk (Ask most)) = ⊥
MayBeDone (Desk (BeginCommit most)) = ⊥
MayBeDone (End answer) = ⊥
MayBeDone want = Unit {0}

abbrev pub IsLook : Want → Type 0
IsLook (Cell (Look word)) = Unit {0}
IsLook want = ⊥

abbrev pub IsExchange : Want → Type 0
IsExchange (Cell (Take access block seen)) = Unit {0}
IsExchange want = ⊥

abbrev pub WantMayFail : Want → Type 0
WantMayFail (Device step) = Unit {0}
WantMayFail want = ⊥

-- The desk refuses an entry of the mapping for want of memory, a commit also where no generation is left; that of a suspend where another
-- one runs, that of a flush once one was broken. What was read of the metadata is refused where it has no root, or a root of another geometry or one that cannot be
-- opened in this mode, where its tree is damaged, where no generation is left, or for want of memory.
abbrev pub MayBeRefused : Want → Refusal → Type 0
MayBeRefused (Desk (Map block place)) Memory = Unit {0}
MayBeRefused (Desk (Arrive most)) Failed = Unit {0}
MayBeRefused (Desk (Arrive most)) Memory = Unit {0}
MayBeRefused (Desk (Arrive most)) GenerationEnd = Unit {0}
MayBeRefused (Desk (Ask most)) Failed = Unit {0}
MayBeRefused (Desk (Ask most)) Memory = Unit {0}
MayBeRefused (Desk (Ask most)) GenerationEnd = Unit {0}
MayBeRefused (Desk (BeginCommit most)) Busy = Unit {0}
MayBeRefused (Desk (BeginCommit most)) Memory = Unit {0}
MayBeRefused (Desk (BeginCommit most)) GenerationEnd = Unit {0}
MayBeRefused (Device (ReadMetadata left)) Memory = Unit {0}
MayBeRefused (Device (ReadMetadata left)) NotFormatted = Unit {0}
MayBeRefused (Device (ReadMetadata left)) (Damaged place) = Unit {0}
MayBeRefused (Device (ReadMetadata left)) Mismatch = Unit {0}
MayBeRefused (Device (ReadMetadata left)) NotClean = Unit {0}
MayBeRefused (Device (ReadMetadata left)) GenerationEnd = Unit {0}
MayBeRefused want refusal = ⊥

-- an image has no more nodes than were allowed; that of an opening none that has no place among the sectors that are left
abbrev pub MayBegin : Want → ℕ → Type 0
MayBegin (Desk (Arrive most)) nodes = nodes ≤ most
MayBegin (Desk (Ask most)) nodes = nodes ≤ most
MayBegin (Desk (BeginCommit most)) nodes = nodes ≤ most
MayBegin (Device (ReadMetadata left)) nodes = nodes ≤ left
MayBegin want nodes = ⊥

-- who arrives may be given a ticket, and who asks with one may be served
abbrev pub IsArrival : Want → Type 0
IsArrival (Desk (Arrive most)) = Unit {0}
IsArrival want = ⊥

abbrev pub IsAsking : Want → Type 0
IsAsking (Desk (Ask most)) = Unit {0}
IsAsking want = ⊥

-- nor has a reading more sectors
abbrev pub ReadingMayGoOn : Want → Type 0
ReadingMayGoOn (Device (ReadMetadata left)) = 1 ≤ left
ReadingMayGoOn want = ⊥

abbrev pub Fits : Want → Got → Type 0
Fits want Begin = ⊥
Fits want Done = MayBeDone want
Fits want (Word value) = IsLook want
Fits want Lost = IsExchange want
Fits want Fault = WantMayFail want
Fits want (Refused refusal) = MayBeRefused want refusal
Fits want (Began nodes) = MayBegin want nodes
Fits want Ticket = IsArrival want
Fits want Served = IsAsking want
Fits want More = ReadingMayGoOn want

-- a want that is a step, and no answer
abbrev pub IsStep : Want → Type 0
IsStep (Cell step) = Unit {0}
IsStep (Device step) = Unit {0}
IsStep (Desk step) = Unit {0}
IsStep (End answer) = ⊥

-- a result that a task may be handed: none yet, or one of its next step
abbrev pub MayCome : Plan → Got → Type 0
MayCome s Begin = Unit {0}
MayCome s got = Fits (want s) got

-- a result that no step has but an exchange, one that asks for a commit, or a read of the metadata
abbrev pub IsRare : Got → Type 0
IsRare Lost = Unit {0}
IsRare (Began nodes) = Unit {0}
IsRare Ticket = Unit {0}
IsRare Served = Unit {0}
IsRare More = Unit {0}
IsRare got = ⊥
