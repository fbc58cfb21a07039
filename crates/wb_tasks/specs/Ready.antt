-- What an actor has where so much of its task is left, and that it is ready for the next step then.
use Rattle.std.specs.List.{Contains}
use Rattle.std.specs.Prelude.{◌≡◌, ◌<◌, ℕ, Bool, true, false, List, [], ◌∷◌, Option}
use Rattle.wb_types.specs.declared.mode.Dev.{Dev}
use Rattle.wb_types.specs.declared.mode.Dev.TheVariants.{Metadata, Cache, Origin}
use Rattle.wb_types.specs.declared.number.OBlock.{OBlock}
use Rattle.wb_words.specs.declared.word.Access.TheVariants.{Owned}
use Rattle.wb_words.specs.declared.word.Word.TheVariants.{Cell as LockWord, Seal as SealWord, Number, Fail}
use Rattle.wb_words.specs.declared.card.Hold.TheVariants.{Nothing, Held}
use Rattle.wb_words.specs.declared.card.Card.{Card}
use Rattle.wb_words.specs.declared.step.CellStep.TheVariants.{Look, Take, Release, Seal, Finish, Count, SetFailed, SetSuspended}
use Rattle.wb_words.specs.SharedWords.{Words, can_take}
use Rattle.wb_words.specs.Effects.{result_of, card_after}
use Rattle.wb_words.specs.Ready.{IsReady, HasNext}
use Rattle.wb_tasks.specs.Tables.{BlockJob, Reading, Writing, Displacing, Invalidating, Migrating, TaskJob, OnBlock, Flushing, Suspending, Opening, is_write, range_of, access_of}
use Rattle.wb_tasks.specs.Plan.{Plan, want, after, Fits, IsStep, got_of}
use Rattle.wb_tasks.specs.Run.{Leads}
use Rattle.wb_tasks.specs.declared.step.DeviceStep.{DeviceStep}
use Rattle.wb_tasks.specs.declared.step.DeviceStep.TheVariants.{Read, Write, Sync, ReadMetadata, WriteNode, WriteRoot}
use Rattle.wb_tasks.specs.declared.step.DeskStep.{DeskStep}
use Rattle.wb_tasks.specs.declared.step.DeskStep.TheVariants.{Map, Unmap, ReleaseOrder, Arrive, Ask, BeginCommit, EndCommit, BreakCommit}
use Rattle.wb_tasks.specs.declared.step.Migration.{Migration}
use Rattle.wb_tasks.specs.declared.step.Migration.TheVariants.{Promote, Demote, Clean}
use Rattle.wb_tasks.specs.declared.step.Want.{Want}
use Rattle.wb_tasks.specs.declared.step.Want.TheVariants.{Cell, Device, Desk, End}
use Rattle.wb_tasks.specs.declared.step.Got.{Got}

-- who enters or removes a block of the mapping owns it; of all else the desk is asked by who holds no block
abbrev pub MayAsk : Card → DeskStep → Type 0
MayAsk card (Map block place) = card.hold ≡ Held Owned block
MayAsk card (Unmap block) = card.hold ≡ Held Owned block
MayAsk card step = card.hold ≡ Nothing

-- a step of any kind: of those on the words one that the actor is ready for
abbrev pub MayTake : ℕ → Card → Want → Type 0
MayTake blocks card (Cell step) = IsReady blocks card step
MayTake blocks card (Desk step) = MayAsk card step
MayTake blocks card next = Unit {0}

-- A card that a step with this result makes of its actor's, whatever the words were.
abbrev pub MayMake : Want → Got → Card → Card → Type 0
MayMake (Cell step) got card card' = (words : Words) × (got ≡ got_of (result_of words step)) × (card' ≡ card_after words step card)
MayMake next got card card' = card' ≡ card

abbrev pub block_of : BlockJob → OBlock
block_of job = (range_of job).block

-- the actor has the block of its job
abbrev pub HasBlock : BlockJob → Card → Type 0
HasBlock job card = card.hold ≡ Held (access_of job) (block_of job)

-- a write knows a number that has a next one
abbrev pub KnowsNext : BlockJob → Bool → Option ℕ → Type 0
KnowsNext (Reading part) next known = Unit {0}
KnowsNext (Writing part) true known = HasNext known
KnowsNext (Writing part) false known = Unit {0}
KnowsNext (Displacing part) true known = HasNext known
KnowsNext (Displacing part) false known = Unit {0}
KnowsNext job next known = Unit {0}

-- where blocks stand
abbrev pub HoldsBlocks : Dev → Type 0
HoldsBlocks Metadata = ⊥
HoldsBlocks Cache = Unit {0}
HoldsBlocks Origin = Unit {0}

-- the devices that a migration copies from and to
abbrev pub source_of : Migration → Dev
source_of (Promote c) = Origin
source_of Demote = Cache
source_of Clean = Cache

abbrev pub target_of : Migration → Dev
target_of (Promote c) = Cache
target_of Demote = Origin
target_of Clean = Origin

-- A step on a device that a job may take: a read reads and a write writes, where the block stands; a write that displaces its block
-- writes the origin; a promotion copies from the origin to the cache, a demotion or write-back from the cache to the origin.
abbrev pub IsJobs : BlockJob → DeviceStep → Type 0
IsJobs (Reading part) (Read device e) = HoldsBlocks device
IsJobs (Writing part) (Write device e) = HoldsBlocks device
IsJobs (Displacing part) (Write device e) = device ≡ Origin
IsJobs (Migrating migration part) (Read device e) = device ≡ source_of migration
IsJobs (Migrating migration part) (Write device e) = device ≡ target_of migration
IsJobs job step = ⊥

-- What a job may ask of the desk: a promotion maps its block, a demotion unmaps it, and each migration may give up its
-- order; who takes a block out of the cache without an order unmaps it; a read or write asks nothing.
abbrev pub IsAsked : BlockJob → DeskStep → Type 0
IsAsked (Displacing part) (Unmap block) = block ≡ part.block
IsAsked (Invalidating part) (Unmap block) = block ≡ part.block
IsAsked (Migrating migration part) (ReleaseOrder block) = block ≡ part.block
IsAsked (Migrating migration part) (Map block place) = (block ≡ part.block) × (migration ≡ Promote place)
IsAsked (Migrating migration part) (Unmap block) = (block ≡ part.block) × (migration ≡ Demote)
IsAsked job step = ⊥

-- What commits looks at the fail word, syncs each device, writes nodes and a root, and ends its commit; it may set the failed bit, and break
-- the commits.
abbrev pub IsCommits : ℕ → Want → Type 0
IsCommits most (Cell (Look Fail)) = Unit {0}
IsCommits most (Cell SetFailed) = Unit {0}
IsCommits most (Device (Sync device)) = Unit {0}
IsCommits most (Device (WriteNode number)) = number < most
IsCommits most (Device WriteRoot) = Unit {0}
IsCommits most (Desk EndCommit) = Unit {0}
IsCommits most (Desk BreakCommit) = Unit {0}
IsCommits most (End answer) = Unit {0}
IsCommits most next = ⊥

-- a flush asks to lead a commit, or to be served by one, and may give up what it serves itself
abbrev pub IsFlushs : List OBlock → ℕ → Want → Type 0
IsFlushs serves most (Desk (ReleaseOrder block)) = Contains serves block
IsFlushs serves most (Desk (Arrive nodes)) = nodes ≡ most
IsFlushs serves most (Desk (Ask nodes)) = nodes ≡ most
IsFlushs serves most next = IsCommits most next

-- a suspend looks at the seals of its blocks, asks for a commit whose root is marked clean, and sets the suspended bit
abbrev pub IsSuspends : List OBlock → ℕ → Want → Type 0
IsSuspends blocks most (Cell (Look (SealWord block))) = Contains blocks block
IsSuspends blocks most (Cell SetSuspended) = Unit {0}
IsSuspends blocks most (Desk (BeginCommit nodes)) = nodes ≡ most
IsSuspends blocks most next = IsCommits most next

-- An opening syncs each device, reads metadata, and writes nodes and a root; it touches no word and asks nothing of a desk, which
-- is not there yet.
abbrev pub IsOpenings : Want → Type 0
IsOpenings (Device (Sync device)) = Unit {0}
IsOpenings (Device (ReadMetadata left)) = Unit {0}
IsOpenings (Device (WriteNode number)) = Unit {0}
IsOpenings (Device WriteRoot) = Unit {0}
IsOpenings (End answer) = Unit {0}
IsOpenings next = ⊥

-- a step on a device or the desk is one of the job's own
abbrev pub IsOwnStep : TaskJob → Want → Type 0
IsOwnStep (OnBlock job) (Device step) = IsJobs job step
IsOwnStep (OnBlock job) (Desk step) = IsAsked job step
IsOwnStep (OnBlock job) next = Unit {0}
IsOwnStep (Flushing serves most) next = IsFlushs serves most next
IsOwnStep (Suspending blocks most) next = IsSuspends blocks most next
IsOwnStep (Opening left) next = IsOpenings next

abbrev pub AreOwnSteps : TaskJob → List Want → Type 0
AreOwnSteps job [] = Unit {0}
AreOwnSteps job (next ∷ ws) = IsOwnStep job next × AreOwnSteps job ws

-- with the block given back, an order may be given up
abbrev pub IsParting : BlockJob → List Want → Type 0
IsParting job [] = Unit {0}
IsParting job (Desk (ReleaseOrder block) ∷ []) = IsAsked job (ReleaseOrder block)
IsParting job ws = ⊥

-- What may be left of the work of a job that has its block; the flag says that its number is known to have a next one.
abbrev pub IsRest : BlockJob → Bool → List Want → Type 0
IsRest job next (Device step ∷ ws) = IsJobs job step × IsRest job next ws
IsRest job next (Cell (Seal block place dirty) ∷ ws) = (block ≡ block_of job) × (access_of job ≡ Owned) × IsRest job next ws
IsRest job next (Cell (Finish block) ∷ ws) = (block ≡ block_of job) × (is_write job ≡ true) × (next ≡ true) × IsRest job false ws
IsRest job next (Cell (Count kind) ∷ ws) = IsRest job next ws
IsRest job next (Cell (Release access block) ∷ ws) = (access ≡ access_of job) × (block ≡ block_of job) × IsParting job ws
IsRest job next (Desk (Map block place) ∷ ws) = IsAsked job (Map block place) × IsRest job next ws
IsRest job next (Desk (Unmap block) ∷ ws) = IsAsked job (Unmap block) × IsRest job next ws
IsRest job next ws = ⊥

-- what an actor has, with these steps of its job to come
abbrev pub Has : BlockJob → Card → List Want → Type 0
Has job card [] = card.hold ≡ Nothing
Has job card (Cell (Look Fail) ∷ ws) = (card.hold ≡ Nothing) × (ws ≡ Cell (Look (LockWord (block_of job))) ∷ [])
Has job card (Cell (Look (LockWord block)) ∷ ws) = (card.hold ≡ Nothing) × (block ≡ block_of job) × (ws ≡ [])
Has job card (Cell (Take access block seen) ∷ ws) = (card.hold ≡ Nothing) × (access ≡ access_of job) × (block ≡ block_of job) × (can_take access seen ≡ true) × (ws ≡ Cell (Look (SealWord block)) ∷ [])
Has job card (Cell (Look (SealWord block)) ∷ ws) = HasBlock job card × (block ≡ block_of job)
Has job card (Cell (Look (Number block)) ∷ ws) = HasBlock job card × (block ≡ block_of job) × IsRest job true ws
Has job card (Desk (ReleaseOrder block) ∷ ws) = (card.hold ≡ Nothing) × IsAsked job (ReleaseOrder block) × (ws ≡ [])
Has job card (Cell SetFailed ∷ ws) = (card.hold ≡ Held Owned (block_of job)) × (ws ≡ [])
Has job card ws = HasBlock job card × ((next : Bool) × IsRest job next ws × KnowsNext job next card.number)

-- these blocks are there
abbrev pub AreBelow : ℕ → List OBlock → Type 0
AreBelow count blocks = (block : OBlock) → Contains blocks block → block.0 < count

-- An actor with this card has what it needs for what is left of its task, where there are so many blocks. A flush, a suspend or an
-- opening holds no block.
abbrev pub SuitsJob : ℕ → TaskJob → Card → List Want → Type 0
SuitsJob blocks (OnBlock job) card steps = ((block_of job).0 < blocks) × Has job card steps
SuitsJob blocks (Flushing serves most) card steps = (card.hold ≡ Nothing) × AreOwnSteps (Flushing serves most) steps
SuitsJob count (Suspending blocks most) card steps = (card.hold ≡ Nothing) × AreBelow count blocks × AreOwnSteps (Suspending blocks most) steps
SuitsJob blocks (Opening left) card steps = (card.hold ≡ Nothing) × AreOwnSteps (Opening left) steps

abbrev pub Suits : ℕ → Plan → Card → Type 0
Suits blocks s card = SuitsJob blocks s.job card s.steps

-- these are the first steps of what is left of a task
abbrev pub AreFirst : Plan → List (Want × Got) → Type 0
AreFirst s [] = Unit {0}
AreFirst s (step ∷ steps) = (step.0 ≡ want s) × Fits step.0 step.1 × AreFirst (after s step.1) steps

-- what is left after them
abbrev pub left_by : Plan → List (Want × Got) → Plan
left_by s [] = s
left_by s (step ∷ steps) = left_by (after s step.1) steps

-- Wherever the steps of a task lead a stage, the stage is ready for the next one.
abbrev pub StaysReady : {S : Type 0} → (S → Want → Type 0) → (S → Want → Got → S → Type 0) → Plan → S → Type 0
StaysReady {S} ready led s old = (steps : List (Want × Got)) (mid : S) → AreFirst s steps → Leads led old steps mid → IsStep (want (left_by s steps)) → ready mid (want (left_by s steps))
