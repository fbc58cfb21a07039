-- Where a flush or an opening stands in its table, and how far the commit and the reading have come there.
use Rattle.std.proofs.Common.{◌≡◌, ◌≤◌, ◌+◌, ◌++◌, ℕ, List, [], ◌∷◌, Option, Some, None, length, slice_get}
use Rattle.wb_types.specs.declared.mode.Dev.TheVariants.{Metadata, Cache, Origin}
use Rattle.wb_types.specs.declared.number.OBlock.{OBlock}
use Rattle.wb_words.specs.declared.word.Word.TheVariants.{Fail}
use Rattle.wb_words.specs.declared.step.CellStep.TheVariants.{Look, SetSuspended}
use Rattle.wb_meta.specs.Reads.{sectors_read}
use Rattle.wb_meta.specs.declared.read_steps.ReadSteps.{ReadSteps}
use Rattle.wb_meta.specs.declared.commit_steps.CommitSteps.{CommitSteps}
use Rattle.wb_meta.specs.declared.commit_steps.CommitSteps.TheVariants.{NodesWritten, NodesSynced, RootWritten, Done as Committed}
use Rattle.wb_tasks.specs.Tables.{BlockRange, Invalidating, Migrating, OnBlock, TaskJob, Flushing, Suspending, Opening}
use Rattle.wb_tasks.specs.Plan.{Plan, failed_commit, node_writes, release_orders, seal_looks}
use Rattle.wb_tasks.specs.Points.{OpenPoint, AtFirst, AtCache, AtOrigin, AtRead, AtNodes, AtRoot, AtRootSync, AtEnd, AtRefusal, open_left, open_answer}
use Rattle.wb_tasks.specs.declared.step.Migration.{Migration}
use Rattle.wb_tasks.specs.declared.step.Answer.{Answer}
use Rattle.wb_tasks.specs.declared.step.DeviceStep.TheVariants.{Sync, WriteRoot}
use Rattle.wb_tasks.specs.declared.step.DeskStep.TheVariants.{Arrive, Ask, BeginCommit, EndCommit, BreakCommit}
use Rattle.wb_tasks.specs.declared.step.Want.{Want}
use Rattle.wb_tasks.specs.declared.step.Want.TheVariants.{Cell, Device, Desk}
use Rattle.wb_devices.specs.declared.running.RunningCommit.{RunningCommit}
use Rattle.wb_promise.specs.declared.job.Job.{Job}
use Rattle.wb_promise.specs.declared.job.Job.TheVariants.{Flush, Suspend, Open, Migrate, Replace, Invalidate}
use Rattle.wb_promise.specs.States.{Actor, Phase, Stands, Gone, Opens}
use Rattle.wb_promise.specs.Happenings.{OfSome}
use Rattle.wb_runs.proofs.Plans.{plan_of}
use Rattle.wb_runs.proofs.Spelled.{IsSmall}

-- a commit runs whose image has so many nodes and can be spelled, and has come so far
abbrev pub Runs : ℕ → CommitSteps → Option RunningCommit → Type 0
Runs nodes steps None = ⊥
Runs nodes steps (Some c) = (length c.image.nodes.items ≡ nodes) × IsSmall c.image × (c.steps ≡ steps)

-- ---- flushes and suspends

-- what a commit is for: a flush, which serves the replacements of these blocks, or a suspend, which looks at the seals of these; of so many nodes at
-- most
pub data CommitJob : Type 0 where
  Flushes : (serves : List OBlock) → (most : ℕ) → CommitJob
  Suspends : (looks : List OBlock) → (most : ℕ) → CommitJob

abbrev pub task_of : CommitJob → TaskJob
task_of (Flushes serves most) = Flushing serves most
task_of (Suspends looks most) = Suspending looks most

abbrev pub doing_of : CommitJob → Job
doing_of (Flushes serves most) = Flush
doing_of (Suspends looks most) = Suspend

abbrev pub begin_of : CommitJob → Want
begin_of (Flushes serves most) = Desk (Arrive most)
begin_of (Suspends looks most) = Desk (BeginCommit most)

-- a flush alone asks with a ticket
abbrev pub ask_of : CommitJob → List Want
ask_of (Flushes serves most) = Desk (Ask most) ∷ []
ask_of (Suspends looks most) = []

abbrev pub first_looks : CommitJob → List OBlock
first_looks (Flushes serves most) = []
first_looks (Suspends looks most) = looks

-- what its commit is followed by
abbrev pub following : CommitJob → List Want
following (Flushes serves most) = []
following (Suspends looks most) = Cell SetSuspended ∷ []

-- With each point of a commit go the nodes of its image; where they are written, those that are left and which one comes next. Before it begins a
-- suspend has seals to look at, and before its answer a flush may have to give up the orders of some blocks.
pub data FlushPoint : Type 0 where
  ToLook : FlushPoint
  ToBegin : (looks : List OBlock) → FlushPoint
  ToAsk : FlushPoint
  ToSyncCache : (nodes : ℕ) → FlushPoint
  ToSyncOrigin : (nodes : ℕ) → FlushPoint
  ToWriteNodes : (left from : ℕ) → FlushPoint
  ToWriteRoot : (nodes : ℕ) → FlushPoint
  ToSyncRoot : (nodes : ℕ) → FlushPoint
  ToEnd : (nodes : ℕ) → FlushPoint
  ToSetSuspended : FlushPoint
  ToSetFailed : FlushPoint
  ToBreak : FlushPoint
  ToRelease : (blocks : List OBlock) → FlushPoint

abbrev pub root_left : CommitJob → List Want
root_left job = Device (Sync Metadata) ∷ Device WriteRoot ∷ Device (Sync Metadata) ∷ Desk EndCommit ∷ following job

abbrev pub commit_left : CommitJob → FlushPoint → List Want
commit_left job ToLook = Cell (Look Fail) ∷ (seal_looks (first_looks job) ++ begin_of job ∷ [])
commit_left job (ToBegin looks) = seal_looks looks ++ begin_of job ∷ []
commit_left job ToAsk = ask_of job
commit_left job (ToSyncCache nodes) = Device (Sync Cache) ∷ Device (Sync Origin) ∷ (node_writes nodes 0 ++ root_left job)
commit_left job (ToSyncOrigin nodes) = Device (Sync Origin) ∷ (node_writes nodes 0 ++ root_left job)
commit_left job (ToWriteNodes left from) = node_writes left from ++ root_left job
commit_left job (ToWriteRoot nodes) = Device WriteRoot ∷ Device (Sync Metadata) ∷ Desk EndCommit ∷ following job
commit_left job (ToSyncRoot nodes) = Device (Sync Metadata) ∷ Desk EndCommit ∷ following job
commit_left job (ToEnd nodes) = Desk EndCommit ∷ following job
commit_left job ToSetSuspended = Cell SetSuspended ∷ []
commit_left job ToSetFailed = failed_commit
commit_left job ToBreak = Desk BreakCommit ∷ []
commit_left job (ToRelease blocks) = release_orders blocks

abbrev pub AtFlush : FlushPoint → Option RunningCommit → Type 0
AtFlush (ToSyncCache nodes) commit = Runs nodes (NodesWritten 0) commit
AtFlush (ToSyncOrigin nodes) commit = Runs nodes (NodesWritten 0) commit
AtFlush (ToWriteNodes left from) commit = Runs (from + left) (NodesWritten from) commit
AtFlush (ToWriteRoot nodes) commit = Runs nodes NodesSynced commit
AtFlush (ToSyncRoot nodes) commit = Runs nodes RootWritten commit
AtFlush (ToEnd nodes) commit = Runs nodes Committed commit
AtFlush point commit = Unit {0}

-- who is there leads the commit
abbrev pub IsLeading : FlushPoint → Type 0
IsLeading (ToSyncCache nodes) = Unit {0}
IsLeading (ToSyncOrigin nodes) = Unit {0}
IsLeading (ToWriteNodes left from) = Unit {0}
IsLeading (ToWriteRoot nodes) = Unit {0}
IsLeading (ToSyncRoot nodes) = Unit {0}
IsLeading (ToEnd nodes) = Unit {0}
IsLeading point = ⊥

-- a flush alone asks with a ticket, or gives up orders
abbrev pub IsOf : FlushPoint → CommitJob → Type 0
IsOf ToAsk (Suspends looks most) = ⊥
IsOf (ToRelease (block ∷ blocks)) (Suspends looks most) = ⊥
IsOf point job = Unit {0}

-- One that leads is the leader's.
pub record FlushAt (Makes : List OBlock → ℕ → CommitJob) (commit : Option RunningCommit) (IsLeader : Type 0) (plan : Plan) : Type 0 where
  pub blocks : List OBlock
  pub most : ℕ
  pub answer : Answer
  pub point : FlushPoint
  pub of : IsOf point (Makes blocks most)
  pub is : plan ≡ plan_of (task_of (Makes blocks most)) (commit_left (Makes blocks most) point) answer
  pub at : AtFlush point commit
  pub leads : IsLeading point → IsLeader

-- a task migrates so
abbrev pub Migrates : Migration → Plan → Type 0
Migrates migration plan = (part : BlockRange) × (plan.job ≡ OnBlock (Migrating migration part))

-- a task invalidates so
abbrev pub Invalidates : Plan → Type 0
Invalidates plan = (part : BlockRange) × (plan.job ≡ OnBlock (Invalidating part))

-- nobody is at a replacement: it begins with the demotion of the block that leaves
abbrev pub FlushJob : Option RunningCommit → Type 0 → Job → Plan → Type 0
FlushJob commit IsLeader Flush plan = FlushAt Flushes commit IsLeader plan
FlushJob commit IsLeader Suspend plan = FlushAt Suspends commit IsLeader plan
FlushJob commit IsLeader (Migrate migration block) plan = Migrates migration plan
FlushJob commit IsLeader (Invalidate block) plan = Invalidates plan
FlushJob commit IsLeader (Replace old new) plan = ⊥
FlushJob commit IsLeader job plan = Unit {0}

abbrev pub FlushTask : Option RunningCommit → Type 0 → Option (Job × Plan) → Type 0
FlushTask commit IsLeader None = Unit {0}
FlushTask commit IsLeader (Some task) = FlushJob commit IsLeader task.0 task.1

-- ---- openings

-- No commit runs until all was read; a reading that has read nothing may read a sector more. The commit is that of a root alone, or of nodes too.
abbrev pub AtOpen : {A : Type 0} → ℕ → OpenPoint → Option (ReadSteps A) → Option RunningCommit → Type 0
AtOpen n AtFirst reading commit = (commit ≡ None) × (1 ≤ n)
AtOpen n AtCache reading commit = (commit ≡ None) × OfSome reading (λ was. 1 ≤ n)
AtOpen n AtOrigin reading commit = (commit ≡ None) × OfSome reading (λ was. 1 ≤ n)
AtOpen n (AtRead left) reading commit = (commit ≡ None) × OfSome reading (λ was. sectors_read was ≡ 0 → 1 ≤ left)
AtOpen n (AtNodes left from) reading commit = Runs (from + left) (NodesWritten from) commit
AtOpen n AtRoot reading commit = (nodes : ℕ) × Runs nodes NodesSynced commit
AtOpen n AtRootSync reading commit = (nodes : ℕ) × Runs nodes RootWritten commit
AtOpen n AtEnd reading commit = (nodes : ℕ) × Runs nodes Committed commit
AtOpen n (AtRefusal refusal) reading commit = Unit {0}

pub record OpenAt {A : Type 0} (reading : Option (ReadSteps A)) (commit : Option RunningCommit) (plan : Plan) : Type 0 where
  pub sectors : ℕ
  pub point : OpenPoint
  pub is : plan ≡ plan_of (Opening sectors) (open_left sectors point) (open_answer point)
  pub at : AtOpen sectors point reading commit

abbrev pub OpenJob : {A : Type 0} → Option (ReadSteps A) → Option RunningCommit → Job → Plan → Type 0
OpenJob reading commit (Open mode second) plan = OpenAt reading commit plan
OpenJob reading commit job plan = Unit {0}

abbrev pub OpenTask : {A : Type 0} → Option (ReadSteps A) → Option RunningCommit → Option (Job × Plan) → Type 0
OpenTask reading commit None = Unit {0}
OpenTask reading commit (Some task) = OpenJob reading commit task.0 task.1

-- ---- all of them

-- where every flush and opening stands, and that each migration's task migrates, and each invalidation's invalidates; one flush alone leads the commit
abbrev pub Going : {P A : Type 0} → Phase P A → Option RunningCommit → List Actor → Type 0
Going (Stands t) commit actors = (leader : ℕ) × ((b : ℕ) (x : Actor) → slice_get actors b ≡ Some x → FlushTask commit (b ≡ leader) x.task)
Going Gone commit actors = Unit {0}
Going (Opens mode reading) commit actors = (b : ℕ) (x : Actor) → slice_get actors b ≡ Some x → OpenTask reading commit x.task
