-- Where an opening of the machine stands in its table, and how far its reading has come there.
use Rattle.std.specs.Prelude.{◌≡◌, ◌≤◌, ◌<◌, ◌+◌, ℕ, Bool, true, false, List, Option, Some, None, length, slice_get}
use Rattle.std.specs.declared.alloc.Global.{Global}
use Rattle.wb_types.specs.declared.geometry.Geometry.{Geometry}
use Rattle.wb_disk.specs.Device.{History}
use Rattle.wb_disk.specs.Memory.{Memory}
use Rattle.wb_meta.specs.Openings.{reopened}
use Rattle.wb_meta.specs.Reads.{AreStepsOn, FitsDevice, IsDone, sectors_read}
use Rattle.wb_meta.specs.Sizes.{AreSameSizes}
use Rattle.wb_meta.specs.declared.commit_steps.CommitSteps.{CommitSteps}
use Rattle.wb_meta.specs.declared.commit_steps.CommitSteps.TheVariants.{NodesWritten, NodesSynced, RootWritten, Done as Committed}
use Rattle.wb_meta.specs.declared.read_steps.ReadSteps.{ReadSteps}
use Rattle.wb_meta.specs.declared.read_steps.ReadSteps.TheVariants.{Done as AllRead}
use Rattle.wb_meta.specs.declared.read_steps.State.{State}
use Rattle.wb_tasks.specs.Tables.{TaskJob, Flushing, Suspending, Opening as OpeningJob}
use Rattle.wb_tasks.specs.Plan.{Plan}
use Rattle.wb_tasks.specs.Points.{OpenPoint, AtFirst, AtCache, AtOrigin, AtRead, AtNodes, AtRoot, AtRootSync, AtEnd, AtRefusal, open_left, open_answer}
use Rattle.wb_devices.specs.declared.devices.Devices.{Devices}
use Rattle.wb_devices.specs.declared.running.RunningCommit.{RunningCommit}
use Rattle.wb_words.specs.SharedWords.{flag}
use Rattle.wb_runs.specs.Laws.{FindsSizes}
use Rattle.wb_promise.specs.Happenings.{IsGeometryAsked, most_for}
use Rattle.wb_promise.specs.declared.job.Job.{Job}
use Rattle.wb_machine.specs.Members.{Member}
use Rattle.wb_machine.specs.declared.asked.Asked.{Asked}
use Rattle.wb_machine.specs.declared.making.Made.{Made}
use Rattle.wb_machine.specs.declared.opener.Opener.{Opener}
use Rattle.wb_machine.specs.declared.phase.Phase.{Phase}
use Rattle.wb_machine.specs.declared.phase.Phase.TheVariants.{Closed, Underway, Standing}
use Rattle.wb_machine.specs.declared.target.Target.{Target}
use Rattle.wb_machine.specs.Life.{IsThere}
use Rattle.wb_machine.specs.Making.{HasMade, reading_of}

abbrev pub plan_from : ℕ → OpenPoint → Plan
plan_from most point = record { job = OpeningJob most; steps = open_left most point; answer = open_answer point }

-- No commit runs, not all was read, and as many sectors may follow as were not read.
abbrev pub IsReading : Geometry → ℕ → Option (ReadSteps Global) → Option RunningCommit → Type 0
IsReading g left None commit = ⊥
IsReading g left (Some was) commit = (commit ≡ None) × (¬ IsDone was) × AreStepsOn g.meta_sectors was × (left + sectors_read was ≡ g.meta_sectors)

-- An opening of which nothing was made reads on in metadata of these sizes: as many sectors may follow, and a root that it finds is of them.
pub record ReadsOn (g : Geometry) (actors left : ℕ) (o : Opener) (device : List History) : Type 0 where
  pub there : o.asked.actor < actors
  pub none : o.made ≡ None
  pub asks : IsGeometryAsked g o.asked.second o.opening.geometry
  pub size : length device ≡ g.meta_sectors
  pub reads : IsReading g left o.opening.reading o.opening.commit
  pub finds : (was : ReadSteps Global) → o.opening.reading ≡ Some was → FindsSizes g was device

-- All was read of a tree of these sizes, and the commit of the root that comes next over it, not clean, runs.
pub record HasReadAll (g : Geometry) (reading : Option (ReadSteps Global)) (commit : Option RunningCommit) : Type 0 where
  pub state : State Global
  pub reading_is : reading ≡ Some (AllRead state)
  pub fits : FitsDevice g.meta_sectors state.root state.tree state.used.items
  pub sizes : AreSameSizes state.root.geometry g
  pub next : RunningCommit
  pub commit_is : commit ≡ Some next
  pub root_is : next.image.root ≡ reopened state.root

-- that commit has come so far
abbrev pub HasCommitted : Geometry → CommitSteps → Option (ReadSteps Global) → Option RunningCommit → Type 0
HasCommitted g steps reading commit = (all : HasReadAll g reading commit) × (all.next.steps ≡ steps)

-- it has written its nodes up to this one, and so many are left
abbrev pub HasNodesLeft : Geometry → (left from : ℕ) → Option (ReadSteps Global) → Option RunningCommit → Type 0
HasNodesLeft g left from reading commit = (all : HasReadAll g reading commit) × (all.next.steps ≡ NodesWritten from) × (length all.next.image.nodes.items ≡ from + left)

-- how far the reading has come there, and the commit of the root
abbrev pub HasComeTo : Geometry → OpenPoint → Option (ReadSteps Global) → Option RunningCommit → Type 0
HasComeTo g AtFirst reading commit = commit ≡ None
HasComeTo g AtCache reading commit = IsReading g g.meta_sectors reading commit
HasComeTo g AtOrigin reading commit = IsReading g g.meta_sectors reading commit
HasComeTo g (AtRead left) reading commit = IsReading g left reading commit
HasComeTo g (AtNodes left from) reading commit = HasNodesLeft g left from reading commit
HasComeTo g AtRoot reading commit = HasCommitted g NodesSynced reading commit
HasComeTo g AtRootSync reading commit = HasCommitted g RootWritten reading commit
HasComeTo g AtEnd reading commit = HasCommitted g Committed reading commit
HasComeTo g (AtRefusal refusal) reading commit = Unit {0}

-- What the answer wants was made once all was read, and not before.
abbrev pub HasMadeThere : ℕ → OpenPoint → Asked → Option Made → Type 0
HasMadeThere actors (AtNodes left from) asked made = HasMade actors asked made
HasMadeThere actors AtRoot asked made = HasMade actors asked made
HasMadeThere actors AtRootSync asked made = HasMade actors asked made
HasMadeThere actors AtEnd asked made = HasMade actors asked made
HasMadeThere actors (AtRefusal refusal) asked made = Unit {0}
HasMadeThere actors point asked made = made ≡ None

-- An opening over metadata of these sizes, for so many actors, asks for the version that it was asked for, and stands at some point.
pub record StandsAt (g : Geometry) (actors : ℕ) (o : Opener) : Type 0 where
  pub point : OpenPoint
  pub plan_is : o.task ≡ plan_from g.meta_sectors point
  pub asks : IsGeometryAsked g o.asked.second o.opening.geometry
  pub come : HasComeTo g point (reading_of o) o.opening.commit
  pub made : HasMadeThere actors point o.asked o.made

-- A flush, and a suspend, whose image is clean, allows as many nodes as its image may have in either version, and a suspend has a bit for each cache block.
abbrev pub AllowsImages : Geometry → List Bool → TaskJob → Type 0
AllowsImages g seen (Flushing serves most) = most_for g false ≤ most
AllowsImages g seen (Suspending looks most) = (most_for g true ≤ most) × (length seen ≡ g.cache_blocks)
AllowsImages g seen job = Unit {0}

abbrev pub IsTaskRoomy : Geometry → List Bool → Option (Job × Plan) → Type 0
IsTaskRoomy g seen None = Unit {0}
IsTaskRoomy g seen (Some doing) = AllowsImages g seen doing.1.job

abbrev pub IsRoomy : Geometry → Member → Type 0
IsRoomy g m = IsTaskRoomy g m.seen m.task

abbrev pub AllRoomy : Geometry → List Member → Type 0
AllRoomy g members = (a : ℕ) (m : Member) → slice_get members a ≡ Some m → IsRoomy g m

-- A target has as many words as the origin has blocks, knows whether it has failed, and its desk is of these sizes; whoever
-- flushes or suspends it allows as many nodes as an image may have, and a suspend has a bit for each cache block.
pub record IsWholeTarget (g : Geometry) (target : Target) (members : List Member) : Type 0 where
  pub blocks : target.crew.blocks ≡ g.origin_blocks
  pub failed : target.failed ≡ flag target.crew.words.fail
  pub sizes : AreSameSizes target.desk.geometry g
  pub roomy : AllRoomy g members

abbrev pub StandsSo : Geometry → ℕ → Phase → Type 0
StandsSo g actors Closed = Unit {0}
StandsSo g actors (Underway opener) = StandsAt g actors opener
StandsSo g actors (Standing target members) = IsWholeTarget g target members.items

-- Whoever is at work there is one of so many, the metadata device is of these sizes, and what stands over it is sound.
pub record IsSoundPhase (g : Geometry) (actors : ℕ) (devices : Devices Memory) (phase : Phase) : Type 0 where
  pub there : IsThere actors phase
  pub whole : length devices.metadata.contents ≡ g.meta_sectors
  pub stands : StandsSo g actors phase
