-- How what actors of a run do is followed in the abstract world, where a target stands.
use Rattle.wb_stage.specs.declared.share.Share.TheVariants.{Waiting}
use Rattle.wb_stage.specs.declared.share.Share.{Share}
use Rattle.wb_types.specs.declared.refusal.Refusal.TheVariants.{Failed}
use Rattle.wb_tasks.specs.declared.step.DeskStep.{DeskStep}
use Rattle.std.specs.Prelude.{◌++◌, Contains, ◌%◌, ◌≡◌, ◌≤◌, ◌+◌, ◌⊎◌, ◌≢◌, ℕ, Bool, true, false, cond, List, [], Some, None, length, replicate, slice_get, slice_set}
use Rattle.wb_types.specs.declared.extent.Extent.{Extent}
use Rattle.wb_types.specs.declared.mode.Mode.{Mode}
use Rattle.wb_types.specs.declared.mode.Mode.TheVariants.{Writeback, Passthrough}
use Rattle.wb_types.specs.declared.mode.Dev.{Dev}
use Rattle.wb_types.specs.declared.mode.Dev.TheVariants.{Metadata}
use Rattle.wb_types.specs.declared.number.OBlock.{OBlock}
use Rattle.wb_types.specs.declared.refusal.Refusal.{Refusal}
use Rattle.wb_disk.specs.Device.{Content, History, only, synced}
use Rattle.wb_disk.specs.Failing.{synced_where}
use Rattle.wb_disk.specs.Extents.{GivesEach, written_each, written_where}
use Rattle.wb_words.specs.SharedWords.{Words, fail_word, fresh_words}
use Rattle.wb_words.specs.Rule.{LockRule}
use Rattle.wb_words.specs.Effects.{result_of, words_after, card_after}
use Rattle.wb_words.specs.declared.step.CellStep.{CellStep}
use Rattle.wb_words.specs.declared.step.CellStep.TheVariants.{Look, SetFailed, SetSuspended}
use Rattle.wb_words.specs.declared.word.Word.TheVariants.{Fail, Seal as SealWord}
use Rattle.wb_policy.specs.declared.order.Order.{Order}
use Rattle.wb_tasks.specs.Plan.{Plan, want, after, got_of, table, device_of}
use Rattle.wb_tasks.specs.Tables.{BlockRange, Reading, Invalidating, OnBlock, Flushing, Suspending}
use Rattle.wb_tasks.specs.declared.step.Answer.{Answer}
use Rattle.wb_words.specs.declared.card.Hold.TheVariants.{Nothing}
use Rattle.wb_tasks.specs.Ready.{Suits, HoldsBlocks}
use Rattle.wb_tasks.specs.declared.step.Want.{Want}
use Rattle.wb_tasks.specs.declared.step.Want.TheVariants.{Cell, Device, Desk, End}
use Rattle.wb_tasks.specs.declared.step.DeskStep.TheVariants.{Unmap, BeginCommit, EndCommit, ReleaseOrder, Arrive, Ask, BreakCommit}
use Rattle.wb_tasks.specs.declared.step.DeviceStep.{DeviceStep}
use Rattle.wb_tasks.specs.declared.step.DeviceStep.TheVariants.{Read as ReadExtent, Write as WriteExtent, Sync, WriteRoot}
use Rattle.wb_tasks.specs.declared.step.Got.{Got}
use Rattle.wb_tasks.specs.declared.step.Got.TheVariants.{Done, Fault, Began, Refused, Ticket, Served}
use Rattle.wb_devices.specs.Moving.{device_in}
use Rattle.wb_link.specs.Tables.{Script, Order as AbstractOrder, Unmap_plain, Done as DoneThere, Job as AbstractJob}
use Rattle.wb_refines.specs.Translation.{job_for}
use Rattle.wb_link.specs.World.{World, AbstractActor, MayStep, abstract_begins as world_begins}
use Rattle.wb_refines.specs.Commits.{IsNoBegin, IsWrittenAfter, commit_there}
use Rattle.wb_promise.specs.declared.job.Job.{Job}
use Rattle.wb_promise.specs.declared.job.Job.TheVariants.{Read, Write, Flush, Suspend, Invalidate}
use Rattle.wb_promise.specs.States.{Actor, resting, with_device}
use Rattle.wb_promise.specs.Clerk.{is_entered}
use Rattle.wb_runs.specs.Holding.{cards_of}
use Rattle.wb_simulation.specs.Actors.{AreAmongOthers, write_of, ticket_in}
use Rattle.wb_simulation.specs.Opened.{AreAtRest}
use Rattle.wb_simulation.specs.Carried.{held}
use Rattle.wb_simulation.specs.Steps.{IsPart}
use Rattle.wb_simulation.specs.Telling.{Telling, Quietly, Reads, Writes, Answers, Starts, Releases}
use Rattle.wb_simulation.specs.Worlds.{zeros, Situation, Agrees, Turn, Stays, Begins, Puts, Ends, Unmaps, GivesUp, WorldFollowsBy, WorldFollows, none_yet, one_begun, one_ended, TakesIn, IsLeftOut}

-- This actor, which is at this task, wants this next, and the run stands where the world does.
pub record WantsNext (now : Situation) (a : ℕ) (x : Actor) (s : World) (job : Job) (plan : Plan) (next : Want) : Type 0 where
  pub here : slice_get now.actors a ≡ Some x
  pub task : x.task ≡ Some (job, plan)
  pub asks : want plan ≡ next
  pub agrees : Agrees now s

abbrev pub IsRequestJob : Job → Type 0
IsRequestJob (Read extent) = Unit {0}
IsRequestJob (Write extent content) = Unit {0}
IsRequestJob (Invalidate block) = Unit {0}
IsRequestJob job = ⊥

-- an actor that has done this step of its task on the words
abbrev pub stepped_actor : Words → Job → Plan → CellStep → Actor → Actor
stepped_actor words job plan step x = record x { task = Some (job, after plan (got_of (result_of words step))); card = card_after words step x.card }

-- A step of a read, a write or an invalidation on the shared words, which keep their rule, among all others who have tasks.
abbrev pub CellStepsFollowed : Type 0
CellStepsFollowed = (now : Situation) (blocks : ℕ) (a : ℕ) (x : Actor) (job : Job) (plan : Plan) (step : CellStep) (s : World) →
    IsRequestJob job → LockRule blocks now.words (cards_of now.actors) → WantsNext now a x s job plan (Cell step) → Suits blocks plan x.card →
    WorldFollows Quietly a s (record now { words = words_after now.words step }) (stepped_actor now.words job plan step x)

-- an actor that has gone on with its task, and knows what it knew
abbrev pub after_step : Job → Plan → Got → Actor → Actor
after_step job plan got x = record x { task = Some (job, after plan got) }

-- what a write's step on a device is told as: it is noted where its sectors are entered
abbrev pub written_as : Mode → Dev → (block offset count : ℕ) → Content → Telling
written_as mode device block offset count content = cond (is_entered mode device) (Writes block offset count content) Quietly

-- A step of a read or a write on an extent of a device, done or failing; of a write that fails each sector has landed or not.
pub record ExtentStepsFollowed : Type 0 where
  pub read_done : (now : Situation) (blocks : ℕ) (a : ℕ) (x : Actor) (extent : Extent) (part : BlockRange) (plan : Plan) (device : Dev) (e : Extent) (contents : List Content) (s : World) →
      WantsNext now a x s (Read extent) plan (Device (ReadExtent device e)) → plan.job ≡ OnBlock (Reading part) → Suits blocks plan x.card → HoldsBlocks device → length contents ≡ e.count → GivesEach (device_in device now.devices) e.first contents →
      WorldFollows (Reads part.block.0 (e.first % now.size) contents) a s now (after_step (Read extent) plan Done x)
  pub read_fails : (now : Situation) (blocks : ℕ) (a : ℕ) (x : Actor) (extent : Extent) (part : BlockRange) (plan : Plan) (device : Dev) (e : Extent) (s : World) →
      WantsNext now a x s (Read extent) plan (Device (ReadExtent device e)) → plan.job ≡ OnBlock (Reading part) → Suits blocks plan x.card → HoldsBlocks device →
      WorldFollows Quietly a s now (after_step (Read extent) plan Fault x)
  pub write_done : (now : Situation) (blocks : ℕ) (a : ℕ) (x : Actor) (extent : Extent) (content : Content) (part : BlockRange) (plan : Plan) (device : Dev) (e : Extent) (s : World) →
      WantsNext now a x s (Write extent content) plan (Device (WriteExtent device e)) → plan.job ≡ OnBlock (write_of part) → Suits blocks plan x.card → HoldsBlocks device → e.first + e.count ≤ length (device_in device now.devices) →
      WorldFollows (written_as part.mode device part.block.0 (e.first % now.size) e.count content) a s (record now { devices = with_device device now.devices (written_each (device_in device now.devices) e.first (replicate e.count content)) }) (after_step (Write extent content) plan Done x)
  pub write_fails : (now : Situation) (blocks : ℕ) (a : ℕ) (x : Actor) (extent : Extent) (content : Content) (part : BlockRange) (plan : Plan) (device : Dev) (e : Extent) (lands : ℕ → Bool) (s : World) →
      WantsNext now a x s (Write extent content) plan (Device (WriteExtent device e)) → plan.job ≡ OnBlock (write_of part) → Suits blocks plan x.card → HoldsBlocks device → e.first + e.count ≤ length (device_in device now.devices) →
      WorldFollows (written_as part.mode device part.block.0 (e.first % now.size) e.count content) a s (record now { devices = with_device device now.devices (written_where lands (device_in device now.devices) e.first (replicate e.count content)) }) (after_step (Write extent content) plan Fault x)

-- The job is given to the actor there too, or to nobody, since the actor has kept something at a failure.
abbrev pub Begun : AbstractJob → ℕ → World → Situation → Actor → Type 0
Begun job a s now x = WorldFollows (Starts job) a s now x ⊎ WorldFollows Quietly a s now x

-- A read, write or invalidation of one part of a block, or a flush, begins where nobody suspends, and a suspend where nobody is at anything, whether its actor has
-- kept something at a failure or not.
pub record StartsFollowed : Type 0 where
  pub read : (now : Situation) (a : ℕ) (x : Actor) (extent : Extent) (part : BlockRange) (s : World) →
      slice_get now.actors a ≡ Some x → x.task ≡ None → x.card.hold ≡ Nothing → IsPart now.size part → part.mode ≡ now.mode → AreAmongOthers now.actors → Agrees now s →
      Begun (job_for now.size [] (OnBlock (Reading part))) a s now (record x { task = Some (Read extent, table (OnBlock (Reading part))) })
  pub write : (now : Situation) (a : ℕ) (x : Actor) (extent : Extent) (content : Content) (part : BlockRange) (s : World) →
      slice_get now.actors a ≡ Some x → x.task ≡ None → x.card.hold ≡ Nothing → IsPart now.size part → part.mode ≡ now.mode → AreAmongOthers now.actors → Agrees now s →
      Begun (job_for now.size content (OnBlock (write_of part))) a s now (record x { task = Some (Write extent content, table (OnBlock (write_of part))) })
  pub invalidate : (now : Situation) (a : ℕ) (x : Actor) (block : OBlock) (part : BlockRange) (s : World) →
      slice_get now.actors a ≡ Some x → x.task ≡ None → x.card.hold ≡ Nothing → IsPart now.size part → now.mode ≡ Passthrough → AreAmongOthers now.actors → Agrees now s →
      Begun (job_for now.size [] (OnBlock (Invalidating part))) a s now (record x { task = Some (Invalidate block, table (OnBlock (Invalidating part))) })
  pub flush : (now : Situation) (a : ℕ) (x : Actor) (serves : List OBlock) (s : World) →
      slice_get now.actors a ≡ Some x → x.task ≡ None → AreAmongOthers now.actors → Agrees now s →
      Begun (commit_there false) a s now (record x { task = Some (Flush, table (Flushing serves (now.most false))) })
  pub suspend : (now : Situation) (a : ℕ) (x : Actor) (looks : List OBlock) (seen' : List Bool) (s : World) →
      slice_get now.actors a ≡ Some x → AreAtRest now.actors → Agrees now s →
      Begun (commit_there true) a s now (record x { task = Some (Suspend, table (Suspending looks (now.most true))); seen = seen' })

-- nobody has an order, nor is one aside
pub record HasNoOrder (s : World) : Type 0 where
  pub nobody : (b : ℕ) (z : AbstractActor) (p : AbstractOrder) → slice_get s.actors b ≡ Some z → z.order ≢ Some p
  pub none_waits : (c : ℕ) (p : AbstractOrder) → s.waiting c ≢ Some p

-- Where a write or an invalidation asks the desk to unmap its block, its actor may unmap it there, from a cache block; and where nobody has an order that is followed, whatever orders its actor
-- is said to have.
pub record UnmapFollowed (now : Situation) (a : ℕ) (x : Actor) (job : Job) (plan : Plan) (block : OBlock) (s : World) : Type 0 where
  pub cache : ℕ
  pub actor : AbstractActor
  pub script : Script
  pub may : MayStep s a (Unmap_plain block.0 cache) DoneThere actor script
  pub follows : HasNoOrder s → (orders' awaiting' : List Order) → WorldFollowsBy (Unmaps block.0 cache None) Quietly a s now (record (after_step job plan Done x) { orders = orders'; awaiting = awaiting' })

abbrev pub UnmapsFollowed : Type 0
UnmapsFollowed = (now : Situation) (blocks : ℕ) (a : ℕ) (x : Actor) (job : Job) (block : OBlock) (plan : Plan) (s : World) → IsRequestJob job → WantsNext now a x s job plan (Desk (Unmap block)) → Suits blocks plan x.card → UnmapFollowed now a x job plan block s

-- what a job writes to each of its sectors
abbrev pub job_content : Job → Content
job_content (Write extent content) = content
job_content job = []

-- A read, write or invalidation is answered, whether it was done, refused, or stopped by a failure.
abbrev pub AnswersFollowed : Type 0
AnswersFollowed = (now : Situation) (blocks : ℕ) (a : ℕ) (x : Actor) (job : Job) (plan : Plan) (answer : Answer) (s : World) →
    IsRequestJob job → WantsNext now a x s job plan (End answer) → Suits blocks plan x.card →
    WorldFollows (Answers (job_for now.size (job_content job) plan.job) answer) a s now (record x { task = None })

-- a step of a commit on the metadata writes the root, or is nothing to the images
abbrev pub turn_of : DeviceStep → Turn
turn_of WriteRoot = Puts true
turn_of step = Stays

-- no other actor has this order
abbrev pub IsOnlyOf : List Actor → ℕ → Order → Type 0
IsOnlyOf actors a order = (b : ℕ) (z : Actor) → slice_get actors b ≡ Some z → Contains (held z) order → b ≡ a

-- the job of a run that makes such a commit
abbrev pub flush_or_suspend : (clean : Bool) → Job
flush_or_suspend true = Suspend
flush_or_suspend false = Flush

-- a flush asks to lead a commit: on arriving, or with a ticket
abbrev pub AsksToLead : DeskStep → Type 0
AsksToLead (Arrive most) = Unit {0}
AsksToLead (Ask most) = Unit {0}
AsksToLead step = ⊥

-- Each step of a flush, or of a suspend, which marks its root clean, with each result that it may have: on the words, on the desk, and on the
-- devices, done or failing.
pub record CommitStepsFollowed : Type 0 where
  pub looks : (clean : Bool) (now : Situation) (a : ℕ) (x : Actor) (plan : Plan) (s : World) →
      WantsNext now a x s (flush_or_suspend clean) plan (Cell (Look Fail)) →
      WorldFollows Quietly a s now (stepped_actor now.words (flush_or_suspend clean) plan (Look Fail) x)
  -- a suspend has seen this then
  pub sees : (now : Situation) (block : OBlock) (seen' : List Bool) (a : ℕ) (x : Actor) (plan : Plan) (s : World) →
      WantsNext now a x s Suspend plan (Cell (Look (SealWord block))) →
      WorldFollows Quietly a s now (record (stepped_actor now.words Suspend plan (Look (SealWord block)) x) { seen = seen' })
  -- a suspend begins its commit, or is refused it
  pub begins : (now : Situation) (nodes allowed : ℕ) (a : ℕ) (x : Actor) (plan : Plan) (s : World) →
      WantsNext now a x s Suspend plan (Desk (BeginCommit allowed)) → now.commits.committing ≡ false →
      WorldFollowsBy (Begins true) Quietly a s (record now { commits = one_begun now.commits }) (after_step Suspend plan (Began nodes) x)
  pub is_refused : (now : Situation) (allowed : ℕ) (refusal : Refusal) (a : ℕ) (x : Actor) (plan : Plan) (s : World) → IsNoBegin refusal →
      WantsNext now a x s Suspend plan (Desk (BeginCommit allowed)) →
      WorldFollows Quietly a s now (after_step Suspend plan (Refused refusal) x)
  -- A flush leads a commit, or is refused that; it gets a ticket of the commit that comes after the one that runs, or is served. What it has of the
  -- commits of others, once it has asked, is nothing to what comes then.
  pub leads : (now : Situation) (nodes : ℕ) (step : DeskStep) (share : Share) (a : ℕ) (x : Actor) (plan : Plan) (s : World) → AsksToLead step →
      WantsNext now a x s Flush plan (Desk step) → now.commits.committing ≡ false → now.commits.broken ≡ false → IsLeftOut now.commits (ticket_in (Desk step) x.share) →
      WorldFollowsBy (Begins false) Quietly a s (record now { commits = one_begun now.commits }) (record (after_step Flush plan (Began nodes) x) { share = share })
  pub is_not_led : (now : Situation) (refusal : Refusal) (step : DeskStep) (share : Share) (a : ℕ) (x : Actor) (plan : Plan) (s : World) → AsksToLead step → IsNoBegin refusal →
      WantsNext now a x s Flush plan (Desk step) → IsLeftOut now.commits (ticket_in (Desk step) x.share) →
      WorldFollows Quietly a s now (record (after_step Flush plan (Refused refusal) x) { share = share })
  pub is_broken : (now : Situation) (step : DeskStep) (share : Share) (a : ℕ) (x : Actor) (plan : Plan) (s : World) → AsksToLead step →
      WantsNext now a x s Flush plan (Desk step) → now.commits.broken ≡ true → IsLeftOut now.commits (ticket_in (Desk step) x.share) →
      WorldFollows Quietly a s now (record (after_step Flush plan (Refused Failed) x) { share = share })
  pub is_served : (now : Situation) (step : DeskStep) (share : Share) (a : ℕ) (x : Actor) (plan : Plan) (s : World) → AsksToLead step →
      WantsNext now a x s Flush plan (Desk step) → TakesIn now.commits (ticket_in (Desk step) x.share) →
      WorldFollows Quietly a s now (record (after_step Flush plan Served x) { share = share })
  pub gets_ticket : (now : Situation) (allowed : ℕ) (a : ℕ) (x : Actor) (plan : Plan) (s : World) →
      WantsNext now a x s Flush plan (Desk (Arrive allowed)) → now.commits.committing ≡ true → now.commits.broken ≡ false →
      WorldFollows Quietly a s now (record (after_step Flush plan Ticket x) { share = Waiting (now.commits.ended + 2) })
  pub syncs : (clean : Bool) (now : Situation) (device : Dev) (a : ℕ) (x : Actor) (plan : Plan) (s : World) → HoldsBlocks device →
      WantsNext now a x s (flush_or_suspend clean) plan (Device (Sync device)) →
      WorldFollows Quietly a s (record now { devices = with_device device now.devices (synced (device_in device now.devices)) }) (after_step (flush_or_suspend clean) plan Done x)
  pub sync_fails : (clean : Bool) (now : Situation) (device : Dev) (lands : ℕ → Bool) (a : ℕ) (x : Actor) (plan : Plan) (s : World) → HoldsBlocks device →
      WantsNext now a x s (flush_or_suspend clean) plan (Device (Sync device)) →
      WorldFollows Quietly a s (record now { devices = with_device device now.devices (synced_where lands (device_in device now.devices)) }) (after_step (flush_or_suspend clean) plan Fault x)
  -- whatever the step leaves of the metadata
  pub on_metadata : (clean : Bool) (now : Situation) (step : DeviceStep) (metadata : List History) (a : ℕ) (x : Actor) (plan : Plan) (s : World) → device_of step ≡ Metadata →
      WantsNext now a x s (flush_or_suspend clean) plan (Device step) →
      WorldFollowsBy (turn_of step) Quietly a s (record now { devices = with_device Metadata now.devices metadata }) (after_step (flush_or_suspend clean) plan Done x)
  pub metadata_fails : (clean : Bool) (now : Situation) (step : DeviceStep) (metadata : List History) (a : ℕ) (x : Actor) (plan : Plan) (s : World) → device_of step ≡ Metadata →
      WantsNext now a x s (flush_or_suspend clean) plan (Device step) →
      (written : Bool) × IsWrittenAfter step s.shared.root_written written × WorldFollowsBy (Puts written) Quietly a s (record now { devices = with_device Metadata now.devices metadata }) (after_step (flush_or_suspend clean) plan Fault x)
  pub ends : (clean : Bool) (now : Situation) (a : ℕ) (x : Actor) (plan : Plan) (s : World) →
      WantsNext now a x s (flush_or_suspend clean) plan (Desk EndCommit) →
      WorldFollowsBy Ends Quietly a s (record now { commits = one_ended now.commits }) (after_step (flush_or_suspend clean) plan Done x)
  -- an order that waits for a flush is given up, where nobody suspends; or none is
  pub gives_up : (now : Situation) (block : OBlock) (a : ℕ) (x : Actor) (plan : Plan) (c : ℕ) (order : Order) (awaiting' : List Order) (s : World) → AreAmongOthers now.actors →
      WantsNext now a x s Flush plan (Desk (ReleaseOrder block)) → slice_get now.orders c ≡ Some (Some order) → IsOnlyOf now.actors a order →
      WorldFollowsBy (GivesUp c) Releases a s (record now { orders = slice_set now.orders c None }) (record (after_step Flush plan Done x) { awaiting = awaiting' })
  pub releases : (clean : Bool) (now : Situation) (block : OBlock) (a : ℕ) (x : Actor) (plan : Plan) (s : World) →
      WantsNext now a x s (flush_or_suspend clean) plan (Desk (ReleaseOrder block)) →
      WorldFollows Quietly a s now (after_step (flush_or_suspend clean) plan Done x)
  pub fails : (clean : Bool) (now : Situation) (failures suspensions : ℕ) (a : ℕ) (x : Actor) (plan : Plan) (s : World) → now.words.fail ≡ fail_word failures suspensions →
      WantsNext now a x s (flush_or_suspend clean) plan (Cell SetFailed) →
      WorldFollows Quietly a s (record now { words = words_after now.words SetFailed }) (stepped_actor now.words (flush_or_suspend clean) plan SetFailed x)
  pub breaks : (clean : Bool) (now : Situation) (a : ℕ) (x : Actor) (plan : Plan) (s : World) →
      WantsNext now a x s (flush_or_suspend clean) plan (Desk BreakCommit) →
      WorldFollows Quietly a s (record now { commits = record now.commits { broken = true } }) (after_step (flush_or_suspend clean) plan Done x)
  pub suspends : (now : Situation) (failures suspensions : ℕ) (a : ℕ) (x : Actor) (plan : Plan) (s : World) → now.words.fail ≡ fail_word failures suspensions →
      WantsNext now a x s Suspend plan (Cell SetSuspended) →
      WorldFollows Quietly a s (record now { words = words_after now.words SetSuspended }) (stepped_actor now.words Suspend plan SetSuspended x)
  pub answers : (clean : Bool) (now : Situation) (answer : Answer) (a : ℕ) (x : Actor) (plan : Plan) (orders' awaiting' : List Order) (s : World) →
      WantsNext now a x s (flush_or_suspend clean) plan (End answer) → ((o : Order) → Contains (held x) o → Contains (orders' ++ awaiting') o) →
      WorldFollows (Answers (commit_there clean) answer) a s now (record x { task = None; orders = orders'; awaiting = awaiting' })

-- a target that was just made over empty devices of these sizes, with so many actors who have nothing to do, and no order
abbrev pub CanAgree : Type 0
CanAgree = (size : ℕ) (most : Bool → ℕ) (blocks caches cache origin many : ℕ) → Agrees (record {
  mode = Writeback;
  size = size;
  most = most;
  words = fresh_words blocks;
  commits = none_yet;
  orders = replicate caches None;
  devices = record { metadata = []; cache = replicate cache (only zeros); origin = replicate origin (only zeros) };
  actors = replicate many resting;
}) (world_begins many zeros)
