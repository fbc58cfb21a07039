-- What an event may do in a state.
use Rattle.std.specs.Prelude.{◌≡◌, ◌≢◌, ◌≤◌, ◌<◌, ◌+◌, ◌-◌, ◌*◌, ◌/◌, ◌^◌, ◌&&◌, ◌==◌, ◌⊎◌, ℕ, Bool, true, false, List, [], Option, Some, None, All, Contains, IfSome, length, map, slice_get, slice_index, if◌then◌else◌, nat_le, nat_lt}
use Rattle.wb_types.specs.Limits.{dirty_nodes, most_nodes, node_count}
use Rattle.wb_types.specs.Versions.{version_asked}
use Rattle.wb_types.specs.declared.extent.Extent.{Extent}
use Rattle.wb_types.specs.declared.geometry.Geometry.{Geometry}
use Rattle.wb_types.specs.Extents.{IsCutInto}
use Rattle.wb_types.specs.declared.mode.Mode.{Mode}
use Rattle.wb_types.specs.declared.mode.Mode.TheVariants.{Writeback, Passthrough}
use Rattle.wb_types.specs.declared.mode.Dev.TheVariants.{Metadata, Cache, Origin}
use Rattle.wb_types.specs.declared.refusal.Refusal.{Refusal}
use Rattle.wb_types.specs.declared.version.Version.TheVariants.{Two}
use Rattle.wb_types.specs.declared.refusal.Refusal.TheVariants.{Range, Crosses, Busy, Memory, Geometry as TooSmall}
use Rattle.wb_types.specs.declared.number.OBlock.{OBlock}
use Rattle.wb_types.specs.declared.number.CBlock.{CBlock}
use Rattle.wb_types.specs.declared.number.Place.{Place}
use Rattle.wb_disk.specs.Device.{Content as Bytes, History}
use Rattle.wb_format.specs.declared.node.Node.{Node}
use Rattle.wb_disk.specs.Extents.{GivesEach}
use Rattle.wb_disk.specs.Failing.{MayFail, lands}
use Rattle.wb_disk.specs.Crash.{Choice, Applies}
use Rattle.wb_tree.specs.Mapping.{Mapping}
use Rattle.wb_tree.specs.declared.image.Image.{Image}
use Rattle.wb_meta.specs.Steps.{DoesStep, coming_step}
use Rattle.wb_meta.specs.Reads.{ReadingGoesOn, StopsBy, AreStepsOn, IsDone, sectors_read}
use Rattle.wb_meta.specs.Sizes.{AreSameSizes}
use Rattle.wb_meta.specs.States.{IsOfReading}
use Rattle.wb_meta.specs.declared.read_steps.ReadSteps.{ReadSteps}
use Rattle.wb_meta.specs.declared.commit_steps.CommitStep.{CommitStep}
use Rattle.wb_meta.specs.declared.commit_steps.CommitStep.TheVariants.{WriteNode as PutNode, Sync as SyncAll, WriteRoot as PutRoot}
use Rattle.wb_meta.specs.declared.commit_steps.CommitSteps.TheVariants.{NodesWritten}
use Rattle.wb_policy.specs.Law.{IsMappedAt}
use Rattle.wb_policy.specs.declared.order.Order.{Order}
use Rattle.wb_policy.specs.declared.order.Order.TheVariants.{Promote as PromoteOrder, Replace as ReplaceOrder, Demote as DemoteOrder, Clean as CleanOrder}
use Rattle.wb_space.specs.declared.block.Block.TheVariants.{Reserved}
use Rattle.wb_orders.specs.Named.{first_of}
use Rattle.wb_tree.specs.Edits.{IsChangedAt}
use Rattle.wb_desk.specs.Desks.{DeskState, MayReserve, holdings}
use Rattle.wb_desk.specs.Entries.{MayMap, entry_of, mapped}
use Rattle.wb_desk.specs.Commits.{HasBegun, IsBeginRefused, commit_begun}
use Rattle.wb_desk.specs.Sharing.{IsLeadRefused}
use Rattle.wb_tasks.specs.Tables.{BlockJob, TaskJob, Reading, Writing, Displacing, Invalidating, Migrating, OnBlock, Flushing, Suspending, Opening, BlockRange, whole_block}
use Rattle.wb_tasks.specs.declared.step.Migration.{Migration}
use Rattle.wb_tasks.specs.declared.step.Migration.TheVariants.{Promote, Demote, Clean}
use Rattle.wb_tasks.specs.Plan.{Plan, want, got_of, device_of}
use Rattle.wb_tasks.specs.Ready.{HoldsBlocks}
use Rattle.wb_words.specs.Effects.{result_of}
use Rattle.wb_tasks.specs.declared.step.Answer.TheVariants.{Done as Finished}
use Rattle.wb_tasks.specs.declared.step.DeviceStep.{DeviceStep}
use Rattle.wb_tasks.specs.declared.step.DeviceStep.TheVariants.{Read as ReadExtent, Write as WriteExtent, Sync, ReadMetadata, WriteNode, WriteRoot}
use Rattle.wb_tasks.specs.declared.step.DeskStep.TheVariants.{Map, Unmap, ReleaseOrder, Arrive, Ask, BeginCommit, EndCommit, BreakCommit}
use Rattle.wb_tasks.specs.declared.step.Want.{Want}
use Rattle.wb_tasks.specs.declared.step.Want.TheVariants.{Cell, Device, Desk, End}
use Rattle.wb_tasks.specs.declared.step.Got.{Got}
use Rattle.wb_tasks.specs.declared.step.Got.TheVariants.{Done, Fault, Refused as GotRefused, Began, Ticket, Served}
use Rattle.wb_devices.specs.declared.running.RunningCommit.{RunningCommit}
use Rattle.wb_devices.specs.declared.devices.Devices.{Devices}
use Rattle.wb_devices.specs.Moving.{device_in}
use Rattle.wb_stage.specs.Asking.{DidRelease, DidUnmap}
use Rattle.wb_devices.specs.Committing.{goes_on}
use Rattle.wb_stage.specs.Stages.{is_all_done}
use Rattle.wb_stage.specs.Sharing.{ShareIsCovered, MustWait}
use Rattle.wb_stage.specs.declared.share.Share.{Share}
use Rattle.wb_devices.specs.Opened.{got_of_refusal}
use Rattle.wb_devices.specs.Clean.{HasComeIn}
use Rattle.wb_promise.specs.declared.job.Job.{Job}
use Rattle.wb_promise.specs.declared.job.Job.TheVariants.{Read, Write, Flush, Suspend, Open, Invalidate, Migrate, Replace}
use Rattle.wb_promise.specs.declared.event.Event.{Event}
use Rattle.wb_promise.specs.declared.event.Event.TheVariants.{Start, Step, FaultStep, Stop}
use Rattle.wb_promise.specs.declared.event.What.{What}
use Rattle.wb_promise.specs.declared.event.What.TheVariants.{Skipped, Refused, Started, Stepped, Stopped}
use Rattle.wb_promise.specs.declared.event.Record.{Record}
use Rattle.wb_promise.specs.States.{Shape, State, Actor, Phase, Opens, OfTarget, OfReading, sector_count, block_size}

-- What no record holds of what was free at it: into which extents a job's sectors are cut, in the order in which they are
-- taken, and the cache block of an order that is given; at the seals of which blocks a suspend looks, one after another; a reading that has read nothing; how far it has come after a step, and the commit of the opening's root once all was
-- read; what the metadata device is once a node or root was written; the commit that begins, and the tree to which its image
-- leads; the desk after it was asked to map a block, to unmap it or to give up an order; the policy of a desk that is opened.
pub data Chosen (P A : Type 0) : Type 0 where
  Plain : Chosen P A
  Cut : List Extent → Chosen P A
  Orders : List Extent → CBlock → Chosen P A
  Looks : List OBlock → Chosen P A
  Begins : ReadSteps A → Chosen P A
  Reaches : Option (ReadSteps A) → Option RunningCommit → Chosen P A
  Puts : List History → Chosen P A
  Commits : RunningCommit → Mapping → Chosen P A
  Asks : DeskState P → Chosen P A
  Opened : P → Chosen P A

-- a record, and what was free at it
pub record Happening (P A : Type 0) : Type 0 where
  pub record_is : Record
  pub chosen : Chosen P A

-- ---- jobs

-- the sectors that a read or write moves
abbrev pub extent_of : Job → Extent
extent_of (Read extent) = extent
extent_of (Write extent content) = extent
extent_of Flush = record { first = 0; count = 0 }
extent_of Suspend = record { first = 0; count = 0 }
extent_of (Open mode second) = record { first = 0; count = 0 }
extent_of (Invalidate block) = record { first = 0; count = 0 }
extent_of (Migrate migration block) = record { first = 0; count = 0 }
extent_of (Replace old new) = record { first = 0; count = 0 }

-- the part of a block that an extent covers, cut so, in this mode
abbrev pub block_range : Shape → Mode → Extent → List Extent → BlockRange
block_range shape mode extent cut = record {
  mode = mode;
  block_sectors = block_size shape;
  block = record { 0 = extent.first / block_size shape };
  extents = cut;
}

-- a whole block, cut so; migrations do not look at the mode
abbrev pub migrated_range : Shape → OBlock → List Extent → BlockRange
migrated_range shape block cut = record { mode = Writeback; block_sectors = block_size shape; block = block; extents = cut }

-- a whole block that leaves the cache without a copy, of which no sector is moved
abbrev pub invalidated_range : Shape → OBlock → BlockRange
invalidated_range shape block = record { mode = Passthrough; block_sectors = block_size shape; block = block; extents = [] }

-- the order under which a block is migrated so
abbrev pub order_for : Migration → OBlock → Order
order_for (Promote cache) block = PromoteOrder block cache
order_for Demote block = DemoteOrder block
order_for Clean block = CleanOrder block

-- the blocks that have left under these orders
abbrev pub blocks_left : List Order → List OBlock
blocks_left orders = map first_of orders

-- a write takes its block out of the cache first, by the desk, in passthrough
abbrev pub write_job : Mode → BlockRange → BlockJob
write_job Passthrough part = Displacing part
write_job mode part = Writing part

-- the most nodes of an image of these sizes in either version, clean or not
abbrev pub most_for : Geometry → Bool → ℕ
most_for geometry clean = most_nodes Two clean geometry.cache_blocks

-- the metadata of these sizes have room for it
abbrev pub has_room_for : Bool → Geometry → Bool
has_room_for second sizes = nat_le (2 + 2 * node_count sizes.cache_blocks + dirty_nodes (version_asked second) sizes.cache_blocks) sizes.meta_sectors

-- whether a job asks for the second version
abbrev pub asks_second : Job → Bool
asks_second (Open mode second) = second
asks_second job = false

-- The geometry that an opening asks for: of these sizes, and where there is room for the version that it asks for, of that one.
pub record IsGeometryAsked (sizes : Geometry) (second : Bool) (asked : Geometry) : Type 0 where
  pub sizes_are : AreSameSizes asked sizes
  pub version : has_room_for second sizes ≡ true → asked.version ≡ version_asked second

-- The task of a job, whose sectors are cut so, or which looks at the seals of these blocks, over a target of this mode. A flush serves the
-- replacements that wait for it; a replacement begins with the demotion of the block that leaves.
abbrev pub task_job : Shape → Mode → List Order → Job → List Extent → List OBlock → TaskJob
task_job shape mode awaiting (Read extent) cut looks = OnBlock (Reading (block_range shape mode extent cut))
task_job shape mode awaiting (Write extent content) cut looks = OnBlock (write_job mode (block_range shape mode extent cut))
task_job shape mode awaiting Flush cut looks = Flushing (blocks_left awaiting) (most_for shape.geometry false)
task_job shape mode awaiting Suspend cut looks = Suspending looks (most_for shape.geometry true)
task_job shape mode awaiting (Open opened_in second) cut looks = Opening shape.geometry.meta_sectors
task_job shape mode awaiting (Invalidate block) cut looks = OnBlock (Invalidating (invalidated_range shape block))
task_job shape mode awaiting (Migrate migration block) cut looks = OnBlock (Migrating migration (migrated_range shape block cut))
task_job shape mode awaiting (Replace old new) cut looks = OnBlock (Migrating Demote (migrated_range shape old cut))

-- what an actor is at once this job was started
abbrev pub begun_as : Job → Job
begun_as (Replace old new) = Migrate Demote old
begun_as job = job

-- some sectors, all of the origin
abbrev pub is_inside : Shape → Extent → Bool
is_inside shape extent = nat_le 1 extent.count && nat_le (extent.first + extent.count) (sector_count shape)

-- all of one block
abbrev pub is_in_one_block : Shape → Extent → Bool
is_in_one_block shape extent = extent.first / block_size shape == (extent.first + extent.count - 1) / block_size shape

abbrev pub extent_refusal : Shape → Extent → Option Refusal
extent_refusal shape extent = if is_inside shape extent then (if is_in_one_block shape extent then None else Some Crosses) else Some Range

-- why a job is not started, whatever orders there are
abbrev pub job_refusal : Shape → Job → Option Refusal
job_refusal shape (Read extent) = extent_refusal shape extent
job_refusal shape (Write extent content) = extent_refusal shape extent
job_refusal shape Flush = None
job_refusal shape Suspend = None
job_refusal shape (Open mode second) = if has_room_for second shape.geometry then None else Some TooSmall
job_refusal shape (Invalidate block) = if nat_lt block.0 shape.geometry.origin_blocks then None else Some Range
job_refusal shape (Migrate migration block) = None
job_refusal shape (Replace old new) = None

-- ---- what applies

abbrev pub OfSome : {X : Type 0} → Option X → (X → Type 0) → Type 0
OfSome None on = ⊥
OfSome (Some x) on = on x

-- the actor is there, and has a task of which this holds
abbrev pub OnTask : {P A : Type 0} → State P A → ℕ → (Actor → Job → Plan → Type 0) → Type 0
OnTask w a on = OfSome (slice_get w.actors a) (λ x. OfSome x.task (λ doing. on x doing.0 doing.1))

abbrev pub AtWork : {P A : Type 0} → State P A → ℕ → (Job → Plan → Type 0) → Type 0
AtWork w a on = OnTask w a (λ x job s. on job s)

abbrev pub HasTask : {P A : Type 0} → State P A → ℕ → Type 0
HasTask w a = AtWork w a (λ job s. Unit {0})

-- A job is not started where this holds: an opening where a target stands that has not failed; an invalidation where none stands in passthrough;
-- any other where no target stands.
abbrev pub IsOutOfPlace : {P A : Type 0} → Phase P A → Job → Type 0
IsOutOfPlace phase (Open mode second) = OfTarget phase (λ t. t.words.fail ≡ 0)
IsOutOfPlace phase (Invalidate block) = ¬ OfTarget phase (λ t. t.desk.mode ≡ Passthrough)
IsOutOfPlace phase job = ¬ OfTarget phase (λ t. Unit {0})

-- somebody suspends the target
abbrev pub IsSuspending : {P A : Type 0} → State P A → Type 0
IsSuspending w = (a : ℕ) × AtWork w a (λ job s. job ≡ Suspend)

-- nobody has a task
abbrev pub NoTaskRuns : {P A : Type 0} → State P A → Type 0
NoTaskRuns w = (a : ℕ) → ¬ HasTask w a

-- the device of a step may fail so
abbrev pub MayFailAt : Devices (List History) → Choice → Want → Type 0
MayFailAt devices choice (Device step) = MayFail (device_of step) choice (length (device_in (device_of step) devices))
MayFailAt devices choice next = ⊥

-- the devices may crash so
pub record MayStop (choice : Choice) (devices : Devices (List History)) : Type 0 where
  pub metadata : Applies Metadata choice devices.metadata
  pub cache : Applies Cache choice devices.cache
  pub origin : Applies Origin choice devices.origin

-- this is next, and has to wait
abbrev pub Awaits : {P : Type 0} → DeskState P → Share → Want → Type 0
Awaits desk share (Desk (Ask most)) = MustWait desk share
Awaits desk share next = ⊥

-- the actor is at a flush that has to wait for a commit which another one leads
abbrev pub WaitsForCommit : {P A : Type 0} → State P A → ℕ → Type 0
WaitsForCommit w a = OnTask w a (λ x job s. OfTarget w.phase (λ t. Awaits t.desk x.share (want s)))

-- An event that doesn't apply. It is skipped, and no other is. Before a suspend has answered nothing starts.
abbrev pub DoesNotApply : {P A : Type 0} → State P A → Event → Type 0
DoesNotApply w (Start a job) = (slice_get w.actors a ≡ None) ⊎ HasTask w a ⊎ IsSuspending w ⊎ IsOutOfPlace w.phase job
DoesNotApply w (Step a) = (¬ HasTask w a) ⊎ WaitsForCommit w a
DoesNotApply w (FaultStep a choice) = ¬ AtWork w a (λ job s. MayFailAt w.devices choice (want s))
DoesNotApply w (Stop choice) = ¬ MayStop choice w.devices

-- ---- what a step gives

-- nothing is read, and nothing was free
abbrev pub IsPlain : {P A : Type 0} → List Bytes → Chosen P A → Type 0
IsPlain read chosen = (read ≡ []) × (chosen ≡ Plain)

-- the step is the next one of this commit
abbrev pub IsNextOf : Option RunningCommit → DeviceStep → List History → (RunningCommit → Type 0) → Type 0
IsNextOf None step device on = ⊥
IsNextOf (Some commit) step device on = (goes_on (length device) commit.image commit.steps step ≡ true) × on commit

-- A node or root is written: the metadata device is this one then.
abbrev pub DoesPut : {P A : Type 0} → Option RunningCommit → DeviceStep → List History → Chosen P A → Type 0
DoesPut commit step old (Puts new) = IsNextOf commit step old (λ running. DoesStep running.image running.steps old new)
DoesPut commit step old chosen = ⊥

-- The metadata are synced: by the next step of the running commit, or by an opening that has still to read them, whose reading
-- begins then.
abbrev pub DoesSync : {P A : Type 0} → Phase P A → Option RunningCommit → List History → Chosen P A → Type 0
DoesSync phase (Some commit) device chosen = IsNextOf (Some commit) (Sync Metadata) device (λ running. chosen ≡ Plain)
DoesSync (Opens mode reading) None device (Begins now) = sectors_read now ≡ 0
DoesSync phase None device chosen = ⊥

-- the same where the sync fails
abbrev pub FailsSync : {P A : Type 0} → Phase P A → Option RunningCommit → List History → Type 0
FailsSync phase (Some commit) device = IsNextOf (Some commit) (Sync Metadata) device (λ running. Unit {0})
FailsSync (Opens mode reading) None device = Unit {0}
FailsSync phase None device = ⊥

-- the root that a commit writes, if one runs, is of a generation that a sector can spell
abbrev pub HasGeneration : Option RunningCommit → Type 0
HasGeneration None = Unit {0}
HasGeneration (Some commit) = commit.image.root.generation < 2 ^ 64

-- a node has all its words, and numbers that their bytes hold
pub record IsWholeNode (node : Node) : Type 0 where
  pub words : length node.words ≡ 32
  pub each_word : (j : ℕ) → slice_index node.words j < 2 ^ 64
  pub index : node.index < 2 ^ 32
  pub generation : node.generation < 2 ^ 64

-- so has each of an image
abbrev pub AreWhole : Image → Type 0
AreWhole image = All (λ (node : Place × Node). IsWholeNode node.1) image.nodes.items

-- An opening in this mode has read one sector more. Its reading goes on, and all is read, which may be written anew in the second version; or
-- it is refused: for what stands there, for want of memory, for a root of other sizes, since no generation is left, or in passthrough where
-- the metadata were not left clean.
abbrev pub DoesRead : {P A : Type 0} → Mode → Geometry → Bool → ℕ → ReadSteps A → List History → Option RunningCommit → Got → Chosen P A → Type 0
DoesRead {P} {A} mode geometry second left was device commit got (Reaches after commit') = (got ≢ Fault)
    × (((now : ReadSteps A) × ReadingGoesOn was device now × AreStepsOn (length device) now × ((asked : Geometry) × IsGeometryAsked geometry second asked × HasComeIn mode asked left now commit got after commit')
    × (sectors_read now ≡ sectors_read was + 1) × HasGeneration commit' × IfSome commit' (λ running. AreWhole running.image))
    ⊎ ((refusal : Refusal) × IsOfReading refusal × StopsBy was device refusal × (got ≡ got_of_refusal refusal) × (after ≡ None) × (commit' ≡ commit)))
DoesRead mode geometry second left was device commit got chosen = ⊥

-- A commit begins, of an image of the desk's tree, with at most so many nodes; or the desk refuses it. Where dirty bits were seen its root
-- is marked clean, and what is read of its image has them, and hints, whatever these are.
abbrev pub DoesBegin : {P A : Type 0} → Option (List Bool) → ℕ → DeskState P → Got → Chosen P A → Type 0
DoesBegin {P} seen most desk (Began nodes) (Commits commit tree) = (nodes ≤ most) × (nodes ≡ length commit.image.nodes.items) × (commit.steps ≡ NodesWritten 0)
    × ((hint_of : P → ℕ → ℕ) × HasBegun hint_of seen desk commit.image (commit_begun desk tree commit.image)) × AreWhole commit.image
DoesBegin seen most desk (GotRefused refusal) Plain = IsBeginRefused desk refusal
DoesBegin seen most desk got chosen = ⊥

-- A commit begins that a flush leads, unless one was broken; or the desk refuses it.
abbrev pub DoesLead : {P A : Type 0} → ℕ → DeskState P → Got → Chosen P A → Type 0
DoesLead {P} {A} most desk (Began nodes) (Commits commit tree) = (desk.broken ≡ false) × DoesBegin {P = P} {A = A} None most desk (Began nodes) (Commits commit tree)
DoesLead most desk (GotRefused refusal) Plain = IsLeadRefused desk refusal
DoesLead most desk got chosen = ⊥

-- A flush that arrives gets a ticket where a commit runs, and else leads one.
abbrev pub DoesArrive : {P A : Type 0} → ℕ → DeskState P → Got → Chosen P A → Type 0
DoesArrive most desk Ticket Plain = (desk.broken ≡ false) × (desk.space.committing ≡ true)
DoesArrive most desk got chosen = DoesLead most desk got chosen

-- One that asks with a ticket is served where a commit has ended that covers it, and else leads one.
abbrev pub DoesAsk : {P A : Type 0} → Share → ℕ → DeskState P → Got → Chosen P A → Type 0
DoesAsk share most desk Served Plain = ShareIsCovered desk share
DoesAsk share most desk got chosen = (¬ ShareIsCovered desk share) × DoesLead most desk got chosen

-- A block that an order brings gets its entry; or the desk has no memory for that, and stays.
abbrev pub DoesMap : {P A : Type 0} → OBlock → CBlock → DeskState P → Got → Chosen P A → Type 0
DoesMap b c desk Done (Asks new) = MayMap desk b c × IsChangedAt desk.tree new.tree c.0 (Some (entry_of b)) × (new ≡ mapped desk c new.tree new.policy)
DoesMap b c desk (GotRefused refusal) Plain = refusal ≡ Memory
DoesMap b c desk got chosen = ⊥

-- A block loses its entry where it has one and its order lets it go, and the desk stays where it has none.
abbrev pub DoesUnmap : {P A : Type 0} → OBlock → DeskState P → Chosen P A → Type 0
DoesUnmap block desk (Asks new) = DidUnmap (λ policy b. new.policy) block desk new
DoesUnmap block desk chosen = ⊥

-- of these orders the one of a block is given up
abbrev pub DoesRelease : {P A : Type 0} → List Order → OBlock → DeskState P → Chosen P A → Type 0
DoesRelease orders block desk (Asks new) = DidRelease orders block desk new
DoesRelease orders block desk chosen = ⊥

-- an opening that is answered done has read all, and its root is durable
abbrev pub DoesOpen : {P A : Type 0} → Phase P A → Option RunningCommit → Chosen P A → Type 0
DoesOpen phase commit (Opened policy) = OfReading phase (λ mode reading. IsDone reading) × (is_all_done commit ≡ true)
DoesOpen phase commit chosen = ⊥

-- What a step gives, what a read was given, one content a sector, and what was free at it. A read, write or migration moves sectors
-- of a device on which blocks stand. A migration asks the desk to map its block, to unmap it, or to give up its order; in passthrough a write or an
-- invalidation to unmap its block; a flush to give up the orders that it serves.
abbrev pub Gives : {P A : Type 0} → Shape → State P A → Actor → Job → Want → Got → List Bytes → Chosen P A → Type 0
Gives shape w x job (Cell step) got read chosen = IsPlain read chosen × OfTarget w.phase (λ t. got ≡ got_of (result_of t.words step))
Gives shape w x (Read extent) (Device (ReadExtent device e)) got read chosen = HoldsBlocks device × (chosen ≡ Plain) × (got ≡ Done) × (length read ≡ e.count) × GivesEach (device_in device w.devices) e.first read
Gives shape w x (Write extent content) (Device (WriteExtent device e)) got read chosen = HoldsBlocks device × IsPlain read chosen × (got ≡ Done) × (e.first + e.count ≤ length (device_in device w.devices))
Gives shape w x (Migrate migration block) (Device (ReadExtent device e)) got read chosen = HoldsBlocks device × IsPlain read chosen × (got ≡ Done) × (e.first + e.count ≤ length (device_in device w.devices))
Gives shape w x (Migrate migration block) (Device (WriteExtent device e)) got read chosen = HoldsBlocks device × IsPlain read chosen × (got ≡ Done) × (e.first + e.count ≤ length (device_in device w.devices))
Gives shape w x (Migrate migration block) (Desk (Map b c)) got read chosen = (read ≡ []) × OfTarget w.phase (λ t. DoesMap b c t.desk got chosen)
Gives shape w x (Migrate migration block) (Desk (Unmap b)) got read chosen = (read ≡ []) × (got ≡ Done) × OfTarget w.phase (λ t. DoesUnmap b t.desk chosen)
Gives shape w x (Write extent content) (Desk (Unmap b)) got read chosen = (read ≡ []) × (got ≡ Done) × OfTarget w.phase (λ t. DoesUnmap b t.desk chosen)
Gives shape w x (Invalidate block) (Desk (Unmap b)) got read chosen = (read ≡ []) × (got ≡ Done) × OfTarget w.phase (λ t. DoesUnmap b t.desk chosen)
Gives shape w x (Migrate migration block) (Desk (ReleaseOrder b)) got read chosen = (read ≡ []) × (got ≡ Done) × OfTarget w.phase (λ t. DoesRelease x.orders b t.desk chosen)
Gives shape w x Flush (Desk (ReleaseOrder b)) got read chosen = (read ≡ []) × (got ≡ Done) × OfTarget w.phase (λ t. DoesRelease x.awaiting b t.desk chosen)
Gives shape w x job (Device (Sync Metadata)) got read chosen = (read ≡ []) × (got ≡ Done) × DoesSync w.phase w.commit w.devices.metadata chosen
Gives shape w x job (Device (Sync device)) got read chosen = IsPlain read chosen × (got ≡ Done)
Gives shape w x job (Device (WriteNode number)) got read chosen = (read ≡ []) × (got ≡ Done) × DoesPut w.commit (WriteNode number) w.devices.metadata chosen
Gives shape w x job (Device WriteRoot) got read chosen = (read ≡ []) × (got ≡ Done) × DoesPut w.commit WriteRoot w.devices.metadata chosen
Gives shape w x job (Device (ReadMetadata left)) got read chosen = (read ≡ []) × (w.commit ≡ None) × OfReading w.phase (λ mode was. DoesRead mode shape.geometry (asks_second job) left was w.devices.metadata w.commit got chosen)
Gives shape w x job (Desk (Arrive most)) got read chosen = (read ≡ []) × OfTarget w.phase (λ t. DoesArrive most t.desk got chosen)
Gives shape w x job (Desk (Ask most)) got read chosen = (read ≡ []) × OfTarget w.phase (λ t. DoesAsk x.share most t.desk got chosen)
Gives shape w x job (Desk (BeginCommit most)) got read chosen = (read ≡ []) × OfTarget w.phase (λ t. DoesBegin (Some x.seen) most t.desk got chosen)
Gives shape w x job (Desk EndCommit) got read chosen = IsPlain read chosen × (got ≡ Done) × OfTarget w.phase (λ t. is_all_done w.commit ≡ true)
Gives shape w x job (Desk BreakCommit) got read chosen = IsPlain read chosen × (got ≡ Done) × OfTarget w.phase (λ t. Unit {0})
Gives shape w x (Open mode second) (End Finished) got read chosen = (read ≡ []) × (got ≡ Done) × DoesOpen w.phase w.commit chosen
Gives shape w x job (End answer) got read chosen = IsPlain read chosen × (got ≡ Done)
Gives shape w x job next got read chosen = ⊥

-- the sector that the next step of a commit writes
abbrev pub sector_put : Option CommitStep → ℕ
sector_put (Some (PutNode place)) = place.0
sector_put (Some (PutRoot slot)) = slot.0
sector_put (Some SyncAll) = 0
sector_put None = 0

-- it landed, or nothing was written
abbrev pub LandedOr : Bool → Type 0 → Type 0 → Type 0
LandedOr true Landed Nothing = Landed
LandedOr false Landed Nothing = Nothing

-- A node or root is not written, or is, though the step fails.
abbrev pub FailsPut : {P A : Type 0} → Option RunningCommit → Choice → DeviceStep → List History → Chosen P A → Type 0
FailsPut commit choice step old (Puts new) = IsNextOf commit step old
    (λ running. LandedOr (lands Metadata choice (sector_put (coming_step running.image running.steps))) (DoesStep running.image running.steps old new) (new ≡ old))
FailsPut commit choice step old chosen = ⊥

-- what was free where a step on a device fails
abbrev pub Falters : {P A : Type 0} → State P A → Choice → Want → Chosen P A → Type 0
Falters w choice (Device (WriteNode number)) chosen = FailsPut w.commit choice (WriteNode number) w.devices.metadata chosen
Falters w choice (Device WriteRoot) chosen = FailsPut w.commit choice WriteRoot w.devices.metadata chosen
Falters w choice (Device (Sync Metadata)) chosen = (chosen ≡ Plain) × FailsSync w.phase w.commit w.devices.metadata
Falters w choice (Device (Sync device)) chosen = chosen ≡ Plain
Falters w choice (Device (ReadMetadata left)) chosen = (chosen ≡ Plain) × (w.commit ≡ None)
Falters w choice (Device (ReadExtent device e)) chosen = (chosen ≡ Plain) × HoldsBlocks device
Falters w choice (Device (WriteExtent device e)) chosen = (chosen ≡ Plain) × HoldsBlocks device
Falters w choice next chosen = ⊥

-- the orders that an actor has, and for which no flush is awaited
abbrev pub orders_in : Option Actor → List Order
orders_in None = []
orders_in (Some x) = x.orders

-- One of these is the replacement by which this block follows on a cache block, which is reserved for it.
abbrev pub MayFollow : {P : Type 0} → DeskState P → List Order → OBlock → CBlock → Type 0
MayFollow desk kept block cache = (old : OBlock) × Contains kept (ReplaceOrder old block cache) × (slice_get desk.space.blocks cache.0 ≡ Some Reserved)

-- A migration may start under one of these orders: its own, or a promotion under the replacement by which its block follows.
abbrev pub KeepsMigration : {P : Type 0} → DeskState P → List Order → Migration → OBlock → Type 0
KeepsMigration desk kept (Promote cache) block = Contains kept (PromoteOrder block cache) ⊎ MayFollow desk kept block cache
KeepsMigration desk kept migration block = Contains kept (order_for migration block)

-- A replacement may start again: its block stands still in its cache block.
abbrev pub KeepsReplacement : {P : Type 0} → DeskState P → List Order → (old new : OBlock) → Type 0
KeepsReplacement desk kept old new = (cache : CBlock) × Contains kept (ReplaceOrder old new cache) × IsMappedAt (holdings desk) old.0 cache.0

-- An order may be given that takes some cache block.
abbrev pub MayOrder : {P : Type 0} → DeskState P → (CBlock → Order) → Type 0
MayOrder desk order = (cache : CBlock) × MayReserve desk cache (order cache)

-- A migration starts under an order that its actor keeps, or under one that is given; it is refused where neither can be.
abbrev pub MigrationStarts : {P A : Type 0} → Extent → Phase P A → (DeskState P → Type 0) → (CBlock → Order) → What → Chosen P A → Type 0
MigrationStarts whole phase Keeps order (Refused Busy) Plain = OfTarget phase (λ t. (¬ Keeps t.desk) × (¬ MayOrder t.desk order))
MigrationStarts whole phase Keeps order Started (Cut cut) = IsCutInto whole cut × OfTarget phase (λ t. Keeps t.desk)
MigrationStarts whole phase Keeps order Started (Orders cut cache) = IsCutInto whole cut × OfTarget phase (λ t. MayReserve t.desk cache (order cache))
MigrationStarts whole phase Keeps order what chosen = ⊥

-- these are the blocks that the desk maps
pub record AreMapped {P : Type 0} (desk : DeskState P) (blocks : List OBlock) : Type 0 where
  pub each : (block : OBlock) → Contains blocks block → (cache : ℕ) × IsMappedAt (holdings desk) block.0 cache
  pub all : (block : OBlock) (cache : ℕ) → IsMappedAt (holdings desk) block.0 cache → Contains blocks block

-- a suspend starts where nobody is at anything
abbrev pub SuspendStarts : {P A : Type 0} → State P A → What → Chosen P A → Type 0
SuspendStarts w (Refused Busy) Plain = ¬ NoTaskRuns w
SuspendStarts w Started (Looks blocks) = NoTaskRuns w × OfTarget w.phase (λ t. AreMapped t.desk blocks)
SuspendStarts w what chosen = ⊥

-- what a start by an actor comes to, whatever the others are at
abbrev pub StartGives : {P A : Type 0} → Shape → Phase P A → Option Actor → Job → What → Chosen P A → Type 0
StartGives shape phase actor (Migrate migration block) what chosen =
    MigrationStarts (whole_block (block_size shape) block) phase (λ desk. KeepsMigration desk (orders_in actor) migration block) (λ cache. order_for migration block) what chosen
StartGives shape phase actor (Replace old new) what chosen =
    MigrationStarts (whole_block (block_size shape) old) phase (λ desk. KeepsReplacement desk (orders_in actor) old new) (λ cache. ReplaceOrder old new cache) what chosen
StartGives shape phase actor job (Refused refusal) Plain = job_refusal shape job ≡ Some refusal
StartGives shape phase actor Flush Started Plain = Unit {0}
StartGives shape phase actor (Open mode second) Started Plain = job_refusal shape (Open mode second) ≡ None
StartGives shape phase actor (Invalidate block) Started Plain = job_refusal shape (Invalidate block) ≡ None
StartGives shape phase actor (Read extent) Started (Cut cut) = (extent_refusal shape extent ≡ None) × IsCutInto extent cut
StartGives shape phase actor (Write extent content) Started (Cut cut) = (extent_refusal shape extent ≡ None) × IsCutInto extent cut
StartGives shape phase actor job what chosen = ⊥

-- what a start comes to: a suspend's goes by what the others are at
abbrev pub StartsAs : {P A : Type 0} → Shape → State P A → ℕ → Job → What → Chosen P A → Type 0
StartsAs shape w a Suspend what chosen = SuspendStarts w what chosen
StartsAs shape w a job what chosen = StartGives shape w.phase (slice_get w.actors a) job what chosen

-- This is what the event does here.
abbrev pub MayBe : {P A : Type 0} → Shape → State P A → Event → What → List Bytes → Chosen P A → Type 0
MayBe shape w event Skipped read chosen = IsPlain read chosen × DoesNotApply w event
MayBe shape w (Start a job) what read chosen = (read ≡ []) × (¬ DoesNotApply w (Start a job)) × StartsAs shape w a job what chosen
MayBe shape w (Step a) (Stepped next got) read chosen = OnTask w a (λ x job s. (next ≡ want s) × Gives shape w x job next got read chosen)
MayBe shape w (FaultStep a choice) (Stepped next got) read chosen = (read ≡ []) × (got ≡ Fault)
    × AtWork w a (λ job s. (next ≡ want s) × MayFailAt w.devices choice next × Falters w choice next chosen)
MayBe shape w (Stop choice) Stopped read chosen = IsPlain read chosen × MayStop choice w.devices
MayBe shape w event what read chosen = ⊥

abbrev pub May : {P A : Type 0} → Shape → State P A → Happening P A → Type 0
May shape w h = MayBe shape w h.record_is.event h.record_is.what h.record_is.read.items h.chosen
