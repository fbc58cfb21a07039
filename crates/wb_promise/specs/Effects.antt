-- Where a happening leads.
use Rattle.std.specs.Prelude.{◌+◌, ◌&&◌, ℕ, suc, Bool, true, false, cond, if◌then◌else◌, List, [], ◌∷◌, ◌++◌, Option, Some, None, drop, map, replicate, is_some, slice_get, slice_set, take}
use Rattle.std.specs.List.{count_by}
use Rattle.wb_types.specs.declared.entry.Entry.{Entry}
use Rattle.wb_types.specs.declared.extent.Extent.{Extent}
use Rattle.wb_types.specs.declared.mode.Mode.{Mode}
use Rattle.wb_types.specs.declared.number.OBlock.{OBlock}
use Rattle.wb_types.specs.declared.mode.Dev.TheVariants.{Metadata, Cache, Origin}
use Rattle.wb_disk.specs.Device.{Content as Bytes, History, newest, synced}
use Rattle.wb_disk.specs.Extents.{written_where, written_each}
use Rattle.wb_disk.specs.Failing.{lands, synced_where}
use Rattle.wb_disk.specs.Crash.{Choice, crashed}
use Rattle.wb_words.specs.declared.word.Access.TheVariants.{Owned}
use Rattle.wb_words.specs.SharedWords.{Words, fresh_words}
use Rattle.wb_words.specs.Cards.{blank_card}
use Rattle.wb_words.specs.Effects.{words_after, card_after}
use Rattle.wb_words.specs.declared.card.Card.{Card}
use Rattle.wb_words.specs.declared.step.CellStep.{CellStep}
use Rattle.wb_words.specs.declared.step.CellStep.TheVariants.{Take, Seal, Release}
use Rattle.wb_devices.specs.Clean.{entries_of}
use Rattle.wb_meta.specs.Steps.{steps_after}
use Rattle.wb_meta.specs.declared.read_steps.ReadSteps.{ReadSteps}
use Rattle.wb_meta.specs.declared.read_steps.ReadSteps.TheVariants.{Done as AllRead}
use Rattle.wb_meta.specs.declared.read_steps.State.{State as Stored}
use Rattle.wb_policy.specs.declared.order.Order.{Order}
use Rattle.wb_policy.specs.declared.order.Order.TheVariants.{Replace as ReplaceOrder}
use Rattle.wb_desk.specs.Desks.{DeskState}
use Rattle.wb_desk.specs.Calls.{reserved}
use Rattle.wb_desk.specs.Commits.{commit_begun, commit_broken}
use Rattle.wb_desk.specs.Entries.{is_replacement}
use Rattle.wb_desk.specs.Opening.{opened}
use Rattle.wb_tasks.specs.Plan.{Plan, table, after, device_of}
use Rattle.wb_tasks.specs.declared.step.Answer.TheVariants.{Done as Finished}
use Rattle.wb_tasks.specs.declared.step.DeviceStep.{DeviceStep}
use Rattle.wb_tasks.specs.declared.step.DeviceStep.TheVariants.{Read as ReadExtent, Write as WriteExtent, Sync, ReadMetadata, WriteNode, WriteRoot}
use Rattle.wb_tasks.specs.declared.step.DeskStep.TheVariants.{Map, Unmap, ReleaseOrder, Arrive, Ask, BeginCommit, EndCommit, BreakCommit}
use Rattle.wb_tasks.specs.declared.step.Want.{Want}
use Rattle.wb_tasks.specs.declared.step.Want.TheVariants.{Cell, Device, Desk, End}
use Rattle.wb_tasks.specs.declared.step.Got.{Got}
use Rattle.wb_tasks.specs.declared.step.Got.TheVariants.{Done}
use Rattle.wb_devices.specs.declared.running.RunningCommit.{RunningCommit}
use Rattle.wb_devices.specs.declared.devices.Devices.{Devices}
use Rattle.wb_devices.specs.Moving.{device_in}
use Rattle.wb_stage.specs.Asking.{ended, is_of}
use Rattle.wb_stage.specs.Seen.{seen_after}
use Rattle.wb_stage.specs.Sharing.{share_then}
use Rattle.wb_stage.specs.declared.share.Share.{Share}
use Rattle.wb_promise.specs.declared.job.Job.{Job}
use Rattle.wb_promise.specs.declared.job.Job.TheVariants.{Write, Flush, Suspend, Open, Migrate, Replace}
use Rattle.wb_promise.specs.declared.event.Event.{Event}
use Rattle.wb_promise.specs.declared.event.Event.TheVariants.{Start, Step, FaultStep, Stop}
use Rattle.wb_promise.specs.declared.event.What.{What}
use Rattle.wb_promise.specs.declared.event.What.TheVariants.{Started, Stepped, Stopped}
use Rattle.wb_promise.specs.declared.event.Record.{Record}
use Rattle.wb_promise.specs.States.{Shape, State, Actor, Target, Phase, Stands, Gone, Opens, mode_of, resting, with_device}
use Rattle.wb_promise.specs.Happenings.{Chosen, Cut, Orders, Looks, Begins, Reaches, Puts, Commits, Asks, Opened, Happening, begun_as, order_for, task_job, May}

-- ---- devices

-- what a job writes to so many sectors, whose actor has read this last: a migration what it has read
abbrev pub contents_for : Job → List Bytes → ℕ → List Bytes
contents_for (Write extent content) buffer count = replicate count content
contents_for (Migrate migration block) buffer count = buffer
contents_for job buffer count = []

-- what reads of an extent of a device give
abbrev pub contents_at : List History → Extent → List Bytes
contents_at device e = map newest (take e.count (drop e.first device))

-- the metadata device once a node or root was written
abbrev pub put_by : {P A : Type 0} → Chosen P A → List History → List History
put_by (Puts new) old = new
put_by chosen old = old

-- what a step of a job leaves of its device
abbrev pub device_done : {P A : Type 0} → Job → List Bytes → DeviceStep → Chosen P A → List History → List History
device_done job buffer (WriteExtent device e) chosen old = written_each old e.first (contents_for job buffer e.count)
device_done job buffer (Sync device) chosen old = synced old
device_done job buffer step chosen old = put_by chosen old

-- and one that fails, having landed on these sectors
abbrev pub device_failed : {P A : Type 0} → (ℕ → Bool) → Job → List Bytes → DeviceStep → Chosen P A → List History → List History
device_failed landed job buffer (WriteExtent device e) chosen old = written_where landed old e.first (contents_for job buffer e.count)
device_failed landed job buffer (Sync device) chosen old = synced_where landed old
device_failed landed job buffer step chosen old = put_by chosen old

-- a step on a device changes that one alone
abbrev pub devices_then : (DeviceStep → List History → List History) → Devices (List History) → Want → Devices (List History)
devices_then change devices (Device step) = with_device (device_of step) devices (change step (device_in (device_of step) devices))
devices_then change devices next = devices

-- ---- the running commit

-- A step of the commit leads it on where it is done; a fault stops it for good.
abbrev pub led : Option RunningCommit → Got → Option RunningCommit
led (Some commit) Done = Some (record commit { steps = steps_after commit.image commit.steps })
led commit got = None

-- of what an opening writes, once all was read
abbrev pub reached_commit : {P A : Type 0} → Chosen P A → Option RunningCommit → Option RunningCommit
reached_commit (Reaches reading commit) old = commit
reached_commit chosen old = None

abbrev pub begun_commit : {P A : Type 0} → Chosen P A → Option RunningCommit → Option RunningCommit
begun_commit (Commits commit tree) old = Some commit
begun_commit chosen old = old

-- an opening's answer ends its commit, and so does the end of a flush's
abbrev pub answered_commit : {P A : Type 0} → Phase P A → Option RunningCommit → Option RunningCommit
answered_commit (Opens mode reading) old = None
answered_commit phase old = old

abbrev pub commit_then : {P A : Type 0} → Phase P A → Option RunningCommit → Want → Got → Chosen P A → Option RunningCommit
commit_then phase old (Device (Sync Metadata)) got chosen = led old got
commit_then phase old (Device (WriteNode number)) got chosen = led old got
commit_then phase old (Device WriteRoot) got chosen = led old got
commit_then phase old (Device (ReadMetadata left)) got chosen = reached_commit chosen old
commit_then phase old (Desk (Arrive most)) got chosen = begun_commit chosen old
commit_then phase old (Desk (Ask most)) got chosen = begun_commit chosen old
commit_then phase old (Desk (BeginCommit most)) got chosen = begun_commit chosen old
commit_then phase old (Desk EndCommit) got chosen = None
commit_then phase old (End answer) got chosen = answered_commit phase old
commit_then phase old next got chosen = old

-- ---- the target

abbrev pub begun_desk : {P A : Type 0} → Chosen P A → DeskState P → DeskState P
begun_desk (Commits commit tree) desk = commit_begun desk tree commit.image
begun_desk chosen desk = desk

abbrev pub asked_desk : {P A : Type 0} → Chosen P A → DeskState P → DeskState P
asked_desk (Asks new) desk = new
asked_desk chosen desk = desk

abbrev pub desk_then : {P A : Type 0} → DeskState P → Want → Chosen P A → DeskState P
desk_then desk (Desk (Map b c)) chosen = asked_desk chosen desk
desk_then desk (Desk (Unmap b)) chosen = asked_desk chosen desk
desk_then desk (Desk (ReleaseOrder b)) chosen = asked_desk chosen desk
desk_then desk (Desk (Arrive most)) chosen = begun_desk chosen desk
desk_then desk (Desk (Ask most)) chosen = begun_desk chosen desk
desk_then desk (Desk (BeginCommit most)) chosen = begun_desk chosen desk
desk_then desk (Desk EndCommit) chosen = ended desk
desk_then desk (Desk BreakCommit) chosen = commit_broken desk
desk_then desk next chosen = desk

abbrev pub words_then : Words → Want → Words
words_then words (Cell step) = words_after words step
words_then words next = words

-- A reading begins once the metadata were synced. After a fault on metadata nothing more is read.
abbrev pub reading_begun : {P A : Type 0} → Option (ReadSteps A) → Got → Chosen P A → Option (ReadSteps A)
reading_begun reading Done (Begins now) = Some now
reading_begun reading Done chosen = reading
reading_begun reading got chosen = None

abbrev pub reading_left : {A : Type 0} → Option (ReadSteps A) → Got → Option (ReadSteps A)
reading_left reading Done = reading
reading_left reading got = None

abbrev pub reading_then : {P A : Type 0} → Option (ReadSteps A) → Want → Got → Chosen P A → Option (ReadSteps A)
reading_then reading (Device (ReadMetadata left)) got (Reaches now commit) = now
reading_then reading (Device (ReadMetadata left)) got chosen = None
reading_then reading (Device (Sync Metadata)) got chosen = reading_begun reading got chosen
reading_then reading (Device (WriteNode number)) got chosen = reading_left reading got
reading_then reading (Device WriteRoot) got chosen = reading_left reading got
reading_then reading next got chosen = reading

-- ---- what an opening makes

-- The block of each entry is owned, sealed and given back. Without the clean flag each counts as dirty.
abbrev pub sealing_steps : Bool → ℕ → List (Option Entry) → List CellStep
sealing_steps clean c [] = []
sealing_steps clean c (None ∷ entries) = sealing_steps clean (suc c) entries
sealing_steps clean c (Some entry ∷ entries) =
    Take Owned entry.origin 0 ∷ Seal entry.origin (Some (record { 0 = c })) (cond clean entry.dirty true) ∷ Release Owned entry.origin ∷ sealing_steps clean (suc c) entries

-- the words after steps, one after the other, and the card of who does them
abbrev pub words_by : Words → List CellStep → Words
words_by words [] = words
words_by words (step ∷ steps) = words_by (words_after words step) steps

abbrev pub card_by : Words → Card → List CellStep → Card
card_by words card [] = card
card_by words card (step ∷ steps) = card_by (words_after words step) (card_after words step card) steps

abbrev pub seals_of : {A : Type 0} → Stored A → List CellStep
seals_of stored = sealing_steps stored.root.clean 0 (entries_of stored)

-- The target over what was read, by a root of the next generation.
abbrev pub target_over : {P A : Type 0} → Shape → Mode → P → Stored A → Target P
target_over shape mode policy stored = record {
  words = words_by (fresh_words shape.geometry.origin_blocks) (seals_of stored);
  desk = opened stored.root.geometry (stored.root.generation + 1) stored.tree stored.used.items mode policy shape.threshold (count_by is_some stored.tree.entries);
}

abbrev pub phase_over : {P A : Type 0} → Shape → Mode → P → Option (ReadSteps A) → Phase P A
phase_over shape mode policy (Some (AllRead stored)) = Stands (target_over shape mode policy stored)
phase_over shape mode policy reading = Gone

-- an opening that is answered leaves a target where it is done, and none where it was refused
abbrev pub phase_opened : {P A : Type 0} → Shape → Mode → Option (ReadSteps A) → Chosen P A → Phase P A
phase_opened shape mode reading (Opened policy) = phase_over shape mode policy reading
phase_opened shape mode reading chosen = Gone

abbrev pub phase_then : {P A : Type 0} → Shape → Phase P A → Want → Got → Chosen P A → Phase P A
phase_then shape (Stands t) next got chosen = Stands (record { words = words_then t.words next; desk = desk_then t.desk next chosen })
phase_then shape (Opens mode reading) (End answer) got chosen = phase_opened shape mode reading chosen
phase_then shape (Opens mode reading) next got chosen = Opens mode (reading_then reading next got chosen)
phase_then shape Gone next got chosen = Gone

-- ---- the actors

-- what is left of a task after a step; after the answer nothing
abbrev pub task_then : Option (Job × Plan) → Want → Got → Option (Job × Plan)
task_then None next got = None
task_then (Some doing) (End answer) got = None
task_then (Some doing) next got = Some (doing.0, after doing.1 got)

-- who opened a target has sealed its blocks
abbrev pub card_over : {A : Type 0} → Shape → Card → Option (ReadSteps A) → Card
card_over shape card (Some (AllRead stored)) = card_by (fresh_words shape.geometry.origin_blocks) blank_card (seals_of stored)
card_over shape card reading = card

abbrev pub card_then : {P A : Type 0} → Shape → Phase P A → Card → Want → Card
card_then shape (Stands t) card (Cell step) = card_after t.words step card
card_then shape (Opens mode reading) card (End Finished) = card_over shape card reading
card_then shape phase card next = card

-- these orders without those of a block
abbrev pub dropped : OBlock → List Order → List Order
dropped block [] = []
dropped block (order ∷ orders) = if is_of block order then dropped block orders else order ∷ dropped block orders

-- of these orders the replacements of a block
abbrev pub replacing : OBlock → List Order → List Order
replacing block [] = []
replacing block (order ∷ orders) = if is_of block order && is_replacement order then order ∷ replacing block orders else replacing block orders

-- whoever gives up an order has it no more, a flush one of those that wait for it
abbrev pub orders_released : OBlock → Job → List Order → List Order
orders_released block Flush orders = orders
orders_released block job orders = dropped block orders

abbrev pub awaiting_released : OBlock → Job → List Order → List Order
awaiting_released block Flush awaiting = dropped block awaiting
awaiting_released block job awaiting = awaiting

-- a flush that is done has served those that wait for it
abbrev pub orders_answered : Job → List Order → List Order → List Order
orders_answered Flush orders awaiting = awaiting ++ orders
orders_answered job orders awaiting = orders

abbrev pub awaiting_answered : Job → List Order → List Order
awaiting_answered Flush awaiting = []
awaiting_answered job awaiting = awaiting

-- An entry that comes or goes ends its order, but that of a replacement waits for a flush once its block has left.
abbrev pub orders_then : (orders awaiting : List Order) → Job → Want → Got → List Order
orders_then orders awaiting job (Desk (Map b c)) Done = dropped b orders
orders_then orders awaiting job (Desk (Unmap b)) Done = dropped b orders
orders_then orders awaiting job (Desk (ReleaseOrder b)) Done = orders_released b job orders
orders_then orders awaiting job (End Finished) Done = orders_answered job orders awaiting
orders_then orders awaiting job next got = orders

abbrev pub awaiting_then : (orders awaiting : List Order) → Job → Want → Got → List Order
awaiting_then orders awaiting job (Desk (Unmap b)) Done = replacing b orders ++ awaiting
awaiting_then orders awaiting job (Desk (ReleaseOrder b)) Done = awaiting_released b job awaiting
awaiting_then orders awaiting job (End Finished) Done = awaiting_answered job awaiting
awaiting_then orders awaiting job next got = awaiting

abbrev pub job_of : Option (Job × Plan) → Job
job_of None = Flush
job_of (Some doing) = doing.0

-- what a migration has read last
abbrev pub buffer_then : Devices (List History) → List Bytes → Want → Got → Job → List Bytes
buffer_then devices buffer (Device (ReadExtent device e)) Done (Migrate migration block) = contents_at (device_in device devices) e
buffer_then devices buffer next got job = buffer

-- what a suspend has seen of the copies in the cache
abbrev pub seen_then : List Bool → Want → Got → Job → List Bool
seen_then seen next got Suspend = seen_after next got seen
seen_then seen next got job = seen

-- what a flush has of the commits that others lead, once it has arrived or asked
abbrev pub share_by : {P A : Type 0} → Phase P A → Share → Want → Got → Share
share_by (Stands t) share (Desk step) got = share_then t.desk share step got
share_by phase share next got = share

abbrev pub actor_then : {P A : Type 0} → Shape → Phase P A → Devices (List History) → Actor → Want → Got → Actor
actor_then shape phase devices x next got = record {
  task = task_then x.task next got;
  card = card_then shape phase x.card next;
  orders = orders_then x.orders x.awaiting (job_of x.task) next got;
  awaiting = awaiting_then x.orders x.awaiting (job_of x.task) next got;
  buffer = buffer_then devices x.buffer next got (job_of x.task);
  seen = seen_then x.seen next got (job_of x.task);
  share = share_by phase x.share next got;
}

-- nobody has a task
abbrev pub all_resting : List Actor → List Actor
all_resting actors = map (λ (x : Actor). resting) actors

-- ---- what happens

-- an actor went on by a step, which changed its device so
abbrev pub stepped : {P A : Type 0} → Shape → State P A → ℕ → Actor → Want → Got → Chosen P A → (DeviceStep → List History → List History) → State P A
stepped shape w a x next got chosen change = record {
  devices = devices_then change w.devices next;
  commit = commit_then w.phase w.commit next got chosen;
  phase = phase_then shape w.phase next got chosen;
  actors = slice_set w.actors a (actor_then shape w.phase w.devices x next got);
}

-- the same state with one actor changed, if it is there
abbrev pub with_actor : {P A : Type 0} → State P A → Option Actor → (Actor → State P A) → State P A
with_actor w None change = w
with_actor w (Some x) change = change x

abbrev pub went : {P A : Type 0} → Shape → State P A → ℕ → Want → Got → Chosen P A → (Job → List Bytes → DeviceStep → List History → List History) → State P A
went shape w a next got chosen change = with_actor w (slice_get w.actors a) (λ x. stepped shape w a x next got chosen (change (job_of x.task) x.buffer))

abbrev pub cut_of : {P A : Type 0} → Chosen P A → List Extent
cut_of (Cut extents) = extents
cut_of (Orders extents cache) = extents
cut_of chosen = []

abbrev pub looks_of : {P A : Type 0} → Chosen P A → List OBlock
looks_of (Looks blocks) = blocks
looks_of chosen = []

-- a suspend has seen nothing when it starts
abbrev pub unseen : Shape → Job → List Bool → List Bool
unseen shape Suspend seen = replicate shape.geometry.cache_blocks false
unseen shape job seen = seen

-- the orders of an actor, and what the desk is, once an order was given with a job
abbrev pub orders_given : {P A : Type 0} → List Order → Job → Chosen P A → List Order
orders_given orders (Migrate migration block) (Orders cut cache) = order_for migration block ∷ orders
orders_given orders (Replace old new) (Orders cut cache) = ReplaceOrder old new cache ∷ orders
orders_given orders job chosen = orders

abbrev pub phase_given : {P A : Type 0} → Phase P A → Job → Chosen P A → Phase P A
phase_given (Stands t) (Migrate migration block) (Orders cut cache) = Stands (record { words = t.words; desk = reserved t.desk cache (order_for migration block) false })
phase_given (Stands t) (Replace old new) (Orders cut cache) = Stands (record { words = t.words; desk = reserved t.desk cache (ReplaceOrder old new cache) false })
phase_given phase job chosen = phase

-- an actor that has been given a job, over a target of this mode
abbrev pub given : {P A : Type 0} → Shape → Mode → Actor → Job → Chosen P A → Actor
given shape mode x job chosen = record x {
  task = Some (begun_as job, table (task_job shape mode x.awaiting job (cut_of chosen) (looks_of chosen)));
  orders = orders_given x.orders job chosen;
  seen = unseen shape job x.seen;
  share = x.share;
}

-- An opening drops the target that has failed, and whatever anybody was at.
abbrev pub cleared : {P A : Type 0} → State P A → Job → State P A
cleared w (Open mode second) = record { devices = w.devices; commit = None; phase = Opens mode None; actors = all_resting w.actors }
cleared w job = w

abbrev pub started : {P A : Type 0} → Shape → State P A → ℕ → Job → Chosen P A → State P A
started shape w a job chosen = with_actor (cleared w job) (slice_get (cleared w job).actors a)
    (λ x. record (cleared w job) { phase = phase_given (cleared w job).phase job chosen; actors = slice_set (cleared w job).actors a (given shape (mode_of (cleared w job).phase) x job chosen) })

abbrev pub all_crashed : Choice → Devices (List History) → Devices (List History)
all_crashed choice devices = record {
  metadata = crashed Metadata choice devices.metadata;
  cache = crashed Cache choice devices.cache;
  origin = crashed Origin choice devices.origin;
}

abbrev pub after_crash : {P A : Type 0} → State P A → Choice → State P A
after_crash w choice = record { devices = all_crashed choice w.devices; commit = None; phase = Gone; actors = all_resting w.actors }

abbrev pub after_what : {P A : Type 0} → Shape → State P A → Event → What → Chosen P A → State P A
after_what shape w (Start a job) Started chosen = started shape w a job chosen
after_what shape w (Step a) (Stepped next got) chosen = went shape w a next got chosen (λ job buffer step. device_done job buffer step chosen)
after_what shape w (FaultStep a choice) (Stepped next got) chosen = went shape w a next got chosen (λ job buffer step. device_failed (lands (device_of step) choice) job buffer step chosen)
after_what shape w (Stop choice) Stopped chosen = after_crash w choice
after_what shape w event what chosen = w

abbrev pub after_happening : {P A : Type 0} → Shape → State P A → Happening P A → State P A
after_happening shape w h = after_what shape w h.record_is.event h.record_is.what h.chosen

abbrev pub after_all : {P A : Type 0} → Shape → State P A → List (Happening P A) → State P A
after_all shape w [] = w
after_all shape w (h ∷ hs) = after_all shape (after_happening shape w h) hs

-- each of these records says what its event does after the ones before it
abbrev pub IsRun : {P A : Type 0} → Shape → State P A → List (Happening P A) → Type 0
IsRun shape w [] = Unit {0}
IsRun shape w (h ∷ hs) = May shape w h × IsRun shape (after_happening shape w h) hs

abbrev pub records_of : {P A : Type 0} → List (Happening P A) → List Record
records_of {P} {A} hs = map (λ (h : Happening P A). h.record_is) hs
