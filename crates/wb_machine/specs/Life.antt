-- A machine that runs, as its callers see it, and what an event does to it, by the definitions of wb_promise.
use Rattle.std.specs.Prelude.{◌≡◌, ◌<◌, ◌==◌, ◌++◌, ◌∷◌, [], ℕ, Bool, true, false, not, List, Option, Some, None, length, replicate, slice_set}
use Rattle.std.specs.declared.alloc.Global.{Global}
use Rattle.wb_types.specs.declared.geometry.Geometry.{Geometry}
use Rattle.wb_types.specs.declared.mode.Dev.{Dev}
use Rattle.wb_types.specs.declared.mode.Dev.TheVariants.{Metadata}
use Rattle.wb_types.specs.declared.mode.Mode.{Mode}
use Rattle.wb_policy.specs.Situations.{is_passthrough}
use Rattle.wb_disk.specs.Device.{Content as Bytes, History}
use Rattle.wb_disk.specs.Memory.{Memory}
use Rattle.wb_disk.specs.Crash.{Choice}
use Rattle.wb_disk.specs.Failing.{lands, synced_where}
use Rattle.wb_words.specs.Cards.{blank_card}
use Rattle.wb_meta.specs.Formats.{IsFormatted}
use Rattle.wb_meta.specs.declared.read_steps.ReadSteps.{ReadSteps}
use Rattle.wb_meta.specs.declared.read_steps.ReadSteps.TheVariants.{Begun}
use Rattle.wb_policy.specs.declared.quiet.Quiet.{Quiet}
use Rattle.wb_desk.specs.Opening.{threshold_of}
use Rattle.wb_devices.specs.declared.devices.Devices.{Devices}
use Rattle.wb_devices.specs.Moving.{device_in}
use Rattle.wb_devices.specs.declared.running.RunningCommit.{RunningCommit}
use Rattle.wb_tasks.specs.Plan.{Plan, want}
use Rattle.wb_tasks.specs.declared.step.DeviceStep.{DeviceStep}
use Rattle.wb_tasks.specs.declared.step.DeviceStep.TheVariants.{Sync, ReadMetadata, WriteNode, WriteRoot}
use Rattle.wb_tasks.specs.declared.step.Got.TheVariants.{Done}
use Rattle.wb_tasks.specs.declared.step.Want.{Want}
use Rattle.wb_tasks.specs.declared.step.Want.TheVariants.{Device, End}
use Rattle.wb_tasks.specs.declared.step.Answer.TheVariants.{Done as Finished}
use Rattle.wb_stage.specs.declared.share.Share.TheVariants.{Nothing}
use Rattle.wb_promise.specs.declared.job.Job.{Job}
use Rattle.wb_promise.specs.declared.job.Job.TheVariants.{Open, Invalidate, Suspend}
use Rattle.wb_promise.specs.declared.event.Event.{Event}
use Rattle.wb_promise.specs.declared.event.What.{What}
use Rattle.wb_promise.specs.declared.event.Record.{Record}
use Rattle.wb_promise.specs.States.{Shape, State, Actor, Phase as RunPhase, Stands, Gone, Opens, resting, start, with_device}
use Rattle.wb_promise.specs.Happenings.{Chosen, Happening, Puts, DoesPut, FailsPut, MayBe, May}
use Rattle.wb_promise.specs.Effects.{led, after_what, after_happening, after_all, IsRun, records_of}
use Rattle.wb_machine.specs.declared.asked.Asked.{Asked}
use Rattle.wb_machine.specs.declared.making.Made.{Made}
use Rattle.wb_machine.specs.declared.phase.Phase.{Phase}
use Rattle.wb_machine.specs.declared.phase.Phase.TheVariants.{Closed, Underway, Standing}
use Rattle.wb_machine.specs.Making.{reading_of}
use Rattle.wb_machine.specs.Members.{somebody_suspends, with_cards, works_there}

-- The policy of its targets orders nothing.
abbrev pub Now : Type 0
Now = State Quiet Global

abbrev pub Happened : Type 0
Happened = Happening Quiet Global

-- the shape of a machine of this geometry, its threshold being the one that nobody names
abbrev pub shape_of : Geometry → ℕ → Shape
shape_of geometry actors = record { geometry = geometry; threshold = threshold_of None; actors = actors }

-- Its sizes, what has happened, and where that has led.
pub record Life : Type 0 where
  pub shape : Shape
  pub trace : List Record
  pub state : Now

-- ---- what the parts of a machine stand for

abbrev pub contents_of : Devices Memory → Devices (List History)
contents_of devices = record { metadata = devices.metadata.contents; cache = devices.cache.contents; origin = devices.origin.contents }

-- who has asked for an opening so, with this left of it
abbrev pub opening_actor : Asked → Plan → Actor
opening_actor asked plan = record { task = Some (Open asked.mode asked.second, plan); card = blank_card; orders = []; awaiting = []; buffer = []; seen = []; share = Nothing }

-- Beside who opens nobody is at anything. Over a target each is at what its member is at, and has a card.
abbrev pub actors_of : ℕ → Phase → List Actor
actors_of actors Closed = replicate actors resting
actors_of actors (Underway opener) = slice_set (replicate actors resting) opener.asked.actor (opening_actor opener.asked opener.task)
actors_of actors (Standing target members) = with_cards members.items target.crew.cards

abbrev pub phase_of : Phase → RunPhase Quiet Global
phase_of Closed = Gone
phase_of (Underway opener) = Opens opener.asked.mode (reading_of opener)
phase_of (Standing target members) = Stands (record { words = target.crew.words; desk = target.desk })

-- the commit of an opening's root, once all was read, or that of a flush
abbrev pub running_commit : Phase → Option RunningCommit
running_commit Closed = None
running_commit (Underway opener) = opener.opening.commit
running_commit (Standing target members) = target.commit

abbrev pub state_of : ℕ → Devices Memory → Phase → Now
state_of actors devices phase = record { devices = contents_of devices; commit = running_commit phase; phase = phase_of phase; actors = actors_of actors phase }

-- who opens is one of so many, and a target has a card and a member for each
abbrev pub IsThere : ℕ → Phase → Type 0
IsThere actors Closed = Unit {0}
IsThere actors (Underway opener) = opener.asked.actor < actors
IsThere actors (Standing target members) = (length target.crew.cards ≡ actors) × (length members.items ≡ actors)

-- a target stands once an opening was answered done
abbrev pub stands_by : Want → Option Made → Phase
stands_by (End Finished) (Some made) = Standing made.target made.members
stands_by next made = Closed

abbrev pub answered : Phase → Phase
answered (Underway opener) = stands_by (want opener.task) opener.made
answered phase = Closed

-- this actor has a task: it opens, or its member is at something
abbrev pub has_task : ℕ → Phase → Bool
has_task a Closed = false
has_task a (Underway opener) = opener.asked.actor == a
has_task a (Standing target members) = works_there members.items a

-- somebody suspends the target that stands
abbrev pub is_suspending : Phase → Bool
is_suspending (Standing target members) = somebody_suspends members.items
is_suspending phase = false

-- a target stands
abbrev pub stands : Phase → Bool
stands (Standing target members) = true
stands phase = false

-- one that has not failed
abbrev pub is_sound : Phase → Bool
is_sound (Standing target members) = not target.failed
is_sound phase = false

-- what this actor asks for, if the job is an opening
abbrev pub asked_by : ℕ → Job → Option Asked
asked_by actor (Open mode second) = Some (record { actor = actor; mode = mode; second = second })
asked_by actor job = None

-- a job of a target that stands
abbrev pub wants_target : Job → Bool
wants_target (Open mode second) = false
wants_target job = true

-- one that a target of this mode has: an invalidation is of passthrough alone
abbrev pub suits_mode : Job → Mode → Bool
suits_mode (Invalidate block) mode = is_passthrough mode
suits_mode job mode = true

-- one that starts whatever the others are at
abbrev pub starts_beside : Job → Bool
starts_beside (Open mode second) = false
starts_beside Suspend = false
starts_beside job = true

-- Once the metadata are durable a reading of them begins; once the root is that was written, what was read stays. Where they are
-- not, it is over.
abbrev pub reading_synced : Global → Dev → Option RunningCommit → Option (ReadSteps Global) → Option (ReadSteps Global)
reading_synced alloc Metadata None reading = Some (Begun alloc alloc)
reading_synced alloc device commit reading = reading

-- nothing was made of what is to be read
abbrev pub made_synced : Dev → Option RunningCommit → Option Made → Option Made
made_synced Metadata None made = None
made_synced device commit made = made

abbrev pub reading_failed : Dev → Option (ReadSteps Global) → Option (ReadSteps Global)
reading_failed Metadata reading = None
reading_failed device reading = reading

-- the commit of an opening goes on once the metadata are durable
abbrev pub commit_synced : Dev → Option RunningCommit → Option RunningCommit
commit_synced Metadata commit = led commit Done
commit_synced device commit = commit

-- after a fault on the metadata there is none
abbrev pub commit_failed : Dev → Option RunningCommit → Option RunningCommit
commit_failed Metadata commit = None
commit_failed device commit = commit

-- A node or the root was written, or, where that has failed, may have been: the metadata were these, and are those.
abbrev pub WasPut : Option RunningCommit → DeviceStep → List History → List History → Type 0
WasPut commit step old new = DoesPut {P = Quiet} {A = Global} commit step old (Puts new)

abbrev pub MayBePut : Option RunningCommit → Choice → DeviceStep → List History → List History → Type 0
MayBePut commit choice step old new = FailsPut {P = Quiet} {A = Global} commit choice step old (Puts new)

-- What a step that fails leaves of the devices: a sync, or a node or root of the commit, has landed where the choice says so; one
-- that reads changes nothing.
abbrev pub FailsOn : Option RunningCommit → DeviceStep → Choice → Devices (List History) → Devices (List History) → Type 0
FailsOn commit (Sync device) choice old new = new ≡ with_device device old (synced_where (lands device choice) (device_in device old))
FailsOn commit (WriteNode number) choice old new = MayBePut commit choice (WriteNode number) old.metadata new.metadata × (new ≡ record old { metadata = new.metadata })
FailsOn commit WriteRoot choice old new = MayBePut commit choice WriteRoot old.metadata new.metadata × (new ≡ record old { metadata = new.metadata })
FailsOn commit step choice old new = new ≡ old

-- ---- what an event does

-- what an event does, and reads, from one state to the next
pub record Happens (shape : Shape) (old : Now) (event : Event) (what : What) (read : List Bytes) (new : Now) : Type 0 where
  pub chosen : Chosen Quiet Global
  pub may : MayBe shape old event what read chosen
  pub leads : new ≡ after_what shape old event what chosen

-- The life goes on by one record of this event, which says what the event does here.
pub record GoesOn (old : Life) (event : Event) (new : Life) : Type 0 where
  pub happening : Happened
  pub of_event : happening.record_is.event ≡ event
  pub may : May old.shape old.state happening
  pub leads : new ≡ record old { trace = old.trace ++ happening.record_is ∷ []; state = after_happening old.shape old.state happening }

-- The trace is that of a run from formatted metadata, which has led here.
pub record IsReached (life : Life) : Type 0 where
  pub metadata : List History
  pub formatted : IsFormatted life.shape.geometry metadata
  pub size : length metadata ≡ life.shape.geometry.meta_sectors
  pub happenings : List Happened
  pub run : IsRun life.shape (start life.shape metadata) happenings
  pub told : records_of happenings ≡ life.trace
  pub leads : after_all life.shape (start life.shape metadata) happenings ≡ life.state

-- ---- steps of an opening

-- the step, if it is one of an opening on a device: the machine does it, or has it fail
abbrev pub device_step_of : Want → Option DeviceStep
device_step_of (Device (Sync device)) = Some (Sync device)
device_step_of (Device (ReadMetadata left)) = Some (ReadMetadata left)
device_step_of (Device (WriteNode number)) = Some (WriteNode number)
device_step_of (Device WriteRoot) = Some WriteRoot
device_step_of next = None
