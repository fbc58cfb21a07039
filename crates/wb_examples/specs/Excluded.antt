-- What the promises exclude: answers that are right and ones that are not, on one sector to which two contents were written. A definition that
-- were always true, or never, would be caught by one of these.
use Rattle.std.specs.Prelude.{true, false, ◌≡◌, ◌<◌, ◌+◌, ℕ, List, [], ◌∷◌, Some, None, map}
use Rattle.wb_types.specs.declared.entry.Entry.{Entry}
use Rattle.wb_types.specs.declared.mode.Dev.{Dev}
use Rattle.wb_types.specs.declared.mode.Dev.TheVariants.{Cache, Origin}
use Rattle.wb_types.specs.declared.mode.Mode.{Mode}
use Rattle.wb_types.specs.declared.mode.Mode.TheVariants.{Writeback, Writethrough}
use Rattle.wb_types.specs.declared.number.Place.{Place}
use Rattle.wb_types.specs.declared.refusal.Refusal.{Refusal}
use Rattle.wb_types.specs.declared.refusal.Refusal.TheVariants.{Io, Memory, Busy, GenerationEnd, NotFormatted, Damaged, Mismatch, Geometry}
use Rattle.wb_disk.specs.Device.{Content as Bytes, History}
use Rattle.wb_tasks.specs.declared.step.Answer.{Answer}
use Rattle.wb_tasks.specs.declared.step.Answer.TheVariants.{Done as Finished, Refused as Refuses}
use Rattle.wb_tasks.specs.declared.step.DeskStep.{DeskStep}
use Rattle.wb_tasks.specs.declared.step.DeskStep.TheVariants.{Arrive, Ask, BeginCommit}
use Rattle.wb_tasks.specs.declared.step.DeviceStep.TheVariants.{Write as WriteExtent}
use Rattle.wb_tasks.specs.declared.step.Want.TheVariants.{Device, Desk, End}
use Rattle.wb_tasks.specs.declared.step.Got.{Got}
use Rattle.wb_tasks.specs.declared.step.Got.TheVariants.{Done, Began, Ticket, Served}
use Rattle.wb_stage.specs.Sharing.{MustWait}
use Rattle.wb_stage.specs.declared.share.Share.{Share}
use Rattle.wb_stage.specs.declared.share.Share.TheVariants.{Nothing, Waiting}
use Rattle.wb_devices.specs.declared.running.RunningCommit.{RunningCommit}
use Rattle.wb_dirty.specs.ImageReading.{with_bits}
use Rattle.wb_desk.specs.Desks.{DeskState}
use Rattle.wb_desk.specs.Commits.{beside}
use Rattle.wb_desk.specs.Entries.{entry_of}
use Rattle.wb_tree.specs.Mapping.{Mapping}
use Rattle.wb_promise.specs.declared.job.Job.{Job}
use Rattle.wb_promise.specs.declared.job.Job.TheVariants.{Read, Write, Flush, Suspend, Open}
use Rattle.wb_promise.specs.declared.event.Event.TheVariants.{Start, Step}
use Rattle.wb_promise.specs.declared.event.What.TheVariants.{Skipped, Started, Stepped, Refused}
use Rattle.wb_promise.specs.States.{Shape, State, Actor, Target, Stands}
use Rattle.wb_promise.specs.Effects.{share_by}
use Rattle.wb_promise.specs.Happenings.{Chosen, Plain, Commits, HasTask, IsSuspending, WaitsForCommit, DoesBegin, Gives, StartsAs, MayBe}
use Rattle.wb_promise.specs.Clerk.{Notes, Doing, Reading, Position, noted_what}
use Rattle.wb_promise.specs.Headline.{AnswersRightly, SkipsRightly}
use Rattle.wb_examples.specs.Possible.{first_sector, first_block, TargetHas}

-- what was written first, and last, and something else
abbrev pub older : Bytes
older = 1 ∷ []

abbrev pub newer : Bytes
newer = 2 ∷ []

abbrev pub foreign : Bytes
foreign = 3 ∷ []

-- the first actor is at this, and a crash may go back to this entry
abbrev pub with_floor : ℕ → Doing → Notes
with_floor floor doing = record { histories = record { first = older; later = newer ∷ [] } ∷ []; finished = 1 ∷ []; floors = floor ∷ []; doings = Some doing ∷ [] }

abbrev pub at_job : Job → Doing
at_job job = record { job = job; readings = []; entered = []; then_finished = 0 ∷ []; failed = [] }

-- it has read so, each time the one sector
abbrev pub given_reading : Bytes → Reading
given_reading content = record { sector = 0; content = content; latest = Some newer }

abbrev pub having_read : List Bytes → Doing
having_read contents = record (at_job (Read first_sector)) { readings = map given_reading contents }

abbrev pub having_entered : List Position → Doing
having_entered positions = record (at_job (Write first_sector newer)) { entered = positions }

abbrev pub opening : List Dev → Doing
opening failed = record (at_job (Open Writeback false)) { failed = failed }

-- its answer is right, where this is shown after it
abbrev pub IsAnsweredRightly : ℕ → Doing → Answer → List Bytes → Type 0
IsAnsweredRightly floor doing answer shown = AnswersRightly shown (with_floor floor doing) (Step 0) (Stepped (End answer) Done)

-- the floors once a job is answered that began when so much was finished
abbrev pub floors_after : Job → Shape → ℕ → Answer → List ℕ
floors_after job shape finished answer = (noted_what shape Writeback [] (with_floor 0 (record (at_job job) { then_finished = finished ∷ [] })) (Step 0) (Stepped (End answer) Done) []).floors

-- the histories once a write of something else has written this of a device, over a target of this mode
abbrev pub histories_after : Shape → Mode → Dev → List History
histories_after shape mode device = (noted_what shape mode [] (with_floor 0 (at_job (Write first_sector foreign))) (Step 0) (Stepped (Device (WriteExtent device first_sector)) Done) []).histories

pub record ExcludesWrongAnswers (P A : Type 0) : Type 0 where
  -- a finished read was given the last entry, once
  pub read : IsAnsweredRightly 0 (having_read (newer ∷ [])) Finished []
  pub stale : ¬ IsAnsweredRightly 0 (having_read (older ∷ [])) Finished []
  pub unread : ¬ IsAnsweredRightly 0 (having_read []) Finished []
  pub read_twice : ¬ IsAnsweredRightly 0 (having_read (newer ∷ newer ∷ [])) Finished []
  -- a finished write has entered its sector, once
  pub wrote : IsAnsweredRightly 0 (having_entered (record { sector = 0; position = 1 } ∷ [])) Finished []
  pub unwritten : ¬ IsAnsweredRightly 0 (having_entered []) Finished []
  pub wrote_twice : ¬ IsAnsweredRightly 0 (having_entered (record { sector = 0; position = 1 } ∷ record { sector = 0; position = 2 } ∷ [])) Finished []
  pub elsewhere : ¬ IsAnsweredRightly 0 (having_entered (record { sector = 1; position = 1 } ∷ [])) Finished []
  -- in write-through it enters nothing where it writes the cache, behind the origin
  pub not_again : (shape : Shape) → histories_after shape Writethrough Cache ≡ record { first = older; later = newer ∷ [] } ∷ []
  -- what an opening shows is an entry at the floor or later, of each sector
  pub unflushed : IsAnsweredRightly 0 (opening []) Finished (older ∷ [])
  pub kept : IsAnsweredRightly 1 (opening []) Finished (newer ∷ [])
  pub lost : ¬ IsAnsweredRightly 1 (opening []) Finished (older ∷ [])
  pub invented : ¬ IsAnsweredRightly 0 (opening []) Finished (foreign ∷ [])
  pub hidden : ¬ IsAnsweredRightly 0 (opening []) Finished []
  -- an opening is refused for a device of which a step failed, for memory or for generations, and for nothing that the metadata hold
  pub failed : IsAnsweredRightly 0 (opening (Cache ∷ [])) (Refuses (Io Cache)) []
  pub unfailed : ¬ IsAnsweredRightly 0 (opening (Cache ∷ [])) (Refuses (Io Origin)) []
  pub no_memory : IsAnsweredRightly 0 (opening []) (Refuses Memory) []
  pub no_generation : IsAnsweredRightly 0 (opening []) (Refuses GenerationEnd) []
  pub damaged : (place : Place) → ¬ IsAnsweredRightly 0 (opening []) (Refuses (Damaged place)) []
  pub unformatted : ¬ IsAnsweredRightly 0 (opening []) (Refuses NotFormatted) []
  pub mismatched : ¬ IsAnsweredRightly 0 (opening []) (Refuses Mismatch) []
  pub misfit : ¬ IsAnsweredRightly 0 (opening []) (Refuses Geometry) []
  -- who is at nothing does not answer
  pub nobody : ¬ AnswersRightly [] (record (with_floor 0 (at_job Flush)) { doings = None ∷ [] }) (Step 0) (Stepped (End Finished) Done)
  -- a flush that is done raises the floor to what was finished when it began, and to nothing that was finished since; a refused one does not
  pub raised : (shape : Shape) → floors_after Flush shape 1 Finished ≡ 1 ∷ []
  pub not_since : (shape : Shape) → floors_after Flush shape 0 Finished ≡ 0 ∷ []
  pub not_refused : (shape : Shape) → floors_after Flush shape 1 (Refuses Memory) ≡ 0 ∷ []
  -- whoever has a task is not skipped, but a flush that waits
  pub skipped : (w : State P A) (a : ℕ) → HasTask w a → ¬ WaitsForCommit w a → ¬ SkipsRightly w (Step a) Skipped

-- A commit of whose image the first block's entry is read so, over a desk that maps this block alone, once a suspend has seen its copy dirty.
pub record StoresSeen (P A : Type 0) (desk : DeskState P) (entry : Entry) : Type 0 where
  pub mapped : desk.tree.entries ≡ Some (entry_of first_block) ∷ []
  pub commit : RunningCommit
  pub tree : Mapping
  pub stored : with_bits (beside desk (Some (true ∷ []))) tree.entries ≡ Some entry ∷ []
  pub most : ℕ
  pub nodes : ℕ
  pub begins : DoesBegin {P = P} {A = A} (Some (true ∷ [])) most desk (Began nodes) (Commits commit tree)

-- this step of a job begins this commit
pub record BeginsCommit {P A : Type 0} (shape : Shape) (w : State P A) (x : Actor) (job : Job) (step : DeskStep) (commit : RunningCommit) : Type 0 where
  pub nodes : ℕ
  pub read : List Bytes
  pub tree : Mapping
  pub gives : Gives shape w x job (Desk step) (Began nodes) read (Commits commit tree)

-- What suspends are not.
pub record ExcludesWrongSuspends (P A : Type 0) : Type 0 where
  -- where anybody has a task none starts, and it may be refused as busy
  pub alone : (shape : Shape) (w : State P A) (a other : ℕ) (chosen : Chosen P A) → HasTask w other → ¬ StartsAs shape w a Suspend Started chosen
  pub busy : (shape : Shape) (w : State P A) (a other : ℕ) → HasTask w other → StartsAs shape w a Suspend (Refused Busy) Plain
  -- while one is at work every start is skipped, none is answered, and none starts
  pub skipped : (shape : Shape) (w : State P A) (a : ℕ) (job : Job) → IsSuspending w → MayBe shape w (Start a job) Skipped [] Plain
  pub beside : (shape : Shape) (w : State P A) (a : ℕ) (job : Job) (read : List Bytes) (chosen : Chosen P A) → IsSuspending w → ¬ MayBe shape w (Start a job) Started read chosen
  pub unanswered : (shape : Shape) (w : State P A) (a : ℕ) (job : Job) (refusal : Refusal) (read : List Bytes) (chosen : Chosen P A) → IsSuspending w → ¬ MayBe shape w (Start a job) (Refused refusal) read chosen
  -- what it has seen dirty is stored as dirty
  pub unmarked : (desk : DeskState P) (entry : Entry) → entry.dirty ≡ false → ¬ StoresSeen P A desk entry
  -- its root is clean, and no flush's is, whether it arrives or asks with a ticket
  pub unclean : (shape : Shape) (w : State P A) (x : Actor) (most : ℕ) (commit : RunningCommit) → commit.image.root.clean ≡ false → ¬ BeginsCommit shape w x Suspend (BeginCommit most) commit
  pub clean : (shape : Shape) (w : State P A) (x : Actor) (most : ℕ) (commit : RunningCommit) → commit.image.root.clean ≡ true → ¬ BeginsCommit shape w x Flush (Arrive most) commit
  pub clean_asked : (shape : Shape) (w : State P A) (x : Actor) (most : ℕ) (commit : RunningCommit) → commit.image.root.clean ≡ true → ¬ BeginsCommit shape w x Flush (Ask most) commit
  -- one that is done raises the floor as a flush does
  pub raised : (shape : Shape) → floors_after Suspend shape 1 Finished ≡ 1 ∷ []
  pub not_since : (shape : Shape) → floors_after Suspend shape 0 Finished ≡ 0 ∷ []
  pub not_refused : (shape : Shape) → floors_after Suspend shape 1 (Refuses Memory) ≡ 0 ∷ []

-- ---- flushes that share commits

-- a flush of this actor that asks is served
pub record IsServedThere {P A : Type 0} (shape : Shape) (w : State P A) (x : Actor) : Type 0 where
  pub most : ℕ
  pub read : List Bytes
  pub chosen : Chosen P A
  pub gives : Gives shape w x Flush (Desk (Ask most)) Served read chosen

-- What sharing is not.
pub record ExcludesWrongSharing (P A : Type 0) : Type 0 where
  -- none is served before the commit has ended that covers it, whether that runs, broke, or never began
  pub unended : (shape : Shape) (w : State P A) (x : Actor) (number : ℕ) → x.share ≡ Waiting number → TargetHas w (λ t. t.desk.ended < number) → ¬ IsServedThere shape w x
  -- that is a commit which began after it came: one that came while a commit ran is not served once that one alone has ended
  pub began_before : (shape : Shape) (w : State P A) (x : Actor) (came : Target P) (old : Share) (most : ℕ) → x.share ≡ share_by {A = A} (Stands came) old (Desk (Arrive most)) Ticket
      → TargetHas w (λ t. t.desk.ended ≡ came.desk.ended + 1) → ¬ IsServedThere shape w x
  -- none is without a ticket, and none a second time
  pub unasked : (shape : Shape) (w : State P A) (x : Actor) → x.share ≡ Nothing → ¬ IsServedThere shape w x
  pub twice : (shape : Shape) (w : State P A) (x : Actor) (served : Target P) (old : Share) (most : ℕ) → x.share ≡ share_by {A = A} (Stands served) old (Desk (Ask most)) Served → ¬ IsServedThere shape w x
  -- after a commit that broke no flush begins one, and none waits
  pub after_broken : (shape : Shape) (w : State P A) (x : Actor) (most : ℕ) (commit : RunningCommit) → TargetHas w (λ t. t.desk.broken ≡ true) → ¬ BeginsCommit shape w x Flush (Arrive most) commit
  pub after_broken_asked : (shape : Shape) (w : State P A) (x : Actor) (most : ℕ) (commit : RunningCommit) → TargetHas w (λ t. t.desk.broken ≡ true) → ¬ BeginsCommit shape w x Flush (Ask most) commit
  pub woken : (w : State P A) (a : ℕ) → TargetHas w (λ t. t.desk.broken ≡ true) → ¬ WaitsForCommit w a
  -- one that waits is skipped, and its step is not taken
  pub waits : (shape : Shape) (w : State P A) (a : ℕ) → WaitsForCommit w a → MayBe shape w (Step a) Skipped [] Plain
  pub goes_not : (shape : Shape) (t : Target P) (w : State P A) (x : Actor) (most : ℕ) (got : Got) (read : List Bytes) (chosen : Chosen P A) → MustWait t.desk x.share → ¬ Gives shape (record w { phase = Stands t }) x Flush (Desk (Ask most)) got read chosen
