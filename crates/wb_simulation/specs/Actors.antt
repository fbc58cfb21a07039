-- When an actor of a run is one of the abstract world, where a target stands.
use Rattle.std.specs.Prelude.{◌≡◌, ◌≢◌, ◌⊎◌, ℕ, Bool, true, false, List, [], ◌∷◌, Option, Some, None, slice_get}
use Rattle.wb_disk.specs.Device.{Content}
use Rattle.wb_words.specs.SharedWords.{Words, flag}
use Rattle.wb_words.specs.declared.card.Card.{Card}
use Rattle.wb_words.specs.declared.step.CellStep.TheVariants.{Look, SetFailed, SetSuspended}
use Rattle.wb_words.specs.declared.word.Word.TheVariants.{Fail, Seal as SealWord}
use Rattle.wb_tasks.specs.Tables.{BlockRange, BlockJob, Reading, Invalidating, OnBlock}
use Rattle.wb_tasks.specs.Plan.{Plan, table, want}
use Rattle.wb_tasks.specs.declared.step.Answer.TheVariants.{Done as Finished}
use Rattle.wb_tasks.specs.declared.step.Want.{Want}
use Rattle.wb_tasks.specs.declared.step.Want.TheVariants.{Cell, Device, Desk}
use Rattle.wb_tasks.specs.declared.step.DeviceStep.TheVariants.{Sync}
use Rattle.wb_types.specs.declared.mode.Dev.TheVariants.{Cache, Origin}
use Rattle.wb_tasks.specs.declared.step.DeskStep.TheVariants.{Arrive, Ask, BeginCommit, BreakCommit, ReleaseOrder}
use Rattle.wb_types.specs.declared.number.OBlock.{OBlock}
use Rattle.wb_link.specs.World.{AbstractActor, is_alone}
use Rattle.wb_refines.specs.Models.{IsAt, HasStopped, IsBelow}
use Rattle.wb_refines.specs.Commits.{IsCommitting, IsToBegin, IsOnMetadata, commit_task}
use Rattle.wb_refines.specs.Tasks.{IsResting}
use Rattle.wb_stage.specs.declared.share.Share.{Share}
use Rattle.wb_stage.specs.declared.share.Share.TheVariants.{Waiting}
use Rattle.wb_promise.specs.declared.job.Job.{Job}
use Rattle.wb_promise.specs.declared.job.Job.TheVariants.{Read, Write, Flush, Suspend, Open, Invalidate, Migrate, Replace}
use Rattle.wb_promise.specs.States.{Actor}
use Rattle.wb_promise.specs.Happenings.{write_job}
use Rattle.wb_simulation.specs.Steps.{IsPart, AreOfBlock}

-- A task that began though its actor has still what it kept at a failure: there it has none, and it ends at its look at the fail word.
pub record IsLate (failed : Bool) (plan : Plan) (y : AbstractActor) : Type 0 where
  pub has_failed : failed ≡ true
  pub nothing : y.task ≡ None
  pub at : (plan ≡ table plan.job) ⊎ ((plan.steps ≡ []) × (plan.answer ≢ Finished))

-- a read, a write of this, or an invalidation: it is at the same there, has only to answer, or is late
pub record IsRequestAt (size : ℕ) (content : Content) (failed : Bool) (job_on : BlockRange → BlockJob) (plan : Plan) (card : Card) (y : AbstractActor) : Type 0 where
  pub part : BlockRange
  pub job : plan.job ≡ OnBlock (job_on part)
  pub is_part : IsPart size part
  pub of_block : AreOfBlock size part.block.0 plan.steps
  pub at : IsAt size content plan card y ⊎ HasStopped failed plan card y ⊎ IsLate failed plan y

-- orders are given up, and nothing else is left
abbrev pub AreReleases : List Want → Type 0
AreReleases [] = Unit {0}
AreReleases (Desk (ReleaseOrder block) ∷ later) = AreReleases later
AreReleases steps = ⊥

-- What may be left of a flush, or of a suspend, which marks its root clean.
abbrev pub IsOfCommit : (clean : Bool) → ℕ → List Want → Type 0
IsOfCommit clean most [] = Unit {0}
IsOfCommit clean most (Cell (Look Fail) ∷ later) = IsToBegin clean most later
IsOfCommit clean most (Cell (Look (SealWord block)) ∷ later) = (clean ≡ true) × IsToBegin true most later
IsOfCommit clean most (Desk (Arrive nodes) ∷ later) = (clean ≡ false) × (nodes ≡ most) × (later ≡ [])
IsOfCommit clean most (Desk (Ask nodes) ∷ later) = (clean ≡ false) × (nodes ≡ most) × (later ≡ [])
IsOfCommit clean most (Desk (BeginCommit nodes) ∷ later) = (clean ≡ true) × (nodes ≡ most) × (later ≡ [])
IsOfCommit clean most (Desk (ReleaseOrder block) ∷ later) = (clean ≡ false) × AreReleases later
IsOfCommit clean most (Cell SetFailed ∷ later) = later ≡ Desk BreakCommit ∷ []
IsOfCommit clean most (Desk BreakCommit ∷ later) = later ≡ []
IsOfCommit clean most (Cell SetSuspended ∷ later) = (clean ≡ true) × (later ≡ [])
IsOfCommit clean most (Device (Sync Cache) ∷ Device (Sync Origin) ∷ later) = IsOnMetadata clean later
IsOfCommit clean most (Device (Sync Origin) ∷ later) = IsOnMetadata clean later
IsOfCommit clean most later = IsOnMetadata clean later

-- it leads a commit from its beginning to its end
abbrev pub LeadsAt : Bool → List Want → Type 0
LeadsAt leads [] = Unit {0}
LeadsAt leads (Cell (Look word) ∷ later) = leads ≡ false
LeadsAt leads (Cell SetSuspended ∷ later) = leads ≡ false
LeadsAt leads (Desk (Arrive most) ∷ later) = leads ≡ false
LeadsAt leads (Desk (Ask most) ∷ later) = leads ≡ false
LeadsAt leads (Desk (BeginCommit most) ∷ later) = leads ≡ false
LeadsAt leads (Desk (ReleaseOrder block) ∷ later) = leads ≡ false
LeadsAt leads steps = leads ≡ true

-- the ticket with which a flush asks next
abbrev pub ticket_in : Want → Share → Option ℕ
ticket_in (Desk (Ask most)) (Waiting number) = Some number
ticket_in next share = None

-- it has only to answer, or to break its commit first
abbrev pub IsEnding : List Want → Type 0
IsEnding [] = Unit {0}
IsEnding (Desk BreakCommit ∷ later) = Unit {0}
IsEnding steps = ⊥

-- It is at the same there, with this ticket, if any; where it leads a commit still when it breaks it or answers, the target has failed
pub record IsLeading (size : ℕ) (failed : Bool) (plan : Plan) (ticket : Option ℕ) (y : AbstractActor) : Type 0 where
  pub leads : Bool
  pub at : LeadsAt leads plan.steps
  pub has_failed : leads ≡ true → IsEnding plan.steps → failed ≡ true
  pub is : IsCommitting size [] plan ticket leads y

pub record IsCommitAt (size most : ℕ) (failed clean : Bool) (plan : Plan) (share : Share) (y : AbstractActor) : Type 0 where
  pub blocks : List OBlock
  pub job : plan.job ≡ commit_task clean blocks most
  pub steps : IsOfCommit clean most plan.steps
  pub at : IsLeading size failed plan (ticket_in (want plan) share) y ⊎ IsLate failed plan y

-- a write of this part, in its mode
abbrev pub write_of : BlockRange → BlockJob
write_of part = write_job part.mode part

-- what an actor with this job is there; of a migration `Carried` speaks
abbrev pub IsDoing : (size : ℕ) (most : Bool → ℕ) → Bool → Job → Plan → Card → Share → AbstractActor → Type 0
IsDoing size most failed (Read extent) plan card share y = IsRequestAt size [] failed Reading plan card y
IsDoing size most failed (Write extent content) plan card share y = IsRequestAt size content failed write_of plan card y
IsDoing size most failed Flush plan card share y = IsCommitAt size (most false) failed false plan share y
IsDoing size most failed Suspend plan card share y = IsCommitAt size (most true) failed true plan share y
IsDoing size most failed (Invalidate block) plan card share y = IsRequestAt size [] failed Invalidating plan card y
IsDoing size most failed (Open mode second) plan card share y = ⊥
IsDoing size most failed (Migrate migration block) plan card share y = Unit {0}
IsDoing size most failed (Replace old new) plan card share y = ⊥

-- one without a task is idle, or has kept something at a failure
abbrev pub IsBusyAt : (size : ℕ) (most : Bool → ℕ) → Bool → Option (Job × Plan) → Card → Share → AbstractActor → Type 0
IsBusyAt size most failed None card share y = (y.task ≡ None) × (IsResting y ⊎ (failed ≡ true))
IsBusyAt size most failed (Some doing) card share y = IsDoing size most failed doing.0 doing.1 card share y

-- a suspend has to be alone, and nothing else has
abbrev pub IsAmong : Job → Type 0
IsAmong Suspend = ⊥
IsAmong job = Unit {0}

abbrev pub IsAmongOthers : Option (Job × Plan) → Type 0
IsAmongOthers None = Unit {0}
IsAmongOthers (Some doing) = IsAmong doing.0

-- nobody suspends
abbrev pub AreAmongOthers : List Actor → Type 0
AreAmongOthers actors = (b : ℕ) (z : Actor) → slice_get actors b ≡ Some z → IsAmongOthers z.task

-- An actor of a run is this one there, which has no block that the card does not count, and no task that has to be alone but a suspend. What it is
-- at may rest on it that the target has failed, which it has then, and for good.
pub record StandsFor (size : ℕ) (most : Bool → ℕ) (words : Words) (x : Actor) (y : AbstractActor) : Type 0 where
  pub failed : Bool
  pub has_failed : failed ≡ true → flag words.fail ≡ true
  pub at : IsBusyAt size most failed x.task x.card x.share y
  pub below : IsBelow y x.card
  pub among_others : IsAmongOthers x.task → is_alone y.task ≡ false
