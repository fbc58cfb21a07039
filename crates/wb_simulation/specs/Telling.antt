-- What the abstract world's clerk is told, who sees the records of one actor.
use Rattle.std.specs.Prelude.{true, ◌≡◌, ◌≢◌, ℕ, List, [], ◌∷◌, Option, Some, None, length, map}
use Rattle.wb_types.specs.Extents.{rising}
use Rattle.wb_types.specs.declared.mode.Mode.{Mode}
use Rattle.wb_types.specs.declared.mode.Mode.TheVariants.{Writethrough}
use Rattle.wb_disk.specs.Device.{Content}
use Rattle.wb_tasks.specs.declared.step.Answer.{Answer}
use Rattle.wb_tasks.specs.declared.step.Answer.TheVariants.{Done as Finished, Refused as Refuses}
use Rattle.wb_link.specs.Tables.{Script, Flag, abstract_table, Job, Writing_through, Promoting, Returning, Want, Read_all, Write_all, End, Got, Gave, Done, Finished as AnsweredDone, Answer as AbstractAnswer, abstract_want}
use Rattle.wb_link.specs.World.{Release, Record, Start, Again, task_after}
use Rattle.wb_refines.specs.Going.{records}
use Rattle.wb_refines.specs.Translation.{reading_in, writing_in}

-- A step of a job of which nothing is noted: no answer, and no write but that by which a write in write-through puts on the cache what the origin has.
abbrev pub IsUnnoted : Want → Job → Type 0
IsUnnoted (Write_all (Some cache) block os) (Writing_through b all content) = Unit {0}
IsUnnoted (Write_all location block os) job = ⊥
IsUnnoted (End answer) job = ⊥
IsUnnoted next job = Unit {0}

-- so is each of the steps that have these results
abbrev pub AreUnnoted : Option Script → List Got → Type 0
AreUnnoted None gots = Unit {0}
AreUnnoted (Some script) [] = Unit {0}
AreUnnoted (Some script) (got ∷ gots) = IsUnnoted (abstract_want script) script.job × AreUnnoted (task_after script (abstract_want script) got) gots

-- a job of one block
abbrev pub reading : Mode → ℕ → List (List ℕ) → List Want → AbstractAnswer → Script
reading mode block all steps answer = record { job = reading_in mode block all; steps = steps; answer = answer }

abbrev pub writing : Mode → ℕ → List (List ℕ) → Content → List Want → AbstractAnswer → Script
writing mode block all content steps answer = record { job = writing_in mode block all content; steps = steps; answer = answer }

-- what it puts there is noted: in write-through what goes to the origin alone
abbrev pub NotesAt : Mode → Option ℕ → Type 0
NotesAt Writethrough (Some cache) = ⊥
NotesAt mode location = Unit {0}

-- a job of which nothing is noted: a migration writes nothing new, and its answer makes nothing finished or durable
abbrev pub IsMigrating : Job → Type 0
IsMigrating (Promoting order os) = Unit {0}
IsMigrating (Returning leaves order os) = Unit {0}
IsMigrating job = ⊥

-- none of the steps answers
abbrev pub IsNoEnd : Want → Type 0
IsNoEnd (End answer) = ⊥
IsNoEnd next = Unit {0}

-- steps of a migration, before its answer
abbrev pub AreCarried : Option Script → List Got → Type 0
AreCarried None gots = Unit {0}
AreCarried (Some script) [] = Unit {0}
AreCarried (Some script) (got ∷ gots) = IsMigrating script.job × IsNoEnd (abstract_want script) × AreCarried (task_after script (abstract_want script) got) gots

-- It is told nothing that it notes; that a read is given these contents of a block's sectors from an offset on; that a write writes
-- this content to so many of them, done or failing; that a task of this job is answered; that the actor is given a job; and of a migration,
-- that it begins or begins again, goes on, and answers; or that an order that is aside is given up.
pub data Telling : Type 0 where
  Quietly : Telling
  Reads : (block offset : ℕ) → List Content → Telling
  Writes : (block offset count : ℕ) → Content → Telling
  Answers : Job → Answer → Telling
  Starts : Job → Telling
  Resumes : Telling
  Carries : Telling
  Rests : Telling
  Releases : Telling

-- the next step of a read is this
pub record IsReadNext (a block offset : ℕ) (contents : List Content) (task : Option Script) (told : List Record) : Type 0 where
  pub mode : Mode
  pub location : Option ℕ
  pub all : List (List ℕ)
  pub rest : List Want
  pub answer : AbstractAnswer
  pub there : ℕ → Content
  pub given : contents ≡ map there (rising offset (length contents))
  pub at : task ≡ Some (reading mode block all (Read_all location block (rising offset (length contents)) ∷ rest) answer)
  pub told_is : told ≡ records a task (Gave there ∷ [])

-- and that of a write, which is noted
pub record IsWriting (a block offset count : ℕ) (content : Content) (task : Option Script) (told : List Record) : Type 0 where
  pub mode : Mode
  pub location : Option ℕ
  pub notes : NotesAt mode location
  pub all : List (List ℕ)
  pub rest : List Want
  pub answer : AbstractAnswer
  pub got : Got
  pub at : task ≡ Some (writing mode block all content (Write_all location block (rising offset count) ∷ rest) answer)
  pub told_is : told ≡ records a task (got ∷ [])

-- nothing is left but the answer: this job is done there too, or some job is not; who is late has no task there
abbrev pub AnswersSo : Job → Answer → Option Script → Type 0
AnswersSo job Finished None = ⊥
AnswersSo job Finished (Some script) = (script.steps ≡ []) × (script.answer ≡ AnsweredDone) × (script.job ≡ job)
AnswersSo job (Refuses refusal) None = Unit {0}
AnswersSo job (Refuses refusal) (Some script) = (script.steps ≡ []) × (script.answer ≢ AnsweredDone)

-- a migration is begun; begins, and finds at once that the target has failed; or is begun by nobody
pub data IsResumed (a : ℕ) (task : Option Script) (told : List Record) : Type 0 where
  Given : (job : Job) → IsMigrating job → told ≡ Start a job ∷ [] → IsResumed a task told
  Kept : (job : Job) → IsMigrating job → told ≡ Again a job ∷ [] → IsResumed a task told
  Failing : (job : Job) → IsMigrating job → task ≡ None → told ≡ Start a job ∷ records a (Some (abstract_table job)) (Flag true ∷ Done ∷ []) → IsResumed a task told
  Nowhere : task ≡ None → told ≡ [] → IsResumed a task told

-- nothing is left of a migration but its answer, or it is there no more
abbrev pub Rested : Option Script → Type 0
Rested None = Unit {0}
Rested (Some script) = (script.steps ≡ []) × IsMigrating script.job

abbrev pub IsTold : Telling → ℕ → Option Script → List Record → Type 0
IsTold Quietly a task told = (results : List Got) × AreUnnoted task results × (told ≡ records a task results)
IsTold (Reads block offset contents) a task told = IsReadNext a block offset contents task told
IsTold (Writes block offset count content) a task told = IsWriting a block offset count content task told
IsTold (Answers job answer) a task told = AnswersSo job answer task × (told ≡ records a task (Done ∷ []))
IsTold (Starts job) a task told = told ≡ Start a job ∷ []
IsTold Resumes a task told = IsResumed a task told
IsTold Carries a task told = (results : List Got) × AreCarried task results × (told ≡ records a task results)
IsTold Releases a task told = (k : ℕ) × (told ≡ Release k ∷ [])
IsTold Rests a task told = Rested task × (told ≡ records a task (Done ∷ []))
