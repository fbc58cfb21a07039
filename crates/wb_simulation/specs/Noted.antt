-- How the two clerks' notes stay alike by what the abstract one is told, and what it says of reads.
use Rattle.std.specs.Prelude.{Bool, ◌≡◌, ◌<◌, ◌≤◌, ◌+◌, ◌*◌, ℕ, List, [], ◌∷◌, Option, Some, None, length, map, slice_get}
use Rattle.wb_types.specs.Extents.{rising}
use Rattle.wb_types.specs.declared.mode.Mode.{Mode}
use Rattle.wb_disk.specs.Device.{Content, History, newest, only}
use Rattle.wb_contents.specs.Devices.{by_block}
use Rattle.wb_tasks.specs.declared.step.Answer.TheVariants.{Done as Finished, Refused as Refuses}
use Rattle.wb_types.specs.declared.refusal.Refusal.{Refusal}
use Rattle.wb_link.specs.Tables.{Job as AbstractJob, Invalidating}
use Rattle.wb_link.specs.World.{World, Shared, Record, AbstractActor, abstract_after_all}
use Rattle.wb_link.specs.Clerk.{AbstractNotes, abstract_opened}
use Rattle.wb_link.specs.Openings.{On, abstract_noted, AllEventsRight, emptied}
use Rattle.wb_refines.specs.Translation.{reading_in, writing_in}
use Rattle.wb_refines.specs.Commits.{commit_there}
use Rattle.wb_promise.specs.declared.job.Job.{Job}
use Rattle.wb_promise.specs.Clerk.{Notes, Doing, begins, begun, put, nobody, entering, enter_each, write_note, all_raised, greater_of}
use Rattle.wb_promise.specs.States.{Actor}
use Rattle.wb_simulation.specs.Noting.{NotesAgree}
use Rattle.wb_simulation.specs.Telling.{Telling, Quietly, Reads, Writes, Answers, Starts, Resumes, Carries, Rests, Releases}
use Rattle.wb_simulation.specs.Worlds.{zeros, Situation, Turn, WorldFollowsBy}

-- the abstract notes after these records
abbrev pub told : AbstractNotes → List Record → AbstractNotes
told m rs = abstract_noted m (map (λ (r : Record). On r) rs)

-- each of these contents is the newest of its sector's history, from this offset of a block on
abbrev pub AreNewest : (ℕ → ℕ → History) → ℕ → ℕ → List Content → Type 0
AreNewest histories b o [] = Unit {0}
AreNewest histories b o (c ∷ contents) = (c ≡ newest (histories b o)) × AreNewest histories b (o + 1) contents

-- What a run of the abstract world that follows a happening makes of notes that agree, whose actor is this one there before it.
abbrev pub Kept : Telling → ((size : ℕ) (n : Notes) (a : ℕ) (y : AbstractActor) → (Notes → Type 0) → Type 0) → Type 0
Kept telling Premise = (turn : Turn) (a : ℕ) (s : World) (now : Situation) (x : Actor) (f : WorldFollowsBy turn telling a s now x) (y : AbstractActor) (n : Notes) (m : AbstractNotes) →
    slice_get s.actors a ≡ Some y → a < length n.doings → NotesAgree now.size n s m → Premise now.size n a y (λ (n' : Notes). NotesAgree now.size n' (abstract_after_all s f.records) (told m f.records))

pub record NotesFollowed : Type 0 where
  -- nothing is noted
  pub quiet : Kept Quietly (λ size n a y Then. Then n)
  -- nor of a read's step
  pub read : (block offset : ℕ) (contents : List Content) → Kept (Reads block offset contents) (λ size n a y Then. Then n)
  -- a write's histories and entries are those that the run's clerk notes
  pub write : (block offset count : ℕ) (content : Content) → Kept (Writes block offset count content) (λ size n a y Then. (doing : Doing) → slice_get n.doings a ≡ Some (Some doing) → offset + count ≤ size → block * size + offset + count ≤ length n.histories →
      Then (write_note n a doing (enter_each content (rising (block * size + offset) count) (entering n doing))))
  -- what a write entered is finished when it is answered done, and what was finished when a flush or a suspend began is durable then
  pub read_answered : (mode : Mode) (block : ℕ) (os : List (List ℕ)) → Kept (Answers (reading_in mode block os) Finished) (λ size n a y Then. Then (put n a None))
  pub write_answered : (mode : Mode) (block : ℕ) (os : List (List ℕ)) (content : Content) → Kept (Answers (writing_in mode block os content) Finished) (λ size n a y Then. (doing : Doing) → slice_get n.doings a ≡ Some (Some doing) → Then (put (record n { finished = all_raised n.finished doing.entered }) a None))
  pub invalidation_answered : (block : ℕ) → Kept (Answers (Invalidating block) Finished) (λ size n a y Then. Then (put n a None))
  pub commit_answered : (clean : Bool) → Kept (Answers (commit_there clean) Finished) (λ size n a y Then. (doing : Doing) → slice_get n.doings a ≡ Some (Some doing) → length doing.then_finished ≡ length n.floors → Then (put (record n { floors = greater_of n.floors doing.then_finished }) a None))
  pub refused : (job : AbstractJob) (refusal : Refusal) → Kept (Answers job (Refuses refusal)) (λ size n a y Then. Then (put n a None))
  -- who starts, or starts late, is noted to have entered nothing
  pub starts : (abstract_job : AbstractJob) (job : Job) → Kept (Starts abstract_job) (λ size n a y Then. (was : Option Doing) → slice_get n.doings a ≡ Some was → Then (put n a (Some (begun n job))))
  pub starts_late : (job : Job) → Kept Quietly (λ size n a y Then. y.task ≡ None → Then (put n a (Some (begun n job))))
  -- of a migration nothing is noted but that it is at work
  pub resumes : (job : Job) → Kept Resumes (λ size n a y Then. (was : Option Doing) → slice_get n.doings a ≡ Some was → Then (put n a (Some (begun n job))))
  pub carries : Kept Carries (λ size n a y Then. Then n)
  -- nor of an order that is given up
  pub released : Kept Releases (λ size n a y Then. Then n)
  pub rests : Kept Rests (λ size n a y Then. Then (put n a None))
  -- what it has read, and on which devices it failed, is of no account there
  pub redone : (size : ℕ) (n : Notes) (s : World) (m : AbstractNotes) (a : ℕ) (doing doing' : Doing) → NotesAgree size n s m → slice_get n.doings a ≡ Some (Some doing) → doing'.entered ≡ doing.entered → doing'.then_finished ≡ doing.then_finished → NotesAgree size (put n a (Some doing')) s m
  -- a crash and an opening's start end what all are at
  pub ended : (size : ℕ) (n : Notes) (s : World) (t : Shared) (m : AbstractNotes) → NotesAgree size n s m → NotesAgree size (record n { doings = nobody n.doings }) (emptied s t) m
  -- an opening that is answered done begins notes anew with what it shows
  pub anew : (size many : ℕ) (shown : List Content) (view : ℕ → ℕ → Content) (s : World) (t : Shared) → by_block size zeros (map only shown) ≡ (λ b o. only (view b o)) → NotesAgree size (begins many shown) (emptied s t) (abstract_opened view)
  -- where the records are right, what a read is given are the last entries of the histories
  pub newest_read : (turn : Turn) (block offset : ℕ) (contents : List Content) (a : ℕ) (s : World) (now : Situation) (x : Actor) (f : WorldFollowsBy turn (Reads block offset contents) a s now x) (y : AbstractActor) (n : Notes) (m : AbstractNotes) →
      slice_get s.actors a ≡ Some y → a < length n.doings → NotesAgree now.size n s m → AllEventsRight m (map (λ (r : Record). On r) f.records) → AreNewest (by_block now.size zeros n.histories) block offset contents
