-- What a clerk writes down who sees the records alone: the write history of each sector, what of it is finished, how
-- far a crash may go back, and of each actor its job, what it has entered, and what was finished when it began. No
-- device, word, mapping or phase of a task stands in it.
use Rattle.std.specs.Prelude.{◌+◌, ℕ, List, [], ◌∷◌, Option, Some, None, length, max}
use Rattle.wb_disk.specs.Device.{Content, History, newest, added, only}
use Rattle.wb_contents.specs.Volume.{changed, changed_at}
use Rattle.wb_link.specs.Tables.{Job, Reading, Writing, Writing_through, Flushing, Suspending, Finished, Want, Read_all, Write_all, End, Got, Gave}
use Rattle.wb_link.specs.World.{AreAlike, Record, Start, Again, Step, Release}

-- an entry of a sector's history, by its position
pub record Entry : Type 0 where
  pub block : ℕ
  pub offset : ℕ
  pub position : ℕ

pub record AbstractNotes : Type 0 where
  pub histories : ℕ → ℕ → History
  pub finished : ℕ → ℕ → ℕ
  pub floors : ℕ → ℕ → ℕ
  pub jobs : ℕ → Option Job
  pub entered : ℕ → List Entry
  pub asked : ℕ → ℕ → ℕ → ℕ

-- a write is entered at its first step, failing or not
abbrev pub added_each : (ℕ → ℕ → History) → ℕ → List ℕ → Content → ℕ → ℕ → History
added_each histories b [] c = histories
added_each histories b (o ∷ os) c = added_each (changed_at histories b o (added (histories b o) c)) b os c

abbrev pub histories_after : (ℕ → ℕ → History) → Job → Want → ℕ → ℕ → History
histories_after histories (Writing past block extents c) (Write_all location b os) = added_each histories b os c
histories_after histories (Writing_through block extents c) (Write_all None b os) = added_each histories b os c
histories_after histories job w = histories

abbrev pub entry : (ℕ → ℕ → History) → ℕ → ℕ → Entry
entry histories b o = record { block = b; offset = o; position = length (histories b o).later + 1 }

abbrev pub entered_each : (ℕ → ℕ → History) → ℕ → List ℕ → Content → List Entry → List Entry
entered_each histories b [] c es = es
entered_each histories b (o ∷ os) c es = entered_each (changed_at histories b o (added (histories b o) c)) b os c (entry histories b o ∷ es)

abbrev pub entered_after : (ℕ → ℕ → History) → Job → Want → List Entry → List Entry
entered_after histories (Writing past block extents c) (Write_all location b os) es = entered_each histories b os c es
entered_after histories (Writing_through block extents c) (Write_all None b os) es = entered_each histories b os c es
entered_after histories job w es = es

abbrev pub abstract_raised : List Entry → (ℕ → ℕ → ℕ) → ℕ → ℕ → ℕ
abstract_raised [] f = f
abstract_raised (e ∷ es) f = abstract_raised es (changed_at f e.block e.offset (max (f e.block e.offset) e.position))

-- what a write has entered is finished when it is answered done
abbrev pub finished_after : Job → Want → List Entry → (ℕ → ℕ → ℕ) → ℕ → ℕ → ℕ
finished_after (Writing past block os c) (End Finished) es f = abstract_raised es f
finished_after (Writing_through block os c) (End Finished) es f = abstract_raised es f
finished_after job w es f = f

-- a flush or a suspend that is answered done has covered what was finished when it began
abbrev pub abstract_floors_after : Job → Want → (ℕ → ℕ → ℕ) → (ℕ → ℕ → ℕ) → ℕ → ℕ → ℕ
abstract_floors_after (Flushing order) (End Finished) asked floors b o = max (floors b o) (asked b o)
abstract_floors_after Suspending (End Finished) asked floors b o = max (floors b o) (asked b o)
abstract_floors_after job w asked floors b o = floors b o

abbrev pub job_noted : Job → Want → Option Job
job_noted job (End answer) = None
job_noted job w = Some job

abbrev pub abstract_noted_step : AbstractNotes → ℕ → Option Job → Want → AbstractNotes
abstract_noted_step n a None w = n
abstract_noted_step n a (Some job) w = record {
  histories = histories_after n.histories job w;
  finished = finished_after job w (n.entered a) n.finished;
  floors = abstract_floors_after job w (n.asked a) n.floors;
  jobs = changed n.jobs a (job_noted job w);
  entered = changed n.entered a (entered_after n.histories job w (n.entered a));
  asked = n.asked;
}

-- a life begins with what its opening shows
abbrev pub abstract_opened : (ℕ → ℕ → Content) → AbstractNotes
abstract_opened view = record { histories = λ b o. only (view b o); finished = λ b o. 0; floors = λ b o. 0; jobs = λ a. None; entered = λ a. []; asked = λ a b o. 0 }

abbrev pub abstract_note : AbstractNotes → Record → AbstractNotes
abstract_note n (Start a job) = record n { jobs = changed n.jobs a (Some job); entered = changed n.entered a []; asked = changed n.asked a n.finished }
abstract_note n (Again a job) = record n { jobs = changed n.jobs a (Some job); entered = changed n.entered a []; asked = changed n.asked a n.finished }
abstract_note n (Step a w got) = abstract_noted_step n a (n.jobs a) w
abstract_note n (Release k) = n

-- what a read is given is the last write
abbrev pub AbstractGivesLatest : (ℕ → ℕ → History) → Option Job → Want → Got → Type 0
AbstractGivesLatest histories (Some (Reading past block extents)) (Read_all location b os) (Gave contents) = AreAlike os contents (λ o. newest (histories b o))
AbstractGivesLatest histories job w got = Unit {0}

abbrev pub AbstractRight : AbstractNotes → Record → Type 0
AbstractRight n (Start a job) = Unit {0}
AbstractRight n (Again a job) = Unit {0}
AbstractRight n (Step a w got) = AbstractGivesLatest n.histories (n.jobs a) w got
AbstractRight n (Release k) = Unit {0}
