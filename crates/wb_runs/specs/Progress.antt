-- That no run is ever stuck.
use Rattle.std.specs.Prelude.{◌≡◌, ◌≤◌, ℕ, false, List, None}
use Rattle.wb_disk.specs.Device.{Content as Bytes}
use Rattle.wb_tree.specs.Fields.{AreApart}
use Rattle.wb_meta.specs.Reads.{sectors_read}
use Rattle.wb_meta.specs.declared.read_steps.ReadSteps.{ReadSteps}
use Rattle.wb_desk.specs.Commits.{MayBegin}
use Rattle.wb_desk.specs.Desks.{DeskState}
use Rattle.wb_tasks.specs.declared.step.Got.{Got}
use Rattle.wb_tasks.specs.declared.step.Got.TheVariants.{Began}
use Rattle.wb_tasks.specs.declared.step.Want.{Want}
use Rattle.wb_promise.specs.declared.event.Event.{Event}
use Rattle.wb_promise.specs.declared.event.Event.TheVariants.{Step}
use Rattle.wb_promise.specs.declared.event.What.{What}
use Rattle.wb_promise.specs.declared.event.What.TheVariants.{Stepped}
use Rattle.wb_promise.specs.States.{Shape, State, Target, Stands, start}
use Rattle.wb_promise.specs.Happenings.{Chosen, HasTask, WaitsForCommit, DoesBegin, MayBe, most_for}
use Rattle.wb_promise.specs.Effects.{after_all}
use Rattle.wb_promise.specs.Headline.{InEveryRun}

-- the event does something here, or is skipped where it does not apply
pub record HasHappening {P A : Type 0} (shape : Shape) (w : State P A) (event : Event) : Type 0 where
  pub what : What
  pub read : List Bytes
  pub chosen : Chosen P A
  pub may : MayBe shape w event what read chosen

-- a commit begins, whose image has at most so many nodes
abbrev pub CanBegin : (P A : Type 0) → ℕ → DeskState P → Type 0
CanBegin P A most desk = (nodes : ℕ) × ((chosen : Chosen P A) × DoesBegin None most desk (Began nodes) chosen)

-- an actor may do a step, and it is not skipped
pub record GivesSomething {P A : Type 0} (shape : Shape) (w : State P A) (a : ℕ) : Type 0 where
  pub next : Want
  pub got : Got
  pub read : List Bytes
  pub chosen : Chosen P A
  pub may : MayBe shape w (Step a) (Stepped next got) read chosen

-- Every event has a happening, and whoever has a task, and has not to wait for a commit of another, may do its next step. Where a commit may begin, one can, by each flush that
-- allows as many nodes as an image of this geometry may have that is not clean, as all of a run do, if no node of the tree is known twice.
pub record IsFree {P A : Type 0} (shape : Shape) (w : State P A) : Type 0 where
  pub events : (event : Event) → HasHappening shape w event
  pub steps : (a : ℕ) → HasTask w a → ¬ WaitsForCommit w a → GivesSomething shape w a
  pub commits : (target : Target P) (most : ℕ) → w.phase ≡ Stands target → AreApart target.desk.tree.known → most_for shape.geometry false ≤ most → MayBegin target.desk → CanBegin P A most target.desk

-- So it is after every run, where there is a policy to open with, and a reading that has read nothing.
abbrev pub NeverStuck : (P A : Type 0) → Type 0
NeverStuck P A = (policy : P) (reading : ReadSteps A) → sectors_read reading ≡ 0 → InEveryRun P A (λ shape metadata hs. IsFree shape (after_all shape (start shape metadata) hs))
