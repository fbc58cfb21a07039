-- What holds of the shared words and of those who use them.
use Rattle.std.specs.Prelude.{◌≡◌, ℕ, List, Option, Some, None, map, slice_get}
use Rattle.wb_words.specs.declared.card.Card.{Card}
use Rattle.wb_words.specs.declared.card.Hold.TheVariants.{Nothing}
use Rattle.wb_words.specs.Rule.{LockRule}
use Rattle.wb_tasks.specs.Plan.{Plan}
use Rattle.wb_tasks.specs.Ready.{Suits}
use Rattle.wb_promise.specs.declared.job.Job.{Job}
use Rattle.wb_promise.specs.States.{Shape, State, Actor, Target, Stands, start}
use Rattle.wb_promise.specs.Effects.{after_all}
use Rattle.wb_promise.specs.Headline.{InEveryRun}

abbrev pub cards_of : List Actor → List Card
cards_of actors = map (λ (x : Actor). x.card) actors

-- who has a task has what is needed for what is left of it, and is ready for its next step; who has none holds nothing
abbrev pub TaskSuits : ℕ → Card → Option (Job × Plan) → Type 0
TaskSuits blocks card None = card.hold ≡ Nothing
TaskSuits blocks card (Some doing) = Suits blocks doing.1 card

abbrev pub AllSuited : ℕ → List Actor → Type 0
AllSuited blocks actors = (a : ℕ) (x : Actor) → slice_get actors a ≡ Some x → TaskSuits blocks x.card x.task

-- Everybody has what the task needs, and the words of the target that stands keep their rule.
pub record AreUsedRightly {P A : Type 0} (shape : Shape) (w : State P A) : Type 0 where
  pub suited : AllSuited shape.geometry.origin_blocks w.actors
  pub ruled : (t : Target P) → w.phase ≡ Stands t → LockRule shape.geometry.origin_blocks t.words (cards_of w.actors)

-- so it is after every run
abbrev pub WordsAreUsedRightly : (P A : Type 0) → Type 0
WordsAreUsedRightly P A = InEveryRun P A (λ shape metadata hs. AreUsedRightly shape (after_all shape (start shape metadata) hs))
