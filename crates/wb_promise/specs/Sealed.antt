-- That the seal of a block tells where the desk has it.
use Rattle.std.specs.Prelude.{◌≡◌, ◌⊎◌, ℕ, Bool, List, Option, Some, None, slice_get}
use Rattle.wb_types.specs.declared.entry.Entry.{Entry}
use Rattle.wb_types.specs.declared.number.OBlock.{OBlock}
use Rattle.wb_types.specs.declared.number.CBlock.{CBlock}
use Rattle.wb_words.specs.SharedWords.{Words, word_at, place_in}
use Rattle.wb_words.specs.declared.step.CellStep.TheVariants.{Seal}
use Rattle.wb_tasks.specs.Plan.{Plan, want}
use Rattle.wb_tasks.specs.declared.step.Want.TheVariants.{Cell}
use Rattle.wb_promise.specs.declared.job.Job.{Job}
use Rattle.wb_promise.specs.States.{State, Actor, Target, Stands}
use Rattle.wb_promise.specs.Effects.{after_all}
use Rattle.wb_promise.specs.States.{start}
use Rattle.wb_promise.specs.Headline.{InEveryRun, place_of}

abbrev pub number_of : Option CBlock → Option ℕ
number_of None = None
number_of (Some c) = Some c.0

-- the next step of a task seals this block at this place
abbrev pub SealsNext : OBlock → Option CBlock → Option (Job × Plan) → Type 0
SealsNext block place None = ⊥
SealsNext block place (Some doing) = (dirty : Bool) × (want doing.1 ≡ Cell (Seal block place dirty))

-- so does that of one of these actors
abbrev pub SomebodySeals : List Actor → OBlock → Option CBlock → Type 0
SomebodySeals actors block place = (a : ℕ) × ((x : Actor) × (slice_get actors a ≡ Some x) × SealsNext block place x.task)

-- The seal of a block tells where these entries have it; or whoever has just mapped or unmapped it seals it so next.
abbrev pub Tells : Words → List (Option Entry) → List Actor → OBlock → Type 0
Tells words entries actors block = (number_of (place_in (word_at words.seals block)) ≡ place_of entries block.0)
    ⊎ ((place : Option CBlock) × (number_of place ≡ place_of entries block.0) × SomebodySeals actors block place)

-- where a target stands this holds of every block
pub record SealsTell {P A : Type 0} (w : State P A) : Type 0 where
  pub tells : (t : Target P) → w.phase ≡ Stands t → (block : OBlock) → Tells t.words t.desk.tree.entries w.actors block

-- so it is after every run
abbrev pub SealsTellPlaces : (P A : Type 0) → Type 0
SealsTellPlaces P A = InEveryRun P A (λ shape metadata hs. SealsTell (after_all shape (start shape metadata) hs))
