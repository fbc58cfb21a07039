-- The dirty bits that a suspend sees, by cache block, as the seals of the mapped blocks tell them.
use Rattle.std.specs.Prelude.{ℕ, Bool, List, [], ◌∷◌, Option, Some, None, slice_set}
use Rattle.wb_types.specs.declared.number.CBlock.{CBlock}
use Rattle.wb_words.specs.SharedWords.{place_in, dirty_in}
use Rattle.wb_words.specs.declared.word.Word.TheVariants.{Seal as SealWord}
use Rattle.wb_words.specs.declared.step.CellStep.TheVariants.{Look}
use Rattle.wb_tasks.specs.declared.step.Want.{Want}
use Rattle.wb_tasks.specs.declared.step.Want.TheVariants.{Cell}
use Rattle.wb_tasks.specs.declared.step.Got.{Got}
use Rattle.wb_tasks.specs.declared.step.Got.TheVariants.{Word}

-- a block at this place was seen so; one on the origin has no bit
abbrev pub seen_at : Option CBlock → Bool → List Bool → List Bool
seen_at None dirty seen = seen
seen_at (Some c) dirty seen = slice_set seen c.0 dirty

-- this seal was seen
abbrev pub seen_with : ℕ → List Bool → List Bool
seen_with seal seen = seen_at (place_in seal) (dirty_in seal) seen

-- what a step that gave this has shown
abbrev pub seen_after : Want → Got → List Bool → List Bool
seen_after (Cell (Look (SealWord block))) (Word seal) seen = seen_with seal seen
seen_after want got seen = seen

-- what these steps have shown, one after another
abbrev pub seen_by : List (Want × Got) → List Bool → List Bool
seen_by [] seen = seen
seen_by (step ∷ steps) seen = seen_by steps (seen_after step.0 step.1 seen)
