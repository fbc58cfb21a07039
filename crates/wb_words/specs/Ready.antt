-- Which steps an actor with this card is ready for, where there are so many blocks.
use Rattle.std.specs.Prelude.{◌≡◌, ◌≢◌, ◌-◌, ◌^◌, ◌<◌, ℕ, true, Option, Some}
use Rattle.wb_words.specs.declared.word.Access.TheVariants.{Owned}
use Rattle.wb_words.specs.declared.card.Hold.TheVariants.{Nothing, Held}
use Rattle.wb_words.specs.declared.card.Card.{Card}
use Rattle.wb_words.specs.declared.step.CellStep.{CellStep}
use Rattle.wb_words.specs.declared.step.CellStep.TheVariants.{Look, Take, Release, Seal, Finish}
use Rattle.wb_words.specs.SharedWords.{IsWord, can_take}

-- a number is known, and there is a next one
abbrev pub HasNext : Option ℕ → Type 0
HasNext known = (number : ℕ) × (known ≡ Some number) × (number ≢ 2 ^ 64 - 1)

-- it has what it gives back, seals or finishes, and takes a block where it has none
abbrev pub IsReady : ℕ → Card → CellStep → Type 0
IsReady blocks card (Look word) = IsWord blocks word
IsReady blocks card (Take access block seen) = (block.0 < blocks) × (card.hold ≡ Nothing) × (can_take access seen ≡ true)
IsReady blocks card (Release access block) = (block.0 < blocks) × (card.hold ≡ Held access block)
IsReady blocks card (Seal block place dirty) = (block.0 < blocks) × (card.hold ≡ Held Owned block)
IsReady blocks card (Finish block) = (block.0 < blocks) × (card.hold ≡ Held Owned block) × HasNext card.number
IsReady blocks card step = Unit {0}
