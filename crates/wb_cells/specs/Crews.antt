-- What a caller sees of a crew.
use Rattle.std.specs.Prelude.{◌≡◌, ℕ, List, Some, slice_set, slice_index_or}
use Rattle.wb_words.specs.SharedWords.{Words}
use Rattle.wb_words.specs.declared.card.Card.{Card}
use Rattle.wb_cells.specs.declared.view.View.{View}
use Rattle.wb_words.specs.Cards.{blank_card}
use Rattle.wb_words.specs.Effects.{words_after, card_after}
use Rattle.wb_words.specs.Rule.{LockRule}
use Rattle.wb_words.specs.declared.step.CellStep.{CellStep}
use Rattle.wb_cells.specs.Fractions.{IsWhole}
use Rattle.wb_cells.specs.Views.{words_or, known_words}

-- all words, and each actor's card
pub record CrewState : Type 0 where
  pub blocks : ℕ
  pub words : Words
  pub cards : List Card

-- the card of an actor
abbrev pub card_of : CrewState → ℕ → Card
card_of crew actor = slice_index_or crew.cards actor blank_card

-- a seat that has the whole and knows all words
pub record IsCrew (n : ℕ) (v : View) : Type 0 where
  pub all : IsWhole v.fraction
  pub sized : v.blocks ≡ n
  pub known : v.words ≡ Some (words_or v.words)
  pub rule : LockRule n (known_words v) v.cards

-- a crew after a step of one of its actors
abbrev pub crew_after : CrewState → ℕ → CellStep → CrewState
crew_after crew actor step = record crew { words = words_after crew.words step; cards = slice_set crew.cards actor (card_after crew.words step (card_of crew actor)) }
