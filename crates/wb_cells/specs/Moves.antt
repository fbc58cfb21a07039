-- What a step of an actor does to its seat's view.
use Rattle.std.specs.Prelude.{◌≡◌, ℕ, List, ◌++◌, slice_set, slice_get, slice_index_or, Some}
use Rattle.atomic_table.specs.Table.{Me}
use Rattle.wb_words.specs.SharedWords.{Words}
use Rattle.wb_words.specs.declared.word.FailBit.{FailBit}
use Rattle.wb_words.specs.declared.card.Card.{Card}
use Rattle.wb_cells.specs.declared.view.View.{View}
use Rattle.wb_words.specs.Cards.{blank_card}
use Rattle.wb_words.specs.Rule.{LockRule}
use Rattle.wb_cells.specs.Fractions.{IsWhole}
use Rattle.wb_cells.specs.Views.{words_or, known_words}

abbrev pub card_at : ℕ → View → Card
card_at k v = slice_index_or v.cards k blank_card

-- Who has the whole knows all words after a step, and what they were before it.
pub record TellsWords (change : Words → Words → Type 0) (v w : View) : Type 0 where
  pub was : Words
  pub all : w.words ≡ Some (words_or w.words)
  pub changed : change was (known_words w)
  pub rule_was : LockRule v.blocks was v.cards
  pub rule : LockRule v.blocks (known_words w) w.cards
  pub same : v.words ≡ Some (words_or v.words) → was ≡ known_words v

-- The moment of a step: the words before and after it, and the cards of all seats, which met the rule. Who has the whole
-- has them all.
pub record FoundWords (change : Words → Words → Type 0) (k : ℕ) (v : View) : Type 0 where
  pub was : Words
  pub now : Words
  pub changed : change was now
  pub cards : List Card
  pub place : ℕ
  pub here : slice_get cards place ≡ Some (card_at k v)
  pub rule : LockRule v.blocks was cards
  pub only : IsWhole v.fraction → cards ≡ v.cards

-- The card k goes by `how`, and no other changes; `bits` of the fail word were set.
pub record CardMoves (bits : List FailBit) (k : ℕ) (how : Card → Card → Type 0) (change : Words → Words → Type 0) (v w : View) : Type 0 where
  pub card : how (card_at k v) (card_at k w)
  pub others : w.cards ≡ slice_set v.cards k (card_at k w)
  pub fraction : w.fraction ≡ v.fraction
  pub blocks : w.blocks ≡ v.blocks
  pub fail : w.fail ≡ bits ++ v.fail
  pub found : FoundWords change k v
  pub words : IsWhole v.fraction → TellsWords change v w

-- the same of a seat, which carries nothing else
abbrev pub SeatMoves : List FailBit → ℕ → (Card → Card → Type 0) → (Words → Words → Type 0) → Me ℕ View → Me ℕ View → Type 0
SeatMoves bits k how change m after = CardMoves bits k how change m.0 after.0 × (after.1 ≡ m.1)
