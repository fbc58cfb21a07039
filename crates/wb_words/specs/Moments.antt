-- What one actor may know of a moment between two steps.
use Rattle.std.specs.Prelude.{◌≡◌, ℕ, List, [], ◌∷◌, Some, slice_get}
use Rattle.wb_words.specs.SharedWords.{Words}
use Rattle.wb_words.specs.declared.card.Card.{Card}
use Rattle.wb_words.specs.Rule.{LockRule}

-- The words and the cards of all actors, this one's among them: they meet the rule. Who is alone has the only card.
pub record Moment (blocks : ℕ) (alone : Type 0) (card : Card) : Type 0 where
  pub words : Words
  pub cards : List Card
  pub place : ℕ
  pub here : slice_get cards place ≡ Some card
  pub rule : LockRule blocks words cards
  pub only : alone → cards ≡ card ∷ []
