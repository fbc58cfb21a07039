-- What a look at a word finds.
use Rattle.std.specs.Prelude.{◌≡◌, ℕ, ◌≤◌, List, [], ◌∷◌, Some}
use Rattle.wb_types.specs.declared.number.OBlock.{OBlock}
use Rattle.wb_words.specs.declared.word.Access.{Access}
use Rattle.wb_words.specs.declared.word.Word.{Word as WordName}
use Rattle.wb_words.specs.declared.word.Word.TheVariants.{Seal as SealWord, Number}
use Rattle.wb_words.specs.declared.card.Hold.TheVariants.{Held}
use Rattle.wb_words.specs.declared.card.Card.{Card}

-- no number of the block that was seen is above x
abbrev pub SawAtMost : OBlock → ℕ → List (WordName × ℕ) → Type 0
SawAtMost b x [] = Unit {0}
SawAtMost b x (look ∷ looks) = (look.0 ≡ Number b → look.1 ≤ x) × SawAtMost b x looks

-- What a look finds: a word that is known, and no less than any number that was seen.
pub record Finds (word : WordName) (x : ℕ) (card : Card) : Type 0 where
  pub seal : (access : Access) (b : OBlock) (y : ℕ) → card.hold ≡ Held access b → word ≡ SealWord b → card.seal ≡ Some y → x ≡ y
  pub number : (access : Access) (b : OBlock) (y : ℕ) → card.hold ≡ Held access b → word ≡ Number b → card.number ≡ Some y → x ≡ y
  pub grows : (b : OBlock) → word ≡ Number b → SawAtMost b x card.saw
