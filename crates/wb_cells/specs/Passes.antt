-- What a caller sees of cells and of passes.
use Rattle.std.specs.Prelude.{◌≡◌, ℕ, ◌+◌, ◌*◌, ◌%◌, ◌^◌, ◌<◌, ◌⊎◌, List, [], ◌∷◌}
use Rattle.atomic_table.specs.Seated.{TableId}
use Rattle.atomic_table.specs.Table.{Me}
use Rattle.wb_words.specs.declared.word.FailBit.{FailBit}
use Rattle.wb_words.specs.declared.word.FailBit.TheVariants.{Failed, Suspended}
use Rattle.wb_words.specs.declared.word.Word.{Word as WordName}
use Rattle.wb_words.specs.declared.word.Word.TheVariants.{Cell as LockWord, Seal as SealWord, Number, Count as CountWord, Fail}
use Rattle.wb_words.specs.declared.card.Card.{Card}
use Rattle.wb_cells.specs.declared.view.Fraction.{Fraction}
use Rattle.wb_cells.specs.declared.view.View.{View}
use Rattle.wb_words.specs.declared.step.CellStep.{CellStep}
use Rattle.wb_words.specs.declared.step.CellStep.TheVariants.{Look, Take, SetFailed, SetSuspended}
use Rattle.wb_words.specs.declared.step.CellResult.{CellResult}
use Rattle.wb_words.specs.SharedWords.{Words, HasBits, value_of, fail_word}
use Rattle.wb_words.specs.Effects.{result_of, card_after}
use Rattle.wb_words.specs.Looks.{Finds}
use Rattle.wb_words.specs.Moments.{Moment}
use Rattle.wb_words.specs.Cards.{writes_on, counts_of, sharers, owners, seals_on, ends, times_set}
use Rattle.wb_cells.specs.Fractions.{IsWhole}
use Rattle.wb_cells.specs.Moves.{card_at}

-- which words they are, and of how many blocks
pub record CellsState : Type 0 where
  pub table : TableId
  pub blocks : ℕ

-- The words that it is for, its part of the whole, its card, and the bits of the fail word that were set by it or by a
-- pass that it came from.
pub record PassState : Type 0 where
  pub table : TableId
  pub fraction : Fraction
  pub card : Card
  pub failed : List FailBit

abbrev pub pass_state : TableId → Me ℕ View → PassState
pass_state table me = record { table = table; fraction = me.0.fraction; card = card_at 0 me.0; failed = me.0.fail }

-- a seat of one card, which carries nothing else
pub record IsPass (words : ℕ) (me : Me ℕ View) : Type 0 where
  pub one : me.0.cards ≡ card_at 0 me.0 ∷ []
  pub sized : words ≡ 3 * me.0.blocks + 5
  pub bare : me.1 ≡ []

-- A lock word counts this one card alone; a seal word is 0 where it never sealed the block, else
-- the newest seal on it in one of its logs; a number word, or a statistics
-- word, is what it has added to it; the fail word has the bits that it set.
abbrev pub IsSum : WordName → ℕ → Card → Type 0
IsSum (LockWord b) x card = x ≡ 2 * sharers b.0 card + owners b.0 card
IsSum (SealWord b) x card = ((x ≡ 0) × (seals_on b.0 card ≡ 0)) ⊎ (0 < ends b.0 x card)
IsSum (Number b) x card = x ≡ writes_on b.0 card
IsSum (CountWord kind) x card = x ≡ counts_of kind card % 2 ^ 64
IsSum Fail x card = x ≡ fail_word (times_set Failed card) (times_set Suspended card)

-- What one card owns, or kept at a failure, another neither owns, nor kept, nor shares.
abbrev pub Excludes : ℕ → Card → Card → Type 0
Excludes blocks card other = (b : ℕ) → b < blocks → 0 < owners b card → (owners b other ≡ 0) × (sharers b other ≡ 0)

-- ---- a step of any kind

-- the words of a moment at which the rule of all words held, this pass's card among all
abbrev pub AreOfMoment : ℕ → PassState → Words → Type 0
AreOfMoment blocks pass words = (at : Moment blocks (IsWhole pass.fraction) pass.card) × (words ≡ at.words)

-- What a look finds is what is known; at the fail word each bit that was set by the pass or by one that it came from; and who
-- has the whole finds what its card counts for.
abbrev pub IsFound : WordName → ℕ → PassState → Type 0
IsFound word x pass = Finds word x pass.card × (word ≡ Fail → HasBits x pass.failed) × (IsWhole pass.fraction → IsSum word x pass.card)

-- The words on which a step was made: those of a moment, where it looks or exchanges; no other step tells of them.
abbrev pub AreMetBy : ℕ → PassState → CellStep → Words → Type 0
AreMetBy blocks pass (Look word) words = AreOfMoment blocks pass words × IsFound word (value_of words word) pass
AreMetBy blocks pass (Take access block seen) words = AreOfMoment blocks pass words
AreMetBy blocks pass step words = Unit {0}

-- the bits that were set, after a step
abbrev pub bits_after : CellStep → List FailBit → List FailBit
bits_after SetFailed failed = Failed ∷ failed
bits_after SetSuspended failed = Suspended ∷ failed
bits_after step failed = failed

-- A step by a pass gives, and makes of its card, what such a step does on the words that it met.
pub record StepsBy (blocks : ℕ) (pass : PassState) (step : CellStep) (result : CellResult) (pass' : PassState) : Type 0 where
  pub words : Words
  pub met : AreMetBy blocks pass step words
  pub result_is : result ≡ result_of words step
  pub pass_is : pass' ≡ record pass { card = card_after words step pass.card; failed = bits_after step pass.failed }
