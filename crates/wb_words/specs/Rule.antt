-- The rule of the shared words: what each word is, over the cards of all actors.
use Rattle.std.specs.Prelude.{◌≡◌, ◌⊎◌, ℕ, ◌+◌, ◌*◌, ◌%◌, ◌^◌, ◌<◌, ◌≤◌, List, [], ◌∷◌, length, Some}
use mathlib.Core.Option.{some}
use lib.ListN.{get_elem?}
use Rattle.wb_types.specs.declared.number.OBlock.{OBlock}
use Rattle.wb_words.specs.declared.word.Access.{Access}
use Rattle.wb_words.specs.declared.word.FailBit.TheVariants.{Failed, Suspended}
use Rattle.wb_words.specs.declared.word.Kind.{Kind}
use Rattle.wb_words.specs.declared.word.Word.{Word as WordName}
use Rattle.wb_words.specs.declared.word.Word.TheVariants.{Cell as LockWord, Seal as SealWord, Number, Count as CountWord, Fail}
use Rattle.wb_words.specs.SharedWords.{Words, word_at, count_in, fail_word}
use Rattle.wb_words.specs.declared.card.Hold.TheVariants.{Held}
use Rattle.wb_words.specs.declared.card.Card.{Card}
use Rattle.wb_words.specs.Cards.{total, is_block, sharers, owners, writes_on, counts_of, stores, seals_on, ends, shared_of, owned_of, times_set}

abbrev pub block : ℕ → OBlock
block b = record { 0 = b }

-- A lock word, the number of sharers and the number of owners: one owns at most, nobody shares while one owns.
pub record IsLock (word sharing owning : ℕ) : Type 0 where
  pub is : word ≡ 2 * sharing + owning
  pub one : owning < 2
  pub apart : 0 < owning → sharing ≡ 0
  pub room : sharing < 1048576

-- a number that was seen is not above the word
abbrev pub SawNoMore : Words → WordName → ℕ → Type 0
SawNoMore words (LockWord b) x = Unit {0}
SawNoMore words (SealWord b) x = Unit {0}
SawNoMore words (Number b) x = x ≤ word_at words.numbers b
SawNoMore words (CountWord kind) x = Unit {0}
SawNoMore words Fail x = Unit {0}

abbrev pub AllSawNoMore : Words → List (WordName × ℕ) → Type 0
AllSawNoMore words [] = Unit {0}
AllSawNoMore words (look ∷ looks) = SawNoMore words look.0 look.1 × AllSawNoMore words looks

-- what a card knows is so
pub record Knows (words : Words) (card : Card) : Type 0 where
  pub seal : (access : Access) (b : OBlock) (x : ℕ) → card.hold ≡ Held access b → card.seal ≡ Some x → word_at words.seals b ≡ x
  pub number : (access : Access) (b : OBlock) (x : ℕ) → card.hold ≡ Held access b → card.number ≡ Some x → word_at words.numbers b ≡ x
  pub saw : AllSawNoMore words card.saw

-- A lock word that there can have been: no more sharers than took the block to share it, no owner where none took it to own it.
pub record WasLock (cards : List Card) (b x : ℕ) : Type 0 where
  pub sharing : ℕ
  pub owning : ℕ
  pub lock : IsLock x sharing owning
  pub shared : sharing ≤ total (shared_of b) cards
  pub owned : owning ≤ total (owned_of b) cards

-- a seal word that there can have been: 0, or one that some card stored
abbrev pub WasSeal : List Card → ℕ → ℕ → Type 0
WasSeal cards b x = (x ≡ 0) ⊎ (0 < total (stores b x) cards)

-- the seal word of a block: 0 where no card ever sealed it, else the newest seal on it in some log
abbrev pub IsLast : List Card → ℕ → ℕ → Type 0
IsLast cards b x = ((x ≡ 0) × (total (seals_on b) cards ≡ 0)) ⊎ (0 < total (ends b x) cards)

-- a fail word that there can have been: only bits that some card set
pub record WasFail (cards : List Card) (x : ℕ) : Type 0 where
  pub failures : ℕ
  pub suspensions : ℕ
  pub is : x ≡ fail_word failures suspensions
  pub failed : failures ≤ total (times_set Failed) cards
  pub suspended : suspensions ≤ total (times_set Suspended) cards

-- what a look at a word may have found; of numbers `Knows` says it
abbrev pub MayHaveFound : List Card → WordName → ℕ → Type 0
MayHaveFound cards (LockWord b) x = WasLock cards b.0 x
MayHaveFound cards (SealWord b) x = WasSeal cards b.0 x
MayHaveFound cards (Number b) x = Unit {0}
MayHaveFound cards (CountWord kind) x = (n : ℕ) × (n ≤ total (counts_of kind) cards) × (x ≡ n % 2 ^ 64)
MayHaveFound cards Fail x = WasFail cards x

abbrev pub LooksAllowed : List Card → List (WordName × ℕ) → Type 0
LooksAllowed cards [] = Unit {0}
LooksAllowed cards (look ∷ looks) = MayHaveFound cards look.0 look.1 × LooksAllowed cards looks

abbrev pub LossesAllowed : List Card → List (OBlock × ℕ) → Type 0
LossesAllowed cards [] = Unit {0}
LossesAllowed cards (loss ∷ losses) = WasLock cards loss.0.0 loss.1 × LossesAllowed cards losses

-- What a card notes: looks and losses as there can have been, what it holds taken, a seal on no block but one that it took to own, and a block kept only where it set a bit.
pub record NotesWhatWas (cards : List Card) (card : Card) : Type 0 where
  pub looks : LooksAllowed cards card.saw
  pub losses : LossesAllowed cards card.lost
  pub shared : (b : ℕ) → sharers b card ≤ shared_of b card
  pub owned : (b : ℕ) → owners b card ≤ owned_of b card
  pub sealed : (b : ℕ) → 0 < seals_on b card → 0 < owned_of b card
  pub kept : (b : ℕ) → total (is_block b) card.kept ≤ times_set Failed card + times_set Suspended card

-- The seal and fail words and the logs of all cards: a seal word is 0 or the newest that some log has, the fail word has the bits that some card set.
pub record LogRule (n : ℕ) (words : Words) (cards : List Card) : Type 0 where
  pub seals : (b : ℕ) → b < n → IsLast cards b (word_at words.seals (block b))
  pub fail : words.fail ≡ fail_word (total (times_set Failed) cards) (total (times_set Suspended) cards)
  pub notes : (p : ℕ) (card : Card) → get_elem? cards p ≡ some card → NotesWhatWas cards card

-- The words of n blocks and all cards. Each lock word counts its sharers and its owner, those that kept it at a failure
-- among them; each number is the sum of the writes finished on its block, each statistics word that of the counts.
pub record LockRule (n : ℕ) (words : Words) (cards : List Card) : Type 0 where
  pub cells_are : length words.cells ≡ n
  pub seals_are : length words.seals ≡ n
  pub numbers_are : length words.numbers ≡ n
  pub cells : (b : ℕ) → b < n → IsLock (word_at words.cells (block b)) (total (sharers b) cards) (total (owners b) cards)
  pub numbers : (b : ℕ) → b < n → word_at words.numbers (block b) ≡ total (writes_on b) cards
  pub fits : (b : ℕ) → b < n → word_at words.numbers (block b) < 2 ^ 64
  pub counts : (kind : Kind) → count_in words kind ≡ total (counts_of kind) cards % 2 ^ 64
  pub knows : (p : ℕ) (card : Card) → get_elem? cards p ≡ some card → Knows words card
  pub logs : LogRule n words cards
