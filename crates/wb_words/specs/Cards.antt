-- What a card counts for, and what each kind of step makes of it.
use Rattle.std.specs.Prelude.{ℕ, ◌+◌, ◌==◌, Bool, false, cond, List, [], ◌∷◌, ◌++◌, Some, None, Option, option_map}
use Rattle.wb_types.specs.declared.number.OBlock.{OBlock}
use Rattle.wb_words.specs.declared.word.Access.{Access}
use Rattle.wb_words.specs.declared.word.Access.TheVariants.{Shared, Owned}
use Rattle.wb_words.specs.declared.word.FailBit.{FailBit}
use Rattle.wb_words.specs.declared.word.FailBit.TheVariants.{Failed, Suspended}
use Rattle.wb_words.specs.declared.word.Kind.{Kind}
use Rattle.wb_words.specs.declared.word.Word.{Word as WordName}
use Rattle.wb_words.specs.declared.word.Word.TheVariants.{Cell as LockWord, Seal as SealWord, Number, Count as CountWord, Fail}
use Rattle.wb_words.specs.declared.card.Hold.{Hold}
use Rattle.wb_words.specs.declared.card.Hold.TheVariants.{Nothing, Held}
use Rattle.wb_words.specs.declared.card.Card.{Card}
use Rattle.wb_words.specs.SharedWords.{kind_number}

-- who holds nothing, and has done nothing
abbrev pub blank_card : Card
blank_card = record { hold = Nothing; seal = None; number = None; kept = []; added = []; stored = []; took = []; set = []; saw = []; lost = [] }

abbrev pub total : {A : Type 0} → (A → ℕ) → List A → ℕ
total f [] = 0
total f (x ∷ xs) = f x + total f xs

-- 1 for the block b, else 0
abbrev pub is_block : ℕ → OBlock → ℕ
is_block b a = cond (a.0 == b) 1 0

abbrev pub shares : ℕ → Hold → ℕ
shares b Nothing = 0
shares b (Held Shared a) = is_block b a
shares b (Held Owned a) = 0

abbrev pub owns : ℕ → Hold → ℕ
owns b Nothing = 0
owns b (Held Shared a) = 0
owns b (Held Owned a) = is_block b a

-- how many sharers of the block b a card is, 0 or 1
abbrev pub sharers : ℕ → Card → ℕ
sharers b card = shares b card.hold

-- how often a card owns the block b, or kept it at a failure
abbrev pub owners : ℕ → Card → ℕ
owners b card = owns b card.hold + total (is_block b) card.kept

abbrev pub count_of_write : ℕ → WordName → ℕ
count_of_write b (LockWord a) = 0
count_of_write b (SealWord a) = 0
count_of_write b (Number a) = is_block b a
count_of_write b (CountWord kind) = 0
count_of_write b Fail = 0

abbrev pub is_count : Kind → WordName → ℕ
is_count kind (LockWord a) = 0
is_count kind (SealWord a) = 0
is_count kind (Number a) = 0
is_count kind (CountWord other) = cond (kind_number other == kind_number kind) 1 0
is_count kind Fail = 0

-- the writes that a card finished on the block b
abbrev pub writes_on : ℕ → Card → ℕ
writes_on b card = total (count_of_write b) card.added

-- what a card counted of a kind
abbrev pub counts_of : Kind → Card → ℕ
counts_of kind card = total (is_count kind) card.added

-- 1 for this seal on the block b, else 0
abbrev pub is_seal : ℕ → ℕ → OBlock × ℕ → ℕ
is_seal b x stored = cond (stored.0.0 == b) (cond (stored.1 == x) 1 0) 0

-- how often this seal on the block b is in a log
abbrev pub seal_times : ℕ → ℕ → List (OBlock × ℕ) → ℕ
seal_times b x log = total (is_seal b x) log

-- how often any seal is there on it
abbrev pub seal_count : ℕ → List (OBlock × ℕ) → ℕ
seal_count b log = total (λ (stored : OBlock × ℕ). is_block b stored.0) log

-- the newest seal on the block b in a log
abbrev pub newest_seal : ℕ → List (OBlock × ℕ) → Option ℕ
newest_seal b [] = None
newest_seal b (stored ∷ log) = cond (stored.0.0 == b) (Some stored.1) (newest_seal b log)

-- 1 where x is there, else 0
abbrev pub is_there : ℕ → Option ℕ → ℕ
is_there x None = 0
is_there x (Some y) = cond (y == x) 1 0

abbrev pub is_newest : ℕ → ℕ → List (OBlock × ℕ) → ℕ
is_newest b x log = is_there x (newest_seal b log)

-- how often a card stored this seal on the block b
abbrev pub stores : ℕ → ℕ → Card → ℕ
stores b x card = total (seal_times b x) card.stored

-- how often it stored any seal there
abbrev pub seals_on : ℕ → Card → ℕ
seals_on b card = total (seal_count b) card.stored

-- in how many of its logs this seal is the newest there: the one seal that it stored there last, where it has one log
abbrev pub ends : ℕ → ℕ → Card → ℕ
ends b x card = total (is_newest b x) card.stored

abbrev pub is_share : ℕ → Access × OBlock → ℕ
is_share b took = shares b (Held took.0 took.1)

abbrev pub is_own : ℕ → Access × OBlock → ℕ
is_own b took = owns b (Held took.0 took.1)

-- how often a card took the block b to share it
abbrev pub shared_of : ℕ → Card → ℕ
shared_of b card = total (is_share b) card.took

-- how often it took the block b to own it
abbrev pub owned_of : ℕ → Card → ℕ
owned_of b card = total (is_own b) card.took

abbrev pub is_bit : FailBit → FailBit → ℕ
is_bit Failed Failed = 1
is_bit Suspended Suspended = 1
is_bit _ _ = 0

-- how often a card set a bit of the fail word
abbrev pub times_set : FailBit → Card → ℕ
times_set bit card = total (is_bit bit) card.set

abbrev pub is_own_seal : Hold → WordName → Bool
is_own_seal (Held access b) (SealWord a) = a.0 == b.0
is_own_seal _ _ = false

abbrev pub is_own_number : Hold → WordName → Bool
is_own_number (Held access b) (Number a) = a.0 == b.0
is_own_number _ _ = false

-- one look more, which found x
abbrev pub looked : WordName → ℕ → Card → Card
looked word x card = record card {
  seal = cond (is_own_seal card.hold word) (Some x) card.seal;
  number = cond (is_own_number card.hold word) (Some x) card.number;
  saw = (word, x) ∷ card.saw;
}

-- one loss more, of an exchange that found x
abbrev pub losing : OBlock → ℕ → Card → Card
losing b x card = record card { lost = (b, x) ∷ card.lost }

-- the log of what was taken, where this is held now
abbrev pub with_hold : Hold → List (Access × OBlock) → List (Access × OBlock)
with_hold Nothing took = took
with_hold (Held access b) took = (access, b) ∷ took

-- a block is taken, of which nothing is known yet, or given back
abbrev pub holding : Hold → Card → Card
holding hold card = record card { hold = hold; seal = None; number = None; took = with_hold hold card.took }

-- the newest of the logs with one seal more
abbrev pub with_seal : OBlock → ℕ → List (List (OBlock × ℕ)) → List (List (OBlock × ℕ))
with_seal b seal [] = ((b, seal) ∷ []) ∷ []
with_seal b seal (log ∷ logs) = ((b, seal) ∷ log) ∷ logs

-- a seal that it stored on a block, which it knows then
abbrev pub sealing : OBlock → ℕ → Card → Card
sealing b seal card = record card { seal = Some seal; stored = with_seal b seal card.stored }

abbrev pub finishing : OBlock → Card → Card
finishing b card = record card { number = option_map (λ n. n + 1) card.number; added = Number b ∷ card.added }

abbrev pub counting : Kind → Card → Card
counting kind card = record card { added = CountWord kind ∷ card.added }

-- who sets a bit of the fail word keeps what it owns
abbrev pub failing_at : Hold → Card → Card
failing_at Nothing card = card
failing_at (Held Shared b) card = card
failing_at (Held Owned b) card = record card { hold = Nothing; seal = None; number = None; kept = b ∷ card.kept }

abbrev pub failing : FailBit → Card → Card
failing bit card = record (failing_at card.hold card) { set = bit ∷ card.set }

-- what two cards that hold nothing know together
abbrev pub merged : Card → Card → Card
merged c d = record { hold = Nothing; seal = None; number = None; kept = c.kept ++ d.kept; added = c.added ++ d.added; stored = c.stored ++ d.stored; took = c.took ++ d.took; set = c.set ++ d.set; saw = c.saw ++ d.saw; lost = c.lost ++ d.lost }
