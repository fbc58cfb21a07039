-- The shared words: what there are, and what a lock word and a seal tell.
use Rattle.std.specs.Prelude.{◌≡◌, ◌+◌, ◌-◌, ◌*◌, ◌/◌, ◌^◌, ◌%◌, ◌&&◌, ◌==◌, ◌<◌, ℕ, zero, suc, Bool, true, false, List, [], ◌∷◌, Option, Some, None, slice_get, slice_set, unwrap_or, if◌then◌else◌, cond, nat_lt, replicate}
use Rattle.std.specs.Int.{bit_at}
use Rattle.wb_types.specs.declared.number.OBlock.{OBlock}
use Rattle.wb_types.specs.declared.number.CBlock.{CBlock}
use Rattle.wb_words.specs.declared.word.Access.{Access}
use Rattle.wb_words.specs.declared.word.Access.TheVariants.{Shared, Owned}
use Rattle.wb_words.specs.declared.word.Kind.{Kind}
use Rattle.wb_words.specs.declared.word.Kind.TheVariants.{ReadHit, ReadMiss, WriteHit, WriteMiss}
use Rattle.wb_words.specs.declared.word.FailBit.{FailBit}
use Rattle.wb_words.specs.declared.word.FailBit.TheVariants.{Failed, Suspended}
use Rattle.wb_words.specs.declared.word.Word.{Word as WordName}
use Rattle.wb_words.specs.declared.word.Word.TheVariants.{Cell as LockWord, Seal as SealWord, Number, Count as CountWord, Fail}

-- the shared words: three lists by origin block, four statistics, and the fail word
pub record Words : Type 0 where
  pub cells : List ℕ
  pub seals : List ℕ
  pub numbers : List ℕ
  pub read_hits : ℕ
  pub read_misses : ℕ
  pub write_hits : ℕ
  pub write_misses : ℕ
  pub fail : ℕ

-- at an opening of so many blocks, with nothing cached
abbrev pub fresh_words : ℕ → Words
fresh_words blocks = record {
  cells = replicate blocks 0;
  seals = replicate blocks 0;
  numbers = replicate blocks 0;
  read_hits = 0;
  read_misses = 0;
  write_hits = 0;
  write_misses = 0;
  fail = 0;
}

-- the word of a block, 0 past the last one
abbrev pub word_at : List ℕ → OBlock → ℕ
word_at words block = unwrap_or (slice_get words block.0) 0

abbrev pub count_in : Words → Kind → ℕ
count_in words ReadHit = words.read_hits
count_in words ReadMiss = words.read_misses
count_in words WriteHit = words.write_hits
count_in words WriteMiss = words.write_misses

-- what a look at a word gives
abbrev pub value_of : Words → WordName → ℕ
value_of words (LockWord block) = word_at words.cells block
value_of words (SealWord block) = word_at words.seals block
value_of words (Number block) = word_at words.numbers block
value_of words (CountWord kind) = count_in words kind
value_of words Fail = words.fail

abbrev pub kind_number : Kind → ℕ
kind_number ReadHit = 0
kind_number ReadMiss = 1
kind_number WriteHit = 2
kind_number WriteMiss = 3

-- that there is such a word among those of n blocks
abbrev pub IsWord : ℕ → WordName → Type 0
IsWord n (LockWord b) = b.0 < n
IsWord n (SealWord b) = b.0 < n
IsWord n (Number b) = b.0 < n
IsWord n (CountWord kind) = Unit {0}
IsWord n Fail = Unit {0}

-- one more, in 64 bits
abbrev pub one_more : ℕ → ℕ
one_more n = (n + 1) % 2 ^ 64

-- Whether a block with this lock word can be taken: shared where nobody owns it and there is room for one sharer
-- more, owned where nobody has it.
abbrev pub can_take : Access → ℕ → Bool
can_take Shared word = (word % 2 == 0) && nat_lt word (2 ^ 21 - 2)
can_take Owned word = word == 0

-- the lock word after a block was taken, from the one before
abbrev pub taken : Access → ℕ → ℕ
taken Shared cell = cell + 2
taken Owned cell = 1

-- the lock word after a block was given back
abbrev pub given_back : Access → ℕ → ℕ
given_back Shared cell = cell - 2
given_back Owned cell = 0

-- the words with another lock word of this block; nothing past the last one
abbrev pub with_cell : Words → OBlock → ℕ → Words
with_cell words block cell = record words { cells = slice_set words.cells block.0 cell }

-- the words with another value of one of them
abbrev pub put : Words → WordName → ℕ → Words
put words (LockWord b) x = with_cell words b x
put words (SealWord b) x = record words { seals = slice_set words.seals b.0 x }
put words (Number b) x = record words { numbers = slice_set words.numbers b.0 x }
put words (CountWord ReadHit) x = record words { read_hits = x }
put words (CountWord ReadMiss) x = record words { read_misses = x }
put words (CountWord WriteHit) x = record words { write_hits = x }
put words (CountWord WriteMiss) x = record words { write_misses = x }
put words Fail x = record words { fail = x }

abbrev pub counted : Words → Kind → Words
counted words ReadHit = record words { read_hits = one_more words.read_hits }
counted words ReadMiss = record words { read_misses = one_more words.read_misses }
counted words WriteHit = record words { write_hits = one_more words.write_hits }
counted words WriteMiss = record words { write_misses = one_more words.write_misses }

-- The seal of a block that stands at this place: nowhere but on the origin, or in a cache block; and whether that
-- copy is dirty.

abbrev pub place_number : Option CBlock → ℕ
place_number None = 0
place_number (Some c) = c.0 + 1

abbrev pub seal_word : Option CBlock → Bool → ℕ
seal_word place dirty = 2 * place_number place + cond dirty 1 0

-- What a seal tells. A place past every number of a cache block is none.

abbrev pub cached_at : ℕ → Option CBlock
cached_at zero = None
cached_at (suc place) = if nat_lt place (2 ^ 32) then Some (record { 0 = place }) else None

abbrev pub place_in : ℕ → Option CBlock
place_in seal = cached_at (seal / 2)

abbrev pub flag : ℕ → Bool
flag zero = false
flag (suc n) = true

abbrev pub dirty_in : ℕ → Bool
dirty_in seal = flag (seal % 2)

-- The fail word after so many failures and suspensions were told: bit 0 failed, bit 1 suspended.
abbrev pub fail_word : ℕ → ℕ → ℕ
fail_word failures suspensions = cond (flag failures) 1 0 + cond (flag suspensions) 2 0

abbrev pub bit_word : FailBit → ℕ
bit_word Failed = 1
bit_word Suspended = 2

abbrev pub bit_number : FailBit → ℕ
bit_number Failed = 0
bit_number Suspended = 1

-- a fail word with all these bits
abbrev pub HasBits : ℕ → List FailBit → Type 0
HasBits word [] = Unit {0}
HasBits word (bit ∷ bits) = (bit_at word (bit_number bit) ≡ 1) × HasBits word bits
