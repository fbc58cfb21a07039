-- How the words lie in the table: the fail word, the four statistics, then lock, seal and number of each block.
use Rattle.std.specs.Prelude.{ℕ, ◌+◌, ◌*◌, List, [], ◌∷◌}
use Rattle.wb_words.specs.declared.word.Word.{Word as WordName}
use Rattle.wb_words.specs.declared.word.Word.TheVariants.{Cell as LockWord, Seal as SealWord, Number, Count as CountWord, Fail}
use Rattle.wb_words.specs.SharedWords.{Words, fresh_words, kind_number}

-- where a word lies
abbrev pub index_of : WordName → ℕ
index_of (LockWord b) = 3 * b.0 + 5
index_of (SealWord b) = 3 * b.0 + 6
index_of (Number b) = 3 * b.0 + 7
index_of (CountWord kind) = kind_number kind + 1
index_of Fail = 0

-- one of every three
abbrev pub column : (ℕ → ℕ → ℕ → ℕ) → List ℕ → List ℕ
column pick (cell ∷ seal ∷ number ∷ words) = pick cell seal number ∷ column pick words
column pick _ = []

abbrev pub pick_cell : ℕ → ℕ → ℕ → ℕ
pick_cell cell seal number = cell

abbrev pub pick_seal : ℕ → ℕ → ℕ → ℕ
pick_seal cell seal number = seal

abbrev pub pick_number : ℕ → ℕ → ℕ → ℕ
pick_number cell seal number = number

-- the words by their names
abbrev pub decode : List ℕ → Words
decode (fail ∷ read_hits ∷ read_misses ∷ write_hits ∷ write_misses ∷ blocks) = record {
  cells = column pick_cell blocks;
  seals = column pick_seal blocks;
  numbers = column pick_number blocks;
  read_hits = read_hits;
  read_misses = read_misses;
  write_hits = write_hits;
  write_misses = write_misses;
  fail = fail;
}
decode _ = fresh_words 0
