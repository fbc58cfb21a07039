-- Counters and doorkeeper as they are packed into words.
use Rattle.std.specs.Prelude.{◌*◌, ◌/◌, ◌%◌, ◌^◌, ◌==◌, ℕ, Bool, List, length, map, slice_index}
use Rattle.std.specs.List.{range_with_len}
use Rattle.std.specs.Int.{bit_at}

-- Small values that stand in words, so many a word: each is read from its word by its number there.
unfoldable pub values_in : {X : Type 0} → (ℕ → ℕ → X) → ℕ → List ℕ → List X
values_in value_in per_word words =
    map (λ place. value_in (slice_index words (place / per_word)) (place % per_word)) (range_with_len 0 (per_word * length words))

-- a counter of a word: number 0 stands in its lowest four bits, number 15 in its highest
unfoldable pub counter_in : ℕ → ℕ → ℕ
counter_in word number = word / 2 ^ (4 * number) % 16

-- the counters of a row: sixteen in each of its words
abbrev pub counters_in : List ℕ → List ℕ
counters_in words = values_in counter_in 16 words

-- a mark of a word: number 0 is the lowest bit
unfoldable pub mark_in : ℕ → ℕ → Bool
mark_in word number = bit_at word number == 1

-- the marks of a doorkeeper: sixty-four in each of its words
abbrev pub marks_in : List ℕ → List Bool
marks_in words = values_in mark_in 64 words
