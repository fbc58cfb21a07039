-- The words of a text.
use Rattle.std.specs.Prelude.{ℕ, Bool, List, nat_lt, filter, length, ◌==◌}
use Rattle.std.specs.List.{slice_split}

-- whether a part of a text has a byte
abbrev pub is_filled : List ℕ → Bool
is_filled part = nat_lt 0 (length part)

-- the words of a text: its parts between spaces, without the empty ones
abbrev pub words_of : List ℕ → List (List ℕ)
words_of text = filter is_filled (slice_split (λ byte. byte == 32) text)
