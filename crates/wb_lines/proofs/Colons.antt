-- The parts of a word round its first colon.
use Rattle.std.proofs.Common.{◌≡◌, ◌<◌, ℕ, Bool, List, [], ◌∷◌, length, eqb, arith}
use Rattle.std.specs.List.{position_or_len, before_first, after_first}
use Rattle.std.proofs.lemmas.List.Splits.{slice_split_first, slice_split_none}
use Rattle.std.proofs.lemmas.List.Sums.{fails_before_first}
use Rattle.wb_lines.specs.Lines.{parts_of}

abbrev pub is_colon : ℕ → Bool
is_colon b = eqb b 58

-- a part, and a colon behind it
pub parts_of-cut : (word first rest : List ℕ) → position_or_len is_colon word < length word → first ≡ before_first is_colon word → rest ≡ after_first is_colon word → parts_of word ≡ first ∷ parts_of rest
parts_of-cut word first rest h f r = rw (f, r) (slice_split_first is_colon word 0 h)

-- no colon
pub parts_of-whole : (word : List ℕ) → position_or_len is_colon word ≡ length word → parts_of word ≡ word ∷ []
parts_of-whole word e = slice_split_none is_colon word (λ k d h. fails_before_first is_colon word k d (omega arith))
