-- The words of a text, by its parts round the first space.
use Rattle.std.proofs.Common.{◌≡◌, ◌<◌, ℕ, Bool, List, [], ◌∷◌, length, cond, filter, eqb, ◌∙◌, ap, arith}
use Rattle.std.specs.List.{slice_split, position_or_len, before_first, after_first}
use Rattle.std.proofs.lemmas.List.Splits.{slice_split_first, slice_split_none}
use Rattle.std.proofs.lemmas.List.Sums.{fails_before_first}
use Rattle.std.proofs.lemmas.Bool.{lt-ltb}
use Rattle.wb_table.specs.Words.{is_filled, words_of}

-- a part that is a word
filter-filled : (part : List ℕ) (parts : List (List ℕ)) → 0 < length part → filter is_filled (part ∷ parts) ≡ part ∷ filter is_filled parts
filter-filled part parts h = ap (λ b. cond b (part ∷ filter is_filled parts) (filter is_filled parts)) (lt-ltb 0 (length part) h)

abbrev pub is_space : ℕ → Bool
is_space b = eqb b 32

-- a word, and a space behind it
pub words_of-word : (text word rest : List ℕ) → position_or_len is_space text < length text → word ≡ before_first is_space text → rest ≡ after_first is_space text → 0 < length word → words_of text ≡ word ∷ words_of rest
words_of-word text word rest h w r l =
    rw (w, r) (ap (filter is_filled) (slice_split_first is_space text 0 h)
    ∙ filter-filled (before_first is_space text) (slice_split is_space (after_first is_space text)) (rw w at l))

-- a word with no space behind it
pub words_of-last : (text : List ℕ) → position_or_len is_space text ≡ length text → 0 < length text → words_of text ≡ text ∷ []
words_of-last text e l =
    ap (filter is_filled) (slice_split_none is_space text (λ k d h. fails_before_first is_space text k d (omega arith)))
    ∙ filter-filled text [] l
