-- What a word with a dash names.
use Rattle.std.proofs.Common.{◌≡◌, ◌<◌, ℕ, List, [], ◌∷◌, Option, Some, None, IfNone, length, refl, sym, subst}
use Rattle.std.specs.List.{position_or_len, before_first, after_first}
use Rattle.std.proofs.lemmas.Bool.{lt-ltb}
use Rattle.wb_types.specs.declared.message.CBlockRange.{CBlockRange}
use Rattle.wb_table.specs.Messages.{is_dash, NameRanges, NamesCBlocks, NamesParted, NamesSpan}

-- what follows from what holds where there is no value
pub none_maps : {A : Type 0} {P Q : Type 0} (option : Option A) → (P → Q) → IfNone option P → IfNone option Q
none_maps None follows holds = follows holds
none_maps (Some value) follows holds = tt

-- what stands before its dash, and what stands behind it, are begin and end
pub parted_at_dash : (word begin end : List ℕ) (range : CBlockRange) → (position_or_len is_dash word < length word) × (begin ≡ before_first is_dash word) × (end ≡ after_first is_dash word)
    → NamesCBlocks word range → NamesSpan begin end range
parted_at_dash word begin end range cut named =
    let span = subst (λ dash. NamesParted dash word range) (lt-ltb _ _ cut.0) named in
    subst (λ part. NamesSpan part end range) (sym cut.1) (subst (λ part. NamesSpan (before_first is_dash word) part range) (sym cut.2) span)

-- the first of words that name ranges names one
pub first_names : (word : List ℕ) (words : List (List ℕ)) (ranges : List CBlockRange) → NameRanges (word ∷ words) ranges → (range : CBlockRange) × NamesCBlocks word range
first_names word words [] named = absurd named
first_names word words (range ∷ ranges) named = (range, named.0)

-- no words name no ranges
pub none_names_none : (words : List (List ℕ)) → words ≡ [] → NameRanges words []
none_names_none words none = subst (λ ws. NameRanges ws []) (sym none) refl
