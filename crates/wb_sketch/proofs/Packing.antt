-- Small values that stand in words: how many, which, and what a write to one word changes.
use Rattle.std.proofs.Common.{◌≡◌, ◌≢◌, ◌<◌, ◌+◌, ◌*◌, ◌/◌, ◌%◌, inl, inr, ℕ, List, length, replicate, get_or, set, sym, ap, subst, ◌∙◌, arith, get_or-set_same, get_or-set_other}
use Rattle.std.proofs.lemmas.Bool.{cases_eq}
use Rattle.std.proofs.lemmas.List.{length-set, length-replicate, get_or-replicate, ext_get_or}
use Rattle.std.proofs.lemmas.List.FromFn.{length-map-range_with_len, get_or-map-range_with_len}
use Rattle.std.proofs.lemmas.Nat.{div_below, div-add-mod'}
use Rattle.wb_sketch.specs.Packed.{values_in}

pub length-values_in : {X : Type 0} → (value_in : ℕ → ℕ → X) (per : ℕ) (words : List ℕ) → length (values_in value_in per words) ≡ per * length words
unfolding values_in
length-values_in value_in per words = length-map-range_with_len _ 0 (per * length words)

pub get_or-values_in : {X : Type 0} → (value_in : ℕ → ℕ → X) (per : ℕ) (words : List ℕ) (place : ℕ) (d : X) → place < per * length words
    → get_or (values_in value_in per words) place d ≡ value_in (get_or words (place / per) 0) (place % per)
unfolding values_in
get_or-values_in value_in per words place d h = get_or-map-range_with_len _ 0 (per * length words) place place d h (omega arith)

-- no word holds a value yet
pub values_in-replicate : {X : Type 0} → (value_in : ℕ → ℕ → X) (per count : ℕ) (x : X) → 0 < per → ((number : ℕ) → value_in 0 number ≡ x)
    → values_in value_in per (replicate count 0) ≡ replicate (per * count) x
values_in-replicate value_in per count x some none =
    let lengths : length (values_in value_in per (replicate count 0)) ≡ per * count =
    length-values_in value_in per (replicate count 0) ∙ ap (λ (n : ℕ). per * n) (length-replicate count 0) in
    ext_get_or x _ _ (lengths ∙ sym (length-replicate (per * count) x)) (λ k h.
    let k_in : k < per * count = subst (λ (n : ℕ). k < n) lengths h in
    let word_in : k / per < count = div_below k per count some (omega (arith, k_in)) in
    get_or-values_in value_in per (replicate count 0) k x (subst (λ (n : ℕ). k < per * n) (sym (length-replicate count 0)) k_in)
    ∙ ap (λ (w : ℕ). value_in w (k % per)) (get_or-replicate count (k / per) 0 0 word_in)
    ∙ none (k % per)
    ∙ sym (get_or-replicate (per * count) k x x k_in))

-- the word of a place
pub word_within : (per : ℕ) (words : List ℕ) (place : ℕ) → 0 < per → place < per * length words → place / per < length words
word_within per words place some h = div_below place per (length words) some (omega (arith, h))

-- two places of one word are apart in it
apart : (per a b : ℕ) → a / per ≡ b / per → a ≢ b → a % per ≢ b % per
apart per a b same n e = n (sym (div-add-mod' a per) ∙ ap (λ (q : ℕ). q * per + a % per) same ∙ ap (λ (r : ℕ). b / per * per + r) e ∙ div-add-mod' b per)

-- A write to one word that changes one value.
pub values_in-set : {X : Type 0} → (value_in : ℕ → ℕ → X) (per : ℕ) (words : List ℕ) (place v : ℕ) (x : X) → 0 < per → place < per * length words
    → value_in v (place % per) ≡ x
    → ((other : ℕ) → other ≢ place % per → value_in v other ≡ value_in (get_or words (place / per) 0) other)
    → values_in value_in per (set words (place / per) v) ≡ set (values_in value_in per words) place x
values_in-set {X} value_in per words place v x some h here others =
    ext_get_or x _ _ (lengths ∙ sym (length-set (values_in value_in per words) place x ∙ length-values_in value_in per words)) at
  where
    word_in : place / per < length words
    word_in = word_within per words place some h

    lengths : length (values_in value_in per (set words (place / per) v)) ≡ per * length words
    lengths = length-values_in value_in per (set words (place / per) v) ∙ ap (λ (n : ℕ). per * n) (length-set words (place / per) v)

    read : (k : ℕ) → k < per * length words → get_or (values_in value_in per (set words (place / per) v)) k x ≡ value_in (get_or (set words (place / per) v) (k / per) 0) (k % per)
    read k k_in = get_or-values_in value_in per (set words (place / per) v) k x (subst (λ (n : ℕ). k < per * n) (sym (length-set words (place / per) v)) k_in)

    value_at : (k : ℕ) → k < per * length words → k ≢ place → value_in (get_or (set words (place / per) v) (k / per) 0) (k % per) ≡ value_in (get_or words (k / per) 0) (k % per)
    value_at k k_in n = elim (cases_eq (k / per) (place / per)) [
      | inl e ↦
          ap (λ (q : ℕ). value_in (get_or (set words (place / per) v) q 0) (k % per)) e
          ∙ ap (λ (w : ℕ). value_in w (k % per)) (get_or-set_same words (place / per) v 0 word_in)
          ∙ others (k % per) (apart per k place e n)
          ∙ ap (λ (q : ℕ). value_in (get_or words q 0) (k % per)) (sym e)
      | inr o ↦ ap (λ (w : ℕ). value_in w (k % per)) (get_or-set_other words (place / per) (k / per) v 0 o)
    ]

    at : (k : ℕ) → k < length (values_in value_in per (set words (place / per) v)) → get_or (values_in value_in per (set words (place / per) v)) k x ≡ get_or (set (values_in value_in per words) place x) k x
    at k less =
        let k_in : k < per * length words = subst (λ (n : ℕ). k < n) lengths less in
        read k k_in ∙ elim (cases_eq k place) [
          | inl e ↦
              ap (λ (j : ℕ). value_in (get_or (set words (place / per) v) (j / per) 0) (j % per)) e
              ∙ ap (λ (w : ℕ). value_in w (place % per)) (get_or-set_same words (place / per) v 0 word_in)
              ∙ here
              ∙ sym (ap (λ (j : ℕ). get_or (set (values_in value_in per words) place x) j x) e
              ∙ get_or-set_same (values_in value_in per words) place x x (subst (λ (n : ℕ). place < n) (sym (length-values_in value_in per words)) h))
          | inr n ↦
              value_at k k_in n
              ∙ sym (get_or-set_other (values_in value_in per words) place k x x n ∙ get_or-values_in value_in per words k x k_in)
        ]
