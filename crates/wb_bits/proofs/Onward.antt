-- The least member from a number on stands in its word, or in the least used one behind that.
use Rattle.std.proofs.Common.{◌≡◌, ◌≢◌, ◌≤◌, ◌<◌, ◌*◌, ◌+◌, ◌-◌, ◌/◌, ◌%◌, ◌^◌, ◌==◌, inl, inr, ℕ, List, Bool, false, cond, Option, Some, None, length, map, get_or, refl, sym, ap, subst, ◌∙◌, arith}
use Rattle.std.specs.Prelude.{IfNone, is_some}
use Rattle.std.proofs.lemmas.Bool.{cases_eq, cases_lt, false≢true}
use Rattle.std.proofs.lemmas.List.{length-map, get_or-map, get_or_past}
use Rattle.std.proofs.lemmas.Nat.{shr-shr, shr_le}
use Rattle.std.proofs.lemmas.Nat.Bits.{bit_at-zero, bit_at-trailing_zeros, bit_at_above}
use Rattle.std.specs.Int.{bit_at, trailing_zeros, w64}
use Rattle.wb_bits.specs.BitWords.{is_used, is_member, members, IsBounded, least_in}
use Rattle.wb_bits.specs.Deeper.{length-members}
use Rattle.wb_bits.specs.Leasts.{IsLeastFrom}
use Rattle.wb_bits.proofs.Least.{is_member-at, is_member-zero_word, unused, used}
use Rattle.wb_bits.proofs.Members.{get_or-members, used_zero}

bit_at-shifted : (w s j : ℕ) → bit_at (w / 2 ^ s) j ≡ bit_at w (s + j)
bit_at-shifted w s j = ap (λ (x : ℕ). x % 2) (shr-shr w s j)

-- what is told where there is no answer
pub absent : {X P : Type 0} (o : Option X) → false ≡ is_some o → IfNone o P → P
absent None e told = told
absent (Some x) e told = absurd (false≢true e)

-- ---- in the word of the number

-- the numbers from this one on that its word has, by the word that is shifted
shifted : (words : List ℕ) (from w i : ℕ) → get_or words (from / 64) 0 ≡ w → from ≤ i → i / 64 ≡ from / 64 → is_member words i ≡ (bit_at (w / 2 ^ (from % 64)) (i - from) == 1)
shifted words from w i is onward same =
    let bit : i % 64 ≡ from % 64 + (i - from) = omega arith in
    is_member-at words i (from / 64) (from % 64 + (i - from)) same bit
    ∙ ap (λ (v : ℕ). bit_at v (from % 64 + (i - from)) == 1) is
    ∙ ap (λ (n : ℕ). n == 1) (sym (bit_at-shifted w (from % 64) (i - from)))

pub none_here : (words : List ℕ) (from w : ℕ) → get_or words (from / 64) 0 ≡ w → w / 2 ^ (from % 64) ≡ 0 → (i : ℕ) → from ≤ i → i / 64 ≡ from / 64 → is_member words i ≡ false
none_here words from w is zero i onward same =
    shifted words from w i is onward same
    ∙ ap (λ (v : ℕ). bit_at v (i - from) == 1) zero
    ∙ ap (λ (n : ℕ). n == 1) (bit_at-zero (i - from))

pub found_here : (words : List ℕ) (from w : ℕ) → get_or words (from / 64) 0 ≡ w → w < 2 ^ 64 → w / 2 ^ (from % 64) ≢ 0
    → IsLeastFrom (is_member words) from (from + trailing_zeros w64 (w / 2 ^ (from % 64)))
found_here words from w is fits some =
    at (bit_at-trailing_zeros w64 (w / 2 ^ (from % 64)) (omega arith) (omega (arith, fits, shr_le w (from % 64))))
  where
    t : ℕ
    t = trailing_zeros w64 (w / 2 ^ (from % 64))

    at : (t < 64) × (bit_at (w / 2 ^ (from % 64)) t ≡ 1) × ((i : ℕ) → i < t → bit_at (w / 2 ^ (from % 64)) i ≡ 0) → IsLeastFrom (is_member words) from (from + t)
    at f = record {
      onward = omega arith;
      holds = shifted words from w (from + t) is (omega arith) (omega (arith, inside)) ∙ ap (λ (n : ℕ). bit_at (w / 2 ^ (from % 64)) n == 1) less ∙ ap (λ (n : ℕ). n == 1) f.1;
      least = λ i onward before. shifted words from w i is onward (omega (arith, inside)) ∙ ap (λ (n : ℕ). n == 1) (f.2 (i - from) (omega arith));
    } where
      less : from + t - from ≡ t
      less = omega arith

      inside : from % 64 + t < 64
      inside = elim (cases_lt (from % 64 + t) 64) [
        | inl l ↦ l
        | inr past ↦ let none = bit_at_above w 64 (from % 64 + t) fits past in absurd (omega (arith, sym f.1 ∙ bit_at-shifted w (from % 64) t, none))
      ]

-- ---- behind it

-- which words are used
used_at : (words : List ℕ) (k : ℕ) → get_or (map is_used words) k false ≡ is_used (get_or words k 0)
used_at words k = elim (cases_lt k (length words)) [
  | inl l ↦ get_or-map is_used words k 0 false l
  | inr p ↦ get_or_past (map is_used words) k false (omega (arith, p, length-map words is_used)) ∙ sym (ap is_used (get_or_past words k 0 p) ∙ used_zero)
]

none_in_word : (words : List ℕ) (i : ℕ) → get_or (map is_used words) (i / 64) false ≡ false → is_member words i ≡ false
none_in_word words i none = is_member-zero_word words i (unused (get_or words (i / 64) 0) (sym (used_at words (i / 64)) ∙ none))

-- no word behind it has one
pub none_behind : (words : List ℕ) (from : ℕ) → ((i : ℕ) → from ≤ i → i / 64 ≡ from / 64 → is_member words i ≡ false)
    → ((k : ℕ) → from / 64 + 1 ≤ k → get_or (map is_used words) k false ≡ false) → (i : ℕ) → from ≤ i → is_member words i ≡ false
none_behind words from here behind i onward = elim (cases_eq (i / 64) (from / 64)) [
  | inl same ↦ here i onward same
  | inr other ↦ none_in_word words i (behind (i / 64) (omega arith))
]

-- there is no word behind it
pub none_alone : (words : List ℕ) (from : ℕ) → length words ≤ 1 → ((i : ℕ) → from ≤ i → i / 64 ≡ from / 64 → is_member words i ≡ false) → (i : ℕ) → from ≤ i → is_member words i ≡ false
none_alone words from one here = none_behind words from here (λ k behind. get_or_past (map is_used words) k false (omega (arith, length-map words is_used)))

-- the least member of the word at k
abbrev pub first_of : List ℕ → ℕ → ℕ
first_of words k = 64 * k + trailing_zeros w64 (get_or words k 0)

pub found_behind : (words : List ℕ) (from k : ℕ) → ((j : ℕ) → get_or words j 0 < 2 ^ 64) → ((i : ℕ) → from ≤ i → i / 64 ≡ from / 64 → is_member words i ≡ false)
    → IsLeastFrom (λ j. get_or (map is_used words) j false) (from / 64 + 1) k → IsLeastFrom (is_member words) from (first_of words k)
found_behind words from k fits here above =
    at (bit_at-trailing_zeros w64 (get_or words k 0) (used (get_or words k 0) (sym (used_at words k) ∙ above.holds)) (fits k))
  where
    t : ℕ
    t = trailing_zeros w64 (get_or words k 0)

    at : (t < 64) × (bit_at (get_or words k 0) t ≡ 1) × ((i : ℕ) → i < t → bit_at (get_or words k 0) i ≡ 0) → IsLeastFrom (is_member words) from (first_of words k)
    at f = record {
      onward = omega (arith, above.onward);
      holds = is_member-at words (64 * k + t) k t (omega (arith, f.0)) (omega (arith, f.0)) ∙ ap (λ (n : ℕ). n == 1) f.1;
      least = λ i onward before. elim (cases_eq (i / 64) (from / 64)) [
        | inl same ↦ here i onward same
        | inr other ↦ elim (cases_lt (i / 64) k) [
          | inl earlier ↦ none_in_word words i (above.least (i / 64) (omega arith) earlier)
          | inr there ↦ is_member-at words i k (i % 64) (omega (arith, f.0)) refl ∙ ap (λ (n : ℕ). n == 1) (f.2 (i % 64) (omega (arith, f.0)))
        ]
      ];
    }

-- the search in that word finds it
pub least_in-behind : (words : List ℕ) (from k : ℕ) → IsLeastFrom (λ j. get_or (map is_used words) j false) from k → least_in words k ≡ Some (first_of words k)
unfolding least_in
least_in-behind words from k above = ap (λ (b : Bool). cond b (Some (first_of words k)) None) (sym (used_at words k) ∙ above.holds)

-- ---- in the set

pub none_of_set : (bound : ℕ) (words : List ℕ) (from : ℕ) → ((i : ℕ) → from ≤ i → is_member words i ≡ false) → (i : ℕ) → from ≤ i → get_or (members bound words) i false ≡ false
none_of_set bound words from none i onward = elim (cases_lt i bound) [
  | inl l ↦ get_or-members bound words i l ∙ none i onward
  | inr p ↦ get_or_past (members bound words) i false (subst (λ n. n ≤ i) (sym (length-members bound words)) p)
]

pub least_of_set : (bound : ℕ) (words : List ℕ) (from at : ℕ) → IsBounded bound words → IsLeastFrom (is_member words) from at → IsLeastFrom (λ i. get_or (members bound words) i false) from at
least_of_set bound words from at h found = record {
  onward = found.onward;
  holds = get_or-members bound words at inside ∙ found.holds;
  least = λ i onward before. get_or-members bound words i (omega (arith, inside)) ∙ found.least i onward before;
}
  where
    inside : at < bound
    inside = elim (cases_lt at bound) [ inl l ↦ l | inr p ↦ absurd (false≢true (sym (h.tail at p) ∙ found.holds)) ]
