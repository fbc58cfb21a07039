-- The least member stands in the least used word.
use Rattle.std.proofs.Common.{◌≡◌, ◌≢◌, ◌≤◌, ◌<◌, ◌*◌, ◌+◌, ◌/◌, ◌%◌, ◌^◌, ◌==◌, inl, inr, ℕ, zero, suc, List, [], ◌∷◌, Bool, true, false, cond, Some, None, length, map, get_or, replicate, refl, sym, ap, subst, ◌∙◌, arith, nat_lt}
use Rattle.std.proofs.lemmas.Bool.{cases_lt, ltb-true, lt-ltb, le-ltb, ltb-false}
use Rattle.std.proofs.lemmas.List.{length-map, get_or-map, ext_get_or, get_or_past, get_or-replicate, length-replicate}
use Rattle.std.proofs.lemmas.List.Sums.{position_or_len_is}
use Rattle.std.proofs.lemmas.List.Quantifiers.{position-Some}
use Rattle.std.proofs.lemmas.Nat.Bits.{bit_at-zero, bit_at-trailing_zeros}
use Rattle.std.specs.List.{position, position_or_len}
use Rattle.std.specs.Int.{bit_at, trailing_zeros, w64}
use Rattle.wb_bits.specs.BitWords.{is_used, is_member, members, IsBounded, least_in}
use Rattle.wb_bits.specs.Deeper.{length-members}
use Rattle.wb_bits.proofs.Members.{get_or-members}

-- the whole list has no member
pub position_none : (xs : List Bool) → ((k : ℕ) → k < length xs → get_or xs k false ≡ false) → position (λ b. b) xs ≡ None
position_none xs h = let e : position_or_len (λ b. b) xs ≡ length xs = position_or_len_is (λ b. b) xs (length xs) false (omega arith) h (λ l. absurd (omega arith)) in
    ap (λ (n : ℕ). cond (nat_lt n (length xs)) (Some n) None) e ∙ ap (λ (t : Bool). cond t (Some (length xs)) None) (le-ltb (length xs) (length xs) (omega arith))

pub position_some : (xs : List Bool) (i : ℕ) → i < length xs → get_or xs i false ≡ true → ((k : ℕ) → k < i → get_or xs k false ≡ false) → position (λ b. b) xs ≡ Some i
position_some xs i l here h = let e : position_or_len (λ b. b) xs ≡ i = position_or_len_is (λ b. b) xs i false (omega arith) h (λ _. here) in
    ap (λ (n : ℕ). cond (nat_lt n (length xs)) (Some n) None) e ∙ ap (λ (t : Bool). cond t (Some i) None) (lt-ltb i (length xs) l)

past_all : (xs : List Bool) → length xs ≤ position_or_len (λ b. b) xs → (k : ℕ) → get_or xs k false ≡ false
past_all [] h k = refl
past_all (true ∷ xs) h k = absurd (omega arith)
past_all (false ∷ xs) h zero = refl
past_all (false ∷ xs) h (suc k) = past_all xs (omega arith) k

pub none_at_all : (xs : List Bool) → position (λ b. b) xs ≡ None → (k : ℕ) → get_or xs k false ≡ false
none_at_all xs e = go (nat_lt (position_or_len (λ b. b) xs) (length xs)) refl where
  go : (t : Bool) → nat_lt (position_or_len (λ b. b) xs) (length xs) ≡ t → (k : ℕ) → get_or xs k false ≡ false
  go true s k = let some : Some (position_or_len (λ b. b) xs) ≡ None = ap (λ (t : Bool). cond t (Some (position_or_len (λ b. b) xs)) None) (sym s) ∙ e in absurd (cc)
  go false s k = past_all xs (ltb-false (position_or_len (λ b. b) xs) (length xs) s) k

pub unused : (w : ℕ) → is_used w ≡ false → w ≡ 0
unfolding is_used
unused w e = let l : w ≤ 0 = ltb-false 0 w e in omega arith

pub used : (w : ℕ) → is_used w ≡ true → 0 < w
unfolding is_used
used w e = ltb-true 0 w e

pub is_member-at : (words : List ℕ) (i k t : ℕ) → i / 64 ≡ k → i % 64 ≡ t → is_member words i ≡ (bit_at (get_or words k 0) t == 1)
unfolding is_member
is_member-at words i k t e f = ap (λ (n : ℕ). bit_at (get_or words n 0) (i % 64) == 1) e ∙ ap (λ (n : ℕ). bit_at (get_or words k 0) n == 1) f

pub is_member-zero_word : (words : List ℕ) (i : ℕ) → get_or words (i / 64) 0 ≡ 0 → is_member words i ≡ false
is_member-zero_word words i z = is_member-at words i (i / 64) (i % 64) refl refl ∙ ap (λ (w : ℕ). bit_at w (i % 64) == 1) z ∙ ap (λ (n : ℕ). n == 1) (bit_at-zero (i % 64))

pub no_member : (bound : ℕ) (words : List ℕ) → ((k : ℕ) → get_or words k 0 ≡ 0) → (k : ℕ) → k < length (members bound words) → get_or (members bound words) k false ≡ false
no_member bound words z k l = get_or-members bound words k (subst (λ (n : ℕ). k < n) (length-members bound words) l) ∙ is_member-zero_word words k (z (k / 64))

pub least_found : (bound : ℕ) (words : List ℕ) (k : ℕ) → IsBounded bound words → is_used (get_or words k 0) ≡ true → ((j : ℕ) → j < k → get_or words j 0 ≡ 0) → position (λ b. b) (members bound words) ≡ Some (64 * k + trailing_zeros w64 (get_or words k 0))
least_found bound words k h u before = at (bit_at-trailing_zeros w64 (get_or words k 0) (used (get_or words k 0) u) (h.fits k)) where
  at : (trailing_zeros w64 (get_or words k 0) < 64) × (bit_at (get_or words k 0) (trailing_zeros w64 (get_or words k 0)) ≡ 1) × ((i : ℕ) → i < trailing_zeros w64 (get_or words k 0) → bit_at (get_or words k 0) i ≡ 0)
      → position (λ b. b) (members bound words) ≡ Some (64 * k + trailing_zeros w64 (get_or words k 0))
  at f = position_some (members bound words) (64 * k + t) (subst (λ (n : ℕ). 64 * k + t < n) (sym (length-members bound words)) inside)
      (get_or-members bound words (64 * k + t) inside ∙ here)
      (λ j l. get_or-members bound words j (omega (arith, inside)) ∙ earlier j l)
    where
      t : ℕ
      t = trailing_zeros w64 (get_or words k 0)

      here : is_member words (64 * k + t) ≡ true
      here = is_member-at words (64 * k + t) k t (omega (arith, f.0)) (omega (arith, f.0)) ∙ ap (λ (n : ℕ). n == 1) f.1

      inside : 64 * k + t < bound
      inside = elim (cases_lt (64 * k + t) bound) [ inl l ↦ l | inr p ↦ let no : is_member words (64 * k + t) ≡ false = h.tail (64 * k + t) p in let both : true ≡ false = sym here ∙ no in absurd (cc) ]

      earlier : (j : ℕ) → j < 64 * k + t → is_member words j ≡ false
      earlier j l = elim (cases_lt (j / 64) k) [
        | inl b ↦ is_member-zero_word words j (before (j / 64) b)
        | inr b ↦ is_member-at words j k (j % 64) (omega (arith, f.0)) refl ∙ ap (λ (n : ℕ). n == 1) (f.2 (j % 64) (omega (arith, f.0)))
      ]

-- one word alone
pub least_alone : (bound : ℕ) (words : List ℕ) → IsBounded bound words → length words ≤ 1 → least_in words 0 ≡ position (λ b. b) (members bound words)
unfolding least_in
least_alone bound words h one = go (is_used (get_or words 0 0)) refl where
  go : (b : Bool) → is_used (get_or words 0 0) ≡ b → least_in words 0 ≡ position (λ b. b) (members bound words)
  go true e = ap (λ (b : Bool). cond b (Some (64 * 0 + trailing_zeros w64 (get_or words 0 0))) None) e ∙ sym (least_found bound words 0 h e (λ j l. absurd (omega arith)))
  go false e = ap (λ (b : Bool). cond b (Some (64 * 0 + trailing_zeros w64 (get_or words 0 0))) None) e ∙ sym (position_none (members bound words) (no_member bound words zeros)) where
    zeros : (k : ℕ) → get_or words k 0 ≡ 0
    zeros zero = unused (get_or words 0 0) e
    zeros (suc k) = get_or_past words (suc k) 0 (omega arith)

-- the set above says which word has it
pub least_above : (bound : ℕ) (words : List ℕ) (k : ℕ) → IsBounded bound words → position (λ b. b) (map is_used words) ≡ Some k → least_in words k ≡ position (λ b. b) (members bound words)
unfolding least_in
least_above bound words k h e = at (position-Some (λ b. b) (map is_used words) k false e) where
  at : (k < length (map is_used words)) × (get_or (map is_used words) k false ≡ true) × ((j : ℕ) → j < k → get_or (map is_used words) j false ≡ false) → least_in words k ≡ position (λ b. b) (members bound words)
  at f = let len : length (map is_used words) ≡ length words = length-map words is_used in
      let u : is_used (get_or words k 0) ≡ true = sym (get_or-map is_used words k 0 false (omega (arith, f.0))) ∙ f.1 in
      ap (λ (b : Bool). cond b (Some (64 * k + trailing_zeros w64 (get_or words k 0))) None) u
      ∙ sym (least_found bound words k h u (λ j l. unused (get_or words j 0) (sym (get_or-map is_used words j 0 false (omega (arith, f.0))) ∙ f.2 j l)))

pub none_above : (bound : ℕ) (words : List ℕ) → position (λ b. b) (map is_used words) ≡ None → position (λ b. b) (members bound words) ≡ None
none_above bound words e = position_none (members bound words) (no_member bound words zeros) where
  zeros : (k : ℕ) → get_or words k 0 ≡ 0
  zeros k = elim (cases_lt k (length words)) [
    | inl l ↦ unused (get_or words k 0) (sym (get_or-map is_used words k 0 false l) ∙ none_at_all (map is_used words) e k)
    | inr p ↦ get_or_past words k 0 p
  ]

-- no members at first
abbrev pub zeros : ℕ → List ℕ
zeros n = replicate n 0

zero_words : (n k : ℕ) → get_or (zeros n) k 0 ≡ 0
zero_words n k = elim (cases_lt k n) [ inl l ↦ get_or-replicate {A = ℕ} n k 0 0 l | inr p ↦ get_or_past (zeros n) k 0 (omega (arith, length-replicate {A = ℕ} n 0)) ]

pub members-none : (bound n : ℕ) → members bound (zeros n) ≡ replicate bound false
members-none bound n = ext_get_or false (members bound (zeros n)) (replicate bound false) (length-members bound (zeros n) ∙ sym (length-replicate {A = Bool} bound false))
    (λ k l. no_member bound (zeros n) (zero_words n) k l ∙ sym (get_or-replicate {A = Bool} bound k false false (subst (λ (m : ℕ). k < m) (length-members bound (zeros n)) l)))

pub bounded-none : (bound n : ℕ) → bound < 2 ^ 40 → bound ≤ 64 * n → 64 * n < bound + 64 → IsBounded bound (zeros n)
bounded-none bound n s a b = record {
  small = s;
  enough = omega (arith, length-replicate {A = ℕ} n 0);
  no_more = omega (arith, length-replicate {A = ℕ} n 0);
  fits = λ k. subst (λ (x : ℕ). x < 2 ^ 64) (sym (zero_words n k)) (omega arith);
  tail = λ i p. is_member-zero_word (zeros n) i (zero_words n (i / 64));
}

pub used-none : (n : ℕ) → replicate n false ≡ map is_used (zeros n)
unfolding is_used
used-none n = ext_get_or false (replicate n false) (map is_used (zeros n)) (length-replicate {A = Bool} n false ∙ sym (length-map (zeros n) is_used ∙ length-replicate {A = ℕ} n 0))
    (λ k l. get_or-replicate {A = Bool} n k false false (subst (λ (m : ℕ). k < m) (length-replicate {A = Bool} n false) l) ∙ sym (at k (subst (λ (m : ℕ). k < m) (length-replicate {A = Bool} n false) l)))
  where
    zero_unused : is_used 0 ≡ false
    zero_unused = refl

    at : (k : ℕ) → k < n → get_or (map is_used (zeros n)) k false ≡ false
    at k l = get_or-map is_used (zeros n) k 0 false (omega (arith, length-replicate {A = ℕ} n 0)) ∙ ap is_used (zero_words n k) ∙ zero_unused

-- what the search in one word answers
pub least_in-used : (words : List ℕ) (at w : ℕ) → get_or words at 0 ≡ w → w ≢ 0 → Some (64 * at + trailing_zeros w64 w) ≡ least_in words at
unfolding least_in is_used
least_in-used words at w e n = let l : 0 < get_or words at 0 = omega arith in
    sym (ap (λ (b : Bool). cond b (Some (64 * at + trailing_zeros w64 (get_or words at 0))) None) (lt-ltb 0 (get_or words at 0) l) ∙ ap (λ (v : ℕ). Some (64 * at + trailing_zeros w64 v)) e)

pub least_in-unused : (words : List ℕ) (at : ℕ) → get_or words at 0 ≡ 0 → None ≡ least_in words at
unfolding least_in is_used
least_in-unused words at e = sym (ap (λ (v : ℕ). cond (nat_lt 0 v) (Some (64 * at + trailing_zeros w64 v)) None) e)
