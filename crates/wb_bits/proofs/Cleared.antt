-- A word that is set to zero has no members, and other words keep theirs.
use Rattle.std.proofs.Common.{◌≡◌, ◌≢◌, ◌≤◌, ◌<◌, ◌/◌, ◌%◌, ◌^◌, ◌==◌, inl, inr, ℕ, zero, suc, List, [], ◌∷◌, Bool, true, false, cond, length, get_or, set, refl, sym, ap, subst, ◌∙◌, arith, get_or-set_same, get_or-set_other}
use Rattle.std.proofs.lemmas.Bool.{cases_eq, cases_lt}
use Rattle.std.proofs.lemmas.List.{length-set, get_or_past}
use Rattle.std.specs.Int.{bit_at}
use Rattle.wb_bits.specs.BitWords.{is_member, members, IsBounded}
use Rattle.wb_bits.specs.Deeper.{length-members}
use Rattle.wb_bits.proofs.Chosen.{chosen}
use Rattle.wb_bits.proofs.Least.{is_member-at, is_member-zero_word}
use Rattle.wb_bits.proofs.Members.{get_or-members}

-- what holds once a word is zero
pub record IsCleared (bound : ℕ) (words : List ℕ) (at : ℕ) : Type 0 where
  pub bounded : IsBounded bound (set words at 0)
  pub cleared : (i : ℕ) → i / 64 ≡ at → get_or (members bound (set words at 0)) i false ≡ false
  pub others : (i : ℕ) → i / 64 ≢ at → get_or (members bound (set words at 0)) i false ≡ get_or (members bound words) i false

-- a number from the bound on is no member
past_bound : (bound : ℕ) (words : List ℕ) (i : ℕ) → bound ≤ i → get_or (members bound words) i false ≡ false
past_bound bound words i p = get_or_past (members bound words) i false (subst (λ n. n ≤ i) (sym (length-members bound words)) p)

pub word_cleared : (bound : ℕ) (words : List ℕ) (at : ℕ) → at < length words → IsBounded bound words → IsCleared bound words at
word_cleared bound words at l h = record {
  bounded = record {
    small = h.small;
    enough = omega (arith, h.enough, length-set words at 0);
    no_more = omega (arith, h.no_more, length-set words at 0);
    fits = λ k. elim (cases_eq k at) [
      | inl e ↦ subst (λ (x : ℕ). x < 2 ^ 64) (sym (zero_word k e)) (omega arith)
      | inr n ↦ subst (λ (x : ℕ). x < 2 ^ 64) (sym (get_or-set_other words at k 0 0 n)) (h.fits k)
    ];
    tail = λ i past. elim (cases_eq (i / 64) at) [
      | inl e ↦ is_member-zero_word (set words at 0) i (zero_word (i / 64) e)
      | inr n ↦ other_word i n ∙ h.tail i past
    ];
  };
  cleared = λ i e. elim (cases_lt i bound) [
    | inl within ↦ get_or-members bound (set words at 0) i within ∙ is_member-zero_word (set words at 0) i (zero_word (i / 64) e)
    | inr past ↦ past_bound bound (set words at 0) i past
  ];
  others = λ i n. elim (cases_lt i bound) [
    | inl within ↦ get_or-members bound (set words at 0) i within ∙ other_word i n ∙ sym (get_or-members bound words i within)
    | inr past ↦ past_bound bound (set words at 0) i past ∙ sym (past_bound bound words i past)
  ];
}
  where
    zero_word : (k : ℕ) → k ≡ at → get_or (set words at 0) k 0 ≡ 0
    zero_word k e = ap (λ (n : ℕ). get_or (set words at 0) n 0) e ∙ get_or-set_same words at 0 0 l

    other_word : (i : ℕ) → i / 64 ≢ at → is_member (set words at 0) i ≡ is_member words i
    other_word i n = is_member-at (set words at 0) i (i / 64) (i % 64) refl refl
        ∙ ap (λ (w : ℕ). bit_at w (i % 64) == 1) (get_or-set_other words at (i / 64) 0 0 n)
        ∙ sym (is_member-at words i (i / 64) (i % 64) refl refl)

-- ---- members go, and none comes

no_more_chosen : (xs ys : List Bool) → length ys ≡ length xs → ((i : ℕ) → get_or ys i false ≡ true → get_or xs i false ≡ true) → chosen (λ b. b) ys ≤ chosen (λ b. b) xs
no_more_chosen [] [] e h = omega arith
no_more_chosen [] (y ∷ ys) e h = absurd (omega arith)
no_more_chosen (x ∷ xs) [] e h = absurd (omega arith)
no_more_chosen (x ∷ xs) (y ∷ ys) e h = go x y (h 0) (no_more_chosen xs ys (omega arith) (λ i. h (suc i)))
  where
    go : (x y : Bool) → (y ≡ true → x ≡ true) → chosen (λ b. b) ys ≤ chosen (λ b. b) xs → cond y (suc (chosen (λ b. b) ys)) (chosen (λ b. b) ys) ≤ cond x (suc (chosen (λ b. b) xs)) (chosen (λ b. b) xs)
    go true true h l = omega arith
    go true false h l = omega arith
    go false true h l = let no : false ≡ true = h refl in absurd cc
    go false false h l = l

-- where one went there are fewer
pub fewer_left : (xs ys : List Bool) (i : ℕ) → length ys ≡ length xs → ((j : ℕ) → get_or ys j false ≡ true → get_or xs j false ≡ true) → get_or xs i false ≡ true → get_or ys i false ≡ false
    → chosen (λ b. b) ys < chosen (λ b. b) xs
fewer_left [] [] i e h was gone = absurd cc
fewer_left [] (y ∷ ys) i e h was gone = absurd (omega arith)
fewer_left (x ∷ xs) [] i e h was gone = absurd (omega arith)
fewer_left (true ∷ xs) (false ∷ ys) zero e h was gone = let l = no_more_chosen xs ys (omega arith) (λ i. h (suc i)) in omega (arith, l)
fewer_left (true ∷ xs) (true ∷ ys) zero e h was gone = absurd cc
fewer_left (false ∷ xs) (y ∷ ys) zero e h was gone = absurd cc
fewer_left (x ∷ xs) (y ∷ ys) (suc i) e h was gone = go x y (h 0) (fewer_left xs ys i (omega arith) (λ j. h (suc j)) was gone)
  where
    go : (x y : Bool) → (y ≡ true → x ≡ true) → chosen (λ b. b) ys < chosen (λ b. b) xs → cond y (suc (chosen (λ b. b) ys)) (chosen (λ b. b) ys) < cond x (suc (chosen (λ b. b) xs)) (chosen (λ b. b) xs)
    go true true h l = omega arith
    go true false h l = omega arith
    go false true h l = let no : false ≡ true = h refl in absurd cc
    go false false h l = l
