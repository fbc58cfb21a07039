-- Lists read by position, and sums over them.
use Rattle.std.proofs.Common.{◌≡◌, ◌≢◌, ◌⊎◌, ℕ, zero, suc, ◌+◌, ◌<◌, ◌≤◌, List, [], ◌∷◌, ◌++◌, length, replicate, set, sym, refl, ap, inl, inr, ⊎_elim, arith, Some, slice_get, slice_index_or}
use mathlib.Core.Option.{some, some-injective, some-ne-none}
use lib.ListN.{get_elem?}
use Rattle.wb_words.specs.Cards.{total}

module _ {A : Type 0} (f : A → ℕ) where
  pub total-set : (l : List A) (i : ℕ) (a b : A) → get_elem? l i ≡ some a → total f (set l i b) + f a ≡ total f l + f b
  total-set [] i a b e = absurd (some-ne-none a (sym e))
  total-set (x ∷ xs) zero a b e = let is : f x ≡ f a = ap f (some-injective x a e) in omega arith
  total-set (x ∷ xs) (suc i) a b e = let r = total-set xs i a b e in omega arith

  pub total_at : (l : List A) (i : ℕ) (a : A) → get_elem? l i ≡ some a → f a ≤ total f l
  total_at [] i a e = absurd (some-ne-none a (sym e))
  total_at (x ∷ xs) zero a e = let is : f x ≡ f a = ap f (some-injective x a e) in omega arith
  total_at (x ∷ xs) (suc i) a e = let r = total_at xs i a e in omega arith

  pub total_most : (g : A → ℕ) (l : List A) → ((i : ℕ) (a : A) → get_elem? l i ≡ some a → f a ≤ g a) → total f l ≤ total g l
  total_most g [] le = omega arith
  total_most g (x ∷ xs) le = let r = total_most g xs (λ i. le (suc i)) in let h = le 0 x refl in omega arith

  pub total_two : (l : List A) (i j : ℕ) (a b : A) → i ≢ j → get_elem? l i ≡ some a → get_elem? l j ≡ some b → f a + f b ≤ total f l
  total_two [] i j a b n e g = absurd (some-ne-none a (sym e))
  total_two (x ∷ xs) zero zero a b n e g = absurd (n refl)
  total_two (x ∷ xs) zero (suc j) a b n e g = let is : f x ≡ f a = ap f (some-injective x a e) in let r = total_at xs j b g in omega arith
  total_two (x ∷ xs) (suc i) zero a b n e g = let is : f x ≡ f b = ap f (some-injective x b g) in let r = total_at xs i a e in omega arith
  total_two (x ∷ xs) (suc i) (suc j) a b n e g = let r = total_two xs i j a b (λ h. n (ap suc h)) e g in omega arith

  pub total-same : (l : List A) (i : ℕ) (a b : A) → get_elem? l i ≡ some a → f b ≡ f a → total f (set l i b) ≡ total f l
  total-same l i a b e same = let r = total-set l i a b e in omega arith

  pub total-append : (l m : List A) → total f (l ++ m) ≡ total f l + total f m
  total-append [] m = omega arith
  total-append (x ∷ xs) m = let r = total-append xs m in omega arith

  pub total-replicate : (n : ℕ) (a : A) → f a ≡ 0 → total f (replicate n a) ≡ 0
  total-replicate zero a z = refl
  total-replicate (suc n) a z = let r = total-replicate n a z in omega arith

-- what stands in a list after one of its elements was replaced
module _ {A : Type 0} where
  pub at_set : (l : List A) (i j : ℕ) (a b : A) → get_elem? (set l i a) j ≡ some b → ((j ≡ i) × (a ≡ b)) ⊎ ((j ≢ i) × (get_elem? l j ≡ some b))
  at_set [] i j a b e = absurd (some-ne-none b (sym e))
  at_set (x ∷ xs) zero zero a b e = inl (refl, some-injective a b e)
  at_set (x ∷ xs) zero (suc j) a b e = inr ((λ h. omega arith), e)
  at_set (x ∷ xs) (suc i) zero a b e = inr ((λ h. omega arith), e)
  at_set (x ∷ xs) (suc i) (suc j) a b e = ⊎_elim (λ t. inl (ap suc t.0, t.1)) (λ t. let n = t.0 in inr ((λ h. n (omega arith)), t.1)) (at_set xs i j a b e)

  -- the element that an index gives
  pub at_index_or : (l : List A) (i : ℕ) (d : A) → i < length l → get_elem? l i ≡ some (slice_index_or l i d)
  at_index_or [] i d h = absurd (omega arith)
  at_index_or (x ∷ xs) zero d h = refl
  at_index_or (x ∷ xs) (suc i) d h = at_index_or xs i d (omega arith)

  pub at_slice : (l : List A) (i : ℕ) (a : A) → slice_get l i ≡ Some a → get_elem? l i ≡ some a
  at_slice [] i a e = absurd (cc)
  at_slice (x ∷ xs) zero a e = let same : x ≡ a = cc in ap some same
  at_slice (x ∷ xs) (suc i) a e = at_slice xs i a e

  pub slice_at : (l : List A) (i : ℕ) (a : A) → get_elem? l i ≡ some a → slice_get l i ≡ Some a
  slice_at [] i a e = absurd (some-ne-none a (sym e))
  slice_at (x ∷ xs) zero a e = ap (λ z. Some z) (some-injective x a e)
  slice_at (x ∷ xs) (suc i) a e = slice_at xs i a e
