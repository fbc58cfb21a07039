-- What a list has after one of its elements was set, and one that has an element many times.
use Rattle.std.proofs.Common.{◌≡◌, ◌≢◌, ◌<◌, ℕ, zero, suc, List, [], ◌∷◌, Option, Some, None, refl, sym, ap, arith, length, slice_get, slice_set, replicate}
-- what was put in is there
pub use Rattle.wb_types.proofs.Lists.{slice_get-set as set_there}

-- there is an element before the end
pub there_is : {X : Type 0} (xs : List X) (i : ℕ) → i < length xs → (x : X) × (slice_get xs i ≡ Some x)
there_is [] i l = absurd (omega (arith, l))
there_is (x ∷ xs) zero l = (x, refl)
there_is (x ∷ xs) (suc i) l = there_is xs i (omega (arith, l))

-- nothing but what was set has changed
pub set_other : {X : Type 0} (xs : List X) (i j : ℕ) (y : X) → j ≢ i → slice_get (slice_set xs i y) j ≡ slice_get xs j
set_other [] i j y n = refl
set_other (z ∷ xs) zero zero y n = absurd (n refl)
set_other (z ∷ xs) zero (suc j) y n = refl
set_other (z ∷ xs) (suc i) zero y n = refl
set_other (z ∷ xs) (suc i) (suc j) y n = set_other xs i j y (λ e. n (ap suc e))

pub set_twice : {X : Type 0} (xs : List X) (i : ℕ) (x y : X) → slice_set (slice_set xs i x) i y ≡ slice_set xs i y
set_twice [] i x y = refl
set_twice (z ∷ xs) zero x y = refl
set_twice (z ∷ xs) (suc i) x y = ap (λ ys. z ∷ ys) (set_twice xs i x y)

pub set_same : {X : Type 0} (xs : List X) (i : ℕ) (x : X) → slice_get xs i ≡ Some x → slice_set xs i x ≡ xs
set_same [] i x e = refl
set_same (z ∷ xs) zero x e = let same : z ≡ x = cc in ap (λ v. v ∷ xs) (sym same)
set_same (z ∷ xs) (suc i) x e = ap (λ ys. z ∷ ys) (set_same xs i x e)

pub replicated : {X : Type 0} (k i : ℕ) (x y : X) → slice_get (replicate k x) i ≡ Some y → x ≡ y
replicated zero i x y e = absurd (cc)
replicated (suc k) zero x y e = cc
replicated (suc k) (suc i) x y e = replicated k i x y e

pub replicated_there : {X : Type 0} (k i : ℕ) (x : X) → i < k → slice_get (replicate k x) i ≡ Some x
replicated_there zero i x l = absurd (omega (arith, l))
replicated_there (suc k) zero x l = refl
replicated_there (suc k) (suc i) x l = replicated_there k i x (omega (arith, l))

-- what is not there
pub none_there : {X : Type 0} (o : Option X) → ((x : X) → o ≡ Some x → ⊥) → o ≡ None
none_there None n = refl
none_there (Some x) n = absurd (n x refl)
