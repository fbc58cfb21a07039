-- Lists beside one another, lists with one element changed, and what a list contains.
use Rattle.std.proofs.Common.{◌≡◌, ◌≢◌, ◌<◌, ◌⊎◌, ℕ, zero, suc, List, [], ◌∷◌, Some, get_or, length, map, refl, replicate, sym, ap, arith, slice_set, inl, inr}
use Rattle.std.specs.Prelude.{Contains, slice_index_or}
use Rattle.std.specs.List.{slice_get}
use Rattle.std.proofs.lemmas.List.Elements.{Contains-append_right}

-- a list that is as long has an element there, too
pub element_beside : {X Y : Type 0} (xs : List X) (ys : List Y) (at : ℕ) (x : X) → length ys ≡ length xs → slice_get xs at ≡ Some x → (y : Y) × (slice_get ys at ≡ Some y)
element_beside [] ys at x same e = absurd (cc)
element_beside (a ∷ xs) [] at x same e = absurd (omega arith)
element_beside (a ∷ xs) (y ∷ ys) zero x same e = (y, refl)
element_beside (a ∷ xs) (y ∷ ys) (suc at) x same e = element_beside xs ys at x (omega arith) e

-- what stands in a list of which one element was set
pub set_cases : {X : Type 0} (xs : List X) (at i : ℕ) (y z : X) → slice_get (slice_set xs at y) i ≡ Some z → ((i ≡ at) × (z ≡ y)) ⊎ ((i ≢ at) × (slice_get xs i ≡ Some z))
set_cases [] at i y z e = absurd (cc)
set_cases (x ∷ xs) zero zero y z e = inl (refl, cc)
set_cases (x ∷ xs) zero (suc i) y z e = inr (λ f. absurd (omega (arith, f)), e)
set_cases (x ∷ xs) (suc at) zero y z e = inr (λ f. absurd (omega (arith, f)), e)
set_cases (x ∷ xs) (suc at) (suc i) y z e = elim (set_cases xs at i y z e) [
  | inl w ↦ inl (ap (λ n. suc n) w.0, w.1)
  | inr w ↦ inr (λ f. w.0 (omega (arith, f)), w.1)
]

-- the element that another list of the same function's values has it from
pub map_there : {X Y : Type 0} (f : X → Y) (xs : List X) (at : ℕ) (y : Y) → slice_get (map f xs) at ≡ Some y → (x : X) × (slice_get xs at ≡ Some x) × (y ≡ f x)
map_there f [] at y e = absurd (cc)
map_there f (x ∷ xs) zero y e = (x, refl, cc)
map_there f (x ∷ xs) (suc at) y e = map_there f xs at y e

-- a list of one element
only_at : {X : Type 0} (c x : X) (k : ℕ) → k < 1 → slice_index_or (c ∷ []) k x ≡ x → x ≡ c
only_at c x zero b e = sym e
only_at c x (suc k) b e = absurd (omega arith)

pub Contains-one : {X : Type 0} (c x : X) → Contains (c ∷ []) x → x ≡ c
Contains-one c x has = only_at c x has.0 has.1 has.2

pub Contains-first : {X : Type 0} (c : X) (xs : List X) → Contains (c ∷ xs) c
Contains-first c xs = (0, omega arith, refl)

pub Contains-behind : {X : Type 0} (c : X) (xs : List X) (x : X) → Contains xs x → Contains (c ∷ xs) x
Contains-behind c xs x has = Contains-append_right (c ∷ []) xs x has

-- what stands where an element was put over another
pub slice_get-set : {X : Type 0} (xs : List X) (i : ℕ) (x y : X) → slice_get xs i ≡ Some x → slice_get (slice_set xs i y) i ≡ Some y
slice_get-set [] i x y e = absurd (cc)
slice_get-set (z ∷ xs) zero x y e = refl
slice_get-set (z ∷ xs) (suc i) x y e = slice_get-set xs i x y e

-- a list of one element many times has it everywhere, and nothing else behind its end
pub replicate_at : {X : Type 0} (n k : ℕ) (x : X) → get_or (replicate n x) k x ≡ x
replicate_at zero k x = refl
replicate_at (suc n) zero x = refl
replicate_at (suc n) (suc k) x = replicate_at n k x
