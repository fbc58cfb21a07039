use Rattle.std.proofs.Common.{◌≡◌, ◌≢◌, ◌≤◌, ◌+◌, ◌==◌, ◌⊎◌, inl, inr, ℕ, zero, suc, List, [], ◌∷◌, ◌++◌, Bool, true, false, cond, max, Some, length, slice_get, refl, ap, arith, Contains, add-one}
use Rattle.std.proofs.lemmas.Bool.{cases_order, eq-eqb, eqb-true}
use Rattle.std.proofs.lemmas.Option.{slice_get_within}
use Rattle.std.proofs.lemmas.List.Elements.{Contains-push_cases}
use Rattle.wb_disk.specs.Device.{Content, History, entries, last_of, added, only}
use Rattle.wb_contents.specs.Promises.{IsEntryFrom}
use Rattle.wb_contents.specs.Volume.{changed}

pub get_left : {X : Type 0} (xs ys : List X) (i : ℕ) (x : X) → slice_get xs i ≡ Some x → slice_get (xs ++ ys) i ≡ Some x
get_left [] ys i x e = absurd (cc)
get_left (z ∷ xs) ys zero x e = e
get_left (z ∷ xs) ys (suc i) x e = get_left xs ys i x e

pub get_seam : {X : Type 0} (xs : List X) (y : X) → slice_get (xs ++ y ∷ []) (length xs) ≡ Some y
get_seam [] y = refl
get_seam (z ∷ xs) y = get_seam xs y

pub last_of-append : (c d : Content) (ds : List Content) → last_of c (ds ++ d ∷ []) ≡ d
last_of-append c d [] = refl
last_of-append c d (e ∷ ds) = last_of-append e d ds

-- a position stays
pub at_more : (k : ℕ) (g : History) (c d : Content) → IsEntryFrom k g c → IsEntryFrom k (added g d) c
at_more k g c d i = (i.0, i.1, get_left (entries g) (d ∷ []) i.0 c i.2)

pub at_within : (k : ℕ) (g : History) (c : Content) → IsEntryFrom k g c → k ≤ length g.later
at_within k g c i = let b = slice_get_within (entries g) i.0 c i.2 in omega (arith, i.1)

-- the newest entry stands after all others
pub at_last : (k : ℕ) (g : History) (d : Content) → k ≤ length g.later + 1 → IsEntryFrom k (added g d) d
at_last k g d b = (length g.later + 1, b, rw add-one (get_seam g.later d))

pub at_lower : (j k : ℕ) (g : History) (c : Content) → j ≤ k → IsEntryFrom k g c → IsEntryFrom j g c
at_lower j k g c b i = (i.0, omega (arith, i.1), i.2)

pub changed_same : {X : Type 0} (f : ℕ → X) (i : ℕ) (y : X) → changed f i y i ≡ y
changed_same f i y = ap (λ t. cond t y (f i)) (eq-eqb i i refl)

pub differ : (a b : ℕ) → a ≢ b → (a == b) ≡ false
differ a b n = go (a == b) refl where
  go : (t : Bool) → (a == b) ≡ t → (a == b) ≡ false
  go true e = absurd (n (eqb-true a b e))
  go false e = e

pub changed_other : {X : Type 0} (f : ℕ → X) (i j : ℕ) (y : X) → j ≢ i → changed f i y j ≡ f j
changed_other f i j y n = ap (λ t. cond t y (f j)) (differ j i n)

-- each content of a list that got one more
pub more_cases : (h : History) (c d : Content) → Contains (entries (added h c)) d → Contains (entries h) d ⊎ (c ≡ d)
more_cases h c d m = Contains-push_cases (entries h) c d m

pub only_one : (c d : Content) → Contains (entries (only c)) d → c ≡ d
only_one c d m = elim (Contains-push_cases [] c d m) [ inl nothing ↦ absurd (omega (arith, nothing.1)) | inr e ↦ e ]

pub greater : (j k : ℕ) (g : History) (c : Content) → IsEntryFrom j g c → IsEntryFrom k g c → IsEntryFrom (max j k) g c
greater j k g c a b = elim (cases_order j k) [
  | inl e ↦ at_lower (max j k) j g c (omega arith) a
  | inr o ↦ elim o [ inl l ↦ at_lower (max j k) k g c (omega arith) b | inr l ↦ at_lower (max j k) j g c (omega arith) a ]
]

pub get_last : (c : Content) (ds : List Content) → slice_get (c ∷ ds) (length ds) ≡ Some (last_of c ds)
get_last c [] = refl
get_last c (d ∷ ds) = get_last d ds
