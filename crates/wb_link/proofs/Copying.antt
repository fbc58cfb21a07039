-- How far two locations of a block have the same last contents, while it is copied extent by extent.
use Rattle.std.proofs.Common.{◌≡◌, ◌≢◌, ◌≤◌, ◌<◌, ◌⊎◌, inl, inr, ℕ, zero, suc, List, [], ◌∷◌, sym, ap, ◌∙◌, arith, Contains}
use Rattle.std.proofs.lemmas.Bool.{cases_eq, cases_lt}
use Rattle.wb_disk.specs.Device.{Content, newest}
use Rattle.wb_contents.specs.Volume.{Volume}
use Rattle.wb_link.specs.World.{AreAlike, AreIn}
use Rattle.wb_link.proofs.Link.{Bounded}

pub contains_cases : (o : ℕ) (os : List ℕ) (i : ℕ) → Contains (o ∷ os) i → (o ≡ i) ⊎ Contains os i
contains_cases o os i (zero, l, e) = inl e
contains_cases o os i (suc k, l, e) = inr (k, omega arith, e)

pub contains_more : (o : ℕ) (os : List ℕ) (i : ℕ) → Contains os i → Contains (o ∷ os) i
contains_more o os i (k, l, e) = (suc k, omega (arith, l), e)

pub alike_on : (os : List ℕ) (c f g : ℕ → Content) → ((i : ℕ) → g i ≡ f i) → AreAlike os c f → AreAlike os c g
alike_on [] c f g s k = tt
alike_on (o ∷ os) c f g s k = (k.0 ∙ sym (s o), alike_on os c f g s k.1)

-- all but the sectors of these extents
abbrev pub EqualBut : ℕ → List (List ℕ) → (ℕ → Content) → (ℕ → Content) → Type 0
EqualBut size left f g = (i : ℕ) → i < size → AreIn left i ⊎ (f i ≡ g i)

pub equal_on : (size : ℕ) (left : List (List ℕ)) (f g f' g' : ℕ → Content) → ((i : ℕ) → f' i ≡ f i) → ((i : ℕ) → g' i ≡ g i) → EqualBut size left f g → EqualBut size left f' g'
equal_on size left f g f' g' a b k i l = elim (k i l) [ inl m ↦ inl m | inr e ↦ inr (a i ∙ e ∙ sym (b i)) ]

pub equal_more : (size o : ℕ) (os : List ℕ) (rest : List (List ℕ)) (f g f' g' : ℕ → Content) → f' o ≡ g' o → ((i : ℕ) → i ≢ o → f' i ≡ f i) → ((i : ℕ) → g' i ≡ g i) → EqualBut size ((o ∷ os) ∷ rest) f g → EqualBut size (os ∷ rest) f' g'
equal_more size o os rest f g f' g' here a b k i l = elim (cases_eq i o) [
  | inl e ↦ inr (ap f' e ∙ here ∙ ap g' (sym e))
  | inr n ↦ elim (k i l) [
    | inr e ↦ inr (a i n ∙ e ∙ sym (b i))
    | inl (inr m) ↦ inl (inr m)
    | inl (inl m) ↦ elim (contains_cases o os i m) [ inl e ↦ absurd (n (sym e)) | inr m ↦ inl (inl m) ]
  ]
]

pub equal_next : (size : ℕ) (rest : List (List ℕ)) (f g : ℕ → Content) → EqualBut size ([] ∷ rest) f g → EqualBut size rest f g
equal_next size rest f g k i l = elim (k i l) [ inl (inl m) ↦ absurd (omega (arith, m.1)) | inl (inr m) ↦ inl m | inr e ↦ inr e ]

pub equal_all : (size : ℕ) (f g : ℕ → Content) → EqualBut size [] f g → ((i : ℕ) → size ≤ i → f i ≡ g i) → (i : ℕ) → f i ≡ g i
equal_all size f g k past i = elim (cases_lt i size) [
  | inl l ↦ elim (k i l) [ inl m ↦ absurd m | inr e ↦ e ]
  | inr l ↦ past i (omega arith)
]

-- past a block's sectors everything has one content
pub past_equal : (size : ℕ) (e : Volume) (b k : ℕ) → Bounded size e → (i : ℕ) → size ≤ i → newest (e.cache k i) ≡ newest (e.origin b i)
past_equal size e b k z i l = ap newest ((z.1 k i l).1) ∙ sym (ap newest ((z.1 b i l).0))
