-- Lists of places that differ where they are marked.
use Rattle.std.proofs.Common.{◌≡◌, ◌<◌, ◌&&◌, ℕ, zero, suc, List, [], ◌∷◌, Bool, true, false, not, length, get_or, set, refl, sym, ap, ◌∙◌, arith, inl, inr, get_or-set_same, get_or-set_other}
use Rattle.std.proofs.lemmas.Bool.{cases_eq, cases_lt}
use Rattle.std.proofs.lemmas.List.{ext_get_or, get_or-replicate, get_or_past, length-replicate}
use Rattle.wb_space.specs.Places.{unused, without}
use Rattle.wb_space.specs.Bounds.{AreEven}
use Rattle.wb_space.specs.declared.places.Places.TheInside.{Inside}

pub get_or-unused : (count k : ℕ) → get_or (unused count) k false ≡ false
get_or-unused count k = elim (cases_lt k count) [
  | inl l ↦ get_or-replicate {A = Bool} count k false false l
  | inr p ↦ get_or_past (unused count) k false (omega (arith, length-replicate {A = Bool} count false))
]

-- ---- places that leave

and_false : (u : Bool) → (u && false) ≡ false
and_false true = refl
and_false false = refl

pub length-without : (left uses : List Bool) → length (without left uses) ≡ length uses
length-without [] uses = refl
length-without (l ∷ left) [] = refl
length-without (l ∷ left) (u ∷ uses) = ap suc (length-without left uses)

-- one that left is taken out of both
pub one_left : (left uses : List Bool) (at : ℕ) → get_or left at false ≡ true → without (set left at false) (set uses at false) ≡ without left uses
one_left [] uses at is = absurd (cc)
one_left (l ∷ left) [] zero is = refl
one_left (l ∷ left) [] (suc at) is = refl
one_left (l ∷ left) (u ∷ uses) zero is = ap (λ (b : Bool). b ∷ without left uses) (sym (and_false u) ∙ ap (λ (b : Bool). u && not b) (sym is))
one_left (l ∷ left) (u ∷ uses) (suc at) is = ap (λ bs. (u && not l) ∷ bs) (one_left left uses at is)

and_true : (u : Bool) → (u && true) ≡ u
and_true true = refl
and_true false = refl

pub none_leaves : (count : ℕ) (uses : List Bool) → without (unused count) uses ≡ uses
none_leaves zero uses = refl
none_leaves (suc count) [] = refl
none_leaves (suc count) (u ∷ uses) = ap (λ b. b ∷ without (unused count) uses) (and_true u) ∙ ap (λ bs. u ∷ bs) (none_leaves count uses)

pub get_or-without : (left uses : List Bool) (k : ℕ) → get_or (without left uses) k false ≡ (get_or uses k false && not (get_or left k false))
get_or-without [] uses k = sym (and_true (get_or uses k false))
get_or-without (l ∷ left) [] k = refl
get_or-without (l ∷ left) (u ∷ uses) zero = refl
get_or-without (l ∷ left) (u ∷ uses) (suc k) = get_or-without left uses k

-- ---- where they differ

-- they differ at marked places alone
abbrev pub DifferAt : List Bool → List Bool → List Bool → Type 0
DifferAt marks xs ys = (k : ℕ) → get_or marks k false ≡ false → get_or xs k false ≡ get_or ys k false

-- where no place is marked they are the same
pub same_unmarked : (marks xs ys : List Bool) → length xs ≡ length ys → ((k : ℕ) → get_or marks k false ≡ false) → DifferAt marks xs ys → xs ≡ ys
same_unmarked marks xs ys even none d = ext_get_or false xs ys even (λ k l. d k (none k))

-- a place is no longer marked, where the one list has what the other has
pub differ_less : (marks xs ys : List Bool) (at : ℕ) (b : Bool) → at < length xs → b ≡ get_or ys at false → DifferAt marks xs ys → DifferAt (set marks at false) (set xs at b) ys
differ_less marks xs ys at b l same d k none = elim (cases_eq k at) [
  | inl e ↦ ap (λ k. get_or (set xs at b) k false) e ∙ get_or-set_same xs at b false l ∙ same ∙ ap (λ k. get_or ys k false) (sym e)
  | inr n ↦ get_or-set_other xs at k b false n ∙ d k (sym (get_or-set_other marks at k false false n) ∙ none)
]

-- where no commit runs the newest image is the committed one
pub idle_same : (p : Inside) → AreEven p → p.committing ≡ false → p.newest ≡ p.committed
idle_same p h idle = same_unmarked p.changed p.newest p.committed h.even (λ k. ap (λ marks. get_or marks k false) (h.idle idle) ∙ get_or-unused (length p.committed) k) h.elsewhere
