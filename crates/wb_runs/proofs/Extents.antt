-- The extents of a request that lies in one block lie in it, too.
use Rattle.std.proofs.Common.{◌≡◌, ◌≤◌, ◌<◌, ◌+◌, ◌-◌, ◌*◌, ◌/◌, ◌%◌, ℕ, zero, suc, List, [], ◌∷◌, ◌++◌, refl, sym, ap, ◌∙◌, arith, ◌&&◌, inl, inr, Bool, true, false, Some, None, mul_comm}
use Rattle.std.proofs.Common.{subst, Contains}
use Rattle.std.proofs.lemmas.List.Elements.{Contains-append_cases}
use Rattle.wb_types.proofs.Lists.{Contains-one}
use Rattle.std.specs.Prelude.{All, nat_le, nat_lt, if◌then◌else◌}
use Rattle.std.specs.List.{AllByRecursion}
use Rattle.std.proofs.lemmas.Nat.{le-div}
use Rattle.std.proofs.lemmas.List.Sorted.{All-permutation}
use Rattle.std.proofs.lemmas.List.Elements.{recursion_from_All}
use Rattle.std.proofs.Math.Nat.{div-mul-le_self, div-add-mod}
use Rattle.wb_types.specs.declared.extent.Extent.{Extent}
use Rattle.wb_types.specs.declared.number.OBlock.{OBlock}
use Rattle.wb_types.specs.Extents.{rising, sectors_in, sectors_of, IsCutInto}
use Rattle.std.proofs.lemmas.Bool.{eqb-true, leb-true, ltb-true}
use Rattle.wb_types.specs.declared.refusal.Refusal.TheVariants.{Range, Crosses}
use Rattle.wb_promise.specs.declared.job.Job.TheVariants.{Invalidate}
use Rattle.wb_promise.specs.States.{Shape, sector_count}
use Rattle.wb_promise.specs.Happenings.{job_refusal, extent_refusal, is_in_one_block}
use Rattle.wb_promise.specs.Clerk.{sector_for}

-- an extent of some sectors, and not an empty one
pub record Within (whole e : Extent) : Type 0 where
  pub some : 1 ≤ e.count
  pub from : whole.first ≤ e.first
  pub to : e.first + e.count ≤ whole.first + whole.count

abbrev pub AllWithin : Extent → List Extent → Type 0
AllWithin whole [] = Unit {0}
AllWithin whole (e ∷ es) = Within whole e × AllWithin whole es

-- what it means that a job is not refused
pub record MayStart (shape : Shape) (extent : Extent) : Type 0 where
  pub some : 1 ≤ extent.count
  pub inside : extent.first + extent.count ≤ sector_count shape
  pub one_block : extent.first / shape.geometry.block ≡ (extent.first + extent.count - 1) / shape.geometry.block

pub may_start : (shape : Shape) (extent : Extent) → extent_refusal shape extent ≡ None → MayStart shape extent
may_start shape extent e = go (nat_le 1 extent.count) (nat_le (extent.first + extent.count) (sector_count shape)) (is_in_one_block shape extent) refl refl refl e where
  go : (a b c : Bool) → nat_le 1 extent.count ≡ a → nat_le (extent.first + extent.count) (sector_count shape) ≡ b → is_in_one_block shape extent ≡ c →
      (if (a && b) then (if c then None else Some Crosses) else Some Range) ≡ None → MayStart shape extent
  go true true true f g h e = record { some = leb-true _ _ f; inside = leb-true _ _ g; one_block = eqb-true _ _ h }
  go true true false f g h e = absurd (cc)
  go true false c f g h e = absurd (cc)
  go false b c f g h e = absurd (cc)

-- an invalidation starts on a block of the origin
pub block_there : (shape : Shape) (block : OBlock) → job_refusal shape (Invalidate block) ≡ None → block.0 < shape.geometry.origin_blocks
block_there shape block e = go (nat_lt block.0 shape.geometry.origin_blocks) refl e where
  go : (t : Bool) → nat_lt block.0 shape.geometry.origin_blocks ≡ t → (if t then None else Some Range) ≡ None → block.0 < shape.geometry.origin_blocks
  go true f e = ltb-true _ _ f
  go false f e = absurd (cc)

pub some_sectors : (shape : Shape) (extent : Extent) → MayStart shape extent → 0 < shape.geometry.block
some_sectors shape extent m = go shape.geometry.block refl where
  go : (k : ℕ) → shape.geometry.block ≡ k → 0 < shape.geometry.block
  go zero e = let none : sector_count shape ≡ 0 = ap (λ k. k * shape.geometry.origin_blocks) e ∙ omega arith in absurd (omega (arith, m.some, m.inside))
  go (suc k) e = omega arith

div-le_div : (a b k : ℕ) → 0 < k → a ≤ b → a / k ≤ b / k
div-le_div a b k p l = le-div (a / k) b k p (omega (arith, div-mul-le_self a k))

-- each sector of an extent is of the request's block
pub in_block : (shape : Shape) (request e : Extent) (at : ℕ) → MayStart shape request → Within request e → e.first ≤ at → at < e.first + e.count → at / shape.geometry.block ≡ request.first / shape.geometry.block
in_block shape request e at m i l b =
    let some = some_sectors shape request m in
    let low = div-le_div request.first at shape.geometry.block some (omega (arith, i.from, l)) in
    let high = div-le_div at (request.first + request.count - 1) shape.geometry.block some (omega (arith, i.to, b)) in
    omega (arith, low, high, m.one_block)

-- the sectors that the clerk writes down for an extent of the origin are its own
pub sector_is : (shape : Shape) (request e : Extent) → MayStart shape request → Within request e → sector_for shape request e ≡ e.first
sector_is shape request e m i =
    let here = in_block shape request e e.first m i (omega arith) (omega (arith, i.some)) in
    let back = div-add-mod e.first shape.geometry.block in
    ap (λ b. b * shape.geometry.block + e.first % shape.geometry.block) (sym here) ∙ swapped (e.first / shape.geometry.block) shape.geometry.block (e.first % shape.geometry.block) ∙ back
  where
    swapped : (b size rest : ℕ) → b * size + rest ≡ size * b + rest
    swapped b size rest = ap (λ z. z + rest) (Rattle.std.proofs.Common.mul_comm b size)

-- What holds of all sectors of some extents holds of the first one's, and of those of the others.
take_first : (P : ℕ → Type 0) (first n : ℕ) (more : List ℕ) → AllByRecursion P (rising first n ++ more) → ((k : ℕ) → k < n → P (first + k)) × AllByRecursion P more
take_first P first zero more a = (λ k l. absurd (omega (arith, l)), a)
take_first P first (suc n) more a =
    let rest = take_first P (first + 1) n more a.1 in
    (each rest.0, rest.1)
  where
    each : ((k : ℕ) → k < n → P ((first + 1) + k)) → (k : ℕ) → k < suc n → P (first + k)
    each rest zero l = let same : first ≡ first + zero = omega arith in subst_at same a.0
      where
        subst_at : {x y : ℕ} → x ≡ y → P x → P y
        subst_at e p = Rattle.std.proofs.Common.subst P e p
    each rest (suc k) l = let same : (first + 1) + k ≡ first + suc k = omega arith in Rattle.std.proofs.Common.subst P same (rest k (omega (arith, l)))

all_within : (whole : Extent) (es : List Extent) → AllByRecursion (λ (e : Extent). 1 ≤ e.count) es → AllByRecursion (λ (at : ℕ). (whole.first ≤ at) × (at < whole.first + whole.count)) (sectors_of es) → AllWithin whole es
all_within whole [] some a = tt
all_within whole (e ∷ es) some a =
    let P : ℕ → Type 0 = λ at. (whole.first ≤ at) × (at < whole.first + whole.count) in
    let parts = take_first P e.first e.count (sectors_of es) a in
    let first = parts.0 0 (omega (arith, some.0)) in
    let last = parts.0 (e.count - 1) (omega (arith, some.0)) in
    (record { some = some.0; from = omega (arith, first.0); to = omega (arith, last.1, some.0) }, all_within whole es some.1 parts.1)

own_sectors : (P : ℕ → Type 0) (first n : ℕ) → ((k : ℕ) → k < n → P (first + k)) → All P (rising first n)
own_sectors P first zero p = Rattle.std.proofs.lemmas.List.Elements.All-nil P
own_sectors P first (suc n) p =
    let here : first + 0 ≡ first = omega arith in
    Rattle.std.proofs.lemmas.List.Elements.All-cons P first (rising (first + 1) n) (Rattle.std.proofs.Common.subst P here (p 0 (omega arith)))
    (own_sectors P (first + 1) n (λ k l. let same : first + suc k ≡ (first + 1) + k = omega arith in Rattle.std.proofs.Common.subst P same (p (suc k) (omega (arith, l)))))

-- however sectors are cut, each extent is one of them
pub cut_within : (whole : Extent) (cut : List Extent) → IsCutInto whole cut → AllWithin whole cut
cut_within whole cut i =
    let P : ℕ → Type 0 = λ at. (whole.first ≤ at) × (at < whole.first + whole.count) in
    let own : All P (sectors_in whole) = own_sectors P whole.first whole.count (λ k l. (omega arith, omega (arith, l))) in
    all_within whole cut (recursion_from_All _ cut i.none_empty) (recursion_from_All P (sectors_of cut) (All-permutation P (sectors_in whole) (sectors_of cut) i.each_once own))

-- so what the clerk writes down of the extents of a cut are their own sectors
pub cut_own : (shape : Shape) (extent : Extent) (cut : List Extent) → MayStart shape extent → AllWithin extent cut → (e : Extent) → Contains cut e → sector_for shape extent e ≡ e.first
cut_own shape extent [] m i e c = absurd (omega (arith, c.1))
cut_own shape extent (x ∷ xs) m i e c = elim (Contains-append_cases (x ∷ []) xs e c) [
  | inl s ↦ subst (λ (y : Extent). sector_for shape extent y ≡ y.first) (sym (Contains-one x e s)) (sector_is shape extent x m i.0)
  | inr r ↦ cut_own shape extent xs m i.1 e r
]

-- and they are sectors of the origin
pub cut_inside : (shape : Shape) (extent : Extent) (cut : List Extent) → MayStart shape extent → AllWithin extent cut → (e : Extent) → Contains cut e → e.first + e.count ≤ sector_count shape
cut_inside shape extent [] m i e c = absurd (omega (arith, c.1))
cut_inside shape extent (x ∷ xs) m i e c = elim (Contains-append_cases (x ∷ []) xs e c) [
  | inl s ↦ subst (λ (y : Extent). y.first + y.count ≤ sector_count shape) (sym (Contains-one x e s)) (omega (arith, i.0.to, m.inside))
  | inr r ↦ cut_inside shape extent xs m i.1 e r
]

-- and of the request's block
pub cut_of_block : (shape : Shape) (extent : Extent) (cut : List Extent) → MayStart shape extent → AllWithin extent cut → (e : Extent) → Contains cut e →
    (at : ℕ) → e.first ≤ at → at < e.first + e.count → at / shape.geometry.block ≡ extent.first / shape.geometry.block
cut_of_block shape extent [] m i e c = absurd (omega (arith, c.1))
cut_of_block shape extent (x ∷ xs) m i e c = elim (Contains-append_cases (x ∷ []) xs e c) [
  | inl s ↦ subst (λ (y : Extent). (at : ℕ) → y.first ≤ at → at < y.first + y.count → at / shape.geometry.block ≡ extent.first / shape.geometry.block) (sym (Contains-one x e s)) (λ at low high. in_block shape extent x at m i.0 low high)
  | inr r ↦ cut_of_block shape extent xs m i.1 e r
]
