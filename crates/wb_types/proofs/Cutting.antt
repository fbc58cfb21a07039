-- A whole that is cut: into how many extents, and that it can be cut.
use Rattle.std.proofs.Common.{◌≡◌, ◌≤◌, ◌+◌, ◌-◌, ◌++◌, inl, inr, ℕ, zero, suc, min, List, [], ◌∷◌, length, refl, sym, ap, ◌∙◌, subst, arith, length-append}
use Rattle.std.specs.Prelude.{All, IsPermutation}
use Rattle.std.proofs.lemmas.Bool.{cases_lt}
use Rattle.std.proofs.lemmas.List.Elements.{All-nil, All-cons}
use Rattle.std.proofs.lemmas.List.Sorted.{length_permutation, IsPermutation-refl}
use Rattle.wb_types.specs.declared.extent.Extent.{Extent}
use Rattle.wb_types.specs.Extents.{rising, sectors_in, sectors_of, IsCutInto, cut_by, pieces}

pub length_rising : (first n : ℕ) → length (rising first n) ≡ n
length_rising first zero = refl
length_rising first (suc n) = ap (λ k. suc k) (length_rising (first + 1) n)

at_most : (extents : List Extent) → All (λ (e : Extent). 1 ≤ e.count) extents → length extents ≤ length (sectors_of extents)
at_most [] h = omega arith
at_most (e ∷ es) h = let here : 1 ≤ e.count = h 0 e (omega arith) in let more = at_most es (λ k d l. h (suc k) d (omega (arith, l))) in
    rw (length-append (sectors_in e) (sectors_of es), length_rising e.first e.count) (omega (arith, here, more))

-- no more extents than sectors
pub cut_short : (whole : Extent) (extents : List Extent) → IsCutInto whole extents → length extents ≤ whole.count
cut_short whole extents i =
    let all : length (sectors_of extents) ≡ whole.count = length_permutation (sectors_in whole) (sectors_of extents) i.each_once ∙ length_rising whole.first whole.count in
    let few = at_most extents i.none_empty in omega (arith, all, few)

rising_more : (first a b : ℕ) → rising first (a + b) ≡ rising first a ++ rising (first + a) b
rising_more first zero b = let none : zero + b ≡ b = omega arith in let same : first ≡ first + zero = omega arith in ap (λ k. rising first k) none ∙ ap (λ k. rising k b) same
rising_more first (suc a) b = let one : suc a + b ≡ suc (a + b) = omega arith in let on : (first + 1) + a ≡ first + suc a = omega arith in
    ap (λ k. rising first k) one ∙ ap (λ l. first ∷ l) (rising_more (first + 1) a b ∙ ap (λ k. rising (first + 1) a ++ rising k b) on)

appended : (xs : List ℕ) → xs ++ [] ≡ xs
appended [] = refl
appended (x ∷ xs) = ap (λ l. x ∷ l) (appended xs)

-- pieces have the sectors of the whole, in their order
pub cut_sectors : (most piece first count : ℕ) → 1 ≤ piece → count ≤ most → sectors_of (cut_by most piece first count) ≡ rising first count
cut_sectors zero piece first zero p m = refl
cut_sectors zero piece first (suc n) p m = absurd (omega (arith, m))
cut_sectors (suc most) piece first zero p m = refl
cut_sectors (suc most) piece first (suc n) p m =
    let rest = cut_sectors most piece (first + piece) (suc n - piece) p (omega (arith, p, m)) in
    ap (λ l. rising first (min piece (suc n)) ++ l) rest ∙ elim (cases_lt piece (suc n)) [
      | inl l ↦ let is : min piece (suc n) ≡ piece = omega (arith, l) in let sum : piece + (suc n - piece) ≡ suc n = omega (arith, l) in
          ap (λ k. rising first k ++ rising (first + piece) (suc n - piece)) is ∙ sym (rising_more first piece (suc n - piece)) ∙ ap (λ k. rising first k) sum
      | inr l ↦ let is : min piece (suc n) ≡ suc n = omega (arith, l) in let none : suc n - piece ≡ 0 = omega (arith, l) in
          ap (λ k. rising first k ++ rising (first + piece) (suc n - piece)) is ∙ ap (λ k. rising first (suc n) ++ rising (first + piece) k) none ∙ appended (rising first (suc n))
    ]

cut_none_empty : (most piece first count : ℕ) → 1 ≤ piece → All (λ (e : Extent). 1 ≤ e.count) (cut_by most piece first count)
cut_none_empty zero piece first count p = All-nil (λ (e : Extent). 1 ≤ e.count)
cut_none_empty (suc most) piece first zero p = All-nil (λ (e : Extent). 1 ≤ e.count)
cut_none_empty (suc most) piece first (suc n) p = All-cons (λ (e : Extent). 1 ≤ e.count) _ _ (omega (arith, p)) (cut_none_empty most piece (first + piece) (suc n - piece) p)

-- and it is cut into pieces of any size
pub pieces_cut : (piece : ℕ) (whole : Extent) → 1 ≤ piece → IsCutInto whole (pieces piece whole)
pieces_cut piece whole p = record {
  each_once = subst (λ (l : List ℕ). IsPermutation (sectors_in whole) l) (sym (cut_sectors whole.count piece whole.first whole.count p (omega arith))) (IsPermutation-refl (sectors_in whole));
  none_empty = cut_none_empty whole.count piece whole.first whole.count p;
}
