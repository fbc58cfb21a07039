-- Pieces of sectors, the first of them taken off.
use Rattle.std.proofs.Common.{◌≡◌, ◌≤◌, ◌<◌, ◌+◌, ◌-◌, inl, inr, ℕ, zero, suc, min, ◌∷◌, refl, ap, ◌∙◌, arith}
use Rattle.std.proofs.lemmas.Bool.{cases_lt}
use Rattle.wb_types.specs.Extents.{cut_by, pieces}

-- a higher bound cuts no further
same_cut : (most other piece first count : ℕ) → 1 ≤ piece → count ≤ most → count ≤ other → cut_by most piece first count ≡ cut_by other piece first count
same_cut zero zero piece first count p m o = refl
same_cut zero (suc other) piece first zero p m o = refl
same_cut zero (suc other) piece first (suc n) p m o = absurd (omega (arith, m))
same_cut (suc most) zero piece first zero p m o = refl
same_cut (suc most) zero piece first (suc n) p m o = absurd (omega (arith, o))
same_cut (suc most) (suc other) piece first zero p m o = refl
same_cut (suc most) (suc other) piece first (suc n) p m o = ap (λ es. record { first = first; count = min piece (suc n) } ∷ es)
    (same_cut most other piece (first + piece) (suc n - piece) p (omega (arith, p, m)) (omega (arith, p, o)))

enough : (most piece first count : ℕ) → 1 ≤ piece → count ≤ most → cut_by most piece first count ≡ cut_by count piece first count
enough most piece first count p m = same_cut most count piece first count p m (omega arith)

after_first : (piece first n : ℕ) → 1 ≤ piece → cut_by n piece (first + piece) (suc n - piece) ≡ pieces piece (record { first = first + min (suc n) piece; count = suc n - min (suc n) piece })
after_first piece first n p = elim (cases_lt piece (suc n)) [
  | inl l ↦ let is : min (suc n) piece ≡ piece = omega (arith, l) in rw is (enough n piece (first + piece) (suc n - piece) p (omega (arith, p)))
  | inr l ↦ let is : min (suc n) piece ≡ suc n = omega (arith, l) in let none : suc n - piece ≡ 0 = omega (arith, l) in let same : suc n - suc n ≡ 0 = omega arith in
      rw (is, none, same) (enough n piece (first + piece) 0 p (omega arith))
]

-- the first piece, and those of the sectors after it
pub first_piece : (piece first count : ℕ) → 1 ≤ piece → 0 < count →
    pieces piece (record { first = first; count = count }) ≡ record { first = first; count = min count piece } ∷ pieces piece (record { first = first + min count piece; count = count - min count piece })
first_piece piece first zero p s = absurd (omega (arith, s))
first_piece piece first (suc n) p s =
    let same : min piece (suc n) ≡ min (suc n) piece = omega arith in
    ap (λ k. record { first = first; count = k } ∷ cut_by n piece (first + piece) (suc n - piece)) same ∙ ap (λ es. record { first = first; count = min (suc n) piece } ∷ es) (after_first piece first n p)
