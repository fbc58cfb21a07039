-- Two images leave all places free but those that they use.
use Rattle.std.proofs.Common.{◌≡◌, ◌≢◌, ◌≤◌, ◌+◌, ◌*◌, ◌-◌, ◌&&◌, ℕ, zero, suc, List, [], ◌∷◌, Bool, true, false, not, cond, length, get_or, set, refl, sym, ap, ◌∙◌, arith, inl, inr, get_or-set_other}
use Rattle.std.specs.Prelude.{filter}
use Rattle.std.specs.List.{range_with_len}
use Rattle.std.proofs.lemmas.Bool.{cases_eq}
use Rattle.std.proofs.lemmas.List.Sums.{length-filter}
use Rattle.std.proofs.lemmas.List.Recursion.{is_count_by}
use Rattle.wb_bits.proofs.Chosen.{chosen}
use Rattle.wb_types.specs.declared.number.Place.{Place}
use Rattle.wb_space.specs.Places.{PlacesInUse, noted, unused, is_free_place, free_places}
use Rattle.wb_space.proofs.Noted.{length-noted_alone}
use Rattle.wb_space.proofs.Differing.{get_or-unused}

abbrev uses : List Bool → List Bool → PlacesInUse
uses a b = record { committed = a; running = b }

same_count : (q r : ℕ → Bool) (s n : ℕ) → ((k : ℕ) → s ≤ k → q k ≡ r k) → chosen q (range_with_len s n) ≡ chosen r (range_with_len s n)
same_count q r s zero h = refl
same_count q r s (suc n) h = ap (λ (b : Bool). cond b (suc (chosen q (range_with_len (s + 1) n))) (chosen q (range_with_len (s + 1) n))) (h s (omega arith))
    ∙ ap (λ (m : ℕ). cond (r s) (suc m) m) (same_count q r (s + 1) n (λ k l. h k (omega arith)))

one_at_most : (b c : Bool) (m n : ℕ) → m ≡ n → cond b (suc m) m ≤ suc (cond c (suc n) n)
one_at_most true true m n e = omega (arith, e)
one_at_most true false m n e = omega (arith, e)
one_at_most false true m n e = omega (arith, e)
one_at_most false false m n e = omega (arith, e)

still_fewer : (b c : Bool) (m n : ℕ) → b ≡ c → m ≤ suc n → cond b (suc m) m ≤ suc (cond c (suc n) n)
still_fewer true true m n e l = omega (arith, l)
still_fewer true false m n e l = absurd (cc)
still_fewer false true m n e l = absurd (cc)
still_fewer false false m n e l = omega (arith, l)

one_fewer : (q r : ℕ → Bool) (p s n : ℕ) → ((k : ℕ) → k ≢ p → q k ≡ r k) → chosen q (range_with_len s n) ≤ suc (chosen r (range_with_len s n))
one_fewer q r p s zero h = omega arith
one_fewer q r p s (suc n) h = elim (cases_eq s p) [
  | inl e ↦ one_at_most (q s) (r s) (chosen q (range_with_len (s + 1) n)) (chosen r (range_with_len (s + 1) n)) (same_count q r (s + 1) n (λ k l. h k (λ f. absurd (omega arith))))
  | inr d ↦ still_fewer (q s) (r s) (chosen q (range_with_len (s + 1) n)) (chosen r (range_with_len (s + 1) n)) (h s d) (one_fewer q r p (s + 1) n h)
]

all_count : (q : ℕ → Bool) (s n : ℕ) → ((k : ℕ) → q k ≡ true) → chosen q (range_with_len s n) ≡ n
all_count q s zero h = refl
all_count q s (suc n) h = ap (λ (b : Bool). cond b (suc (chosen q (range_with_len (s + 1) n))) (chosen q (range_with_len (s + 1) n))) (h s) ∙ ap suc (all_count q (s + 1) n h)

length-chosen : (q : ℕ → Bool) (xs : List ℕ) → length (filter q xs) ≡ chosen q xs
length-chosen q xs = length-filter q xs ∙ sym (is_count_by (chosen q) q refl (λ x ys. let e : suc (chosen q ys) ≡ 1 + chosen q ys = omega arith in ap (λ (m : ℕ). cond (q x) m (chosen q ys)) e) xs)

after_committed : (ps : List Place) (a b : List Bool) (n : ℕ) → chosen (is_free_place (uses a b)) (range_with_len 2 n) ≤ chosen (is_free_place (uses (noted ps a) b)) (range_with_len 2 n) + length ps
after_committed [] a b n = omega arith
after_committed (p ∷ ps) a b n = let one = one_fewer (is_free_place (uses a b)) (is_free_place (uses (set a p.0 true) b)) p.0 2 n (λ k d. ap (λ (x : Bool). not x && not (get_or b k false)) (sym (get_or-set_other a p.0 k true false d))) in
    omega (arith, one, after_committed ps (set a p.0 true) b n)

after_running : (ps : List Place) (a b : List Bool) (n : ℕ) → chosen (is_free_place (uses a b)) (range_with_len 2 n) ≤ chosen (is_free_place (uses a (noted ps b))) (range_with_len 2 n) + length ps
after_running [] a b n = omega arith
after_running (p ∷ ps) a b n = let one = one_fewer (is_free_place (uses a b)) (is_free_place (uses a (set b p.0 true))) p.0 2 n (λ k d. ap (λ (x : Bool). not (get_or a k false) && not x) (sym (get_or-set_other b p.0 k true false d))) in
    omega (arith, one, after_running ps a (set b p.0 true) n)

pub places_suffice : (n m : ℕ) (committed running : List Place) → 2 * n + m ≤
    length (free_places (uses (noted committed (unused (2 + 2 * n + m))) (noted running (unused (2 + 2 * n + m))))) + length committed + length running
places_suffice n m committed running =
    let none : List Bool = unused (2 + 2 * n + m) in
    let a : List Bool = noted committed none in
    let b : List Bool = noted running none in
    let all : chosen (is_free_place (uses none none)) (range_with_len 2 (2 * n + m)) ≡ 2 * n + m = all_count (is_free_place (uses none none)) 2 (2 * n + m)
    (λ k. ap (λ (x : Bool). not x && not (get_or none k false)) (get_or-unused (2 + 2 * n + m) k) ∙ ap (λ (x : Bool). not false && not x) (get_or-unused (2 + 2 * n + m) k)) in
    let size : length a - 2 ≡ 2 * n + m = omega (arith, length-noted_alone committed (2 + 2 * n + m)) in
    let counted : length (free_places (uses a b)) ≡ chosen (is_free_place (uses a b)) (range_with_len 2 (2 * n + m)) =
    length-chosen (is_free_place (uses a b)) (range_with_len 2 (length a - 2)) ∙ ap (λ (k : ℕ). chosen (is_free_place (uses a b)) (range_with_len 2 k)) size in
    omega (arith, all, counted, after_committed committed none none (2 * n + m), after_running running a none (2 * n + m))
