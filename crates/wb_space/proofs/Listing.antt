-- The free places from some place on.
use Rattle.std.proofs.Common.{◌≡◌, ◌≤◌, ◌<◌, ◌+◌, ◌-◌, ◌∙◌, ℕ, zero, suc, Bool, true, false, cond, List, [], ◌∷◌, ◌++◌, length, map, take, filter, refl, sym, ap, arith, append_assoc, inl, inr}
use Rattle.std.specs.List.{range_with_len}
use Rattle.std.proofs.lemmas.List.{append-nil, length-append}
use Rattle.std.proofs.lemmas.Bool.{cases_lt}
use Rattle.wb_bits.specs.Leasts.{IsLeastFrom}
use Rattle.wb_types.specs.declared.number.Place.{Place}
use Rattle.wb_space.specs.Places.{PlacesInUse, is_free_place, place}

abbrev pub free_from : PlacesInUse → ℕ → List ℕ
free_from p at = filter (is_free_place p) (range_with_len at (length p.committed - at))

-- the list begins with a place where that is free
first : (p : PlacesInUse) (at : ℕ) (b : Bool) → at < length p.committed → is_free_place p at ≡ b → free_from p at ≡ cond b (at ∷ free_from p (at + 1)) (free_from p (at + 1))
first p at b less is =
    let more : length p.committed - at ≡ suc (length p.committed - (at + 1)) = omega arith in
    ap (λ n. filter (is_free_place p) (range_with_len at n)) more
    ∙ ap (λ (b : Bool). cond b (at ∷ free_from p (at + 1)) (free_from p (at + 1))) is

-- where places are used, one or some, the others are left
pub used_skipped : (p : PlacesInUse) (n at : ℕ) → at + n ≤ length p.committed → ((k : ℕ) → at ≤ k → k < at + n → is_free_place p k ≡ false) → free_from p at ≡ free_from p (at + n)
used_skipped p zero at inside used = let same : at + zero ≡ at = omega arith in ap (free_from p) (sym same)
used_skipped p (suc n) at inside used =
    let next : at + 1 + n ≡ at + suc n = omega arith in
    first p at false (omega arith) (used at (omega arith) (omega arith))
    ∙ used_skipped p n (at + 1) (omega arith) (λ k from to. used k (omega arith) (omega arith))
    ∙ ap (free_from p) next

-- what is listed, and what is still to be listed, are the wanted ones
pub record AreListed (p : PlacesInUse) (n at : ℕ) (places : List Place) : Type 0 where
  pub few : length places ≤ n
  pub are : places ++ map place (take (n - length places) (free_from p at)) ≡ map place (take n (free_from p 2))

pub none_listed : (p : PlacesInUse) (n : ℕ) → AreListed p n 2 []
none_listed p n = let all : n - 0 ≡ n = omega arith in record { few = omega arith; are = ap (λ m. map place (take m (free_from p 2))) all }

-- the least free one from there on is the next
pub listed_next : (p : PlacesInUse) (n from at : ℕ) (places : List Place) → at < length p.committed → length places < n → IsLeastFrom (is_free_place p) from at → AreListed p n from places
    → AreListed p n (at + 1) (places ++ place at ∷ [])
listed_next p n from at places inside less found l =
    let one : length (places ++ place at ∷ []) ≡ length places + 1 = length-append places (place at ∷ []) in
    let left : n - length places ≡ suc (n - (length places + 1)) = omega arith in
    record {
      few = omega (arith, one);
      are = append_assoc places (place at ∷ []) _
          ∙ ap (λ m. places ++ place at ∷ map place (take (n - m) (free_from p (at + 1)))) one
          ∙ ap (λ xs. places ++ map place xs) (sym (ap (λ m. take m (free_from p from)) left ∙ ap (λ xs. take (suc (n - (length places + 1))) xs) next))
          ∙ l.are;
    }
  where
    there : from + (at - from) ≡ at
    there = omega (arith, found.onward)

    next : free_from p from ≡ at ∷ free_from p (at + 1)
    next = used_skipped p (at - from) from (omega (arith, inside, found.onward)) (λ k onward before. found.least k onward (omega (arith, before, found.onward)))
        ∙ ap (free_from p) there ∙ first p at true inside found.holds

-- no place from there on is free
none_from : (p : PlacesInUse) (from : ℕ) → ((at : ℕ) → from ≤ at → at < length p.committed → is_free_place p at ≡ false) → free_from p from ≡ []
none_from p from none = elim (cases_lt from (length p.committed)) [
  | inl l ↦
      let all : length p.committed - (from + (length p.committed - from)) ≡ 0 = omega arith in
      used_skipped p (length p.committed - from) from (omega arith) (λ k onward before. none k onward (omega arith))
      ∙ ap (λ m. filter (is_free_place p) (range_with_len (from + (length p.committed - from)) m)) all
  | inr past ↦
      let all : length p.committed - from ≡ 0 = omega arith in
      ap (λ m. filter (is_free_place p) (range_with_len from m)) all
]

pub none_left : (p : PlacesInUse) (n from : ℕ) (places : List Place) → ((at : ℕ) → from ≤ at → at < length p.committed → is_free_place p at ≡ false) → AreListed p n from places
    → places ≡ map place (take n (free_from p 2))
none_left p n from places none l =
    sym (append-nil places) ∙ ap (λ xs. places ++ map place xs) (sym (take_none (n - length places)))
    ∙ ap (λ xs. places ++ map place (take (n - length places) xs)) (sym (none_from p from none)) ∙ l.are
  where
    take_none : (m : ℕ) → take {A = ℕ} m [] ≡ []
    take_none zero = refl
    take_none (suc m) = refl
