-- The free places in their order: which they are, and that none is listed twice.
use Rattle.std.proofs.Common.{◌≡◌, ◌≤◌, ◌<◌, ◌+◌, ◌-◌, ◌&&◌, ℕ, zero, suc, Bool, true, false, not, cond, List, [], ◌∷◌, Some, length, map, take, get_or, refl, sym, ap, ◌∙◌, arith, slice_get}
use Rattle.std.specs.Prelude.{filter}
use Rattle.std.specs.List.{range_with_len}
use Rattle.wb_types.specs.declared.number.Place.{Place}
use Rattle.wb_types.proofs.Lists.{map_there}
use Rattle.wb_space.specs.Places.{PlacesInUse, is_free_place, free_places, place}

record IsChosen (q : ℕ → Bool) (first count x : ℕ) : Type 0 where
  from : first ≤ x
  to : x < first + count
  chosen : q x ≡ true

some_same : (x y : ℕ) → (let a = Some x in a) ≡ Some y → x ≡ y
some_same x y e = cc

chosen_first : (q : ℕ → Bool) (first count i x : ℕ) (b : Bool) → q first ≡ b → ((i : ℕ) → slice_get (filter q (range_with_len (first + 1) count)) i ≡ Some x → IsChosen q (first + 1) count x)
    → slice_get (cond b (first ∷ filter q (range_with_len (first + 1) count)) (filter q (range_with_len (first + 1) count))) i ≡ Some x → IsChosen q first (suc count) x
chosen_first q first count i x b t behind e = by b i t e
  where
    later : (i : ℕ) → slice_get (filter q (range_with_len (first + 1) count)) i ≡ Some x → IsChosen q first (suc count) x
    later i e = let c = behind i e in record { from = omega (arith, c.from); to = omega (arith, c.to); chosen = c.chosen }

    here : q first ≡ true → first ≡ x → IsChosen q first (suc count) x
    here t e = record { from = omega (arith, e); to = omega (arith, e); chosen = ap q (sym e) ∙ t }

    by : (b : Bool) (i : ℕ) → q first ≡ b → slice_get (cond b (first ∷ filter q (range_with_len (first + 1) count)) (filter q (range_with_len (first + 1) count))) i ≡ Some x → IsChosen q first (suc count) x
    by true zero t e = here t (some_same first x e)
    by true (suc i) t e = later i e
    by false i t e = later i e

chosen_there : (q : ℕ → Bool) (first count i x : ℕ) → slice_get (filter q (range_with_len first count)) i ≡ Some x → IsChosen q first count x
chosen_there q first zero i x e = absurd cc
chosen_there q first (suc count) i x e = chosen_first q first count i x (q first) refl (λ k f. chosen_there q (first + 1) count k x f) e

apart_first : (b : Bool) (first : ℕ) (rest : List ℕ) (i j x : ℕ) → ((k : ℕ) → slice_get rest k ≡ Some x → first + 1 ≤ x) → ((i j : ℕ) → slice_get rest i ≡ Some x → slice_get rest j ≡ Some x → i ≡ j)
    → slice_get (cond b (first ∷ rest) rest) i ≡ Some x → slice_get (cond b (first ∷ rest) rest) j ≡ Some x → i ≡ j
apart_first true first rest zero zero x above apart e f = refl
apart_first true first rest zero (suc j) x above apart e f = let s = some_same first x e in absurd (omega (arith, s, above j f))
apart_first true first rest (suc i) zero x above apart e f = let s = some_same first x f in absurd (omega (arith, s, above i e))
apart_first true first rest (suc i) (suc j) x above apart e f = ap suc (apart i j e f)
apart_first false first rest i j x above apart e f = apart i j e f

pub chosen_apart : (q : ℕ → Bool) (first count i j x : ℕ) → slice_get (filter q (range_with_len first count)) i ≡ Some x
    → slice_get (filter q (range_with_len first count)) j ≡ Some x → i ≡ j
chosen_apart q first zero i j x e f = absurd cc
chosen_apart q first (suc count) i j x e f = apart_first (q first) first (filter q (range_with_len (first + 1) count)) i j x
    (λ k h. (chosen_there q (first + 1) count k x h).from) (λ a b g h. chosen_apart q (first + 1) count a b x g h) e f

taken_there : (k : ℕ) (xs : List ℕ) (i x : ℕ) → slice_get (take k xs) i ≡ Some x → slice_get xs i ≡ Some x
taken_there zero xs i x e = absurd cc
taken_there (suc k) [] i x e = absurd cc
taken_there (suc k) (y ∷ xs) zero x e = e
taken_there (suc k) (y ∷ xs) (suc i) x e = taken_there k xs i x e

not_flagged : (a b : Bool) → (not a && not b) ≡ true → a ≡ false
not_flagged true b e = absurd cc
not_flagged false b e = refl

pub yes_and_no : (b : Bool) → b ≡ true → b ≡ false → ⊥
yes_and_no b p q = absurd cc

-- a place of the list, in the lists that it comes from
pub record FreeAt (places : PlacesInUse) (i : ℕ) (p : Place) : Type 0 where
  pub there : slice_get (free_places places) i ≡ Some p.0
  pub from : 2 ≤ p.0
  pub to : p.0 < length places.committed
  pub free : get_or places.committed p.0 false ≡ false

pub free_at : (places : PlacesInUse) (n i : ℕ) (p : Place) → slice_get (map place (take n (free_places places))) i ≡ Some p → FreeAt places i p
free_at places n i p e =
    let w = map_there place (take n (free_places places)) i p e in
    let there : slice_get (free_places places) i ≡ Some w.0 = taken_there n (free_places places) i w.0 w.1 in
    let same : w.0 ≡ p.0 = ap (λ (x : Place). x.0) (sym w.2) in
    let c : IsChosen (is_free_place places) 2 (length places.committed - 2) w.0 = chosen_there (is_free_place places) 2 (length places.committed - 2) i w.0 there in
    record {
      there = there ∙ ap (λ (x : ℕ). Some x) same;
      from = omega (arith, same, c.from);
      to = omega (arith, same, c.from, c.to);
      free = ap (λ (x : ℕ). get_or places.committed x false) (sym same) ∙ not_flagged (get_or places.committed w.0 false) (get_or places.running w.0 false) c.chosen;
    }
