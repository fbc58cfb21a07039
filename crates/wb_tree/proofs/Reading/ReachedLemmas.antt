-- Which places were reached, when one more is.
use Rattle.std.proofs.Common.{◌≡◌, ℕ, Bool, true, false, cond, nat_eq, List, [], ◌∷◌, ◌++◌, Result, Ok, Err, refl}
use Rattle.std.specs.Prelude.{OnOk, is_err}
use Rattle.wb_tree.specs.declared.placed.PlacedNode.{PlacedNode}
use Rattle.wb_types.specs.declared.number.Place.{Place}
use Rattle.wb_tree.specs.Reading.{is_one_at, is_reached}

step : (a b r s : Bool) → s ≡ cond b true r → cond a true s ≡ cond b true (cond a true r)
step true true r s e = refl
step true false r s e = refl
step false b r s e = e

pub is_one_at-push : {X : Type 0} (at : X → Place) (place : ℕ) (xs : List X) (x : X) → is_one_at at place (xs ++ x ∷ []) ≡ cond (nat_eq (at x).0 place) true (is_one_at at place xs)
is_one_at-push {X} at place [] x = refl
is_one_at-push {X} at place (first ∷ xs) x = step (nat_eq (at first).0 place) (nat_eq (at x).0 place) (is_one_at at place xs) (is_one_at at place (xs ++ x ∷ [])) (is_one_at-push at place xs x)

pub is_reached-push : (place : ℕ) (nodes : List PlacedNode) (node : PlacedNode) → is_reached place (nodes ++ node ∷ []) ≡ cond (nat_eq node.place.0 place) true (is_reached place nodes)
is_reached-push place nodes node = is_one_at-push (λ (n : PlacedNode). n.place) place nodes node

-- what holds of an `Ok`
pub ok_of : {X E : Type 0} (P : Type 0) (r : Result X E) → is_err r ≡ false → OnOk r P → P
ok_of P (Ok x) e h = h
ok_of P (Err x) e h = absurd cc
