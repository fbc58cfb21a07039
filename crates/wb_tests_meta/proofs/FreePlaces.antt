-- Places one after the other.
use Rattle.std.proofs.Common.{◌≡◌, ◌≤◌, ◌+◌, ℕ, zero, suc, Some, map, ap, arith}
use Rattle.std.specs.Prelude.{slice_get}
use Rattle.std.specs.List.{range_with_len}
use Rattle.wb_types.specs.declared.number.Place.{Place}

numbered : ℕ → Place
numbered number = record { 0 = number }

-- each of them is from the first on
pub numbers-from : (first count i : ℕ) (place : Place) → slice_get (map (λ number. record { 0 = number }) (range_with_len first count)) i ≡ Some place → first ≤ place.0
unfolding numbered
numbers-from first zero i place h = absurd cc
numbers-from first (suc count) zero place h =
    let e : numbered first ≡ place = cc in
    let n : first ≡ place.0 = ap (λ (p : Place). p.0) e in
    omega arith
numbers-from first (suc count) (suc i) place h = omega (arith, numbers-from (first + 1) count i place h)
