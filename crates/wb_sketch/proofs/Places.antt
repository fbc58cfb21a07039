-- A place lies within its table.
use Rattle.std.proofs.Common.{◌≡◌, ◌≤◌, ◌<◌, ◌+◌, ◌-◌, ◌*◌, ◌/◌, ◌%◌, ◌^◌, ℕ, refl, arith}
use Rattle.std.proofs.Math.Nat.{div-lt_iff_lt-mul}
use Rattle.std.proofs.lemmas.Nat.{pow_pos, pow-add}
use Rattle.wb_sketch.specs.Places.{place_of}

pow_split : (bits : ℕ) → bits ≤ 64 → 2 ^ bits * 2 ^ (64 - bits) ≡ 2 ^ 64
pow_split bits h =
    let e : bits + (64 - bits) ≡ 64 = omega arith in
    rw (← pow-add, e) refl

pub place_of-below : (constant bits block : ℕ) → bits ≤ 64 → place_of constant bits block < 2 ^ bits
unfolding place_of
place_of-below constant bits block h =
    (div-lt_iff_lt-mul (pow_pos (64 - bits))).1 (rw (pow_split bits h) (omega arith))

pub place_of-is : (constant bits block : ℕ) → (block * constant % 18446744073709551616) / 2 ^ (64 - bits) ≡ place_of constant bits block
unfolding place_of
place_of-is constant bits block = refl
