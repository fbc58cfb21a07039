-- What a test says that came out one way.
use Rattle.std.proofs.Common.{◌≡◌, ◌&&◌, ◌⊎◌, refl, ℕ, Bool, true, false, cond, nat_eq, arith, inl, inr}
use Rattle.std.proofs.lemmas.Bool.Decides.{nat_tests}
use Rattle.std.specs.Prelude.{Result, Ok, Err, OnErr}

-- both of two tests
pub and_true : (a b : Bool) → (a && b) ≡ true → (a ≡ true) × (b ≡ true)
and_true true b h = (refl, h)
and_true false b h = absurd cc

-- a number is itself
pub yes : (n : ℕ) → nat_eq n n ≡ true
yes n = grind (arith, nat_tests)

-- one of two tests, the first of them first
pub either_true : (a b : Bool) → cond a true b ≡ true → (a ≡ true) ⊎ (b ≡ true)
either_true true b h = inl refl
either_true false b h = inr h

pub either_false : (a b : Bool) → cond a true b ≡ false → (a ≡ false) × (b ≡ false)
either_false true b h = absurd cc
either_false false b h = (refl, h)

pub or_true : (a b : Bool) → b ≡ true → cond a true b ≡ true
or_true true b h = refl
or_true false b h = h

-- what holds anyway holds where a call fails
pub on_err : {T E P : Type 0} (r : Result T E) → P → OnErr r P
on_err (Ok x) p = tt
on_err (Err e) p = p
