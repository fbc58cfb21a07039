-- The least of the numbers from one on for which something is so.
use Rattle.std.specs.Prelude.{◌≡◌, ◌≤◌, ◌<◌, ℕ, Bool, true, false}

-- it is so for this number, and for none from the first on that is less
pub record IsLeastFrom (is : ℕ → Bool) (from at : ℕ) : Type 0 where
  pub onward : from ≤ at
  pub holds : is at ≡ true
  pub least : (i : ℕ) → from ≤ i → i < at → is i ≡ false
