-- Requests that lie on the origin.
use Rattle.std.specs.Prelude.{◌<◌, ◌≤◌, ◌+◌, ℕ}

-- A request over so many sectors from the first on has at least one, and all of them lie on an origin of this size.
pub record IsInside (first count sectors : ℕ) : Type 0 where
  pub some : 0 < count
  pub within : first + count ≤ sectors
