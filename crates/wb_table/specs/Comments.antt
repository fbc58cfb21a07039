-- Lines that are comments.
use Rattle.std.specs.Prelude.{◌≡◌, ◌==◌, ℕ, not, List, Option, Some, find}

-- the first byte other than a space
abbrev pub first_byte_of : List ℕ → Option ℕ
first_byte_of line = find (λ byte. not (byte == 32)) line

-- The first byte other than a space is `#`.
abbrev pub IsComment : List ℕ → Type 0
IsComment line = first_byte_of line ≡ Some 35
