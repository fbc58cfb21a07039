-- Numbers in the bytes of a sector.
use Rattle.std.specs.Prelude.{◌≡◌, ◌≤◌, ◌<◌, ◌+◌, ◌*◌, ℕ, List, All, length, drop, slice_index, slice_range}
use Rattle.byteorder.specs.Endian.{little_number}

-- 512 bytes
pub record IsSector (sector : List ℕ) : Type 0 where
  pub size : length sector ≡ 512
  pub bytes : (at : ℕ) → slice_index sector at < 256

-- the number in so many bytes from an offset on, the lowest byte first
unfoldable pub number_at : List ℕ → ℕ → ℕ → ℕ
number_at sector offset width = little_number width (drop offset sector)

-- from one offset up to another there are zeros alone
abbrev pub IsZero : List ℕ → ℕ → ℕ → Type 0
IsZero sector from to = All (λ byte. byte ≡ 0) (slice_range sector from to)

-- two sectors have the same bytes from one offset up to another
abbrev pub SameBytes : List ℕ → List ℕ → ℕ → ℕ → Type 0
SameBytes one other from to = (at : ℕ) → from ≤ at → at < to → slice_index one at ≡ slice_index other at

-- the 32 words of eight bytes from byte 32 on
pub record HasWords (sector words : List ℕ) : Type 0 where
  pub size : length words ≡ 32
  pub each : (j : ℕ) → j < 32 → number_at sector (32 + 8 * j) 8 ≡ slice_index words j
