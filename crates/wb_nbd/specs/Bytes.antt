-- Numbers in bytes, the highest byte first.
use Rattle.std.specs.Prelude.{ℕ, List, drop}
use Rattle.byteorder.specs.Endian.{big_number}

-- the number in so many bytes from an offset on
unfoldable pub number_at : List ℕ → ℕ → ℕ → ℕ
number_at bytes offset width = big_number width (drop offset bytes)
