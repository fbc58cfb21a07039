-- How large a sketch is, by the number of cache blocks.
use Rattle.std.specs.Prelude.{◌≤◌, ◌+◌, ◌*◌, ◌^◌, ℕ, zero, suc, nat_le, max, if◌then◌else◌}

-- from these bits on, the first after so many steps at most whose power of two is not below a number
unfoldable pub bits_from : ℕ → ℕ → ℕ → ℕ
bits_from zero bits number = bits
bits_from (suc steps) bits number = if nat_le number (2 ^ bits) then bits else bits_from steps (bits + 1) number

-- how many bits a place of a row has: a row has 2 ^ row_bits places, 16 to 2 ^ 20
unfoldable pub row_bits : ℕ → ℕ
row_bits cache_blocks = bits_from 16 4 cache_blocks

-- These bits are the least from 4 on whose power of two is not below the number of cache blocks.
pub record IsRowBits (cache_blocks bits : ℕ) : Type 0 where
  pub some : 4 ≤ bits
  pub enough : cache_blocks ≤ 2 ^ bits
  pub least : (other : ℕ) → 4 ≤ other → cache_blocks ≤ 2 ^ other → bits ≤ other

-- the sample at which all counts are halved
unfoldable pub sample_limit : ℕ → ℕ
sample_limit cache_blocks = max 64 (8 * cache_blocks)
