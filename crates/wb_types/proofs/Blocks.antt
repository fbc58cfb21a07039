-- Devices of whole blocks.
use Rattle.std.proofs.Common.{◌≡◌, ◌<◌, ◌*◌, ◌/◌, ◌%◌, ℕ, subst}
use Rattle.std.proofs.Math.Nat.{mul-mod_left, mul-div_cancel}
use Rattle.wb_types.specs.Limits.{IsWithinLimits}

-- a device of so many blocks has no sectors past its last block
pub mod-whole : (blocks block sectors : ℕ) → blocks * block ≡ sectors → sectors % block ≡ 0
mod-whole blocks block sectors e = subst (λ s. s % block ≡ 0) e (mul-mod_left blocks block)

-- and this many blocks
pub div-whole : (blocks block sectors : ℕ) → 0 < block → blocks * block ≡ sectors → sectors / block ≡ blocks
div-whole blocks block sectors h e = subst (λ s. s / block ≡ blocks) e (mul-div_cancel blocks h)

-- the sizes in blocks of devices of whole blocks
pub IsWithinLimits-whole : (block cache origin metadata cache_blocks origin_blocks : ℕ) → 0 < block → cache_blocks * block ≡ cache → origin_blocks * block ≡ origin → IsWithinLimits block cache_blocks origin_blocks metadata → IsWithinLimits block (cache / block) (origin / block) metadata
IsWithinLimits-whole block cache origin metadata cache_blocks origin_blocks h c o w =
    rw (div-whole cache_blocks block cache h c, div-whole origin_blocks block origin h o) w
