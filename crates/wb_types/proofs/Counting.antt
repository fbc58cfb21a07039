-- The nodes of all levels, summed level by level.
use Rattle.std.proofs.Common.{◌≡◌, ◌≤◌, ◌<◌, ◌+◌, ◌*◌, ◌^◌, ℕ, zero, suc, refl, arith, add-one}
use Rattle.std.proofs.Math.Nat.{div-le_self}
use Rattle.std.specs.Int.{div_ceil}
use Rattle.wb_types.specs.Limits.{depth_of, nodes_up_to, node_count}

-- the span of the level above, below the greatest depth
pub span_below : (level : ℕ) → level < 4 → (32 ^ level * 32 ≡ 32 ^ (level + 1)) × (32 ^ level * 32 ≤ 1048576) × (0 < 32 ^ level)
span_below zero h = (refl, omega arith, omega arith)
span_below (suc zero) h = (refl, omega arith, omega arith)
span_below (suc (suc zero)) h = (refl, omega arith, omega arith)
span_below (suc (suc (suc zero))) h = (refl, omega arith, omega arith)
span_below (suc (suc (suc (suc level)))) h = absurd (omega arith)

pub nodes_up_to-zero : (blocks : ℕ) → nodes_up_to 0 blocks ≡ 0
unfolding nodes_up_to
nodes_up_to-zero blocks = refl

pub nodes_up_to-more : (level blocks : ℕ) → nodes_up_to (level + 1) blocks ≡ nodes_up_to level blocks + div_ceil blocks (32 ^ (level + 1))
unfolding nodes_up_to
nodes_up_to-more level blocks = rw add-one refl

pub node_count-levels : (blocks : ℕ) → nodes_up_to (depth_of blocks) blocks ≡ node_count blocks
unfolding node_count
node_count-levels blocks = refl

-- rounded up, a quotient is at most one above what is divided
pub div_ceil-le : (blocks span : ℕ) → div_ceil blocks span ≤ blocks + 1
div_ceil-le blocks span = omega (arith, div-le_self blocks span)
