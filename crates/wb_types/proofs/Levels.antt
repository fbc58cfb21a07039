-- The least number of levels, by the number of cache blocks.
use Rattle.std.proofs.Common.{◌≤◌, ◌<◌, ◌^◌, ℕ, zero, suc, arith}
use Rattle.wb_types.specs.Limits.{IsDepth}

least_three : (blocks level : ℕ) → 1024 < blocks → 1 ≤ level → blocks ≤ 32 ^ level → 3 ≤ level
least_three blocks zero b l e = omega arith
least_three blocks (suc zero) b l e = let g : blocks ≤ 32 = e in omega arith
least_three blocks (suc (suc zero)) b l e = let g : blocks ≤ 1024 = e in omega arith
least_three blocks (suc (suc (suc level))) b l e = omega arith

pub IsDepth-three : (blocks : ℕ) → 1024 < blocks → blocks ≤ 32768 → IsDepth blocks 3
IsDepth-three blocks b h = record { some = omega arith; enough = h; least = λ level l e. least_three blocks level b l e }

least_four : (blocks level : ℕ) → 32768 < blocks → 1 ≤ level → blocks ≤ 32 ^ level → 4 ≤ level
least_four blocks zero b l e = omega arith
least_four blocks (suc zero) b l e = let g : blocks ≤ 32 = e in omega arith
least_four blocks (suc (suc zero)) b l e = let g : blocks ≤ 1024 = e in omega arith
least_four blocks (suc (suc (suc zero))) b l e = let g : blocks ≤ 32768 = e in omega arith
least_four blocks (suc (suc (suc (suc level)))) b l e = omega arith

pub IsDepth-four : (blocks : ℕ) → 32768 < blocks → blocks ≤ 1048576 → IsDepth blocks 4
IsDepth-four blocks b h = record { some = omega arith; enough = h; least = λ level l e. least_four blocks level b l e }
