use Rattle.std.proofs.Common.{◌≡◌, ◌≤◌, ◌<◌, ◌-◌, ◌^◌, ℕ}
use Rattle.wb_sketch.specs.Sizes.{bits_from, row_bits}
use Rattle.wb_sketch.proofs.sketch.bits_of_row.Given as goal

abbrev pub invariant-loop-bits : goal.invariant-loop-bits
invariant-loop-bits l = record {
  rest : bits_from (20 - l.bits) l.bits l.cache_blocks ≡ row_bits l.cache_blocks;
  below : (other : ℕ) → 4 ≤ other → other < l.bits → 2 ^ other < l.cache_blocks;
}
