use Rattle.std.proofs.Common.{◌≡◌, ◌<◌, ℕ, None, false, length, get_or, is_some}
use Rattle.wb_desk.proofs.opening.mapped_blocks.Given as goal

abbrev pub invariant-loop-c : goal.invariant-loop-c
invariant-loop-c l = record {
  size : length l.mapped.items ≡ l.geometry.cache_blocks;
  before : (k : ℕ) → k < l.c → get_or l.mapped.items k false ≡ is_some (get_or l.tree.entries k None);
}
