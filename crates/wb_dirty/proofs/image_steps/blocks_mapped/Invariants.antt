use Rattle.std.proofs.Common.{◌≡◌, ◌≤◌, ◌<◌, ℕ, None, false, length, get_or, is_some}
use Rattle.wb_dirty.proofs.image_steps.blocks_mapped.Given as goal

abbrev pub invariant-loop-block : goal.invariant-loop-block
invariant-loop-block g l = record {
  size : length l.mapped ≡ l.blocks;
  blocks : l.blocks ≡ l.root.geometry.cache_blocks;
  before : (k : ℕ) → k < l.block → get_or l.mapped k false ≡ is_some (get_or l.tree.entries k None);
  behind : (k : ℕ) → l.block ≤ k → get_or l.mapped k false ≡ false;
}
