use Rattle.wb_policy.specs.Law.{origins}
use Rattle.wb_desk.proofs.Index.{IndexUpTo}
use Rattle.wb_desk.proofs.opening.cached_blocks.Given as goal

abbrev pub invariant-loop-c : goal.invariant-loop-c
invariant-loop-c l = IndexUpTo l.geometry.origin_blocks (origins l.tree.entries) l.cached.items l.c
