use Rattle.std.proofs.Common.{◌≤◌, subst, sym}
use Rattle.wb_types.specs.Limits.{dirty_depth_of, words_of_bits}
use Rattle.wb_tree.proofs.Reading.LoaderSteps.{depth_range}
use Rattle.wb_dirty.proofs.loader.top_at.Goals as goal

pub returns-clause-level_from : goal.returns-clause-level_from
unfolding dirty_depth_of
returns-clause-level_from c = subst (λ n. 1 ≤ n) (sym c.dirty_depth.ensures.value) (depth_range (words_of_bits c.args.root.now.geometry.cache_blocks)).0
