use Rattle.std.proofs.Common.{arith, ap, ◌∙◌}
use Rattle.wb_types.specs.Limits.{depth_of, dirty_depth_of}
use Rattle.wb_types.proofs.geometry.Geometry.dirty_depth.Goals as goal

pub returns-clause-value : goal.returns-clause-value
unfolding dirty_depth_of
returns-clause-value c = c.levels.ensures.value ∙ ap depth_of c.div_ceil.ensures

pub returns-clause-at_most : goal.returns-clause-at_most
returns-clause-at_most c = c.levels.ensures.depth.least 3 (omega arith) (omega (arith, c.div_ceil.ensures, c.args.self.now.within.cache_to))
