use Rattle.std.proofs.Common.{◌∙◌}
use Rattle.wb_sketch.proofs.Sizes.{sample_limit-is}
use Rattle.wb_sketch.proofs.sketch.limit_of_sample.Goals as goal

pub returns-clause-value : goal.returns-clause-value
returns-clause-value c = c.max.ensures ∙ sample_limit-is _
