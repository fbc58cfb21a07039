use Rattle.std.proofs.Common.{arith, ◌∙◌}
use Rattle.std.proofs.lemmas.Grind.{common_steps}
use Rattle.wb_nbd.proofs.Zeros.{one_more}
use Rattle.wb_nbd.proofs.performing.zeros_of.Goals as goal

pub loop-preserved : goal.loop-preserved
loop-preserved c = (c.push_reserved.ensures.items ∙ one_more c.loop.zeros.items c.loop.counter c.loop.invariant.0, grind (arith, common_steps, c.push_reserved.ensures.capacity, c.loop.invariant.1))
