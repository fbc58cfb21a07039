use Rattle.std.proofs.Common.{◌∙◌}
use Rattle.wb_target.proofs.Desking.{settled_keeps}
use Rattle.wb_target.proofs.office.Office.settle.Goals as goal

pub invariant_of-self : goal.invariant_of-self
invariant_of-self g c = settled_keeps g.P.Policy.ordered g.P.Policy.settled _ _ _ c.settle.ensures.settled ∙ c.self.invariant
