use Rattle.wb_dirty.proofs.PlanBits.{IsWordTo}
use Rattle.wb_dirty.proofs.planning.bits_from.Given as goal

abbrev pub invariant-loop-t : goal.invariant-loop-t
invariant-loop-t l = IsWordTo l.dirty l.first l.word l.t
