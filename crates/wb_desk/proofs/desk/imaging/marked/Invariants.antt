use Rattle.wb_desk.proofs.Marking.{AreMarkedUpTo}
use Rattle.wb_desk.proofs.desk.imaging.marked.Given as goal

abbrev pub invariant-loop-c : goal.invariant-loop-c
invariant-loop-c g l = AreMarkedUpTo (g.P.Policy.hint_of l.policy) l.dirty l.tree l.geometry.cache_blocks l.c l.marked
