use Rattle.wb_desk.specs.Desks.{holdings}
use Rattle.wb_desk.proofs.Seen.{AreSeen}
use Rattle.wb_tests_desk.proofs.desk.ticks.seen.Given as goal

abbrev pub invariant-loop-c : goal.invariant-loop-c
invariant-loop-c g l = AreSeen (holdings l.desk) l.c l.seen.items
