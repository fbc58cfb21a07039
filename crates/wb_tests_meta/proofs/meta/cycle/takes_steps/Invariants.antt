use Rattle.std.proofs.Common.{length}
use Rattle.wb_meta.specs.Placing.{HavePlaces}
use Rattle.wb_tests_meta.proofs.meta.cycle.takes_steps.Given as goal

abbrev pub invariant-loop : goal.invariant-loop
invariant-loop l = HavePlaces l.image.nodes.items (length l.disk.contents)
