use Rattle.wb_tests_desk.proofs.desk.ticks.cleans.Goals as goal

pub tick-requires-clause-mapped : goal.tick-requires-clause-mapped
tick-requires-clause-mapped g c = rw c.as_slice.ensures.value c.in_ok-seen.ensures.mapped
