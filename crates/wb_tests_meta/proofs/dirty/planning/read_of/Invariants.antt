use Rattle.wb_tests_meta.proofs.dirty.planning.read_of.Given as goal

abbrev pub invariant-loop : goal.invariant-loop
invariant-loop l = Unit {0}
