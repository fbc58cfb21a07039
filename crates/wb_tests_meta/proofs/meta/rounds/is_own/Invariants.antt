use Rattle.wb_tests_meta.proofs.OwnPlaces.{AreOwnBefore}
use Rattle.wb_tests_meta.proofs.meta.rounds.is_own.Given as goal

abbrev pub invariant-loop-block : goal.invariant-loop-block
invariant-loop-block l = AreOwnBefore l.block l.tree.entries
