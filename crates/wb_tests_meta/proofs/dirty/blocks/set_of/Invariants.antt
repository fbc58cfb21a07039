use Rattle.std.proofs.Common.{◌≡◌, length}
use Rattle.wb_tests_meta.proofs.dirty.blocks.set_of.Given as goal

abbrev pub invariant-loop-block : goal.invariant-loop-block
invariant-loop-block l = length l.set ≡ l.size
