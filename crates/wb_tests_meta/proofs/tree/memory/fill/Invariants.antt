use Rattle.std.proofs.Common.{◌≡◌, ◌≤◌, length}
use Rattle.wb_tests_meta.proofs.tree.memory.fill.Given as goal

abbrev pub invariant-loop-block : goal.invariant-loop-block
invariant-loop-block l = record { long : length l.tree.entries ≡ 40; few : l.count ≤ l.block }
