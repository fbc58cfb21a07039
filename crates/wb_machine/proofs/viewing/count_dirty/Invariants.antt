use Rattle.std.proofs.Common.{◌≡◌, take}
use Rattle.std.specs.List.{count_by}
use Rattle.wb_machine.specs.Showing.{is_sealed_dirty}
use Rattle.wb_machine.proofs.viewing.count_dirty.Given as goal

abbrev pub invariant-loop-c : goal.invariant-loop-c
invariant-loop-c l = l.dirty ≡ count_by (is_sealed_dirty l.crew.words) (take l.c l.desk.tree.entries)
