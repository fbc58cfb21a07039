use Rattle.std.proofs.Common.{◌≡◌, ◌+◌, ◌≤◌}
use Rattle.wb_words.specs.declared.card.Hold.TheVariants.{Nothing}
use Rattle.wb_words.specs.Cards.{writes_on}
use Rattle.wb_tests_tasks.proofs.cells.rounds.rounds.Given as goal

abbrev pub invariant-loop : goal.invariant-loop
invariant-loop g l = record {
  table : l.pass.table ≡ l.initial.pass.table;
  part : l.pass.fraction ≡ l.initial.pass.fraction;
  failed : l.pass.failed ≡ l.initial.pass.failed;
  idle : l.pass.card.hold ≡ Nothing;
  small : l.done ≤ l.many;
  writes : writes_on 0 l.pass.card ≡ writes_on 0 l.initial.pass.card + l.done;
}
