use Rattle.std.proofs.Common.{◌≡◌}
use Rattle.wb_words.specs.declared.card.Hold.TheVariants.{Nothing}
use Rattle.wb_tests_tasks.proofs.cells.passes.crowd.Given as goal

abbrev pub invariant-loop : goal.invariant-loop
invariant-loop l = record {
  table : l.pass.table ≡ l.initial.cells.table;
  idle : l.pass.card.hold ≡ Nothing;
}
