use Rattle.std.proofs.Common.{◌≡◌, [], drop}
use Rattle.wb_cells.specs.Fractions.{IsWhole}
use Rattle.wb_words.specs.declared.card.Hold.TheVariants.{Nothing}
use Rattle.wb_target.specs.Opening.{seals_stored}
use Rattle.wb_target.proofs.opening.seal_all.Given as goal

abbrev pub invariant-loop-c : goal.invariant-loop-c
invariant-loop-c l = record {
  at : l.pass.table ≡ l.fn.pass.table;
  idle : l.pass.card.hold ≡ Nothing;
  whole : IsWhole l.pass.fraction;
  unset : l.pass.card.set ≡ [];
  left : seals_stored l.c (drop l.c l.entries) l.pass.card.stored ≡ seals_stored 0 l.entries l.fn.pass.card.stored;
}
