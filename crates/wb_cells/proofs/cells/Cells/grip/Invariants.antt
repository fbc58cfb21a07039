use Rattle.std.proofs.Common.{◌≡◌, ◌⊎◌, []}
use Rattle.wb_words.specs.declared.grip.GripStage.TheVariants.{LookFail}
use Rattle.wb_words.specs.Grips.{stages_left}
use Rattle.wb_cells.specs.Fractions.{IsWhole}
use Rattle.wb_cells.proofs.Gripping.{OnTheWay}
use Rattle.wb_cells.proofs.Alone.{AloneAt}
use Rattle.wb_cells.proofs.cells.Cells.grip.Given as goal

abbrev pub invariant-loop-ended : goal.invariant-loop-ended
invariant-loop-ended l = record {
  way : OnTheWay l.initial.grip.access l.initial.grip.block l.initial.pass.card l.grip l.pass.card;
  table : l.pass.table ≡ l.initial.pass.table;
  fraction : l.pass.fraction ≡ l.initial.pass.fraction;
  failed : l.pass.failed ≡ l.initial.pass.failed;
  sound : (l.grip.stage ≡ LookFail) ⊎ (l.initial.pass.failed ≡ []);
  alone : IsWhole l.initial.pass.fraction → AloneAt l.grip.stage l.initial.pass.card;
}

abbrev pub decreases-loop-ended : goal.decreases-loop-ended
decreases-loop-ended l = stages_left l.grip.stage
