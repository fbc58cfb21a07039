use Rattle.std.proofs.Common.{◌≡◌}
use Rattle.wb_target.specs.Suspends.{mapped_blocks}
use Rattle.wb_target.proofs.office.Office.mapped_blocks.Given as goal

abbrev pub invariant-loop-c : goal.invariant-loop-c
invariant-loop-c g l = record {
  listed : l.blocks.items ≡ mapped_blocks l.self.desk.tree l.c;
}
