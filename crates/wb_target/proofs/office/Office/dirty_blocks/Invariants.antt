use Rattle.std.proofs.Common.{◌≡◌}
use Rattle.wb_desk.specs.Desks.{holdings}
use Rattle.wb_desk.proofs.Seen.{AreSeen}
use Rattle.wb_target.proofs.office.Office.dirty_blocks.Given as goal

abbrev pub invariant-loop-c : goal.invariant-loop-c
invariant-loop-c g l = record {
  desk : l.self.desk ≡ l.fn.self.desk;
  seen : AreSeen (holdings l.fn.self.desk) l.c l.dirty.items;
}
