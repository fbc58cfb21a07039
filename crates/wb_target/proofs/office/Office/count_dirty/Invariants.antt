use Rattle.std.proofs.Common.{◌≡◌, ◌≤◌}
use Rattle.wb_target.specs.Shown.{SawDirty, seals_latest_first}
use Rattle.wb_target.proofs.office.Office.count_dirty.Given as goal

abbrev pub invariant-loop-c : goal.invariant-loop-c
invariant-loop-c g l = record {
  desk : l.self.desk ≡ l.fn.self.desk;
  few : l.dirty ≤ l.c;
  seen : SawDirty l.fn.self.watch.pass.card l.self.watch.pass.card (seals_latest_first l.fn.self.desk.tree l.c) l.dirty;
}
