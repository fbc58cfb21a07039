use Rattle.std.proofs.Common.{◌≡◌}
use Rattle.wb_target.specs.Carried.{client_state, Runs}
use Rattle.wb_target.specs.Workers.{Turn}
use Rattle.wb_target.proofs.Tries.{SoFar}
use Rattle.wb_target.specs.Works.{AskedSharing}
use Rattle.wb_target.specs.Told.{WasNext}
use Rattle.wb_target.proofs.worker.work_off.Given as goal

abbrev pub invariant-loop : goal.invariant-loop
invariant-loop g l = record {
  geometry : l.port.geometry ≡ l.fn.port.geometry;
  turned : SoFar (Turn (Runs g.D.Disk.tells g.D.Disk.size g.D.Disk.contents g.D.Disk.faults (AskedSharing g.P.Policy.with_entry g.P.Policy.without_entry) l.fn.port.geometry.origin_blocks) (WasNext g.row.P.Denot) l.fn.port.geometry g.G.Gate.answers l.fn.gate) (client_state l.fn.port) (client_state l.port);
}
