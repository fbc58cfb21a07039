use Rattle.std.proofs.Common.{[], ◌≡◌, ◌≤◌, ◌-◌, length}
use Rattle.wb_target.specs.Works.{WasAsked}
use Rattle.wb_target.specs.Blocking.{WriteCame}
use Rattle.wb_target.proofs.Parts.{ComeTo}
use Rattle.wb_target.proofs.client.Client.write.Given as goal

abbrev pub invariant-loop-sent : goal.invariant-loop-sent
invariant-loop-sent g l = record {
  target : l.self.target ≡ l.fn.self.target;
  geometry : l.self.port.geometry ≡ l.fn.self.port.geometry;
  within : l.sent ≤ length l.from;
  done : l.done ≤ l.sent;
  parts : ComeTo (WriteCame g.D.Disk.tells g.D.Disk.size g.D.Disk.contents g.D.Disk.faults (WasAsked g.P.Policy.with_entry g.P.Policy.without_entry []) l.fn.self.port.geometry) l.fn.self.port.geometry.block l.fn.at.0 l.fn.self.port.hand l.from l.done l.sent l.self.port.hand l.from;
}

abbrev pub decreases-loop-sent : goal.decreases-loop-sent
decreases-loop-sent g l = length l.from - l.sent
