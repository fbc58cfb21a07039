use Rattle.std.proofs.Common.{◌≡◌, ◌≤◌, ◌-◌, length}
use Rattle.wb_target.specs.Blocking.{ReadCame}
use Rattle.wb_target.proofs.Parts.{ComeTo}
use Rattle.wb_target.proofs.client.Client.read.Given as goal

abbrev pub invariant-loop-from : goal.invariant-loop-from
invariant-loop-from g l = record {
  target : l.self.target ≡ l.fn.self.target;
  geometry : l.self.port.geometry ≡ l.fn.self.port.geometry;
  many : length l.out ≡ length l.fn.out;
  within : l.from ≤ length l.fn.out;
  done : l.done ≤ l.from;
  parts : ComeTo (ReadCame g.D.Disk.tells g.D.Disk.size g.D.Disk.contents g.D.Disk.faults l.fn.self.port.geometry) l.fn.self.port.geometry.block l.fn.at.0 l.fn.self.port.hand l.fn.out l.done l.from l.self.port.hand l.out;
}

abbrev pub decreases-loop-from : goal.decreases-loop-from
decreases-loop-from g l = length l.initial.out - l.from
