use Rattle.std.proofs.Common.{◌≡◌, [], Some, length}
use Rattle.wb_types.specs.declared.refusal.Refusal.TheVariants.{Busy}
use Rattle.wb_target.specs.Works.{WasAsked}
use Rattle.wb_target.specs.Blocking.{WriteCame}
use Rattle.wb_target.proofs.Tries.{SoFar}
use Rattle.wb_target.proofs.client.Client.write_block.Given as goal

abbrev pub invariant-loop : goal.invariant-loop
invariant-loop g l = record {
  target : l.self.target ≡ l.fn.self.target;
  geometry : l.self.port.geometry ≡ l.fn.self.port.geometry;
  settled : l.self.port.accesses.items ≡ [];
  tried : SoFar (WriteCame g.D.Disk.tells g.D.Disk.size g.D.Disk.contents g.D.Disk.faults (WasAsked g.P.Policy.with_entry g.P.Policy.without_entry []) l.fn.self.port.geometry (Some Busy) (record { first = l.fn.at.0; count = length l.fn.from })) (l.fn.self.port.hand, l.fn.from) (l.self.port.hand, l.fn.from);
}
