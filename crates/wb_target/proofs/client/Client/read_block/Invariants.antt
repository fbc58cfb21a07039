use Rattle.std.proofs.Common.{◌≡◌, [], Some, length}
use Rattle.wb_types.specs.declared.refusal.Refusal.TheVariants.{Busy}
use Rattle.wb_target.specs.Blocking.{ReadCame}
use Rattle.wb_target.proofs.Tries.{SoFar}
use Rattle.wb_target.proofs.client.Client.read_block.Given as goal

abbrev pub invariant-loop : goal.invariant-loop
invariant-loop g l = record {
  target : l.self.target ≡ l.fn.self.target;
  geometry : l.self.port.geometry ≡ l.fn.self.port.geometry;
  settled : l.self.port.accesses.items ≡ [];
  many : length l.out ≡ length l.fn.out;
  tried : SoFar (ReadCame g.D.Disk.tells g.D.Disk.size g.D.Disk.contents g.D.Disk.faults l.fn.self.port.geometry (Some Busy) (record { first = l.fn.at.0; count = length l.fn.out })) (l.fn.self.port.hand, l.fn.out) (l.self.port.hand, l.out);
}
