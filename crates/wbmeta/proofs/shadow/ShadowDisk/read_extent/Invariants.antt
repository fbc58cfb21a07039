use Rattle.std.proofs.Common.{◌≡◌, length}
use Rattle.wbmeta.proofs.shadow.ShadowDisk.read_extent.Given as goal

abbrev pub invariant-sectors : goal.invariant-sectors
invariant-sectors g l = record { size : g.D.Disk.size l.self.inside ≡ g.D.Disk.size l.initial.self.inside; many : length l.out ≡ length l.initial.out }
