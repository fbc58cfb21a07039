use Rattle.std.proofs.Common.{◌≡◌}
use Rattle.wbmeta.proofs.shadow.ShadowDisk.write_extent.Given as goal

abbrev pub invariant-sectors : goal.invariant-sectors
invariant-sectors g l = record { size : g.D.Disk.size l.self.inside ≡ g.D.Disk.size l.initial.self.inside }
