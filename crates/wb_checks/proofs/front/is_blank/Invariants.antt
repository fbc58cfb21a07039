use Rattle.std.proofs.Common.{◌≡◌, map}
use Rattle.wb_disk.specs.Device.{newest}
use Rattle.wb_checks.specs.Fronts.{AreBlank}
use Rattle.wb_checks.proofs.front.is_blank.Given as goal

abbrev pub invariant-front : goal.invariant-front
invariant-front g l = record {
  size : g.D.Disk.size l.metadata ≡ g.D.Disk.size l.initial.metadata;
  same : g.D.Disk.tells → g.D.Disk.contents l.metadata ≡ g.D.Disk.contents l.initial.metadata;
  no_fault : g.D.Disk.tells → g.D.Disk.faults l.metadata ≡ g.D.Disk.faults l.initial.metadata;
  blank : g.D.Disk.tells → AreBlank (map newest (g.D.Disk.contents l.initial.metadata)) l.at;
}
