use Rattle.std.proofs.Common.{◌-◌, ◌≤◌}
use Rattle.wb_checks.specs.Samples.{AreAsBefore, AreSame, HaveSizes}
use Rattle.wb_checks.proofs.comparing.is_same_on_both.Given as goal

abbrev pub invariant-pieces : goal.invariant-pieces
invariant-pieces g l = record {
  within : l.done ≤ l.size;
  sizes : HaveSizes g.D.Disk.size l.initial.devices l.devices;
  kept : g.D.Disk.tells → AreAsBefore g.D.Disk.contents l.initial.devices l.devices;
  same : g.D.Disk.tells → AreSame (g.D.Disk.contents l.initial.devices.cache) (g.D.Disk.contents l.initial.devices.origin) l.cache l.origin l.done;
}

abbrev pub decreases-pieces : goal.decreases-pieces
decreases-pieces g l = l.size - l.done
