use Rattle.std.proofs.Common.{◌≡◌}
use Rattle.wbmeta.proofs.found.read_moving.Given as goal

abbrev pub invariant-again : goal.invariant-again
invariant-again g l = record { same : g.D.Disk.tells → g.D.Disk.contents l.disk ≡ g.D.Disk.contents l.initial.disk }
