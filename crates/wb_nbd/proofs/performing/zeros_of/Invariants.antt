use Rattle.std.proofs.Common.{◌≡◌, ◌≤◌}
use Rattle.wb_nbd.specs.Performing.{zero_sectors}
use Rattle.wb_nbd.proofs.performing.zeros_of.Given as goal

abbrev pub invariant-loop : goal.invariant-loop
invariant-loop l = (l.zeros.items ≡ zero_sectors l.counter) × (l.count ≤ l.zeros.cap)
