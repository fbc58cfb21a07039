use Rattle.std.proofs.Common.{◌≡◌, ◌≤◌, ◌<◌, ◌+◌, ℕ, length, drop}
use Rattle.wb_disk.specs.Memory.{HasRoom}
use Rattle.wb_disk.specs.Extents.{written_where}
use Rattle.wb_disk.specs.Failing.{lands}
use Rattle.wb_disk.proofs.faltering.write_landing.Given as goal

abbrev pub invariant-loop-k : goal.invariant-loop-k
invariant-loop-k l = record {
  size : length l.disk.contents ≡ length l.initial.disk.contents;
  faults : l.disk.faults ≡ l.initial.disk.faults;
  room : (i : ℕ) → l.k ≤ i → i < length l.contents → HasRoom l.disk (l.first + i);
  landed : written_where (lands l.device l.choice) l.disk.contents (l.first + l.k) (drop l.k l.contents) ≡ written_where (lands l.device l.choice) l.initial.disk.contents l.first l.contents;
}
