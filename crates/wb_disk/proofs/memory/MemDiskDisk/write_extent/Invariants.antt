use Rattle.std.proofs.Common.{◌≡◌, ◌<◌, ◌≤◌, ◌+◌, ℕ, length, take}
use Rattle.wb_disk.specs.Extents.{written_each}
use Rattle.wb_disk.specs.Memory.{HasRoom, HasRoomFor}
use Rattle.wb_disk.proofs.memory.MemDiskDisk.write_extent.Given as goal

abbrev pub invariant-loop-k : goal.invariant-loop-k
invariant-loop-k l = record {
  many : length l.self.contents ≡ length l.initial.self.contents;
  contents : l.self.contents ≡ written_each l.initial.self.contents l.first (take l.k l.from);
  room : HasRoomFor l.initial.self l.first (length l.from) → (i : ℕ) → l.k ≤ i → i < length l.from → HasRoom l.self (l.first + i);
  faults : l.self.faults ≡ l.initial.self.faults;
}
