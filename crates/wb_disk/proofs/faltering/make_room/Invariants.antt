use Rattle.std.proofs.Common.{◌≡◌}
use Rattle.wb_disk.specs.Memory.{HasRoomFor}
use Rattle.wb_disk.proofs.faltering.make_room.Given as goal

abbrev pub invariant-loop-k : goal.invariant-loop-k
invariant-loop-k l = record {
  room : HasRoomFor l.disk l.first l.k;
  contents : l.disk.contents ≡ l.initial.disk.contents;
  faults : l.disk.faults ≡ l.initial.disk.faults;
  stays : HasRoomFor l.initial.disk l.first l.count → l.disk ≡ l.initial.disk;
}
