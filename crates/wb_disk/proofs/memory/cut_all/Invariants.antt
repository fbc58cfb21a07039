use Rattle.std.proofs.Common.{◌≡◌, take, drop, map}
use Rattle.wb_disk.specs.Stored.{history, capacity_of, cut_at_mark}
use Rattle.wb_disk.proofs.memory.cut_all.Given as goal

abbrev pub invariant-loop-pending : goal.invariant-loop-pending
invariant-loop-pending l = record {
  cut : map history (take l.pending-index l.sectors) ≡ map cut_at_mark (take l.pending-index l.initial.sectors);
  capacity : map capacity_of l.sectors ≡ map capacity_of l.initial.sectors;
  rest : drop l.pending-index l.sectors ≡ drop l.pending-index l.initial.sectors;
}
