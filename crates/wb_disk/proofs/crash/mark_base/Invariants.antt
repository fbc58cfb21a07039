use Rattle.std.proofs.Common.{◌≡◌, take, drop, map}
use Rattle.wb_disk.specs.Crash.{base_position}
use Rattle.wb_disk.specs.Stored.{history, capacity_of}
use Rattle.wb_disk.proofs.crash.mark_base.Given as goal

abbrev pub invariant-loop-pending : goal.invariant-loop-pending
invariant-loop-pending l = record {
  marks : map (λ p. p.mark) (take l.pending-index l.sectors) ≡ map (λ p. base_position l.base (history p)) (take l.pending-index l.initial.sectors);
  contents : map history l.sectors ≡ map history l.initial.sectors;
  capacity : map capacity_of l.sectors ≡ map capacity_of l.initial.sectors;
  rest : drop l.pending-index l.sectors ≡ drop l.pending-index l.initial.sectors;
}
