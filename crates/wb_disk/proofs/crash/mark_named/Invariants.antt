use Rattle.std.proofs.Common.{◌≡◌, ◌<◌, drop, length}
use Rattle.std.specs.Prelude.{All, take}
use Rattle.wb_disk.specs.Stored.{histories, capacities, marks, marks_named}
use Rattle.wb_disk.proofs.crash.mark_named.Given as goal

abbrev pub invariant-loop-name : goal.invariant-loop-name
invariant-loop-name l = record {
  marks : marks_named l.device (drop l.name-index l.named) (marks l.sectors) ≡ marks_named l.device l.named (marks l.initial.sectors);
  contents : histories l.sectors ≡ histories l.initial.sectors;
  capacity : capacities l.sectors ≡ capacities l.initial.sectors;
  inside : All (λ name. name.device ≡ l.device → name.sector < length l.initial.sectors) (take l.name-index l.named);
}
