use Rattle.std.proofs.Common.{◌≡◌, ◌<◌, ◌-◌, ℕ, true, [], Some, length}
use Rattle.std.specs.List.{slice_get}
use Rattle.wb_disk.specs.Device.{History}
use Rattle.wb_disk.specs.Failing.{synced_where}
use Rattle.wb_disk.specs.Stored.{histories, capacities, IsNoted, lands_at}
use Rattle.wb_disk.proofs.memory.settle_where.Given as goal

abbrev pub invariant-loop-at : goal.invariant-loop-at
invariant-loop-at l = record {
  synced : synced_where (lands_at l.landing) (histories l.sectors) ≡ synced_where (lands_at l.landing) (histories l.initial.sectors);
  capacity : capacities l.sectors ≡ capacities l.initial.sectors;
  noted : IsNoted (histories l.sectors) l.unsynced;
  done : (i : ℕ) (h : History) → i < l.from → slice_get (histories l.sectors) i ≡ Some h → lands_at l.landing i ≡ true → h.later ≡ [];
}

abbrev pub decreases-loop-at : goal.decreases-loop-at
decreases-loop-at l = length l.unsynced - l.from
