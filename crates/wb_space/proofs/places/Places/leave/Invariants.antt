use Rattle.std.proofs.Common.{◌≡◌, length}
use Rattle.wb_bits.proofs.Chosen.{chosen}
use Rattle.wb_space.specs.Places.{with_running, without}
use Rattle.wb_space.proofs.places.Places.leave.Given as goal

abbrev pub invariant-loop-at : goal.invariant-loop-at
invariant-loop-at l = record {
  places : l.self ≡ with_running l.initial.self l.self.in_use.running;
  running : without l.left l.self.in_use.running ≡ without l.initial.left l.initial.self.in_use.running;
  size : length l.left ≡ length l.initial.left;
}

abbrev pub decreases-loop-at : goal.decreases-loop-at
decreases-loop-at l = chosen (λ b. b) l.left
