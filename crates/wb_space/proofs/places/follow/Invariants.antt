use Rattle.std.proofs.Common.{◌≡◌, length, map, not}
use Rattle.wb_bits.proofs.Chosen.{chosen}
use Rattle.wb_space.proofs.Differing.{DifferAt}
use Rattle.wb_space.proofs.places.follow.Given as goal

abbrev pub invariant-loop-at : goal.invariant-loop-at
invariant-loop-at l = record {
  even : length l.follower ≡ length l.followed;
  span : length l.others ≡ length l.followed;
  marks : length l.changed ≡ length l.followed;
  elsewhere : DifferAt l.changed l.follower l.followed;
  opposite : DifferAt l.changed l.others (map not l.followed);
}

abbrev pub decreases-loop-at : goal.decreases-loop-at
decreases-loop-at l = chosen (λ b. b) l.changed
