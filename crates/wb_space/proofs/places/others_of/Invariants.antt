use Rattle.std.proofs.Common.{◌≡◌, ◌<◌, ℕ, false, not, length, get_or}
use Rattle.wb_space.proofs.places.others_of.Given as goal

abbrev pub invariant-loop-at : goal.invariant-loop-at
invariant-loop-at l = record {
  size : length l.others ≡ length l.uses;
  others : (k : ℕ) → k < l.at → get_or l.others k false ≡ not (get_or l.uses k false);
}
