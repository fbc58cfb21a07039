use Rattle.std.proofs.Common.{◌≡◌, ◌≤◌, ◌<◌, ◌/◌, ℕ, get_or}
use Rattle.wb_sketch.specs.Packed.{counter_in}
use Rattle.wb_sketch.proofs.row.halve_each.Given as goal

abbrev pub invariant-loop-word : goal.invariant-loop-word
invariant-loop-word l = record {
  halved : (k number : ℕ) → k < l.word-index → number < 16 → counter_in (get_or l.words k 0) number ≡ counter_in (get_or l.initial.words k 0) number / 2;
  ahead : (k : ℕ) → l.word-index ≤ k → get_or l.words k 0 ≡ get_or l.initial.words k 0;
}
