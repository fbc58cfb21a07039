use Rattle.std.proofs.Common.{◌≡◌, ◌<◌, ◌+◌, ◌*◌, ℕ, length, slice_index}
use Rattle.wb_format.specs.Bytes.{number_at}
use Rattle.wb_format.specs.NodeWords.{IsNodeWordOf}
use Rattle.wb_format.proofs.node.words_at.Given as goal

abbrev pub invariant-loop-j : goal.invariant-loop-j
invariant-loop-j l = record {
  size : length l.words ≡ 32;
  read : (k : ℕ) → k < l.j → number_at l.content (32 + 8 * k) 8 ≡ slice_index l.words k;
  spelled : (k : ℕ) → k < l.j → IsNodeWordOf l.version l.dirty l.level (slice_index l.words k);
}
