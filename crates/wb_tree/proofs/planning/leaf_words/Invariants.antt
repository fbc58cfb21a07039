use Rattle.std.proofs.Common.{◌≡◌, ◌<◌, ◌+◌, ◌*◌, ℕ, length, slice_index}
use Rattle.wb_format.specs.NodeWords.{IsLeafWord, entry_word, kept}
use Rattle.wb_tree.specs.Mapping.{entry_at}
use Rattle.wb_tree.proofs.planning.leaf_words.Given as goal

abbrev pub invariant-loop-j : goal.invariant-loop-j
invariant-loop-j g l = record {
  size : length l.words ≡ 32;
  words : (k : ℕ) → k < l.j → slice_index l.words k ≡ entry_word (kept l.version (entry_at l.tree (32 * l.index + k)));
  spelled : (k : ℕ) → k < l.j → IsLeafWord (slice_index l.words k);
}
