use Rattle.std.proofs.Common.{◌≡◌, ◌<◌, ◌+◌, ◌-◌, ◌*◌, ◌++◌, ℕ, length, slice_index}
use Rattle.wb_format.specs.NodeWords.{IsInnerWord}
use Rattle.wb_tree.specs.Mapping.{each_from, place_of}
use Rattle.wb_tree.specs.Images.{place_word}
use Rattle.wb_tree.specs.Planning.{planned, names, changed_below, AreWritten}
use Rattle.wb_tree.proofs.planning.+nodes.Given as goal

abbrev pub decreases-plan_node : goal.decreases-plan_node
decreases-plan_node g l = 2 * l.level + 1

abbrev pub decreases-plan_words : goal.decreases-plan_words
decreases-plan_words g l = 2 * l.level

abbrev pub invariant-plan_words-loop-j : goal.invariant-plan_words-loop-j
invariant-plan_words-loop-j g l = record {
  size : length l.words ≡ 32;
  listed : names l.nodes.items ≡ names l.fn.nodes.items ++ each_from (changed_below l.plan.tree.now (l.level - 1)) l.j (32 * l.index);
  written : AreWritten l.plan.version (planned l.plan.tree.now l.plan.free.now) l.plan.generation l.plan.free.now l.nodes.items;
  words : (k : ℕ) → k < l.j → slice_index l.words k ≡ place_word (place_of (planned l.plan.tree.now l.plan.free.now) (l.level - 1) (32 * l.index + k));
  spelled : (k : ℕ) → k < l.j → IsInnerWord (slice_index l.words k);
}
