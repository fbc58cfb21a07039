use Rattle.std.proofs.Common.{◌≡◌, ◌<◌, ◌+◌, ◌-◌, ◌*◌, ◌++◌, ℕ, length, slice_index}
use Rattle.wb_format.specs.NodeWords.{IsInnerWord}
use Rattle.wb_tree.specs.Mapping.{each_from}
use Rattle.wb_tree.specs.Planning.{names}
use Rattle.wb_dirty.specs.Planning.{dirty_below, IsNamedBy, ArePlanned, Continues}
use Rattle.wb_dirty.proofs.planning.+nodes.Given as goal

abbrev pub decreases-plan_node : goal.decreases-plan_node
decreases-plan_node l = 2 * l.level + 1

abbrev pub decreases-plan_words : goal.decreases-plan_words
decreases-plan_words l = 2 * l.level

abbrev pub invariant-plan_words-loop-j : goal.invariant-plan_words-loop-j
invariant-plan_words-loop-j l = record {
  size : length l.words ≡ 32;
  listed : names l.nodes.items ≡ names l.fn.nodes.items ++ each_from (dirty_below l.plan.dirty.now (l.level - 1)) l.j (32 * l.index);
  continues : Continues l.fn.nodes.items l.nodes.items;
  planned : ArePlanned l.plan.dirty.now l.plan.generation l.plan.free.now l.nodes.items;
  words : (k : ℕ) → k < l.j → IsNamedBy l.plan.dirty.now l.nodes.items (l.level - 1) (32 * l.index + k) (slice_index l.words k);
  spelled : (k : ℕ) → k < l.j → IsInnerWord (slice_index l.words k);
}
