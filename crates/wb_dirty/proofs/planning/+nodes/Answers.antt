use Rattle.std.proofs.Common.{◌≡◌, ◌<◌, ◌+◌, ◌-◌, ◌*◌, ◌++◌, ◌∙◌, sym, ap, refl, true, List, length, slice_index, arith}
use Rattle.std.proofs.lemmas.List.{length-set, append-nil}
use Rattle.wb_format.specs.NodeWords.{IsInnerWord}
use Rattle.wb_format.proofs.WordLemmas.{set_more}
use Rattle.wb_tree.specs.Mapping.{NodeName}
use Rattle.wb_tree.specs.Planning.{names}
use Rattle.wb_tree.proofs.Nodes.Listing.{each_from-none}
use Rattle.wb_tree.proofs.Images.PlanWords.{words_everywhere, IsInnerWord-zero}
use Rattle.wb_tree.proofs.Images.PlanSteps.{child-more}
use Rattle.wb_dirty.specs.Planning.{dirty_below, has_dirty, IsNamedBy}
use Rattle.wb_dirty.proofs.DirtyBits.{has_dirty-low}
use Rattle.wb_dirty.proofs.PlanSteps.{dirty_below-none, leaf_needs_none, place-left, places-below, places-next, listed-node, continues-self, continues-both, continues-push, named-more, planned-push, stands-pushed, inner-of}
use Rattle.wb_dirty.proofs.planning.+nodes.Goals as goal

pub plan_node-returns-then-not-is_any_below-clause-names : goal.plan_node-returns-then-not-is_any_below-clause-names
plan_node-returns-then-not-is_any_below-clause-names t c =
    let front : List NodeName = names c.args.nodes.now.items in
    sym (append-nil front) ∙ ap (λ (ns : List NodeName). front ++ ns) (sym (dirty_below-none c.args.plan.now.dirty.now c.args.level c.args.index (sym c.is_any_below.ensures ∙ c.if-not-is_any_below.true)))

pub plan_node-returns-then-not-is_any_below-clause-continues : goal.plan_node-returns-then-not-is_any_below-clause-continues
plan_node-returns-then-not-is_any_below-clause-continues t c = continues-self c.args.nodes.now.items

pub plan_node-plan_words-requires : goal.plan_node-plan_words-requires
plan_node-plan_words-requires t c =
    let some : has_dirty c.args.plan.now.dirty.now c.args.level c.args.index ≡ true = sym c.is_any_below.ensures ∙ c.if-not-is_any_below.false in
    let low = has_dirty-low c.args.plan.now.dirty.now c.args.level c.args.index c.requires.level_from c.requires.few some in (
      omega arith,
      (
        c.requires.few,
        (
          c.requires.behind,
          (
            c.requires.level_from,
            (
              c.requires.level_to,
              (
                low,
                (places-below c.args.plan.now.dirty.now c.args.level c.args.index (length c.args.plan.now.free.now) c.args.nodes.now.items c.requires.level_from some c.requires.enough, c.requires.planned),
              ),
            ),
          ),
        ),
      ),
    )

pub plan_node-put_node-requires : goal.plan_node-put_node-requires
plan_node-put_node-requires t c =
    let some : has_dirty c.args.plan.now.dirty.now c.args.level c.args.index ≡ true = sym c.is_any_below.ensures ∙ c.if-not-is_any_below.false in
    let room = place-left c.args.plan.now.dirty.now c.args.level c.args.index (length c.args.plan.now.free.now) c.args.nodes.now.items c.plan_words.new.nodes.items c.requires.level_from some c.requires.enough c.in_ok-words.ensures.names in
    room

pub plan_node-returns-clause-names : goal.plan_node-returns-clause-names
plan_node-returns-clause-names t c =
    let some : has_dirty c.args.plan.now.dirty.now c.args.level c.args.index ≡ true = sym c.is_any_below.ensures ∙ c.if-not-is_any_below.false in
    listed-node c.args.plan.now.dirty.now c.args.level c.args.index c.args.nodes.now.items c.plan_words.new.nodes.items c.put_node.new.nodes.items _ c.requires.level_from some
    c.in_ok-words.ensures.names c.in_ok-put_node.ensures.put refl refl

pub plan_node-returns-clause-continues : goal.plan_node-returns-clause-continues
plan_node-returns-clause-continues t c =
    continues-both c.args.nodes.now.items c.plan_words.new.nodes.items c.put_node.new.nodes.items c.in_ok-words.ensures.continues
    (continues-push c.plan_words.new.nodes.items c.put_node.new.nodes.items _ c.in_ok-put_node.ensures.put)

pub plan_node-returns-clause-planned : goal.plan_node-returns-clause-planned
plan_node-returns-clause-planned t c =
    let some : has_dirty c.args.plan.now.dirty.now c.args.level c.args.index ≡ true = sym c.is_any_below.ensures ∙ c.if-not-is_any_below.false in
    let room = place-left c.args.plan.now.dirty.now c.args.level c.args.index (length c.args.plan.now.free.now) c.args.nodes.now.items c.plan_words.new.nodes.items c.requires.level_from some c.requires.enough c.in_ok-words.ensures.names in
    planned-push c.args.plan.now.dirty.now c.args.plan.now.generation c.args.plan.now.free.now c.plan_words.new.nodes.items c.put_node.new.nodes.items _
    c.in_ok-words.ensures.planned c.in_ok-put_node.ensures.put room c.in_ok-put_node.ensures.there
    (record { of_bits = refl; written_in = refl; words = record { leaf = c.in_ok-words.ensures.leaf; inner = c.in_ok-words.ensures.inner } })

pub plan_node-returns-clause-place : goal.plan_node-returns-clause-place
plan_node-returns-clause-place t c =
    (sym c.is_any_below.ensures ∙ c.if-not-is_any_below.false, stands-pushed c.plan_words.new.nodes.items c.put_node.new.nodes.items c.args.level c.args.index _ c.in_ok-put_node.ensures.put refl refl)

pub plan_words-returns-then-level-eq1-clause-names : goal.plan_words-returns-then-level-eq1-clause-names
plan_words-returns-then-level-eq1-clause-names t c =
    let front : List NodeName = names c.args.nodes.now.items in
    sym (append-nil front) ∙ ap (λ (ns : List NodeName). front ++ ns) (sym (leaf_needs_none c.args.plan.now.dirty.now c.args.level (32 * c.args.index) c.if-level-eq1.true))

pub plan_words-returns-then-level-eq1-clause-continues : goal.plan_words-returns-then-level-eq1-clause-continues
plan_words-returns-then-level-eq1-clause-continues t c = continues-self c.args.nodes.now.items

pub plan_words-loop-j-init : goal.plan_words-loop-j-init
plan_words-loop-j-init t c = record {
  size = refl;
  listed = each_from-none (names c.args.nodes.now.items) (dirty_below c.args.plan.now.dirty.now (c.args.level - 1)) (32 * c.args.index);
  continues = continues-self c.args.nodes.now.items;
  planned = c.requires.planned;
  words = λ k below. absurd (omega arith);
  spelled = λ k below. absurd (omega arith);
}

pub plan_words-plan_node-requires : goal.plan_words-plan_node-requires
plan_words-plan_node-requires t c = (
  omega arith,
  (
    c.requires.few,
    (
      c.requires.behind,
      (
        omega arith,
        (
          omega arith,
          (
            omega arith,
            (
              places-next (dirty_below c.args.plan.now.dirty.now (c.args.level - 1)) c.loop-j.j (32 * c.args.index) (length c.args.plan.now.free.now) c.args.nodes.now.items c.loop-j.nodes.items c.loop-j-test.true c.requires.enough c.loop-j.invariant.listed,
              c.loop-j.invariant.planned,
            ),
          ),
        ),
      ),
    ),
  ),
)

pub plan_words-loop-j-preserved : goal.plan_words-loop-j-preserved
plan_words-loop-j-preserved t c =
    let inv = c.loop-j.invariant in
    let j = c.loop-j.j in
    let inside : c.loop-j.j < length c.loop-j.words = omega (arith, c.loop-j.invariant.size, c.loop-j-test.true) in
    let told = c.in_ok-child.ensures in
    let number = c.number_of.ensures in
    let dirty = c.args.plan.now.dirty.now in
    record {
      size = length-set c.loop-j.words j c.number_of.result ∙ inv.size;
      listed = told.names ∙ child-more (names c.args.nodes.now.items) (dirty_below dirty (c.args.level - 1)) j (32 * c.args.index) (names c.loop-j.nodes.items) inv.listed;
      continues = continues-both c.args.nodes.now.items c.loop-j.nodes.items c.plan_node.new.nodes.items inv.continues told.continues;
      planned = told.planned;
      words = set_more (λ k word. IsNamedBy dirty c.plan_node.new.nodes.items (c.args.level - 1) (32 * c.args.index + k) word) c.loop-j.words j c.number_of.result inside
          (λ k below. named-more dirty c.loop-j.nodes.items c.plan_node.new.nodes.items (c.args.level - 1) (32 * c.args.index + k) (slice_index c.loop-j.words k) told.continues (inv.words k below))
          (record { place = c.in_ok-child.child; placed = told.place; spelled = number.number });
      spelled = set_more (λ k word. IsInnerWord word) c.loop-j.words j c.number_of.result inside inv.spelled
          (inner-of dirty c.args.plan.now.generation c.args.plan.now.free.now c.plan_node.new.nodes.items (c.args.level - 1) (32 * c.args.index + j) c.number_of.result c.in_ok-child.child told.planned c.requires.behind told.place number.number number.at_most);
    }

pub plan_words-returns-clause-spelled : goal.plan_words-returns-clause-spelled
plan_words-returns-clause-spelled t c j =
    record {
      leaf = λ mapping e. absurd (c.if-level-eq1.false e);
      inner = λ e. words_everywhere IsInnerWord c.loop-j.words (λ k below. c.loop-j.invariant.spelled k (omega (arith, c.loop-j.invariant.size, c.loop-j-test.false))) IsInnerWord-zero j;
    }
