use Rattle.std.proofs.Common.{◌≡◌, ◌<◌, ◌+◌, ◌-◌, ◌*◌, ◌++◌, ◌∙◌, sym, ap, refl, true, List, length, arith}
use Rattle.std.proofs.lemmas.List.{length-set, append-nil}
use Rattle.wb_format.specs.NodeWords.{IsInnerWord}
use Rattle.wb_tree.specs.Mapping.{NodeName, exists, place_of}
use Rattle.wb_tree.specs.Images.{place_word}
use Rattle.wb_tree.specs.Planning.{planned, names, changed_below}
use Rattle.wb_tree.proofs.Nodes.Listing.{each_from-none, exists-before}
use Rattle.wb_tree.proofs.Images.PlanWords.{words_everywhere, IsInnerWord-zero}
use Rattle.wb_format.proofs.WordLemmas.{set_more}
use Rattle.wb_tree.proofs.Images.PlanSteps.{begins-children, child-inside, child-more, inner-word, known_below_nothing, leaf-word, leaf_below, names-pushed, next-child, next-is, next-written, planned-known, planned-none, shut_below}
use Rattle.wb_tree.proofs.planning.+nodes.Goals as goal

pub plan_node-returns-in-None-clause-names : goal.plan_node-returns-in-None-clause-names
plan_node-returns-in-None-clause-names g t c =
    let front : List NodeName = names c.args.nodes.now.items in
    sym (append-nil front) ∙ ap (λ (ns : List NodeName). front ++ ns) (sym (shut_below c.args.plan.now.tree.now c.args.level c.args.index (sym c.in-None.ensures.there)))

pub plan_node-returns-in-None-clause-place : goal.plan_node-returns-in-None-clause-place
plan_node-returns-in-None-clause-place g t c = sym (planned-none c.args.plan.now.tree.now c.args.plan.now.free.now c.args.level c.args.index (sym c.in-None.ensures.there) (sym c.in-None.ensures.place))

pub plan_node-returns-in-Some-Some-clause-names : goal.plan_node-returns-in-Some-Some-clause-names
plan_node-returns-in-Some-Some-clause-names g t c =
    let front : List NodeName = names c.args.nodes.now.items in
    sym (append-nil front) ∙ ap (λ (ns : List NodeName). front ++ ns) (sym (known_below_nothing c.args.plan.now.tree.now c.requires.can.sound c.args.level c.args.index c.in-Some-Some.place (sym c.in-Some-Some.ensures.place ∙ c.in-Some-Some.field-0-is)))

pub plan_node-returns-in-Some-Some-clause-place : goal.plan_node-returns-in-Some-Some-clause-place
plan_node-returns-in-Some-Some-clause-place g t c = sym (planned-known c.args.plan.now.tree.now c.args.plan.now.free.now c.args.level c.args.index c.in-Some-Some.place (sym c.in-Some-Some.ensures.place ∙ c.in-Some-Some.field-0-is))

pub plan_node-plan_words-requires : goal.plan_node-plan_words-requires
plan_node-plan_words-requires g t c κs within =
    let m = c.args.plan.now.tree.now in
    let some : exists m.entries c.args.level c.args.index ≡ true = sym c.in-Some-None.ensures.there in
    let few = c.requires.can.few in
    let before = exists-before m.entries c.args.level c.args.index some in (
      omega arith,
      (
        (λ a m. within a m),
        (
          c.requires.can,
          (
            c.requires.level_from,
            (
              c.requires.level_to,
              (
                c.requires.level_most,
                (
                  c.requires.index,
                  (
                    omega arith,
                    (begins-children m (names c.args.nodes.now.items) c.args.level c.args.index c.requires.level_from some (sym c.in-Some-None.ensures.place ∙ c.in-Some-None.field-0-is) c.requires.next, c.requires.planned),
                  ),
                ),
              ),
            ),
          ),
        ),
      ),
    )

pub plan_node-put_node-requires : goal.plan_node-put_node-requires
plan_node-put_node-requires g t c =
    let next = next-is c.args.plan.now.tree.now c.args.plan.now.free.now (names c.args.nodes.now.items) c.args.level c.args.index c.plan_words.new.nodes.items
    c.requires.can c.requires.level_from (sym c.in-Some-None.ensures.there) (sym c.in-Some-None.ensures.place ∙ c.in-Some-None.field-0-is) c.requires.next c.in_ok-words.ensures.names in
    next.inside

pub plan_node-returns-clause-names : goal.plan_node-returns-clause-names
plan_node-returns-clause-names g t c =
    let next = next-is c.args.plan.now.tree.now c.args.plan.now.free.now (names c.args.nodes.now.items) c.args.level c.args.index c.plan_words.new.nodes.items
    c.requires.can c.requires.level_from (sym c.in-Some-None.ensures.there) (sym c.in-Some-None.ensures.place ∙ c.in-Some-None.field-0-is) c.requires.next c.in_ok-words.ensures.names in
    names-pushed c.plan_words.new.nodes.items c.put_node.new.nodes.items _ c.in_ok-place.ensures.put ∙ next.listed

pub plan_node-returns-clause-planned : goal.plan_node-returns-clause-planned
plan_node-returns-clause-planned g t c =
    let next = next-is c.args.plan.now.tree.now c.args.plan.now.free.now (names c.args.nodes.now.items) c.args.level c.args.index c.plan_words.new.nodes.items
    c.requires.can c.requires.level_from (sym c.in-Some-None.ensures.there) (sym c.in-Some-None.ensures.place ∙ c.in-Some-None.field-0-is) c.requires.next c.in_ok-words.ensures.names in
    next-written c.args.plan.now.version c.args.plan.now.tree.now c.args.plan.now.free.now (names c.args.nodes.now.items) c.args.plan.now.generation c.args.level c.args.index c.plan_words.new.nodes.items c.put_node.new.nodes.items _
    next c.in_ok-words.ensures.planned c.in_ok-place.ensures.put refl refl (record { stands = next.place ∙ c.in_ok-place.ensures.there; written_in = refl; mapping = refl; words = c.in_ok-words.ensures.words })

pub plan_node-returns-clause-place : goal.plan_node-returns-clause-place
plan_node-returns-clause-place g t c =
    let next = next-is c.args.plan.now.tree.now c.args.plan.now.free.now (names c.args.nodes.now.items) c.args.level c.args.index c.plan_words.new.nodes.items
    c.requires.can c.requires.level_from (sym c.in-Some-None.ensures.there) (sym c.in-Some-None.ensures.place ∙ c.in-Some-None.field-0-is) c.requires.next c.in_ok-words.ensures.names in
    sym (next.place ∙ c.in_ok-place.ensures.there)

pub plan_words-returns-then-level-eq1-clause-names : goal.plan_words-returns-then-level-eq1-clause-names
plan_words-returns-then-level-eq1-clause-names g t c =
    let front : List NodeName = names c.args.nodes.now.items in
    sym (append-nil front) ∙ ap (λ (ns : List NodeName). front ++ ns) (sym (leaf_below c.args.plan.now.tree.now c.args.level (32 * c.args.index) c.if-level-eq1.true))

pub plan_words-returns-then-level-eq1-clause-words : goal.plan_words-returns-then-level-eq1-clause-words
plan_words-returns-then-level-eq1-clause-words g t c j below =
    c.leaf_words.ensures.words j below ∙ sym (leaf-word c.args.plan.now.version c.args.plan.now.tree.now c.args.plan.now.free.now c.args.level c.args.index j c.if-level-eq1.true)

pub plan_words-loop-j-init : goal.plan_words-loop-j-init
plan_words-loop-j-init g t c = record {
  size = refl;
  listed = each_from-none (names c.args.nodes.now.items) (changed_below c.args.plan.now.tree.now (c.args.level - 1)) (32 * c.args.index);
  written = c.requires.planned;
  words = λ k below. absurd (omega arith);
  spelled = λ k below. absurd (omega arith);
}

pub plan_words-plan_node-requires : goal.plan_words-plan_node-requires
plan_words-plan_node-requires g t c κs within =
    let m = c.args.plan.now.tree.now in (
      omega arith,
      (
        (λ a m. within a m),
        (
          c.requires.can,
          (
            omega arith,
            (
              omega arith,
              (
                omega arith,
                (
                  child-inside _ c.args.level c.args.index c.loop-j.j (omega arith) c.requires.level_to c.requires.index c.loop-j-test.true,
                  (
                    next-child m (names c.args.nodes.now.items) (changed_below m (c.args.level - 1)) c.loop-j.j (32 * c.args.index) (names c.loop-j.nodes.items) c.loop-j-test.true
                        c.requires.next c.loop-j.invariant.listed,
                    c.loop-j.invariant.written,
                  ),
                ),
              ),
            ),
          ),
        ),
      ),
    )

pub plan_words-loop-j-preserved : goal.plan_words-loop-j-preserved
plan_words-loop-j-preserved g t c =
    let m = c.args.plan.now.tree.now in
    let inv = c.loop-j.invariant in
    let j = c.loop-j.j in
    let inside : c.loop-j.j < length c.loop-j.words = omega arith in
    let told = c.in_ok-child.ensures in
    let number = c.number_of.ensures in
    record {
      size = length-set c.loop-j.words j c.number_of.result ∙ inv.size;
      listed = told.names ∙ child-more (names c.args.nodes.now.items) (changed_below m (c.args.level - 1)) j (32 * c.args.index) (names c.loop-j.nodes.items) inv.listed;
      written = told.planned;
      words = set_more (λ k word. word ≡ place_word (place_of (planned m c.args.plan.now.free.now) (c.args.level - 1) (32 * c.args.index + k))) c.loop-j.words j c.number_of.result inside inv.words
          (number.number ∙ ap place_word told.place);
      spelled = set_more (λ k word. IsInnerWord word) c.loop-j.words j c.number_of.result inside inv.spelled
          (inner-word m c.args.plan.now.free.now (c.args.level - 1) (32 * c.args.index + j) c.in_ok-child.child c.number_of.result c.requires.can told.place number.number number.at_most);
    }

pub plan_words-returns-clause-spelled : goal.plan_words-returns-clause-spelled
plan_words-returns-clause-spelled g t c j =
    record {
      leaf = λ mapping e. absurd (c.if-level-eq1.false e);
      inner = λ e. words_everywhere IsInnerWord c.loop-j.words (λ k below. c.loop-j.invariant.spelled k (omega (arith, c.loop-j.invariant.size))) IsInnerWord-zero j;
    }
