use Rattle.std.proofs.Common.{◌≡◌, ◌≤◌, ◌-◌, ◌*◌, ◌∙◌, refl, sym, subst, arith}
use Rattle.wb_tree.proofs.Branching.Branches.{kid_index, not_one}
use Rattle.wb_tree.proofs.Branching.Filling.{AreFilled, filled_inner, filled_leaf, filled_none, node_filled, none_filled, one_filled}
use Rattle.wb_tree.proofs.tree.node.filling.+filled.Goals as goal

pub returns-then-not-exists : goal.returns-then-not-exists
returns-then-not-exists g t c = filled_none c.args.entries.now c.args.level c.args.index (sym c.exists.ensures ∙ c.if-not-exists.true)

pub returns-then-level-eq1 : goal.returns-then-level-eq1
returns-then-level-eq1 g t c =
    filled_leaf c.args.entries.now c.words_of-words.result c.args.level c.args.index c.new-kids.result.items c.in_ok-new.field-0 c.in_ok-new.ensures.ok c.if-level-eq1.true c.requires.index c.new-kids.ensures.items
    c.words_of-words.ensures.size c.words_of-words.ensures.words (sym c.exists.ensures ∙ c.if-not-exists.false)

pub loop-word-init : goal.loop-word-init
loop-word-init g t c = none_filled c.args.entries.now (c.args.level - 1) (32 * c.args.index) 32 c.in_ok-kids.kids.items refl c.in_ok-kids.ensures

pub filled-requires : goal.filled-requires
filled-requires g t c κs within =
    let from = c.requires.level_from in
    let to = c.requires.level_to in
    let higher : 2 ≤ c.args.level = not_one c.args.level from c.if-level-eq1.false in
    (omega arith, (λ a m. within a m, (omega arith, (omega arith, kid_index c.args.level c.args.index c.loop-word.word from c.loop-word-test.true c.requires.index))))

pub loop-word-preserved : goal.loop-word-preserved
loop-word-preserved g t c = one_filled c.args.entries.now (c.args.level - 1) (32 * c.args.index) c.loop-word.word c.loop-word.kids.items c.in_ok-kids-2.field-0 c.loop-word-test.true c.loop-word.invariant c.in_ok-kids-2.ensures

pub invariant_of-node : goal.invariant_of-node
invariant_of-node g t c =
    let end : c.loop-word.word ≡ 32 = omega arith in
    let are = subst (λ n. AreFilled c.args.entries.now (c.args.level - 1) (32 * c.args.index) n c.loop-word.kids.items) end c.loop-word.invariant in
    node_filled c.args.entries.now _ c.args.level c.args.index c.loop-word.kids.items c.requires.level_from c.requires.level_to c.if-level-eq1.false c.requires.index are

pub returns : goal.returns
returns g t c =
    let end : c.loop-word.word ≡ 32 = omega arith in
    let are = subst (λ n. AreFilled c.args.entries.now (c.args.level - 1) (32 * c.args.index) n c.loop-word.kids.items) end c.loop-word.invariant in
    filled_inner c.args.entries.now _ c.args.level c.args.index c.loop-word.kids.items c.in_ok-new-2.field-0 c.in_ok-new-2.ensures.ok c.requires.level_from c.requires.level_to c.if-level-eq1.false c.requires.index are
    (sym c.exists.ensures ∙ c.if-not-exists.false)
