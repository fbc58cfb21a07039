use Rattle.std.proofs.Common.{◌≤◌, ◌∙◌, ◌+◌, ◌-◌, ◌*◌, None, Some, refl, arith}
use Rattle.wb_tree.proofs.Branching.Branches.{kid_index, no_kid_at, not_one, node_empty, node_set, set_new, slot_sole, sole_inner, sole_leaf}
use Rattle.wb_tree.proofs.tree.node.Node.+new.Goals as goal

pub returns-then-level-eq1 : goal.returns-then-level-eq1
returns-then-level-eq1 g t c =
    sole_leaf c.args.level c.args.index c.args.offset _ _ 32 c.args.entry refl refl c.new-kids.ensures.items c.if-level-eq1.true

pub invariant_of-result-2 : goal.invariant_of-result-2
invariant_of-result-2 g t c =
    let from = c.requires.level_from in
    let to = c.requires.level_to in
    let higher : 2 ≤ c.args.level = not_one c.args.level from c.if-level-eq1.false in
    node_set c.args.level c.args.index _ c.in_ok-kids.kids.items c.word_of-word.result (Some c.in_ok-new.field-0)
    (node_empty c.args.level c.args.index _ c.in_ok-kids.kids.items 32 refl c.in_ok-kids.ensures c.if-level-eq1.false from to c.requires.index)
    c.if-level-eq1.false c.word_of-word.ensures.less
    (slot_sole (c.args.level - 1) (32 * c.args.index + c.word_of-word.result) c.rest_of-below.result c.args.entry c.in_ok-new.field-0 (omega arith) (omega arith)
    (kid_index c.args.level c.args.index c.word_of-word.result from c.word_of-word.ensures.less c.requires.index) c.rest_of-below.ensures.less (c.in_ok-new.ensures.ok ∙ c.in_ok-kid.ensures))

pub returns : goal.returns
returns g t c =
    let from = c.requires.level_from in
    let to = c.requires.level_to in
    set_new {place = None} (record {
      node = node_empty c.args.level c.args.index _ c.in_ok-kids.kids.items 32 refl c.in_ok-kids.ensures c.if-level-eq1.false from to c.requires.index;
      above = c.if-level-eq1.false;
      view = refl;
      less = c.requires.offset;
      word = c.word_of-word.ensures.value;
      rest = c.rest_of-below.ensures.value;
    }) c.in_ok-new.field-0 c.args.entry (no_kid_at c.in_ok-kids.kids.items 32 c.word_of-word.result c.in_ok-kids.ensures) (c.in_ok-new.ensures.ok ∙ c.in_ok-kid.ensures)
    ∙ sole_inner c.args.level c.args.index c.args.offset _ c.in_ok-kids.kids.items 32 c.args.entry refl c.in_ok-kids.ensures c.if-level-eq1.false from
