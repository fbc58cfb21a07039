use Rattle.std.proofs.Common.{◌<◌, ◌∙◌, ◌-◌, ◌^◌, ◌+◌, ◌*◌, None, Some, ap, sym, subst, set, length, arith}
use Rattle.std.specs.Prelude.{is_some}
use Rattle.std.specs.List.{list_any}
use Rattle.std.specs.Box.{with_value}
use Rattle.wb_tree.specs.Branches.{Branch, IsNode, branch_of, rewritten}
use Rattle.wb_tree.proofs.Branching.Branches.{any_at, emptied_leaf, found_at, kid_at, known_none, left_above, left_leaf, long_kids, node_set, set_again, set_gone, set_kid, set_leaf, set_none, slot_rewritten}
use Rattle.wb_tree.proofs.tree.node.Node.+clear.Goals as goal

pub returns-then-self-eq1-clause-cleared : goal.returns-then-self-eq1-clause-cleared
returns-then-self-eq1-clause-cleared g t c =
    let n = c.self.inside in
    set_leaf n.level n.index n.place n.words n.kids.items c.args.offset None c.self.invariant c.if-self-eq1.true (subst (λ (b : Branch). c.args.offset < 32 ^ b.level) (sym c.self.view_is) c.requires)
    ∙ ap (λ b. rewritten b c.args.offset None) c.self.view_is

pub returns-then-self-eq1-clause-left : goal.returns-then-self-eq1-clause-left
returns-then-self-eq1-clause-left g t c =
    let n = c.self.inside in
    c.has_some.ensures ∙ sym (left_leaf n.level n.index None _ n.kids.items c.if-self-eq1.true)

pub returns-then-self-eq1-clause-emptied : goal.returns-then-self-eq1-clause-emptied
returns-then-self-eq1-clause-emptied g t c =
    let n = c.self.inside in
    λ _. emptied_leaf n.level n.index n.words n.words n.kids.items c.self.invariant c.if-self-eq1.true

pub clear-requires : goal.clear-requires
clear-requires g t c κs within =
    let n = c.self.inside in
    let long = long_kids n.level n.index n.words n.kids.items c.self.invariant c.if-self-eq1.false in
    let less : c.word_of-word.result < length n.kids.items = omega (arith, long) in
    let kid = kid_at (n.level - 1) (32 * n.index) c.word_of-word.result n.kids.items c.in-Some.kid c.self.invariant.slots
    (found_at n.kids.items c.word_of-word.result c.index_mut.result.now less c.index_mut.ensures.value ∙ (sym c.take.ensures.value ∙ c.in-Some.is)) in
    let level = ap (λ (b : Branch). b.level) c.deref_mut.ensures.value ∙ kid.level_is in
    let own = ap (λ (b : Branch). b.level) c.self.view_is in
    let from = c.self.invariant.level_from in
    (omega (arith, level, own, from), (λ a m. within a m, subst (λ k. c.rest_of-below.result < 32 ^ k) (sym level) c.rest_of-below.ensures.less))

pub invariant_of-self-then-clear : goal.invariant_of-self-then-clear
invariant_of-self-then-clear g t c =
    let n = c.self.inside in
    let w = c.word_of-word.result in
    let long = long_kids n.level n.index n.words n.kids.items c.self.invariant c.if-self-eq1.false in
    let less : w < length n.kids.items = omega (arith, long) in
    let there = found_at n.kids.items w c.index_mut.result.now less c.index_mut.ensures.value ∙ (sym c.take.ensures.value ∙ c.in-Some.is) in
    let new = with_value c.in-Some.kid c.clear.new.self in
    subst (λ ks. IsNode n.level n.index n.words ks) (sym (set_again n.kids.items w c.take.new.self (Some new)))
    (node_set n.level n.index n.words n.kids.items w (Some new) c.self.invariant c.if-self-eq1.false c.word_of-word.ensures.less
    (slot_rewritten (n.level - 1) (32 * n.index + w) c.rest_of-below.result None c.in-Some.kid new (kid_at (n.level - 1) (32 * n.index) w n.kids.items c.in-Some.kid c.self.invariant.slots there)
    (c.clear.ensures.cleared ∙ ap (λ b. rewritten b c.rest_of-below.result None) c.deref_mut.ensures.value)
    (sym c.clear.ensures.left ∙ c.if-clear.true)))

pub returns-then-clear-clause-cleared : goal.returns-then-clear-clause-cleared
returns-then-clear-clause-cleared g t c =
    let n = c.self.inside in
    let w = c.word_of-word.result in
    let long = long_kids n.level n.index n.words n.kids.items c.self.invariant c.if-self-eq1.false in
    let less : w < length n.kids.items = omega (arith, long) in
    let there = found_at n.kids.items w c.index_mut.result.now less c.index_mut.ensures.value ∙ (sym c.take.ensures.value ∙ c.in-Some.is) in
    let new = with_value c.in-Some.kid c.clear.new.self in
    ap (λ ks. branch_of n.level n.index None n.words ks) (set_again n.kids.items w c.take.new.self (Some new))
    ∙ set_kid {place = n.place} (record {
      node = c.self.invariant;
      above = c.if-self-eq1.false;
      view = c.self.view_is;
      less = c.requires;
      word = c.word_of-word.ensures.value;
      rest = c.rest_of-below.ensures.value;
    }) c.in-Some.kid new None there (c.clear.ensures.cleared ∙ ap (λ b. rewritten b c.rest_of-below.result None) c.deref_mut.ensures.value)

pub returns-then-clear-clause-left : goal.returns-then-clear-clause-left
returns-then-clear-clause-left g t c =
    let n = c.self.inside in
    let w = c.word_of-word.result in
    let long = long_kids n.level n.index n.words n.kids.items c.self.invariant c.if-self-eq1.false in
    let less : w < length n.kids.items = omega (arith, long) in
    let there = found_at n.kids.items w c.index_mut.result.now less c.index_mut.ensures.value ∙ (sym c.take.ensures.value ∙ c.in-Some.is) in
    let new = with_value c.in-Some.kid c.clear.new.self in
    let node = node_set n.level n.index n.words n.kids.items w (Some new) c.self.invariant c.if-self-eq1.false c.word_of-word.ensures.less
    (slot_rewritten (n.level - 1) (32 * n.index + w) c.rest_of-below.result None c.in-Some.kid new (kid_at (n.level - 1) (32 * n.index) w n.kids.items c.in-Some.kid c.self.invariant.slots there)
    (c.clear.ensures.cleared ∙ ap (λ b. rewritten b c.rest_of-below.result None) c.deref_mut.ensures.value)
    (sym c.clear.ensures.left ∙ c.if-clear.true)) in
    sym (ap (λ ks. list_any is_some (branch_of n.level n.index None n.words ks).entries) (set_again n.kids.items w c.take.new.self (Some new))
    ∙ (left_above n.level n.index None n.words (set n.kids.items w (Some new)) node c.if-self-eq1.false ∙ any_at n.kids.items w new less))

pub returns-else-clear-clause-cleared : goal.returns-else-clear-clause-cleared
returns-else-clear-clause-cleared g t c =
    let n = c.self.inside in
    let w = c.word_of-word.result in
    let long = long_kids n.level n.index n.words n.kids.items c.self.invariant c.if-self-eq1.false in
    let less : w < length n.kids.items = omega (arith, long) in
    let there = found_at n.kids.items w c.index_mut.result.now less c.index_mut.ensures.value ∙ (sym c.take.ensures.value ∙ c.in-Some.is) in
    ap (λ o. branch_of n.level n.index None n.words (set n.kids.items w o)) c.take.ensures.after
    ∙ set_gone {place = n.place} (record {
      node = c.self.invariant;
      above = c.if-self-eq1.false;
      view = c.self.view_is;
      less = c.requires;
      word = c.word_of-word.ensures.value;
      rest = c.rest_of-below.ensures.value;
    }) c.in-Some.kid c.clear.new.self there (c.clear.ensures.cleared ∙ ap (λ b. rewritten b c.rest_of-below.result None) c.deref_mut.ensures.value)
    (sym c.clear.ensures.left ∙ c.if-clear.false) (c.clear.ensures.emptied c.if-clear.false)

pub returns-else-clear-clause-left : goal.returns-else-clear-clause-left
returns-else-clear-clause-left g t c =
    let n = c.self.inside in
    let w = c.word_of-word.result in
    let node = node_set n.level n.index n.words n.kids.items w None c.self.invariant c.if-self-eq1.false c.word_of-word.ensures.less tt in
    c.has_some-in-Some.ensures ∙ (ap (λ ks. list_any is_some ks) c.deref.ensures.value ∙ (ap (λ o. list_any is_some (set n.kids.items w o)) c.take.ensures.after
    ∙ sym (ap (λ o. list_any is_some (branch_of n.level n.index None n.words (set n.kids.items w o)).entries) c.take.ensures.after
    ∙ left_above n.level n.index None n.words (set n.kids.items w None) node c.if-self-eq1.false)))

pub returns-else-clear-clause-emptied : goal.returns-else-clear-clause-emptied
returns-else-clear-clause-emptied g t c =
    λ none. known_none (set c.self.inside.kids.items c.word_of-word.result c.take.new.self) (sym (c.has_some-in-Some.ensures ∙ ap (λ ks. list_any is_some ks) c.deref.ensures.value) ∙ none)

pub returns-in-None-clause-cleared : goal.returns-in-None-clause-cleared
returns-in-None-clause-cleared g t c =
    let n = c.self.inside in
    let w = c.word_of-word.result in
    let long = long_kids n.level n.index n.words n.kids.items c.self.invariant c.if-self-eq1.false in
    let less : w < length n.kids.items = omega (arith, long) in
    let there = found_at n.kids.items w c.index_mut.result.now less c.index_mut.ensures.value ∙ (sym c.take.ensures.value ∙ c.in-None.is) in
    ap (λ o. branch_of n.level n.index None n.words (set n.kids.items w o)) c.take.ensures.after
    ∙ set_none {place = n.place} (record {
      node = c.self.invariant;
      above = c.if-self-eq1.false;
      view = c.self.view_is;
      less = c.requires;
      word = c.word_of-word.ensures.value;
      rest = c.rest_of-below.ensures.value;
    }) there

pub returns-in-None-clause-left : goal.returns-in-None-clause-left
returns-in-None-clause-left g t c =
    let n = c.self.inside in
    let w = c.word_of-word.result in
    let node = node_set n.level n.index n.words n.kids.items w None c.self.invariant c.if-self-eq1.false c.word_of-word.ensures.less tt in
    c.has_some-in-None.ensures ∙ (ap (λ ks. list_any is_some ks) c.deref-in-None.ensures.value ∙ (ap (λ o. list_any is_some (set n.kids.items w o)) c.take.ensures.after
    ∙ sym (ap (λ o. list_any is_some (branch_of n.level n.index None n.words (set n.kids.items w o)).entries) c.take.ensures.after
    ∙ left_above n.level n.index None n.words (set n.kids.items w None) node c.if-self-eq1.false)))

pub returns-in-None-clause-emptied : goal.returns-in-None-clause-emptied
returns-in-None-clause-emptied g t c =
    λ none. known_none (set c.self.inside.kids.items c.word_of-word.result c.take.new.self) (sym (c.has_some-in-None.ensures ∙ ap (λ ks. list_any is_some ks) c.deref-in-None.ensures.value) ∙ none)
