use Rattle.std.proofs.Common.{◌≡◌, ◌≤◌, ◌<◌, ◌∙◌, ◌-◌, ◌^◌, ◌+◌, ◌*◌, None, Some, ap, sym, subst, length, arith}
use Rattle.std.specs.Prelude.{is_some}
use Rattle.std.specs.List.{list_any}
use Rattle.std.specs.Box.{with_value}
use Rattle.wb_tree.specs.Branches.{Branch, IsNode, branch_of, rewritten}
use Rattle.wb_tree.proofs.Branching.Branches.{found_at, kid_at, kid_index, long_kids, node_set, not_one, put_back, set_again, set_kid, set_leaf, set_new, slot_rewritten, slot_sole}
use Rattle.wb_tree.proofs.Branching.Slots.{any_set}
use Rattle.wb_tree.proofs.tree.node.Node.+set.Goals as goal
use Rattle.wb_types.proofs.Truth.{on_err}

pub returns-then-self-eq1-clause-ok : goal.returns-then-self-eq1-clause-ok
returns-then-self-eq1-clause-ok g t c =
    let n = c.self.inside in
    set_leaf n.level n.index n.place n.words n.kids.items c.args.offset (Some c.args.entry) c.self.invariant c.if-self-eq1.true (subst (λ (b : Branch). c.args.offset < 32 ^ b.level) (sym c.self.view_is) c.requires)
    ∙ ap (λ b. rewritten b c.args.offset (Some c.args.entry)) c.self.view_is

pub set-done-requires : goal.set-done-requires
set-done-requires g t c κs within =
    let n = c.self.inside in
    let long = long_kids n.level n.index n.words n.kids.items c.self.invariant c.if-self-eq1.false in
    let less : c.word_of-word.result < length n.kids.items = omega (arith, long) in
    let kid = kid_at (n.level - 1) (32 * n.index) c.word_of-word.result n.kids.items c.in-Some.kid c.self.invariant.slots
    (found_at n.kids.items c.word_of-word.result c.index_mut.result.now less c.index_mut.ensures.value ∙ (sym c.take.ensures.value ∙ c.in-Some.is)) in
    let level = ap (λ (b : Branch). b.level) c.deref_mut.ensures.value ∙ kid.level_is in
    let own = ap (λ (b : Branch). b.level) c.self.view_is in
    let from = c.self.invariant.level_from in
    (omega (arith, level, own, from), (λ a m. within a m, subst (λ k. c.rest_of-below.result < 32 ^ k) (sym level) c.rest_of-below.ensures.less))

pub returns-in_err-done-in-Some-clause-err : goal.returns-in_err-done-in-Some-clause-err
returns-in_err-done-in-Some-clause-err g t c =
    let n = c.self.inside in
    let long = long_kids n.level n.index n.words n.kids.items c.self.invariant c.if-self-eq1.false in
    let less : c.word_of-word.result < length n.kids.items = omega (arith, long) in
    let there = found_at n.kids.items c.word_of-word.result c.index_mut.result.now less c.index_mut.ensures.value ∙ (sym c.take.ensures.value ∙ c.in-Some.is) in
    on_err c.from_residual.result
    (ap (λ ks. branch_of n.level n.index n.place n.words ks) (put_back n.kids.items c.word_of-word.result c.take.new.self c.in-Some.kid (with_value c.in-Some.kid c.set-done.new.self) there
    (ap (λ v. with_value c.in-Some.kid v) (c.in_err-done-in-Some.ensures.err ∙ c.deref_mut.ensures.value)))
    ∙ c.self.view_is)

pub invariant_of-self-in-Some : goal.invariant_of-self-in-Some
invariant_of-self-in-Some g t c =
    let n = c.self.inside in
    let w = c.word_of-word.result in
    let long = long_kids n.level n.index n.words n.kids.items c.self.invariant c.if-self-eq1.false in
    let less : w < length n.kids.items = omega (arith, long) in
    let there = found_at n.kids.items w c.index_mut.result.now less c.index_mut.ensures.value ∙ (sym c.take.ensures.value ∙ c.in-Some.is) in
    let kid = kid_at (n.level - 1) (32 * n.index) w n.kids.items c.in-Some.kid c.self.invariant.slots there in
    let new = with_value c.in-Some.kid c.set-done.new.self in
    let same : new.value ≡ rewritten c.in-Some.kid.value c.rest_of-below.result (Some c.args.entry) = c.in_ok-done-in-Some.ensures.ok ∙ ap (λ b. rewritten b c.rest_of-below.result (Some c.args.entry)) c.deref_mut.ensures.value in
    let inside : c.rest_of-below.result < length c.in-Some.kid.value.entries = subst (λ k. c.rest_of-below.result < k) (sym (kid.branch.size ∙ ap (λ k. 32 ^ k) kid.level_is)) c.rest_of-below.ensures.less in
    subst (λ ks. IsNode n.level n.index n.words ks) (sym (set_again n.kids.items w c.take.new.self (Some new)))
    (node_set n.level n.index n.words n.kids.items w (Some new) c.self.invariant c.if-self-eq1.false c.word_of-word.ensures.less
    (slot_rewritten (n.level - 1) (32 * n.index + w) c.rest_of-below.result (Some c.args.entry) c.in-Some.kid new kid same
    (ap (λ (b : Branch). list_any is_some b.entries) same ∙ any_set c.in-Some.kid.value.entries c.rest_of-below.result c.args.entry inside)))

pub invariant_of-self-in-None : goal.invariant_of-self-in-None
invariant_of-self-in-None g t c =
    let n = c.self.inside in
    let w = c.word_of-word.result in
    let from = c.self.invariant.level_from in
    let to = c.self.invariant.level_to in
    let higher : 2 ≤ n.level = not_one n.level from c.if-self-eq1.false in
    subst (λ ks. IsNode n.level n.index n.words ks) (sym (set_again n.kids.items w c.take.new.self (Some c.in_ok-kid-in-None.kid)))
    (node_set n.level n.index n.words n.kids.items w (Some c.in_ok-kid-in-None.kid) c.self.invariant c.if-self-eq1.false c.word_of-word.ensures.less
    (slot_sole (n.level - 1) (32 * n.index + w) c.rest_of-below.result c.args.entry c.in_ok-kid-in-None.kid (omega arith) (omega arith)
    (kid_index n.level n.index w from c.word_of-word.ensures.less c.self.invariant.index_to) c.rest_of-below.ensures.less c.in_ok-kid-in-None.ensures))

pub returns-in_ok-done-in-Some-clause-ok : goal.returns-in_ok-done-in-Some-clause-ok
returns-in_ok-done-in-Some-clause-ok g t c =
    let n = c.self.inside in
    let w = c.word_of-word.result in
    let long = long_kids n.level n.index n.words n.kids.items c.self.invariant c.if-self-eq1.false in
    let less : w < length n.kids.items = omega (arith, long) in
    let there = found_at n.kids.items w c.index_mut.result.now less c.index_mut.ensures.value ∙ (sym c.take.ensures.value ∙ c.in-Some.is) in
    let new = with_value c.in-Some.kid c.set-done.new.self in
    let same : new.value ≡ rewritten c.in-Some.kid.value c.rest_of-below.result (Some c.args.entry) = c.in_ok-done-in-Some.ensures.ok ∙ ap (λ b. rewritten b c.rest_of-below.result (Some c.args.entry)) c.deref_mut.ensures.value in
    ap (λ ks. branch_of n.level n.index None n.words ks) (set_again n.kids.items w c.take.new.self (Some new))
    ∙ set_kid {place = n.place} (record {
      node = c.self.invariant;
      above = c.if-self-eq1.false;
      view = c.self.view_is;
      less = c.requires;
      word = c.word_of-word.ensures.value;
      rest = c.rest_of-below.ensures.value;
    }) c.in-Some.kid new (Some c.args.entry) there same

pub returns-in_ok-kid-in-None-clause-ok : goal.returns-in_ok-kid-in-None-clause-ok
returns-in_ok-kid-in-None-clause-ok g t c =
    let n = c.self.inside in
    let w = c.word_of-word.result in
    let long = long_kids n.level n.index n.words n.kids.items c.self.invariant c.if-self-eq1.false in
    let less : w < length n.kids.items = omega (arith, long) in
    let there = found_at n.kids.items w c.index_mut.result.now less c.index_mut.ensures.value ∙ (sym c.take.ensures.value ∙ c.in-None.is) in
    ap (λ ks. branch_of n.level n.index None n.words ks) (set_again n.kids.items w c.take.new.self (Some c.in_ok-kid-in-None.kid))
    ∙ set_new {place = n.place} (record {
      node = c.self.invariant;
      above = c.if-self-eq1.false;
      view = c.self.view_is;
      less = c.requires;
      word = c.word_of-word.ensures.value;
      rest = c.rest_of-below.ensures.value;
    }) c.in_ok-kid-in-None.kid c.args.entry there c.in_ok-kid-in-None.ensures
