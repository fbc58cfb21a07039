use Rattle.std.proofs.Common.{◌≡◌, false, true, ◌<◌, ◌∙◌, ◌-◌, ◌^◌, ◌+◌, ◌*◌, Some, ap, sym, subst, slice_set, arith}
use Rattle.std.specs.Box.{with_value}
use Rattle.wb_tree.specs.Branches.{Branch, IsNode, branch_of}
use Rattle.wb_tree.specs.Settling.{IsSettledAt}
use Rattle.wb_tree.proofs.Branching.Branches.{found_at, kid_at, node_set, set_again}
use Rattle.wb_tree.proofs.Branching.Looks.{asked, child_is, child_there, child_place, nothing_there, settled_below, slot_settled}
use Rattle.wb_tree.proofs.tree.node.Node.+settle.Goals as goal

pub settle-requires : goal.settle-requires
settle-requires g t c κs within =
    let n = c.self.inside in
    let w = c.word_of-word.result in
    let at = asked n.level n.index c.args.level c.args.index w c.rest_of-below.result n.place n.words n.kids.items c.args.self.now c.self.invariant c.self.view_is c.requires.from c.requires.to c.if-self-level.false c.requires.index c.word_of-word.ensures.value c.rest_of-below.ensures.value in
    let there = found_at n.kids.items w c.index_mut.result.now at.inside c.index_mut.ensures.value ∙ (sym c.take.ensures.value ∙ c.in-Some.is) in
    let kid = child_is n.level n.index w n.words n.kids.items c.deref_mut.result.now c.in-Some.kid c.self.invariant there c.deref_mut.ensures.value in
    let own = ap (λ (b : Branch). b.level) c.self.view_is in
    let level = kid.0 in
    let from = c.self.invariant.level_from in
    let below = at.below in (
      omega (arith, level, own, from),
      (
        (λ a m. within a m),
        (
          c.requires.from,
          (
            omega (arith, level, below),
            (
              subst (λ k. c.rest_of-below.result < 32 ^ (k - c.args.level)) (sym level) at.low,
              (
                child_there n.level n.index c.args.level c.args.index w c.rest_of-below.result n.place n.words n.kids.items c.args.self.now c.deref_mut.result.now c.in-Some.kid c.self.invariant c.self.view_is at there c.deref_mut.ensures.value
                    ∙ c.requires.there,
                child_place n.level n.index c.args.level c.args.index w c.rest_of-below.result n.place n.words n.kids.items c.args.self.now c.deref_mut.result.now c.in-Some.kid c.self.invariant c.self.view_is c.if-self-level.false at there
                    c.deref_mut.ensures.value
                    ∙ c.requires.unknown,
              ),
            ),
          ),
        ),
      ),
    )

pub invariant_of-self-2 : goal.invariant_of-self-2
invariant_of-self-2 g t c =
    let n = c.self.inside in
    let w = c.word_of-word.result in
    let at = asked n.level n.index c.args.level c.args.index w c.rest_of-below.result n.place n.words n.kids.items c.args.self.now c.self.invariant c.self.view_is c.requires.from c.requires.to c.if-self-level.false c.requires.index c.word_of-word.ensures.value c.rest_of-below.ensures.value in
    let there = found_at n.kids.items w c.index_mut.result.now at.inside c.index_mut.ensures.value ∙ (sym c.take.ensures.value ∙ c.in-Some.is) in
    let kid = kid_at (n.level - 1) (32 * n.index) w n.kids.items c.in-Some.kid c.self.invariant.slots there in
    let new = with_value c.in-Some.kid c.settle.new.self in
    let low = subst (λ k. c.rest_of-below.result < 32 ^ (k - c.args.level)) (sym kid.level_is) at.low in
    let below = at.below in
    let level = kid.level_is in
    subst (λ ks. IsNode n.level n.index n.words ks) (sym (set_again n.kids.items w c.take.new.self (Some new)))
    (node_set n.level n.index n.words n.kids.items w (Some new) c.self.invariant at.above c.word_of-word.ensures.less
    (slot_settled (n.level - 1) (32 * n.index + w) c.in-Some.kid new c.args.level c.rest_of-below.result c.args.place kid (omega (arith, level, below)) low
    (subst (λ (b : Branch). IsSettledAt b new.value (record { level = c.args.level; index = b.index * 32 ^ (b.level - c.args.level) + c.rest_of-below.result; place = c.args.place })) c.deref_mut.ensures.value c.settle.ensures)))

pub returns : goal.returns
returns g t c =
    let n = c.self.inside in
    let w = c.word_of-word.result in
    let at = asked n.level n.index c.args.level c.args.index w c.rest_of-below.result n.place n.words n.kids.items c.args.self.now c.self.invariant c.self.view_is c.requires.from c.requires.to c.if-self-level.false c.requires.index c.word_of-word.ensures.value c.rest_of-below.ensures.value in
    let there = found_at n.kids.items w c.index_mut.result.now at.inside c.index_mut.ensures.value ∙ (sym c.take.ensures.value ∙ c.in-Some.is) in
    let new = with_value c.in-Some.kid c.settle.new.self in
    let settled = settled_below n.level n.index c.args.level c.args.index w c.rest_of-below.result n.place c.args.place n.words n.kids.items c.in-Some.kid new c.self.invariant at.above at.way there
    (subst (λ (b : Branch). IsSettledAt b new.value (record { level = c.args.level; index = b.index * 32 ^ (b.level - c.args.level) + c.rest_of-below.result; place = c.args.place })) c.deref_mut.ensures.value c.settle.ensures) in
    subst (λ ks. IsSettledAt c.args.self.now (branch_of n.level n.index n.place n.words ks) (record { level = c.args.level; index = c.args.self.now.index * 32 ^ (c.args.self.now.level - c.args.level) + c.args.index; place = c.args.place }))
    (sym (set_again n.kids.items w c.take.new.self (Some new)))
    (subst (λ (b : Branch). IsSettledAt b (branch_of n.level n.index n.place n.words (slice_set n.kids.items w (Some new))) (record { level = c.args.level; index = b.index * 32 ^ (b.level - c.args.level) + c.args.index; place = c.args.place })) c.self.view_is settled)

pub returns-in_default : goal.returns-in_default
returns-in_default g t c =
    let n = c.self.inside in
    let w = c.word_of-word.result in
    let at = asked n.level n.index c.args.level c.args.index w c.rest_of-below.result n.place n.words n.kids.items c.args.self.now c.self.invariant c.self.view_is c.requires.from c.requires.to c.if-self-level.false c.requires.index c.word_of-word.ensures.value c.rest_of-below.ensures.value in
    let none = found_at n.kids.items w c.index_mut.result.now at.inside c.index_mut.ensures.value ∙ (sym c.take.ensures.value ∙ c.in_default.is) in
    let some : false ≡ true = nothing_there n.level n.index c.args.level c.args.index w c.rest_of-below.result n.place n.words n.kids.items c.args.self.now c.self.invariant c.self.view_is at none ∙ c.requires.there in
    absurd cc
