use Rattle.std.proofs.Common.{◌<◌, ◌∙◌, ◌-◌, ◌^◌, ◌+◌, ◌*◌, ap, sym, subst, arith}
use Rattle.wb_tree.specs.Mapping.{place_in}
use Rattle.wb_tree.specs.Branches.{Branch}
use Rattle.wb_tree.proofs.Branching.Branches.{found_at}
use Rattle.wb_tree.proofs.Branching.Looks.{asked, child_is, child_there, child_place, nothing_there, nothing_known, there_itself, place_itself}
use Rattle.wb_tree.proofs.tree.node.Node.+look.Goals as goal

pub returns-then-self-level-clause-there : goal.returns-then-self-level-clause-there
returns-then-self-level-clause-there g t c =
    let own = ap (λ (b : Branch). b.level) c.self.view_is in
    let kid = c.requires.kid in
    there_itself c.args.self.now c.args.level c.args.index (sym own ∙ c.if-self-level.true) c.requires.index kid.branch.size kid.some

pub returns-then-self-level-clause-place : goal.returns-then-self-level-clause-place
returns-then-self-level-clause-place g t c =
    let n = c.self.inside in
    let less = subst (λ (b : Branch). c.args.index < 32 ^ (b.level - c.args.level)) (sym c.self.view_is) c.requires.index in
    place_itself n.level n.index c.args.level c.args.index n.place n.words n.kids.items c.self.invariant c.if-self-level.true less
    ∙ ap (λ (b : Branch). place_in b.known c.args.level (b.index * 32 ^ (b.level - c.args.level) + c.args.index)) c.self.view_is

pub look-requires : goal.look-requires
look-requires g t c κs within =
    let n = c.self.inside in
    let w = c.word_of.result in
    let at = asked n.level n.index c.args.level c.args.index w c.rest_of-below.result n.place n.words n.kids.items c.args.self.now c.self.invariant c.self.view_is c.requires.from c.requires.to c.if-self-level.false c.requires.index c.word_of.ensures.value c.rest_of-below.ensures.value in
    let kid = child_is n.level n.index w n.words n.kids.items c.deref.result.now c.in-Some.kid c.self.invariant (found_at n.kids.items w c.index.result.now at.inside c.index.ensures ∙ c.in-Some.is) c.deref.ensures in
    let own = ap (λ (b : Branch). b.level) c.self.view_is in
    let level = kid.0 in
    let from = c.self.invariant.level_from in
    let below = at.below in (
      omega (arith, level, own, from),
      ((λ a m. within a m), (c.requires.from, (omega (arith, level, below), (subst (λ k. c.rest_of-below.result < 32 ^ (k - c.args.level)) (sym level) at.low, kid.1)))),
    )

pub returns-in-Some-clause-there : goal.returns-in-Some-clause-there
returns-in-Some-clause-there g t c =
    let n = c.self.inside in
    let w = c.word_of.result in
    let at = asked n.level n.index c.args.level c.args.index w c.rest_of-below.result n.place n.words n.kids.items c.args.self.now c.self.invariant c.self.view_is c.requires.from c.requires.to c.if-self-level.false c.requires.index c.word_of.ensures.value c.rest_of-below.ensures.value in
    c.look.ensures.there
    ∙ child_there n.level n.index c.args.level c.args.index w c.rest_of-below.result n.place n.words n.kids.items c.args.self.now c.deref.result.now c.in-Some.kid c.self.invariant c.self.view_is at
    (found_at n.kids.items w c.index.result.now at.inside c.index.ensures ∙ c.in-Some.is) c.deref.ensures

pub returns-in-Some-clause-place : goal.returns-in-Some-clause-place
returns-in-Some-clause-place g t c =
    let n = c.self.inside in
    let w = c.word_of.result in
    let at = asked n.level n.index c.args.level c.args.index w c.rest_of-below.result n.place n.words n.kids.items c.args.self.now c.self.invariant c.self.view_is c.requires.from c.requires.to c.if-self-level.false c.requires.index c.word_of.ensures.value c.rest_of-below.ensures.value in
    c.look.ensures.place
    ∙ child_place n.level n.index c.args.level c.args.index w c.rest_of-below.result n.place n.words n.kids.items c.args.self.now c.deref.result.now c.in-Some.kid c.self.invariant c.self.view_is c.if-self-level.false at
    (found_at n.kids.items w c.index.result.now at.inside c.index.ensures ∙ c.in-Some.is) c.deref.ensures

pub returns-in-None-clause-there : goal.returns-in-None-clause-there
returns-in-None-clause-there g t c =
    let n = c.self.inside in
    let w = c.word_of.result in
    let at = asked n.level n.index c.args.level c.args.index w c.rest_of-below.result n.place n.words n.kids.items c.args.self.now c.self.invariant c.self.view_is c.requires.from c.requires.to c.if-self-level.false c.requires.index c.word_of.ensures.value c.rest_of-below.ensures.value in
    nothing_there n.level n.index c.args.level c.args.index w c.rest_of-below.result n.place n.words n.kids.items c.args.self.now c.self.invariant c.self.view_is at
    (found_at n.kids.items w c.index.result.now at.inside c.index.ensures ∙ c.in-None.is)

pub returns-in-None-clause-place : goal.returns-in-None-clause-place
returns-in-None-clause-place g t c =
    let n = c.self.inside in
    let w = c.word_of.result in
    let at = asked n.level n.index c.args.level c.args.index w c.rest_of-below.result n.place n.words n.kids.items c.args.self.now c.self.invariant c.self.view_is c.requires.from c.requires.to c.if-self-level.false c.requires.index c.word_of.ensures.value c.rest_of-below.ensures.value in
    nothing_known n.level n.index c.args.level c.args.index w c.rest_of-below.result n.place n.words n.kids.items c.args.self.now c.self.invariant c.self.view_is c.if-self-level.false at
    (found_at n.kids.items w c.index.result.now at.inside c.index.ensures ∙ c.in-None.is)
