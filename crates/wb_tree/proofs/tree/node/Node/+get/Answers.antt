use Rattle.std.proofs.Common.{◌<◌, ◌∙◌, ◌-◌, ◌^◌, ◌*◌, ap, sym, subst, length, arith}
use Rattle.wb_tree.specs.Branches.{Branch}
use Rattle.wb_tree.proofs.Branching.Branches.{got_none, got_some, kid_at, found_at, long_kids}
use Rattle.wb_tree.proofs.tree.node.Node.+get.Goals as goal

pub get-requires : goal.get-requires
get-requires g t c κs within =
    let n = c.self.inside in
    let long = long_kids n.level n.index n.words n.kids.items c.self.invariant c.if-self-eq1.false in
    let less : c.word_of.result < length n.kids.items = omega (arith, long) in
    let kid = kid_at (n.level - 1) (32 * n.index) c.word_of.result n.kids.items c.in-Some.kid c.self.invariant.slots
    (found_at n.kids.items c.word_of.result c.index.result.now less c.index.ensures ∙ c.in-Some.is) in
    let level = ap (λ (b : Branch). b.level) c.deref.ensures ∙ kid.level_is in
    let own = ap (λ (b : Branch). b.level) c.self.view_is in
    let from = c.self.invariant.level_from in
    (omega (arith, level, own, from), (λ a m. within a m, subst (λ k. c.rest_of-below.result < 32 ^ k) (sym level) c.rest_of-below.ensures.less))

pub returns-in-Some : goal.returns-in-Some
returns-in-Some g t c =
    let n = c.self.inside in
    let long = long_kids n.level n.index n.words n.kids.items c.self.invariant c.if-self-eq1.false in
    let less : c.word_of.result < length n.kids.items = omega (arith, long) in
    c.get.ensures ∙ got_some n.level n.index n.place n.words n.kids.items c.args.offset c.word_of.result c.rest_of-below.result c.in-Some.kid _ _ c.self.invariant c.if-self-eq1.false c.self.view_is c.requires c.word_of.ensures.value c.rest_of-below.ensures.value
    (found_at n.kids.items c.word_of.result c.index.result.now less c.index.ensures ∙ c.in-Some.is) c.deref.ensures

pub returns-in-None : goal.returns-in-None
returns-in-None g t c =
    let n = c.self.inside in
    let long = long_kids n.level n.index n.words n.kids.items c.self.invariant c.if-self-eq1.false in
    let less : c.word_of.result < length n.kids.items = omega (arith, long) in
    got_none n.level n.index n.place n.words n.kids.items c.args.offset c.word_of.result _ c.self.invariant c.if-self-eq1.false c.self.view_is c.requires c.word_of.ensures.value
    (found_at n.kids.items c.word_of.result c.index.result.now less c.index.ensures ∙ c.in-None.is)
