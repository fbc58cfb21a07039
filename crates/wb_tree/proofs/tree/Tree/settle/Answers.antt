use Rattle.std.proofs.Common.{◌++◌, ◌∙◌, ap, sym, subst, arith, List, length, length-append}
use Rattle.wb_tree.specs.Mapping.{Mapping, place_of, place_in}
use Rattle.wb_tree.specs.Settling.{CanSettle}
use Rattle.wb_tree.specs.Branches.{AreBoxes, boxes_of, known_in}
use Rattle.wb_tree.proofs.Branching.Settled.{can_settle, nothing_boxed, nothing_settled}
use Rattle.wb_tree.proofs.Branching.Known.{settled-few}
use Rattle.wb_tree.specs.declared.placed.PlacedNode.{PlacedNode}
use Rattle.wb_tree.proofs.tree.Tree.settle.Goals as goal

pub returns-in_default-clause-places : goal.returns-in_default-clause-places
returns-in_default-clause-places g c level index =
    let b = c.self.inside in
    let none = sym c.take.ensures.value ∙ c.in_default.is in
    let alike = nothing_boxed b.cache_blocks b.depth b.root c.args.self.now c.args.nodes.now none c.self.invariant.boxes c.self.view_is c.requires.sound in
    ap (λ o. place_in (known_in o) level index) (c.take.ensures.after ∙ sym none) ∙ (ap (λ (m : Mapping). place_of m level index) c.self.view_is ∙ alike.places level index)

pub settle_all-requires : goal.settle_all-requires
settle_all-requires g c =
    let b = c.self.inside in
    let root = sym c.take.ensures.value ∙ c.in-Some.is in
    subst (λ v. CanSettle v c.args.nodes.now) (sym c.deref_mut.ensures.value)
    (can_settle b.cache_blocks b.depth c.in-Some.root c.args.self.now c.args.nodes.now (subst (AreBoxes b.cache_blocks b.depth) root c.self.invariant.boxes) (ap (λ o. boxes_of b.cache_blocks b.depth o) (sym root) ∙ c.self.view_is) c.requires.apart c.requires.sound)

pub returns-in_default-clause-more : goal.returns-in_default-clause-more
returns-in_default-clause-more g c =
    let b = c.self.inside in
    let none = sym c.take.ensures.value ∙ c.in_default.is in
    let nothing = nothing_settled b.cache_blocks b.depth b.root c.args.self.now c.args.nodes.now none c.self.invariant.boxes c.self.view_is c.requires.sound in
    omega (
      arith,
      ap (λ o. length (known_in o)) c.take.ensures.after,
      ap (λ o. length (known_in o)) none,
      ap (λ (m : Mapping). length m.known) c.self.view_is,
      ap (λ (ks : List PlacedNode). length ks) nothing,
    )

pub overflow_cast-self : goal.overflow_cast-self
overflow_cast-self g c =
    let b = c.self.inside in
    let few = settled-few b.cache_blocks b.depth b.root c.args.self.now (c.args.self.now.known ++ c.args.nodes.now) c.self.invariant.boxes c.self.view_is c.requires.sound c.requires.apart in
    omega (arith, few, length-append c.args.self.now.known c.args.nodes.now)

pub overflow_add-self : goal.overflow_add-self
overflow_add-self g c =
    let b = c.self.inside in
    let few = settled-few b.cache_blocks b.depth b.root c.args.self.now (c.args.self.now.known ++ c.args.nodes.now) c.self.invariant.boxes c.self.view_is c.requires.sound c.requires.apart in
    omega (arith, few, length-append c.args.self.now.known c.args.nodes.now, c.self.invariant.many, ap (λ (m : Mapping). length m.known) c.self.view_is)
