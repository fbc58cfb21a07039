use Rattle.std.proofs.Common.{◌∙◌, Some, None, ap, sym, subst, arith, List, length}
use Rattle.std.specs.Box.{with_value}
use Rattle.wb_tree.specs.Branches.{AreBoxes, IsSlot, boxes_of, forget, known_in, rewritten}
use Rattle.wb_tree.specs.declared.placed.PlacedNode.{PlacedNode}
use Rattle.wb_tree.proofs.Branching.Edits.{first_fits, inside-boxes, next-boxes, next-edit, next_new, next_set, same-edit}
use Rattle.wb_tree.proofs.Branching.Known.{counted-next}
use Rattle.wb_tree.proofs.Equality.{not_option, same_option}
use Rattle.wb_tree.proofs.tree.Tree.set.Goals as goal

pub returns-then-eq-clause-entries : goal.returns-then-eq-clause-entries
returns-then-eq-clause-entries g c =
    same-edit c.args.self.now c.args.c.0 c.get.result (Some c.args.entry) c.get.ensures.entry (same_option c.get.result c.args.entry (sym c.eq.ensures ∙ c.if-eq.true))

pub boxed-requires-clause-index : goal.boxed-requires-clause-index
boxed-requires-clause-index g c = first_fits c.self.inside.depth c.self.invariant.boxes.from c.self.invariant.boxes.to

pub invariant_of-self-in-Some : goal.invariant_of-self-in-Some
invariant_of-self-in-Some g c =
    let b = c.self.inside in
    let root = sym c.take.ensures.value ∙ c.in-Some.is in
    let less = inside-boxes b.cache_blocks b.depth b.root c.args.self.now c.args.c.0 c.self.invariant.boxes c.self.view_is c.requires in
    let enough = c.self.invariant.boxes.enough in
    let next =
    next_set b.depth c.in-Some.root (with_value c.in-Some.root c.set-done.new.self) c.args.c.0 c.args.entry (subst (IsSlot b.depth 0) root c.self.invariant.boxes.top) (omega arith)
    (c.in_ok-done-in-Some.ensures.ok ∙ ap (λ v. rewritten v c.args.c.0 (Some c.args.entry)) c.deref_mut.ensures.value) in
    record {
      boxes =
          next-boxes b.cache_blocks b.depth (Some c.in-Some.root) (Some (with_value c.in-Some.root c.set-done.new.self)) c.args.c.0 (Some c.args.entry) less (subst (AreBoxes b.cache_blocks b.depth) root c.self.invariant.boxes) next;
      many = counted-next b.cache_blocks b.depth b.root (Some (with_value c.in-Some.root c.set-done.new.self)) c.args.self.now c.args.c.0 b.known c.known_above-above.result c.self.invariant.many c.self.view_is c.known_above-above.ensures.forgotten
          (next.known ∙ ap (λ o. forget c.args.c.0 (known_in o)) (sym root));
    }

pub invariant_of-self-in-None : goal.invariant_of-self-in-None
invariant_of-self-in-None g c =
    let b = c.self.inside in
    let root = sym c.take.ensures.value ∙ c.in-None.is in
    let less = inside-boxes b.cache_blocks b.depth b.root c.args.self.now c.args.c.0 c.self.invariant.boxes c.self.view_is c.requires in
    let enough = c.self.invariant.boxes.enough in
    let next =
    next_new b.depth c.in_ok-boxed-in-None.field-0 c.args.c.0 c.args.entry c.self.invariant.boxes.from c.self.invariant.boxes.to (omega arith) c.in_ok-boxed-in-None.ensures in
    record {
      boxes =
          next-boxes b.cache_blocks b.depth None (Some c.in_ok-boxed-in-None.field-0) c.args.c.0 (Some c.args.entry) less (subst (AreBoxes b.cache_blocks b.depth) root c.self.invariant.boxes) next;
      many = c.self.invariant.many ∙ (ap (λ o. length (known_in o)) root ∙ sym (ap (λ (ks : List PlacedNode). length ks) next.known));
    }

pub returns-in_ok-done-in-Some : goal.returns-in_ok-done-in-Some
returns-in_ok-done-in-Some g c =
    let b = c.self.inside in
    let root = sym c.take.ensures.value ∙ c.in-Some.is in
    let less = inside-boxes b.cache_blocks b.depth b.root c.args.self.now c.args.c.0 c.self.invariant.boxes c.self.view_is c.requires in
    let enough = c.self.invariant.boxes.enough in
    let edit = next-edit b.cache_blocks b.depth (Some c.in-Some.root) (Some (with_value c.in-Some.root c.set-done.new.self)) c.args.self.now c.args.c.0 (Some c.args.entry) (subst (AreBoxes b.cache_blocks b.depth) root c.self.invariant.boxes)
    (ap (λ o. boxes_of b.cache_blocks b.depth o) (sym root) ∙ c.self.view_is) c.requires
    (next_set b.depth c.in-Some.root (with_value c.in-Some.root c.set-done.new.self) c.args.c.0 c.args.entry (subst (IsSlot b.depth 0) root c.self.invariant.boxes.top) (omega arith)
    (c.in_ok-done-in-Some.ensures.ok ∙ ap (λ v. rewritten v c.args.c.0 (Some c.args.entry)) c.deref_mut.ensures.value)) in
    record { entries = edit.entries; same = λ there. absurd (not_option c.get.result c.args.entry (sym c.eq.ensures ∙ c.if-eq.false) (c.get.ensures.entry ∙ there)); forgets = λ _. edit.forgets; stays_off = edit.others; edited = edit.edited; err = tt; refused = tt; sound = edit.sound }

pub returns-in_ok-boxed-in-None : goal.returns-in_ok-boxed-in-None
returns-in_ok-boxed-in-None g c =
    let b = c.self.inside in
    let root = sym c.take.ensures.value ∙ c.in-None.is in
    let less = inside-boxes b.cache_blocks b.depth b.root c.args.self.now c.args.c.0 c.self.invariant.boxes c.self.view_is c.requires in
    let enough = c.self.invariant.boxes.enough in
    let edit = next-edit b.cache_blocks b.depth None (Some c.in_ok-boxed-in-None.field-0) c.args.self.now c.args.c.0 (Some c.args.entry) (subst (AreBoxes b.cache_blocks b.depth) root c.self.invariant.boxes)
    (ap (λ o. boxes_of b.cache_blocks b.depth o) (sym root) ∙ c.self.view_is) c.requires
    (next_new b.depth c.in_ok-boxed-in-None.field-0 c.args.c.0 c.args.entry c.self.invariant.boxes.from c.self.invariant.boxes.to (omega arith) c.in_ok-boxed-in-None.ensures) in
    record { entries = edit.entries; same = λ there. absurd (not_option c.get.result c.args.entry (sym c.eq.ensures ∙ c.if-eq.false) (c.get.ensures.entry ∙ there)); forgets = λ _. edit.forgets; stays_off = edit.others; edited = edit.edited; err = tt; refused = tt; sound = edit.sound }
