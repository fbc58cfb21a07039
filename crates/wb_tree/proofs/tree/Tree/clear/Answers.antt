use Rattle.std.proofs.Common.{◌-◌, ◌∙◌, Some, None, ap, sym, subst}
use Rattle.std.specs.Box.{with_value}
use Rattle.wb_tree.specs.Branches.{AreBoxes, IsSlot, IsTree, boxes_of, forget, known_in, rewritten}
use Rattle.wb_tree.specs.Edits.{IsChangedAt}
use Rattle.wb_tree.proofs.Branching.Edits.{inside-boxes, next-boxes, next-edit, next_gone, next_kid, some_entry_is, same-edit}
use Rattle.wb_tree.proofs.Branching.Known.{counted-next}
use Rattle.wb_tree.proofs.tree.Tree.clear.Goals as goal
use Rattle.wb_tree.proofs.Nodes.Fronts.{none_is}

pub returns-then-is_none-clause-entries : goal.returns-then-is_none-clause-entries
returns-then-is_none-clause-entries g c =
    same-edit c.args.self.now c.args.c.0 c.get.result None c.get.ensures.entry (none_is c.get.result c.if-is_none.ensures)

pub invariant_of-self-2 : goal.invariant_of-self-2
invariant_of-self-2 g c =
    let b = c.self.inside in
    let root = sym c.take.ensures.value ∙ c.in-Some.is in
    let new = with_value c.in-Some.root c.clear.new.self in
    let next =
    next_kid b.depth c.in-Some.root new c.args.c.0 None (subst (IsSlot b.depth 0) root c.self.invariant.boxes.top) (c.clear.ensures.cleared ∙ ap (λ v. rewritten v c.args.c.0 None) c.deref_mut.ensures.value) (sym c.clear.ensures.left ∙ c.if-not-clear.false) in
    record {
      boxes =
          next-boxes b.cache_blocks b.depth (Some c.in-Some.root) (Some new) c.args.c.0 None (inside-boxes b.cache_blocks b.depth b.root c.args.self.now c.args.c.0 c.self.invariant.boxes c.self.view_is c.requires) (subst (AreBoxes b.cache_blocks b.depth) root c.self.invariant.boxes) next;
      many = counted-next b.cache_blocks b.depth b.root (Some new) c.args.self.now c.args.c.0 b.known c.known_above-above.result c.self.invariant.many c.self.view_is c.known_above-above.ensures.forgotten (next.known ∙ ap (λ o. forget c.args.c.0 (known_in o)) (sym root));
    }

pub invariant_of-self-then-not-clear : goal.invariant_of-self-then-not-clear
invariant_of-self-then-not-clear g c =
    let b = c.self.inside in
    let root = sym c.take.ensures.value ∙ c.in-Some.is in
    let next =
    next_gone b.depth c.in-Some.root c.clear.new.self c.args.c.0 (subst (IsSlot b.depth 0) root c.self.invariant.boxes.top) (c.clear.ensures.cleared ∙ ap (λ v. rewritten v c.args.c.0 None) c.deref_mut.ensures.value) (sym c.clear.ensures.left ∙ c.if-not-clear.true) (c.clear.ensures.emptied c.if-not-clear.true) in
    subst (IsTree b.cache_blocks b.depth (b.known - c.known_above-above.result)) (sym c.take.ensures.after) (record {
      boxes =
          next-boxes b.cache_blocks b.depth (Some c.in-Some.root) None c.args.c.0 None (inside-boxes b.cache_blocks b.depth b.root c.args.self.now c.args.c.0 c.self.invariant.boxes c.self.view_is c.requires) (subst (AreBoxes b.cache_blocks b.depth) root c.self.invariant.boxes) next;
      many = counted-next b.cache_blocks b.depth b.root None c.args.self.now c.args.c.0 b.known c.known_above-above.result c.self.invariant.many c.self.view_is c.known_above-above.ensures.forgotten (next.known ∙ ap (λ o. forget c.args.c.0 (known_in o)) (sym root));
    })

pub returns : goal.returns
returns g c =
    let b = c.self.inside in
    let root = sym c.take.ensures.value ∙ c.in-Some.is in
    let new = with_value c.in-Some.root c.clear.new.self in
    let edit = next-edit b.cache_blocks b.depth (Some c.in-Some.root) (Some new) c.args.self.now c.args.c.0 None (subst (AreBoxes b.cache_blocks b.depth) root c.self.invariant.boxes) (ap (λ o. boxes_of b.cache_blocks b.depth o) (sym root) ∙ c.self.view_is) c.requires
    (next_kid b.depth c.in-Some.root new c.args.c.0 None (subst (IsSlot b.depth 0) root c.self.invariant.boxes.top) (c.clear.ensures.cleared ∙ ap (λ v. rewritten v c.args.c.0 None) c.deref_mut.ensures.value) (sym c.clear.ensures.left ∙ c.if-not-clear.false)) in
    record { entries = edit.entries; same = λ there. absurd (some_entry_is c.get.result c.if-is_none.ensures (c.get.ensures.entry ∙ there)); forgets = λ _. edit.forgets; stays_off = edit.others; edited = edit.edited; sound = edit.sound }

pub returns-then-not-clear : goal.returns-then-not-clear
returns-then-not-clear g c =
    let b = c.self.inside in
    let root = sym c.take.ensures.value ∙ c.in-Some.is in
    let edit = subst (λ o. IsChangedAt c.args.self.now (boxes_of b.cache_blocks b.depth o) c.args.c.0 None) (sym c.take.ensures.after)
    (next-edit b.cache_blocks b.depth (Some c.in-Some.root) None c.args.self.now c.args.c.0 None (subst (AreBoxes b.cache_blocks b.depth) root c.self.invariant.boxes) (ap (λ o. boxes_of b.cache_blocks b.depth o) (sym root) ∙ c.self.view_is) c.requires
    (next_gone b.depth c.in-Some.root c.clear.new.self c.args.c.0 (subst (IsSlot b.depth 0) root c.self.invariant.boxes.top) (c.clear.ensures.cleared ∙ ap (λ v. rewritten v c.args.c.0 None) c.deref_mut.ensures.value) (sym c.clear.ensures.left ∙ c.if-not-clear.true) (c.clear.ensures.emptied c.if-not-clear.true))) in
    record { entries = edit.entries; same = λ there. absurd (some_entry_is c.get.result c.if-is_none.ensures (c.get.ensures.entry ∙ there)); forgets = λ _. edit.forgets; stays_off = edit.others; edited = edit.edited; sound = edit.sound }
