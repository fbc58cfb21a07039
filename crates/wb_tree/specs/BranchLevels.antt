-- The children of a node are of a lower level.
use Rattle.std.specs.Prelude.{◌≡◌, ◌≤◌, ◌+◌, ◌-◌, ◌*◌, ℕ, suc, Option, Some, None, Box, List, [], ◌∷◌, slice_index_or, max}
use Rattle.std.proofs.Common.{arith, refl, subst}
use Rattle.std.specs.declared.alloc.Allocator.{Ghosts}
use denote.Param.Weighed.{most}
use Rattle.wb_tree.specs.declared.tree.node.Node.TheInside.{Inside}
use Rattle.wb_tree.specs.declared.tree.node.Node.TheDeep.{deep-Node}
use Rattle.wb_tree.specs.declared.tree.node.Node.TheShapes.{weighed-Node-kids, weighed-Node-kids-at-2}
use Rattle.wb_tree.specs.Branches.{Branch, IsNode, IsSlot}

slot_level : {A : Type 0} (μ : Option (Box Branch A) → ℕ) → μ None ≡ 0 → ((kid : Box Branch A) → μ (Some kid) ≡ kid.value.level + 1)
    → (o : Option (Box Branch A)) (level index : ℕ) → 1 ≤ level → IsSlot (level - 1) index o → μ o ≤ level
slot_level μ none some None level index from slot = omega (arith, none)
slot_level μ none some (Some kid) level index from slot = let is = slot.level_is in omega (arith, some kid)

most_level : {A : Type 0} (μ : Option (Box Branch A) → ℕ) → μ None ≡ 0 → ((kid : Box Branch A) → μ (Some kid) ≡ kid.value.level + 1)
    → (kids : List (Option (Box Branch A))) (level first : ℕ) → 1 ≤ level → ((j : ℕ) → IsSlot (level - 1) (first + j) (slice_index_or kids j None)) → most μ kids ≤ level
most_level μ none some [] level first from slots = omega arith
most_level {A} μ none some (kid ∷ kids) level first from slots =
    let here = slot_level μ none some kid level (first + 0) from (slots 0) in
    let rest = most_level μ none some kids level (first + 1) from
    (λ j. let e : first + suc j ≡ first + 1 + j = omega arith in subst (λ i. IsSlot (level - 1) i (slice_index_or kids j None)) e (slots (suc j))) in
    omega (arith, here, rest)

at_most : (a b : ℕ) → a ≤ b → max a 0 ≤ b
at_most a b h = omega arith

pub deep_level : {A : Type 0} (ghosts : Ghosts A) (n : Inside A) → IsNode n.level n.index n.words n.kids.items → deep-Node A ghosts n ≤ n.level
deep_level {A} ghosts n h =
    at_most ((weighed-Node-kids A).weight Branch (λ b. b.level + 1) n.kids) n.level
    (most_level ((weighed-Node-kids-at-2 A).weight Branch (λ b. b.level + 1)) refl (λ kid. omega arith) n.kids.items n.level (32 * n.index) h.level_from h.slots)
