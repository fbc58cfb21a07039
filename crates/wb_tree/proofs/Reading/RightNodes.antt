-- What a node is that the mapping has where it is read.
use Rattle.std.proofs.Common.{◌≡◌, ◌≤◌, ◌&&◌, ◌==◌, ℕ, Bool, true, false, not, refl, arith, leb}
use Rattle.std.proofs.lemmas.Bool.{eqb-true}
use Rattle.std.proofs.lemmas.Grind.{common_steps}
use Rattle.wb_types.proofs.Truth.{and_true}
use Rattle.wb_format.specs.declared.node.Node.{Node}
use Rattle.wb_format.specs.declared.root.Root.{Root}
use Rattle.wb_tree.specs.Reading.{is_node_of}

pub record IsRight (root : Root) (level index : ℕ) (node : Node) : Type 0 where
  pub mapping : node.dirty ≡ false
  pub level_is : node.level ≡ level
  pub index_is : node.index ≡ index
  pub not_newer : node.generation ≤ root.generation

not_true : (b : Bool) → not b ≡ true → b ≡ false
not_true true h = absurd cc
not_true false h = refl

pub right_node : (root : Root) (level index : ℕ) (node : Node) → is_node_of root level index node ≡ true → IsRight root level index node
right_node root level index node h =
    let a = and_true (not node.dirty && (node.level == level) && (node.index == index)) (leb node.generation root.generation) h in
    let b = and_true (not node.dirty && (node.level == level)) (node.index == index) a.0 in
    let c = and_true (not node.dirty) (node.level == level) b.0 in
    record { mapping = not_true node.dirty c.0; level_is = eqb-true _ _ c.1; index_is = eqb-true _ _ b.1; not_newer = grind (arith, common_steps) }
