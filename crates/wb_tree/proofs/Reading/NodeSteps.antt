-- A node that is read, by its level.
use Rattle.std.proofs.Common.{◌≡◌, ◌≤◌, ◌+◌, ◌-◌, ◌*◌, ◌∙◌, sym, ap, subst, refl, ℕ, zero, suc, true, false, List, Some, None, Err, arith, slice_index}
use Rattle.wb_types.specs.declared.number.Place.{Place}
use Rattle.wb_format.specs.declared.root.Root.{Root}
use Rattle.wb_format.specs.declared.node.Node.{Node}
use Rattle.wb_tree.specs.declared.placed.PlacedNode.{PlacedNode}
use Rattle.wb_tree.specs.declared.frame.Frame.{Frame}
use Rattle.wb_tree.specs.Reading.{Found, ReadOutcome, Nodes, each_step, child_read, node_read, is_node_of, reached_at}
use Rattle.wb_tree.specs.Loading.{leaf_read, frame_rest, frame_step}

-- nothing is spelled there
pub node_read-none : (root : Root) (nodes : Nodes) (level index : ℕ) (here : Place) (found : Found) → nodes here.0 ≡ None → node_read root nodes level index here found ≡ Err here
unfolding node_read
node_read-none root nodes zero index here found e = refl
node_read-none root nodes (suc zero) index here found e = rw e refl
node_read-none root nodes (suc (suc level)) index here found e = rw e refl

-- another node is spelled there
pub node_read-other : (root : Root) (nodes : Nodes) (level index : ℕ) (here : Place) (node : Node) (found : Found) → nodes here.0 ≡ Some node → is_node_of root level index node ≡ false
    → node_read root nodes level index here found ≡ Err here
unfolding node_read
node_read-other root nodes zero index here node found e wrong = refl
node_read-other root nodes (suc zero) index here node found e wrong = rw (e, wrong) refl
node_read-other root nodes (suc (suc level)) index here node found e wrong = rw (e, wrong) refl

-- a leaf
pub node_read-leaf : (root : Root) (nodes : Nodes) (leaf : PlacedNode) (node : Node) (found : Found) → leaf.level ≡ 1 → nodes leaf.place.0 ≡ Some node → is_node_of root leaf.level leaf.index node ≡ true
    → node_read root nodes leaf.level leaf.index leaf.place found ≡ leaf_read root leaf node.words (reached_at leaf.level leaf.index leaf.place found)
unfolding node_read
node_read-leaf root nodes leaf node found one e right =
    let right' : is_node_of root 1 leaf.index node ≡ true = subst (λ l. is_node_of root l leaf.index node ≡ true) one right in
    subst (λ l. node_read root nodes l leaf.index leaf.place found ≡ leaf_read root leaf node.words (reached_at l leaf.index leaf.place found)) (sym one) (rw (e, right') refl)

pub read_above_leaves : (root : Root) (nodes : Nodes) (level index : ℕ) (here : Place) (node : Node) (found : Found) → nodes here.0 ≡ Some node → is_node_of root (suc (suc level)) index node ≡ true
    → node_read root nodes (suc (suc level)) index here found
    ≡ each_step (λ j. child_read root here (suc level) (32 * index + j) (node_read root nodes (suc level)) (slice_index node.words j)) 32 0 (reached_at (suc (suc level)) index here found)
unfolding node_read
read_above_leaves root nodes level index here node found e right = rw (e, right) refl

-- a node above the leaves
pub node_read-inner : (root : Root) (nodes : Nodes) (frame : Frame) (node : Node) (found : Found) → 2 ≤ frame.node.level → frame.next ≡ 0 → frame.words ≡ node.words
    → nodes frame.node.place.0 ≡ Some node → is_node_of root frame.node.level frame.node.index node ≡ true
    → node_read root nodes frame.node.level frame.node.index frame.node.place found ≡ frame_rest root nodes frame (reached_at frame.node.level frame.node.index frame.node.place found)
node_read-inner root nodes frame node found two next words e right =
    let level : frame.node.level ≡ suc (suc (frame.node.level - 2)) = omega arith in
    let below : frame.node.level - 1 ≡ suc (frame.node.level - 2) = omega arith in
    let right' : is_node_of root (suc (suc (frame.node.level - 2))) frame.node.index node ≡ true = subst (λ l. is_node_of root l frame.node.index node ≡ true) level right in
    let read = read_above_leaves root nodes (frame.node.level - 2) frame.node.index frame.node.place node found e right' in
    let all : ℕ → List ℕ → ℕ → ReadOutcome = λ below words level. each_step (λ j. child_read root frame.node.place below (32 * frame.node.index + j) (node_read root nodes below) (slice_index words j)) 32 0 (reached_at level frame.node.index frame.node.place found) in
    ap (λ l. node_read root nodes l frame.node.index frame.node.place found) level
    ∙ (read
    ∙ (ap (λ l. all l node.words (suc (suc (frame.node.level - 2)))) (sym below)
    ∙ (ap (λ ws. all (frame.node.level - 1) ws (suc (suc (frame.node.level - 2)))) (sym words)
    ∙ (ap (all (frame.node.level - 1) frame.words) (sym level)
    ∙ ap (λ n. each_step (frame_step root nodes frame) (32 - n) n (reached_at frame.node.level frame.node.index frame.node.place found)) (sym next)))))
