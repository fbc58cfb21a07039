-- Nodes of a tree of boxes that become known.
use Rattle.std.specs.Prelude.{◌≡◌, ◌≤◌, ◌<◌, ◌-◌, ◌^◌, ◌+◌, ℕ, true, Option, Some, None, List, ◌∷◌, ◌++◌, length, slice_get}
use Rattle.wb_types.specs.declared.number.Place.{Place}
use Rattle.wb_tree.specs.declared.placed.PlacedNode.{PlacedNode}
use Rattle.wb_tree.specs.Mapping.{exists, place_in}
use Rattle.wb_tree.specs.Fields.{AreApart}
use Rattle.wb_tree.specs.Branches.{Branch, IsBranch}

-- where a node stands that has a box; none where it has none, or is not known
abbrev pub place_told : Option (Option Place) → Option Place
place_told None = None
place_told (Some place) = place

-- a node comes in among these
pub record IsInserted (old new : List PlacedNode) (node : PlacedNode) : Type 0 where
  pub front : List PlacedNode
  pub back : List PlacedNode
  pub was : old ≡ front ++ back
  pub is : new ≡ front ++ node ∷ back

-- one node at or below a branch became known, and nothing else changed
pub record IsSettledAt (old new : Branch) (node : PlacedNode) : Type 0 where
  pub level_same : new.level ≡ old.level
  pub index_same : new.index ≡ old.index
  pub entries_same : new.entries ≡ old.entries
  pub known : IsInserted old.known new.known node

-- a node of a tree with this box on top, that has a box
pub record HasBox (top : Branch) (node : PlacedNode) : Type 0 where
  pub from : 1 ≤ node.level
  pub to : node.level ≤ top.level
  pub inside : node.index < 32 ^ (top.level - node.level)
  pub there : exists top.entries node.level node.index ≡ true

-- these nodes have boxes, and none of them is known
pub record CanSettle (top : Branch) (nodes : List PlacedNode) : Type 0 where
  pub first : top.index ≡ 0
  pub apart : AreApart (top.known ++ nodes)
  pub each : (i : ℕ) (node : PlacedNode) → slice_get nodes i ≡ Some node → HasBox top node

-- these nodes became known, and nothing else changed
pub record NodesAreSettled (old new : Branch) (nodes : List PlacedNode) : Type 0 where
  pub level_same : new.level ≡ old.level
  pub index_same : new.index ≡ old.index
  pub entries_same : new.entries ≡ old.entries
  pub places : (level index : ℕ) → place_in new.known level index ≡ place_in (old.known ++ nodes) level index
  pub once : AreApart new.known
  pub more : length new.known ≡ length old.known + length nodes
  pub branch : IsBranch old → IsBranch new
