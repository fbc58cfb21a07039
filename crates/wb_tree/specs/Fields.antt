-- What is known of a tree's nodes.
use Rattle.std.specs.Prelude.{◌≡◌, ◌≤◌, ℕ, None, List, [], ◌∷◌, length}
use Rattle.wb_types.specs.Limits.{depth_of, node_count}
use Rattle.wb_tree.specs.declared.placed.PlacedNode.{PlacedNode}
use Rattle.wb_tree.specs.Mapping.{Mapping, changed, place_in}

-- no node comes twice
abbrev pub AreApart : List PlacedNode → Type 0
AreApart [] = Unit {0}
AreApart (node ∷ nodes) = (place_in nodes node.level node.index ≡ None) × AreApart nodes

-- the nodes that are known are all nodes of the tree, each once, and no more than a tree of this size can have
pub record IsComplete (cache_blocks : ℕ) (m : Mapping) : Type 0 where
  pub once : AreApart m.known
  pub few : length m.known ≤ node_count cache_blocks
  pub all : changed m (depth_of cache_blocks) ≡ []
