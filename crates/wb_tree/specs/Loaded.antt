-- What a tree that was read knows of its nodes.
use Rattle.std.specs.Prelude.{◌≡◌, ◌≤◌, Ok, [], All, true, length}
use Rattle.wb_types.specs.Limits.{depth_of, node_count}
use Rattle.wb_types.specs.declared.number.Place.{Place}
use Rattle.wb_format.specs.declared.root.Root.{Root}
use Rattle.wb_tree.specs.Mapping.{Mapping, IsMapping, IsSound, AreInside, IsPlaceOf, exists, changed}
use Rattle.wb_tree.specs.Reading.{Found, Nodes, is_reached, tree_read}
use Rattle.wb_tree.specs.Images.{AreRead}

-- the entries are a mapping of the sizes that a root names
abbrev pub IsMappingOf : Root → Mapping → Type 0
IsMappingOf root m = IsMapping root.geometry.cache_blocks root.geometry.origin_blocks m.entries

-- every node that was reached has an entry below it
abbrev pub NodesHaveEntries : Found → Type 0
NodesHaveEntries found = All (λ node. exists found.entries node.level node.index ≡ true) found.reached

-- The tree knows nodes that were reached alone, and what was read of them is what the tree has there. Where every
-- node that was reached has an entry below it, none counts as changed.
pub record IsLoaded (root : Root) (found : Found) (m : Mapping) : Type 0 where
  pub sound : IsSound m
  pub inside : AreInside root.geometry.meta_sectors m
  pub reached : (place : Place) → IsPlaceOf m place → is_reached place.0 found.reached ≡ true
  pub read : (nodes : Nodes) → tree_read root nodes ≡ Ok found → AreRead nodes m root.generation
  -- as many nodes at most as a tree of this size can have
  pub few : length found.reached ≤ node_count root.geometry.cache_blocks
  pub none_changed : NodesHaveEntries found → changed m (depth_of root.geometry.cache_blocks) ≡ []
