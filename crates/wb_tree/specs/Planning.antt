-- Which nodes an image writes to which places.
use Rattle.std.specs.Prelude.{◌≡◌, ◌≤◌, ℕ, false, Some, None, All, List, [], ◌∷◌, ◌++◌, length, map, take, slice_get, slice_index_or}
use Rattle.wb_types.specs.declared.entry.Entry.{Entry}
use Rattle.wb_types.specs.declared.version.Version.{Version}
use Rattle.wb_types.specs.declared.number.Place.{Place}
use Rattle.wb_types.specs.Limits.{depth_of}
use Rattle.wb_format.specs.declared.node.Node.{Node}
use Rattle.wb_format.specs.NodeWords.{IsEntry}
use Rattle.wb_tree.specs.declared.placed.PlacedNode.{PlacedNode}
use Rattle.wb_tree.specs.Mapping.{Mapping, NodeName, IsSound, IsPlaceOf, place_of, nodes_below, changed, changed_of}
use Rattle.wb_tree.specs.Images.{HasWordsOf, kept_tree, name_of}

-- each node with the place that comes at its position
abbrev pub placed : List NodeName → List Place → List PlacedNode
placed [] places = []
placed (node ∷ nodes) [] = []
placed (node ∷ nodes) (place ∷ places) = record { level = node.level; index = node.index; place = place } ∷ placed nodes places

-- the levels of a tree
abbrev pub levels : Mapping → ℕ
levels m = depth_of (length m.entries)

-- the changed nodes at and below a node, in the order of an image
abbrev pub changed_below : Mapping → ℕ → ℕ → List NodeName
changed_below m level index = changed_of m (nodes_below m.entries level index)

-- the tree whose changed nodes stand at the first of these places, in the order of an image, and the others where they
-- stood
unfoldable pub planned : Mapping → List Place → Mapping
planned m free = record { entries = m.entries; known = m.known ++ placed (changed m (levels m)) free }

-- the names of nodes, in their order
abbrev pub names : List (Place × Node) → List NodeName
names nodes = map (λ node. name_of node.1) nodes

-- the changed nodes begin so, in the order of an image
pub record Begins (m : Mapping) (front : List NodeName) : Type 0 where
  pub rest : List NodeName
  pub is : changed m (levels m) ≡ front ++ rest

-- what it takes to write the changed nodes: entries that words can spell, a place for each, and all places behind the
-- slots
pub record MayPlan (m : Mapping) (free : List Place) : Type 0 where
  pub sound : IsSound m
  pub few : length m.entries ≤ 1048576
  pub spelled : (block : ℕ) (entry : Entry) → slice_index_or m.entries block None ≡ Some entry → IsEntry entry
  pub enough : length (changed m (levels m)) ≤ length free
  pub behind : (i : ℕ) (place : Place) → slice_get free i ≡ Some place → 2 ≤ place.0
  pub known_behind : (place : Place) → IsPlaceOf m place → 2 ≤ place.0

-- A node as an image of a tree has it: at its place, of the image's generation, of the mapping, and with the words of the tree
-- as the image's version keeps it.
pub record IsWritten (version : Version) (m : Mapping) (generation : ℕ) (node : Place × Node) : Type 0 where
  pub stands : place_of m node.1.level node.1.index ≡ Some node.0
  pub written_in : node.1.generation ≡ generation
  pub mapping : node.1.dirty ≡ false
  pub words : HasWordsOf (kept_tree version m) node.1

-- nodes of an image of a tree, at the first of these places
pub record AreWritten (version : Version) (m : Mapping) (generation : ℕ) (free : List Place) (nodes : List (Place × Node)) : Type 0 where
  pub places : map (λ node. node.0) nodes ≡ take (length nodes) free
  pub each : All (IsWritten version m generation) nodes
