-- What an image of a tree is, and how sectors of a device store what is known of a tree.
use Rattle.std.specs.Prelude.{◌≡◌, ◌↔◌, ◌⊎◌, ◌≤◌, ◌<◌, ◌+◌, ◌*◌, ℕ, zero, suc, Bool, false, Option, Some, None, All, List, [], length, map, take, slice_get, slice_index, Contains}
use Rattle.wb_types.specs.declared.number.Place.{Place}
use Rattle.wb_types.specs.declared.geometry.Geometry.{Geometry}
use Rattle.wb_types.specs.declared.version.Version.{Version}
use Rattle.wb_types.specs.Limits.{depth_of, node_count}
use Rattle.wb_format.specs.declared.node.Node.{Node}
use Rattle.wb_format.specs.Layout.{SpellsNode}
use Rattle.wb_format.specs.NodeWords.{entry_word, kept}
use Rattle.wb_tree.specs.declared.image.Image.{Image}
use Rattle.wb_tree.specs.Mapping.{Mapping, NodeName, IsPlaceOf, entry_at, place_of, used_places, changed}
use Rattle.wb_tree.specs.Reading.{Nodes}

-- the number of a place that a word holds, 0 for none
abbrev pub place_word : Option Place → ℕ
place_word None = 0
place_word (Some place) = place.0

-- word j of a node: an entry in a leaf, above it the place of a child
abbrev pub word_at : Mapping → ℕ → ℕ → ℕ → ℕ
word_at m zero index j = 0
word_at m (suc zero) index j = entry_word (entry_at m (32 * index + j))
word_at m (suc (suc level)) index j = place_word (place_of m (suc level) (32 * index + j))

abbrev pub name_of : Node → NodeName
name_of node = record { level = node.level; index = node.index }

-- a node has the words of the tree at its place in it
abbrev pub HasWordsOf : Mapping → Node → Type 0
HasWordsOf m node = (j : ℕ) → j < 32 → slice_index node.words j ≡ word_at m node.level node.index j

-- the tree with what the words of a version keep of its entries
abbrev pub kept_tree : Version → Mapping → Mapping
kept_tree version m = record { entries = map (kept version) m.entries; known = m.known }

-- A list of places from which an image may take its own: enough for the nodes that changed, behind the slots, on the
-- device, none twice, and none at which a node of the tree stands.
pub record AreFree (m : Mapping) (geometry : Geometry) (free : List Place) : Type 0 where
  pub enough : length (changed m (depth_of geometry.cache_blocks)) ≤ length free
  pub behind : (i : ℕ) (place : Place) → slice_get free i ≡ Some place → 2 ≤ place.0
  pub inside : (i : ℕ) (place : Place) → slice_get free i ≡ Some place → place.0 < geometry.meta_sectors
  pub apart : (i j : ℕ) (place : Place) → slice_get free i ≡ Some place → slice_get free j ≡ Some place → i ≡ j
  pub unused : (i : ℕ) (place : Place) → slice_get free i ≡ Some place → IsPlaceOf m place → ⊥

-- The used places of a tree of so many cache blocks are those of its known nodes, each once, and as many at most as it can
-- have nodes.
pub record AreUsed (cache_blocks : ℕ) (m : Mapping) : Type 0 where
  pub are : (place : Place) → Contains (used_places m) place ↔ IsPlaceOf m place
  pub few : length (used_places m) ≤ node_count cache_blocks
  pub once : (i j : ℕ) (place : Place) → slice_get (used_places m) i ≡ Some place → slice_get (used_places m) j ≡ Some place → i ≡ j

-- What an image is asked for with: the sizes, the generation and the clean flag of its root, and the free places.
pub record ImagePlan : Type 0 where
  pub geometry : Geometry
  pub generation : ℕ
  pub clean : Bool
  pub free : List Place

-- the levels of the tree
abbrev pub levels_of : ImagePlan → ℕ
levels_of plan = depth_of plan.geometry.cache_blocks

-- The image leads from the tree m to the tree n: it writes the changed nodes, and no others, to the first of the free
-- places, and afterwards none counts as changed.
pub record IsImage (m n : Mapping) (plan : ImagePlan) (image : Image) : Type 0 where
  pub same_entries : n.entries ≡ m.entries
  -- what was known stands where it stood
  pub stays : (level index : ℕ) (place : Place) → place_of m level index ≡ Some place → place_of n level index ≡ Some place
  pub none_changed : changed n (levels_of plan) ≡ []
  pub nodes_are : map (λ node. name_of node.1) image.nodes.items ≡ changed m (levels_of plan)
  pub places_are : map (λ node. node.0) image.nodes.items ≡ take (length image.nodes.items) plan.free
  -- each node that is written stands at its place
  pub stands : All (λ node. place_of n node.1.level node.1.index ≡ Some node.0) image.nodes.items
  pub generations : All (λ node. node.1.generation ≡ plan.generation) image.nodes.items
  pub mappings : All (λ node. node.1.dirty ≡ false) image.nodes.items
  pub words : All (λ node. HasWordsOf (kept_tree plan.geometry.version n) node.1) image.nodes.items
  -- the used places are those of all nodes, each once, and as many at most as a tree of this size can have nodes
  pub used : AreUsed plan.geometry.cache_blocks n
  -- a node that was not known before is one of those that are written
  pub comes : (place : Place) → IsPlaceOf n place → IsPlaceOf m place ⊎ Contains (map (λ node. node.0) image.nodes.items) place
  pub used_more : length (used_places n) ≡ length (used_places m) + length image.nodes.items
  pub root_generation : image.root.generation ≡ plan.generation
  pub root_clean : image.root.clean ≡ plan.clean
  pub root_geometry : image.root.geometry ≡ plan.geometry
  pub root_top : image.root.top ≡ place_of n (levels_of plan) 0
  pub root_no_bits : image.root.top_dirty ≡ None

-- A node is the one that the tree has at this level and index: it is of the mapping, it has that name, the words of the tree,
-- and a generation that is not above this one.
pub record IsNodeOf (m : Mapping) (generation level index : ℕ) (node : Node) : Type 0 where
  pub mapping : node.dirty ≡ false
  pub name : name_of node ≡ record { level = level; index = index }
  pub not_newer : node.generation ≤ generation
  pub words : HasWordsOf m node

-- a node of the tree is read at this place
pub record ReadsNode (nodes : Nodes) (m : Mapping) (generation level index place : ℕ) : Type 0 where
  pub node : Node
  pub reads : nodes place ≡ Some node
  pub right : IsNodeOf m generation level index node

-- wherever a node is known to stand it is read
abbrev pub AreRead : Nodes → Mapping → ℕ → Type 0
AreRead nodes m generation = (level index : ℕ) (place : Place) → place_of m level index ≡ Some place → ReadsNode nodes m generation level index place.0

-- a node of the tree is spelled at this place
pub record StoresNode (sectors : List (List ℕ)) (m : Mapping) (generation level index place : ℕ) : Type 0 where
  pub sector : List ℕ
  pub there : slice_get sectors place ≡ Some sector
  pub node : Node
  pub spelled : SpellsNode sector node
  pub right : IsNodeOf m generation level index node

-- The sectors store what is known of a tree: wherever a node is known to stand it is spelled.
abbrev pub Stores : List (List ℕ) → Mapping → ℕ → Type 0
Stores sectors m generation = (level index : ℕ) (place : Place) → place_of m level index ≡ Some place → StoresNode sectors m generation level index place.0
