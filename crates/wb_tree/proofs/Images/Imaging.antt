-- When a root and nodes are the image of a tree.
use Rattle.std.proofs.Common.{◌≡◌, ◌≤◌, ◌+◌, ℕ, Bool, false, List, [], Some, None, map, take, length, arith}
use Rattle.std.specs.Prelude.{◌⊎◌, All, Contains}
use Rattle.std.proofs.lemmas.List.{length-map}
use Rattle.wb_types.specs.Limits.{depth_of, node_count}
use Rattle.wb_types.specs.declared.geometry.Geometry.{Geometry}
use Rattle.wb_types.specs.declared.number.Place.{Place}
use Rattle.wb_format.specs.declared.node.Node.{Node}
use Rattle.wb_tree.specs.declared.image.Image.{Image}
use Rattle.wb_tree.specs.declared.placed.PlacedNode.{PlacedNode}
use Rattle.wb_tree.specs.Mapping.{Mapping, IsSound, IsPlaceOf, place_of, used_places, changed}
use Rattle.wb_tree.specs.Images.{AreUsed, HasWordsOf, IsImage, kept_tree, name_of}
use Rattle.wb_tree.specs.Fields.{AreApart}
use Rattle.wb_tree.proofs.Nodes.Knowing.{used-are, used-once}

-- what the nodes of an image are, before their places are told
pub record WritesChanged (m n : Mapping) (geometry : Geometry) (generation : ℕ) (free : List Place) (nodes : List (Place × Node)) : Type 0 where
  pub same_entries : n.entries ≡ m.entries
  pub stays : (level index : ℕ) (place : Place) → place_of m level index ≡ Some place → place_of n level index ≡ Some place
  pub nodes_are : map (λ node. name_of node.1) nodes ≡ changed m (depth_of geometry.cache_blocks)
  pub places_are : map (λ node. node.0) nodes ≡ take (length nodes) free
  pub stands : All (λ node. place_of n node.1.level node.1.index ≡ Some node.0) nodes
  pub generations : All (λ node. node.1.generation ≡ generation) nodes
  pub mappings : All (λ node. node.1.dirty ≡ false) nodes
  pub words : All (λ node. HasWordsOf (kept_tree geometry.version n) node.1) nodes

-- the places of a sound tree of which no node comes twice
pub used-places : (m : Mapping) (cache_blocks : ℕ) → IsSound m → AreApart m.known → length m.known ≤ node_count cache_blocks → AreUsed cache_blocks m
used-places m cache_blocks sound once few = record {
  are = used-are m once;
  few = omega (arith, few, length-map m.known (λ (node : PlacedNode). node.place));
  once = used-once m once sound;
}

-- what was made is the image
pub image-is : (m n : Mapping) (geometry : Geometry) (generation : ℕ) (clean : Bool) (free : List Place) (image : Image)
    → WritesChanged m n geometry generation free image.nodes.items → changed n (depth_of geometry.cache_blocks) ≡ [] → AreUsed geometry.cache_blocks n
    → ((place : Place) → IsPlaceOf n place → IsPlaceOf m place ⊎ Contains (map (λ node. node.0) image.nodes.items) place) → length (used_places n) ≡ length (used_places m) + length image.nodes.items → image.root.generation ≡ generation
    → image.root.clean ≡ clean → image.root.geometry ≡ geometry → image.root.top ≡ place_of n (depth_of geometry.cache_blocks) 0 → image.root.top_dirty ≡ None
    → IsImage m n (record { geometry = geometry; generation = generation; clean = clean; free = free }) image
image-is m n geometry generation clean free image written none used comes more g c s t b = record {
  same_entries = written.same_entries;
  stays = written.stays;
  none_changed = none;
  nodes_are = written.nodes_are;
  places_are = written.places_are;
  stands = written.stands;
  generations = written.generations;
  mappings = written.mappings;
  words = written.words;
  used = used;
  comes = comes;
  used_more = more;
  root_generation = g;
  root_clean = c;
  root_geometry = s;
  root_top = t;
  root_no_bits = b;
}
