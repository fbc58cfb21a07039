-- What is read of a tree of which every node is known and read as it is.
use Rattle.std.specs.Prelude.{◌*◌, ℕ, zero, suc, Bool, true, false, Option, Some, None, List, [], ◌∷◌, replicate, slice_set}
use Rattle.wb_types.specs.Limits.{depth_of}
use Rattle.wb_types.specs.declared.entry.Entry.{Entry}
use Rattle.wb_types.specs.declared.number.Place.{Place}
use Rattle.wb_format.specs.declared.root.Root.{Root}
use Rattle.wb_tree.specs.declared.placed.PlacedNode.{PlacedNode}
use Rattle.wb_tree.specs.Mapping.{Mapping, place_of, each_from}
use Rattle.wb_tree.specs.Reading.{Found}

-- a node that stands here, before those below it
abbrev pub node_first : Option Place → ℕ → ℕ → List PlacedNode → List PlacedNode
node_first None level index below = []
node_first (Some place) level index below = record { level = level; index = index; place = place } ∷ below

-- the known nodes at and below a node in reading order: each before its children, children rising
unfoldable pub reached_below : Mapping → ℕ → ℕ → List PlacedNode
reached_below m zero index = []
reached_below m (suc level) index = node_first (place_of m (suc level) index) (suc level) index (each_from (reached_below m level) 32 (32 * index))

-- the marks of origin blocks, with those that stand in these entries
unfoldable pub marked : List (Option Entry) → List Bool → List Bool
marked [] marks = marks
marked (None ∷ entries) marks = marked entries marks
marked (Some entry ∷ entries) marks = marked entries (slice_set marks entry.origin.0 true)

-- what is read of the tree by a root of these sizes
abbrev pub found_of : Root → Mapping → Found
found_of root m = record {
  reached = reached_below m (depth_of root.geometry.cache_blocks) 0;
  entries = m.entries;
  mapped = marked m.entries (replicate root.geometry.origin_blocks false);
}
