-- What is read of an image of either version: the mapping, and behind it the dirty bits, where the root names a tree of them.
use Rattle.std.specs.Prelude.{◌++◌, Bool, false, Option, Some, None, is_some, Ok, Err, List, [], ◌∷◌, length, map, drop}
use Rattle.wb_types.specs.declared.entry.Entry.{Entry}
use Rattle.wb_types.specs.declared.number.Place.{Place}
use Rattle.wb_format.specs.declared.root.Root.{Root}
use Rattle.wb_tree.specs.declared.placed.PlacedNode.{PlacedNode}
use Rattle.wb_tree.specs.Reading.{Found, ReadOutcome, Nodes, ◌then◌, tree_read}
use Rattle.wb_dirty.specs.Reading.{Asked, Marks, MarksOutcome, dirty_read}

-- an entry with this dirty bit
abbrev pub entry_with : Bool → Option Entry → Option Entry
entry_with bit None = None
entry_with bit (Some entry) = Some (record entry { dirty = bit })

-- entries, each with its bit
unfoldable pub entries_with : List Bool → List (Option Entry) → List (Option Entry)
entries_with bits [] = []
entries_with [] (entry ∷ entries) = entry_with false entry ∷ entries_with [] entries
entries_with (bit ∷ bits) (entry ∷ entries) = entry_with bit entry ∷ entries_with bits entries

-- entries with the dirty bits that were read, or as they are where none were
abbrev pub with_bits : Option (List Bool) → List (Option Entry) → List (Option Entry)
with_bits None entries = entries
with_bits (Some bits) entries = entries_with bits entries

-- A node of dirty bits among the nodes that were reached, of which the place alone is told. No node of a mapping has level 0.
abbrev pub dirty_node : Place → PlacedNode
dirty_node place = record { level = 0; index = 0; place = place }

-- where the nodes stand that were reached
abbrev pub places_reached : Found → List Place
places_reached found = map (λ node. node.place) found.reached

-- what dirty bits are read by, behind a mapping
abbrev pub asked_behind : Root → Found → Asked
asked_behind root mapping = record { root = root; mapped = map is_some mapping.entries }

-- what was found of a mapping and of the dirty bits behind it
abbrev pub found_with_bits : Found → Marks → Found
found_with_bits mapping marks = record {
  reached = mapping.reached ++ map dirty_node (drop (length mapping.reached) marks.reached);
  entries = with_bits (Some marks.dirty) mapping.entries;
  mapped = mapping.mapped;
}

abbrev pub outcome_with : Found → MarksOutcome → ReadOutcome
outcome_with mapping (Ok marks) = Ok (found_with_bits mapping marks)
outcome_with mapping (Err place) = Err place

-- the dirty bits behind a mapping, where their top is named
abbrev pub bits_behind : Root → Nodes → Option Place → Found → ReadOutcome
bits_behind root nodes None mapping = Ok mapping
bits_behind root nodes (Some top) mapping = outcome_with mapping (dirty_read (asked_behind root mapping) nodes (places_reached mapping))

-- the image of a root: its mapping, and then its dirty bits
abbrev pub image_read : Root → Nodes → ReadOutcome
image_read root nodes = tree_read root nodes then bits_behind root nodes root.top_dirty
