-- A reading of an image that has come to some node of its mapping or of its dirty bits.
use Rattle.std.specs.Prelude.{◌≡◌, false, Option, Some, None, IsSome, Ok, List, [], ◌∷◌, ◌++◌, length, map, drop, replicate}
use Rattle.wb_types.specs.declared.number.Place.{Place}
use Rattle.wb_types.specs.declared.refusal.Refusal.{Refusal}
use Rattle.wb_format.specs.declared.node.Node.{Node}
use Rattle.wb_format.specs.declared.root.Root.{Root}
use Rattle.wb_tree.specs.declared.placed.PlacedNode.{PlacedNode}
use Rattle.wb_tree.specs.Mapping.{Mapping}
use Rattle.wb_tree.specs.Reading.{Found, ReadOutcome, Nodes, ◌then◌, tree_read}
use Rattle.wb_tree.specs.Loading.{Loading, outcome, AgreeAt, FailsBy}
use Rattle.wb_tree.specs.Loaded.{IsMappingOf, IsLoaded}
use Rattle.wb_tree.specs.Whole.{marked}
use Rattle.wb_dirty.specs.Loading.{DirtyLoading, outcome_of}
use Rattle.wb_dirty.specs.ImageReading.{dirty_node, found_with_bits, outcome_with, bits_behind}
use Rattle.wb_dirty.specs.declared.image_part.ImagePart.{ImagePart}
use Rattle.wb_dirty.specs.declared.image_part.ImagePart.TheVariants.{Alone, Ahead, Behind}

-- the part of an image that is being read: its mapping, or the dirty bits behind a mapping that was found so
pub data PartRead : Type 0 where
  OfMapping : Loading → PartRead
  OfBits : Found → DirtyLoading → PartRead

-- a reading so far: all that was reached, of both trees, the entries as far as they are known, and the node that is to be read next
pub record ImageLoading : Type 0 where
  pub root : Root
  pub found : Found
  pub wanted : Option PlacedNode
  pub part : PartRead

-- what was found of both trees
abbrev pub found_so_far : PartRead → Found
found_so_far (OfMapping l) = l.found
found_so_far (OfBits mapping l) = found_with_bits mapping l.marks

-- what was found of the mapping alone
abbrev pub mapping_found : PartRead → Found
mapping_found (OfMapping l) = l.found
mapping_found (OfBits mapping l) = mapping

-- the nodes of dirty bits that were reached behind it
abbrev pub bits_reached : PartRead → List PlacedNode
bits_reached (OfMapping l) = []
bits_reached (OfBits mapping l) = map dirty_node (drop (length mapping.reached) l.marks.reached)

abbrev pub dirty_wanted : Option PlacedNode → Option PlacedNode
dirty_wanted None = None
dirty_wanted (Some node) = Some (dirty_node node.place)

abbrev pub next_node : PartRead → Option PlacedNode
next_node (OfMapping l) = l.wanted
next_node (OfBits mapping l) = dirty_wanted l.wanted

abbrev pub image_loading : Root → PartRead → ImageLoading
image_loading root part = record { root = root; found = found_so_far part; wanted = next_node part; part = part }

abbrev pub part_outcome : Root → PartRead → Nodes → ReadOutcome
part_outcome root (OfMapping l) nodes = outcome l nodes then bits_behind root nodes root.top_dirty
part_outcome root (OfBits mapping l) nodes = outcome_with mapping (outcome_of l nodes)

abbrev pub part_mapping_outcome : PartRead → Nodes → ReadOutcome
part_mapping_outcome (OfMapping l) nodes = outcome l nodes
part_mapping_outcome (OfBits mapping l) nodes = Ok mapping

-- what the whole reading gives, over sectors that read as these nodes
abbrev pub image_outcome : ImageLoading → Nodes → ReadOutcome
image_outcome l nodes = part_outcome l.root l.part nodes

-- and what it gives of the mapping alone
abbrev pub mapping_outcome : ImageLoading → Nodes → ReadOutcome
mapping_outcome l nodes = part_mapping_outcome l.part nodes

-- told what the sector of the wanted node reads as, a reading goes on so: what is left gives what it gave before
abbrev pub ImageGoesOn : ImageLoading → Option Node → ImageLoading → Type 0
ImageGoesOn l node next = (wanted : PlacedNode) (nodes : Nodes) → l.wanted ≡ Some wanted → nodes wanted.place.0 ≡ node → image_outcome next nodes ≡ image_outcome l nodes

abbrev pub MappingGoesOn : ImageLoading → Option Node → ImageLoading → Type 0
MappingGoesOn l node next = (wanted : PlacedNode) (nodes : Nodes) → l.wanted ≡ Some wanted → nodes wanted.place.0 ≡ node → mapping_outcome next nodes ≡ mapping_outcome l nodes

-- and the node was reached
abbrev pub ImageHasReached : ImageLoading → ImageLoading → Type 0
ImageHasReached l next = (wanted : PlacedNode) → l.wanted ≡ Some wanted → next.found.reached ≡ l.found.reached ++ wanted ∷ []

-- or it fails so
abbrev pub ImageFailsAt : ImageLoading → Option Node → Refusal → Type 0
ImageFailsAt l node refusal = (wanted : PlacedNode) (nodes : Nodes) → l.wanted ≡ Some wanted → nodes wanted.place.0 ≡ node → FailsBy refusal (image_outcome l nodes)

-- ---- what holds of every reading

-- the node that a sector at this place was told to spell
abbrev pub node_told : Option Node → Place → PlacedNode
node_told None place = dirty_node place
node_told (Some node) place = record { level = node.level; index = node.index; place = place }

-- nodes as they were told at their places
abbrev pub as_told : Nodes → List PlacedNode → List PlacedNode
as_told told reached = map (λ node. node_told (told node.place.0) node.place) reached

-- what was found of a mapping of these entries with these nodes
abbrev pub found_in : Root → List PlacedNode → Mapping → Found
found_in root nodes tree = record { reached = nodes; entries = tree.entries; mapped = marked tree.entries (replicate root.geometry.origin_blocks false) }

-- nodes of a mapping were read as they were told, and dirty bits come behind
pub record IsAhead (root : Root) (l : Loading) (nodes : List PlacedNode) : Type 0 where
  pub named : IsSome root.top_dirty
  pub root_is : l.root ≡ root
  pub told : Nodes
  pub goes_on : (others : Nodes) → AgreeAt l.found.reached told others → outcome l others ≡ tree_read root others
  pub nodes_are : nodes ≡ as_told told l.found.reached

-- a mapping was read that has these nodes, and dirty bits are being read behind it
pub record IsBehind (root : Root) (tree : Mapping) (nodes : List PlacedNode) (l : DirtyLoading) : Type 0 where
  pub named : IsSome root.top_dirty
  pub mapping : IsMappingOf root tree
  pub loaded : IsLoaded root (found_in root nodes tree) tree
  pub root_is : l.asked.root ≡ root
  pub front : l.marks.reached ≡ map (λ node. node.place) nodes ++ drop (length nodes) l.marks.reached

abbrev pub part_read : {A : Type 0} → Root → ImagePart A → PartRead
part_read root (Alone loader) = OfMapping loader
part_read root (Ahead loader nodes) = OfMapping loader
part_read root (Behind tree nodes loader) = OfBits (found_in root nodes.items tree) loader

abbrev pub IsImagePart : {A : Type 0} → Root → ImagePart A → Type 0
IsImagePart root (Alone loader) = (root.top_dirty ≡ None) × (loader.root ≡ root)
IsImagePart root (Ahead loader nodes) = IsAhead root loader nodes.items × IsSome loader.wanted
IsImagePart root (Behind tree nodes loader) = IsBehind root tree nodes.items loader
