-- The image of a clean cache in metadata of the second version: that of the tree, and the nodes of the dirty bits behind its nodes.
use Rattle.std.specs.Prelude.{◌≡◌, ◌++◌, ◌==◌, ℕ, Bool, true, false, if◌then◌else◌, Option, Some, None, is_some, Ok, Err, List, [], ◌∷◌, get_or, length, map, drop, filter}
use Rattle.wb_types.specs.declared.entry.Entry.{Entry}
use Rattle.wb_types.specs.declared.number.Place.{Place}
use Rattle.wb_types.specs.declared.version.Version.TheVariants.{Two}
use Rattle.wb_format.specs.declared.node.Node.{Node}
use Rattle.wb_tree.specs.declared.image.Image.{Image}
use Rattle.wb_tree.specs.Mapping.{Mapping}
use Rattle.wb_tree.specs.Reading.{Found, Nodes}
use Rattle.wb_tree.specs.Images.{ImagePlan, IsImage}
use Rattle.wb_tree.specs.Whole.{found_of}
use Rattle.wb_dirty.specs.declared.planning.DirtyPlan.{DirtyPlan}
use Rattle.wb_dirty.specs.Planning.{IsDirtyPlan}
use Rattle.wb_dirty.specs.Reading.{MarksOutcome, dirty_read}
use Rattle.wb_dirty.specs.ImageReading.{asked_behind, dirty_node, places_reached, with_bits}
use Rattle.wb_meta.specs.Representing.{Whole, alone}

-- bits of dirty blocks beside entries: one for each cache block, and none is set of a block that has no entry
pub record AreBitsOf (entries : List (Option Entry)) (bits : List Bool) : Type 0 where
  pub size : length bits ≡ length entries
  pub mapped : (block : ℕ) → get_or bits block false ≡ true → get_or (map is_some entries) block false ≡ true

-- The image leads from the tree m to the tree n as that of the tree alone does, and stores these bits: their nodes stand on the next
-- of the free places, and the root names their top.
pub record IsImageWithBits (bits : List Bool) (m n : Mapping) (plan : ImagePlan) (image : Image) : Type 0 where
  pub tree : Image
  pub marks : DirtyPlan
  pub tree_is : IsImage m n plan tree
  pub marks_are : IsDirtyPlan bits plan.generation (drop (length tree.nodes.items) plan.free) marks
  pub bits_are : AreBitsOf n.entries bits
  pub nodes_are : image.nodes.items ≡ tree.nodes.items ++ marks.nodes.items
  pub root_version : image.root.version ≡ Two
  pub root_generation : image.root.generation ≡ plan.generation
  pub root_clean : image.root.clean ≡ plan.clean
  pub root_geometry : image.root.geometry ≡ plan.geometry
  pub root_top : image.root.top ≡ tree.root.top
  pub root_bits : image.root.top_dirty ≡ marks.top

-- where the nodes of dirty bits of an image stand, in its order
abbrev pub places_of_bits : Image → List Place
places_of_bits image = map (λ node. node.0) (filter (λ node. node.1.dirty) image.nodes.items)

-- an image of the tree alone, or with bits beside it
abbrev pub IsImageOf : Option (List Bool) → Mapping → Mapping → ImagePlan → Image → Type 0
IsImageOf None m n plan image = IsImage m n plan image
IsImageOf (Some bits) m n plan image = IsImageWithBits bits m n plan image

-- ---- what is read of it

-- what an image's own nodes read as
abbrev pub nodes_in : List (Place × Node) → Nodes
nodes_in [] place = None
nodes_in (node ∷ nodes) place = if node.0.0 == place then Some node.1 else nodes_in nodes place

-- the places that were reached behind a mapping
abbrev pub places_behind : Found → MarksOutcome → List Place
places_behind mapping (Ok marks) = drop (length mapping.reached) marks.reached
places_behind mapping (Err place) = []

-- where the nodes of the dirty bits stand, in the order in which they are read
abbrev pub bits_places : Image → Found → List Place
bits_places image mapping = places_behind mapping (dirty_read (asked_behind image.root mapping) (nodes_in image.nodes.items) (places_reached mapping))

-- a mapping with these bits beside it
abbrev pub found_beside : Option (List Bool) → Image → Found → Whole
found_beside None image mapping = alone mapping
found_beside (Some bits) image mapping = record {
  mapping = mapping;
  reached = mapping.reached ++ map dirty_node (bits_places image mapping);
  entries = with_bits (Some bits) mapping.entries;
}

-- what is read of an image of a tree, with these bits beside it
abbrev pub found_of_image : Option (List Bool) → Image → Mapping → Whole
found_of_image bits image n = found_beside bits image (found_of image.root n)
