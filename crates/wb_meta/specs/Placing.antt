-- An image on its way to a device.
use Rattle.std.specs.Prelude.{◌≡◌, ◌≤◌, ◌<◌, ◌⊎◌, ◌%◌, ℕ, false, List, Some, length, slice_get}
use Rattle.wb_types.specs.declared.number.Place.{Place}
use Rattle.wb_disk.specs.Device.{Content, History}
use Rattle.wb_format.specs.declared.root.Root.{Root}
use Rattle.wb_format.specs.declared.node.Node.{Node}
use Rattle.wb_format.specs.Layout.{SpellsRoot, SpellsNode}
use Rattle.wb_tree.specs.Reading.{is_reached}
use Rattle.wb_tree.specs.declared.image.Image.{Image}
use Rattle.wb_disk.specs.Crashes.{MayLeave, AfterEveryCrash}
use Rattle.wb_meta.specs.Representing.{Represents, Stored}

-- nodes, each with its place
abbrev pub PlacedNodes : Type 0
PlacedNodes = List (Place × Node)

-- the nodes have places of a device of so many sectors: behind the slots, and no place twice
pub record HavePlaces (nodes : PlacedNodes) (sectors : ℕ) : Type 0 where
  pub slots : 2 ≤ sectors
  pub from : (i : ℕ) (node : Place × Node) → slice_get nodes i ≡ Some node → 2 ≤ node.0.0
  pub to : (i : ℕ) (node : Place × Node) → slice_get nodes i ≡ Some node → node.0.0 < sectors
  pub apart : (i j : ℕ) (node other : Place × Node) → slice_get nodes i ≡ Some node → slice_get nodes j ≡ Some other → node.0.0 ≡ other.0.0 → i ≡ j

-- this content, at this sector, is one of the nodes at its place
pub record IsNodeHere (nodes : PlacedNodes) (at : ℕ) (content : Content) : Type 0 where
  pub number : ℕ
  pub node : Place × Node
  pub listed : slice_get nodes number ≡ Some node
  pub here : node.0.0 ≡ at
  pub spelled : SpellsNode content node.1

-- this content, at this sector, is the root in its slot
pub record IsRootHere (root : Root) (at : ℕ) (content : Content) : Type 0 where
  pub here : at ≡ root.generation % 2
  pub spelled : SpellsRoot content root

-- this content, at this sector, is of the image
abbrev pub IsOfImage : Image → ℕ → Content → Type 0
IsOfImage image at content = IsNodeHere image.nodes.items at content ⊎ IsRootHere image.root at content

-- where one of the first so many nodes has its place at this sector, this content is that node
abbrev pub FitsNodes : PlacedNodes → ℕ → ℕ → Content → Type 0
FitsNodes nodes count at content = (i : ℕ) (node : Place × Node) → i < count → slice_get nodes i ≡ Some node → node.0.0 ≡ at → SpellsNode content node.1

-- where this sector is the slot of the root, this content is the root
abbrev pub FitsRoot : Root → ℕ → Content → Type 0
FitsRoot root at content = at ≡ root.generation % 2 → SpellsRoot content root

-- the image is in place: there are as many sectors, the nodes and the root stand where they belong, and all other
-- sectors are as they were
pub record IsPlaced (image : Image) (before after : List Content) : Type 0 where
  pub size : length after ≡ length before
  pub nodes : (at : ℕ) (content : Content) → slice_get after at ≡ Some content → FitsNodes image.nodes.items (length image.nodes.items) at content
  pub root : (at : ℕ) (content : Content) → slice_get after at ≡ Some content → FitsRoot image.root at content
  pub others : (at : ℕ) (content : Content) → slice_get after at ≡ Some content → (slice_get before at ≡ Some content) ⊎ IsOfImage image at content

-- An image may be committed over a device: whatever a crash leaves of it, it represents what was stored before, and none
-- of the image's places is a place of its nodes; and with the image in place it is as is wanted.
pub record MayCommit (image : Image) (device : List History) (old : Stored) (New : List Content → Type 0) : Type 0 where
  pub represents : AfterEveryCrash (λ sectors. Represents sectors old.root old.found) device
  pub outside : (i : ℕ) (node : Place × Node) → slice_get image.nodes.items i ≡ Some node → is_reached node.0.0 old.found.reached ≡ false
  pub new : (before after : List Content) → MayLeave device before → IsPlaced image before after → New after
