-- What the bytes of a metadata sector mean: two relations between 512 bytes and a value, field by field.
use Rattle.std.specs.Prelude.{◌≡◌, ◌%◌, ℕ, false, cond, List, slice_index}
use Rattle.wb_types.specs.declared.version.Version.{Version}
use Rattle.wb_types.specs.declared.version.Version.TheVariants.{One}
use Rattle.wb_types.specs.Versions.{version_number}
use Rattle.wb_format.specs.Letters.{root_magic, node_magic}
use Rattle.wb_format.specs.declared.root.Root.{Root}
use Rattle.wb_format.specs.declared.node.Node.{Node}
use Rattle.wb_format.specs.Sizes.{SpellsGeometry, top_number}
use Rattle.wb_format.specs.NodeWords.{IsLeafWordOf}
use Rattle.wb_format.specs.Bytes.{IsSector, number_at, IsZero, HasWords}

-- The bytes of a root. The place of the dirty bits' top is 0 in every root of the first version.
pub record SpellsRoot (sector : List ℕ) (root : Root) : Type 0 where
  pub bytes : IsSector sector
  pub magic : number_at sector 0 8 ≡ root_magic
  pub generation : number_at sector 8 8 ≡ root.generation
  pub version : number_at sector 16 4 ≡ version_number root.version
  pub flags : number_at sector 20 4 ≡ cond root.clean 1 0
  pub geometry : SpellsGeometry sector root.geometry
  pub top : number_at sector 40 4 ≡ top_number root.top
  pub top_dirty : number_at sector 44 4 ≡ top_number root.top_dirty
  pub rest : IsZero sector 48 512

-- A root in its slot, 0 or 1: roots of even generation go to the first, those of odd generation to the second.
pub record IsValidIn (slot : ℕ) (sector : List ℕ) (root : Root) : Type 0 where
  pub spelled : SpellsRoot sector root
  pub parity : root.generation % 2 ≡ slot

-- the bytes of a node
pub record SpellsNode (sector : List ℕ) (node : Node) : Type 0 where
  pub bytes : IsSector sector
  pub magic : number_at sector 0 8 ≡ node_magic node.dirty
  pub generation : number_at sector 8 8 ≡ node.generation
  pub level : number_at sector 16 4 ≡ node.level
  pub index : number_at sector 20 4 ≡ node.index
  pub gap : IsZero sector 24 32
  pub words : HasWords sector node.words
  pub rest : IsZero sector 288 512

-- The nodes that metadata of a version have: in the first none of dirty bits, in the second no leaf of the mapping with a
-- dirty bit in a word.
pub record IsOfVersion (version : Version) (node : Node) : Type 0 where
  pub first : version ≡ One → node.dirty ≡ false
  pub leaf : node.dirty ≡ false → node.level ≡ 1 → (j : ℕ) → IsLeafWordOf version (slice_index node.words j)

-- a sector of metadata of this version spells this node
pub record SpellsNodeOf (version : Version) (sector : List ℕ) (node : Node) : Type 0 where
  pub spelled : SpellsNode sector node
  pub version_has : IsOfVersion version node
