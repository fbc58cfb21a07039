-- What the first sectors of a metadata device hold.
use Rattle.std.specs.Prelude.{◌<◌, ◌⊎◌, ℕ, None, Some, All, List, ◌≡◌, slice_get}
use Rattle.wb_disk.specs.Device.{Content}
use Rattle.wb_types.specs.declared.version.Version.{Version}
use Rattle.wb_format.specs.declared.node.Node.{Node}
use Rattle.wb_format.specs.declared.root.Root.{Root}
use Rattle.wb_format.specs.Layout.{SpellsNodeOf}
use Rattle.wb_meta.specs.Slots.{HasRoot, IsInSlot}
use Rattle.wb_checks.specs.declared.front.Front.{Front}
use Rattle.wb_checks.specs.declared.front.Front.TheVariants.{Blank, Formatted, SomethingElse, Unreadable}

-- neither slot has a valid root
abbrev pub HasNoRoots : List Content → Type 0
HasNoRoots sectors = IsInSlot sectors 0 None × IsInSlot sectors 1 None

-- a sector spells a node of some version
pub record IsNode (sector : Content) : Type 0 where
  pub version : Version
  pub node : Node
  pub spelled : SpellsNodeOf version sector node

-- a sector has zeros alone, or spells a node
abbrev pub IsBlank : Content → Type 0
IsBlank sector = All (λ byte. byte ≡ 0) sector ⊎ IsNode sector

-- the first of these sectors, up to a number, are so, as far as they are there
abbrev pub AreBlank : List Content → ℕ → Type 0
AreBlank sectors count = (at : ℕ) (sector : Content) → at < count → slice_get sectors at ≡ Some sector → IsBlank sector

-- a slot has a valid root
pub record HasSomeRoot (sectors : List Content) : Type 0 where
  pub slot : ℕ
  pub root : Root
  pub there : HasRoot sectors slot root

-- one of the first sectors has something else
pub record HasMore (sectors : List Content) (count : ℕ) : Type 0 where
  pub at : ℕ
  pub before : at < count
  pub sector : Content
  pub there : slice_get sectors at ≡ Some sector
  pub more : ¬ IsBlank sector

-- The front is blank where no slot has a valid root and each of the first 8 sectors has zeros or a node; formatted where a slot has one; and something else in
-- all other cases. Of one that cannot be read nothing is known.
abbrev pub IsFront : List Content → Front → Type 0
IsFront sectors Blank = HasNoRoots sectors × AreBlank sectors 8
IsFront sectors Formatted = HasSomeRoot sectors
IsFront sectors SomethingElse = HasNoRoots sectors × HasMore sectors 8
IsFront sectors Unreadable = Unit {0}
