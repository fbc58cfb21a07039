-- The roots in the slots.
use Rattle.std.specs.Prelude.{◌≡◌, ℕ, Some, None, Option, List, slice_get}
use Rattle.wb_disk.specs.Device.{Content}
use Rattle.wb_format.specs.declared.root.Root.{Root}
use Rattle.wb_format.specs.Layout.{IsValidIn}
use Rattle.wb_tree.specs.Reading.{IsNewestRoot}
use Rattle.wb_meta.specs.States.{HasNoRoot}

-- a slot has this valid root
pub record HasRoot (sectors : List Content) (slot : ℕ) (root : Root) : Type 0 where
  pub sector : Content
  pub there : slice_get sectors slot ≡ Some sector
  pub valid : IsValidIn slot sector root

-- the valid root of a slot, or none where it has none
abbrev pub IsInSlot : List Content → ℕ → Option Root → Type 0
IsInSlot sectors slot None = (sector : Content) (root : Root) → slice_get sectors slot ≡ Some sector → ¬ IsValidIn slot sector root
IsInSlot sectors slot (Some root) = HasRoot sectors slot root

-- the newest root, or none where no slot has a valid one
abbrev pub IsNewest : List Content → Option Root → Type 0
IsNewest sectors None = HasNoRoot sectors
IsNewest sectors (Some root) = IsNewestRoot sectors root
