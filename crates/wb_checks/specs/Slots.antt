-- How the two slots stand, as their sectors show it.
use Rattle.std.specs.Prelude.{◌≡◌, ◌⊎◌, ◌+◌, ◌-◌, ℕ, true, false, Some, None, All, List, slice_get}
use Rattle.wb_disk.specs.Device.{Content}
use Rattle.wb_format.specs.declared.root.Root.{Root}
use Rattle.wb_meta.specs.Slots.{HasRoot, IsInSlot}
use Rattle.wb_checks.specs.declared.held.Held.{Held}
use Rattle.wb_checks.specs.declared.slots.RootSlots.{RootSlots}
use Rattle.wb_checks.specs.declared.slots.RootSlots.TheVariants.{Whole, Lost, Apart, Unformatted}

-- there is a sector here, and it has zeros alone
pub record HasZeros (sectors : List Content) (at : ℕ) : Type 0 where
  pub sector : Content
  pub there : slice_get sectors at ≡ Some sector
  pub zeros : All (λ byte. byte ≡ 0) sector

-- A slot holds this: it has this valid root or none, and it has zeros alone or more.
pub record Holds (sectors : List Content) (slot : ℕ) (held : Held) : Type 0 where
  pub root : IsInSlot sectors slot held.root
  pub zeros : held.zeros ≡ true → HasZeros sectors slot
  pub more : held.zeros ≡ false → ¬ HasZeros sectors slot

-- a slot has a valid root of this generation
pub record HasGeneration (sectors : List Content) (slot generation : ℕ) : Type 0 where
  pub root : Root
  pub there : HasRoot sectors slot root
  pub is : root.generation ≡ generation

-- formatting leaves a root of generation 0 in the first slot, and zeros in the second
pub record AreFormatted (sectors : List Content) : Type 0 where
  pub first : HasGeneration sectors 0 0
  pub second : HasZeros sectors 1
  pub none : IsInSlot sectors 1 None

-- one generation follows the other
abbrev pub AreNeighbours : ℕ → ℕ → Type 0
AreNeighbours a b = (a + 1 ≡ b) ⊎ (b + 1 ≡ a)

-- these valid roots stand in the slots
abbrev pub HaveGenerations : List Content → ℕ → ℕ → Type 0
HaveGenerations sectors first second = HasGeneration sectors 0 first × HasGeneration sectors 1 second

-- the roots in the slots are those of a commit and of the one before it
pub record AreCommitted (sectors : List Content) : Type 0 where
  pub first : ℕ
  pub second : ℕ
  pub there : HaveGenerations sectors first second
  pub neighbours : AreNeighbours first second

-- The slots stand so: as formatting or a commit leaves them; or one has no valid root beside the other's, and they are not as formatting
-- leaves them; or neither root follows the other; or no slot has a valid root.
abbrev pub StandSo : List Content → RootSlots → Type 0
StandSo sectors Whole = AreFormatted sectors ⊎ AreCommitted sectors
StandSo sectors (Lost slot generation) = IsInSlot sectors slot None × HasGeneration sectors (1 - slot) generation × ¬ AreFormatted sectors
StandSo sectors (Apart first second) = HaveGenerations sectors first second × ¬ AreNeighbours first second
StandSo sectors Unformatted = IsInSlot sectors 0 None × IsInSlot sectors 1 None

-- What a slot lost, or one of two that are apart, may have been newer than what an opening takes.
abbrev pub MayHideNewer : RootSlots → Type 0
MayHideNewer Whole = ⊥
MayHideNewer (Lost slot generation) = Unit {0}
MayHideNewer (Apart first second) = Unit {0}
MayHideNewer Unformatted = ⊥
