-- What holds of the steps that a read or write of one block has still to take.
use Rattle.std.specs.Prelude.{◌≡◌, ◌≤◌, ◌<◌, ◌+◌, ◌/◌, ◌%◌, ℕ, List, [], ◌∷◌, Contains}
use Rattle.wb_types.specs.declared.extent.Extent.{Extent}
use Rattle.wb_words.specs.SharedWords.{place_in, seal_word}
use Rattle.wb_words.specs.declared.step.CellStep.TheVariants.{Release, Seal}
use Rattle.wb_tasks.specs.Tables.{BlockRange}
use Rattle.wb_tasks.specs.declared.step.DeviceStep.TheVariants.{Read, Write}
use Rattle.wb_tasks.specs.declared.step.DeskStep.TheVariants.{Map, Unmap}
use Rattle.wb_tasks.specs.declared.step.Want.{Want}
use Rattle.wb_tasks.specs.declared.step.Want.TheVariants.{Cell, Device, Desk}
use Rattle.wb_refines.specs.Data.{IsInBlock}

-- an extent of sectors of this block of the origin
pub record IsOfBlock (size block : ℕ) (e : Extent) : Type 0 where
  pub some : 0 < e.count
  pub block_is : e.first / size ≡ block
  pub room : e.first % size + e.count ≤ size

-- a part of one block of so many sectors
pub record IsPart (size : ℕ) (part : BlockRange) : Type 0 where
  pub some : 0 < size
  pub sized : size ≡ part.block_sectors
  pub each : (e : Extent) → Contains part.extents e → IsOfBlock size part.block.0 e

-- What is still to be moved is of this block, where it stands; and each seal tells the place of which it is made.
abbrev pub AreOfBlock : ℕ → ℕ → List Want → Type 0
AreOfBlock size block [] = Unit {0}
AreOfBlock size block (Device (Read device e) ∷ later) = IsInBlock size block device e × AreOfBlock size block later
AreOfBlock size block (Device (Write device e) ∷ later) = IsInBlock size block device e × AreOfBlock size block later
AreOfBlock size block (Cell (Seal b place dirty) ∷ later) = (place_in (seal_word place dirty) ≡ place) × AreOfBlock size block later
AreOfBlock size block (next ∷ later) = AreOfBlock size block later

-- it is written next, to as many sectors and at the same offset
abbrev pub IsWrittenNext : ℕ → Extent → List Want → Type 0
IsWrittenNext size r (Device (Write device e) ∷ later) = (e.count ≡ r.count) × (e.first % size ≡ r.first % size)
IsWrittenNext size r steps = ⊥

-- the next step is no write
abbrev pub IsNoWrite : List Want → Type 0
IsNoWrite (Device (Write device e) ∷ later) = ⊥
IsNoWrite steps = Unit {0}

-- what is left once a promotion's or a demotion's order is over: its seal, and its block to give back
abbrev pub IsTail : List Want → Type 0
IsTail [] = Unit {0}
IsTail (Cell (Seal block place dirty) ∷ later) = IsTail later
IsTail (Cell (Release access block) ∷ later) = IsTail later
IsTail steps = ⊥

-- A migration writes each extent that it has read, before it does anything else, and writes nothing else; once it has mapped or unmapped its
-- block, only its seal and its block are left.
abbrev pub ArePaired : ℕ → List Want → Type 0
ArePaired size [] = Unit {0}
ArePaired size (Device (Read device e) ∷ later) = IsWrittenNext size e later × ArePaired size later
ArePaired size (Desk (Map block place) ∷ later) = IsTail later × IsNoWrite later × ArePaired size later
ArePaired size (Desk (Unmap block) ∷ later) = IsTail later × IsNoWrite later × ArePaired size later
ArePaired size (next ∷ later) = IsNoWrite later × ArePaired size later
