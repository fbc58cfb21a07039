-- What a write in passthrough of a mapped block does, which the desk takes out of the cache first.
use Rattle.std.specs.Prelude.{◌≡◌, ℕ, List, None}
use Rattle.wb_types.specs.declared.mode.Mode.TheVariants.{Passthrough}
use Rattle.wb_types.specs.declared.extent.Extent.{Extent}
use Rattle.wb_types.specs.declared.number.OBlock.{OBlock}
use Rattle.wb_disk.specs.Device.{History, Content as Bytes}
use Rattle.wb_tasks.specs.Tables.{Displacing, OnBlock}
use Rattle.wb_tasks.specs.Plan.{table}
use Rattle.wb_tasks.specs.Run.{IsRunOf, Leads}
use Rattle.wb_tasks.specs.declared.step.Answer.{Answer}
use Rattle.wb_tasks.specs.declared.step.DeskStep.TheVariants.{Unmap}
use Rattle.wb_tasks.specs.declared.step.Want.{Want}
use Rattle.wb_tasks.specs.declared.step.Want.TheVariants.{Desk}
use Rattle.wb_tasks.specs.declared.step.Got.{Got}
use Rattle.wb_tasks.specs.declared.step.Got.TheVariants.{Done}
use Rattle.wb_port.specs.Hands.{WriteState, WriteStep, IsReadyToWrite, WriteLed}
use Rattle.wb_port.specs.Ports.{block_at}
use Rattle.wb_port.specs.Requests.{part_of, WriteRefused}
use Rattle.wb_types.specs.declared.geometry.Geometry.{Geometry}
use Rattle.wb_types.specs.declared.refusal.Refusal.TheVariants.{Defer}
use Rattle.wb_port.specs.declared.hand.Hand.{Hand}
use Rattle.wb_target.specs.Works.{DeskTold}
use Rattle.wb_target.specs.declared.displacing.DisplaceStage.{DisplaceStage}

-- what a step of it does: the desk is asked to take a block out of the mapping, or it is a step of a write of this slice
abbrev pub DisplaceStep : {D : Type 0} → Type 0 → (D → ℕ) → (D → List History) → (D → ℕ) → DeskTold → ℕ → List Bytes → WriteState D → Want → Got → WriteState D → Type 0
DisplaceStep tells size contents faults asked blocks from s (Desk (Unmap block)) got t = (t ≡ s) × asked (Unmap block) Done None None
DisplaceStep tells size contents faults asked blocks from s (Desk step) got t = ⊥
DisplaceStep tells size contents faults asked blocks from s want got t = WriteStep tells size contents faults blocks from s want got t

abbrev pub IsReadyToDisplace : {R D P : Type 0} → DisplaceStage R D P → Want → Type 0
IsReadyToDisplace stage (Desk (Unmap block)) = Unit {0}
IsReadyToDisplace stage (Desk step) = ⊥
IsReadyToDisplace stage want = IsReadyToWrite stage.write want

abbrev pub DisplaceLed : {R D P : Type 0} → Type 0 → (D → ℕ) → (D → List History) → (D → ℕ) → DeskTold → DisplaceStage R D P → Want → Got → DisplaceStage R D P → Type 0
DisplaceLed tells size contents faults asked old (Desk (Unmap block)) got new = (new.write ≡ old.write) × asked (Unmap block) Done None None
DisplaceLed tells size contents faults asked old (Desk step) got new = ⊥
DisplaceLed tells size contents faults asked old want got new = WriteLed tells size contents faults old.write want got new.write

-- By words of so many blocks the table of such a write was run up to this answer.
pub record WasDisplaced {D : Type 0} (tells : Type 0) (size : D → ℕ) (contents : D → List History) (faults : D → ℕ) (asked : DeskTold) (blocks block_sectors : ℕ) (block : OBlock) (sectors : Extent) (from : List Bytes) (old : Hand D) (answer : Answer) (new : Hand D) : Type 0 where
  pub moved : ℕ
  pub same_mode : new.mode ≡ old.mode
  pub steps : List (Want × Got)
  pub run : IsRunOf (table (OnBlock (Displacing (part_of Passthrough block_sectors block sectors)))) steps answer
  pub leads : Leads (DisplaceStep tells size contents faults asked blocks from) (record { hand = old; moved = 0 }) steps (record { hand = new; moved = moved })

-- A try of a part was deferred, and then such a write was run up to this answer.
pub record WasDeferred {D : Type 0} (tells : Type 0) (size : D → ℕ) (contents : D → List History) (faults : D → ℕ) (asked : DeskTold) (geometry : Geometry) (part : Extent) (from : List Bytes) (old : Hand D) (answer : Answer) (new : Hand D) : Type 0 where
  pub mid : Hand D
  pub deferred : WriteRefused tells size contents faults geometry.origin_blocks geometry.block (block_at geometry part.first) part from old Defer mid
  pub displaced : WasDisplaced tells size contents faults asked geometry.origin_blocks geometry.block (block_at geometry part.first) part from mid answer new
