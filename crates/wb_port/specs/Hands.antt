-- What a step of a read or write does to a client's hand, and to the caller's slice.
use Rattle.std.specs.Prelude.{◌≡◌, ◌+◌, ◌-◌, ℕ, List, length, take, drop, min}
use Rattle.wb_types.specs.declared.extent.Extent.{Extent}
use Rattle.wb_types.specs.declared.mode.Mode.{Mode}
use Rattle.wb_types.specs.declared.mode.Mode.TheVariants.{Writethrough}
use Rattle.wb_types.specs.declared.mode.Dev.{Dev}
use Rattle.wb_types.specs.declared.mode.Dev.TheVariants.{Cache}
use Rattle.wb_disk.specs.Device.{History, Content as Bytes}
use Rattle.wb_words.specs.declared.word.Word.TheVariants.{Fail}
use Rattle.wb_words.specs.declared.step.CellResult.{CellResult}
use Rattle.wb_words.specs.Cards.{looked}
use Rattle.wb_cells.specs.Passes.{CellsState, PassState, StepsBy}
use Rattle.wb_tasks.specs.Ready.{MayTake}
use Rattle.wb_tasks.specs.Plan.{got_of}
use Rattle.wb_tasks.specs.declared.step.DeviceStep.TheVariants.{Read, Write}
use Rattle.wb_tasks.specs.declared.step.Want.{Want}
use Rattle.wb_tasks.specs.declared.step.Want.TheVariants.{Cell, Device, Desk}
use Rattle.wb_tasks.specs.declared.step.Got.{Got}
use Rattle.wb_tasks.specs.declared.step.Got.TheVariants.{Done}
use Rattle.wb_devices.specs.Moving.{DidRead, DidWrite, OthersStay, device_in}
use Rattle.wb_devices.specs.declared.devices.Devices.{Devices}
use Rattle.wb_port.specs.Moves.{MayMove}
use Rattle.wb_port.specs.declared.hand.Hand.{Hand}
use Rattle.wb_port.specs.declared.moving.ReadStage.{ReadStage}
use Rattle.wb_port.specs.declared.moving.WriteStage.{WriteStage}

-- ---- the pass

-- A step on a word is one by the pass; no other step changes it.
abbrev pub DoneByPass : ℕ → PassState → Want → Got → PassState → Type 0
DoneByPass blocks pass (Cell step) got pass' = (result : CellResult) × (got ≡ got_of result) × StepsBy blocks pass step result pass'
DoneByPass blocks pass want got pass' = pass' ≡ pass

-- the pass is of these words, and ready for the step
abbrev pub IsReadyOn : CellsState → PassState → Want → Type 0
IsReadyOn cells pass want = (pass.table ≡ cells.table) × MayTake cells.blocks pass.card want

-- a hand whose pass has looked at the fail word, and found this
abbrev pub saw_fail_word : {D : Type 0} → ℕ → Hand D → Hand D
saw_fail_word word hand = record hand { pass = record hand.pass { card = looked Fail word hand.pass.card } }

-- ---- the devices and the slice

-- how far a slice of so many sectors was moved by a step: one that is done has moved its extent
abbrev pub further : ℕ → ℕ → Extent → Got → ℕ
further many moved e Done = moved + min e.count (many - moved)
further many moved e got = moved

-- An extent of a device was read to the slice, behind what was read before it, or the step failed. What was read before stays.
pub record DidReadInto {D : Type 0} (tells : Type 0) (size : D → ℕ) (contents : D → List History) (faults : D → ℕ) (device : Dev) (e : Extent) (got : Got) (old : Devices D) (out : List Bytes) (moved : ℕ) (new : Devices D) (out' : List Bytes) (moved' : ℕ) : Type 0 where
  pub others : OthersStay device old new
  pub sized : size (device_in device new) ≡ size (device_in device old)
  pub before : take moved out' ≡ take moved out
  pub many : length out' ≡ length out
  pub further_on : moved' ≡ further (length out) moved e got
  pub did : tells → DidRead e got (size (device_in device old)) (contents (device_in device old)) (faults (device_in device old)) (drop moved out') (contents (device_in device new)) (faults (device_in device new))

-- An extent of a device was written from the slice, from behind what was written before it, or the step failed.
pub record DidWriteFrom {D : Type 0} (tells : Type 0) (size : D → ℕ) (contents : D → List History) (faults : D → ℕ) (device : Dev) (e : Extent) (got : Got) (from : List Bytes) (old : Devices D) (moved : ℕ) (new : Devices D) (moved' : ℕ) : Type 0 where
  pub others : OthersStay device old new
  pub sized : size (device_in device new) ≡ size (device_in device old)
  pub further_on : moved' ≡ further (length from) moved e got
  pub did : tells → DidWrite e got (size (device_in device old)) (drop moved from) (contents (device_in device old)) (faults (device_in device old)) (contents (device_in device new)) (faults (device_in device new))

-- What a read is at: a hand, the caller's slice, and how many of its sectors were read.
pub record ReadState (D : Type 0) : Type 0 where
  pub hand : Hand D
  pub out : List Bytes
  pub moved : ℕ

-- what a write is at
pub record WriteState (D : Type 0) : Type 0 where
  pub hand : Hand D
  pub moved : ℕ

-- ---- a read's steps

-- a read moves nothing but what it reads
abbrev pub IsReads : Want → Type 0
IsReads (Device (Read device e)) = Unit {0}
IsReads (Device step) = ⊥
IsReads (Desk step) = ⊥
IsReads want = Unit {0}

abbrev pub ReadsInto : {D : Type 0} → Type 0 → (D → ℕ) → (D → List History) → (D → ℕ) → Devices D → List Bytes → ℕ → Want → Got → Devices D → List Bytes → ℕ → Type 0
ReadsInto tells size contents faults old out moved (Device (Read device e)) got new out' moved' = DidReadInto tells size contents faults device e got old out moved new out' moved'
ReadsInto tells size contents faults old out moved want got new out' moved' = (new ≡ old) × (out' ≡ out) × (moved' ≡ moved)

-- what a step of a read does, on words of so many blocks
abbrev pub ReadStep : {D : Type 0} → Type 0 → (D → ℕ) → (D → List History) → (D → ℕ) → ℕ → ReadState D → Want → Got → ReadState D → Type 0
ReadStep tells size contents faults blocks s want got t =
    DoneByPass blocks s.hand.pass want got t.hand.pass
    × ReadsInto tells size contents faults s.hand.devices s.out s.moved want got t.hand.devices t.out t.moved

abbrev pub IsReadyToRead : {D : Type 0} → ReadStage D → Want → Type 0
IsReadyToRead stage want = IsReadyOn stage.cells.now stage.hand.now.pass want × IsReads want × MayMove stage.hand.now.mode stage.hand.now.block_sectors stage.hand.now.pass.card want

pub record ReadLed {D : Type 0} (tells : Type 0) (size : D → ℕ) (contents : D → List History) (faults : D → ℕ) (old : ReadStage D) (want : Want) (got : Got) (new : ReadStage D) : Type 0 where
  pub cells : new.cells ≡ old.cells
  pub same_hand : new.hand.ghost_name ≡ old.hand.ghost_name
  pub same_slice : new.out.ghost_name ≡ old.out.ghost_name
  pub sized : new.hand.now.block_sectors ≡ old.hand.now.block_sectors
  pub same_mode : new.hand.now.mode ≡ old.hand.now.mode
  pub by_pass : DoneByPass old.cells.now.blocks old.hand.now.pass want got new.hand.now.pass
  pub into : ReadsInto tells size contents faults old.hand.now.devices old.out.now old.moved want got new.hand.now.devices new.out.now new.moved

-- ---- a write's steps

abbrev pub IsWrites : Want → Type 0
IsWrites (Device (Write device e)) = Unit {0}
IsWrites (Device step) = ⊥
IsWrites (Desk step) = ⊥
IsWrites want = Unit {0}

-- Where in the slice a write of so many sectors begins: behind what was written before it. But in write-through the cache is written what the
-- origin was written just before.
abbrev pub begins_at : Mode → Dev → ℕ → ℕ → ℕ
begins_at Writethrough Cache count moved = moved - count
begins_at mode device count moved = moved

abbrev pub WritesFrom : {D : Type 0} → Type 0 → (D → ℕ) → (D → List History) → (D → ℕ) → Mode → List Bytes → Devices D → ℕ → Want → Got → Devices D → ℕ → Type 0
WritesFrom tells size contents faults mode from old moved (Device (Write device e)) got new moved' = DidWriteFrom tells size contents faults device e got from old (begins_at mode device e.count moved) new moved'
WritesFrom tells size contents faults mode from old moved want got new moved' = (new ≡ old) × (moved' ≡ moved)

-- what a step of a write of this slice does
abbrev pub WriteStep : {D : Type 0} → Type 0 → (D → ℕ) → (D → List History) → (D → ℕ) → ℕ → List Bytes → WriteState D → Want → Got → WriteState D → Type 0
WriteStep tells size contents faults blocks from s want got t =
    DoneByPass blocks s.hand.pass want got t.hand.pass
    × WritesFrom tells size contents faults s.hand.mode from s.hand.devices s.moved want got t.hand.devices t.moved

abbrev pub IsReadyToWrite : {D : Type 0} → WriteStage D → Want → Type 0
IsReadyToWrite stage want = IsReadyOn stage.cells.now stage.hand.now.pass want × IsWrites want × MayMove stage.hand.now.mode stage.hand.now.block_sectors stage.hand.now.pass.card want

pub record WriteLed {D : Type 0} (tells : Type 0) (size : D → ℕ) (contents : D → List History) (faults : D → ℕ) (old : WriteStage D) (want : Want) (got : Got) (new : WriteStage D) : Type 0 where
  pub cells : new.cells ≡ old.cells
  pub same_hand : new.hand.ghost_name ≡ old.hand.ghost_name
  pub same_slice : new.from ≡ old.from
  pub sized : new.hand.now.block_sectors ≡ old.hand.now.block_sectors
  pub same_mode : new.hand.now.mode ≡ old.hand.now.mode
  pub by_pass : DoneByPass old.cells.now.blocks old.hand.now.pass want got new.hand.now.pass
  pub from : WritesFrom tells size contents faults old.hand.now.mode old.from.now old.hand.now.devices old.moved want got new.hand.now.devices new.moved
