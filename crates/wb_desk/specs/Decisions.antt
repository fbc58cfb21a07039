-- What the policies decide is given.
use Rattle.std.specs.Prelude.{◌≡◌, ◌<◌, ◌+◌, ◌^◌, ℕ, true, List, Option, Some, None}
use Rattle.wb_types.specs.declared.number.CBlock.{CBlock}
use Rattle.wb_types.specs.declared.number.OBlock.{OBlock}
use Rattle.wb_policy.specs.declared.order.Order.{Order}
use Rattle.wb_policy.specs.declared.situation.Settled.{Settled}
use Rattle.wb_policy.specs.declared.situation.Tick.{Tick}
use Rattle.wb_policy.specs.Law.{Holdings, AreMapped}
use Rattle.wb_policy.specs.TinyLfu.{Knowledge, WasTold, after_access, ordered, cleaned as written_back}
use Rattle.wb_policy.specs.Cleaner.{Progress, cleaned, ticked}
use Rattle.wb_desk.specs.Desks.{DeskState, DeskInvariant, MayReserve, holdings}
use Rattle.wb_desk.specs.Calls.{reserved}
use Rattle.wb_desk.specs.Settling.{IsAccess, AccessIsSettled, IsTick, TickEnds}

-- A policy was made for the desk's geometry, and an order more can be counted.
pub record IsInService {P : Type 0} (knows : P → Holdings → Type 0) (d : DeskState P) (block_sectors : ℕ) : Type 0 where
  pub desk : DeskInvariant knows d
  pub sectors : block_sectors ≡ d.geometry.block
  pub countable : d.orders.given + 1 < 2 ^ 64

-- the order that was decided, if any, is given and waits to be taken
abbrev pub IsWaiting : {P : Type 0} → DeskState P → Option Order → DeskState P → Type 0
IsWaiting d None new = new ≡ d
IsWaiting d (Some order) new = (c : CBlock) × MayReserve d c order × (new ≡ reserved d c order true)

-- TinyLfu: at an access of a block of the origin its order is given, if and only if it decides on one.
abbrev pub DecisionsAreGiven : Type 0
DecisionsAreGiven = (d new : DeskState Knowledge) (b : OBlock) → IsInService WasTold d d.policy.block_sectors → b.0 < d.geometry.origin_blocks
    → AccessIsSettled ordered (λ k a. after_access k a.block.0) d b new
    → (a : Settled) × IsAccess d b a × IsWaiting (record d { policy = after_access d.policy a.block.0 }) (ordered d.policy a) new

-- Its tick ends only where it has no order more,
abbrev pub TicksEndWithoutOrder : Type 0
TicksEndWithoutOrder = (d new : DeskState Knowledge) (dirty : List (CBlock × OBlock)) (given : ℕ) → IsInService WasTold d d.policy.block_sectors → AreMapped (holdings d) dirty
    → TickEnds written_back (λ k t n. k) dirty given d new → (t : Tick) × IsTick d dirty t × (written_back d.policy t given ≡ None)

-- and so does the cleaner's.
abbrev pub CleanerEndsWithoutOrder : Type 0
CleanerEndsWithoutOrder = (d new : DeskState Progress) (dirty : List (CBlock × OBlock)) (given : ℕ) → IsInService (λ p m. Unit {0}) d d.policy.block_sectors → AreMapped (holdings d) dirty
    → TickEnds cleaned ticked dirty given d new → (t : Tick) × IsTick d dirty t × (cleaned d.policy t given ≡ None)
