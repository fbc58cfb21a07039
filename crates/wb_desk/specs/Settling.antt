-- What accesses and ticks make of a desk.
use Rattle.std.specs.Prelude.{◌≡◌, ◌≤◌, ◌<◌, ◌+◌, ◌-◌, ◌^◌, ◌⊎◌, ℕ, zero, suc, true, List, [], ◌∷◌, Option, Some, None}
use Rattle.std.specs.List.{position}
use Rattle.std.specs.Option.{option_map}
use Rattle.wb_types.specs.declared.number.CBlock.{CBlock}
use Rattle.wb_types.specs.declared.number.OBlock.{OBlock}
use Rattle.wb_policy.specs.declared.order.Order.{Order}
use Rattle.wb_policy.specs.declared.situation.Settled.{Settled}
use Rattle.wb_policy.specs.declared.situation.Tick.{Tick}
use Rattle.wb_space.specs.Blocks.{is_free}
use Rattle.wb_orders.specs.Named.{first_of, second_of}
use Rattle.wb_orders.specs.Orders.{cost_of}
use Rattle.wb_desk.specs.Desks.{DeskState, MayReserve, sectors_asked}
use Rattle.wb_desk.specs.Calls.{reserved}

-- What an order needs beside the law of its policy: its blocks are the origin's, there is room for its sectors, and it can be
-- counted.
pub record Fits {P : Type 0} (d : DeskState P) (order : Order) : Type 0 where
  pub first : (first_of order).0 < d.geometry.origin_blocks
  pub second : (second_of order).0 < d.geometry.origin_blocks
  pub room : cost_of d.orders.slots + sectors_asked d.geometry order ≤ d.threshold
  pub countable : d.orders.given + 1 < 2 ^ 64

-- An order that was decided is given, and waits to be taken; only one that does not fit is not.
abbrev pub OrderIsGiven : {P : Type 0} → DeskState P → Option Order → DeskState P → Type 0
OrderIsGiven d None new = new ≡ d
OrderIsGiven d (Some order) new =
    ((c : CBlock) × MayReserve d c order × (new ≡ reserved d c order true)) ⊎ ((Fits d order → ⊥) × (new ≡ d))

-- ---- accesses

-- what a policy is lent at an access
pub record IsAccess {P : Type 0} (d : DeskState P) (b : OBlock) (a : Settled) : Type 0 where
  pub block : a.block ≡ b
  pub mode : a.mode ≡ d.mode
  pub least_free : option_map (λ c. c.0) a.least_free ≡ position is_free d.space.blocks
  pub room : a.room ≡ d.threshold - cost_of d.orders.slots
  pub busy : a.busy.now ≡ d.orders.busy

-- The policy is told of one access, and its order is given.
abbrev pub AccessIsSettled : {P : Type 0} → (P → Settled → Option Order) → (P → Settled → P) → DeskState P → OBlock → DeskState P → Type 0
AccessIsSettled ordered settled d b new =
    (a : Settled) × IsAccess d b a × OrderIsGiven (record d { policy = settled d.policy a }) (ordered d.policy a) new

-- and of these, one after the other
abbrev pub AreSettled : {P : Type 0} → (P → Settled → Option Order) → (P → Settled → P) → DeskState P → List OBlock → DeskState P → Type 0
AreSettled {P} ordered settled d [] new = new ≡ d
AreSettled {P} ordered settled d (b ∷ bs) new = (next : DeskState P) × AccessIsSettled ordered settled d b next × AreSettled ordered settled next bs new

-- ---- ticks

-- what a policy is lent at a tick
pub record IsTick {P : Type 0} (d : DeskState P) (dirty : List (CBlock × OBlock)) (t : Tick) : Type 0 where
  pub mode : t.mode ≡ d.mode
  pub room : t.room ≡ d.threshold - cost_of d.orders.slots
  pub busy : t.busy.now ≡ d.orders.busy
  pub seen : t.dirty.now ≡ dirty

abbrev pub NoneFits : {P : Type 0} → DeskState P → Option Order → Type 0
NoneFits d None = Unit {0}
NoneFits d (Some order) = Fits d order → ⊥

-- A tick that has given so many orders ends: its policy has no order, or one that does not fit.
abbrev pub TickEnds : {P : Type 0} → (P → Tick → ℕ → Option Order) → (P → Tick → ℕ → P) → List (CBlock × OBlock) → ℕ → DeskState P → DeskState P → Type 0
TickEnds cleaned ticked dirty given d new =
    (t : Tick) × IsTick d dirty t × NoneFits (record d { policy = ticked d.policy t given }) (cleaned d.policy t given) × (new ≡ record d { policy = ticked d.policy t given })

-- Or it gives one more.
abbrev pub TickGives : {P : Type 0} → (P → Tick → ℕ → Option Order) → (P → Tick → ℕ → P) → List (CBlock × OBlock) → ℕ → DeskState P → DeskState P → Type 0
TickGives cleaned ticked dirty given d new =
    (t : Tick) × IsTick d dirty t × ((order : Order) × (cleaned d.policy t given ≡ Some order)
    × ((c : CBlock) × MayReserve (record d { policy = ticked d.policy t given }) c order × (new ≡ reserved (record d { policy = ticked d.policy t given }) c order true)))

-- It gives orders until it ends, so many at most.
abbrev pub IsTicked : {P : Type 0} → (P → Tick → ℕ → Option Order) → (P → Tick → ℕ → P) → List (CBlock × OBlock) → ℕ → ℕ → DeskState P → DeskState P → Type 0
IsTicked {P} cleaned ticked dirty zero given d new = new ≡ d
IsTicked {P} cleaned ticked dirty (suc most) given d new =
    TickEnds cleaned ticked dirty given d new
    ⊎ ((next : DeskState P) × TickGives cleaned ticked dirty given d next × IsTicked cleaned ticked dirty most (given + 1) next new)
