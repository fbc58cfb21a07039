-- Where an order lives, its slot says so.
use Rattle.std.proofs.Common.{◌≡◌, ◌∙◌, ◌≤◌, Bool, true, false, not, Option, Some, None, arith, refl, sym, subst, ap}
use Rattle.std.specs.Bool.{OnFalse}
use Rattle.wb_types.specs.declared.number.CBlock.{CBlock}
use Rattle.wb_policy.specs.declared.order.Order.{Order}
use Rattle.wb_policy.specs.Law.{Holdings}
use Rattle.wb_orders.specs.declared.live_order.LiveOrder.{LiveOrder}
use Rattle.wb_orders.specs.Orders.{order_at}
use Rattle.wb_desk.specs.Desks.{DeskState, DeskInvariant, IsLive, Takes, holdings}
use Rattle.wb_desk.proofs.Kept.{found_at, live_within}

-- the slot has this order, and somebody has taken it
abbrev pub Shows : Order → Option LiveOrder → Type 0
Shows order None = ⊥
Shows order (Some o) = (o.order ≡ order) × (o.waits ≡ false)

pub shown : {P : Type 0} (knows : P → Holdings → Type 0) (d : DeskState P) (order : Order) (c : CBlock) (slot : Option LiveOrder) → DeskInvariant knows d → Takes (holdings d) c order → slot ≡ order_at d.orders.slots c.0 → IsLive d order → Shows order slot
shown knows d order c slot i t e live =
    let there : slot ≡ Some live.live = e ∙ (ap (λ (k : CBlock). order_at d.orders.slots k.0) (found_at knows d order c i live t) ∙ live.there) in
    subst (λ (s : Option LiveOrder). Shows order s) (sym there) (live.same, live.taken)

pub outside : {P : Type 0} (knows : P → Holdings → Type 0) (d : DeskState P) (order : Order) (c : CBlock) → DeskInvariant knows d → Takes (holdings d) c order → d.geometry.cache_blocks ≤ c.0 → IsLive d order → ⊥
outside knows d order c i t far live =
    let e = found_at knows d order c i live t in
    let within = live_within knows d order i live in
    let here : c.0 ≡ live.cache.0 = ap (λ (k : CBlock). k.0) e in
    omega (arith, far, within, here, i.blocks)

pub waits_not : (w : Bool) (A : Type 0) → (w ≡ true → A) → OnFalse (not w) A
waits_not true A f = f refl
waits_not false A f = tt
