-- What the fields of the store stand for.
use Rattle.std.specs.Prelude.{◌≡◌, ℕ, Bool, List, Option, length}
use Rattle.circular_buffer.specs.Buffer.{Buffer}
use Rattle.wb_types.specs.declared.number.CBlock.{CBlock}
use Rattle.wb_orders.specs.declared.live_order.LiveOrder.{LiveOrder}
use Rattle.wb_orders.specs.Orders.{Orders, AreOrders, cost_of}
use Rattle.wb_orders.specs.declared.live_orders.LiveOrders.TheInside.{Inside}

abbrev pub orders_of : List (Option LiveOrder) → List Bool → Buffer CBlock → ℕ → Orders
orders_of slots busy queue given = record { slots = slots; busy = busy; waiting = queue.items; given = given }

abbrev pub orders_inside : Inside → Orders
orders_inside f = orders_of f.slots.items f.busy.items f.waiting f.given

pub record AreStored (slots : List (Option LiveOrder)) (busy : List Bool) (queue : Buffer CBlock) (sectors given : ℕ) : Type 0 where
  -- the queue has room for an order of each cache block
  pub room : queue.capacity ≡ length slots
  pub cost : sectors ≡ cost_of slots
  pub orders : AreOrders (orders_of slots busy queue given)

abbrev pub AreFields : Inside → Type 0
AreFields f = AreStored f.slots.items f.busy.items f.waiting f.cost f.given
