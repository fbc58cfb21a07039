-- The live orders: by cache block, since each has one of its own; which origin blocks they keep; and the cache blocks
-- of those that nobody has taken yet, in the order in which they were given.
use Rattle.std.specs.Prelude.{◌≡◌, ◌≤◌, ◌<◌, ◌+◌, ◌^◌, ◌++◌, ℕ, nat_le, Bool, true, false, if◌then◌else◌, List, [], ◌∷◌, Option, Some, None, length, get_or, slice_set, slice_get, replicate}
use Rattle.std.specs.List.{sum_by}
use Rattle.std.specs.Option.{option_map}
use Rattle.wb_types.specs.declared.number.CBlock.{CBlock}
use Rattle.wb_policy.specs.declared.order.Order.{Order}
use Rattle.wb_orders.specs.declared.live_order.LiveOrder.{LiveOrder}
use Rattle.wb_orders.specs.Named.{first_of, second_of, IsNamed}

pub record Orders : Type 0 where
  pub slots : List (Option LiveOrder)
  -- by origin block
  pub busy : List Bool
  pub waiting : List CBlock
  -- how many were given
  pub given : ℕ

-- none at all
abbrev pub no_orders : ℕ → ℕ → Orders
no_orders cache_blocks origin_blocks = record { slots = replicate cache_blocks None; busy = replicate origin_blocks false; waiting = []; given = 0 }

-- the live order of a cache block
abbrev pub order_at : List (Option LiveOrder) → ℕ → Option LiveOrder
order_at slots c = get_or slots c None

abbrev pub sectors_kept : Option LiveOrder → ℕ
sectors_kept None = 0
sectors_kept (Some o) = o.sectors

-- the sectors of all live orders
abbrev pub cost_of : List (Option LiveOrder) → ℕ
cost_of slots = sum_by sectors_kept slots

abbrev pub sectors_until : ℕ → Option LiveOrder → ℕ
sectors_until number None = 0
sectors_until number (Some o) = if nat_le o.number number then o.sectors else 0

-- the sectors of those that were given up to this one
abbrev pub cost_until : ℕ → List (Option LiveOrder) → ℕ
cost_until number slots = sum_by (sectors_until number) slots

-- its blocks are kept for it, or kept no longer
abbrev pub marked : Order → Bool → List Bool → List Bool
marked order is busy = slice_set (slice_set busy (first_of order).0 is) (second_of order).0 is

-- both blocks of an order are there, and no live order has them
abbrev pub IsIdle : List Bool → Order → Type 0
IsIdle busy order = (slice_get busy (first_of order).0 ≡ Some false) × (slice_get busy (second_of order).0 ≡ Some false)

-- An order may be given: nobody has its cache block or its origin blocks, there is room for its sectors, and it can be
-- counted.
pub record MayGive (orders : Orders) (c : CBlock) (order : Order) (sectors threshold : ℕ) : Type 0 where
  pub vacant : slice_get orders.slots c.0 ≡ Some None
  pub idle : IsIdle orders.busy order
  pub room : cost_of orders.slots + sectors ≤ threshold
  pub countable : orders.given + 1 < 2 ^ 64

abbrev pub queued : Bool → CBlock → List CBlock → List CBlock
queued true c waiting = waiting ++ c ∷ []
queued false c waiting = waiting

-- one more is given
abbrev pub with_order : Orders → CBlock → LiveOrder → Orders
with_order orders c o = record {
  slots = slice_set orders.slots c.0 (Some o);
  busy = marked o.order true orders.busy;
  waiting = queued o.waits c orders.waiting;
  given = orders.given + 1;
}

-- the one that waits longest
abbrev pub next_of : List (Option LiveOrder) → List CBlock → Option LiveOrder
next_of slots [] = None
next_of slots (c ∷ cs) = order_at slots c.0

abbrev pub order_taken : LiveOrder → LiveOrder
order_taken o = record o { waits = false }

abbrev pub slots_taken : List (Option LiveOrder) → List CBlock → List (Option LiveOrder)
slots_taken slots [] = slots
slots_taken slots (c ∷ cs) = slice_set slots c.0 (option_map order_taken (order_at slots c.0))

abbrev pub queue_taken : List CBlock → List CBlock
queue_taken [] = []
queue_taken (c ∷ cs) = cs

-- it is taken
abbrev pub next_taken : Orders → Orders
next_taken orders = record orders { slots = slots_taken orders.slots orders.waiting; waiting = queue_taken orders.waiting }

abbrev pub unmarked : Option LiveOrder → List Bool → List Bool
unmarked None busy = busy
unmarked (Some o) busy = marked o.order false busy

-- the order of a cache block is over
abbrev pub without_order : Orders → CBlock → Orders
without_order orders c = record orders { slots = slice_set orders.slots c.0 None; busy = unmarked (order_at orders.slots c.0) orders.busy }

-- somebody has taken the order
abbrev pub IsTaken : Option LiveOrder → Type 0
IsTaken None = ⊥
IsTaken (Some o) = o.waits ≡ false

-- some live order names this block
pub record HasOrder (slots : List (Option LiveOrder)) (b : ℕ) : Type 0 where
  pub cache : ℕ
  pub order : LiveOrder
  pub there : order_at slots cache ≡ Some order
  pub named : IsNamed order.order b

-- The queue rises by the numbers of its orders, from one on, and each of them waits.
abbrev pub IsQueue : List (Option LiveOrder) → ℕ → List CBlock → Type 0
IsQueue slots least [] = Unit {0}
IsQueue slots least (c ∷ cs) =
    (o : LiveOrder) × (order_at slots c.0 ≡ Some o) × (o.waits ≡ true) × (least ≤ o.number) × IsQueue slots (o.number + 1) cs

abbrev pub waits_in : Option LiveOrder → ℕ
waits_in None = 0
waits_in (Some o) = if o.waits then 1 else 0

-- What holds of them all
pub record AreOrders (orders : Orders) : Type 0 where
  -- each has a number of its own, one of those that were given
  pub numbered : (c : ℕ) (o : LiveOrder) → order_at orders.slots c ≡ Some o → o.number < orders.given
  pub once : (c k : ℕ) (o p : LiveOrder) → order_at orders.slots c ≡ Some o → order_at orders.slots k ≡ Some p → o.number ≡ p.number → c ≡ k
  -- no two name one origin block
  pub apart : (c k b : ℕ) (o p : LiveOrder) → order_at orders.slots c ≡ Some o → order_at orders.slots k ≡ Some p → IsNamed o.order b → IsNamed p.order b → c ≡ k
  -- an origin block is busy exactly where one names it
  pub marks : (c b : ℕ) (o : LiveOrder) → order_at orders.slots c ≡ Some o → IsNamed o.order b → get_or orders.busy b false ≡ true
  pub marked_for : (b : ℕ) → get_or orders.busy b false ≡ true → HasOrder orders.slots b
  -- with those that were given before it each is within the threshold of when it was given
  pub within : (c : ℕ) (o : LiveOrder) → order_at orders.slots c ≡ Some o → cost_until o.number orders.slots ≤ o.threshold
  -- those that wait are in the queue, each once, as they were given
  pub queue : IsQueue orders.slots 0 orders.waiting
  pub all_wait : length orders.waiting ≡ sum_by waits_in orders.slots
