-- The fields of the store after each call.
use Rattle.std.proofs.Common.{◌≡◌, ◌<◌, ◌+◌, ◌-◌, ℕ, Bool, true, false, List, [], ◌∷◌, Option, Some, None, length, drop, get_or, set, slice_get, replicate, refl, sym, ap, subst, inl, inr, ◌∙◌, arith}
use Rattle.std.proofs.lemmas.Bool.{cases_lt}
use Rattle.std.proofs.lemmas.List.{get_or_default, get_or_past, length-replicate, length-set}
use Rattle.circular_buffer.specs.Buffer.{Buffer, buffer}
use Rattle.wb_types.specs.declared.number.CBlock.{CBlock}
use Rattle.wb_orders.specs.declared.live_order.LiveOrder.{LiveOrder}
use Rattle.wb_orders.specs.Named.{first_of, second_of}
use Rattle.wb_orders.specs.Orders.{Orders, MayGive, IsTaken, order_at, marked, queued, order_taken, AreOrders}
use Rattle.wb_orders.specs.Fields.{orders_of, AreStored}
use Rattle.wb_orders.proofs.Kept.{Slots, none_kept, none_cost}
use Rattle.wb_orders.proofs.Calls.{IsGiven, given_kept, given_room, given_cost, taken_kept, taken_cost, over_kept, over_cost, busy_in}

pub stored_new : (n m : ℕ) (slots : Slots) (busy : List Bool) (queue : Buffer CBlock) → slots ≡ replicate n None → busy ≡ replicate m false
    → queue ≡ buffer [] n → AreStored slots busy queue 0 0
stored_new n m slots busy queue s b q = rw (s, b, q) (record {
  room = sym (length-replicate {A = Option LiveOrder} n None);
  cost = none_cost n;
  orders = none_kept n m;
})

pub queue_room : (slots : Slots) (busy : List Bool) (queue : Buffer CBlock) (cost given : ℕ) (c : CBlock) (o : LiveOrder)
    → AreStored slots busy queue cost given → IsGiven (orders_of slots busy queue given) c o → length queue.items < queue.capacity
queue_room slots busy queue cost given c o s g = omega (arith, s.room, given_room (orders_of slots busy queue given) c o s.orders g)

pub stored_given : (slots : Slots) (busy : List Bool) (queue after : Buffer CBlock) (cost given : ℕ) (c : CBlock) (o : LiveOrder)
    → AreStored slots busy queue cost given → IsGiven (orders_of slots busy queue given) c o
    → after ≡ buffer (queued o.waits c queue.items) queue.capacity → (marks : List Bool) → marks ≡ marked o.order true busy
    → AreStored (set slots c.0 (Some o)) marks after (cost + o.sectors) (given + 1)
stored_given slots busy queue after cost given c o s g e marks m = rw (e, m) (record {
  room = s.room ∙ sym (length-set slots c.0 (Some o));
  cost = ap (λ (x : ℕ). x + o.sectors) s.cost ∙ sym (given_cost (orders_of slots busy queue given) c o g);
  orders = given_kept (orders_of slots busy queue given) c o s.orders g;
})

-- the first of the queue has an order
pub front_there : (slots : Slots) (busy : List Bool) (queue : Buffer CBlock) (cost given : ℕ) (c : CBlock) → AreStored slots busy queue cost given
    → slice_get queue.items 0 ≡ Some c → (o : LiveOrder) × (order_at slots c.0 ≡ Some o) × (o.waits ≡ true)
front_there slots busy queue cost given c s e = by queue.items s.orders.queue e
  where
    by : (cs : List CBlock) → Rattle.wb_orders.specs.Orders.IsQueue slots 0 cs → slice_get cs 0 ≡ Some c → (o : LiveOrder) × (order_at slots c.0 ≡ Some o) × (o.waits ≡ true)
    by [] q h = absurd (cc)
    by (k ∷ cs) q h = (q.0, ap (λ (x : CBlock). order_at slots x.0) (sym same) ∙ q.1, q.2)
      where
        same : k ≡ c
        same = cc

pub stored_front : (slots : Slots) (busy : List Bool) (queue after : Buffer CBlock) (cost given : ℕ) (c : CBlock) (o : LiveOrder)
    → AreStored slots busy queue cost given → slice_get queue.items 0 ≡ Some c → order_at slots c.0 ≡ Some o
    → after ≡ buffer (drop 1 queue.items) queue.capacity
    → AreStored (set slots c.0 (Some (order_taken o))) busy after cost given
stored_front slots busy queue after cost given c o s front here e = rw e (record {
  room = s.room ∙ sym (length-set slots c.0 (Some (order_taken o)));
  cost = s.cost ∙ sym (taken_cost slots c.0 o here);
  orders = by queue.items s.orders front;
})
  where
    by : (cs : List CBlock) → AreOrders (record { slots = slots; busy = busy; waiting = cs; given = given }) → slice_get cs 0 ≡ Some c
        → AreOrders (record { slots = set slots c.0 (Some (order_taken o)); busy = busy; waiting = drop 1 cs; given = given })
    by [] a h = absurd (cc)
    by (k ∷ cs) a h = taken_kept slots busy c cs given o (subst (λ (x : CBlock). AreOrders (record { slots = slots; busy = busy; waiting = x ∷ cs; given = given })) same a) here
      where
        same : k ≡ c
        same = cc

pub stored_over : (slots : Slots) (busy : List Bool) (queue : Buffer CBlock) (cost given : ℕ) (c : CBlock) (o : LiveOrder)
    → AreStored slots busy queue cost given → order_at slots c.0 ≡ Some o → o.waits ≡ false → (marks : List Bool) → marks ≡ marked o.order false busy
    → AreStored (set slots c.0 None) marks queue (cost - o.sectors) given
stored_over slots busy queue cost given c o s here rests marks m = rw m (record {
  room = s.room ∙ sym (length-set slots c.0 None);
  cost = omega (arith, s.cost, over_cost slots c.0 o here);
  orders = over_kept (orders_of slots busy queue given) c o s.orders here rests;
})

-- the blocks of a live order are there
pub first_there : (slots : Slots) (busy : List Bool) (queue : Buffer CBlock) (cost given : ℕ) (c : CBlock) (o : LiveOrder)
    → AreStored slots busy queue cost given → order_at slots c.0 ≡ Some o → ((first_of o.order).0 < length busy) × ((second_of o.order).0 < length busy)
first_there slots busy queue cost given c o s here = (
  busy_in (orders_of slots busy queue given) c.0 (first_of o.order).0 o s.orders here (inl refl),
  busy_in (orders_of slots busy queue given) c.0 (second_of o.order).0 o s.orders here (inr refl),
)

-- what was read of a slot with itself for a default
pub there_by : (slots : Slots) (c : ℕ) (found : Option LiveOrder) (o : LiveOrder) → found ≡ get_or slots c found → c < length slots → found ≡ Some o → order_at slots c ≡ Some o
there_by slots c found o e l h = get_or_default slots c None found l ∙ sym e ∙ h

pub taken_there : (slots : Slots) (c : ℕ) (o : LiveOrder) → order_at slots c ≡ Some o → IsTaken (order_at slots c) → o.waits ≡ false
taken_there slots c o e t = subst IsTaken e t

pub taken_within : (slots : Slots) (c : ℕ) → IsTaken (order_at slots c) → c < length slots
taken_within slots c t = elim (cases_lt c (length slots)) [
  | inl l ↦ l
  | inr p ↦ absurd (subst IsTaken (get_or_past slots c None p) t)
]

-- what is asked for an order that is given
pub is_given : (slots : Slots) (busy : List Bool) (queue : Buffer CBlock) (given : ℕ) (now : Orders) (c : CBlock) (o : LiveOrder) → orders_of slots busy queue given ≡ now
    → MayGive now c o.order o.sectors o.threshold → o.number ≡ given → IsGiven (orders_of slots busy queue given) c o
is_given slots busy queue given now c o e may number =
    let m = subst (λ (x : Orders). MayGive x c o.order o.sectors o.threshold) (sym e) may in
    record { vacant = m.vacant; idle = m.idle; room = m.room; number = number }
