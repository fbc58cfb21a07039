use Rattle.std.proofs.Common.{sym}
use Rattle.wb_orders.proofs.Stored.{stored_front, front_there, there_by}
use Rattle.wb_orders.proofs.Kept.{within_of}
use Rattle.wb_orders.proofs.live_orders.LiveOrders.take.Goals as goal

pub invariant_of-self-2 : goal.invariant_of-self-2
invariant_of-self-2 c =
    let front = front_there c.self.inside.slots.items c.self.inside.busy.items c.self.inside.waiting c.self.inside.cost c.self.inside.given c.in_ok-at.field-0 c.self.invariant (sym c.in_ok-at.ensures.value) in
    let here = there_by c.self.inside.slots.items c.in_ok-at.field-0.0 c.index.result.now c.in_ok-live.live c.index.ensures (within_of c.self.inside.slots.items c.in_ok-at.field-0.0 front.0 front.1) c.in_ok-live.was in
    stored_front c.self.inside.slots.items c.self.inside.busy.items c.self.inside.waiting c.pop_front.new.self c.self.inside.cost c.self.inside.given
    c.in_ok-at.field-0 c.in_ok-live.live c.self.invariant (sym c.in_ok-at.ensures.value) here c.pop_front.ensures.items
