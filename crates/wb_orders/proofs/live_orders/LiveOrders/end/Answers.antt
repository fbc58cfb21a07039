use Rattle.std.proofs.Common.{sym, subst}
use Rattle.wb_orders.specs.Orders.{Orders, IsTaken, order_at}
use Rattle.wb_orders.proofs.Stored.{stored_over, first_there, there_by, taken_there, taken_within}
use Rattle.wb_orders.proofs.live_orders.LiveOrders.end.Goals as goal

pub mark-requires-clause-first : goal.mark-requires-clause-first
mark-requires-clause-first c =
    let taken = subst (λ (v : Orders). IsTaken (order_at v.slots c.args.c.0)) (sym c.self.view_is) c.requires in
    let here = there_by c.self.inside.slots.items c.args.c.0 c.index.result.now c.in-Some.live c.index.ensures (taken_within c.self.inside.slots.items c.args.c.0 taken) c.in-Some.is in
    (first_there c.self.inside.slots.items c.self.inside.busy.items c.self.inside.waiting c.self.inside.cost c.self.inside.given c.args.c c.in-Some.live c.self.invariant here).0

pub mark-requires-clause-second : goal.mark-requires-clause-second
mark-requires-clause-second c =
    let taken = subst (λ (v : Orders). IsTaken (order_at v.slots c.args.c.0)) (sym c.self.view_is) c.requires in
    let here = there_by c.self.inside.slots.items c.args.c.0 c.index.result.now c.in-Some.live c.index.ensures (taken_within c.self.inside.slots.items c.args.c.0 taken) c.in-Some.is in
    (first_there c.self.inside.slots.items c.self.inside.busy.items c.self.inside.waiting c.self.inside.cost c.self.inside.given c.args.c c.in-Some.live c.self.invariant here).1

pub invariant_of-self : goal.invariant_of-self
invariant_of-self c =
    let taken = subst (λ (v : Orders). IsTaken (order_at v.slots c.args.c.0)) (sym c.self.view_is) c.requires in
    let here = there_by c.self.inside.slots.items c.args.c.0 c.index.result.now c.in-Some.live c.index.ensures (taken_within c.self.inside.slots.items c.args.c.0 taken) c.in-Some.is in
    stored_over c.self.inside.slots.items c.self.inside.busy.items c.self.inside.waiting c.self.inside.cost c.self.inside.given c.args.c c.in-Some.live c.self.invariant here
    (taken_there c.self.inside.slots.items c.args.c.0 c.in-Some.live here taken) _ c.mark.ensures
