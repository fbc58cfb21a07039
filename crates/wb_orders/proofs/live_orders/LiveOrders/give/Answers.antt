use Rattle.std.proofs.Common.{refl, rules}
use Rattle.std.proofs.lemmas.Option.{slice_get_within}
use Rattle.wb_orders.proofs.Stored.{stored_given, queue_room, is_given}
use Rattle.wb_orders.proofs.live_orders.LiveOrders.give.Goals as goal

pub enter-requires : goal.enter-requires
enter-requires c =
    let g = is_given c.self.inside.slots.items c.self.inside.busy.items c.self.inside.waiting c.self.inside.given c.args.self.now c.args.c
    (record { order = c.args.order; sectors = c.args.sectors; threshold = c.args.threshold; number = c.self.inside.given; waits = c.args.waits })
    c.self.view_is c.requires refl in
    queue_room c.self.inside.slots.items c.self.inside.busy.items c.self.inside.waiting c.self.inside.cost c.self.inside.given c.args.c _ c.self.invariant g

pub mark-requires-clause-first : goal.mark-requires-clause-first
mark-requires-clause-first c =
    let g = is_given c.self.inside.slots.items c.self.inside.busy.items c.self.inside.waiting c.self.inside.given c.args.self.now c.args.c
    (record { order = c.args.order; sectors = c.args.sectors; threshold = c.args.threshold; number = c.self.inside.given; waits = c.args.waits })
    c.self.view_is c.requires refl in
    slice_get_within c.self.inside.busy.items _ _ g.idle.0

pub mark-requires-clause-second : goal.mark-requires-clause-second
mark-requires-clause-second c =
    let g = is_given c.self.inside.slots.items c.self.inside.busy.items c.self.inside.waiting c.self.inside.given c.args.self.now c.args.c
    (record { order = c.args.order; sectors = c.args.sectors; threshold = c.args.threshold; number = c.self.inside.given; waits = c.args.waits })
    c.self.view_is c.requires refl in
    slice_get_within c.self.inside.busy.items _ _ g.idle.1

pub index_mut-requires : goal.index_mut-requires
index_mut-requires c =
    let g = is_given c.self.inside.slots.items c.self.inside.busy.items c.self.inside.waiting c.self.inside.given c.args.self.now c.args.c
    (record { order = c.args.order; sectors = c.args.sectors; threshold = c.args.threshold; number = c.self.inside.given; waits = c.args.waits })
    c.self.view_is c.requires refl in
    let l = slice_get_within c.self.inside.slots.items c.args.c.0 _ g.vacant in search rules

pub invariant_of-self : goal.invariant_of-self
invariant_of-self c =
    let g = is_given c.self.inside.slots.items c.self.inside.busy.items c.self.inside.waiting c.self.inside.given c.args.self.now c.args.c
    (record { order = c.args.order; sectors = c.args.sectors; threshold = c.args.threshold; number = c.self.inside.given; waits = c.args.waits })
    c.self.view_is c.requires refl in
    stored_given c.self.inside.slots.items c.self.inside.busy.items c.self.inside.waiting _ c.self.inside.cost c.self.inside.given c.args.c _ c.self.invariant g c.enter.ensures _ c.mark.ensures
