use Rattle.std.proofs.Common.{◌≡◌, ◌∙◌, ◌≤◌, Bool, true, Option, subst, sym, ap}
use Rattle.std.specs.Bool.{OnFalse}
use Rattle.std.proofs.lemmas.Bool.{true≢false}
use Rattle.wb_orders.specs.Orders.{order_at}
use Rattle.wb_orders.specs.declared.live_order.LiveOrder.{LiveOrder}
use Rattle.wb_desk.specs.Desks.{DeskState, DeskInvariant, IsLive}
use Rattle.wb_desk.proofs.Kept.{takes_there}
use Rattle.wb_desk.proofs.Living.{Shows, shown, outside, waits_not}
use Rattle.wb_desk.proofs.desk.Desk.is_live.Goals as goal

pub returns-in_default-clause-other : goal.returns-in_default-clause-other
returns-in_default-clause-other g c live =
    let i = subst (λ (d : DeskState _). DeskInvariant g.P.Policy.knows d) c.self.view_is c.self.invariant.desk in
    c.in_default.ensures.none live.cache (takes_there g.P.Policy.knows c.args.self.now c.args.order i live)

pub returns-then-at-cache_blocks-clause-other : goal.returns-then-at-cache_blocks-clause-other
returns-then-at-cache_blocks-clause-other g c live =
    let i = subst (λ (d : DeskState _). DeskInvariant g.P.Policy.knows d) c.self.view_is c.self.invariant.desk in
    outside g.P.Policy.knows c.args.self.now c.args.order c.in-Some.c i c.in-Some.ensures.takes (subst (λ (d : DeskState _). d.geometry.cache_blocks ≤ c.in-Some.c.0) c.self.view_is c.if-at-cache_blocks.true) live

pub returns-then-is_same-clause-other : goal.returns-then-is_same-clause-other
returns-then-is_same-clause-other g c =
    waits_not c.in-Some-get.live.waits (IsLive c.args.self.now c.args.order → ⊥) (λ (waits : c.in-Some-get.live.waits ≡ true). λ (live : IsLive c.args.self.now c.args.order).
    let i = subst (λ (d : DeskState _). DeskInvariant g.P.Policy.knows d) c.self.view_is c.self.invariant.desk in
    let s = shown g.P.Policy.knows c.args.self.now c.args.order c.in-Some.c c.get.result i c.in-Some.ensures.takes (c.get.ensures ∙ ap (λ (d : DeskState _). order_at d.orders.slots c.in-Some.c.0) c.self.view_is) live in
    let here = subst (λ (o : Option LiveOrder). Shows c.args.order o) c.in-Some-get.is s in
    true≢false (sym waits ∙ here.1))

pub returns-else-is_same-clause-other : goal.returns-else-is_same-clause-other
returns-else-is_same-clause-other g c =
    subst (λ (b : Bool). OnFalse b (IsLive c.args.self.now c.args.order → ⊥)) (sym c.if-is_same.false) (λ (live : IsLive c.args.self.now c.args.order).
    let i = subst (λ (d : DeskState _). DeskInvariant g.P.Policy.knows d) c.self.view_is c.self.invariant.desk in
    let s = shown g.P.Policy.knows c.args.self.now c.args.order c.in-Some.c c.get.result i c.in-Some.ensures.takes (c.get.ensures ∙ ap (λ (d : DeskState _). order_at d.orders.slots c.in-Some.c.0) c.self.view_is) live in
    let here = subst (λ (o : Option LiveOrder). Shows c.args.order o) c.in-Some-get.is s in
    c.if-is_same.ensures.other here.0)

pub returns-in-None-clause-other : goal.returns-in-None-clause-other
returns-in-None-clause-other g c live =
    let i = subst (λ (d : DeskState _). DeskInvariant g.P.Policy.knows d) c.self.view_is c.self.invariant.desk in
    let s = shown g.P.Policy.knows c.args.self.now c.args.order c.in-Some.c c.get.result i c.in-Some.ensures.takes (c.get.ensures ∙ ap (λ (d : DeskState _). order_at d.orders.slots c.in-Some.c.0) c.self.view_is) live in
    subst (λ (o : Option LiveOrder). Shows c.args.order o) c.in-None.is s
