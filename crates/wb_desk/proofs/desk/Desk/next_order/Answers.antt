use Rattle.std.proofs.Common.{◌≡◌, Option, IfSome, subst, sym}
use Rattle.std.specs.Option.{option_map}
use Rattle.wb_policy.specs.declared.order.Order.{Order}
use Rattle.wb_orders.specs.Orders.{AreOrders, next_of}
use Rattle.wb_desk.specs.Desks.{DeskInvariant, DeskState}
use Rattle.wb_desk.proofs.Entering.{AreInside, next_inside}
use Rattle.wb_desk.proofs.Kept.{taken_kept}
use Rattle.wb_desk.proofs.desk.Desk.next_order.Goals as goal

pub invariant_of-self : goal.invariant_of-self
invariant_of-self g c = record {
  desk = rw c.take.ensures.state (taken_kept g.P.Policy.knows _ c.self.invariant.desk);
  sound = c.self.invariant.sound;
  index = c.self.invariant.index;
  have_left = c.self.invariant.have_left;
  count = c.self.invariant.count;
}

pub returns-clause-there : goal.returns-clause-there
returns-clause-there g c =
    let i = subst (λ (d : DeskState _). DeskInvariant g.P.Policy.knows d) c.self.view_is c.self.invariant.desk in
    let orders = subst (λ (d : DeskState _). AreOrders d.orders) c.self.view_is c.take.ensures.orders in
    let told = subst (λ (d : DeskState _). c.take.result ≡ option_map (λ o. o.order) (next_of d.orders.slots d.orders.waiting)) c.self.view_is c.take.ensures.order in
    subst (λ (o : Option Order). IfSome o (AreInside g.P.Policy.knows c.args.self.now)) (sym told) (next_inside g.P.Policy.knows c.args.self.now i orders)
