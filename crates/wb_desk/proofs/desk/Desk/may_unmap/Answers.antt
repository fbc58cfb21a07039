use Rattle.std.proofs.Common.{subst, sym, ap, ◌∙◌, Option}
use Rattle.wb_orders.specs.declared.live_order.LiveOrder.{LiveOrder}
use Rattle.wb_orders.specs.Orders.{order_at}
use Rattle.wb_desk.specs.Desks.{DeskState, DeskInvariant}
use Rattle.wb_desk.specs.Entries.{IsRemoved, MayUnmap}
use Rattle.wb_desk.proofs.Index.{ruled_out}
use Rattle.wb_desk.proofs.Leaving.{removed_there}
use Rattle.wb_desk.proofs.desk.Desk.may_unmap.Goals as goal

pub returns-clause-other : goal.returns-clause-other
returns-clause-other g c =
    let i = subst (λ (d : DeskState _). DeskInvariant g.P.Policy.knows d) c.self.view_is c.self.invariant.desk in
    let slot = c.get.ensures ∙ ap (λ (d : DeskState _). order_at d.orders.slots c.in-Some.c.0) c.self.view_is in
    ruled_out c.is_removed.result (IsRemoved c.get.result) (MayUnmap c.args.self.now c.args.b)
    (λ may. subst (λ (s : Option LiveOrder). IsRemoved s) (sym slot) (removed_there g.P.Policy.knows c.args.self.now c.args.b c.in-Some.c i c.in-Some.ensures.mapped may)) c.is_removed.ensures.other
