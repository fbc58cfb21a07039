use Rattle.std.proofs.Common.{◌∙◌, List, ap, subst}
use Rattle.wb_policy.specs.declared.order.Order.{Order}
use Rattle.wb_promise.specs.Happenings.{KeepsReplacement}
use Rattle.wb_machine.specs.Members.{Member}
use Rattle.wb_machine.proofs.Kept.{if_ok}
use Rattle.wb_machine.proofs.Orders.{takes_replacement}
use Rattle.wb_machine.proofs.member.Member.take_order.Goals as goal

pub returns-in-Some-clause-ok : goal.returns-in-Some-clause-ok
returns-in-Some-clause-ok c =
    let desk = c.args.desk.now in
    let old = c.in-Replace.old in
    let new = c.in-Replace.new in
    let none = subst (λ (os : List Order). ¬ KeepsReplacement desk os old new) (c.as_slice-in-Replace.ensures.value ∙ ap (λ (v : Member). v.orders) c.self-in-Replace.view_is) c.if-keeps_replacement.ensures.other in
    rw c.in-Replace.is (if_ok c.get_order-in-Replace.result _ _ (λ has g. takes_replacement desk c.args.self.now old new c.in-Some.cache has _ _ c.see_desk.ensures.mapping c.in-Some.ensures.mapped none g) c.get_order-in-Replace.ensures.ok)
