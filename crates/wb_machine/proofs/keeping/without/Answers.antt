use Rattle.std.proofs.Common.{◌∙◌, List, ap, filter, rules, not, sym}
use Rattle.std.proofs.lemmas.Fn.{filter_same}
use Rattle.wb_policy.specs.declared.order.Order.{Order}
use Rattle.wb_stage.specs.Asking.{is_of}
use Rattle.wb_machine.proofs.Orders.{dropped_is}
use Rattle.wb_machine.proofs.keeping.without.Goals as goal

pub returns-clause-ok : goal.returns-clause-ok
returns-clause-ok c = filter_same _ (λ (o : Order). not (is_of c.args.block o)) _ (λ x b f' k. search rules) _ _ c.retain.ensures.filtered
    ∙ ap (λ (os : List Order). filter (λ (o : Order). not (is_of c.args.block o)) os) c.in_ok-left.ensures.ok ∙ sym (dropped_is c.args.block c.args.orders.now)
