use Rattle.std.proofs.Common.{◌∙◌, ◌&&◌, List, ap, filter, rules, sym}
use Rattle.std.proofs.lemmas.Fn.{filter_same}
use Rattle.wb_policy.specs.declared.order.Order.{Order}
use Rattle.wb_desk.specs.Entries.{is_replacement}
use Rattle.wb_stage.specs.Asking.{is_of}
use Rattle.wb_machine.proofs.Orders.{replacing_is}
use Rattle.wb_machine.proofs.keeping.replacing.Goals as goal

pub returns-clause-ok : goal.returns-clause-ok
returns-clause-ok c = filter_same _ (λ (o : Order). is_of c.args.block o && is_replacement o) _ (λ x b f' k. search rules) _ _ c.retain.ensures.filtered
    ∙ ap (λ (os : List Order). filter (λ (o : Order). is_of c.args.block o && is_replacement o) os) c.in_ok-left.ensures.ok ∙ sym (replacing_is c.args.block c.args.orders.now)
