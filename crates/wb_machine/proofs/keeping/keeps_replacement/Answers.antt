use Rattle.wb_machine.proofs.Kept.{keeps_where, on_false}
use Rattle.wb_machine.proofs.keeping.keeps_replacement.Goals as goal

pub returns-clause-other : goal.returns-clause-other
returns-clause-other c = on_false c.keeps.result _ _ (λ none k. none (keeps_where c.args.desk.now c.args.orders.now c.args.old c.args.new c.in-Some.cache c.see_desk.ensures.mapping c.in-Some.ensures.mapped k)) c.keeps.ensures.other
