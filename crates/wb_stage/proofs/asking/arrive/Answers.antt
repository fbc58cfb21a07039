use Rattle.std.proofs.Common.{sym, subst}
use Rattle.wb_desk.specs.Sharing.{HasArrived}
use Rattle.wb_desk.specs.declared.desk.sharing.Arrival.{Arrival}
use Rattle.wb_tasks.specs.declared.step.Got.{Got}
use Rattle.wb_stage.specs.Stages.{DidArrive}
use Rattle.wb_stage.proofs.Leading.{led}
use Rattle.wb_stage.proofs.asking.arrive.Goals as goal

pub returns-in-Ok-Lead-clause-did : goal.returns-in-Ok-Lead-clause-did
returns-in-Ok-Lead-clause-did g c = subst (λ (got : Got). DidArrive c.args.most got c.args.desk.now c.args.commit.now c.arrive.new.self c.lead.new.commit) (sym c.lead.ensures.got)
    (led g.P.Policy.hint_of c.args.most c.args.desk.now c.arrive.new.self c.args.commit.now c.lead.new.commit c.in-Ok-Lead.image (subst (λ (arrival : Arrival). HasArrived g.P.Policy.hint_of c.args.desk.now arrival c.arrive.new.self) c.in-Ok-Lead.field-0-is c.in-Ok-Lead.ensures.ok) c.lead.ensures.commit)
