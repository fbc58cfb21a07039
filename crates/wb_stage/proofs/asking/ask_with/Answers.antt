use Rattle.std.proofs.Common.{sym, subst}
use Rattle.wb_desk.specs.Sharing.{HasAsked}
use Rattle.wb_desk.specs.declared.desk.sharing.Asked.{Asked}
use Rattle.wb_tasks.specs.declared.step.Got.{Got}
use Rattle.wb_stage.specs.Stages.{DidAskWith}
use Rattle.wb_stage.specs.declared.share.Share.TheVariants.{Waiting}
use Rattle.wb_stage.proofs.Leading.{led}
use Rattle.wb_stage.proofs.asking.ask_with.Goals as goal

pub returns-in-Ok-Lead-clause-did : goal.returns-in-Ok-Lead-clause-did
returns-in-Ok-Lead-clause-did g c =
    let asked = subst (λ (asked : Asked). HasAsked g.P.Policy.hint_of c.args.desk.now c.args.ticket asked c.ask.new.self) c.in-Ok-Lead.field-0-is c.in-Ok-Lead.ensures.ok in
    subst (λ (got : Got). DidAskWith (Waiting c.args.ticket) c.args.most got c.args.desk.now c.args.commit.now c.ask.new.self c.lead.new.commit) (sym c.lead.ensures.got)
    (asked.0, led g.P.Policy.hint_of c.args.most c.args.desk.now c.ask.new.self c.args.commit.now c.lead.new.commit c.in-Ok-Lead.image asked.1 c.lead.ensures.commit)
