use Rattle.std.proofs.Common.{Some, true, sym, subst}
use Rattle.wb_desk.specs.Commits.{HasBegun}
use Rattle.wb_tasks.specs.declared.step.Got.{Got}
use Rattle.wb_stage.specs.Stages.{DidBeginWith}
use Rattle.wb_stage.proofs.Leading.{begun}
use Rattle.wb_stage.proofs.asking.begin_commit.Goals as goal

pub returns-in-Ok-clause-did : goal.returns-in-Ok-clause-did
returns-in-Ok-clause-did g c = subst (λ (got : Got). DidBeginWith g.P.Policy.hint_of c.args.seen.now c.args.most got c.args.desk.now c.args.commit.now c.begin_commit.new.self c.lead.new.commit) (sym c.lead.ensures.got)
    (begun true (λ old i now. HasBegun g.P.Policy.hint_of (Some c.args.seen.now) old i now) c.args.most c.args.desk.now c.begin_commit.new.self c.args.commit.now c.lead.new.commit c.in-Ok.image c.in-Ok.ensures.begun c.lead.ensures.commit)
