use Rattle.std.proofs.Common.{sym, subst}
use Rattle.wb_tasks.specs.Ready.{StaysReady}
use Rattle.wb_tasks.specs.Tables.{OnBlock}
use Rattle.wb_tasks.specs.Plan.{table}
use Rattle.wb_port.specs.Requests.{ComesTo}
use Rattle.wb_port.proofs.Onward.{one_part}
use Rattle.wb_port.proofs.serving.serve_part.Goals as goal

pub request-requires-clause-stays : goal.request-requires-clause-stays
request-requires-clause-stays g c = subst (λ job. StaysReady g.S.Stage.ready g.S.Stage.led (table (OnBlock job)) c.args.stage.now) (one_part c.args.way _ c.if-sectors-ge1.true c.if-sectors-le-LONGEST.true) c.requires.stays

pub returns-then-sectors-le-LONGEST : goal.returns-then-sectors-le-LONGEST
returns-then-sectors-le-LONGEST g c = subst (λ job. ComesTo g.S.Stage.led (table (OnBlock job)) c.args.stage.now c.request.result c.request.new.stage) (sym (one_part c.args.way _ c.if-sectors-ge1.true c.if-sectors-le-LONGEST.true)) c.request.ensures
