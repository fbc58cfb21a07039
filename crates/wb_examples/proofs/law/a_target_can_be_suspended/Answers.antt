use Rattle.wb_examples.proofs.Suspending.{can_suspend}
use Rattle.wb_examples.proofs.law.a_target_can_be_suspended.Goals as goal

pub returns : goal.returns
returns g c = can_suspend g.row.P.Denot g.row.A.Denot
