use Rattle.wb_examples.proofs.Runs.{can_open}
use Rattle.wb_examples.proofs.law.a_target_can_be_opened.Goals as goal

pub returns : goal.returns
returns g c = can_open g.row.P.Denot g.row.A.Denot
