use Rattle.wb_examples.proofs.Runs.{can_flush}
use Rattle.wb_examples.proofs.law.a_flush_can_be_done.Goals as goal

pub returns : goal.returns
returns g c = can_flush g.row.P.Denot g.row.A.Denot
