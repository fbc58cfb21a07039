use Rattle.wb_examples.proofs.Suspending.{can_stay_clean}
use Rattle.wb_examples.proofs.law.a_block_can_stay_clean.Goals as goal

pub returns : goal.returns
returns g c = can_stay_clean g.row.P.Denot g.row.A.Denot
