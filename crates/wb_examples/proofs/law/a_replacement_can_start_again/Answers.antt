use Rattle.wb_examples.proofs.Blocks.{can_start_again}
use Rattle.wb_examples.proofs.law.a_replacement_can_start_again.Goals as goal

pub returns : goal.returns
returns g c = can_start_again g.row.P.Denot g.row.A.Denot
