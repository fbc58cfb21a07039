use Rattle.wb_examples.proofs.PassingBy.{can_pass_through}
use Rattle.wb_examples.proofs.law.a_block_can_be_passed_by.Goals as goal

pub returns : goal.returns
returns g c = can_pass_through g.row.P.Denot g.row.A.Denot
