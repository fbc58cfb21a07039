use Rattle.wb_examples.proofs.Blocks.{can_give_up}
use Rattle.wb_examples.proofs.law.a_replacement_can_be_given_up.Goals as goal

pub returns : goal.returns
returns g c = can_give_up g.row.P.Denot g.row.A.Denot
