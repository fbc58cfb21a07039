use Rattle.wb_examples.proofs.Blocks.{can_demote}
use Rattle.wb_examples.proofs.law.a_block_can_be_demoted.Goals as goal

pub returns : goal.returns
returns g c = can_demote g.row.P.Denot g.row.A.Denot
