use Rattle.wb_examples.proofs.Blocks.{can_replace}
use Rattle.wb_examples.proofs.law.a_block_can_be_replaced.Goals as goal

pub returns : goal.returns
returns g c = can_replace g.row.P.Denot g.row.A.Denot
