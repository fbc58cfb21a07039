use Rattle.wb_examples.proofs.Blocks.{can_promote}
use Rattle.wb_examples.proofs.law.a_block_can_be_promoted.Goals as goal

pub returns : goal.returns
returns g c = can_promote g.row.P.Denot g.row.A.Denot
