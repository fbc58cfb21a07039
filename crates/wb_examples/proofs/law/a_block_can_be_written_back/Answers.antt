use Rattle.wb_examples.proofs.Blocks.{can_write_back}
use Rattle.wb_examples.proofs.law.a_block_can_be_written_back.Goals as goal

pub returns : goal.returns
returns g c = can_write_back g.row.P.Denot g.row.A.Denot
