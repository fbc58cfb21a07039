use Rattle.wb_examples.proofs.Through.{can_write_through}
use Rattle.wb_examples.proofs.law.a_block_can_be_written_through.Goals as goal

pub returns : goal.returns
returns g c = can_write_through g.row.P.Denot g.row.A.Denot
