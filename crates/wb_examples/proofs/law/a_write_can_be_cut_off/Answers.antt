use Rattle.wb_examples.proofs.Through.{can_write_half}
use Rattle.wb_examples.proofs.law.a_write_can_be_cut_off.Goals as goal

pub returns : goal.returns
returns g c = can_write_half g.row.P.Denot g.row.A.Denot
