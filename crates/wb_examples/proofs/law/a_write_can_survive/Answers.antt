use Rattle.wb_examples.proofs.Surviving.{can_survive}
use Rattle.wb_examples.proofs.law.a_write_can_survive.Goals as goal

pub returns : goal.returns
returns g c = can_survive g.row.P.Denot g.row.A.Denot
