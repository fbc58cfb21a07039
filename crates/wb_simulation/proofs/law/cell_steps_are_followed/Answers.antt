use Rattle.wb_simulation.proofs.Followed.{cell_steps_followed}
use Rattle.wb_simulation.proofs.law.cell_steps_are_followed.Goals as goal

pub returns : goal.returns
returns g = cell_steps_followed
