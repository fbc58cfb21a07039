use Rattle.wb_simulation.proofs.Moving.{extent_steps_followed}
use Rattle.wb_simulation.proofs.law.extent_steps_are_followed.Goals as goal

pub returns : goal.returns
returns g = extent_steps_followed
