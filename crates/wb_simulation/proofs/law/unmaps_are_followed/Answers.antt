use Rattle.wb_simulation.proofs.Unmapping.{unmaps_followed}
use Rattle.wb_simulation.proofs.law.unmaps_are_followed.Goals as goal

pub returns : goal.returns
returns g = unmaps_followed
