use Rattle.wb_simulation.proofs.Opening.{openings_followed}
use Rattle.wb_simulation.proofs.law.openings_are_followed.Goals as goal

pub returns : goal.returns
returns g = openings_followed
