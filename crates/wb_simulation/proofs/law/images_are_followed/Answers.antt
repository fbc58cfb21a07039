use Rattle.wb_simulation.proofs.Opening.{images_followed}
use Rattle.wb_simulation.proofs.law.images_are_followed.Goals as goal

pub returns : goal.returns
returns g = images_followed
