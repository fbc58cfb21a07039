use Rattle.wb_simulation.proofs.Opened.{opened_followed}
use Rattle.wb_simulation.proofs.law.opened_targets_are_followed.Goals as goal

pub returns : goal.returns
returns g = opened_followed
