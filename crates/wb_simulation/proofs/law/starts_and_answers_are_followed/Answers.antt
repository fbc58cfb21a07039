use Rattle.wb_simulation.proofs.Starting.{starts_followed}
use Rattle.wb_simulation.proofs.Ending.{answers_followed}
use Rattle.wb_simulation.proofs.law.starts_and_answers_are_followed.Goals as goal

pub returns : goal.returns
returns g = record { starts = starts_followed; answers = answers_followed }
