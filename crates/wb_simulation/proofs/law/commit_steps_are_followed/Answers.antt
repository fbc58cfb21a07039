use Rattle.wb_simulation.proofs.Commits.{commit_steps_followed}
use Rattle.wb_simulation.proofs.law.commit_steps_are_followed.Goals as goal

pub returns : goal.returns
returns g = commit_steps_followed
