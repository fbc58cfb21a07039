use Rattle.wb_refines.proofs.Committing.{commit_steps_followed}
use Rattle.wb_refines.proofs.commit_steps_are_followed.Goals as goal

pub returns : goal.returns
returns g = commit_steps_followed
