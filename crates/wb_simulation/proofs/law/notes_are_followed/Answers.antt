use Rattle.wb_simulation.proofs.Noted.{notes_followed}
use Rattle.wb_simulation.proofs.law.notes_are_followed.Goals as goal

pub returns : goal.returns
returns g = notes_followed
