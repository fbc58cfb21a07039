use Rattle.wb_simulation.proofs.Possible.{can_agree}
use Rattle.wb_simulation.proofs.law.a_state_can_agree.Goals as goal

pub returns : goal.returns
returns g = can_agree
