use Rattle.wb_contents.proofs.Witness.{two_lives_run, a_third_life_runs}
use Rattle.wb_contents.proofs.conditions_can_be_met.Goals as goal

pub returns : goal.returns
returns c = record { two_lives = two_lives_run; a_third_life = a_third_life_runs }
