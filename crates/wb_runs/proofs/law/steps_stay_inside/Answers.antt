use Rattle.wb_runs.proofs.InsideRuns.{run_inside}
use Rattle.wb_runs.proofs.law.steps_stay_inside.Goals as goal

pub returns : goal.returns
returns g c shape metadata hs f size run = run_inside g.row.P.Denot g.row.A.Denot shape metadata hs f size run
