use Rattle.wb_runs.proofs.LinkedRuns.{run_refuses}
use Rattle.wb_runs.proofs.law.openings_refuse_by_cause.Goals as goal

pub returns : goal.returns
returns g c shape metadata hs f size run = run_refuses g.row.P.Denot g.row.A.Denot shape metadata hs f size run
