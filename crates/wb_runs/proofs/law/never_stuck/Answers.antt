use Rattle.wb_runs.proofs.Free.{run_free}
use Rattle.wb_runs.proofs.law.never_stuck.Goals as goal

pub returns : goal.returns
returns g c policy reading begins shape metadata hs f size run = run_free g.row.P.Denot g.row.A.Denot shape policy reading begins metadata hs f size run
