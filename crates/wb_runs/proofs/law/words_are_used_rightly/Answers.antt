use Rattle.wb_runs.proofs.Using.{run_used}
use Rattle.wb_runs.proofs.law.words_are_used_rightly.Goals as goal

pub returns : goal.returns
returns g c shape metadata hs f size run = run_used g.row.P.Denot g.row.A.Denot shape metadata hs f size run
