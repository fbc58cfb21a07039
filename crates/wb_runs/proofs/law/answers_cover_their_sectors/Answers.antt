use Rattle.wb_runs.proofs.LinkedRuns.{run_covers}
use Rattle.wb_runs.proofs.law.answers_cover_their_sectors.Goals as goal

pub returns : goal.returns
returns g c shape metadata hs f size run = run_covers g.row.P.Denot g.row.A.Denot shape metadata hs f size run
