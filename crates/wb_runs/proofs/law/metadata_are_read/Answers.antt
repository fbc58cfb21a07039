use Rattle.wb_runs.proofs.MetadataRuns.{run_read}
use Rattle.wb_runs.proofs.law.metadata_are_read.Goals as goal

pub returns : goal.returns
returns g c shape metadata hs f size run = run_read g.row.P.Denot g.row.A.Denot shape metadata hs f size run
