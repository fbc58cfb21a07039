use Rattle.wb_runs.proofs.MetadataRuns.{run_finds}
use Rattle.wb_runs.proofs.law.metadata_keep_sizes.Goals as goal

pub returns : goal.returns
returns g c shape metadata hs f size run = run_finds g.row.P.Denot g.row.A.Denot shape metadata hs f size run
