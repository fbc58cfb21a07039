use Rattle.wb_headline.proofs.Promise.{run_consistent}
use Rattle.wb_headline.proofs.law.every_crash_is_consistent.Goals as goal

pub returns : goal.returns
returns g c shape metadata hs f size run = run_consistent g.row.P.Denot g.row.A.Denot shape metadata hs f size run
