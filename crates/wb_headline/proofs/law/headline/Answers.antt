use Rattle.wb_headline.proofs.Promise.{run_promises}
use Rattle.wb_headline.proofs.law.headline.Goals as goal

pub returns : goal.returns
returns g c shape metadata hs f size run = run_promises g.row.P.Denot g.row.A.Denot shape metadata hs f size run
