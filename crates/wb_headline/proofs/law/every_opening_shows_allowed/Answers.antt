use Rattle.wb_headline.proofs.Promise.{run_opens}
use Rattle.wb_headline.proofs.law.every_opening_shows_allowed.Goals as goal

pub returns : goal.returns
returns g c shape metadata hs f size run = run_opens g.row.P.Denot g.row.A.Denot shape metadata hs f size run
