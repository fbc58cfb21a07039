use Rattle.wb_headline.proofs.Promise.{run_seals}
use Rattle.wb_headline.proofs.law.seals_tell_places.Goals as goal

pub returns : goal.returns
returns g c shape metadata hs f size run = run_seals g.row.P.Denot g.row.A.Denot shape metadata hs f size run
