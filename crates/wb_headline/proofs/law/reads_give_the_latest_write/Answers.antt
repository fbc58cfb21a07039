use Rattle.wb_headline.proofs.Promise.{run_reads}
use Rattle.wb_headline.proofs.law.reads_give_the_latest_write.Goals as goal

pub returns : goal.returns
returns g c shape metadata hs f size run = run_reads g.row.P.Denot g.row.A.Denot shape metadata hs f size run
