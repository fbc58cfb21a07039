use Rattle.wb_runs.proofs.LinkedRuns.{all_skip}
use Rattle.wb_runs.proofs.law.events_skip_rightly.Goals as goal

pub returns : goal.returns
returns g c shape metadata hs f size run = all_skip g.row.P.Denot g.row.A.Denot shape (Rattle.wb_promise.specs.States.start shape metadata) hs run
