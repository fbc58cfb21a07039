use Rattle.wb_examples.proofs.Excluding.{excludes_suspends}
use Rattle.wb_examples.proofs.law.promises_exclude_wrong_suspends.Goals as goal

pub returns : goal.returns
returns g c = excludes_suspends g.row.P.Denot g.row.A.Denot
