use Rattle.wb_examples.proofs.Excluding.{excludes}
use Rattle.wb_examples.proofs.law.promises_exclude_wrong_answers.Goals as goal

pub returns : goal.returns
returns g c = excludes g.row.P.Denot g.row.A.Denot
