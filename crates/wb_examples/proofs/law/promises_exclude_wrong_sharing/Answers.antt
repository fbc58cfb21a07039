use Rattle.wb_examples.proofs.Excluding.{excludes_sharing}
use Rattle.wb_examples.proofs.law.promises_exclude_wrong_sharing.Goals as goal

pub returns : goal.returns
returns g c = excludes_sharing g.row.P.Denot g.row.A.Denot
