use Rattle.wb_examples.proofs.Sharing.{can_share}
use Rattle.wb_examples.proofs.law.a_commit_can_be_shared.Goals as goal

pub returns : goal.returns
returns g c = can_share g.row.P.Denot g.row.A.Denot
