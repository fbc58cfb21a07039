use Rattle.wb_policy.proofs.Accesses.{counts_from_none}
use Rattle.wb_policy.proofs.law.accesses_law.Goals as goal

pub returns : goal.returns
returns c = counts_from_none
