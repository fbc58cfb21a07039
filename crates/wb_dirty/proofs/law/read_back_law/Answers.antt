use Rattle.wb_dirty.proofs.ReadBack.{plan-is-read-back, taken-may}
use Rattle.wb_dirty.proofs.law.read_back_law.Goals as goal

pub returns-clause-read : goal.returns-clause-read
returns-clause-read c = plan-is-read-back

pub returns-clause-places : goal.returns-clause-places
returns-clause-places c = taken-may
