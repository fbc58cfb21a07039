use Rattle.wb_desk.proofs.Acting.{opening_begins, calls_follow}
use Rattle.wb_desk.proofs.law.calls_are_acts.Goals as goal

pub returns-clause-opening : goal.returns-clause-opening
returns-clause-opening g c = opening_begins

pub returns-clause-calls : goal.returns-clause-calls
returns-clause-calls g c = λ d calls images a are r s i. calls_follow g.P.Policy.knows d calls images a are r s i
