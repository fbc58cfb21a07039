use Rattle.wb_desk.proofs.Sharing.{served_by_later, served_stays, broken_stays, arriving_does, asking_does}
use Rattle.wb_desk.proofs.law.flushes_share_commits.Goals as goal

pub returns-clause-served : goal.returns-clause-served
returns-clause-served g c = λ d calls number are ticket served. served_by_later g.P.Policy.knows d calls number are ticket served

pub returns-clause-stays : goal.returns-clause-stays
returns-clause-stays g c = λ d calls number are served. served_stays g.P.Policy.knows d calls number are served

pub returns-clause-broken : goal.returns-clause-broken
returns-clause-broken g c = λ d calls are broken. broken_stays g.P.Policy.knows d calls are broken

pub returns-clause-arriving : goal.returns-clause-arriving
returns-clause-arriving g c = arriving_does g.P.Policy.hint_of

pub returns-clause-asking : goal.returns-clause-asking
returns-clause-asking g c = asking_does g.P.Policy.hint_of
