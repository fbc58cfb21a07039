use Rattle.wb_desk.proofs.Safe.{opened_safe, begun_does, calls_safe, quarantine_stays, mapped_does, unmapped_does, told_does, released_does}
use Rattle.wb_desk.proofs.law.images_stay_safe.Goals as goal

pub returns-clause-opening : goal.returns-clause-opening
returns-clause-opening g c = opened_safe

pub returns-clause-calls : goal.returns-clause-calls
returns-clause-calls g c = λ d calls images are safe. calls_safe g.P.Policy.knows d calls images are safe

pub returns-clause-quarantine : goal.returns-clause-quarantine
returns-clause-quarantine g c = λ d new call i does k. quarantine_stays g.P.Policy.knows d new call i does k

pub returns-clause-beginning : goal.returns-clause-beginning
returns-clause-beginning g c = λ d new clean image begun. begun_does g.P.Policy.hint_of clean d image new begun

pub returns-clause-mapping : goal.returns-clause-mapping
returns-clause-mapping g c = mapped_does g.P.Policy.with_entry

pub returns-clause-unmapping : goal.returns-clause-unmapping
returns-clause-unmapping g c = unmapped_does g.P.Policy.without_entry

pub returns-clause-telling : goal.returns-clause-telling
returns-clause-telling g c = told_does g.P.Policy.with_setting

pub returns-clause-taking : goal.returns-clause-taking
returns-clause-taking g c = λ d new is. is

pub returns-clause-reserving : goal.returns-clause-reserving
returns-clause-reserving g c = λ d new k order may is. (may, is)

pub returns-clause-releasing : goal.returns-clause-releasing
returns-clause-releasing g c = released_does

pub returns-clause-ending : goal.returns-clause-ending
returns-clause-ending g c = λ d new runs is. (runs, is)

pub returns-clause-breaking : goal.returns-clause-breaking
returns-clause-breaking g c = λ d new is. is
