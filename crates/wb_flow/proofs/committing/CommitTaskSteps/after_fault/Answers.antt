use Rattle.std.proofs.Common.{◌∙◌, ap}
use Rattle.wb_tasks.specs.Plan.{want}
use Rattle.wb_tasks.specs.declared.step.Got.TheVariants.{Fault}
use Rattle.wb_tasks.proofs.Views.{by_view}
use Rattle.wb_flow.specs.declared.committing.Phase.{Phase}
use Rattle.wb_flow.proofs.Commits.{after_failing, first_of_closing}
use Rattle.wb_flow.proofs.Requests.{comes_to, in_phase, rest_of, sets_failed, unfailed}
use Rattle.wb_flow.proofs.committing.CommitTaskSteps.after_fault.Goals as goal

pub returns-in-Commits : goal.returns-in-Commits
returns-in-Commits c = let t = c.self.inside in
    by_view _ _ _ Fault c.self.view_is c.requires
    (after_failing (in_phase t t.phase (rest_of t)) c.in-Commits.commit c.device.result (sets_failed t.purpose t.blocks.items t.most)
    (ap (λ (p : Phase). want (in_phase t p (rest_of t))) c.in-Commits.is ∙ first_of_closing t.purpose c.in-Commits.commit) c.device.ensures)

pub returns-in_default : goal.returns-in_default
returns-in_default c = absurd (unfailed c.self.inside.phase c.in_default.not-Commits (comes_to c.self.inside Fault c.self.view_is c.requires))
