use Rattle.std.proofs.Common.{List, length, ◌<◌, subst}
use Rattle.wb_types.specs.declared.number.OBlock.{OBlock}
use Rattle.wb_tasks.specs.declared.step.Got.TheVariants.{Done}
use Rattle.wb_flow.proofs.Requests.{comes_to, gave_up, undone}
use Rattle.wb_flow.proofs.committing.CommitTaskSteps.after_done.Goals as goal

pub returns-then-self-as_slice : goal.returns-then-self-as_slice
returns-then-self-as_slice c = let t = c.self.inside in
    gave_up t c.in-GivesUp.field-0 c.in-GivesUp.is (subst (λ (xs : List OBlock). t.past < length xs) c.as_slice.ensures.value c.if-self-as_slice.true) c.self.view_is

pub returns-in_default : goal.returns-in_default
returns-in_default c = absurd (undone c.self.inside.phase c.in_default.not-Commits c.in_default.not-SetsSuspended c.in_default.not-GivesUp c.in_default.not-SetsFailed c.in_default.not-BreaksCommits (comes_to c.self.inside Done c.self.view_is c.requires))
