use Rattle.std.proofs.Common.{subst, sym}
use Rattle.wb_tasks.specs.Plan.{Plan, want, Fits}
use Rattle.wb_tasks.specs.declared.step.Got.TheVariants.{Word}
use Rattle.wb_flow.proofs.Opening.{no_look}
use Rattle.wb_flow.proofs.open.OpenTaskSteps.after_look.Goals as goal

pub returns : goal.returns
returns c =
    let t = c.self.inside in
    let word = c.args._word in
    absurd (no_look t.more t.phase word (subst (λ (s : Plan). Fits (want s) (Word word)) (sym c.self.view_is) c.requires))
