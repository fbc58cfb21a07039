use Rattle.std.proofs.Common.{subst, sym}
use Rattle.wb_tasks.specs.Plan.{Plan, want, Fits}
use Rattle.wb_flow.proofs.Opening.{reads_alone}
use Rattle.wb_flow.proofs.open.OpenTaskSteps.after_rare.Goals as goal

pub returns-in_default : goal.returns-in_default
returns-in_default c =
    let t = c.self.inside in
    let got = c.args.got in
    absurd (reads_alone t.more t.phase got c.in_default.not-Reads c.requires.rare (subst (λ (s : Plan). Fits (want s) got) (sym c.self.view_is) c.requires.fits))
