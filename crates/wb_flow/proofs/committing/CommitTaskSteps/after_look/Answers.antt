use Rattle.std.proofs.Common.{List, length, ◌<◌, subst}
use Rattle.wb_types.specs.declared.number.OBlock.{OBlock}
use Rattle.wb_tasks.specs.declared.step.Got.TheVariants.{Word}
use Rattle.wb_flow.proofs.Requests.{comes_to, saw_one, unlooked}
use Rattle.wb_flow.proofs.committing.CommitTaskSteps.after_look.Goals as goal

pub returns-then-self-as_slice : goal.returns-then-self-as_slice
returns-then-self-as_slice c = let t = c.self.inside in
    saw_one t c.args.word c.in-Begins.is (subst (λ (xs : List OBlock). t.past < length xs) c.as_slice.ensures.value c.if-self-as_slice.true) c.self.view_is c.requires

pub returns-in_default : goal.returns-in_default
returns-in_default c = absurd (unlooked c.self.inside.phase c.args.word c.in_default.not-LooksAtFail c.in_default.not-Begins (comes_to c.self.inside (Word c.args.word) c.self.view_is c.requires))
