use Rattle.std.proofs.Common.{◌≡◌, ◌∙◌, ◌||◌, Bool, ap, sym}
use Rattle.wb_words.specs.SharedWords.{flag}
use Rattle.wb_cells.specs.Crews.{CrewState}
use Rattle.wb_machine.specs.Serving.{sets_bit}
use Rattle.wb_machine.proofs.Flags.{flag_after}
use Rattle.wb_machine.proofs.target.Target.take.Goals as goal
use Rattle.wb_machine.proofs.target.Target.take.Goals.{then-self, else-self}

pub returns-clause-failed : goal.returns-clause-failed
returns-clause-failed c =
    let step = c.args.step in
    let flags : c.if-self.self ≡ c.args.self.now.failed || sets_bit step = elim c.if-self.branch [
      | then-self w ↦ w.self-is ∙ w.if-self.true ∙ sym (ap (λ (b : Bool). b || sets_bit step) w.if-self.true)
      | else-self w ↦ w.self-is ∙ w.sets_bit-self.ensures ∙ sym (ap (λ (b : Bool). b || sets_bit step) w.if-self.false)
    ] in
    flags ∙ flag_after c.args.self.now.crew.words step c.args.self.now.failed c.requires.failed ∙ sym (ap (λ (k : CrewState). flag k.words.fail) c.step.ensures.crew)
