use Rattle.std.proofs.Common.{sym, ◌∙◌, ap}
use Rattle.wb_sketch.specs.Frequencies.{counted}
use Rattle.wb_sketch.proofs.Steps.{accessed-known, accessed-new}
use Rattle.wb_sketch.proofs.sketch.Sketch.add.Goals.{then-is_known, else-is_known}
use Rattle.wb_sketch.proofs.sketch.Sketch.add.Goals as goal

pub returns : goal.returns
returns c =
    elim c.if-is_known.branch [
      | then-is_known w ↦ c.count.ensures ∙ ap counted (w.self-is ∙ w.raise.ensures) ∙ accessed-known _ _ (sym c.is_known.ensures ∙ w.if-is_known.true)
      | else-is_known w ↦ c.count.ensures ∙ ap counted (w.self-is ∙ w.admit.ensures) ∙ accessed-new _ _ (sym c.is_known.ensures ∙ w.if-is_known.false)
    ]
