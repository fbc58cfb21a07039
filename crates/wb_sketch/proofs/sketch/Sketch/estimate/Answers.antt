use Rattle.std.proofs.Common.{◌+◌, sym, ◌∙◌, ap}
use Rattle.wb_sketch.proofs.Steps.{estimate-known, estimate-new, least-is}
use Rattle.wb_sketch.proofs.sketch.Sketch.estimate.Goals as goal

pub returns-then-is_known-clause-value : goal.returns-then-is_known-clause-value
returns-then-is_known-clause-value c =
    ap (λ n. n + 1) (c.least-least.ensures.value ∙ least-is _ _ _ c.places.ensures.value) ∙ sym (estimate-known _ _ (sym c.is_known.ensures ∙ c.if-is_known.true))

pub returns-else-is_known-clause-value : goal.returns-else-is_known-clause-value
returns-else-is_known-clause-value c =
    c.least-least.ensures.value ∙ least-is _ _ _ c.places.ensures.value ∙ sym (estimate-new _ _ (sym c.is_known.ensures ∙ c.if-is_known.false))
