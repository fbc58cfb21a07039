use Rattle.std.proofs.Common.{sym, ◌∙◌, inl, inr}
use Rattle.std.proofs.lemmas.Bool.{OnTrue_from}
use Rattle.wb_types.specs.declared.version.Version.TheVariants.{One, Two}
use Rattle.wb_checks.specs.Fronts.{IsBlank}
use Rattle.wb_checks.proofs.Fronts.{node_found}
use Rattle.wb_checks.proofs.front.is_blank_sector.Goals.{then-are_zeros, else-are_zeros}
use Rattle.wb_checks.proofs.front.is_blank_sector.Goals as goal

pub returns-then-is_some-clause-blank : goal.returns-then-is_some-clause-blank
returns-then-is_some-clause-blank c = OnTrue_from c.if-are_zeros.value (IsBlank c.args.content.now) (λ yes. elim c.if-are_zeros.branch [
  | then-are_zeros w ↦ inl (c.are_zeros.ensures.0 w.if-are_zeros.true)
  | else-are_zeros w ↦ inr (node_found One c.args.content.now w.read.result w.read.ensures.found (sym w.is_some.ensures ∙ (sym w.value-is ∙ yes)))
])

pub returns-else-is_some-clause-blank : goal.returns-else-is_some-clause-blank
returns-else-is_some-clause-blank c = OnTrue_from c.is_some-else-is_some.result (IsBlank c.args.content.now) (λ yes.
    inr (node_found Two c.args.content.now c.read-else-is_some.result c.read-else-is_some.ensures.found (sym c.is_some-else-is_some.ensures ∙ yes)))
