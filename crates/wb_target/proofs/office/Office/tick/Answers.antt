use Rattle.std.proofs.Common.{◌∙◌, subst, sym}
use Rattle.std.specs.List.{Contains}
use Rattle.wb_desk.specs.Desks.{holdings}
use Rattle.wb_policy.specs.Law.{IsMappedAt}
use Rattle.wb_target.specs.Offices.{OfficeState}
use Rattle.wb_target.proofs.Desking.{ticked_keeps}
use Rattle.wb_target.proofs.office.Office.tick.Goals as goal

pub tick-requires-clause-mapped : goal.tick-requires-clause-mapped
tick-requires-clause-mapped g c at block has =
    subst (λ (office : OfficeState g.row.P.Denot). IsMappedAt (holdings office.desk) block.0 at.0) (sym c.self.view_is)
    (subst (λ desk. IsMappedAt (holdings desk) block.0 at.0) (sym c.dirty_blocks.ensures.desk)
    (c.in_ok-dirty.ensures.seen.mapped at block (subst (λ seen. Contains seen (at, block)) c.as_slice.ensures.value has)))

pub invariant_of-self : goal.invariant_of-self
invariant_of-self g c = ticked_keeps g.P.Policy.cleaned g.P.Policy.ticked _ _ _ _ _ c.tick.ensures.ticked ∙ c.self.invariant
