use Rattle.std.proofs.Common.{ap, ◌∙◌}
use Rattle.wb_cells.specs.declared.view.View.{View}
use Rattle.atomic_table.specs.Table.{Me}
use Rattle.std.proofs.Common.{ℕ}
use Rattle.wb_cells.specs.Views.{known_words}
use Rattle.wb_cells.proofs.Decoding.{decode_fresh}
use Rattle.wb_cells.proofs.Allowed.{crew_opened}
use Rattle.wb_cells.proofs.crew.Crew.new.Goals as goal

pub invariant_of-result : goal.invariant_of-result
invariant_of-result c = let e = c.in_ok-words.ensures in (e.1, crew_opened _ _ c.args.actors _ e.0 (ap (λ (m : Me ℕ View). m.0) e.2), ap (λ (m : Me ℕ View). m.1) e.2)

pub returns-clause-new : goal.returns-clause-new
returns-clause-new c = let e = c.in_ok-words.ensures in (
  e.0,
  ap (λ (m : Me ℕ View). known_words m.0) e.2 ∙ decode_fresh c.args.blocks,
  ap (λ (m : Me ℕ View). m.0.cards) e.2,
)
