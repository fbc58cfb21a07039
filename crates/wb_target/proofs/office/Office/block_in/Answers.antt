use Rattle.std.proofs.Common.{◌≤◌, ◌∙◌, inl, inr, refl, ap, subst, arith}
use Rattle.wb_types.specs.declared.geometry.Geometry.{Geometry}
use Rattle.wb_target.specs.Invalidates.{block_within}
use Rattle.wb_target.proofs.office.Office.block_in.Goals as goal

pub returns-then-place-geometry-clause-found : goal.returns-then-place-geometry-clause-found
returns-then-place-geometry-clause-found g c = (c.self.inside.desk, inl (subst (λ (geometry : Geometry). geometry.cache_blocks ≤ c.args.place.0) c.geometry.ensures (omega (arith, c.if-place-geometry.true)), refl))

pub returns-clause-found : goal.returns-clause-found
returns-clause-found g c = (c.self.inside.desk, inr (c.block_within.ensures.listed ∙ ap (λ entry. block_within c.args.blocks entry) c.entry.ensures))
