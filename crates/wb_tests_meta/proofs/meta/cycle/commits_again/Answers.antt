use Rattle.std.proofs.Common.{sym, subst, List}
use Rattle.std.specs.Prelude.{Contains}
use Rattle.wb_types.specs.declared.number.Place.{Place}
use Rattle.wb_tree.proofs.Stored.Edited.{places-edited}
use Rattle.wb_tests_meta.proofs.meta.cycle.commits_again.Goals as goal

pub plan_at-requires-clause-used : goal.plan_at-requires-clause-used
plan_at-requires-clause-used c place is = subst (λ (places : List Place). Contains places place) (sym c.deref.ensures.value) (subst (λ (places : List Place). Contains places place) (sym c.in_ok-used.ensures.places) ((c.places.ensures.used.are place).1 (places-edited _ _ place c.change.ensures.edited is)))

pub plan_at-requires-clause-inside : goal.plan_at-requires-clause-inside
plan_at-requires-clause-inside c place is = c.requires.inside place (places-edited _ _ place c.change.ensures.edited is)
