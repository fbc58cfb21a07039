use Rattle.std.proofs.Common.{◌≡◌, ◌≤◌, ◌∙◌, ℕ, List, Some, ap, length, subst, arith}
use Rattle.std.specs.Prelude.{slice_get}
use Rattle.std.proofs.lemmas.List.FromFn.{length-map-range_with_len}
use Rattle.wb_types.specs.declared.number.Place.{Place}
use Rattle.wb_tests_meta.proofs.FreePlaces.{numbers-from}
use Rattle.wb_tests_meta.proofs.dirty.planning.free_places.Goals as goal

pub returns-clause-many : goal.returns-clause-many
returns-clause-many c =
    let made : ℕ → Place = λ number. record { 0 = number } in
    ap length c.in_ok-places.ensures ∙ length-map-range_with_len made 4 60

pub returns-clause-behind : goal.returns-clause-behind
returns-clause-behind c i place h =
    let low : 4 ≤ place.0 = numbers-from 4 60 i place (subst (λ (ps : List Place). slice_get ps i ≡ Some place) c.in_ok-places.ensures h) in
    omega (arith, low)
