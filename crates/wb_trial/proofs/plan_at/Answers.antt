use Rattle.std.proofs.Common.{◌≡◌, ◌∙◌, ◌≤◌, ◌+◌, ap, sym, subst, arith, length, List}
use Rattle.std.specs.Prelude.{All, Contains}
use Rattle.std.proofs.lemmas.List.Elements.{All-contains}
use Rattle.wb_types.specs.Limits.{depth_of}
use Rattle.wb_types.specs.declared.number.Place.{Place}
use Rattle.wb_tree.specs.Mapping.{changed}
use Rattle.wb_trial.proofs.OwnTrees.{own-mapping, places-free}
use Rattle.wb_trial.proofs.plan_at.Goals as goal

pub plan-requires-clause-mapping : goal.plan-requires-clause-mapping
plan-requires-clause-mapping c = own-mapping c.args.geometry.now.cache_blocks c.args.geometry.now.origin_blocks c.args.tree.now.entries c.requires.size c.requires.origin c.requires.own

pub plan-requires-clause-free : goal.plan-requires-clause-free
plan-requires-clause-free c =
    let count = c.changed_nodes-count.result in
    let outside : All (λ place. c.args.first ≤ place.0 → c.args.first + count ≤ place.0) c.deref.result.now = c.are_outside.ensures c.if-not-are_outside.false in
    let many : count ≡ length (changed c.args.tree.now (depth_of c.args.geometry.now.cache_blocks)) =
    c.changed_nodes-count.ensures ∙ ap (λ n. length (changed c.args.tree.now (depth_of n))) c.requires.size in
    places-free c.args.tree.now c.args.geometry.now c.args.first count c.deref-2.result.now (c.deref-2.ensures.value ∙ c.in_ok-places.ensures)
    (λ place is. All-contains (λ (place : Place). c.args.first ≤ place.0 → c.args.first + count ≤ place.0) c.deref.result.now place outside
    (subst (λ (ps : List Place). Contains ps place) (sym (c.deref.ensures.value ∙ c.in_ok-used.ensures.places)) ((c.places.ensures.used.are place).1 is)))
    c.requires.first (omega (arith, many)) (omega arith)
