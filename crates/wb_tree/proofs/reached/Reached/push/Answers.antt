use Rattle.std.proofs.Common.{◌∙◌, sym, ap, cond, true, nat_eq, ◌++◌, ◌∷◌, []}
use Rattle.wb_types.specs.declared.number.Place.{Place}
use Rattle.wb_tree.specs.Reading.{is_one_at}
use Rattle.wb_tree.proofs.Reading.ReachedLemmas.{is_one_at-push, ok_of}
use Rattle.wb_tree.proofs.reached.Reached.push.Goals as goal

pub invariant_of-self-2 : goal.invariant_of-self-2
invariant_of-self-2 g c place =
    let at = g.T.Standing.at in
    let update = ok_of _ c.insert.result (sym c.is_err.ensures.value ∙ c.if-is_err.false) c.insert.ensures.updates in
    let before = c.self.inside.items.items in
    update.0 place
    ∙ (ap (cond (nat_eq c.place-number.result.0 place) true) (c.self.invariant place)
    ∙ (ap (λ (p : Place). cond (nat_eq p.0 place) true (is_one_at at place before)) c.place-number.ensures
    ∙ (sym (is_one_at-push at place before c.args.item)
    ∙ ap (is_one_at at place) (ap (λ items. items ++ c.args.item ∷ []) (sym c.in_ok-reserve.ensures.items) ∙ sym c.push_reserved.ensures.items))))
