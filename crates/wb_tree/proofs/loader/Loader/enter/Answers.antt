use Rattle.std.proofs.Common.{◌≡◌, ◌≤◌, ◌∙◌, sym, ap, subst, refl, List, ◌++◌, ◌∷◌, [], Some, false, reverse}
use Rattle.wb_tree.specs.declared.placed.PlacedNode.{PlacedNode}
use Rattle.wb_tree.specs.Reading.{is_reached}
use Rattle.wb_tree.specs.Loading.{Loading, IsFresh, AgreeAt, loading_of, found_with, frames_rest}
use Rattle.wb_tree.proofs.Reading.LoaderSteps.{told_also, told_before, outcome-wanted, if_some}
use Rattle.wb_tree.proofs.loader.Loader.enter.Goals as goal

pub invariant_of-result : goal.invariant_of-result
invariant_of-result g c =
    let l : Loading = loading_of c.self.inside.root c.self.inside.reached c.self.inside.entries.items c.self.inside.mapped.items c.self.inside.frames.items c.self.inside.wanted in
    let wanted : l.wanted ≡ Some c.args.wanted = subst (λ (m : Loading). m.wanted ≡ Some c.args.wanted) (sym c.self.view_is) c.requires.wanted in
    let unread : is_reached c.args.wanted.place.0 l.found.reached ≡ false = (c.self.invariant.fresh c.args.wanted wanted).unread in
    let pushed : c.push.new.self ≡ l.found.reached ++ c.args.wanted ∷ [] = c.in_ok-push.ensures.ok in
    record {
      ended = c.in-Ok.ensures.ended;
      entries = c.in_ok-take_in.ensures.entries ∙ c.self.invariant.entries;
      mapped = c.in_ok-take_in.ensures.mapped ∙ c.self.invariant.mapped;
      level_from = λ node. if_some (λ (n : PlacedNode). 1 ≤ n.level) c.in-Ok.wanted node c.in-Ok.ensures.level_from;
      level_to = λ node. if_some (λ (n : PlacedNode). n.level ≤ 4) c.in-Ok.wanted node c.in-Ok.ensures.level_to;
      fresh = λ node. if_some (λ (n : PlacedNode). IsFresh c.self.inside.root c.push.new.self n.place) c.in-Ok.wanted node c.in-Ok.ensures.fresh;
      told = told_also c.self.invariant.told c.args.wanted.place c.args.node.now;
      goes_on = λ nodes agree.
          let before = told_before c.self.invariant.told nodes l.found.reached c.args.wanted c.args.node.now unread
          (subst (λ (reached : List PlacedNode). AgreeAt reached (told_also c.self.invariant.told c.args.wanted.place c.args.node.now) nodes) pushed agree) in
          sym (c.in-Ok.ensures.goes_on nodes (found_with c.push.new.self c.take_in.new.entries.items c.take_in.new.mapped.items) refl)
          ∙ (ap (λ (reached : List PlacedNode). frames_rest c.self.inside.root nodes (reverse c.take_in.new.frames.items) (found_with reached c.take_in.new.entries.items c.take_in.new.mapped.items)) pushed
          ∙ (sym (c.in_ok-take_in.ensures.ok nodes l.found.reached before.1)
          ∙ (sym (outcome-wanted l c.args.wanted nodes wanted) ∙ c.self.invariant.goes_on nodes before.0)));
    }
