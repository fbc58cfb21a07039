use Rattle.std.proofs.Common.{◌≤◌, ◌∙◌, sym, ap, subst, length, false}
use Rattle.std.specs.Prelude.{All}
use Rattle.std.proofs.lemmas.List.{length-replicate}
use Rattle.wb_tree.specs.declared.placed.PlacedNode.{PlacedNode}
use Rattle.wb_tree.proofs.Reading.LoaderSteps.{if_some}
use Rattle.wb_dirty.specs.Loading.{IsLevelOfChild, MayReach}
use Rattle.wb_dirty.proofs.Loads.{all_none}
use Rattle.wb_dirty.proofs.loader.DirtyLoader.new.Goals as goal

pub invariant_of-result : goal.invariant_of-result
invariant_of-result c = record {
  ended = λ e. c.new-2.ensures.items;
  levels = subst (All IsLevelOfChild) (sym c.new-2.ensures.items) (all_none IsLevelOfChild);
  mapped = c.requires;
  dirty = ap length c.in_ok-dirty.ensures ∙ length-replicate c.args.root.now.geometry.cache_blocks false;
  level_from = λ node. if_some (λ (n : PlacedNode). 1 ≤ n.level) c.in_ok-wanted.wanted node c.in_ok-wanted.ensures.level_from;
  level_to = λ node. if_some (λ (n : PlacedNode). n.level ≤ 3) c.in_ok-wanted.wanted node c.in_ok-wanted.ensures.level_to;
  fresh = λ node. if_some (λ (n : PlacedNode). MayReach c.args.root.now c.in_ok-reached.reached n.place) c.in_ok-wanted.wanted node c.in_ok-wanted.ensures.fresh;
}
