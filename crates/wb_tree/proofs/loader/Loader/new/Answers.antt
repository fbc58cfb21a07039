use Rattle.std.proofs.Common.{◌∙◌, sym, subst, List, None, [], false}
use Rattle.wb_tree.specs.declared.placed.PlacedNode.{PlacedNode}
use Rattle.wb_tree.specs.Loading.{IsFresh}
use Rattle.wb_tree.proofs.Reading.LoaderSteps.{top_node-is, outcome-new, found_same, grown_empty}
use Rattle.wb_tree.proofs.loader.Loader.new.Goals as goal

pub invariant_of-result : goal.invariant_of-result
invariant_of-result g c = record {
  ended = λ e. c.new-2.ensures.items;
  entries = sym c.resize.new.self.ok.0 ∙ c.in_ok-resize.ensures.len;
  mapped = sym c.resize-2.new.self.ok.0 ∙ c.in_ok-resize-2.ensures.len;
  level_from = λ node e. (top_node-is c.args.root.now node (sym c.top_of.ensures ∙ e)).from;
  level_to = λ node e. (top_node-is c.args.root.now node (sym c.top_of.ensures ∙ e)).to;
  told = λ place. None;
  goes_on = λ nodes agree. outcome-new _ nodes c.top_of.ensures c.new-2.ensures.items (found_same c.new.result [] c.resize.new.self.items _ c.resize-2.new.self.items _ c.new.ensures (c.in_ok-resize.ensures.items ∙ grown_empty c.new-entries.result.items c.new-entries.result.len c.args.root.now.geometry.cache_blocks None c.new-entries.ensures.items c.new-entries.ensures.len) (c.in_ok-resize-2.ensures.items ∙ grown_empty c.new-mapped.result.items c.new-mapped.result.len c.args.root.now.geometry.origin_blocks false c.new-mapped.ensures.items c.new-mapped.ensures.len));
  fresh = λ node e. subst (λ (reached : List PlacedNode). IsFresh c.args.root.now reached node.place) (sym c.new.ensures) (top_node-is c.args.root.now node (sym c.top_of.ensures ∙ e)).fresh;
}
