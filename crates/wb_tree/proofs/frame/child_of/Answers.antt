use Rattle.std.proofs.Common.{◌-◌, sym, ◌∙◌, arith}
use Rattle.wb_tree.proofs.Reading.Steps.{names_child-is, index_below}
use Rattle.wb_tree.proofs.frame.child_of.Goals as goal

pub overflow_cast-result : goal.overflow_cast-result
overflow_cast-result c =
    let named = names_child-is c.args.root.now c.args.reached.now (c.args.parent.level - 1) _ c.args.word (sym c.is_child.ensures ∙ c.if-not-is_child.false) in
    let below = index_below _ (c.args.parent.level - 1) c.args.root.now.geometry.cache_blocks named.below in
    let most = c.args.root.now.geometry.within.cache_to in
    omega arith
