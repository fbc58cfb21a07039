use Rattle.std.proofs.Common.{sym, ◌∙◌, arith}
use Rattle.wb_dirty.proofs.Steps.{names_node-is, index_first}
use Rattle.wb_dirty.proofs.children.Child.node.Goals as goal

pub overflow_cast-result : goal.overflow_cast-result
overflow_cast-result c =
    let named = names_node-is c.args.root.now c.args.reached.now c.args.self.now (sym c.is_named.ensures ∙ c.if-not-is_named.false) in
    let below = index_first c.args.self.now.index c.args.self.now.level c.args.root.now.geometry.cache_blocks named.below in
    let most = c.args.root.now.geometry.within.cache_to in
    omega arith
