use Rattle.std.proofs.Common.{arith}
use Rattle.wb_types.specs.Limits.{dirty_node_count}
use Rattle.wb_machine.proofs.Nodes.{both_few}
use Rattle.wb_machine.proofs.limits.most_for.Goals as goal

pub overflow_add-result : goal.overflow_add-result
overflow_add-result c =
    let g = c.args.geometry.now in
    let few = both_few g.cache_blocks g.within.cache_to in
    omega (arith, few, c.node_count-nodes.ensures.value, c.dirty_node_count.ensures)
