use Rattle.std.proofs.Common.{ap, ◌∙◌}
use Rattle.wb_types.specs.Limits.{node_count, dirty_node_count}
use Rattle.wb_types.proofs.geometry.count_dirty_nodes.Goals as goal

pub returns-in-Two-clause-value : goal.returns-in-Two-clause-value
unfolding dirty_node_count
returns-in-Two-clause-value c = rw c.in-Two.is (c.count_nodes.ensures.value ∙ ap node_count c.div_ceil.ensures)
