use Rattle.std.proofs.Common.{ap, ◌∙◌}
use Rattle.wb_types.specs.Limits.{node_count, dirty_node_count}
use Rattle.wb_types.proofs.geometry.Geometry.dirty_node_count.Goals as goal

pub returns : goal.returns
unfolding dirty_node_count
returns c = c.count_nodes.ensures.value ∙ ap node_count c.div_ceil.ensures
