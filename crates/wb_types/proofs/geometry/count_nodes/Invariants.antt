use Rattle.std.proofs.Common.{◌≡◌, ◌≤◌, ◌*◌, ◌^◌}
use Rattle.wb_types.specs.Limits.{nodes_up_to}
use Rattle.wb_types.proofs.geometry.count_nodes.Given as goal

abbrev pub invariant-loop : goal.invariant-loop
invariant-loop l = record {
  span : l.span ≡ 32 ^ l.counter;
  nodes : l.nodes ≡ nodes_up_to l.counter l.cache_blocks;
  bound : l.nodes ≤ 1048577 * l.counter;
}
