use Rattle.std.proofs.Common.{◌≡◌, ◌+◌, ◌*◌, ◌^◌, arith, refl, sym}
use Rattle.std.specs.Int.{div_ceil}
use Rattle.wb_types.proofs.Counting.{span_below, nodes_up_to-zero, nodes_up_to-more, node_count-levels, div_ceil-le}
use Rattle.wb_types.proofs.geometry.count_nodes.Goals as goal

pub loop-init : goal.loop-init
loop-init c = record { span = refl; nodes = sym (nodes_up_to-zero _); bound = omega arith }

pub overflow_mul-span : goal.overflow_mul-span
overflow_mul-span c = rw c.loop.invariant.span (omega (arith, span_below c.loop.counter (omega arith)))

pub div_ceil-nodes-requires : goal.div_ceil-nodes-requires
div_ceil-nodes-requires c = rw c.loop.invariant.span (omega (arith, span_below c.loop.counter (omega arith)))

pub loop-preserved : goal.loop-preserved
loop-preserved c =
    let below = span_below c.loop.counter (omega arith) in
    let span : c.loop.span * 32 ≡ 32 ^ (c.loop.counter + 1) = rw c.loop.invariant.span below.0 in
    let more : c.div_ceil-nodes.result ≡ div_ceil c.args.cache_blocks (32 ^ (c.loop.counter + 1)) = rw (← span) c.div_ceil-nodes.ensures in
    record {
      span = span;
      nodes = rw (nodes_up_to-more, ← more, ← c.loop.invariant.nodes) refl;
      bound = rw more (omega (arith, div_ceil-le c.args.cache_blocks (32 ^ (c.loop.counter + 1))));
    }

pub returns-clause-value : goal.returns-clause-value
returns-clause-value c =
    let depth : c.loop.counter ≡ c.levels-depth.result = omega arith in
    rw (c.loop.invariant.nodes, depth, c.levels-depth.ensures.value) (node_count-levels _)
