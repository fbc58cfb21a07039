use Rattle.std.proofs.Common.{◌≤◌, ◌∙◌, sym, ap, subst, length}
use Rattle.wb_types.specs.Limits.{dirty_node_count, dirty_depth_of}
use Rattle.wb_dirty.specs.Planning.{dirty_below}
use Rattle.wb_dirty.proofs.PlanCounting.{names-few}
use Rattle.wb_dirty.proofs.counting.dirty_nodes_of.Goals as goal

pub returns-clause-at_most : goal.returns-clause-at_most
returns-clause-at_most c =
    subst (λ n. n ≤ dirty_node_count (length c.args.dirty.now))
    (sym (c.count_below.ensures.count ∙ ap (λ d. length (dirty_below c.args.dirty.now d 0)) (c.depth.ensures.value ∙ ap (λ n. dirty_depth_of n) c.size.ensures))) (names-few c.args.dirty.now)
