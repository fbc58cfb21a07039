use Rattle.std.proofs.Common.{◌<◌, ltb, length, rules, arith}
use Rattle.std.proofs.lemmas.List.{get_or_default}
use Rattle.std.proofs.lemmas.List.Sorted.{IsPartitionPoint-from_clause, IsPartitionedBy-ltb}
use Rattle.wb_policy.proofs.Searching.{found, past}
use Rattle.wb_policy.proofs.situation.is_dirty.Goals as goal

pub returns-then-at-tick : goal.returns-then-at-tick
returns-then-at-tick c =
    let parted = IsPartitionedBy-ltb (λ e. e.0.0) _ c.args.c.0 c.args.tick.now.rising in
    let split = IsPartitionPoint-from_clause (λ e. ltb e.0.0 c.args.c.0) _ _ c.partition_point-at.ensures.partitioned parted (λ a r q k. search rules) in
    past c.args.tick.now.dirty.now c.args.c.0 _ split (omega arith)

pub returns : goal.returns
returns c =
    let up = c.args.tick.now.rising in
    let parted = IsPartitionedBy-ltb (λ e. e.0.0) _ c.args.c.0 up in
    let split = IsPartitionPoint-from_clause (λ e. ltb e.0.0 c.args.c.0) _ _ c.partition_point-at.ensures.partitioned parted (λ a r q k. search rules) in
    let within : c.partition_point-at.result < length c.args.tick.now.dirty.now = omega arith in
    found c.args.tick.now.dirty.now c.args.c.0 _ _ up split within (get_or_default _ _ _ _ within)
