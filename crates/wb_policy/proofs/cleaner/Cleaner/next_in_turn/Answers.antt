use Rattle.std.proofs.Common.{◌≡◌, ◌∙◌, leb, take, drop, Some, None, ap, rules}
use Rattle.std.specs.List.{find}
use Rattle.std.proofs.lemmas.List.Sorted.{IsPartitionPoint-from_clause, IsPartitionedBy-leb}
use Rattle.wb_policy.specs.Cleaner.{is_waiting}
use Rattle.wb_policy.proofs.Turns.{turn-is, found_behind, found_before}
use Rattle.wb_policy.proofs.cleaner.Cleaner.next_in_turn.Goals as goal

pub returns-in-Some-first_idle : goal.returns-in-Some-first_idle
returns-in-Some-first_idle c =
    let last : c.args.self.now.last ≡ Some c.in-Some.last = search rules in
    let parted = IsPartitionedBy-leb (λ e. e.0.0) _ c.in-Some.last c.args.tick.now.rising in
    let split = IsPartitionPoint-from_clause (λ e. leb e.0.0 c.in-Some.last) _ _ c.partition_point-start.ensures.partitioned parted (λ a r q k. search rules) in
    let turn = turn-is c.in-Some.last c.args.tick.now.dirty.now c.partition_point-start.result c.partition_point-start.ensures.bound split in
    let found : find (is_waiting c.args.tick.now.busy.now) (drop c.partition_point-start.result c.args.tick.now.dirty.now) ≡ Some c.in-Some-first_idle.found = search rules in
    rw last (found_behind c.args.tick.now.busy.now c.in-Some.last c.args.tick.now.dirty.now _ _ turn found)

pub returns-in-None-first_idle : goal.returns-in-None-first_idle
returns-in-None-first_idle c =
    let last : c.args.self.now.last ≡ Some c.in-Some.last = search rules in
    let parted = IsPartitionedBy-leb (λ e. e.0.0) _ c.in-Some.last c.args.tick.now.rising in
    let split = IsPartitionPoint-from_clause (λ e. leb e.0.0 c.in-Some.last) _ _ c.partition_point-start.ensures.partitioned parted (λ a r q k. search rules) in
    let turn = turn-is c.in-Some.last c.args.tick.now.dirty.now c.partition_point-start.result c.partition_point-start.ensures.bound split in
    let none : find (is_waiting c.args.tick.now.busy.now) (drop c.partition_point-start.result c.args.tick.now.dirty.now) ≡ None = search rules in
    let front : c.split_at.result.0.now ≡ take c.partition_point-start.result c.args.tick.now.dirty.now = search rules in
    rw last (c.first_idle-in-None-first_idle.ensures ∙ (ap (find (is_waiting c.args.tick.now.busy.now)) front ∙ found_before c.args.tick.now.busy.now c.in-Some.last c.args.tick.now.dirty.now _ turn none))
