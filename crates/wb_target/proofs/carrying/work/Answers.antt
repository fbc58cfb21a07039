use Rattle.std.proofs.Common.{◌≡◌, ℕ, List, arith, rules, subst, sym}
use Rattle.std.proofs.lemmas.List.{with_items_is}
use Rattle.wb_disk.specs.Device.{Content as Bytes}
use Rattle.wb_target.specs.Carried.{client_state}
use Rattle.wb_target.specs.Works.{AskedSharing, PerformedWith}
use Rattle.wb_target.proofs.carrying.work.Goals as goal

pub returns-clause-performed : goal.returns-clause-performed
returns-clause-performed g c =
    let sized : c.deref.result.now.blocks ≡ c.args.port.now.geometry.origin_blocks = search rules in
    let put = with_items_is c.args.port.now.buffer c.perform_task-answer.new.buffer (omega arith) in
    let over = subst (λ (b : List Bytes). PerformedWith g.D.Disk.tells g.D.Disk.size g.D.Disk.contents g.D.Disk.faults (AskedSharing g.P.Policy.with_entry g.P.Policy.without_entry c.args.held.now) c.deref.result.now.blocks (g.T.Task.plan c.args.task.now)
    (record { hand = c.args.port.now.hand; buffer = b; commit = c.args.port.now.commit }) c.perform_task-answer.result (record { hand = c.perform_task-answer.new.hand; buffer = c.perform_task-answer.new.buffer; commit = c.perform_task-answer.new.commit }) c.perform_task-answer.new.share) c.as_mut_slice.ensures.value c.perform_task-answer.ensures.performed in
    let there = subst (λ (n : ℕ). PerformedWith g.D.Disk.tells g.D.Disk.size g.D.Disk.contents g.D.Disk.faults (AskedSharing g.P.Policy.with_entry g.P.Policy.without_entry c.args.held.now) n (g.T.Task.plan c.args.task.now) (client_state c.args.port.now) c.perform_task-answer.result (record { hand = c.perform_task-answer.new.hand; buffer = c.perform_task-answer.new.buffer; commit = c.perform_task-answer.new.commit }) c.perform_task-answer.new.share) sized over in
    subst (λ (b : List Bytes). PerformedWith g.D.Disk.tells g.D.Disk.size g.D.Disk.contents g.D.Disk.faults (AskedSharing g.P.Policy.with_entry g.P.Policy.without_entry c.args.held.now) c.args.port.now.geometry.origin_blocks (g.T.Task.plan c.args.task.now) (client_state c.args.port.now) c.perform_task-answer.result (record { hand = c.perform_task-answer.new.hand; buffer = b; commit = c.perform_task-answer.new.commit }) c.perform_task-answer.new.share) (sym put) there
