use Rattle.std.proofs.Common.{◌∙◌, inl, inr, sym, ap}
use Rattle.wb_types.specs.declared.refusal.Refusal.TheVariants.{Busy}
use Rattle.wb_tasks.specs.Tables.{Flushing}
use Rattle.wb_tasks.specs.declared.step.Answer.TheVariants.{Refused as Refuses}
use Rattle.wb_target.specs.Carried.{client_state, Runs, flush_of, serving}
use Rattle.wb_target.proofs.Tries.{again}
use Rattle.wb_target.proofs.Carried.{run_with, done_so}
use Rattle.wb_target.proofs.Syncing.{ends_unticketed}
use Rattle.wb_target.proofs.Turns.{refused_then}
use Rattle.wb_target.specs.Works.{AskedSharing}
use Rattle.wb_target.proofs.carrying.flush.Goals as goal

pub answered-requires : goal.answered-requires
answered-requires g c =
    ends_unticketed g.D.Disk.tells g.D.Disk.size g.D.Disk.contents g.D.Disk.faults g.P.Policy.with_entry g.P.Policy.without_entry c.args.held.now _ _ _ _ _ _ c.work-answer.result.0 c.flush-task.ensures c.in-Done.is c.work-answer.ensures.performed

pub returns-in-Done-clause-done : goal.returns-in-Done-clause-done
returns-in-Done-clause-done g c =
    let first = c.args.port.now.geometry in
    let same = ap (λ bs. Flushing bs c.most_nodes-most.result) c.in-Ok.ensures.blocks ∙ ap (λ n. Flushing (serving c.args.serves) n) c.most_nodes-most.ensures in
    done_so g.D.Disk.tells g.D.Disk.size g.D.Disk.contents g.D.Disk.faults (AskedSharing g.P.Policy.with_entry g.P.Policy.without_entry) first.origin_blocks c.args.held.now (flush_of first c.args.serves) _ _ (sym c.answered.ensures) (client_state c.args.port.now) (client_state c.loop.port) (client_state c.work-answer.new.port) c.loop.invariant.tried
    (run_with g.D.Disk.tells g.D.Disk.size g.D.Disk.contents g.D.Disk.faults (AskedSharing g.P.Policy.with_entry g.P.Policy.without_entry) c.args.held.now _ _ c.flush-task.result _ _ _ _ c.work-answer.result.0 _ c.work-answer.result.1 c.flush-task.ensures same (ap (λ geometry. geometry.origin_blocks) c.loop.invariant.geometry) c.in-Done.is c.work-answer.ensures.performed)

pub returns-in-Refused-clause-refused : goal.returns-in-Refused-clause-refused
returns-in-Refused-clause-refused g c =
    let first = c.args.port.now.geometry in
    let same = ap (λ bs. Flushing bs c.most_nodes-most.result) c.in-Ok.ensures.blocks ∙ ap (λ n. Flushing (serving c.args.serves) n) c.most_nodes-most.ensures in
    inl (refused_then (Runs g.D.Disk.tells g.D.Disk.size g.D.Disk.contents g.D.Disk.faults (AskedSharing g.P.Policy.with_entry g.P.Policy.without_entry) first.origin_blocks c.args.held.now) (flush_of first c.args.serves) c.in-Refused.refusal (client_state c.args.port.now) (client_state c.loop.port) (client_state c.work-answer.new.port) c.if-is_busy.ensures.other c.loop.invariant.tried
    (run_with g.D.Disk.tells g.D.Disk.size g.D.Disk.contents g.D.Disk.faults (AskedSharing g.P.Policy.with_entry g.P.Policy.without_entry) c.args.held.now _ _ c.flush-task.result _ _ _ _ c.work-answer.result.0 _ c.work-answer.result.1 c.flush-task.ensures same (ap (λ geometry. geometry.origin_blocks) c.loop.invariant.geometry) c.in-Refused.is c.work-answer.ensures.performed).0)

pub returns-in-Err-clause-refused : goal.returns-in-Err-clause-refused
returns-in-Err-clause-refused g c = inr (c.in-Err.ensures.refused, c.loop.invariant.tried)

pub loop-preserved : goal.loop-preserved
loop-preserved g c =
    let first = c.args.port.now.geometry in
    let same = ap (λ bs. Flushing bs c.most_nodes-most.result) c.in-Ok.ensures.blocks ∙ ap (λ n. Flushing (serving c.args.serves) n) c.most_nodes-most.ensures in record {
      geometry = c.work-answer.ensures.geometry ∙ c.loop.invariant.geometry;
      tried = again (λ s t. Runs g.D.Disk.tells g.D.Disk.size g.D.Disk.contents g.D.Disk.faults (AskedSharing g.P.Policy.with_entry g.P.Policy.without_entry) first.origin_blocks c.args.held.now (flush_of first c.args.serves) s (Refuses Busy) t) (client_state c.args.port.now) (client_state c.loop.port) (client_state c.work-answer.new.port) c.loop.invariant.tried
          (run_with g.D.Disk.tells g.D.Disk.size g.D.Disk.contents g.D.Disk.faults (AskedSharing g.P.Policy.with_entry g.P.Policy.without_entry) c.args.held.now _ _ c.flush-task.result _ _ _ _ c.work-answer.result.0 _ c.work-answer.result.1 c.flush-task.ensures same (ap (λ geometry. geometry.origin_blocks) c.loop.invariant.geometry) (c.in-Refused.is ∙ ap Refuses c.if-is_busy.ensures.busy) c.work-answer.ensures.performed).0;
    }
