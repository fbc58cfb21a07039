use Rattle.std.proofs.Common.{[], ◌∷◌, ◌∙◌, ap}
use Rattle.wb_types.specs.declared.refusal.Refusal.TheVariants.{Busy}
use Rattle.wb_tasks.specs.declared.step.Answer.TheVariants.{Refused as Refuses}
use Rattle.wb_target.specs.Carried.{client_state, Runs, migration_of}
use Rattle.wb_target.proofs.Tries.{again}
use Rattle.wb_target.proofs.Carried.{run_with, done_then}
use Rattle.wb_target.proofs.Turns.{refused_then}
use Rattle.wb_target.specs.Works.{AskedSharing}
use Rattle.wb_target.proofs.carrying.migrate.Goals as goal

pub returns-in-Done-clause-done : goal.returns-in-Done-clause-done
returns-in-Done-clause-done g c =
    let first = c.args.port.now.geometry in
    done_then (Runs g.D.Disk.tells g.D.Disk.size g.D.Disk.contents g.D.Disk.faults (AskedSharing g.P.Policy.with_entry g.P.Policy.without_entry) first.origin_blocks (c.args.order ∷ [])) (migration_of first c.args.migration c.args.block) (client_state c.args.port.now) (client_state c.loop.port) (client_state c.work-answer.new.port) c.loop.invariant.tried
    (run_with g.D.Disk.tells g.D.Disk.size g.D.Disk.contents g.D.Disk.faults (AskedSharing g.P.Policy.with_entry g.P.Policy.without_entry) (c.args.order ∷ []) _ _ c.migrate-task.result _ _ _ _ c.work-answer.result.0 _ c.work-answer.result.1 c.migrate-task.ensures (ap (λ geometry. migration_of geometry c.args.migration c.args.block) c.loop.invariant.geometry) (ap (λ geometry. geometry.origin_blocks) c.loop.invariant.geometry) c.in-Done.is c.work-answer.ensures.performed).0

pub returns-in-Refused-clause-refused : goal.returns-in-Refused-clause-refused
returns-in-Refused-clause-refused g c =
    let first = c.args.port.now.geometry in
    refused_then (Runs g.D.Disk.tells g.D.Disk.size g.D.Disk.contents g.D.Disk.faults (AskedSharing g.P.Policy.with_entry g.P.Policy.without_entry) first.origin_blocks (c.args.order ∷ [])) (migration_of first c.args.migration c.args.block) c.in-Refused.refusal (client_state c.args.port.now) (client_state c.loop.port) (client_state c.work-answer.new.port) c.if-is_busy.ensures.other c.loop.invariant.tried
    (run_with g.D.Disk.tells g.D.Disk.size g.D.Disk.contents g.D.Disk.faults (AskedSharing g.P.Policy.with_entry g.P.Policy.without_entry) (c.args.order ∷ []) _ _ c.migrate-task.result _ _ _ _ c.work-answer.result.0 _ c.work-answer.result.1 c.migrate-task.ensures (ap (λ geometry. migration_of geometry c.args.migration c.args.block) c.loop.invariant.geometry) (ap (λ geometry. geometry.origin_blocks) c.loop.invariant.geometry) c.in-Refused.is c.work-answer.ensures.performed).0

pub loop-preserved : goal.loop-preserved
loop-preserved g c = let first = c.args.port.now.geometry in record {
  geometry = c.work-answer.ensures.geometry ∙ c.loop.invariant.geometry;
  tried = again (λ s t. Runs g.D.Disk.tells g.D.Disk.size g.D.Disk.contents g.D.Disk.faults (AskedSharing g.P.Policy.with_entry g.P.Policy.without_entry) first.origin_blocks (c.args.order ∷ []) (migration_of first c.args.migration c.args.block) s (Refuses Busy) t) (client_state c.args.port.now) (client_state c.loop.port) (client_state c.work-answer.new.port) c.loop.invariant.tried
      (run_with g.D.Disk.tells g.D.Disk.size g.D.Disk.contents g.D.Disk.faults (AskedSharing g.P.Policy.with_entry g.P.Policy.without_entry) (c.args.order ∷ []) _ _ c.migrate-task.result _ _ _ _ c.work-answer.result.0 _ c.work-answer.result.1 c.migrate-task.ensures (ap (λ geometry. migration_of geometry c.args.migration c.args.block) c.loop.invariant.geometry) (ap (λ geometry. geometry.origin_blocks) c.loop.invariant.geometry) (c.in-Refused.is ∙ ap Refuses c.if-is_busy.ensures.busy) c.work-answer.ensures.performed).0;
}
