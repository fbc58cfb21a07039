use Rattle.std.proofs.Common.{◌≡◌}
use Rattle.wb_types.specs.declared.refusal.Refusal.TheVariants.{Busy}
use Rattle.wb_tasks.specs.declared.step.Answer.TheVariants.{Refused as Refuses}
use Rattle.wb_target.specs.Carried.{client_state, Runs, flush_of}
use Rattle.wb_target.proofs.Tries.{SoFar}
use Rattle.wb_target.specs.Works.{AskedSharing}
use Rattle.wb_target.proofs.carrying.flush.Given as goal

abbrev pub invariant-loop : goal.invariant-loop
invariant-loop g l = record {
  geometry : l.port.geometry ≡ l.fn.port.geometry;
  tried : SoFar (λ s t. Runs g.D.Disk.tells g.D.Disk.size g.D.Disk.contents g.D.Disk.faults (AskedSharing g.P.Policy.with_entry g.P.Policy.without_entry) l.fn.port.geometry.origin_blocks l.fn.held (flush_of l.fn.port.geometry l.fn.serves) s (Refuses Busy) t) (client_state l.fn.port) (client_state l.port);
}
