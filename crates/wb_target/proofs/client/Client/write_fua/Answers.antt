use Rattle.std.proofs.Common.{[], None, inr, subst}
use Rattle.wb_types.specs.declared.geometry.Geometry.{Geometry}
use Rattle.wb_target.specs.Carried.{client_state, Runs, WasDoneWith, flush_of, share_of}
use Rattle.wb_target.specs.Workers.{FlushRefused}
use Rattle.wb_target.specs.Works.{AskedSharing}
use Rattle.wb_target.proofs.client.Client.write_fua.Goals as goal

pub returns-in-Ok-flush-clause-written : goal.returns-in-Ok-flush-clause-written
returns-in-Ok-flush-clause-written g c =
    let mid = c.write.new.self.port in
    let asked = AskedSharing g.P.Policy.with_entry g.P.Policy.without_entry in record {
      parts = c.in-Ok.done;
      mid = client_state mid;
      written = c.in-Ok.ensures.written;
      then_flushed = subst (λ (geometry : Geometry). WasDoneWith g.D.Disk.tells g.D.Disk.size g.D.Disk.contents g.D.Disk.faults asked geometry.origin_blocks [] (flush_of geometry None) (share_of c.in-Ok-flush.flushed) (client_state mid) (client_state c.flush.new.self.port)) c.write.ensures.geometry c.in-Ok-flush.ensures.flushed;
    }

pub returns-in-Err-flush-clause-stopped : goal.returns-in-Err-flush-clause-stopped
returns-in-Err-flush-clause-stopped g c =
    let mid = c.write.new.self.port in
    let asked = AskedSharing g.P.Policy.with_entry g.P.Policy.without_entry in
    inr (
      client_state mid,
      c.in-Ok.ensures.inside,
      c.in-Ok.ensures.written,
      subst (λ (geometry : Geometry). FlushRefused (Runs g.D.Disk.tells g.D.Disk.size g.D.Disk.contents g.D.Disk.faults asked geometry.origin_blocks) geometry c.in-Err-flush.refusal (client_state mid) (client_state c.flush.new.self.port)) c.write.ensures.geometry c.in-Err-flush.ensures.refused,
    )
