use Rattle.std.proofs.Common.{inr}
use Rattle.std.proofs.lemmas.Result.{IfErr-weaker}
use Rattle.wb_target.specs.Carried.{client_state, Runs, looked_at_fail}
use Rattle.wb_target.specs.Workers.{FlushRefused, TickRefused}
use Rattle.wb_target.proofs.Turns.{looked, flush_done_in, flush_refused_in}
use Rattle.wb_target.specs.Works.{AskedSharing}
use Rattle.wb_target.proofs.client.Client.tick.Goals as goal

pub returns-clause-refused : goal.returns-clause-refused
returns-clause-refused g c =
    let old = c.args.self.now.port in
    let mid = c.has_failed.new.self in
    let new = c.flush.new.self.port in
    let seen = c.has_failed.ensures in
    IfErr-weaker c.flush.result
    (λ refusal. FlushRefused (Runs g.D.Disk.tells g.D.Disk.size g.D.Disk.contents g.D.Disk.faults (AskedSharing g.P.Policy.with_entry g.P.Policy.without_entry) mid.geometry.origin_blocks) mid.geometry refusal (client_state mid) (client_state new))
    (λ refusal. TickRefused (Runs g.D.Disk.tells g.D.Disk.size g.D.Disk.contents g.D.Disk.faults (AskedSharing g.P.Policy.with_entry g.P.Policy.without_entry) old.geometry.origin_blocks) old.geometry refusal (client_state old) (client_state new))
    (λ refusal w. inr (inr (flush_refused_in g.D.Disk.tells g.D.Disk.size g.D.Disk.contents g.D.Disk.faults (AskedSharing g.P.Policy.with_entry g.P.Policy.without_entry) old.geometry mid.geometry seen.geometry refusal (client_state mid) (looked_at_fail 0 (client_state old)) (client_state new)
    (looked 0 old mid c.if-has_failed.ensures.clear seen.buffer seen.commit) w)))
    c.flush.ensures.refused

pub returns-clause-flushed : goal.returns-clause-flushed
returns-clause-flushed g c =
    let old = c.args.self.now.port in
    let mid = c.has_failed.new.self in
    let seen = c.has_failed.ensures in
    flush_done_in g.D.Disk.tells g.D.Disk.size g.D.Disk.contents g.D.Disk.faults (AskedSharing g.P.Policy.with_entry g.P.Policy.without_entry) old.geometry mid.geometry seen.geometry c.flush.result (client_state mid) (looked_at_fail 0 (client_state old)) (client_state c.flush.new.self.port)
    (looked 0 old mid c.if-has_failed.ensures.clear seen.buffer seen.commit) c.flush.ensures.flushed
