use Rattle.std.proofs.Common.{◌≡◌, Option, Some, subst, [], ◌∷◌}
use Rattle.std.proofs.lemmas.Result.{IfErr-at_err}
use Rattle.wb_target.specs.Carried.{client_state, Runs, jobs_of}
use Rattle.wb_target.specs.Workers.{GaveUpAmong, Carried, GaveUp, GaveBack}
use Rattle.wb_target.proofs.Turns.{looked, jobs_in, gave_up_in, stopped_at}
use Rattle.wb_target.specs.Works.{AskedSharing}
use Rattle.wb_policy.specs.declared.order.Order.{Order}
use Rattle.wb_target.specs.Told.{WasNext}
use Rattle.wb_target.proofs.worker.take_turn.Given.{Over}
use Rattle.wb_target.proofs.worker.take_turn.Goals as goal

was_next : (g : Over) (order : Order) (told : Option Order) → told ≡ Some order → WasNext g.row.P.Denot told → WasNext g.row.P.Denot (Some order)
was_next g order told is was = subst (λ (o : Option Order). WasNext g.row.P.Denot o) is was

pub returns-then-not-is_ready-clause-took : goal.returns-then-not-is_ready-clause-took
returns-then-not-is_ready-clause-took g c = λ told. GaveBack c.in-Some.order (was_next g c.in-Some.order c.take_order.result c.in-Some.is c.take_order.ensures.next) c.if-not-is_ready.ensures.not

pub returns-in-Ok-clause-took : goal.returns-in-Ok-clause-took
returns-in-Ok-clause-took g c = λ told.
    let first = c.args.port.now.geometry in
    let begun = c.is_ready.new.port in
    Carried c.in-Some.order (was_next g c.in-Some.order c.take_order.result c.in-Some.is c.take_order.ensures.next) (client_state begun) c.if-not-is_ready.ensures.buffer (jobs_in g.D.Disk.tells g.D.Disk.size g.D.Disk.contents g.D.Disk.faults (AskedSharing g.P.Policy.with_entry g.P.Policy.without_entry) c.in-Some.order begun.geometry first (client_state begun) (client_state c.carry_out.new.port) c.is_ready.ensures.geometry c.in-Ok.ensures.carried)

pub returns-in-Err-clause-took : goal.returns-in-Err-clause-took
returns-in-Err-clause-took g c = λ told.
    let first = c.args.port.now.geometry in
    let begun = c.is_ready.new.port in
    GaveUp c.in-Some.order (was_next g c.in-Some.order c.take_order.result c.in-Some.is c.take_order.ensures.next) c.in-Err.field-0 (client_state begun) (client_state c.carry_out.new.port) c.if-not-is_ready.ensures.buffer
    (gave_up_in g.D.Disk.tells g.D.Disk.size g.D.Disk.contents g.D.Disk.faults (AskedSharing g.P.Policy.with_entry g.P.Policy.without_entry) first begun.geometry c.is_ready.ensures.geometry c.in-Some.order c.in-Err.field-0 (client_state begun) (client_state c.carry_out.new.port) c.in-Err.ensures.given_up)
    (looked 0 c.carry_out.new.port c.has_failed.new.self c.if-not-has_failed.ensures.clear c.has_failed.ensures.buffer c.has_failed.ensures.commit)

pub returns-in-Err-Io-clause-stopped : goal.returns-in-Err-Io-clause-stopped
returns-in-Err-Io-clause-stopped g c =
    let first = c.args.port.now.geometry in
    let begun = c.is_ready.new.port in
    let set = c.if-not-has_failed.ensures.set in
    stopped_at g.D.Disk.tells g.D.Disk.size g.D.Disk.contents g.D.Disk.faults (AskedSharing g.P.Policy.with_entry g.P.Policy.without_entry) first begun.geometry c.is_ready.ensures.geometry (WasNext g.row.P.Denot) c.in-Some.order (was_next g c.in-Some.order c.take_order.result c.in-Some.is c.take_order.ensures.next) c.in-Err-Io.field-0 (client_state c.args.port.now) (client_state begun) (client_state c.carry_out.new.port) (client_state c.has_failed.new.self) set.0 c.if-not-is_ready.ensures.buffer
    (IfErr-at_err (λ refusal. GaveUpAmong (Runs g.D.Disk.tells g.D.Disk.size g.D.Disk.contents g.D.Disk.faults (AskedSharing g.P.Policy.with_entry g.P.Policy.without_entry) begun.geometry.origin_blocks (c.in-Some.order ∷ [])) (jobs_of begun.geometry c.in-Some.order) refusal (client_state begun) (client_state c.carry_out.new.port)) c.in-Err-Io.is c.carry_out.ensures.given_up)
    set.1 (looked set.0 c.carry_out.new.port c.has_failed.new.self set.2 c.has_failed.ensures.buffer c.has_failed.ensures.commit)

pub returns-in-Err-2-clause-stopped : goal.returns-in-Err-2-clause-stopped
returns-in-Err-2-clause-stopped g c =
    let first = c.args.port.now.geometry in
    let begun = c.is_ready.new.port in
    let set = c.if-not-has_failed.ensures.set in
    stopped_at g.D.Disk.tells g.D.Disk.size g.D.Disk.contents g.D.Disk.faults (AskedSharing g.P.Policy.with_entry g.P.Policy.without_entry) first begun.geometry c.is_ready.ensures.geometry (WasNext g.row.P.Denot) c.in-Some.order (was_next g c.in-Some.order c.take_order.result c.in-Some.is c.take_order.ensures.next) c.in-Err-2.field-0 (client_state c.args.port.now) (client_state begun) (client_state c.carry_out.new.port) (client_state c.has_failed.new.self) set.0 c.if-not-is_ready.ensures.buffer c.in-Err-2.ensures.given_up
    set.1 (looked set.0 c.carry_out.new.port c.has_failed.new.self set.2 c.has_failed.ensures.buffer c.has_failed.ensures.commit)
