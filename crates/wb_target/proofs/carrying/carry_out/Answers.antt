use Rattle.std.proofs.Common.{[], ◌∷◌}
use Rattle.wb_policy.specs.declared.order.Order.TheVariants.{Replace}
use Rattle.wb_target.specs.Carried.{client_state, Runs, jobs_of, share_of}
use Rattle.wb_meta.proofs.Loaded.{IfErr-handed}
use Rattle.wb_target.proofs.Carried.{done_of, one_done}
use Rattle.wb_target.proofs.Turns.{replaced, one_given_up, demotion_given_up, flush_given_up, promotion_given_up}
use Rattle.wb_target.specs.Works.{AskedSharing}
use Rattle.wb_target.proofs.carrying.carry_out.Goals as goal

pub returns-in_ok-flush-in-Replace-clause-carried : goal.returns-in_ok-flush-in-Replace-clause-carried
returns-in_ok-flush-in-Replace-clause-carried g c =
    let r = c.in-Replace in
    let d = c.migrate in
    let f = c.flush in
    let p = c.migrate-in-Replace in
    replaced g.D.Disk.tells g.D.Disk.size g.D.Disk.contents g.D.Disk.faults (AskedSharing g.P.Policy.with_entry g.P.Policy.without_entry) p.result c.args.order r.victim r.block r.to c.args.port.now.geometry d.new.port.geometry f.new.port.geometry (client_state c.args.port.now) (client_state d.new.port) (client_state f.new.port) (client_state p.new.port) r.is d.ensures.geometry f.ensures.geometry
    c.in_ok-migrate-in-Replace.ensures.done (done_of g.D.Disk.tells g.D.Disk.size g.D.Disk.contents g.D.Disk.faults (AskedSharing g.P.Policy.with_entry g.P.Policy.without_entry) _ (Replace r.victim r.block r.to ∷ []) _ (share_of c.in_ok-flush-in-Replace.field-0) _ _ c.in_ok-flush-in-Replace.ensures.done) p.ensures.done

pub returns-in_err-flush-in-Replace-clause-given_up : goal.returns-in_err-flush-in-Replace-clause-given_up
returns-in_err-flush-in-Replace-clause-given_up g c =
    let r = c.in-Replace in
    let d = c.migrate in
    let f = c.flush in
    let e = c.in_err-flush-in-Replace in
    IfErr-handed c.from_residual-in_err-flush-in-Replace.result e.field-0.0 _ c.from_residual-in_err-flush-in-Replace.ensures.1
    (flush_given_up g.D.Disk.tells g.D.Disk.size g.D.Disk.contents g.D.Disk.faults (AskedSharing g.P.Policy.with_entry g.P.Policy.without_entry) c.args.order r.victim r.block r.to c.args.port.now.geometry r.is e.field-0.0 d.new.port.geometry (client_state c.args.port.now) (client_state d.new.port) (client_state f.new.port) d.ensures.geometry c.in_ok-migrate-in-Replace.ensures.done e.ensures.refused)

pub returns-in_ok-flush-in-Replace-clause-given_up : goal.returns-in_ok-flush-in-Replace-clause-given_up
returns-in_ok-flush-in-Replace-clause-given_up g c =
    let r = c.in-Replace in
    let d = c.migrate in
    let f = c.flush in
    let p = c.migrate-in-Replace in
    promotion_given_up g.D.Disk.tells g.D.Disk.size g.D.Disk.contents g.D.Disk.faults (AskedSharing g.P.Policy.with_entry g.P.Policy.without_entry) c.args.order r.victim r.block r.to c.args.port.now.geometry r.is p.result d.new.port.geometry f.new.port.geometry (client_state c.args.port.now) (client_state d.new.port) (client_state f.new.port) (client_state p.new.port) d.ensures.geometry f.ensures.geometry
    c.in_ok-migrate-in-Replace.ensures.done (done_of g.D.Disk.tells g.D.Disk.size g.D.Disk.contents g.D.Disk.faults (AskedSharing g.P.Policy.with_entry g.P.Policy.without_entry) _ (Replace r.victim r.block r.to ∷ []) _ (share_of c.in_ok-flush-in-Replace.field-0) _ _ c.in_ok-flush-in-Replace.ensures.done) p.ensures.refused

pub returns-in_err-migrate-in-Replace-clause-given_up : goal.returns-in_err-migrate-in-Replace-clause-given_up
returns-in_err-migrate-in-Replace-clause-given_up g c =
    let r = c.in-Replace in
    let d = c.migrate in
    let e = c.in_err-migrate-in-Replace in
    IfErr-handed c.from_residual.result e.field-0.0 _ c.from_residual.ensures.1
    (demotion_given_up g.D.Disk.tells g.D.Disk.size g.D.Disk.contents g.D.Disk.faults (AskedSharing g.P.Policy.with_entry g.P.Policy.without_entry) c.args.order r.victim r.block r.to c.args.port.now.geometry r.is e.field-0.0 (client_state c.args.port.now) (client_state d.new.port) e.ensures.refused)

pub returns-in_default-clause-carried : goal.returns-in_default-clause-carried
returns-in_default-clause-carried g c =
    let first = c.args.port.now.geometry in
    one_done (Runs g.D.Disk.tells g.D.Disk.size g.D.Disk.contents g.D.Disk.faults (AskedSharing g.P.Policy.with_entry g.P.Policy.without_entry) first.origin_blocks) c.migrate-in_default.result _ (jobs_of first) c.args.order (c.single-what.ensures.jobs first) (client_state c.args.port.now) (client_state c.migrate-in_default.new.port) c.migrate-in_default.ensures.done

pub returns-in_default-clause-given_up : goal.returns-in_default-clause-given_up
returns-in_default-clause-given_up g c =
    let first = c.args.port.now.geometry in
    one_given_up (Runs g.D.Disk.tells g.D.Disk.size g.D.Disk.contents g.D.Disk.faults (AskedSharing g.P.Policy.with_entry g.P.Policy.without_entry) first.origin_blocks) c.migrate-in_default.result _ (jobs_of first) c.args.order (c.single-what.ensures.jobs first) (client_state c.args.port.now) (client_state c.migrate-in_default.new.port) c.migrate-in_default.ensures.refused
