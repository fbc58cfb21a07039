use Rattle.std.proofs.Common.{◌∙◌, inr, Option, subst}
use Rattle.wb_policy.specs.declared.order.Order.{Order}
use Rattle.wb_target.specs.Told.{WasNext}
use Rattle.wb_meta.proofs.Loaded.{IfErr-handed}
use Rattle.wb_target.specs.Carried.{client_state}
use Rattle.wb_target.proofs.Turns.{begun_by, jobs_in, gave_up_in}
use Rattle.wb_target.specs.Works.{AskedSharing}
use Rattle.wb_target.proofs.client.Client.work_one.Goals as goal

pub returns-clause-carried : goal.returns-clause-carried
returns-clause-carried g c =
    let begun = c.take_buffer.new.port in
    let looked = c.has_failed.ensures in
    let taken = c.take_buffer.ensures in (
      client_state begun,
      begun_by c.args.self.now.port c.has_failed.new.self begun c.if-has_failed.ensures.clear looked.buffer looked.commit taken.hand taken.commit taken.kept c.in_ok-take_buffer.ensures.holds,
      jobs_in g.D.Disk.tells g.D.Disk.size g.D.Disk.contents g.D.Disk.faults (AskedSharing g.P.Policy.with_entry g.P.Policy.without_entry) _ begun.geometry c.args.self.now.port.geometry _ _ (taken.geometry ∙ looked.geometry) c.in_ok-carry_out.ensures.carried,
    )

pub returns-in_err-carry_out-clause-refused : goal.returns-in_err-carry_out-clause-refused
returns-in_err-carry_out-clause-refused g c =
    let begun = c.take_buffer.new.port in
    let looked = c.has_failed.ensures in
    let taken = c.take_buffer.ensures in
    let cause = c.in_err-carry_out.field-0.0 in
    IfErr-handed c.from_residual-in_err-carry_out.result cause _ c.from_residual-in_err-carry_out.ensures.1 (inr (inr (
      c.in-Some.order,
      subst (λ (o : Option Order). WasNext g.row.P.Denot o) c.in-Some.is c.take_order.ensures.next,
      (
        client_state begun,
        begun_by c.args.self.now.port c.has_failed.new.self begun c.if-has_failed.ensures.clear looked.buffer looked.commit taken.hand taken.commit taken.kept c.in_ok-take_buffer.ensures.holds,
        gave_up_in g.D.Disk.tells g.D.Disk.size g.D.Disk.contents g.D.Disk.faults (AskedSharing g.P.Policy.with_entry g.P.Policy.without_entry) c.args.self.now.port.geometry begun.geometry (taken.geometry ∙ looked.geometry) c.in-Some.order cause _ _ c.in_err-carry_out.ensures.given_up,
      ),
    )))
