use Rattle.std.proofs.Common.{◌∷◌, refl, sym, ap}
use Rattle.wb_port.proofs.Onward.{ready_now, ready_after, goes_on}
use Rattle.wb_tasks.specs.declared.step.Got.TheVariants.{Done, Fault}
use Rattle.wb_tasks.specs.declared.step.Answer.TheVariants.{Done as Finished}
use Rattle.wb_port.proofs.Onward.{after_failed_read}
use Rattle.wb_tasks.specs.Tables.{Reading}
use Rattle.wb_port.specs.Straight.{left, range_in, giving_back}
use Rattle.wb_port.specs.declared.straight.Way.TheVariants.{Reads}
use Rattle.wb_port.proofs.straight.read.Goals as goal

pub transfer-requires-clause-ready : goal.transfer-requires-clause-ready
transfer-requires-clause-ready g c = ready_now g.S.Stage.ready g.S.Stage.led _ _ _ c.requires.stays (sym (c.route-device.ensures.read (range_in c.args.part) refl)) tt

pub give_back-requires : goal.give_back-requires
give_back-requires g c = record { stays = ready_after g.S.Stage.ready g.S.Stage.led _ _ _ Fault _ _ c.requires.stays (sym (c.route-device.ensures.read (range_in c.args.part) refl)) tt c.if-not-transfer.ensures.failed (after_failed_read _ _ _ _ _ (c.route-device.ensures.read (range_in c.args.part) refl)) }

pub returns-then-not-transfer : goal.returns-then-not-transfer
returns-then-not-transfer g c = goes_on g.S.Stage.led _ _ _ Fault _ _ _ _ (sym (c.route-device.ensures.read (range_in c.args.part) refl)) tt c.if-not-transfer.ensures.failed (after_failed_read _ _ _ _ _ (c.route-device.ensures.read (range_in c.args.part) refl)) c.give_back.ensures

pub count-requires : goal.count-requires
count-requires g c = record { stays = ready_after g.S.Stage.ready g.S.Stage.led _ _ _ Done _ _ c.requires.stays (sym (c.route-device.ensures.read (range_in c.args.part) refl)) tt c.if-not-transfer.ensures.done (ap (λ w. left (Reading (range_in c.args.part)) (w ∷ giving_back Reads c.args.part) Finished) (sym c.read_kind-kind.ensures)) }

pub returns : goal.returns
returns g c = goes_on g.S.Stage.led _ _ _ Done _ _ _ _ (sym (c.route-device.ensures.read (range_in c.args.part) refl)) tt c.if-not-transfer.ensures.done (ap (λ w. left (Reading (range_in c.args.part)) (w ∷ giving_back Reads c.args.part) Finished) (sym c.read_kind-kind.ensures)) c.count.ensures
