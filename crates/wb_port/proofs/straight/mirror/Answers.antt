use Rattle.std.proofs.Common.{refl, sym}
use Rattle.wb_port.specs.Straight.{range_in}
use Rattle.wb_port.proofs.Onward.{ready_now, steps_on, after_failed_write}
use Rattle.wb_tasks.specs.declared.step.Got.TheVariants.{Done, Fault}
use Rattle.wb_port.proofs.straight.mirror.Goals as goal

pub transfer-requires-clause-ready : goal.transfer-requires-clause-ready
transfer-requires-clause-ready g c = ready_now g.S.Stage.ready g.S.Stage.led _ _ _ c.requires.stays (sym (c.route-device.ensures.write (range_in c.args.part) refl)) tt

pub returns-then-not-transfer-clause-failed : goal.returns-then-not-transfer-clause-failed
returns-then-not-transfer-clause-failed g c = steps_on g.S.Stage.ready g.S.Stage.led _ _ _ Fault _ _ c.requires.stays (sym (c.route-device.ensures.write (range_in c.args.part) refl)) tt c.if-not-transfer.ensures.failed (after_failed_write _ _ _ _ _ (c.route-device.ensures.write (range_in c.args.part) refl))

pub returns-clause-done : goal.returns-clause-done
returns-clause-done g c = steps_on g.S.Stage.ready g.S.Stage.led _ _ _ Done _ _ c.requires.stays (sym (c.route-device.ensures.write (range_in c.args.part) refl)) tt c.if-not-transfer.ensures.done refl
