use Rattle.std.proofs.Common.{◌∙◌, refl, sym, ap}
use Rattle.wb_tasks.specs.Plan.{want, after}
use Rattle.wb_tasks.specs.declared.step.Got.TheVariants.{Done, Fault}
use Rattle.wb_port.specs.Straight.{range_in}
use Rattle.wb_port.proofs.Onward.{ready_now, ready_after, steps_on, on_and_on, where_none, where_some, after_failed_write, written_first, again_is}
use Rattle.wb_port.proofs.straight.put.Goals as goal

pub transfer-requires-clause-ready : goal.transfer-requires-clause-ready
transfer-requires-clause-ready g c = let first = written_first c.args.part c.args.place _ _ c.written-first.ensures in ready_now g.S.Stage.ready g.S.Stage.led _ _ _ c.requires.stays (ap want first ∙ sym (c.route-device.ensures.write (range_in c.args.part) refl)) tt

pub returns-then-not-transfer-clause-failed : goal.returns-then-not-transfer-clause-failed
returns-then-not-transfer-clause-failed g c = let first = written_first c.args.part c.args.place _ _ c.written-first.ensures in steps_on g.S.Stage.ready g.S.Stage.led _ _ _ Fault _ _ c.requires.stays (ap want first ∙ sym (c.route-device.ensures.write (range_in c.args.part) refl)) tt c.if-not-transfer.ensures.failed (ap (λ s. after s Fault) first ∙ after_failed_write _ _ _ _ _ (c.route-device.ensures.write (range_in c.args.part) refl))

pub returns-then-not-again-clause-done : goal.returns-then-not-again-clause-done
returns-then-not-again-clause-done g c = let first = written_first c.args.part c.args.place _ _ c.written-first.ensures in steps_on g.S.Stage.ready g.S.Stage.led _ _ _ Done _ _ c.requires.stays (ap want first ∙ sym (c.route-device.ensures.write (range_in c.args.part) refl)) tt c.if-not-transfer.ensures.done (ap (λ s. after s Done) first ∙ again_is c.args.part c.args.place _ _ c.if-not-again.true)

pub mirror-requires-clause-stays : goal.mirror-requires-clause-stays
mirror-requires-clause-stays g c = let first = written_first c.args.part c.args.place _ _ c.written-first.ensures in ready_after g.S.Stage.ready g.S.Stage.led _ _ _ Done _ _ c.requires.stays (ap want first ∙ sym (c.route-device.ensures.write (range_in c.args.part) refl)) tt c.if-not-transfer.ensures.done (ap (λ s. after s Done) first ∙ again_is c.args.part c.args.place _ _ c.if-not-again.false)

pub returns-clause-done : goal.returns-clause-done
returns-clause-done g c = let first = written_first c.args.part c.args.place _ _ c.written-first.ensures in where_none c.mirror.result _ _ (on_and_on g.S.Stage.ready g.S.Stage.led _ _ _ _ _ _ (steps_on g.S.Stage.ready g.S.Stage.led _ _ _ Done _ _ c.requires.stays (ap want first ∙ sym (c.route-device.ensures.write (range_in c.args.part) refl)) tt c.if-not-transfer.ensures.done (ap (λ s. after s Done) first ∙ again_is c.args.part c.args.place _ _ c.if-not-again.false))) c.mirror.ensures.done

pub returns-clause-failed : goal.returns-clause-failed
returns-clause-failed g c = let first = written_first c.args.part c.args.place _ _ c.written-first.ensures in where_some c.mirror.result _ _ (λ device. on_and_on g.S.Stage.ready g.S.Stage.led _ _ _ _ _ _ (steps_on g.S.Stage.ready g.S.Stage.led _ _ _ Done _ _ c.requires.stays (ap want first ∙ sym (c.route-device.ensures.write (range_in c.args.part) refl)) tt c.if-not-transfer.ensures.done (ap (λ s. after s Done) first ∙ again_is c.args.part c.args.place _ _ c.if-not-again.false))) c.mirror.ensures.failed
