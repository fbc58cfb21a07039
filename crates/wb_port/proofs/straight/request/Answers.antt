use Rattle.std.proofs.Common.{refl}
use Rattle.wb_port.proofs.Onward.{ready_now, ready_after, goes_on, ends}
use Rattle.wb_tasks.specs.declared.step.Got.TheVariants.{Word}
use Rattle.wb_port.proofs.Onward.{after_clear, after_failure}
use Rattle.wb_port.proofs.straight.request.Goals as goal

pub look-requires : goal.look-requires
look-requires g c = ready_now g.S.Stage.ready g.S.Stage.led _ _ _ c.requires.stays refl tt

pub returns-then-look-ne0 : goal.returns-then-look-ne0
returns-then-look-ne0 g c = goes_on g.S.Stage.led _ _ _ (Word c.look.result) _ _ _ _ refl tt c.look.ensures (after_failure c.args.way c.args.part c.look.result c.if-look-ne0.true) (ends g.S.Stage.led _ _ _ refl)

pub lock-requires-clause-stays : goal.lock-requires-clause-stays
lock-requires-clause-stays g c = ready_after g.S.Stage.ready g.S.Stage.led _ _ _ (Word c.look.result) _ _ c.requires.stays refl tt c.look.ensures (after_clear c.args.way c.args.part c.look.result c.if-look-ne0.false)

pub returns : goal.returns
returns g c = goes_on g.S.Stage.led _ _ _ (Word c.look.result) _ _ _ _ refl tt c.look.ensures (after_clear c.args.way c.args.part c.look.result c.if-look-ne0.false) c.lock.ensures
