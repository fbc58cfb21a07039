use Rattle.std.proofs.Common.{refl}
use Rattle.wb_port.proofs.Onward.{ready_now, goes_on, ends}
use Rattle.wb_tasks.specs.declared.step.Got.TheVariants.{Done}
use Rattle.wb_port.proofs.straight.fail.Goals as goal

pub change-requires-clause-ready : goal.change-requires-clause-ready
change-requires-clause-ready g c = ready_now g.S.Stage.ready g.S.Stage.led _ _ _ c.requires.stays refl tt

pub returns : goal.returns
returns g c = goes_on g.S.Stage.led _ _ _ Done _ _ _ _ refl tt c.change.ensures refl (ends g.S.Stage.led _ _ _ refl)
