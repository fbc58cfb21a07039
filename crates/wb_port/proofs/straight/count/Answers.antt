use Rattle.std.proofs.Common.{refl}
use Rattle.wb_port.proofs.Onward.{ready_now, ready_after, goes_on}
use Rattle.wb_tasks.specs.declared.step.Got.TheVariants.{Done}
use Rattle.wb_port.proofs.straight.count.Goals as goal

pub change-requires-clause-ready : goal.change-requires-clause-ready
change-requires-clause-ready g c = ready_now g.S.Stage.ready g.S.Stage.led _ _ _ c.requires.stays refl tt

pub give_back-requires : goal.give_back-requires
give_back-requires g c = record { stays = ready_after g.S.Stage.ready g.S.Stage.led _ _ _ Done _ _ c.requires.stays refl tt c.change.ensures refl }

pub returns : goal.returns
returns g c = goes_on g.S.Stage.led _ _ _ Done _ _ _ _ refl tt c.change.ensures refl c.give_back.ensures
