use Rattle.std.proofs.Common.{refl}
use Rattle.wb_port.proofs.Onward.{ready_now, ready_after, goes_on}
use Rattle.wb_tasks.specs.declared.step.Got.TheVariants.{Word}
use Rattle.wb_port.proofs.straight.seal.Goals as goal

pub look-seal-requires : goal.look-seal-requires
look-seal-requires g c = ready_now g.S.Stage.ready g.S.Stage.led _ _ _ c.requires.stays refl tt

pub number-requires-clause-stays : goal.number-requires-clause-stays
number-requires-clause-stays g c = ready_after g.S.Stage.ready g.S.Stage.led _ _ _ (Word c.look-seal.result) _ _ c.requires.stays refl tt c.look-seal.ensures refl

pub returns : goal.returns
returns g c = goes_on g.S.Stage.led _ _ _ (Word c.look-seal.result) _ _ _ _ refl tt c.look-seal.ensures refl c.number.ensures
