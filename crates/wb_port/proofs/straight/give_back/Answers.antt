use Rattle.std.proofs.Common.{refl, sym, ap}
use Rattle.wb_port.proofs.Onward.{ready_now, goes_on, ends}
use Rattle.wb_tasks.specs.declared.step.Got.TheVariants.{Done}
use Rattle.wb_words.specs.declared.step.CellStep.TheVariants.{Release}
use Rattle.wb_tasks.specs.declared.step.Want.TheVariants.{Cell}
use Rattle.wb_port.proofs.straight.give_back.Goals as goal

pub change-requires-clause-ready : goal.change-requires-clause-ready
change-requires-clause-ready g c = ready_now g.S.Stage.ready g.S.Stage.led _ _ _ c.requires.stays (ap (λ a. Cell (Release a c.args.part.block)) (sym c.access.ensures)) tt

pub returns : goal.returns
returns g c = goes_on g.S.Stage.led _ _ _ Done _ _ _ _ (ap (λ a. Cell (Release a c.args.part.block)) (sym c.access.ensures)) tt c.change.ensures refl (ends g.S.Stage.led _ _ _ refl)
