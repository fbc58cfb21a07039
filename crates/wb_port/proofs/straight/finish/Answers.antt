use Rattle.std.proofs.Common.{◌∷◌, refl, sym, ap}
use Rattle.wb_port.proofs.Onward.{ready_now, ready_after, goes_on}
use Rattle.wb_tasks.specs.declared.step.Got.TheVariants.{Done}
use Rattle.wb_tasks.specs.declared.step.Answer.TheVariants.{Done as Finished}
use Rattle.wb_port.specs.Straight.{left, range_in, giving_back}
use Rattle.wb_tasks.specs.Tables.{Writing}
use Rattle.wb_port.specs.declared.straight.Way.TheVariants.{Writes}
use Rattle.wb_port.proofs.straight.finish.Goals as goal

pub change-requires-clause-ready : goal.change-requires-clause-ready
change-requires-clause-ready g c = ready_now g.S.Stage.ready g.S.Stage.led _ _ _ c.requires.stays refl tt

pub count-requires : goal.count-requires
count-requires g c = record { stays = ready_after g.S.Stage.ready g.S.Stage.led _ _ _ Done _ _ c.requires.stays refl tt c.change.ensures (ap (λ w. left (Writing (range_in c.args.part)) (w ∷ giving_back Writes c.args.part) Finished) (sym c.write_kind-kind.ensures)) }

pub returns : goal.returns
returns g c = goes_on g.S.Stage.led _ _ _ Done _ _ _ _ refl tt c.change.ensures (ap (λ w. left (Writing (range_in c.args.part)) (w ∷ giving_back Writes c.args.part) Finished) (sym c.write_kind-kind.ensures)) c.count.ensures
