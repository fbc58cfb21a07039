use Rattle.std.proofs.Common.{refl, sym, ap}
use Rattle.wb_port.proofs.Onward.{ready_now, ready_after, goes_on, ends}
use Rattle.wb_tasks.specs.declared.step.Got.TheVariants.{Done, Lost}
use Rattle.wb_words.specs.declared.step.CellStep.TheVariants.{Take}
use Rattle.wb_tasks.specs.declared.step.Want.TheVariants.{Cell}
use Rattle.wb_port.proofs.straight.exchange.Goals as goal

pub take-requires : goal.take-requires
take-requires g c = ready_now g.S.Stage.ready g.S.Stage.led _ _ _ c.requires.stays (ap (λ a. Cell (Take a c.args.part.block c.args.seen)) (sym c.access.ensures)) tt

pub returns-then-not-take : goal.returns-then-not-take
returns-then-not-take g c = goes_on g.S.Stage.led _ _ _ Lost _ _ _ _ (ap (λ a. Cell (Take a c.args.part.block c.args.seen)) (sym c.access.ensures)) tt c.if-not-take.ensures.lost refl (ends g.S.Stage.led _ _ _ refl)

pub seal-requires-clause-stays : goal.seal-requires-clause-stays
seal-requires-clause-stays g c = ready_after g.S.Stage.ready g.S.Stage.led _ _ _ Done _ _ c.requires.stays (ap (λ a. Cell (Take a c.args.part.block c.args.seen)) (sym c.access.ensures)) tt c.if-not-take.ensures.won refl

pub returns : goal.returns
returns g c = goes_on g.S.Stage.led _ _ _ Done _ _ _ _ (ap (λ a. Cell (Take a c.args.part.block c.args.seen)) (sym c.access.ensures)) tt c.if-not-take.ensures.won refl c.seal.ensures
