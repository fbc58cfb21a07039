use Rattle.std.proofs.Common.{true, ◌∙◌, sym, ap}
use Rattle.wb_tasks.specs.declared.step.Got.TheVariants.{Done}
use Rattle.wb_tasks.specs.declared.step.Answer.TheVariants.{Done as Finished}
use Rattle.wb_tasks.specs.Plan.{want, after}
use Rattle.wb_tasks.specs.Tables.{Writing, places_written}
use Rattle.wb_port.specs.Straight.{left, range_in, straight_writing}
use Rattle.wb_port.proofs.Onward.{ready_now, steps_on, mapped_first}
use Rattle.wb_port.proofs.straight.mark.Goals as goal

pub change-requires-clause-ready : goal.change-requires-clause-ready
change-requires-clause-ready g c = let first = mapped_first c.args.part c.args.place c.in-Some.c c.args.dirty true c.in-Some.is (c.if-not-is_due.ensures c.args.part.block c.in-Some.c) in ready_now g.S.Stage.ready g.S.Stage.led _ _ _ c.requires.stays (ap want first) tt

pub returns : goal.returns
returns g c = let first = mapped_first c.args.part c.args.place c.in-Some.c c.args.dirty true c.in-Some.is (c.if-not-is_due.ensures c.args.part.block c.in-Some.c) in steps_on g.S.Stage.ready g.S.Stage.led _ _ _ Done _ (left (Writing (range_in c.args.part)) (straight_writing c.args.part (places_written c.args.part.mode c.args.place) c.args.place) Finished) c.requires.stays (ap want first) tt c.change.ensures (ap (λ s. after s Done) first ∙ ap (λ place. left (Writing (range_in c.args.part)) (straight_writing c.args.part (places_written c.args.part.mode place) place) Finished) (sym c.in-Some.is))
