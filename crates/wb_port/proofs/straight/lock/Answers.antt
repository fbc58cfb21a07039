use Rattle.std.proofs.Common.{refl, sym, ap, ◌∙◌}
use Rattle.wb_words.specs.SharedWords.{can_take}
use Rattle.wb_port.proofs.Onward.{ready_now, ready_after, goes_on, ends}
use Rattle.wb_tasks.specs.declared.step.Got.TheVariants.{Word}
use Rattle.wb_port.proofs.Onward.{after_free, after_taken}
use Rattle.wb_port.proofs.straight.lock.Goals as goal

pub look-seen-requires : goal.look-seen-requires
look-seen-requires g c = ready_now g.S.Stage.ready g.S.Stage.led _ _ _ c.requires.stays refl tt

pub returns-then-not-can_take : goal.returns-then-not-can_take
returns-then-not-can_take g c = goes_on g.S.Stage.led _ _ _ (Word c.look-seen.result) _ _ _ _ refl tt c.look-seen.ensures (after_taken c.args.way c.args.part c.look-seen.result (ap (λ a. can_take a c.look-seen.result) (sym c.access.ensures) ∙ sym c.if-not-can_take.ensures)) (ends g.S.Stage.led _ _ _ refl)

pub exchange-requires-clause-stays : goal.exchange-requires-clause-stays
exchange-requires-clause-stays g c = ready_after g.S.Stage.ready g.S.Stage.led _ _ _ (Word c.look-seen.result) _ _ c.requires.stays refl tt c.look-seen.ensures (after_free c.args.way c.args.part c.look-seen.result (ap (λ a. can_take a c.look-seen.result) (sym c.access.ensures) ∙ sym c.if-not-can_take.ensures))

pub returns : goal.returns
returns g c = goes_on g.S.Stage.led _ _ _ (Word c.look-seen.result) _ _ _ _ refl tt c.look-seen.ensures (after_free c.args.way c.args.part c.look-seen.result (ap (λ a. can_take a c.look-seen.result) (sym c.access.ensures) ∙ sym c.if-not-can_take.ensures)) c.exchange.ensures
