use Rattle.std.proofs.Common.{◌∙◌, inl, ap, refl, sym, subst}
use Rattle.wb_promise.specs.declared.event.Event.TheVariants.{Step}
use Rattle.wb_machine.specs.declared.machine.TheConstants.{ACTORS}
use Rattle.wb_machine.specs.declared.phase.Phase.TheVariants.{Underway}
use Rattle.wb_machine.specs.Life.{IsThere, answered, device_step_of, shape_of, state_of}
use Rattle.wb_machine.specs.Serving.{IsPhaseServed}
use Rattle.wb_machine.specs.Standing.{StandsSo}
use Rattle.wb_machine.proofs.Answering.{Answers, answers}
use Rattle.wb_machine.proofs.Openings.{idle, idle_beside, is_device_step, nobody_opens, passes}
use Rattle.wb_machine.proofs.stepping.step_opening.Goals as goal
use Rattle.wb_machine.proofs.stepping.step_opening.Goals.{After-answer}

pub returns-in_default-clause-ok : goal.returns-in_default-clause-ok
returns-in_default-clause-ok c = passes (shape_of c.args.geometry.now ACTORS) (state_of ACTORS c.args.devices.now c.args.phase.now) (Step c.args.actor) _
    (inl (idle ACTORS c.args.phase.now c.args.actor _ (nobody_opens c.args.phase.now c.args.actor c.requires.no_target c.in_default.not-Underway))) refl

pub returns-then-opener-actor-clause-ok : goal.returns-then-opener-actor-clause-ok
returns-then-opener-actor-clause-ok c = rw c.in-Underway.is (passes (shape_of c.args.geometry.now ACTORS) (state_of ACTORS c.args.devices.now (Underway c.in-Underway.opener)) (Step c.args.actor) _
    (inl (idle_beside ACTORS c.in-Underway.opener c.args.actor _ c.if-opener-actor.true)) refl)

pub returns-in-Some-clause-ok : goal.returns-in-Some-clause-ok
returns-in-Some-clause-ok c =
    let next = is_device_step c.want-want.result c.in-Some.step (sym c.device_step_of.ensures ∙ c.in-Some.is) in
    rw (c.in-Underway.is, ← c.if-opener-actor.false, next) c.in_ok-got.ensures.does

-- what its answer comes to
answer : (c : After-answer) → Answers c.args.geometry.now ACTORS c.args.devices.now c.in-Underway.opener (answered (Underway c.in-Underway.opener))
answer c =
    let inside = subst (λ o. IsThere ACTORS o) c.in-Underway.is c.requires.sound.there in
    let stands = subst (λ o. StandsSo c.args.geometry.now ACTORS o) c.in-Underway.is c.requires.sound.stands in
    answers c.args.geometry.now ACTORS c.args.devices.now c.in-Underway.opener inside stands (ap device_step_of (sym c.want-want.ensures) ∙ sym c.device_step_of.ensures ∙ c.in_default-device_step_of.is)

pub returns-clause-ok : goal.returns-clause-ok
returns-clause-ok c = rw (c.answer.ensures, c.in-Underway.is, ← c.if-opener-actor.false, c.want-want.ensures) (answer (goal.at.returns-clause-ok c).After-answer).happens

pub returns-clause-sound : goal.returns-clause-sound
returns-clause-sound c =
    let done = answer (goal.at.returns-clause-sound c).After-answer in
    rw (c.answer.ensures) (record { there = done.is_there; whole = c.requires.sound.whole; stands = done.so })

pub perform-requires-clause-finds : goal.perform-requires-clause-finds
perform-requires-clause-finds c = subst (λ o. IsPhaseServed c.args.geometry.now c.args.devices.now o) c.in-Underway.is c.requires.served
