use Rattle.std.proofs.Common.{◌∙◌, ap, refl, sym, subst}
use Rattle.wb_promise.specs.declared.event.Event.TheVariants.{FaultStep}
use Rattle.wb_promise.specs.Happenings.{MayFailAt}
use Rattle.wb_machine.specs.declared.machine.TheConstants.{ACTORS}
use Rattle.wb_machine.specs.Life.{IsThere, contents_of, device_step_of, shape_of, state_of}
use Rattle.wb_machine.proofs.Openings.{only_busy, idle, idle_beside, is_device_step, nobody_opens, cannot_fail, on_false, on_true, passes}
use Rattle.wb_machine.proofs.Wherever.{fails_there, step_comes}
use Rattle.wb_machine.specs.Life.{commit_failed}
use Rattle.wb_tasks.specs.Plan.{device_of}
use Rattle.wb_machine.specs.declared.phase.Phase.TheVariants.{Underway}
use Rattle.wb_machine.specs.Standing.{StandsSo}
use Rattle.wb_machine.proofs.Standing.{failed_size, failed_stands, never_fails}
use Rattle.wb_machine.proofs.stepping.fail_opening.Goals as goal

pub returns-in_default-clause-ok : goal.returns-in_default-clause-ok
returns-in_default-clause-ok c = passes (shape_of c.args.geometry.now ACTORS) (state_of ACTORS c.args.devices.now c.args.phase.now) (FaultStep c.args.actor c.args.choice.now) _
    (idle ACTORS c.args.phase.now c.args.actor _ (nobody_opens c.args.phase.now c.args.actor c.requires.no_target c.in_default.not-Underway)) refl

pub returns-then-opener-actor-clause-ok : goal.returns-then-opener-actor-clause-ok
returns-then-opener-actor-clause-ok c = rw c.in-Underway.is (passes (shape_of c.args.geometry.now ACTORS) (state_of ACTORS c.args.devices.now (Underway c.in-Underway.opener)) (FaultStep c.args.actor c.args.choice.now) _
    (idle_beside ACTORS c.in-Underway.opener c.args.actor _ c.if-opener-actor.true) refl)

pub returns-then-not-fails-clause-ok : goal.returns-then-not-fails-clause-ok
returns-then-not-fails-clause-ok c =
    let inside = subst (λ o. IsThere ACTORS o) c.in-Underway.is c.requires.sound.there in
    let kind = sym c.device_step_of.ensures ∙ c.in-Some.is in
    let next = is_device_step c.want-want.result c.in-Some.step kind in
    let kept = on_false c.in_ok-fails.fails c.if-not-fails.true c.in_ok-fails.ensures.kept in
    rw (c.in-Underway.is, ← c.if-opener-actor.false, kept, c.in_ok-fails.ensures.commit) (passes (shape_of c.args.geometry.now ACTORS) (state_of ACTORS c.args.devices.now (Underway c.in-Underway.opener)) (FaultStep c.in-Underway.opener.asked.actor c.args.choice.now) _
    (λ may. cannot_fail c.in_ok-fails.fails c.if-not-fails.true (c.in_ok-fails.ensures.may.1 (subst (λ w. MayFailAt (contents_of c.args.devices.now) c.args.choice.now w) (sym c.want-want.ensures ∙ next) (only_busy ACTORS c.in-Underway.opener _ inside may)))) refl)

pub returns-clause-ok : goal.returns-clause-ok
returns-clause-ok c =
    let inside = subst (λ o. IsThere ACTORS o) c.in-Underway.is c.requires.sound.there in
    let kind = sym c.device_step_of.ensures ∙ c.in-Some.is in
    let next = is_device_step c.want-want.result c.in-Some.step kind in
    let shape = shape_of c.args.geometry.now ACTORS in
    let stands = subst (λ o. StandsSo c.args.geometry.now ACTORS o) c.in-Underway.is c.requires.sound.stands in
    let coming = ap device_step_of (sym c.want-want.ensures) ∙ kind in
    let failed = on_true c.in_ok-fails.fails c.if-not-fails.false c.in_ok-fails.ensures.failed in
    rw (c.in-Underway.is, ← c.if-opener-actor.false, next)
    (fails_there shape ACTORS c.args.devices.now c.fail_step.new.devices c.in-Underway.opener c.fail.new.self inside c.fail.ensures.asked c.requires.sound.whole stands c.args.choice.now c.in-Some.step _
    coming (sym c.want-want.ensures ∙ next) refl (c.in_ok-fails.ensures.may.0 c.if-not-fails.false) c.fail.ensures.task c.fail.ensures.reading (c.fail.ensures.commit ∙ ap (λ k. commit_failed (device_of c.in-Some.step) k) c.in_ok-fails.ensures.commit) failed)

pub returns-clause-sound : goal.returns-clause-sound
returns-clause-sound c =
    let kind = sym c.device_step_of.ensures ∙ c.in-Some.is in
    let stands = subst (λ o. StandsSo c.args.geometry.now ACTORS o) c.in-Underway.is c.requires.sound.stands in
    let coming = ap device_step_of (sym c.want-want.ensures) ∙ kind in
    let failed = on_true c.in_ok-fails.fails c.if-not-fails.false c.in_ok-fails.ensures.failed in
    let opener = c.in-Underway.opener in
    let step = c.in-Some.step in
    record {
      there = rw c.fail.ensures.asked (subst (λ o. IsThere ACTORS o) c.in-Underway.is c.requires.sound.there);
      whole = failed_size opener.opening.commit step c.args.choice.now (contents_of c.args.devices.now) (contents_of c.fail_step.new.devices) failed ∙ c.requires.sound.whole;
      stands = failed_stands c.args.geometry.now ACTORS opener c.fail.new.self step stands coming c.fail.ensures.asked c.fail.ensures.task c.fail.ensures.geometry;
    }

pub returns-in_default-device_step_of-clause-ok : goal.returns-in_default-device_step_of-clause-ok
returns-in_default-device_step_of-clause-ok c =
    let opener = c.in-Underway.opener in
    let inside = subst (λ o. IsThere ACTORS o) c.in-Underway.is c.requires.sound.there in
    let stands = subst (λ o. StandsSo c.args.geometry.now ACTORS o) c.in-Underway.is c.requires.sound.stands in
    let none = ap device_step_of (sym c.want-want.ensures) ∙ sym c.device_step_of.ensures ∙ c.in_default-device_step_of.is in
    rw (c.in-Underway.is, ← c.if-opener-actor.false) (passes (shape_of c.args.geometry.now ACTORS) (state_of ACTORS c.args.devices.now (Underway opener)) (FaultStep opener.asked.actor c.args.choice.now) _
    (λ may. never_fails c.args.geometry.now ACTORS opener stands none (contents_of c.args.devices.now) c.args.choice.now (only_busy ACTORS opener _ inside may)) refl)

pub fail_step-requires-clause-comes : goal.fail_step-requires-clause-comes
fail_step-requires-clause-comes c =
    let kind = sym c.device_step_of.ensures ∙ c.in-Some.is in
    let stands = subst (λ o. StandsSo c.args.geometry.now ACTORS o) c.in-Underway.is c.requires.sound.stands in
    step_comes c.args.geometry.now ACTORS c.args.devices.now c.in-Underway.opener c.in-Some.step c.requires.sound.whole stands (ap device_step_of (sym c.want-want.ensures) ∙ kind)
