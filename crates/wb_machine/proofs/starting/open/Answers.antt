use Rattle.std.specs.Prelude.{IfSome}
use Rattle.std.proofs.Common.{◌≡◌, ◌∙◌, Option, None, ap, arith, is_some, refl, subst, sym}
use Rattle.wb_types.specs.declared.geometry.Geometry.{Geometry}
use Rattle.wb_promise.specs.declared.event.Event.TheVariants.{Start}
use Rattle.wb_promise.specs.Happenings.{DoesNotApply, IsGeometryAsked}
use Rattle.wb_machine.specs.declared.machine.TheConstants.{ACTORS}
use Rattle.wb_machine.specs.Life.{shape_of, state_of}
use Rattle.wb_tasks.specs.Points.{AtFirst}
use Rattle.wb_machine.proofs.Openings.{asked_actor, busy_starts, nobody_starts, passes, starts, starts_not, suspended_starts}
use Rattle.wb_machine.proofs.starting.open.Goals as goal
use Rattle.wb_machine.proofs.starting.open.Goals.{then-actor-ge-ACTORS-via-then-actor-ge-ACTORS, then-actor-ge-ACTORS-via-else-actor-ge-ACTORS+then-is_busy}

pub returns-then-actor-ge-ACTORS-clause-does : goal.returns-then-actor-ge-ACTORS-clause-does
returns-then-actor-ge-ACTORS-clause-does c =
    let shape = shape_of c.args.geometry.now ACTORS in
    let does_not : DoesNotApply (state_of ACTORS c.args.devices.now c.args.phase.now) (Start c.args.actor c.args.job.now) = elim c.then-actor-ge-ACTORS.branch [
      | then-actor-ge-ACTORS-via-then-actor-ge-ACTORS w ↦ nobody_starts c.args.devices.now ACTORS c.args.phase.now c.requires.sound.there c.args.actor c.args.job.now (omega (arith, w.if-actor-ge-ACTORS.true))
      | then-actor-ge-ACTORS-via-else-actor-ge-ACTORS+then-is_busy w ↦ busy_starts c.args.devices.now ACTORS c.args.phase.now c.args.actor c.args.job.now c.requires.sound.there (sym w.is_busy.ensures ∙ w.if-is_busy.true)
    ] in
    passes shape (state_of ACTORS c.args.devices.now c.args.phase.now) (Start c.args.actor c.args.job.now) _ does_not refl

pub returns-then-is_suspending-clause-does : goal.returns-then-is_suspending-clause-does
returns-then-is_suspending-clause-does c =
    let shape = shape_of c.args.geometry.now ACTORS in
    passes shape (state_of ACTORS c.args.devices.now c.args.phase.now) (Start c.args.actor c.args.job.now) _
    (suspended_starts c.args.devices.now ACTORS c.args.phase.now c.args.actor c.args.job.now c.requires.sound.there (sym c.is_suspending.ensures ∙ c.if-is_suspending.true)) refl

pub returns-in_default-geometry_asked-clause-does : goal.returns-in_default-geometry_asked-clause-does
returns-in_default-geometry_asked-clause-does c =
    let shape = shape_of c.args.geometry.now ACTORS in
    starts_not shape c.args.devices.now ACTORS c.args.phase.now c.requires.sound.there c.requires.sound.stands c.args.actor (omega (arith, c.if-actor-ge-ACTORS.false)) (sym c.is_busy.ensures ∙ c.if-is_busy.false) (sym c.is_suspending.ensures ∙ c.if-is_suspending.false) (sym c.is_sound.ensures ∙ c.if-is_sound.false)
    c.args.job.now c.in-Some.asked _ (sym c.asked_by.ensures ∙ c.in-Some.is) (sym c.geometry_asked.ensures.room ∙ ap is_some c.in_default-geometry_asked.is) refl

pub returns-clause-does : goal.returns-clause-does
returns-clause-does c =
    let shape = shape_of c.args.geometry.now ACTORS in
    rw c.put.ensures (starts shape c.args.devices.now ACTORS c.args.phase.now c.requires.sound.there c.requires.sound.stands c.args.actor (omega (arith, c.if-actor-ge-ACTORS.false)) (sym c.is_busy.ensures ∙ c.if-is_busy.false) (sym c.is_suspending.ensures ∙ c.if-is_suspending.false) (sym c.is_sound.ensures ∙ c.if-is_sound.false)
    c.args.job.now c.in-Some.asked _ (record { asked = c.in-Some.asked; task = c.reading.result; opening = record { geometry = c.in-Some-geometry_asked.wanted; alloc = c.args.alloc; reading = None; commit = None }; made = None })
    (sym c.asked_by.ensures ∙ c.in-Some.is) (sym c.geometry_asked.ensures.room ∙ ap is_some c.in-Some-geometry_asked.is) refl c.reading.ensures refl refl refl)

pub returns-clause-sound : goal.returns-clause-sound
returns-clause-sound c =
    let asks = subst (λ (o : Option Geometry). IfSome o (λ wanted. IsGeometryAsked c.args.geometry.now c.in-Some.asked.second wanted)) c.in-Some-geometry_asked.is c.geometry_asked.ensures.asked in
    let same : c.args.actor ≡ c.in-Some.asked.actor = asked_actor c.args.actor c.args.job.now c.in-Some.asked (sym c.asked_by.ensures ∙ c.in-Some.is) in
    rw c.put.ensures (record { there = omega (arith, same, c.if-actor-ge-ACTORS.false); whole = c.requires.sound.whole; stands = record { point = AtFirst; plan_is = c.reading.ensures; asks = asks; come = refl; made = refl } })
