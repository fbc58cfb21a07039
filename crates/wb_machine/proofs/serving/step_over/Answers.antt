use Rattle.std.proofs.Common.{◌≡◌, Some, inl, arith, refl, slice_get}
use Rattle.std.proofs.lemmas.Option.{slice_get_past, slice_get_read}
use Rattle.wb_promise.specs.declared.event.Event.TheVariants.{Step}
use Rattle.wb_machine.specs.declared.machine.TheConstants.{ACTORS}
use Rattle.wb_machine.specs.declared.phase.Phase.TheVariants.{Standing}
use Rattle.wb_machine.specs.Life.{contents_of, shape_of, state_of}
use Rattle.wb_machine.specs.Members.{with_cards}
use Rattle.wb_machine.proofs.Members.{absent, put_back, seat_at, somebody}
use Rattle.wb_machine.proofs.Openings.{passes}
use Rattle.wb_machine.proofs.Served.{nobody_there, own_room, sound_then, step_happens, step_keeps, step_roomy}
use Rattle.wb_machine.proofs.serving.step_over.Goals as goal
use Rattle.wb_types.proofs.Truth.{on_err}
use Rattle.wb_machine.proofs.serving.step_over.Goals.{After-index_mut-member}

pub returns-then-actor-len-clause-ok : goal.returns-then-actor-len-clause-ok
returns-then-actor-len-clause-ok c =
    let members = c.args.members.now in
    let target = c.args.target.now in
    rw (c.skipped.ensures.read) (passes (shape_of c.args.geometry.now ACTORS) (state_of ACTORS c.args.devices.now (Standing target members)) (Step c.args.actor) _
    (inl (λ h. nobody_there _ c.args.actor _ (absent members.items target.crew.cards c.args.actor (slice_get_past members.items c.args.actor (omega (arith, members.ok)))) h)) c.skipped.ensures.what)

-- the member is there
here : (c : After-index_mut-member) → slice_get c.args.members.now.items c.args.actor ≡ Some c.index_mut-member.result.now
here c =
    let members = c.args.members.now in
    slice_get_read members.items c.len.result c.args.actor c.index_mut-member.result.now (omega (arith, members.ok)) (omega arith) c.index_mut-member.ensures.value

-- as one of the actors
at_seat : (c : After-index_mut-member) → slice_get (with_cards c.args.members.now.items c.args.target.now.crew.cards) c.args.actor ≡ Some (seat_at c.index_mut-member.result.now c.args.target.now.crew.cards c.args.actor)
at_seat c =
    let many = c.requires.sound.there in
    somebody c.args.members.now.items c.args.target.now.crew.cards c.args.actor c.index_mut-member.result.now (here c) (omega (arith, many.0, many.1))

pub step-requires-clause-suits : goal.step-requires-clause-suits
step-requires-clause-suits c = rw (c.requires.sound.stands.blocks) (c.requires.served.suited c.args.actor _ (at_seat (goal.at.step-requires-clause-suits c).After-index_mut-member))

pub step-requires-clause-can : goal.step-requires-clause-can
step-requires-clause-can c = c.requires.served.can c.args.actor _ (at_seat (goal.at.step-requires-clause-can c).After-index_mut-member)

pub step-requires-clause-roomy : goal.step-requires-clause-roomy
step-requires-clause-roomy c =
    let m = c.index_mut-member.result.now in
    own_room c.args.geometry.now c.args.target.now.desk.geometry m c.requires.sound.stands.sizes (c.requires.sound.stands.roomy c.args.actor m (here (goal.at.step-requires-clause-roomy c).After-index_mut-member))

pub returns-clause-ok : goal.returns-clause-ok
returns-clause-ok c =
    let many = c.requires.sound.there in
    step_happens (shape_of c.args.geometry.now ACTORS) (contents_of c.args.devices.now) c.args.target.now c.args.members.now.items c.args.actor c.index_mut-member.result.now c.step.new.self (here (goal.at.returns-clause-ok c).After-index_mut-member) (omega (arith, many.0, many.1))
    c.in_ok-done.done.what c.in_ok-done.done.read.items (contents_of c.step.new.devices) c.step.new.target c.in_ok-done.ensures.ok

pub returns-clause-sound : goal.returns-clause-sound
returns-clause-sound c =
    let m = c.index_mut-member.result.now in
    let g = c.args.geometry.now in
    let old = contents_of c.args.devices.now in
    let done = c.in_ok-done.done in
    let ok = c.in_ok-done.ensures.ok in
    let was = c.requires.sound.stands.roomy c.args.actor m (here (goal.at.returns-clause-sound c).After-index_mut-member) in
    sound_then g ACTORS c.args.devices.now c.step.new.devices c.args.target.now c.step.new.target c.args.members.now _ c.args.actor c.step.new.self
    (step_keeps old c.args.target.now c.args.actor m done.what done.read.items (contents_of c.step.new.devices) c.step.new.target c.step.new.self c.requires.sound.stands.failed ok) refl c.in_ok-done.ensures.size
    (step_roomy g old c.args.target.now c.args.actor m done.what done.read.items (contents_of c.step.new.devices) c.step.new.target c.step.new.self was ok) c.requires.sound

pub returns-in_err-done-clause-err : goal.returns-in_err-done-clause-err
returns-in_err-done-clause-err c =
    let err = c.in_err-done.ensures.err in
    on_err c.from_residual.result (err.0, err.1, put_back c.args.members.now.items c.args.actor c.index_mut-member.result.now c.step.new.self (here (goal.at.returns-in_err-done-clause-err c).After-index_mut-member) err.2)
