use Rattle.std.proofs.Common.{◌≡◌, Option, Some, ap, arith, refl, slice_get}
use Rattle.std.proofs.lemmas.Option.{slice_get_past, slice_get_read}
use Rattle.wb_promise.specs.declared.event.Event.TheVariants.{FaultStep}
use Rattle.wb_machine.specs.declared.machine.TheConstants.{ACTORS}
use Rattle.wb_machine.specs.declared.phase.Phase.TheVariants.{Standing}
use Rattle.wb_devices.specs.declared.running.RunningCommit.{RunningCommit}
use Rattle.wb_machine.specs.Life.{contents_of, shape_of, state_of}
use Rattle.wb_machine.proofs.Members.{absent, put_back, somebody}
use Rattle.wb_machine.proofs.Openings.{passes}
use Rattle.wb_machine.proofs.Served.{fault_happens, fault_roomy, nobody_there, sound_then}
use Rattle.wb_machine.proofs.serving.fail_over.Goals as goal
use Rattle.wb_types.proofs.Truth.{on_err}
use Rattle.wb_machine.proofs.serving.fail_over.Goals.{After-index_mut-member}

pub returns-then-actor-len-clause-ok : goal.returns-then-actor-len-clause-ok
returns-then-actor-len-clause-ok c =
    let members = c.args.members.now in
    let target = c.args.target.now in
    passes (shape_of c.args.geometry.now ACTORS) (state_of ACTORS c.args.devices.now (Standing target members)) (FaultStep c.args.actor c.args.choice.now) _
    (λ h. nobody_there _ c.args.actor _ (absent members.items target.crew.cards c.args.actor (slice_get_past members.items c.args.actor (omega (arith, members.ok)))) h) refl

-- the member is there
here : (c : After-index_mut-member) → slice_get c.args.members.now.items c.args.actor ≡ Some c.index_mut-member.result.now
here c =
    let members = c.args.members.now in
    slice_get_read members.items c.len.result c.args.actor c.index_mut-member.result.now (omega (arith, members.ok)) (omega arith) c.index_mut-member.ensures.value

pub falter-requires : goal.falter-requires
falter-requires c =
    let members = c.args.members.now.items in
    let many = c.requires.sound.there in
    c.requires.served.can c.args.actor _ (somebody members c.args.target.now.crew.cards c.args.actor c.index_mut-member.result.now (here (goal.at.falter-requires c).After-index_mut-member) (omega (arith, many.0, many.1)))

pub returns-clause-ok : goal.returns-clause-ok
returns-clause-ok c =
    let many = c.requires.sound.there in
    fault_happens (shape_of c.args.geometry.now ACTORS) (contents_of c.args.devices.now) c.args.target.now c.args.members.now.items c.args.actor c.index_mut-member.result.now c.falter.new.self (here (goal.at.returns-clause-ok c).After-index_mut-member) (omega (arith, many.0, many.1))
    c.args.choice.now c.in_ok-what.what (contents_of c.falter.new.devices) c.falter.new.commit c.requires.sound.stands.failed c.in_ok-what.ensures.ok

pub returns-clause-sound : goal.returns-clause-sound
returns-clause-sound c =
    let m = c.index_mut-member.result.now in
    let g = c.args.geometry.now in
    let sound = c.requires.sound in
    let was = sound.stands.roomy c.args.actor m (here (goal.at.returns-clause-sound c).After-index_mut-member) in
    sound_then g ACTORS c.args.devices.now c.falter.new.devices c.args.target.now (record c.args.target.now { commit = c.falter.new.commit }) c.args.members.now _ c.args.actor c.falter.new.self (record { blocks = refl; cards = refl; failed = sound.stands.failed; sizes = refl }) refl c.in_ok-what.ensures.size
    (fault_roomy g c.args.choice.now (contents_of c.args.devices.now) c.args.target.now.commit m c.in_ok-what.what (contents_of c.falter.new.devices) c.falter.new.commit c.falter.new.self was c.in_ok-what.ensures.ok) sound

pub returns-in_err-what-clause-err : goal.returns-in_err-what-clause-err
returns-in_err-what-clause-err c =
    let err = c.in_err-what.ensures.err in
    let put = put_back c.args.members.now.items c.args.actor c.index_mut-member.result.now c.falter.new.self (here (goal.at.returns-in_err-what-clause-err c).After-index_mut-member) err.2 in
    on_err c.from_residual.result (err.0, ap (λ (o : Option RunningCommit). record c.args.target.now { commit = o }) err.1, put)
