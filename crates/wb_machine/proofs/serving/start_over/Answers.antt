use Rattle.std.proofs.Common.{◌≡◌, ◌∙◌, List, Some, ap, arith, inl, length, refl, slice_get, subst, sym}
use Rattle.std.proofs.lemmas.Option.{slice_get_past, slice_get_read}
use Rattle.wb_types.specs.declared.mode.Mode.{Mode}
use Rattle.wb_desk.specs.Desks.{DeskState}
use Rattle.wb_policy.specs.declared.quiet.Quiet.{Quiet}
use Rattle.wb_promise.specs.declared.event.Event.TheVariants.{Start}
use Rattle.wb_machine.specs.declared.machine.TheConstants.{ACTORS}
use Rattle.wb_machine.specs.declared.phase.Phase.TheVariants.{Standing}
use Rattle.wb_machine.specs.Life.{contents_of, shape_of, state_of, suits_mode}
use Rattle.wb_machine.specs.Members.{Member, somebody_suspends, with_cards}
use Rattle.wb_machine.specs.Standing.{AllRoomy}
use Rattle.wb_machine.proofs.Kept.{if_ok}
use Rattle.wb_machine.proofs.Suspends.{either, suspend_happens, suspend_length, suspend_roomy}
use Rattle.wb_machine.proofs.Members.{absent, put_back}
use Rattle.wb_machine.proofs.Openings.{nobody_suspends, passes, suspended_starts}
use Rattle.wb_machine.proofs.Served.{out_of_mode, sound_then, start_happens, start_roomy, start_sizes}
use Rattle.wb_machine.proofs.serving.start_over.Goals as goal
use Rattle.wb_types.proofs.Truth.{on_err}
use Rattle.wb_machine.proofs.serving.start_over.Goals.{After-index_mut-member}

pub returns-then-actor-len-clause-ok : goal.returns-then-actor-len-clause-ok
returns-then-actor-len-clause-ok c =
    let members = c.args.members.now in
    passes (shape_of c.args.geometry.now ACTORS) (state_of ACTORS c.args.devices.now (Standing c.args.target.now members)) (Start c.args.actor c.args.job.now) _
    (inl (absent members.items c.args.target.now.crew.cards c.args.actor (slice_get_past members.items c.args.actor (omega (arith, members.ok))))) refl

pub returns-then-is_somebody_suspending-clause-ok : goal.returns-then-is_somebody_suspending-clause-ok
returns-then-is_somebody_suspending-clause-ok c =
    let members = c.args.members.now in
    let phase = Standing c.args.target.now members in
    passes (shape_of c.args.geometry.now ACTORS) (state_of ACTORS c.args.devices.now phase) (Start c.args.actor c.args.job.now) _
    (suspended_starts c.args.devices.now ACTORS phase c.args.actor c.args.job.now c.requires.sound.there (sym (ap somebody_suspends c.as_slice.ensures.value) ∙ sym c.is_somebody_suspending.ensures ∙ c.if-is_somebody_suspending.true)) refl

pub returns-then-not-suits_mode-clause-ok : goal.returns-then-not-suits_mode-clause-ok
returns-then-not-suits_mode-clause-ok c =
    let members = c.args.members.now in
    let target = c.args.target.now in
    passes (shape_of c.args.geometry.now ACTORS) (state_of ACTORS c.args.devices.now (Standing target members)) (Start c.args.actor c.args.job.now) _
    (out_of_mode (contents_of c.args.devices.now) target (with_cards members.items target.crew.cards) c.args.actor c.args.job.now
    (sym (ap (λ (m : Mode). suits_mode c.args.job.now m) c.mode.ensures) ∙ sym c.suits_mode.ensures ∙ c.if-not-suits_mode.true)) refl

pub returns-then-not-starts_beside-clause-ok : goal.returns-then-not-starts_beside-clause-ok
returns-then-not-starts_beside-clause-ok c =
    let members = c.args.members.now in
    let target = c.args.target.now in
    let many = c.requires.sound.there in
    let calm = nobody_suspends c.args.devices.now ACTORS (Standing target members) many (sym (ap somebody_suspends c.as_slice.ensures.value) ∙ sym c.is_somebody_suspending.ensures ∙ c.if-is_somebody_suspending.false) in
    if_ok c.suspend.result _ _
    (λ what s. suspend_happens (shape_of c.args.geometry.now ACTORS) (contents_of c.args.devices.now) target members.items (omega (arith, many.0, many.1)) c.args.actor c.args.job.now c.requires.over (sym c.starts_beside.ensures ∙ c.if-not-starts_beside.true)
    (omega (arith, members.ok)) calm what c.suspend.new.members.items s)
    c.suspend.ensures.ok

pub returns-then-not-starts_beside-clause-sound : goal.returns-then-not-starts_beside-clause-sound
returns-then-not-starts_beside-clause-sound c =
    let target = c.args.target.now in
    let members = c.args.members.now in
    let g = c.args.geometry.now in
    let stands = c.requires.sound.stands in
    let as_many = either c.suspend.result _ _ (length c.suspend.new.members.items ≡ length members.items)
    (λ what s. suspend_length (shape_of g ACTORS) target.desk members.items c.args.actor what c.suspend.new.members.items s) (λ same. ap length same) c.suspend.ensures.ok c.suspend.ensures.err in
    record {
      there = (c.requires.sound.there.0, as_many ∙ c.requires.sound.there.1);
      whole = c.requires.sound.whole;
      stands = record {
        blocks = stands.blocks;
        failed = stands.failed;
        sizes = stands.sizes;
        roomy = either c.suspend.result _ _ (AllRoomy g c.suspend.new.members.items)
            (λ what s. suspend_roomy (shape_of g ACTORS) target.desk members.items c.args.actor what c.suspend.new.members.items stands.roomy s)
            (λ same. subst (λ (ms : List Member). AllRoomy g ms) (sym same) stands.roomy) c.suspend.ensures.ok c.suspend.ensures.err;
      };
    }

-- the member is there
here : (c : After-index_mut-member) → slice_get c.args.members.now.items c.args.actor ≡ Some c.index_mut-member.result.now
here c =
    let members = c.args.members.now in
    slice_get_read members.items c.len.result c.args.actor c.index_mut-member.result.now (omega (arith, members.ok)) (omega arith) c.index_mut-member.ensures.value

pub returns-clause-ok : goal.returns-clause-ok
returns-clause-ok c =
    let members = c.args.members.now in
    let many = c.requires.sound.there in
    start_happens (shape_of c.args.geometry.now ACTORS) (contents_of c.args.devices.now) c.args.target.now members.items c.args.actor c.index_mut-member.result.now c.start.new.self (here (goal.at.returns-clause-ok c).After-index_mut-member) (omega (arith, many.0, many.1))
    c.args.job.now c.in_ok-what.what c.start.new.desk (sym c.starts_beside.ensures ∙ c.if-not-starts_beside.false) (sym (ap (λ (m : Mode). suits_mode c.args.job.now m) c.mode.ensures) ∙ sym c.suits_mode.ensures ∙ c.if-not-suits_mode.false) (nobody_suspends c.args.devices.now ACTORS (Standing c.args.target.now members) many (sym (ap somebody_suspends c.as_slice.ensures.value) ∙ sym c.is_somebody_suspending.ensures ∙ c.if-is_somebody_suspending.false)) c.in_ok-what.ensures.ok

pub returns-clause-sound : goal.returns-clause-sound
returns-clause-sound c =
    let desk = c.args.target.now.desk in
    let m = c.index_mut-member.result.now in
    let shape = shape_of c.args.geometry.now ACTORS in
    let stands = c.requires.sound.stands in
    let ok = c.in_ok-what.ensures.ok in
    let was = stands.roomy c.args.actor m (here (goal.at.returns-clause-sound c).After-index_mut-member) in
    sound_then c.args.geometry.now ACTORS c.args.devices.now c.args.devices.now c.args.target.now (record c.args.target.now { desk = c.start.new.desk }) c.args.members.now _ c.args.actor c.start.new.self
    (record { blocks = refl; cards = refl; failed = stands.failed; sizes = start_sizes shape desk m c.args.job.now c.in_ok-what.what c.start.new.desk c.start.new.self ok }) refl refl
    (start_roomy shape desk m c.args.job.now c.in_ok-what.what c.start.new.desk c.start.new.self was ok) c.requires.sound

pub returns-in_err-what-clause-err : goal.returns-in_err-what-clause-err
returns-in_err-what-clause-err c =
    let err = c.in_err-what.ensures.err in
    on_err c.from_residual.result (ap (λ (d : DeskState Quiet). record c.args.target.now { desk = d }) err.0, put_back c.args.members.now.items c.args.actor c.index_mut-member.result.now c.start.new.self (here (goal.at.returns-in_err-what-clause-err c).After-index_mut-member) err.1)
