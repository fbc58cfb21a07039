-- What a step makes of the running commit.
use Rattle.std.proofs.Common.{◌≡◌, ℕ, true, false, Bool, Option, Some, refl, sym, subst, if◌then◌else◌, ap, ◌∙◌}
use Rattle.wb_types.specs.declared.mode.Dev.TheVariants.{Metadata}
use Rattle.wb_tasks.specs.Plan.{Fits, device_of}
use Rattle.wb_tasks.specs.declared.step.DeviceStep.{DeviceStep}
use Rattle.wb_tasks.specs.declared.step.DeviceStep.TheVariants.{Sync, WriteNode, WriteRoot}
use Rattle.wb_tasks.specs.declared.step.Want.TheVariants.{Device}
use Rattle.wb_tasks.specs.declared.step.Got.{Got}
use Rattle.wb_tasks.specs.declared.step.Got.TheVariants.{Done, Fault}
use Rattle.wb_devices.specs.declared.running.RunningCommit.{RunningCommit}
use Rattle.wb_devices.specs.declared.devices.Devices.{Devices}
use Rattle.wb_devices.specs.Moving.{IsOutcome, device_in}
use Rattle.wb_devices.specs.Committing.{goes_on, steps_then}
use Rattle.wb_devices.specs.Stepping.{CommitGoes, Goes}

pub outcome_fits : (step : DeviceStep) (got : Got) → IsOutcome got → Fits (Device step) got
outcome_fits step Done h = tt
outcome_fits step Fault h = tt
outcome_fits step got h = absurd h

pub stays : (size : ℕ) (commit : Option RunningCommit) (running : RunningCommit) (step : DeviceStep) (got : Got) → commit ≡ Some running → goes_on size running.image running.steps step ≡ false → Goes size commit step got (Some running)
stays size commit running step got is not_next =
    let here : Goes size (Some running) step got (Some running) = (running, refl, refl, sym (ap (λ (b : Bool). if b then steps_then got running.image running.steps else running.steps) not_next)) in
    subst (λ (o : Option RunningCommit). Goes size o step got (Some running)) (sym is) here

pub goes : (size : ℕ) (commit : Option RunningCommit) (running later : RunningCommit) (step : DeviceStep) (got : Got) → commit ≡ Some running → goes_on size running.image running.steps step ≡ true → later.image ≡ running.image → later.steps ≡ steps_then got running.image running.steps → Goes size commit step got (Some later)
goes size commit running later step got is next same on =
    let here : Goes size (Some running) step got (Some later) = (later, refl, same, on ∙ sym (ap (λ (b : Bool). if b then steps_then got running.image running.steps else running.steps) next)) in
    subst (λ (o : Option RunningCommit). Goes size o step got (Some later)) (sym is) here

-- a commit goes on by the size of the device that the step is on
pub goes_there : {D : Type 0} (size : D → ℕ) (devices : Devices D) (commit commit' : Option RunningCommit) (step : DeviceStep) (got : Got) → CommitGoes (size devices.metadata) commit step got commit' → CommitGoes (size (device_in (device_of step) devices)) commit step got commit'
goes_there size devices commit commit' (Sync Metadata) got g = g
goes_there size devices commit commit' (WriteNode number) got g = g
goes_there size devices commit commit' WriteRoot got g = g
goes_there size devices commit commit' step got g = g
