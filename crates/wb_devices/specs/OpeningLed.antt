-- What one step does to a stage for openings.
use Rattle.std.specs.Prelude.{◌≡◌, ℕ, [], List}
use Rattle.wb_types.specs.declared.mode.Mode.{Mode}
use Rattle.wb_disk.specs.Device.{History}
use Rattle.wb_tasks.specs.Plan.{device_of}
use Rattle.wb_tasks.specs.Ready.{IsOpenings}
use Rattle.wb_tasks.specs.declared.step.DeviceStep.{DeviceStep}
use Rattle.wb_tasks.specs.declared.step.DeviceStep.TheVariants.{ReadMetadata}
use Rattle.wb_tasks.specs.declared.step.Want.{Want}
use Rattle.wb_tasks.specs.declared.step.Want.TheVariants.{Device}
use Rattle.wb_tasks.specs.declared.step.Got.{Got}
use Rattle.wb_devices.specs.Moving.{OthersStay, device_in}
use Rattle.wb_devices.specs.Stepping.{CommitGoes, DidStep}
use Rattle.wb_devices.specs.Clean.{DidOpenIn}
use Rattle.wb_devices.specs.Openings.{MayGoOn}
use Rattle.wb_devices.specs.declared.opening.Opening.{Opening}
use Rattle.wb_devices.specs.declared.opening_stage.OpeningStage.{OpeningStage}

-- it serves the steps of an opening, and no others
abbrev pub IsReadyToOpen : {D : Type 0} → (D → ℕ) → OpeningStage D → Want → Type 0
IsReadyToOpen size stage want = IsOpenings want × MayGoOn (size stage.devices.metadata) stage.opening

-- What a step does to an opening in this mode, and to its device, from and to these contents and counts of faults: a step that reads
-- metadata changes no device; any other leaves what was read, and the commit goes on with its own steps.
abbrev pub DidForOpening : Type 0 → Mode → Opening → DeviceStep → Got → ℕ → List History → ℕ → Opening → List History → ℕ → Type 0
DidForOpening tells mode old (ReadMetadata left) got size device faults new device' faults' =
    (tells → device' ≡ device) × DidOpenIn mode tells old.geometry left old.reading device faults old.commit got new.reading faults' new.commit
DidForOpening tells mode old step got size device faults new device' faults' =
    (new.reading ≡ old.reading) × CommitGoes size old.commit step got new.commit × (tells → DidStep old.commit step got size device faults [] [] device' faults')

-- A step is one on its own device alone. None but those on devices is performed here.
abbrev pub LedOpening : {D : Type 0} → Type 0 → (D → ℕ) → (D → List History) → (D → ℕ) → OpeningStage D → Want → Got → OpeningStage D → Type 0
LedOpening tells size contents faults old (Device step) got new =
    OthersStay (device_of step) old.devices new.devices
    × (size (device_in (device_of step) new.devices) ≡ size (device_in (device_of step) old.devices))
    × (new.opening.geometry ≡ old.opening.geometry)
    × MayGoOn (size new.devices.metadata) new.opening
    × DidForOpening tells old.mode old.opening step got (size (device_in (device_of step) old.devices)) (contents (device_in (device_of step) old.devices)) (faults (device_in (device_of step) old.devices)) new.opening (contents (device_in (device_of step) new.devices)) (faults (device_in (device_of step) new.devices))
    × (new.mode ≡ old.mode)
LedOpening tells size contents faults old want got new = ⊥
