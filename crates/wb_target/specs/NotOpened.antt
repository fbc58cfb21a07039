-- Why no target was opened.
use Rattle.std.specs.Prelude.{◌≡◌, ◌≢◌, ◌⊎◌, ◌*◌, ℕ, Bool, List, Option, Some, Result, Err, map}
use Rattle.wb_types.specs.Versions.{version_asked}
use Rattle.wb_types.specs.declared.geometry.Geometry.{Geometry}
use Rattle.wb_types.specs.declared.message.Key.{Key}
use Rattle.wb_types.specs.declared.refusal.Refusal.{Refusal}
use Rattle.wb_types.specs.declared.refusal.Refusal.TheVariants.{Geometry as NoGeometry, Io}
use Rattle.wb_types.specs.declared.mode.Dev.{Dev}
use Rattle.wb_types.specs.declared.mode.Dev.TheVariants.{Metadata}
use Rattle.wb_types.specs.declared.mode.Mode.{Mode}
use Rattle.wb_disk.specs.Device.{History, newest, synced}
use Rattle.wb_tasks.specs.declared.step.Answer.{Answer}
use Rattle.wb_tasks.specs.declared.step.Answer.TheVariants.{Refused as Refuses}
use Rattle.wb_devices.specs.Outcomes.{DataIsDurable, IsRefusedFor}
use Rattle.wb_target.specs.Making.{PolicyStarts, WasRun, IsNotMadeFor}
use Rattle.wb_devices.specs.declared.devices.Devices.{Devices}

-- This geometry has the sizes of these devices, of which cache and origin are of whole blocks, and metadata of the version that is asked for.
pub record IsOfSizes {D : Type 0} (size : D → ℕ) (devices : Devices D) (block : ℕ) (metadata2 : Bool) (geometry : Geometry) : Type 0 where
  pub block_is : geometry.block ≡ block
  pub cache : geometry.cache_blocks * block ≡ size devices.cache
  pub origin : geometry.origin_blocks * block ≡ size devices.origin
  pub metadata : geometry.meta_sectors ≡ size devices.metadata
  pub version : geometry.version ≡ version_asked metadata2

-- none has: they are outside the limits, not of whole blocks, or too small for that version
abbrev pub AreNoSizes : {D : Type 0} → (D → ℕ) → Devices D → ℕ → Bool → Type 0
AreNoSizes size devices block metadata2 = (geometry : Geometry) → ¬ IsOfSizes size devices block metadata2 geometry

-- what is told of an opening that was refused: why nothing could be made, where that was so, and else why it was refused itself
abbrev pub IsToldOf : {O : Type 0} → Option (Result O Refusal) → Answer → Refusal → Type 0
IsToldOf (Some (Err cause)) answer refusal = refusal ≡ cause
IsToldOf made answer refusal = answer ≡ Refuses refusal

-- All three devices are as they were made durable, and nothing more was written.
pub record AreOnlySynced {D : Type 0} (tells : Type 0) (contents : D → List History) (devices back : Devices D) : Type 0 where
  pub metadata : tells → contents back.metadata ≡ synced (contents devices.metadata)
  pub copies : tells → DataIsDurable contents devices back

-- The metadata were refused in this mode, for what they are once they are durable, or for what is asked of them by the sizes of the devices.
pub record WereRefused {D : Type 0} (tells : Type 0) (size : D → ℕ) (contents : D → List History) (mode : Mode) (block : ℕ) (metadata2 : Bool) (devices : Devices D) (refusal : Refusal) (back : Devices D) : Type 0 where
  pub durable : AreOnlySynced tells contents devices back
  pub geometry : Geometry
  pub asked : IsOfSizes size devices block metadata2 geometry
  pub cause : tells → IsRefusedFor mode (map newest (synced (contents devices.metadata))) geometry refusal

-- Before anything was written no target could be made: there is none for want of memory, or for a key's value.
pub record WasReadOnly {D P : Type 0} (tells : Type 0) (size : D → ℕ) (contents : D → List History) (faults : D → ℕ) (starts : PolicyStarts P) (with_setting : P → Key → ℕ → Option P) (mode : Mode) (keys : List (Key × ℕ)) (devices : Devices D) (refusal : Refusal) (back : Devices D) : Type 0 where
  pub run : WasRun tells size contents faults starts with_setting mode devices (Refuses (Io Metadata)) back
  pub durable : AreOnlySynced tells contents devices back
  pub cause : IsNotMadeFor with_setting keys refusal

-- Why no target was opened over devices that were these and are those: no cache has their sizes, and they are as they were; or no target could be made;
-- or a run of the opening's table ended so, and unless it was that a device failed, the metadata were refused.
abbrev pub IsNotOpened : {D P : Type 0} → Type 0 → (D → ℕ) → (D → List History) → (D → ℕ) → PolicyStarts P → (P → Key → ℕ → Option P) → Mode → List (Key × ℕ) → ℕ → Bool → Devices D → Devices D → Refusal → Type 0
IsNotOpened tells size contents faults starts with_setting mode keys block metadata2 devices back refusal =
    ((refusal ≡ NoGeometry) × AreNoSizes size devices block metadata2 × (back ≡ devices))
    ⊎ WasReadOnly tells size contents faults starts with_setting mode keys devices refusal back
    ⊎ (WasRun tells size contents faults starts with_setting mode devices (Refuses refusal) back
    × (((device : Dev) → refusal ≢ Io device) → WereRefused tells size contents mode block metadata2 devices refusal back))
