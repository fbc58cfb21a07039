-- What an opening of a target keeps from step to step.
use Rattle.std.specs.Prelude.{◌≡◌, ◌≤◌, ◌⊎◌, ◌&&◌, ◌^◌, ℕ, Bool, true, false, List, [], All, Option, Some, Result, Ok, Err, is_none, length}
use Rattle.std.specs.declared.alloc.Global.{Global}
use Rattle.wb_types.specs.declared.geometry.Geometry.{Geometry}
use Rattle.wb_types.specs.declared.entry.Entry.{Entry}
use Rattle.wb_types.specs.declared.number.Place.{Place}
use Rattle.wb_types.specs.declared.refusal.Refusal.{Refusal}
use Rattle.wb_types.specs.declared.refusal.Refusal.TheVariants.{Memory, BadMessage}
use Rattle.wb_types.specs.declared.message.Key.{Key}
use Rattle.wb_types.specs.declared.message.Key.TheVariants.{MigrationThreshold, PromoteMin}
use Rattle.wb_types.specs.declared.mode.Mode.{Mode}
use Rattle.wb_types.specs.declared.mode.Mode.TheVariants.{Passthrough}
use Rattle.wb_tree.specs.Mapping.{Mapping}
use Rattle.wb_tree.specs.declared.image.Image.{Image}
use Rattle.wb_meta.specs.declared.read_steps.State.{State}
use Rattle.wb_meta.specs.declared.read_steps.ReadSteps.TheVariants.{Done as AllRead}
use Rattle.wb_desk.specs.Desks.{mapped_now}
use Rattle.wb_desk.specs.Opening.{opened, last_value, threshold_of, IsSet, IsBad}
use Rattle.wb_tasks.specs.declared.step.DeviceStep.TheVariants.{WriteNode, WriteRoot}
use Rattle.wb_tasks.specs.declared.step.Want.TheVariants.{Device}
use Rattle.wb_devices.specs.declared.running.RunningCommit.{RunningCommit}
use Rattle.wb_disk.specs.Device.{History}
use Rattle.wb_tasks.specs.declared.step.Got.TheVariants.{Fault}
use Rattle.wb_devices.specs.OpeningLed.{LedOpening}
use Rattle.wb_devices.specs.declared.opening_stage.OpeningStage.{OpeningStage}
use Rattle.wb_tasks.specs.Ready.{IsOpenings}
use Rattle.wb_tasks.specs.Tables.{Opening as OpeningJob}
use Rattle.wb_tasks.specs.Plan.{table}
use Rattle.wb_tasks.specs.Run.{IsRunOf, Leads}
use Rattle.wb_tasks.specs.declared.step.Answer.{Answer}
use Rattle.wb_tasks.specs.declared.step.Want.{Want}
use Rattle.wb_tasks.specs.declared.step.Got.{Got}
use Rattle.wb_devices.specs.Openings.{MayGoOn, HasNotBegun}
use Rattle.wb_devices.specs.declared.devices.Devices.{Devices}
use Rattle.wb_devices.specs.declared.opening.Opening.{Opening}
use Rattle.wb_devices.specs.Clean.{IsLeftClean, entries_of}
use Rattle.wb_devices.specs.Outcomes.{IsOpen, IsOpenOver, DataIsDurable}
use Rattle.wb_port.specs.declared.seat.Seat.{Seat}
use Rattle.wb_target.specs.Opening.{opened_mapping, seals_stored}
use Rattle.wb_target.specs.declared.making.MakingStage.{MakingStage}
use Rattle.wb_target.specs.Offices.{OfficeState}
use Rattle.wb_target.specs.declared.target.TheConstants.{CLIENTS}

-- it serves the steps of an opening, and no others
abbrev pub IsReadyToMake : {D P : Type 0} → (D → ℕ) → MakingStage D P → Want → Type 0
IsReadyToMake size making want = IsOpenings want × MayGoOn (size making.stage.devices.metadata) making.stage.opening

-- how a policy may begin, over these sizes with these entries
abbrev pub PolicyStarts : Type 0 → Type 1
PolicyStarts P = Geometry → List (Option Entry) → P → Type 0

-- What lies under a target's lock was made of this tree, whose places are these, by a root of this generation, in this mode, with the last value of each
-- key: its desk, whose policy began with these entries; and as many seats as there may be clients, of the same words as the one that watches, by which the blocks of these entries, and no
-- others, were sealed.
pub record IsMade {P : Type 0} (starts : PolicyStarts P) (with_setting : P → Key → ℕ → Option P) (geometry : Geometry) (generation : ℕ) (tree : Mapping) (used : List Place) (entries : List (Option Entry)) (mode : Mode) (keys : List (Key × ℕ)) (office : OfficeState P) : Type 0 where
  pub desk_is : office.desk ≡ opened geometry generation tree used mode office.desk.policy (threshold_of (last_value MigrationThreshold keys)) (mapped_now office.desk)
  pub first : P
  pub begins : starts geometry entries first
  pub policy : IsSet with_setting first (last_value PromoteMin keys) office.desk.policy
  pub many : length office.seats ≡ CLIENTS
  pub words : All (λ (seat : Seat). seat.cells.value.table ≡ office.watch.cells.value.table) office.seats
  pub sealed : office.watch.pass.card.stored ≡ seals_stored 0 entries []

-- it was made of this state, as it is opened, by the root of this image
abbrev pub IsMadeOf : {P : Type 0} → PolicyStarts P → (P → Key → ℕ → Option P) → State Global → Image → Mode → List (Key × ℕ) → OfficeState P → Type 0
IsMadeOf starts with_setting state image mode keys office = IsMade starts with_setting state.root.geometry image.root.generation state.tree state.used.items (opened_mapping state.root.clean (entries_of state)) mode keys office

-- it was made of what was read, or was converted, by the root that comes next
pub record IsMadeOfRead {D P : Type 0} (starts : PolicyStarts P) (with_setting : P → Key → ℕ → Option P) (making : MakingStage D P) (office : OfficeState P) : Type 0 where
  pub state : State Global
  pub next : RunningCommit
  pub reading_is : making.stage.opening.reading ≡ Some (AllRead state)
  pub commit_is : making.stage.opening.commit ≡ Some next
  pub made : IsMadeOf starts with_setting state next.image making.stage.mode making.keys.now office

-- a node or the root
abbrev pub writes_metadata : Want → Bool
writes_metadata (Device (WriteNode number)) = true
writes_metadata (Device WriteRoot) = true
writes_metadata want = false

-- it is to be made before the first step that writes
abbrev pub is_due : {M : Type 0} → Option M → Want → Bool
is_due made want = writes_metadata want && is_none made

abbrev pub MadeFirst : {D P : Type 0} → PolicyStarts P → (P → Key → ℕ → Option P) → MakingStage D P → Want → Option (Result (OfficeState P) Refusal) → Type 0
MadeFirst {D} {P} starts with_setting making want made = is_due making.made want ≡ true → (office : OfficeState P) × (made ≡ Some (Ok office)) × IsMadeOfRead starts with_setting making office

-- and once alone
abbrev pub IsMadeOnce : {M : Type 0} → Option M → Want → Option M → Type 0
IsMadeOnce old want new = is_due old want ≡ false → new ≡ old

-- one of these keys has a value that is out of its range: the threshold's, or that of the policy's own setting
abbrev pub HasBadKey : {P : Type 0} → (P → Key → ℕ → Option P) → List (Key × ℕ) → Type 0
HasBadKey {P} with_setting keys = (2 ^ 32 ≤ threshold_of (last_value MigrationThreshold keys)) ⊎ ((policy : P) × IsBad with_setting policy (last_value PromoteMin keys))

-- Why nothing was made of what was read.
abbrev pub IsNotMadeFor : {P : Type 0} → (P → Key → ℕ → Option P) → List (Key × ℕ) → Refusal → Type 0
IsNotMadeFor with_setting keys refusal = (refusal ≡ Memory) ⊎ ((refusal ≡ BadMessage) × HasBadKey with_setting keys)

-- Not all was read, or no root is to come.
abbrev pub HasNothingToMakeOf : Opening → Type 0
HasNothingToMakeOf opening = (state : State Global) (next : RunningCommit) → opening.reading ≡ Some (AllRead state) → opening.commit ≡ Some next → ⊥

-- Nothing was made of what this opening has read: there was nothing to make it of, or why it could not be made is kept.
abbrev pub WasNotMade : {O P : Type 0} → (P → Key → ℕ → Option P) → List (Key × ℕ) → Opening → Option (Result O Refusal) → Option (Result O Refusal) → Type 0
WasNotMade with_setting keys opening old new = (HasNothingToMakeOf opening × (new ≡ old)) ⊎ ((cause : Refusal) × (new ≡ Some (Err cause)) × IsNotMadeFor with_setting keys cause)

-- The stage that the opening's own step begins with: it is as it was, but for what was read, which is taken for the target where that is due.
pub record IsTakenFor {D : Type 0} (due : Bool) (old before : OpeningStage D) : Type 0 where
  pub others : due ≡ false → before ≡ old
  pub devices : before.devices ≡ old.devices
  pub commit : before.opening.commit ≡ old.opening.commit
  pub geometry : before.opening.geometry ≡ old.opening.geometry

-- A step is one of the opening in its mode, over what was read so far or, where that was taken for the target, without it, and that was made before the first
-- node or root is written, and stays; or it was due and could not be made, and no device was asked. What was read so far, where it is still there, is of the metadata device; the keys stay.
abbrev pub MakingGoesOn : {D P : Type 0} → Type 0 → (D → ℕ) → (D → List History) → (D → ℕ) → PolicyStarts P → (P → Key → ℕ → Option P) → MakingStage D P → Want → Got → MakingStage D P → Type 0
MakingGoesOn {D} tells size contents faults starts with_setting old want got new =
    MayGoOn (size new.stage.devices.metadata) new.stage.opening
    × (new.stage.mode ≡ old.stage.mode)
    × (new.keys ≡ old.keys)
    × (((before : OpeningStage D) × IsTakenFor (is_due old.made want) old.stage before × LedOpening tells size contents faults before want got new.stage × MadeFirst starts with_setting old want new.made × IsMadeOnce old.made want new.made)
    ⊎ ((got ≡ Fault) × (is_due old.made want ≡ true) × (new.stage.devices ≡ old.stage.devices) × WasNotMade with_setting old.keys.now old.stage.opening old.made new.made))

-- An opening in this mode that had not begun was run over these devices, by its table up to this answer, and what its devices are then is handed back.
pub record WasRun {D P : Type 0} (tells : Type 0) (size : D → ℕ) (contents : D → List History) (faults : D → ℕ) (starts : PolicyStarts P) (with_setting : P → Key → ℕ → Option P) (mode : Mode) (devices : Devices D) (answer : Answer) (back : Devices D) : Type 0 where
  pub left : ℕ
  pub first : MakingStage D P
  pub last : MakingStage D P
  pub over : first.stage.devices ≡ devices
  pub in_mode : first.stage.mode ≡ mode
  pub not_begun : HasNotBegun first.stage.opening
  pub steps : List (Want × Got)
  pub run : IsRunOf (table (OpeningJob left)) steps answer
  pub leads : Leads (MakingGoesOn tells size contents faults starts with_setting) first steps last
  pub back_is : back ≡ last.stage.devices

-- What an opening has opened, with these keys, over devices that were these and are those: all of the opening was done; its state is what the metadata
-- represented when they were made durable, and since then the next root alone was written there, and is durable; or they were of version 1, and its state is the
-- same as version 2 has it, whose nodes and root were written since then, and are durable. What cache and origin held is durable; in passthrough it was left
-- clean. And what lies under the target's lock was made of just that state, by that root, desk and seals: so what its mapping shows of each sector is the content that is on
-- the place which the metadata name.
pub record WasOpened {D P : Type 0} (tells : Type 0) (size : D → ℕ) (contents : D → List History) (starts : PolicyStarts P) (with_setting : P → Key → ℕ → Option P) (mode : Mode) (keys : List (Key × ℕ)) (devices back : Devices D) : Type 0 where
  pub opening : Opening
  pub done : IsOpen (size back.metadata) opening
  pub over : tells → IsOpenOver done (contents devices.metadata) (contents back.metadata)
  pub durable : tells → DataIsDurable contents devices back
  pub clean : mode ≡ Passthrough → IsLeftClean done.state
  pub office : OfficeState P
  pub made : IsMadeOf starts with_setting done.state done.next.image mode keys office
