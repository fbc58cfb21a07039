-- Whether the metadata that an opening read were left clean, and what an opening in passthrough does of it.
use Rattle.std.specs.Prelude.{◌≡◌, ◌<◌, ◌⊎◌, ℕ, true, false, List, Option, Some, None, length, slice_index_or}
use Rattle.wb_types.specs.declared.entry.Entry.{Entry}
use Rattle.wb_types.specs.declared.geometry.Geometry.{Geometry}
use Rattle.wb_types.specs.declared.mode.Mode.{Mode}
use Rattle.wb_types.specs.declared.mode.Mode.TheVariants.{Passthrough}
use Rattle.wb_types.specs.declared.refusal.Refusal.{Refusal}
use Rattle.wb_types.specs.declared.refusal.Refusal.TheVariants.{NotClean}
use Rattle.wb_disk.specs.Device.{History}
use Rattle.wb_dirty.specs.ImageReading.{with_bits}
use Rattle.wb_meta.specs.Conversions.{is_mapped_dirty}
use Rattle.wb_meta.specs.States.{CountsFault, IsOfReading}
use Rattle.wb_meta.specs.Sizes.{AreSameSizes}
use Rattle.wb_meta.specs.Reads.{AreStepsOn, ReadingGoesOn, ReadOneMore, StopsBy, IsDone}
use Rattle.wb_meta.specs.declared.read_steps.ReadSteps.{ReadSteps}
use Rattle.wb_meta.specs.declared.read_steps.ReadSteps.TheVariants.{Done as AllRead}
use Rattle.wb_meta.specs.declared.read_steps.State.{State}
use Rattle.wb_tasks.specs.declared.step.Got.{Got}
use Rattle.wb_tasks.specs.declared.step.Got.TheVariants.{Fault, Refused, More}
use Rattle.wb_devices.specs.Opened.{HasCome, HasGeneration, IsUnfit, got_of_refusal}
use Rattle.wb_devices.specs.declared.running.RunningCommit.{RunningCommit}

-- the entries that were read, with the dirty bits beside the tree, where they are kept apart
abbrev pub entries_of : {A : Type 0} → State A → List (Option Entry)
entries_of state = with_bits state.dirty state.tree.entries

-- no mapped block is dirty
abbrev pub AreAllClean : List (Option Entry) → Type 0
AreAllClean entries = (block : ℕ) → block < length entries → is_mapped_dirty (slice_index_or entries block None) ≡ false

-- some is
abbrev pub HasDirty : List (Option Entry) → Type 0
HasDirty entries = (block : ℕ) × (is_mapped_dirty (slice_index_or entries block None) ≡ true)

-- what was read was left clean: its root has the clean flag, and none of its entries is dirty
abbrev pub IsLeftClean : {A : Type 0} → State A → Type 0
IsLeftClean state = (state.root.clean ≡ true) × AreAllClean (entries_of state)

-- it was not
abbrev pub IsLeftUnclean : {A : Type 0} → State A → Type 0
IsLeftUnclean state = (state.root.clean ≡ false) ⊎ HasDirty (entries_of state)

-- all was read, of metadata of the sizes that are asked for, and they were not left clean
pub record IsUnclean {A : Type 0} (geometry : Geometry) (now : ReadSteps A) : Type 0 where
  pub state : State A
  pub all_read : now ≡ AllRead state
  pub fits : AreSameSizes state.root.geometry geometry
  pub unclean : IsLeftUnclean state

-- once all is read, of metadata of these sizes, they were left clean
abbrev pub IsCleanSoFar : {A : Type 0} → Geometry → ReadSteps A → Type 0
IsCleanSoFar {A} geometry now = (state : State A) → now ≡ AllRead state → AreSameSizes state.root.geometry geometry → IsLeftClean state

-- Why a reading that has come so far is refused in this mode: as in every mode, in passthrough for no want of a next generation
-- before they are known to be clean; and in passthrough where they are not clean.
abbrev pub IsUnfitIn : {A : Type 0} → Mode → Geometry → ReadSteps A → Refusal → Type 0
IsUnfitIn mode geometry now refusal =
    (IsUnfit geometry now refusal × (mode ≡ Passthrough → IsCleanSoFar geometry now))
    ⊎ ((mode ≡ Passthrough) × (refusal ≡ NotClean) × IsUnclean geometry now)

-- What becomes of an opening in this mode whose reading has come so far: what becomes of it in every mode, in passthrough only
-- where the metadata are clean, as far as they are read; where they are not, in passthrough, it is refused, and nothing is to be written.
abbrev pub HasComeIn : {A : Type 0} → Mode → Geometry → ℕ → ReadSteps A → Option RunningCommit → Got → Option (ReadSteps A) → Option RunningCommit → Type 0
HasComeIn mode geometry left now commit got after commit' =
    (HasCome geometry left now commit got after commit' × (mode ≡ Passthrough → IsCleanSoFar geometry now))
    ⊎ ((mode ≡ Passthrough) × (got ≡ Refused NotClean) × (after ≡ None) × (commit' ≡ commit) × IsUnclean geometry now)

-- A sector was read by an opening in this mode: the reading goes on from what it was, by that sector, as the device says, where it
-- tells, or stops for what wb_meta says.
abbrev pub DidReadIn : {A : Type 0} → Mode → Type 0 → Geometry → ℕ → ReadSteps A → List History → ℕ → Option RunningCommit → Got → Option (ReadSteps A) → ℕ → Option RunningCommit → Type 0
DidReadIn {A} mode tells geometry left was device faults commit got after faults' commit' =
    ((now : ReadSteps A) × (tells → ReadingGoesOn was device now) × (tells → faults' ≡ faults) × HasComeIn mode geometry left now commit got after commit'
    × ReadOneMore was now × (HasGeneration commit → HasGeneration commit'))
    ⊎ ((refusal : Refusal) × (tells → StopsBy was device refusal) × (tells → CountsFault refusal faults faults') × (got ≡ got_of_refusal refusal) × (after ≡ None) × (commit' ≡ commit) × IsOfReading refusal)

-- What a step of an opening in this mode did, from the reading that was there: with none, the opening was over, and nothing was read.
abbrev pub DidOpenIn : {A : Type 0} → Mode → Type 0 → Geometry → ℕ → Option (ReadSteps A) → List History → ℕ → Option RunningCommit → Got → Option (ReadSteps A) → ℕ → Option RunningCommit → Type 0
DidOpenIn mode tells geometry left None device faults commit got after faults' commit' = (got ≡ Fault) × (after ≡ None) × (faults' ≡ faults) × (commit' ≡ commit)
DidOpenIn mode tells geometry left (Some was) device faults commit got after faults' commit' = DidReadIn mode tells geometry left was device faults commit got after faults' commit'

-- A sector's content was told to an opening in this mode, on a device of so many sectors: the reading goes on from what it was, by what stands
-- there, or stops for what wb_meta says. No device has failed. Where it goes on with more to read, not all was read.
abbrev pub DidTell : {A : Type 0} → Mode → Geometry → ℕ → ℕ → ReadSteps A → List History → Option RunningCommit → Got → Option (ReadSteps A) → Option RunningCommit → Type 0
DidTell {A} mode geometry sectors left was device commit got after commit' =
    ((now : ReadSteps A) × ReadingGoesOn was device now × AreStepsOn sectors now × HasComeIn mode geometry left now commit got after commit'
    × ReadOneMore was now × (HasGeneration commit → HasGeneration commit') × (got ≡ More → ¬ IsDone now))
    ⊎ ((refusal : Refusal) × StopsBy was device refusal × IsOfReading refusal × ((faults : ℕ) → CountsFault refusal faults faults) × (got ≡ got_of_refusal refusal) × (after ≡ None) × (commit' ≡ commit))
