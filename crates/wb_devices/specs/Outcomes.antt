-- How an opening has ended.
use Rattle.std.specs.Prelude.{◌≡◌, ◌≢◌, ◌⊎◌, ℕ, List, Some, None, [], map}
use Rattle.std.specs.declared.alloc.Global.{Global}
use Rattle.wb_types.specs.declared.geometry.Geometry.{Geometry}
use Rattle.wb_types.specs.declared.mode.Dev.{Dev}
use Rattle.wb_types.specs.declared.mode.Mode.{Mode}
use Rattle.wb_types.specs.declared.mode.Mode.TheVariants.{Passthrough}
use Rattle.wb_types.specs.declared.refusal.Refusal.{Refusal}
use Rattle.wb_types.specs.declared.refusal.Refusal.TheVariants.{Io}
use Rattle.wb_disk.specs.Device.{Content, History, newest, synced, written}
use Rattle.wb_format.specs.Layout.{SpellsRoot}
use Rattle.wb_meta.specs.Commits.{CommitHasCome}
use Rattle.wb_meta.specs.Openings.{reopened}
use Rattle.wb_meta.specs.Reads.{FitsDevice, HasRead}
use Rattle.wb_meta.specs.States.{RepresentsState, IsRefusedBy}
use Rattle.wb_meta.specs.Steps.{slot_of}
use Rattle.wb_meta.specs.declared.commit_steps.CommitSteps.TheVariants.{Done as Committed}
use Rattle.wb_meta.specs.declared.read_steps.ReadSteps.{ReadSteps}
use Rattle.wb_meta.specs.declared.read_steps.ReadSteps.TheVariants.{Done as AllRead}
use Rattle.wb_meta.specs.declared.read_steps.State.{State}
use Rattle.wb_tasks.specs.declared.step.Answer.{Answer}
use Rattle.wb_tasks.specs.declared.step.Answer.TheVariants.{Done as Finished, Refused as Refuses}
use Rattle.wb_devices.specs.Clean.{IsLeftClean, IsUnfitIn}
use Rattle.wb_devices.specs.Converting.{IsConverted, WantsConversion}
use Rattle.wb_devices.specs.Sizes.{IsServedBy}
use Rattle.wb_devices.specs.declared.devices.Devices.{Devices}
use Rattle.wb_devices.specs.declared.opening.Opening.{Opening}
use Rattle.wb_devices.specs.declared.opening_stage.OpeningStage.{OpeningStage}
use Rattle.wb_devices.specs.declared.running.RunningCommit.{RunningCommit}

-- All of an opening was done, over a metadata device of so many sectors: a tree of a geometry that serves was read, or written anew so
-- that it serves, and the root that comes next over it, of the same geometry and not clean, was written.
pub record IsOpen (sectors : ℕ) (opening : Opening) : Type 0 where
  pub state : State Global
  pub reading_is : opening.reading ≡ Some (AllRead state)
  pub fits : FitsDevice sectors state.root state.tree state.used.items
  pub serves : IsServedBy state.root.geometry opening.geometry
  pub next : RunningCommit
  pub commit_is : opening.commit ≡ Some next
  pub opens : next.image.root ≡ reopened state.root
  pub is_done : next.steps ≡ Committed

-- the state for who works on it: what was read, by the root that was written
abbrev pub opened_state : {sectors : ℕ} {opening : Opening} → IsOpen sectors opening → State Global
opened_state opened = record opened.state { root = opened.next.image.root }

-- What was read is what the metadata device represented when it was made durable, and since then nothing but that root was
-- written there; it is durable.
pub record IsOpenAsItWas {sectors : ℕ} {opening : Opening} (opened : IsOpen sectors opening) (before after : List History) : Type 0 where
  pub represents : RepresentsState (map newest (synced before)) opened.state.root opened.state.tree opened.state.dirty opened.state.used.items
  pub no_nodes : opened.next.image.nodes.items ≡ []
  pub content : Content
  pub spelled : SpellsRoot content opened.next.image.root
  pub wrote : after ≡ synced (written (synced before) (slot_of opened.next.image.root).0 content)

-- What the metadata device represented then was of the first version, and is as the second has it; since then nothing but the nodes of
-- that image was written there, and behind them its root, and all of it is durable.
pub record IsOpenAnew {sectors : ℕ} {opening : Opening} (opened : IsOpen sectors opening) (before after : List History) : Type 0 where
  pub old : State Global
  pub represents : RepresentsState (map newest (synced before)) old.root old.tree old.dirty old.used.items
  pub wants : WantsConversion opening.geometry (AllRead old) old
  pub converted : IsConverted opening.geometry old opened.next.image opened.state
  pub wrote : CommitHasCome opened.next.image (synced before) Committed after

-- either of the two
abbrev pub IsOpenOver : {sectors : ℕ} {opening : Opening} → IsOpen sectors opening → List History → List History → Type 0
IsOpenOver opened before after = IsOpenAsItWas opened before after ⊎ IsOpenAnew opened before after

-- all that was written to cache and origin is durable
abbrev pub DataIsDurable : {D : Type 0} → (D → List History) → Devices D → Devices D → Type 0
DataIsDurable contents old new = (contents new.cache ≡ synced (contents old.cache)) × (contents new.origin ≡ synced (contents old.origin))

-- Why these sectors are refused in this mode: for what wb_meta says, for a root of other sizes or one that has no next one, for want of memory
-- where they are to be written anew, or in passthrough because they were not left clean.
abbrev pub IsRefusedFor : Mode → List Content → Geometry → Refusal → Type 0
IsRefusedFor mode sectors geometry refusal = IsRefusedBy sectors refusal ⊎ ((now : ReadSteps Global) × HasRead sectors now × IsUnfitIn mode geometry now refusal)

-- The metadata were refused: they are as they were made durable, and nothing is left to be written.
pub record IsRefused {D : Type 0} (tells : Type 0) (contents : D → List History) (old new : OpeningStage D) (refusal : Refusal) : Type 0 where
  pub nothing_read : new.opening.reading ≡ None
  pub nothing_written : new.opening.commit ≡ None
  pub metadata : tells → contents new.devices.metadata ≡ synced (contents old.devices.metadata)
  pub copies : tells → DataIsDurable contents old.devices new.devices
  pub cause : tells → IsRefusedFor old.mode (map newest (synced (contents old.devices.metadata))) old.opening.geometry refusal

-- How an opening that had not begun has ended: all of it was done, in passthrough over metadata that were left clean; or a device
-- failed, or what was read is refused.
abbrev pub OpeningHasEnded : {D : Type 0} → Type 0 → (D → ℕ) → (D → List History) → OpeningStage D → Answer → OpeningStage D → Type 0
OpeningHasEnded tells size contents old Finished new = (opened : IsOpen (size new.devices.metadata) new.opening)
    × (tells → IsOpenOver opened (contents old.devices.metadata) (contents new.devices.metadata))
    × (tells → DataIsDurable contents old.devices new.devices)
    × (old.mode ≡ Passthrough → IsLeftClean opened.state)
OpeningHasEnded tells size contents old (Refuses refusal) new = ((device : Dev) → refusal ≢ Io device) → IsRefused tells contents old new refusal
