-- The steps of an opening on devices are what wb_promise says, wherever it stands.
use Rattle.std.proofs.Common.{◌≡◌, ◌<◌, ◌==◌, ◌&&◌, inl, inr, ℕ, Bool, true, [], Option, Some, None, refl, sym, ap, subst, ◌∙◌, length}
use Rattle.std.proofs.lemmas.Bool.{eq-eqb}
use Rattle.wb_types.specs.declared.geometry.Geometry.{Geometry}
use Rattle.wb_types.specs.declared.mode.Dev.{Dev}
use Rattle.wb_types.specs.declared.mode.Dev.TheVariants.{Metadata, Cache, Origin}
use Rattle.wb_disk.specs.Device.{synced}
use Rattle.wb_disk.specs.Memory.{Memory}
use Rattle.wb_disk.specs.Crash.{Choice}
use Rattle.wb_disk.specs.Failing.{MayFail}
use Rattle.wb_meta.specs.declared.commit_steps.CommitSteps.{CommitSteps}
use Rattle.wb_meta.specs.declared.commit_steps.CommitSteps.TheVariants.{NodesWritten, NodesSynced, RootWritten, Done as Committed}
use Rattle.wb_meta.specs.declared.read_steps.ReadSteps.{ReadSteps}
use Rattle.wb_tree.specs.declared.image.Image.{Image}
use Rattle.std.specs.declared.alloc.Global.{Global}
use Rattle.wb_format.specs.declared.root.Root.{Root}
use Rattle.wb_tasks.specs.Plan.{want, after, device_of}
use Rattle.wb_tasks.specs.declared.step.DeviceStep.{DeviceStep}
use Rattle.wb_tasks.specs.declared.step.DeviceStep.TheVariants.{ReadMetadata, Sync, WriteNode, WriteRoot}
use Rattle.wb_tasks.specs.declared.step.Want.TheVariants.{Device}
use Rattle.wb_tasks.specs.declared.step.Got.TheVariants.{Done, Fault}
use Rattle.wb_devices.specs.Committing.{goes_on, is_coming}
use Rattle.wb_devices.specs.declared.devices.Devices.{Devices}
use Rattle.wb_devices.specs.Moving.{device_in}
use Rattle.wb_devices.specs.declared.running.RunningCommit.{RunningCommit}
use Rattle.wb_promise.specs.declared.event.Event.TheVariants.{Step, FaultStep}
use Rattle.wb_promise.specs.declared.event.What.{What}
use Rattle.wb_promise.specs.declared.event.What.TheVariants.{Stepped}
use Rattle.wb_promise.specs.States.{Shape, with_device}
use Rattle.wb_promise.specs.Effects.{led}
use Rattle.wb_machine.specs.declared.opener.Opener.{Opener}
use Rattle.wb_machine.specs.Life.{Now, FailsOn, Happens, MayBePut, WasPut, commit_failed, commit_synced, contents_of, device_step_of, reading_failed, reading_synced, state_of}
use Rattle.wb_machine.specs.declared.phase.Phase.TheVariants.{Underway}
use Rattle.wb_machine.specs.Serving.{ComesNext, IsPut, PutComes, SyncComes}
use Rattle.wb_machine.specs.Making.{reading_of}
use Rattle.wb_machine.specs.Standing.{HasReadAll, StandsAt}
use Rattle.wb_machine.proofs.Openings.{at_commit, fails, fails_to_put, fails_to_settle, puts, settles, syncs}
use Rattle.wb_machine.proofs.Standing.{CommitGoesOn, finds}

-- a sync that is not of the root leaves no commit where there is none
still_none : (device : Dev) (commit : Option RunningCommit) → commit ≡ None → commit_synced device commit ≡ None
still_none Metadata commit e = ap (λ (c : Option RunningCommit). commit_synced Metadata c) e
still_none Cache commit e = e
still_none Origin commit e = e

none_failed : (device : Dev) (commit : Option RunningCommit) → commit ≡ None → commit_failed device commit ≡ None
none_failed Metadata commit e = refl
none_failed Cache commit e = e
none_failed Origin commit e = e

-- the step is the commit's next one
comes_next : (c : RunningCommit) (size : ℕ) (step : DeviceStep) → size ≡ c.image.root.geometry.meta_sectors → is_coming c.image c.steps step ≡ true → goes_on size c.image c.steps step ≡ true
comes_next c size step fits coming = ap (λ (b : Bool). b && (size == c.image.root.geometry.meta_sectors)) coming ∙ eq-eqb size c.image.root.geometry.meta_sectors fits

-- the commit of an opening fits the device
fits_device : {commit : Option RunningCommit} {reading : Option (ReadSteps Global)} (g : Geometry) (size : ℕ) (all : HasReadAll g reading commit) → size ≡ g.meta_sectors → size ≡ all.next.image.root.geometry.meta_sectors
fits_device g size all whole = whole ∙ sym all.sizes.meta_sectors ∙ ap (λ (r : Root). r.geometry.meta_sectors) (sym all.root_is)

-- of what it writes or syncs the last are the metadata
syncs_metadata : (image : Image) (steps : CommitSteps) (device : Dev) → is_coming image steps (Sync device) ≡ true → device ≡ Metadata
syncs_metadata image steps Metadata e = refl
syncs_metadata image (NodesWritten count) device e = absurd (cc)
syncs_metadata image NodesSynced device e = absurd (cc)
syncs_metadata image RootWritten device e = absurd (cc)
syncs_metadata image Committed device e = absurd (cc)

module _ (shape : Shape) (n : ℕ) (devices devices' : Devices Memory) (o new : Opener) (h : o.asked.actor < n) (same : new.asked ≡ o.asked)
    (whole : length devices.metadata.contents ≡ shape.geometry.meta_sectors) (stands : StandsAt shape.geometry n o) where
  abbrev Step_to : What → Now → Type 0
  Step_to what w = Happens shape w (Step o.asked.actor) what [] (state_of n devices' (Underway new))

  commit_settles : (device : Dev) (what : What) → device ≡ Metadata → CommitGoesOn shape.geometry (Sync device) (reading_of o) o.opening.commit → want o.task ≡ Device (Sync device) → what ≡ Stepped (Device (Sync device)) Done → new.task ≡ after o.task Done →
      (reading_of new) ≡ reading_synced o.opening.alloc device o.opening.commit (reading_of o) → new.opening.commit ≡ commit_synced device o.opening.commit →
      contents_of devices' ≡ with_device device (contents_of devices) (synced (device_in device (contents_of devices))) → Step_to what (state_of n devices (Underway o))
  commit_settles Metadata what is on next e t r c d = at_commit n devices o (Step_to what) (Some on.all.next) on.all.commit_is
      (settles shape n devices devices' o new h same on.all.next what next e (comes_next on.all.next (length devices.metadata.contents) (Sync Metadata) (fits_device shape.geometry (length devices.metadata.contents) on.all whole) on.coming) t
      (r ∙ ap (λ k. reading_synced o.opening.alloc Metadata k (reading_of o)) on.all.commit_is)
      (c ∙ ap (λ k. commit_synced Metadata k) on.all.commit_is) d)
  commit_settles device what is on next e t r c d = absurd (cc)

  pub syncs_there : (device : Dev) (what : What) → want o.task ≡ Device (Sync device) → what ≡ Stepped (Device (Sync device)) Done → new.task ≡ after o.task Done →
      (reading_of new) ≡ reading_synced o.opening.alloc device o.opening.commit (reading_of o) → new.opening.commit ≡ commit_synced device o.opening.commit →
      contents_of devices' ≡ with_device device (contents_of devices) (synced (device_in device (contents_of devices))) → Happens shape (state_of n devices (Underway o)) (Step o.asked.actor) what [] (state_of n devices' (Underway new))
  syncs_there device what next e t r c d = elim (finds shape.geometry n o (Sync device) stands (ap device_step_of next)) [
    | inl none ↦ at_commit n devices o (Step_to what) None none.0
        (syncs shape n devices devices' o new h same o.opening.alloc device what next e t (r ∙ ap (λ k. reading_synced o.opening.alloc device k (reading_of o)) none.0) (c ∙ still_none device o.opening.commit none.0) d)
    | inr on ↦ commit_settles device what (syncs_metadata on.all.next.image on.all.next.steps device on.coming) on next e t r c d
  ]

  pub puts_there : (step : DeviceStep) (what : What) → IsPut step → want o.task ≡ Device step → device_step_of (want o.task) ≡ Some step → what ≡ Stepped (Device step) Done → new.task ≡ after o.task Done → (reading_of new) ≡ (reading_of o) → new.opening.commit ≡ led o.opening.commit Done →
      WasPut o.opening.commit step devices.metadata.contents devices'.metadata.contents → contents_of devices' ≡ record (contents_of devices) { metadata = devices'.metadata.contents } → Happens shape (state_of n devices (Underway o)) (Step o.asked.actor) what [] (state_of n devices' (Underway new))
  puts_there step what put next kind e t r c was d = elim (finds shape.geometry n o step stands kind) [
    | inl none ↦ absurd (none.1 put)
    | inr on ↦ at_commit n devices o (Step_to what) (Some on.all.next) on.all.commit_is
        (puts shape n devices devices' o new h same on.all.next step what put next e
        (subst (λ (k : Option RunningCommit). WasPut k step devices.metadata.contents devices'.metadata.contents) on.all.commit_is was) t r
        (c ∙ ap (λ k. led k Done) on.all.commit_is) d)
  ]

  -- ---- steps that fail

  abbrev Fails_to : Choice → What → Now → Type 0
  Fails_to choice what w = Happens shape w (FaultStep o.asked.actor choice) what [] (state_of n devices' (Underway new))

  put_fails : (choice : Choice) (step : DeviceStep) (what : What) → IsPut step → CommitGoesOn shape.geometry step (reading_of o) o.opening.commit → want o.task ≡ Device step → what ≡ Stepped (Device step) Fault → MayFail (device_of step) choice (length (device_in (device_of step) (contents_of devices))) →
      new.task ≡ after o.task Fault → (reading_of new) ≡ reading_failed (device_of step) (reading_of o) → new.opening.commit ≡ commit_failed (device_of step) o.opening.commit →
      MayBePut o.opening.commit choice step devices.metadata.contents devices'.metadata.contents → contents_of devices' ≡ record (contents_of devices) { metadata = devices'.metadata.contents } → Fails_to choice what (state_of n devices (Underway o))
  put_fails choice step what put on next e m t r c may d = at_commit n devices o (Fails_to choice what) (Some on.all.next) on.all.commit_is
      (fails_to_put shape n devices devices' o new h same choice on.all.next step what put next e m
      (subst (λ (k : Option RunningCommit). MayBePut k choice step devices.metadata.contents devices'.metadata.contents) on.all.commit_is may) t r
      (c ∙ ap (λ k. commit_failed (device_of step) k) on.all.commit_is) d)

  never_read : (image : Image) (steps : CommitSteps) (left : ℕ) → is_coming image steps (ReadMetadata left) ≡ true → ⊥
  never_read image (NodesWritten count) left e = cc
  never_read image NodesSynced left e = cc
  never_read image RootWritten left e = cc
  never_read image Committed left e = cc

  commit_fails : (choice : Choice) (step : DeviceStep) (what : What) → CommitGoesOn shape.geometry step (reading_of o) o.opening.commit → device_step_of (want o.task) ≡ Some step → want o.task ≡ Device step → what ≡ Stepped (Device step) Fault → MayFail (device_of step) choice (length (device_in (device_of step) (contents_of devices))) →
      new.task ≡ after o.task Fault → (reading_of new) ≡ reading_failed (device_of step) (reading_of o) → new.opening.commit ≡ commit_failed (device_of step) o.opening.commit →
      FailsOn o.opening.commit step choice (contents_of devices) (contents_of devices') → Fails_to choice what (state_of n devices (Underway o))
  commit_fails choice (Sync Metadata) what on kind next e m t r c d = at_commit n devices o (Fails_to choice what) (Some on.all.next) on.all.commit_is
      (fails_to_settle shape n devices devices' o new h same choice on.all.next what next e (comes_next on.all.next (length devices.metadata.contents) (Sync Metadata) (fits_device shape.geometry (length devices.metadata.contents) on.all whole) on.coming) m t r c d)
  commit_fails choice (Sync Cache) what on kind next e m t r c d = let never = syncs_metadata on.all.next.image on.all.next.steps Cache on.coming in absurd (cc)
  commit_fails choice (Sync Origin) what on kind next e m t r c d = let never = syncs_metadata on.all.next.image on.all.next.steps Origin on.coming in absurd (cc)
  commit_fails choice (WriteNode number) what on kind next e m t r c d = put_fails choice (WriteNode number) what tt on next e m t r c d.0 d.1
  commit_fails choice WriteRoot what on kind next e m t r c d = put_fails choice WriteRoot what tt on next e m t r c d.0 d.1
  commit_fails choice (ReadMetadata left) what on kind next e m t r c d = absurd (never_read on.all.next.image on.all.next.steps left on.coming)
  commit_fails choice step what on kind next e m t r c d = let same : device_step_of (Device step) ≡ Some step = sym (ap device_step_of next) ∙ kind in absurd (cc)

  pub fails_there : (choice : Choice) (step : DeviceStep) (what : What) → device_step_of (want o.task) ≡ Some step → want o.task ≡ Device step → what ≡ Stepped (Device step) Fault → MayFail (device_of step) choice (length (device_in (device_of step) (contents_of devices))) →
      new.task ≡ after o.task Fault → (reading_of new) ≡ reading_failed (device_of step) (reading_of o) → new.opening.commit ≡ commit_failed (device_of step) o.opening.commit →
      FailsOn o.opening.commit step choice (contents_of devices) (contents_of devices') → Happens shape (state_of n devices (Underway o)) (FaultStep o.asked.actor choice) what [] (state_of n devices' (Underway new))
  fails_there choice step what kind next e m t r c d = elim (finds shape.geometry n o step stands kind) [
    | inl none ↦ at_commit n devices o (Fails_to choice what) None none.0
        (fails shape n devices devices' o new h same choice step what none.1 kind next e m t r (c ∙ none_failed (device_of step) o.opening.commit none.0)
        (subst (λ (k : Option RunningCommit). FailsOn k step choice (contents_of devices) (contents_of devices')) none.0 d))
    | inr on ↦ commit_fails choice step what on kind next e m t r c d
  ]

-- what an opening writes comes next of its commit
pub put_comes : (g : Geometry) (n : ℕ) (devices : Devices Memory) (o : Opener) (step : DeviceStep) → length devices.metadata.contents ≡ g.meta_sectors → StandsAt g n o → device_step_of (want o.task) ≡ Some step → IsPut step → ComesNext o.opening.commit step devices.metadata.contents
put_comes g n devices o step whole stands kind put = elim (finds g n o step stands kind) [
  | inl none ↦ absurd (none.1 put)
  | inr on ↦ subst (λ (k : Option RunningCommit). ComesNext k step devices.metadata.contents) (sym on.all.commit_is)
      (comes_next on.all.next (length devices.metadata.contents) step (fits_device g (length devices.metadata.contents) on.all whole) on.coming, tt)
]

pub step_comes : (g : Geometry) (n : ℕ) (devices : Devices Memory) (o : Opener) (step : DeviceStep) → length devices.metadata.contents ≡ g.meta_sectors → StandsAt g n o → device_step_of (want o.task) ≡ Some step → PutComes step o.opening.commit devices.metadata.contents
step_comes g n devices o (WriteNode number) whole stands kind = put_comes g n devices o (WriteNode number) whole stands kind tt
step_comes g n devices o WriteRoot whole stands kind = put_comes g n devices o WriteRoot whole stands kind tt
step_comes g n devices o step whole stands kind = tt

-- and so does a sync, where its commit runs
pub sync_comes : (g : Geometry) (n : ℕ) (devices : Devices Memory) (o : Opener) (device : Dev) → length devices.metadata.contents ≡ g.meta_sectors → StandsAt g n o → want o.task ≡ Device (Sync device) → SyncComes device o.opening.commit devices.metadata.contents
sync_comes g n devices o Cache whole stands next = tt
sync_comes g n devices o Origin whole stands next = tt
sync_comes g n devices o Metadata whole stands next = elim (finds g n o (Sync Metadata) stands (ap device_step_of next)) [
  | inl none ↦ subst (λ (k : Option RunningCommit). SyncComes Metadata k devices.metadata.contents) (sym none.0) tt
  | inr on ↦ subst (λ (k : Option RunningCommit). SyncComes Metadata k devices.metadata.contents) (sym on.all.commit_is)
      (comes_next on.all.next (length devices.metadata.contents) (Sync Metadata) (fits_device g (length devices.metadata.contents) on.all whole) on.coming)
]
