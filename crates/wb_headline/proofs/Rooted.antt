-- What is known of the metadata while an opening's root is on its way, and of the images after a step.
use Rattle.std.proofs.Common.{◌≡◌, ◌≢◌, ◌∙◌, inl, Bool, true, false, List, Some, None, refl, sym, ap, subst}
use Rattle.wb_types.specs.declared.geometry.Geometry.{Geometry}
use Rattle.wb_disk.specs.Device.{History}
use Rattle.wb_tree.specs.declared.image.Image.{Image}
use Rattle.wb_meta.specs.Sizes.{AreSameSizes}
use Rattle.wb_meta.specs.Steps.{DoesStep, FailsStep, steps_after}
use Rattle.wb_meta.specs.declared.commit_steps.CommitSteps.{CommitSteps}
use Rattle.wb_meta.specs.declared.commit_steps.CommitSteps.TheVariants.{NodesWritten, NodesSynced}
use Rattle.wb_meta.specs.declared.read_steps.ReadSteps.{ReadSteps}
use Rattle.wb_meta.specs.declared.read_steps.ReadSteps.TheVariants.{Done as AllRead}
use Rattle.wb_meta.specs.declared.read_steps.State.{State as StoredThere}
use Rattle.wb_meta.proofs.Stepping.{fails as step_fails}
use Rattle.wb_tasks.specs.declared.step.DeviceStep.{DeviceStep}
use Rattle.wb_tasks.specs.declared.step.DeviceStep.TheVariants.{WriteRoot}
use Rattle.wb_devices.specs.Committing.{is_coming}
use Rattle.wb_devices.specs.declared.running.RunningCommit.{RunningCommit}
use Rattle.wb_meta.specs.Roots.{MayBeReadAs, Commit}
use Rattle.wb_meta.proofs.Leading.{after_failure}
use Rattle.wb_runs.proofs.Sizes.{joined_sizes, read_by_sizes}
use Rattle.wb_runs.proofs.Images.{Images, Turn, Ends, Settles, Turned, later_of}
use Rattle.wb_runs.proofs.Underway.{Underway, Readable, images_of, is_written, underway_readable, led_on}
use Rattle.wb_headline.proofs.Underway.{failed_read, failed_written, written_before}
use Rattle.wb_runs.proofs.Metadata.{Rooting as RootingKept}

-- ---- the committed state

-- where one image stood alone
pub same_one : (turn : Turn) (old now : Images) → old.running ≡ None → Turned turn old now → now.committed ≡ old.committed
same_one Ends old now e t = absurd (let some = t.1 in let bad : None ≡ Some t.0 = sym e ∙ some in cc)
same_one (Settles true) old now e t = absurd (let some = t.1 in let bad : None ≡ Some t.0 = sym e ∙ some in cc)
same_one turn old now e t = ap (λ (i : Images). i.committed) t

-- ---- either of two states

module _ (g : Geometry) (of : Commit) (device : List History) where
  weaker : (written : Bool) → AreSameSizes of.new.root.geometry g → MayBeReadAs g of.old (later_of (images_of of written)) device → MayBeReadAs g of.old (Some of.new) device
  weaker true same m = m
  weaker false same m = record { size = m.size; sizes = m.sizes; later_sizes = same; represents = λ sectors left. inl (m.represents sectors left) }

  pub two_read : (images : Images) (commit : RunningCommit) → Underway g images commit of device → MayBeReadAs g of.old (Some of.new) device
  two_read images commit u =
      let r = underway_readable g images commit of device u in
      let here = subst (λ (i : Images). MayBeReadAs g i.committed (later_of i) device) u.are r.read in
      weaker (is_written commit.steps) (joined_sizes of.new.root.geometry of.old.root.geometry g u.can.sizes u.sizes) here

  -- also once a step of it failed
  pub two_left : (images : Images) (commit : RunningCommit) (new : List History) → Underway g images commit of device → FailsStep commit.image commit.steps device new → MayBeReadAs g of.old (Some of.new) new
  two_left images commit new u failing = read_by_sizes of.old.root.geometry g of.old (Some of.new) new u.sizes
      (after_failure of u.can commit.steps new (step_fails of.image of.old.root.geometry.meta_sectors of.before device new commit.steps u.can.places u.come (subst (λ (i : Image). FailsStep i commit.steps device new) (sym u.image) failing)))

  pub both_left : (images : Images) (commit : RunningCommit) (new : List History) → Underway g images commit of device → FailsStep commit.image commit.steps device new → Readable g (images_of of true) new
  both_left images commit new u failing = record { read = two_left images commit new u failing }

-- ---- before the root is written

-- a step that is not the root's leaves it unwritten
pub still_unwritten : (image : Image) (steps : CommitSteps) (step : DeviceStep) → is_coming image steps step ≡ true → (step ≢ WriteRoot) → is_written steps ≡ false → is_written (steps_after image steps) ≡ false
still_unwritten image steps step e n w = by (is_written (steps_after image steps)) refl
  where
    by : (b : Bool) → is_written (steps_after image steps) ≡ b → b ≡ false
    by false same = refl
    by true same = sym (written_before image steps step e n same) ∙ w

-- where it fails, too
failed_unwritten : (image : Image) (steps : CommitSteps) (step : DeviceStep) → is_coming image steps step ≡ true → (step ≢ WriteRoot) → is_written steps ≡ false → failed_written steps ≡ false
failed_unwritten image (NodesWritten count) step e n w = refl
failed_unwritten image NodesSynced WriteRoot e n w = absurd (n refl)
failed_unwritten image steps step e n w = absurd (cc)

module _ (g : Geometry) (images : Images) (commit : RunningCommit) (of : Commit) (device : List History) where
  -- the old state alone is read
  pub early_read : Underway g images commit of device → is_written commit.steps ≡ false → MayBeReadAs g of.old None device
  early_read u e =
      let r = underway_readable g images commit of device u in
      subst (λ (b : Bool). MayBeReadAs g of.old (later_of (images_of of b)) device) e (subst (λ (i : Images). MayBeReadAs g i.committed (later_of i) device) u.are r.read)

  pub early_left : (new : List History) (step : DeviceStep) → Underway g images commit of device → is_coming commit.image commit.steps step ≡ true → (step ≢ WriteRoot) → is_written commit.steps ≡ false → FailsStep commit.image commit.steps device new → Readable g (images_of of false) new
  early_left new step u e n w bad = subst (λ (b : Bool). Readable g (images_of of b) new) (failed_unwritten commit.image commit.steps step e n w) (failed_read g images commit of device new u bad)

-- ---- an opening's root

-- its commit goes on from the same state to the same one
pub record RootedOn {A : Type 0} (g : Geometry) (images : Images) (reading : ReadSteps A) (of : Commit) (commit : RunningCommit) (device : List History) : Type 0 where
  pub now : Images
  pub kept : RootingKept g now reading commit device
  pub of_is : kept.of ≡ of
  pub committed_is : now.committed ≡ images.committed

pub rooted_on : (A : Type 0) (g : Geometry) (images : Images) (reading : ReadSteps A) (commit : RunningCommit) (old new : List History) (k : RootingKept g images reading commit old) → DoesStep commit.image commit.steps old new → RootedOn g images reading k.of (record commit { steps = steps_after commit.image commit.steps }) new
rooted_on A g images reading commit old new k does =
    let u = led_on g images commit k.of old new k.under does in record {
      now = u.now;
      kept = record { stored = k.stored; all = k.all; of = k.of; under = u.kept; tree = k.tree; used = k.used; generation = k.generation; entries = k.entries; unmarked = k.unmarked; fits = k.fits; sizes = k.sizes; same = k.same };
      of_is = refl;
      committed_is = ap (λ (i : Images). i.committed) u.kept.are ∙ sym (ap (λ (i : Images). i.committed) k.under.are);
    }

-- what it leads to has the entries that were read
pub leads_so : (A : Type 0) (g : Geometry) (images : Images) (stored : StoredThere A) (commit : RunningCommit) (device : List History) (k : RootingKept g images (AllRead stored) commit device) → k.of.new.found.entries ≡ stored.tree.entries
leads_so A g images stored commit device k = k.entries ∙ ap (λ (s : StoredThere A). s.tree.entries) (let all = k.all in let same : k.stored ≡ stored = cc in same)
