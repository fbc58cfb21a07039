-- A commit on its way: which states the metadata are read as while it goes on, and once it failed or ended.
use Rattle.std.proofs.Common.{◌≡◌, ◌∙◌, ◌⊎◌, ◌&&◌, ◌==◌, inl, inr, ℕ, Bool, true, false, if◌then◌else◌, List, Option, Some, None, refl, sym, ap, subst, slice_get, length, is_some, is_none}
use Rattle.wb_types.proofs.Truth.{and_true}
use Rattle.wb_types.specs.declared.geometry.Geometry.{Geometry}
use Rattle.wb_types.specs.declared.number.Place.{Place}
use Rattle.wb_types.specs.declared.mode.Dev.TheVariants.{Metadata}
use Rattle.wb_disk.specs.Device.{History, synced, PartlySynced, Crashed}
use Rattle.wb_disk.specs.Failing.{synced_where}
use Rattle.wb_disk.proofs.FailedSyncs.{partly_synced}
use Rattle.wb_format.specs.declared.node.Node.{Node}
use Rattle.wb_tree.specs.declared.image.Image.{Image}
use Rattle.wb_meta.specs.declared.commit_steps.CommitSteps.{CommitSteps}
use Rattle.wb_meta.specs.declared.commit_steps.CommitSteps.TheVariants.{NodesWritten, NodesSynced, RootWritten, Done as Committed}
use Rattle.wb_meta.specs.Representing.{Stored}
use Rattle.wb_meta.specs.Commits.{CommitHasCome, HasFailed}
use Rattle.wb_meta.specs.Steps.{DoesStep, FailsStep, steps_after}
use Rattle.wb_meta.specs.Imaging.{DeviceStores}
use Rattle.wb_meta.proofs.Stepping.{goes_on as step_goes_on, fails as step_fails}
use Rattle.wb_tasks.specs.declared.step.DeviceStep.{DeviceStep}
use Rattle.wb_tasks.specs.declared.step.DeviceStep.TheVariants.{Sync, WriteNode, WriteRoot}
use Rattle.wb_devices.specs.declared.running.RunningCommit.{RunningCommit}
use Rattle.wb_devices.specs.Committing.{goes_on, is_coming, is_committed}
use Rattle.wb_meta.specs.Roots.{MayBeReadAs, IsSettled, Commit, CanBeMade}
use Rattle.wb_meta.specs.RootLaws.{IsDecided}
use Rattle.wb_meta.specs.Sizes.{AreSameSizes}
use Rattle.wb_meta.proofs.Leading.{during, early, after_failure, after_failed_node, when_done}
use Rattle.wb_meta.proofs.Deciding.{crash_decides, sync_decides, failed_sync_leaves}
use Rattle.wb_runs.proofs.Sizes.{read_by_sizes}
use Rattle.wb_runs.proofs.Images.{Images, later_of, one_image, Turn, Stays, Begins, Puts, Settles, Turned, Turns}

-- A device of the sizes of this geometry is read as these images.
pub record Readable (g : Geometry) (images : Images) (device : List History) : Type 0 where
  pub read : MayBeReadAs g images.committed (later_of images) device

-- the root of a commit may have been written
abbrev pub is_written : CommitSteps → Bool
is_written (NodesWritten count) = false
is_written NodesSynced = false
is_written RootWritten = true
is_written Committed = true

-- the images while a commit runs
abbrev pub images_of : Commit → Bool → Images
images_of of written = record { committed = of.old; running = Some of.new; written = written }

-- a commit has come so far
pub record Underway (g : Geometry) (images : Images) (commit : RunningCommit) (of : Commit) (device : List History) : Type 0 where
  pub are : images ≡ images_of of (is_written commit.steps)
  pub can : CanBeMade of
  pub image : of.image ≡ commit.image
  pub come : CommitHasCome of.image of.before commit.steps device
  pub sizes : AreSameSizes of.old.root.geometry g

-- where one state stands a commit begins: it is under way, and its own state stands beside that one
pub begins_under : {Kept : Images → Type 0} (g : Geometry) (images : Images) (commit : RunningCommit) (of : Commit) (steps : CommitSteps) (device : List History) → images ≡ one_image of.old → commit.steps ≡ steps → is_written steps ≡ false → CanBeMade of → of.image ≡ commit.image
    → CommitHasCome of.image of.before steps device → AreSameSizes of.old.root.geometry g → (Underway g (images_of of false) commit of device → Kept (images_of of false)) → Turns Kept images
begins_under g images commit of steps device are is unwritten can image come sizes kept = record {
  now = images_of of false;
  turn = Begins of.new;
  turned = ap (λ (i : Images). record { committed = i.committed; running = Some of.new; written = false }) (sym are);
  kept = kept (record {
    are = ap (λ (t : Bool). images_of of t) (sym unwritten) ∙ ap (λ (s : CommitSteps). images_of of (is_written s)) (sym is);
    can = can;
    image = image;
    come = subst (λ (s : CommitSteps). CommitHasCome of.image of.before s device) (sym is) come;
    sizes = sizes;
  });
}

-- the device is read as the old state, or perhaps as the new one
read_as : (g : Geometry) (of : Commit) (now : List History) (written : Bool) → AreSameSizes of.old.root.geometry g → MayBeReadAs of.old.root.geometry of.old (later_of (images_of of written)) now → Readable g (images_of of written) now
read_as g of now written sizes may = record { read = read_by_sizes of.old.root.geometry g of.old (later_of (images_of of written)) now sizes may }

pub underway_readable : (g : Geometry) (images : Images) (commit : RunningCommit) (of : Commit) (device : List History) → Underway g images commit of device → Readable g images device
underway_readable g images commit of device u = subst (λ (i : Images). Readable g i device) (sym u.are) (by_steps commit.steps u.come)
  where
    by_steps : (steps : CommitSteps) → CommitHasCome of.image of.before steps device → Readable g (images_of of (is_written steps)) device
    by_steps (NodesWritten count) come = read_as g of device false u.sizes (early of u.can (NodesWritten count) device tt come)
    by_steps NodesSynced come = read_as g of device false u.sizes (early of u.can NodesSynced device tt come)
    by_steps RootWritten come = read_as g of device true u.sizes (during of u.can RootWritten device come)
    by_steps Committed come = read_as g of device true u.sizes (during of u.can Committed device come)

-- what a step makes of the images
writes : (of : Commit) (steps : CommitSteps) (images : Images) → images ≡ images_of of (is_written steps) → (turn : Turn) × Turned turn images (images_of of (is_written (steps_after of.image steps)))
writes of (NodesWritten count) images are = by_node (slice_get of.image.nodes.items count)
  where
    by_node : (o : Option (Place × Node)) → (turn : Turn) × Turned turn images (images_of of (is_written (Rattle.wb_meta.specs.Steps.after_node o count)))
    by_node None = (Stays, sym are)
    by_node (Some node) = (Stays, sym are)
writes of NodesSynced images are = (Puts, sym (ap (λ (i : Images). record i { written = true }) are))
writes of RootWritten images are = (Stays, sym are)
writes of Committed images are = (Stays, sym are)

pub led_on : (g : Geometry) (images : Images) (commit : RunningCommit) (of : Commit) (old new : List History) → Underway g images commit of old → DoesStep commit.image commit.steps old new
    → Turns (λ now. Underway g now (record commit { steps = steps_after commit.image commit.steps }) of new) images
led_on g images commit of old new u does =
    let w = writes of commit.steps images u.are in record {
      now = images_of of (is_written (steps_after of.image commit.steps));
      turn = w.0;
      turned = w.1;
      kept = record {
        are = ap (λ (i : Image). images_of of (is_written (steps_after i commit.steps))) u.image;
        can = u.can;
        image = u.image;
        come = subst (λ (i : Image). CommitHasCome of.image of.before (steps_after i commit.steps) new) u.image
            (step_goes_on of.image of.old.root.geometry.meta_sectors of.before old new commit.steps u.can.places u.come
            (subst (λ (i : Image). DoesStep i commit.steps old new) (sym u.image) does));
        sizes = u.sizes;
      };
    }

pub stopped : (g : Geometry) (images : Images) (commit : RunningCommit) (of : Commit) (old new : List History) → Underway g images commit of old → FailsStep commit.image commit.steps old new → Turns (λ now. Readable g now new) images
stopped g images commit of old new u failing = by_steps commit.steps u.are
    (step_fails of.image of.old.root.geometry.meta_sectors of.before old new commit.steps u.can.places u.come (subst (λ (i : Image). FailsStep i commit.steps old new) (sym u.image) failing))
  where
    by_steps : (steps : CommitSteps) → images ≡ images_of of (is_written steps) → HasFailed of.image of.before steps new → Turns (λ now. Readable g now new) images
    by_steps (NodesWritten count) are failed = record { now = images_of of false; turn = Stays; turned = sym are; kept = read_as g of new false u.sizes (after_failed_node of u.can count new failed) }
    by_steps NodesSynced are failed = record { now = images_of of true; turn = Puts; turned = sym (ap (λ (i : Images). record i { written = true }) are); kept = read_as g of new true u.sizes (after_failure of u.can NodesSynced new failed) }
    by_steps RootWritten are failed = record { now = images_of of true; turn = Stays; turned = sym are; kept = read_as g of new true u.sizes (after_failure of u.can RootWritten new failed) }
    by_steps Committed are failed = absurd failed

-- all of it was done
pub all_done : (g : Geometry) (images : Images) (commit : RunningCommit) (of : Commit) (device : List History) → Underway g images commit of device → is_committed commit.steps ≡ true → DeviceStores of.tree device of.new of.used
all_done g images commit of device u done = by_steps commit.steps done u.come
  where
    by_steps : (steps : CommitSteps) → is_committed steps ≡ true → CommitHasCome of.image of.before steps device → DeviceStores of.tree device of.new of.used
    by_steps Committed e come = when_done of u.can device come
    by_steps steps e come = absurd (cc)

-- ---- the steps of a table are those of a commit

sync_coming : (image : Image) (steps : CommitSteps) (old : List History) → is_coming image steps (Sync Metadata) ≡ true → DoesStep image steps old (synced old)
sync_coming image (NodesWritten count) old e = by_node (slice_get image.nodes.items count) e
  where
    by_node : (o : Option (Place × Node)) → is_none o ≡ true → Rattle.wb_meta.specs.Steps.NodeOrSync o old (synced old)
    by_node None e = refl
    by_node (Some node) e = absurd (cc)
sync_coming image RootWritten old e = refl
sync_coming image steps old e = absurd (cc)

pub sync_does : (image : Image) (steps : CommitSteps) (old : List History) → goes_on (length old) image steps (Sync Metadata) ≡ true → DoesStep image steps old (synced old)
sync_does image steps old e = sync_coming image steps old (and_true (is_coming image steps (Sync Metadata)) _ e).0

failed_coming : (image : Image) (steps : CommitSteps) (old new : List History) → PartlySynced old new → is_coming image steps (Sync Metadata) ≡ true → FailsStep image steps old new
failed_coming image (NodesWritten count) old new partly e = by_node (slice_get image.nodes.items count) e
  where
    by_node : (o : Option (Place × Node)) → is_none o ≡ true → Rattle.wb_meta.specs.Steps.MayNodeOrSync o old new
    by_node None e = partly
    by_node (Some node) e = absurd (cc)
failed_coming image RootWritten old new partly e = partly
failed_coming image steps old new partly e = absurd (cc)

pub sync_fails : (image : Image) (steps : CommitSteps) (landed : ℕ → Bool) (old : List History) → goes_on (length old) image steps (Sync Metadata) ≡ true → FailsStep image steps old (synced_where landed old)
sync_fails image steps landed old e = failed_coming image steps old (synced_where landed old) (partly_synced landed old) (and_true (is_coming image steps (Sync Metadata)) _ e).0

-- a node or root that is not written, or that is, though its step fails
abbrev pub IsPut : DeviceStep → Type 0
IsPut (WriteNode number) = Unit {0}
IsPut WriteRoot = Unit {0}
IsPut step = ⊥

put_coming : (image : Image) (steps : CommitSteps) (step : DeviceStep) (old new : List History) → IsPut step → is_coming image steps step ≡ true → (DoesStep image steps old new ⊎ (new ≡ old)) → FailsStep image steps old new
put_coming image (NodesWritten count) (WriteNode number) old new p e r = by_node (slice_get image.nodes.items count) (and_right (number == count) _ e) r
  where
    and_right : (a b : Bool) → (a && b) ≡ true → b ≡ true
    and_right true b e = e
    and_right false b e = absurd (cc)

    by_node : (o : Option (Place × Node)) → is_some o ≡ true → (Rattle.wb_meta.specs.Steps.NodeOrSync o old new ⊎ (new ≡ old)) → Rattle.wb_meta.specs.Steps.MayNodeOrSync o old new
    by_node None e r = absurd (cc)
    by_node (Some node) e (inl d) = inr d
    by_node (Some node) e (inr s) = inl s
put_coming image NodesSynced WriteRoot old new p e (inl d) = inr d
put_coming image NodesSynced WriteRoot old new p e (inr s) = inl s
put_coming image (NodesWritten count) WriteRoot old new p e r = absurd (cc)
put_coming image NodesSynced (WriteNode number) old new p e r = absurd (cc)
put_coming image RootWritten (WriteNode number) old new p e r = absurd (cc)
put_coming image RootWritten WriteRoot old new p e r = absurd (cc)
put_coming image Committed (WriteNode number) old new p e r = absurd (cc)
put_coming image Committed WriteRoot old new p e r = absurd (cc)
put_coming image steps step old new p e r = absurd p

pub put_fails : (image : Image) (steps : CommitSteps) (step : DeviceStep) (old new : List History) → IsPut step → goes_on (length old) image steps step ≡ true → (DoesStep image steps old new ⊎ (new ≡ old)) → FailsStep image steps old new
put_fails image steps step old new p e r = put_coming image steps step old new p (and_true (is_coming image steps step) _ e).0 r

-- ---- crashes and syncs

-- one state alone, and a crash leaves what reads give
pub record Found (g : Geometry) (images : Images) (device : List History) : Type 0 where
  pub committed : Stored
  pub are : images ≡ one_image committed
  pub read : MayBeReadAs g committed None device
  pub settled : IsSettled device

-- the root that may have been written is the one that is found
settles : (images : Images) (state : Stored) → later_of images ≡ Some state → Turned (Settles true) images (one_image state) × (images.running ≡ Some state)
settles images state e = by_written images.written refl e
  where
    by_written : (b : Bool) → images.written ≡ b → (if b then images.running else None) ≡ Some state → Turned (Settles true) images (one_image state) × (images.running ≡ Some state)
    by_written true w e = ((state, e, w, refl), e)
    by_written false w e = absurd (cc)

found_by : (g : Geometry) (images : Images) (old : List History) → Readable g images old → (new : List History) → IsDecided g images.committed (later_of images) new → Turns (λ now. Found g now new) images
found_by g images old r new (settled, inl may) = record {
  now = one_image images.committed;
  turn = Settles false;
  turned = refl;
  kept = record { committed = images.committed; are = refl; read = may; settled = settled };
}
found_by g images old r new (settled, inr more) =
    let s = settles images more.0 more.1 in record {
      now = one_image more.0;
      turn = Settles true;
      turned = s.0;
      kept = record { committed = more.0; are = refl; read = more.2; settled = settled };
    }

pub found_readable : (g : Geometry) (images : Images) (device : List History) → Found g images device → Readable g images device
found_readable g images device f = subst (λ (i : Images). Readable g i device) (sym f.are) (record { read = f.read })

pub sync_found : (g : Geometry) (images : Images) (old : List History) → Readable g images old → Turns (λ now. Found g now (synced old)) images
sync_found g images old r = found_by g images old r (synced old) (sync_decides g images.committed (later_of images) old r.read)

pub crash_readable : (g : Geometry) (images : Images) (old new : List History) → Readable g images old → Crashed old new → Turns (λ now. Readable g now new) images
crash_readable g images old new r crash =
    let f = found_by g images old r new (crash_decides g images.committed (later_of images) old new r.read crash) in
    record { now = f.now; turn = f.turn; turned = f.turned; kept = found_readable g f.now new f.kept }

pub partly_readable : (g : Geometry) (images : Images) (landed : ℕ → Bool) (old : List History) → Readable g images old → Readable g images (synced_where landed old)
partly_readable g images landed old r = record {
  read = failed_sync_leaves g images.committed (later_of images) old (synced_where landed old) r.read (partly_synced landed old);
}
