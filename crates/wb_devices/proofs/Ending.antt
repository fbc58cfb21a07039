-- How an opening ends, from its first step to its answer.
use Rattle.std.proofs.Common.{◌≡◌, ◌∙◌, ℕ, true, Bool, ◌-◌, List, [], ◌∷◌, length, arith, Option, Some, None, IfSome, refl, sym, subst, ap, map, if◌then◌else◌, ◌==◌, inl, inr}
use Rattle.std.proofs.lemmas.Bool.{eq-eqb}
use Rattle.std.proofs.lemmas.List.{length-map}
use Rattle.std.specs.declared.alloc.Global.{Global}
use Rattle.wb_types.specs.declared.geometry.Geometry.{Geometry}
use Rattle.wb_types.specs.declared.mode.Dev.TheVariants.{Metadata, Cache, Origin}
use Rattle.wb_types.specs.declared.mode.Mode.{Mode}
use Rattle.wb_types.specs.declared.mode.Mode.TheVariants.{Passthrough}
use Rattle.wb_types.specs.declared.refusal.Refusal.{Refusal}
use Rattle.wb_types.specs.declared.refusal.Refusal.TheVariants.{Io, NotClean}
use Rattle.wb_disk.specs.Device.{Content, History, newest, synced, written}
use Rattle.wb_format.specs.declared.root.Root.{Root}
use Rattle.wb_format.specs.Layout.{SpellsRoot}
use Rattle.wb_meta.specs.Openings.{IsOpening}
use Rattle.wb_meta.specs.Reads.{AgreeThere, AreStepsOn, FitsDevice, HasRead, IsDone, ReadingGoesOn, StopsBy, known_root, coming_sector}
use Rattle.wb_meta.specs.States.{RepresentsState, IsRefusedBy}
use Rattle.wb_meta.specs.Steps.{DoesStep, Puts, slot_of, steps_after}
use Rattle.wb_meta.specs.declared.commit_steps.CommitSteps.{CommitSteps}
use Rattle.wb_tree.specs.declared.image.Image.{Image}
use Rattle.wb_meta.specs.declared.commit_steps.CommitSteps.TheVariants.{NodesWritten, NodesSynced, RootWritten}
use Rattle.wb_meta.specs.declared.read_steps.ReadSteps.{ReadSteps}
use Rattle.wb_meta.specs.declared.read_steps.ReadSteps.TheVariants.{Begun, FirstSlotRead, RootFound, Done as AllRead}
use Rattle.wb_meta.specs.declared.read_steps.State.{State}
use Rattle.wb_tasks.specs.Tables.{Opening as OpeningJob}
use Rattle.wb_tasks.specs.Plan.{Plan, table, after, Fits}
use Rattle.wb_tasks.specs.Run.{IsRunOf, Leads}
use Rattle.wb_tasks.specs.declared.step.Answer.{Answer}
use Rattle.wb_tasks.specs.declared.step.Answer.TheVariants.{Done as Finished, Refused as Refuses}
use Rattle.wb_tasks.specs.declared.step.DeviceStep.{DeviceStep}
use Rattle.wb_tasks.specs.declared.step.DeviceStep.TheVariants.{Sync, ReadMetadata, WriteRoot}
use Rattle.wb_tasks.specs.declared.step.Want.{Want}
use Rattle.wb_tasks.specs.declared.step.Want.TheVariants.{Device, End}
use Rattle.wb_tasks.specs.declared.step.Got.{Got}
use Rattle.wb_tasks.specs.declared.step.Got.TheVariants.{Done, Fault, Refused, Began, More}
use Rattle.wb_devices.specs.Committing.{goes_on, is_coming}
use Rattle.wb_devices.specs.Stepping.{Goes}
use Rattle.wb_devices.specs.Opened.{HasCome, got_of_refusal}
use Rattle.wb_devices.specs.Clean.{DidReadIn, DidOpenIn, HasComeIn, IsCleanSoFar, IsLeftClean, IsUnfitIn}
use Rattle.wb_devices.specs.Openings.{HasNotBegun}
use Rattle.wb_devices.specs.Sizes.{IsServedBy}
use Rattle.wb_meta.specs.Commits.{CommitHasCome}
use Rattle.wb_meta.specs.Sizes.{AreSameSizes}
use Rattle.wb_meta.proofs.Leading.{begun}
use Rattle.wb_types.specs.declared.version.Version.TheVariants.{Two}
use Rattle.wb_devices.specs.Converting.{IsConverted}
use Rattle.wb_devices.proofs.Nodes.{clean_anew}
use Rattle.wb_devices.specs.OpeningLed.{LedOpening}
use Rattle.wb_devices.specs.Outcomes.{IsOpen, DataIsDurable, IsRefused, OpeningHasEnded}
use Rattle.wb_devices.specs.declared.opening.Opening.{Opening}
use Rattle.wb_devices.specs.declared.opening_stage.OpeningStage.{OpeningStage}
use Rattle.wb_devices.specs.declared.running.RunningCommit.{RunningCommit}
use Rattle.wb_tasks.proofs.Peeling.{peel}
use Rattle.wb_devices.proofs.EndingSteps.{ended, failed, put_done, settled, to_come}
use Rattle.wb_devices.proofs.EndingAnew.{Anew, nodes_by}

served_still : (found : Geometry) {asked asked' : Geometry} → asked ≡ asked' → IsServedBy found asked → IsServedBy found asked'
served_still found same serves = subst (λ (g : Geometry). IsServedBy found g) same serves

-- a refusal that the device did not cause is no fault, and is told as it is
not_done : (refusal : Refusal) → Done ≡ got_of_refusal refusal → ⊥
not_done (Io device) e = cc
not_done refusal e = cc

not_more : (refusal : Refusal) → More ≡ got_of_refusal refusal → ⊥
not_more (Io device) e = cc
not_more refusal e = cc

as_given : (refusal given : Refusal) → Refused refusal ≡ got_of_refusal given → given ≡ refusal
as_given refusal (Io device) e = cc
as_given refusal given e = cc

not_begun : (refusal : Refusal) (nodes : ℕ) → Began nodes ≡ got_of_refusal refusal → ⊥
not_begun (Io device) nodes e = cc
not_begun refusal nodes e = cc

more_is_none : More ≡ Refused NotClean → ⊥
more_is_none e = cc

done_is_none : Done ≡ Refused NotClean → ⊥
done_is_none e = cc

begun_is_none : (nodes : ℕ) → Began nodes ≡ Refused NotClean → ⊥
begun_is_none nodes e = cc

-- what is not refused as not clean becomes what it becomes in every mode
as_every_mode : {A : Type 0} (mode : Mode) (geometry : Geometry) (left : ℕ) (now : ReadSteps A) (commit : Option RunningCommit) (got : Got) (after : Option (ReadSteps A)) (commit' : Option RunningCommit) → (got ≡ Refused NotClean → ⊥) →
    HasComeIn mode geometry left now commit got after commit' → HasCome geometry left now commit got after commit' × (mode ≡ Passthrough → IsCleanSoFar geometry now)
as_every_mode mode geometry left now commit got after commit' other (inl h) = h
as_every_mode mode geometry left now commit got after commit' other (inr s) = absurd (other s.1)

-- why a reading is refused, and what is left then
unfit_in : {A : Type 0} (mode : Mode) (geometry : Geometry) (left : ℕ) (now : ReadSteps A) (commit : Option RunningCommit) (refusal : Refusal) (after : Option (ReadSteps A)) (commit' : Option RunningCommit) →
    HasComeIn mode geometry left now commit (Refused refusal) after commit' → (after ≡ None) × (commit' ≡ commit) × IsUnfitIn mode geometry now refusal
unfit_in mode geometry left now commit refusal after commit' (inl h) = (h.0.0, h.0.1, inl (h.0.2, h.1))
unfit_in mode geometry left now commit refusal after commit' (inr s) = let same : refusal ≡ NotClean = let e = s.1 in cc in (s.2, s.3, inr (s.0, same, s.4))

-- a reading that is done has a state
all_read : {A : Type 0} (now : ReadSteps A) → IsDone now → (state : State A) × (now ≡ AllRead state)
all_read (Begun alloc global) h = absurd h
all_read (FirstSlotRead alloc global first) h = absurd h
all_read (RootFound global root loader nodes) h = absurd h
all_read (AllRead state) h = (state, refl)

-- what the device gives agrees with it everywhere
agrees : {A : Type 0} (was : ReadSteps A) (device : List History) → AgreeThere (coming_sector was) device (map newest device)
agrees was device = record { size = length-map device newest; here = λ place e. refl }

same_root : {A : Type 0} (state : State A) (root : Root) → known_root (AllRead state) ≡ Some root → root ≡ state.root
same_root state root e = cc

-- Every lemma from here on is about the same stages, from the one before the first step.
module _ {D : Type 0} (tells : Type 0) (size : D → ℕ) (contents : D → List History) (faults : D → ℕ) (first : OpeningStage D) where
  abbrev Led : OpeningStage D → Want → Got → OpeningStage D → Type 0
  Led = LedOpening tells size contents faults

  abbrev Settled : List History
  Settled = settled contents first

  abbrev HasSo : Answer → OpeningStage D → Type 0
  HasSo answer new = OpeningHasEnded tells size contents first answer new

  -- ---- once all three devices are durable

  record Durable (stage : OpeningStage D) : Type 0 where
    metadata : tells → contents stage.devices.metadata ≡ Settled
    copies : tells → DataIsDurable contents first.devices stage.devices
    geometry : stage.opening.geometry ≡ first.opening.geometry
    mode : stage.mode ≡ first.mode

  -- all was read, and the commit of the next root stands at these steps
  record Found (stage : OpeningStage D) : Type 0 where
    state : State Global
    reading_is : stage.opening.reading ≡ Some (AllRead state)
    fits : FitsDevice (size stage.devices.metadata) state.root state.tree state.used.items
    serves : IsServedBy state.root.geometry stage.opening.geometry
    next : RunningCommit
    commit_is : stage.opening.commit ≡ Some next
    opens : IsOpening next.image state.root
    represents : tells → RepresentsState (map newest Settled) state.root state.tree state.dirty state.used.items
    copies : tells → DataIsDurable contents first.devices stage.devices
    clean : first.mode ≡ Passthrough → IsLeftClean state

  -- the size is the one that the commit is for
  for_size : (stage : OpeningStage D) (found : Found stage) → (size stage.devices.metadata == found.next.image.root.geometry.meta_sectors) ≡ true
  for_size stage found =
      let root_is : found.next.image.root.geometry ≡ found.state.root.geometry = ap (λ (r : Root). r.geometry) found.opens.root_is in
      let same : size stage.devices.metadata ≡ found.next.image.root.geometry.meta_sectors = sym (ap (λ g. g.meta_sectors) root_is ∙ found.fits.size) in
      eq-eqb (size stage.devices.metadata) found.next.image.root.geometry.meta_sectors same

  -- ---- the root, and the sync behind it

  -- the running commit goes on with what comes next
  went_on : (stage : OpeningStage D) (found : Found stage) (step : DeviceStep) (commit' : Option RunningCommit) → is_coming found.next.image found.next.steps step ≡ true →
      Goes (size stage.devices.metadata) stage.opening.commit step Done commit' →
      (later : RunningCommit) × (commit' ≡ Some later) × (later.image ≡ found.next.image) × (later.steps ≡ steps_after found.next.image found.next.steps)
  went_on stage found step commit' comes goes =
      let running = found.next in
      let all : goes_on (size stage.devices.metadata) running.image running.steps step ≡ true = rw comes (for_size stage found) in
      let so : Goes (size stage.devices.metadata) (Some running) step Done commit' = subst (λ (c : Option RunningCommit). Goes (size stage.devices.metadata) c step Done commit') found.commit_is goes in
      (so.0, so.1, so.2, so.3 ∙ ap (λ (b : Bool). if b then steps_after running.image running.steps else running.steps) all)

  record Written (stage : OpeningStage D) : Type 0 where
    found : Found stage
    steps : found.next.steps ≡ RootWritten
    content : tells → Content
    spelled : (t : tells) → SpellsRoot (content t) found.next.image.root
    wrote : (t : tells) → contents stage.devices.metadata ≡ written Settled (slot_of found.next.image.root).0 (content t)

  last_by : (left : ℕ) (old : OpeningStage D) → Written old → (got : Got) (mid : OpeningStage D) (steps : List (Want × Got)) (answer : Answer) (new : OpeningStage D) → Fits (Device (Sync Metadata)) got → Led old (Device (Sync Metadata)) got mid →
      IsRunOf (after (to_come left (Device (Sync Metadata) ∷ [])) got) steps answer → Leads Led mid steps new → HasSo answer new
  last_by left old w Fault mid steps answer new f led r l = failed tells size contents faults first (OpeningJob left) Metadata mid steps answer new r l
  last_by left old w Done mid steps answer new f led r l =
      let found = w.found in
      let coming : is_coming found.next.image found.next.steps (Sync Metadata) ≡ true = rw w.steps refl in
      let later = went_on old found (Sync Metadata) mid.opening.commit coming led.4.1 in
      let opens : IsOpening later.0.image found.state.root = subst (λ (i : Image). IsOpening i found.state.root) (sym later.2) found.opens in
      let whole : IsOpen (size mid.devices.metadata) mid.opening = record {
        state = found.state;
        reading_is = led.4.0 ∙ found.reading_is;
        fits = subst (λ (n : ℕ). FitsDevice n found.state.root found.state.tree found.state.used.items) (sym led.1) found.fits;
        serves = served_still found.state.root.geometry (sym led.2) found.serves;
        next = later.0;
        commit_is = later.1;
        opens = opens.root_is;
        is_done = later.3 ∙ ap (λ (s : CommitSteps). steps_after found.next.image s) w.steps;
      } in
      ended tells size contents faults first (OpeningJob left) Finished mid steps answer new r l (
        whole,
        (λ t. inl (record {
          represents = found.represents t;
          no_nodes = opens.no_nodes;
          content = w.content t;
          spelled = subst (λ (i : Image). SpellsRoot (w.content t) i.root) (sym later.2) (w.spelled t);
          wrote = (led.4.2 t).0 ∙ ap synced (w.wrote t) ∙ ap (λ (i : Image). synced (written Settled (slot_of i.root).0 (w.content t))) (sym later.2);
        })),
        (λ t. (ap contents led.0.0 ∙ (found.copies t).0, ap contents led.0.1 ∙ (found.copies t).1)),
        found.clean,
      )
  last_by left old w got mid steps answer new f led r l = absurd f

  record ToWrite (stage : OpeningStage D) : Type 0 where
    found : Found stage
    steps : found.next.steps ≡ NodesSynced
    metadata : tells → contents stage.devices.metadata ≡ Settled

  root_by : (left : ℕ) (old : OpeningStage D) → ToWrite old → (got : Got) (mid : OpeningStage D) (steps : List (Want × Got)) (answer : Answer) (new : OpeningStage D) → Fits (Device WriteRoot) got → Led old (Device WriteRoot) got mid →
      IsRunOf (after (to_come left (Device WriteRoot ∷ Device (Sync Metadata) ∷ [])) got) steps answer → Leads Led mid steps new → HasSo answer new
  root_by left old w Fault mid steps answer new f led r l = failed tells size contents faults first (OpeningJob left) Metadata mid steps answer new r l
  root_by left old w Done mid steps answer new f led r l =
      let found = w.found in
      let running = found.next in
      let coming : is_coming running.image running.steps WriteRoot ≡ true = rw w.steps refl in
      let later = went_on old found WriteRoot mid.opening.commit coming led.4.1 in
      let all : goes_on (size old.devices.metadata) running.image running.steps WriteRoot ≡ true = rw coming (for_size old found) in
      let puts : (t : tells) → Puts (λ content. SpellsRoot content running.image.root) (slot_of running.image.root).0 Settled (contents mid.devices.metadata) =
      λ t. let does = put_done _ old.opening.commit running WriteRoot _ _ _ _ found.commit_is all (led.4.2 t) in
      subst (λ (d : List History). Puts (λ content. SpellsRoot content running.image.root) (slot_of running.image.root).0 d (contents mid.devices.metadata)) (w.metadata t)
      (subst (λ (s : CommitSteps). DoesStep running.image s (contents old.devices.metadata) (contents mid.devices.metadata)) w.steps does) in
      let onward : Written mid = record {
        found = record {
          state = found.state;
          reading_is = led.4.0 ∙ found.reading_is;
          fits = subst (λ (n : ℕ). FitsDevice n found.state.root found.state.tree found.state.used.items) (sym led.1) found.fits;
          serves = served_still found.state.root.geometry (sym led.2) found.serves;
          next = later.0;
          commit_is = later.1;
          opens = subst (λ (i : Image). IsOpening i found.state.root) (sym later.2) found.opens;
          represents = found.represents;
          copies = λ t. (ap contents led.0.0 ∙ (found.copies t).0, ap contents led.0.1 ∙ (found.copies t).1);
          clean = found.clean;
        };
        steps = later.3 ∙ ap (λ (s : CommitSteps). steps_after running.image s) w.steps;
        content = λ t. (puts t).content;
        spelled = λ t. subst (λ (i : Image). SpellsRoot (puts t).content i.root) (sym later.2) (puts t).spelled;
        wrote = λ t. (puts t).wrote ∙ ap (λ (i : Image). written Settled (slot_of i.root).0 (puts t).content) (sym later.2);
      } in
      let last = peel Led (to_come left (Device (Sync Metadata) ∷ [])) answer steps mid new tt r l in
      last_by left mid onward last.got last.mid last.rest answer new last.fits last.did last.run last.leads
  root_by left old w got mid steps answer new f led r l = absurd f

  -- ---- reading

  record Reads (stage : OpeningStage D) (was : ReadSteps Global) : Type 0 where
    durable : Durable stage
    reading_is : stage.opening.reading ≡ Some was
    read : tells → HasRead (map newest Settled) was
    commit : stage.opening.commit ≡ None

  -- a step that reads goes on from what was read
  read_on : (device : List History) (was now : ReadSteps Global) → device ≡ Settled → ReadingGoesOn was device now → HasRead (map newest Settled) was → HasRead (map newest Settled) now
  read_on device was now is on h = on (map newest Settled) (subst (λ (d : List History). AgreeThere (coming_sector was) d (map newest Settled)) (sym is) (agrees was Settled)) h

  stops_by : (device : List History) (was : ReadSteps Global) (refusal : Refusal) → device ≡ Settled → StopsBy was device refusal → HasRead (map newest Settled) was → IsRefusedBy (map newest Settled) refusal
  stops_by device was refusal is stops h = stops (map newest Settled) (subst (λ (d : List History). AgreeThere (coming_sector was) d (map newest Settled)) (sym is) (agrees was Settled)) h

  durable_still : (left : ℕ) (old mid : OpeningStage D) (got : Got) → Led old (Device (ReadMetadata left)) got mid → Durable old → Durable mid
  durable_still left old mid got led d = record {
    metadata = λ t. led.4.0 t ∙ d.metadata t;
    copies = λ t. (ap contents led.0.0 ∙ (d.copies t).0, ap contents led.0.1 ∙ (d.copies t).1);
    geometry = led.2 ∙ d.geometry;
    mode = led.5 ∙ d.mode;
  }

  -- what the step did, from the reading that was there
  did_read : (left : ℕ) (old mid : OpeningStage D) (got : Got) (was : ReadSteps Global) → Led old (Device (ReadMetadata left)) got mid → Reads old was →
      DidReadIn old.mode tells old.opening.geometry left was (contents old.devices.metadata) (faults old.devices.metadata) old.opening.commit got mid.opening.reading (faults mid.devices.metadata) mid.opening.commit
  did_read left old mid got was led h = subst (λ (o : Option (ReadSteps Global)). DidOpenIn old.mode tells old.opening.geometry left o (contents old.devices.metadata) (faults old.devices.metadata) old.opening.commit got mid.opening.reading (faults mid.devices.metadata) mid.opening.commit) h.reading_is led.4.1

  more_read : (left : ℕ) (old mid : OpeningStage D) (was : ReadSteps Global) → Led old (Device (ReadMetadata left)) More mid → Reads old was → (now : ReadSteps Global) × Reads mid now
  more_read left old mid was led h = case (did_read left old mid More was led h)
    where
      case : DidReadIn old.mode tells old.opening.geometry left was (contents old.devices.metadata) (faults old.devices.metadata) old.opening.commit More mid.opening.reading (faults mid.devices.metadata) mid.opening.commit → (now : ReadSteps Global) × Reads mid now
      case (inl d) =
          let come = as_every_mode old.mode old.opening.geometry left d.0 old.opening.commit More mid.opening.reading mid.opening.commit more_is_none d.3 in
          (d.0, record { durable = durable_still left old mid More led h.durable; reading_is = come.0.1; read = λ t. read_on (contents old.devices.metadata) was d.0 (h.durable.metadata t) (d.1 t) (h.read t); commit = come.0.3 ∙ h.commit })
      case (inr s) = absurd (not_more s.0 s.3)

  all_found : (left : ℕ) (old mid : OpeningStage D) (was : ReadSteps Global) → Led old (Device (ReadMetadata left)) Done mid → Reads old was → ToWrite mid
  all_found left old mid was led h = case (did_read left old mid Done was led h)
    where
      case : DidReadIn old.mode tells old.opening.geometry left was (contents old.devices.metadata) (faults old.devices.metadata) old.opening.commit Done mid.opening.reading (faults mid.devices.metadata) mid.opening.commit → ToWrite mid
      case (inr s) = absurd (not_done s.0 s.3)
      case (inl d) =
          let now = d.0 in
          let both = as_every_mode old.mode old.opening.geometry left d.0 old.opening.commit Done mid.opening.reading mid.opening.commit done_is_none d.3 in
          let come = both.0 in
          let next = come.2 in
          let whole = all_read now next.is_done in
          let state = whole.0 in
          let root_is : next.root ≡ state.root = same_root state next.root (subst (λ (n : ReadSteps Global). known_root n ≡ Some next.root) whole.1 next.newest) in
          let is : mid.opening.reading ≡ Some (AllRead state) = come.0 ∙ ap (λ (n : ReadSteps Global). Some n) whole.1 in
          let fits : IsServedBy state.root.geometry old.opening.geometry = subst (λ (r : Root). IsServedBy r.geometry old.opening.geometry) root_is (come.1 next.root next.newest) in
          record {
            found = record {
              state = state;
              reading_is = is;
              fits = (subst (λ (o : Option (ReadSteps Global)). IfSome o (AreStepsOn (size mid.devices.metadata))) is led.3).0;
              serves = served_still state.root.geometry (sym led.2) fits;
              next = next.next;
              commit_is = next.commit_is;
              opens = subst (λ (r : Root). IsOpening next.next.image r) root_is next.opens;
              represents = λ t. subst (λ (n : ReadSteps Global). HasRead (map newest Settled) n) whole.1 (read_on (contents old.devices.metadata) was now (h.durable.metadata t) (d.1 t) (h.read t));
              copies = (durable_still left old mid Done led h.durable).copies;
              clean = λ passes. both.1 (h.durable.mode ∙ passes) state whole.1 fits.sizes;
            };
            steps = next.steps;
            metadata = (durable_still left old mid Done led h.durable).metadata;
          }

  -- what was read is written anew
  begins_anew : (left nodes : ℕ) (old mid : OpeningStage D) (was : ReadSteps Global) → Led old (Device (ReadMetadata left)) (Began nodes) mid → Reads old was → (image : Image) × Anew tells size contents faults first mid image (NodesWritten 0) × (nodes ≡ length image.nodes.items)
  begins_anew left nodes old mid was led h = case (did_read left old mid (Began nodes) was led h)
    where
      case : DidReadIn old.mode tells old.opening.geometry left was (contents old.devices.metadata) (faults old.devices.metadata) old.opening.commit (Began nodes) mid.opening.reading (faults mid.devices.metadata) mid.opening.commit → (image : Image) × Anew tells size contents faults first mid image (NodesWritten 0) × (nodes ≡ length image.nodes.items)
      case (inr s) = absurd (not_begun s.0 nodes s.3)
      case (inl d) =
          let now = d.0 in
          let still = durable_still left old mid (Began nodes) led h.durable in
          let both = as_every_mode old.mode old.opening.geometry left d.0 old.opening.commit (Began nodes) mid.opening.reading mid.opening.commit (begun_is_none nodes) d.3 in
          let come = both.0.2 in
          let made : IsConverted first.opening.geometry come.old come.next.image come.new = subst (λ (g : Geometry). IsConverted g come.old come.next.image come.new) h.durable.geometry come.converted in
          let on : AreStepsOn (size mid.devices.metadata) (AllRead come.new) = subst (λ (o : Option (ReadSteps Global)). IfSome o (AreStepsOn (size mid.devices.metadata))) come.after_is led.3 in
          let sizes : AreSameSizes come.old.root.geometry old.opening.geometry = both.0.0 come.old.root (ap (λ (n : ReadSteps Global). known_root n) come.wants.all_read) in (
            come.next.image,
            record {
              old = come.old;
              state = come.new;
              reading_is = come.after_is;
              wants = record { all_read = refl; first = come.wants.first; second = subst (λ (g : Geometry). g.version ≡ Two) h.durable.geometry come.wants.second };
              geometry = still.geometry;
              size_is = sym on.0.size ∙ ap (λ (g : Geometry). g.meta_sectors) made.root.geometry;
              next = come.next;
              commit_is = come.commit_is;
              image_is = refl;
              steps_are = come.steps;
              converted = made;
              represents = λ t. subst (λ (n : ReadSteps Global). HasRead (map newest Settled) n) come.wants.all_read (read_on (contents old.devices.metadata) was now (h.durable.metadata t) (d.1 t) (h.read t));
              come = λ t. subst (λ (d : List History). CommitHasCome come.next.image Settled (NodesWritten 0) d) (sym (still.metadata t)) (begun come.next.image Settled);
              copies = still.copies;
              clean = λ passes. clean_anew first.opening.geometry come.old come.new come.next.image made (both.1 (h.durable.mode ∙ passes) come.old come.wants.all_read sizes);
            },
            come.count,
          )

  refused_so : (left : ℕ) (old mid : OpeningStage D) (was : ReadSteps Global) (refusal : Refusal) → Led old (Device (ReadMetadata left)) (Refused refusal) mid → Reads old was → IsRefused tells contents first mid refusal
  refused_so left old mid was refusal led h = case (did_read left old mid (Refused refusal) was led h)
    where
      still : Durable mid
      still = durable_still left old mid (Refused refusal) led h.durable

      case : DidReadIn old.mode tells old.opening.geometry left was (contents old.devices.metadata) (faults old.devices.metadata) old.opening.commit (Refused refusal) mid.opening.reading (faults mid.devices.metadata) mid.opening.commit → IsRefused tells contents first mid refusal
      case (inl d) =
          let unfit = unfit_in old.mode old.opening.geometry left d.0 old.opening.commit refusal mid.opening.reading mid.opening.commit d.3 in
          record {
            nothing_read = unfit.0;
            nothing_written = unfit.1 ∙ h.commit;
            metadata = still.metadata;
            copies = still.copies;
            cause = λ t. inr (
              d.0,
              read_on (contents old.devices.metadata) was d.0 (h.durable.metadata t) (d.1 t) (h.read t),
              subst (λ (m : Mode). IsUnfitIn m first.opening.geometry d.0 refusal) h.durable.mode (subst (λ (g : Geometry). IsUnfitIn old.mode g d.0 refusal) h.durable.geometry unfit.2),
            );
          }
      case (inr s) = record {
        nothing_read = s.4;
        nothing_written = s.5 ∙ h.commit;
        metadata = still.metadata;
        copies = still.copies;
        cause = λ t. inl (subst (λ (r : Refusal). IsRefusedBy (map newest Settled) r) (as_given refusal s.0 s.3) (stops_by (contents old.devices.metadata) was s.0 (h.durable.metadata t) (s.1 t) (h.read t)));
      }

  -- with the root and its sync behind the reading
  abbrev to_read : ℕ → ℕ → Plan
  to_read left more = to_come left (Device (ReadMetadata more) ∷ Device WriteRoot ∷ Device (Sync Metadata) ∷ [])

  read_by : (left more : ℕ) (old : OpeningStage D) (was : ReadSteps Global) → Reads old was → (got : Got) (mid : OpeningStage D) (steps : List (Want × Got)) (answer : Answer) (new : OpeningStage D) → Fits (Device (ReadMetadata more)) got → Led old (Device (ReadMetadata more)) got mid →
      ((fewer : ℕ) (now : ReadSteps Global) → Reads mid now → IsRunOf (to_read left fewer) steps answer → HasSo answer new) →
      IsRunOf (after (to_read left more) got) steps answer → Leads Led mid steps new → HasSo answer new
  read_by left more old was h Fault mid steps answer new f led rest r l = failed tells size contents faults first (OpeningJob left) Metadata mid steps answer new r l
  read_by left more old was h (Refused refusal) mid steps answer new f led rest r l = ended tells size contents faults first (OpeningJob left) (Refuses refusal) mid steps answer new r l (λ other. refused_so more old mid was refusal led h)
  read_by left more old was h More mid steps answer new f led rest r l = let now = more_read more old mid was led h in rest (more - 1) now.0 now.1 r
  read_by left more old was h Done mid steps answer new f led rest r l =
      let next = peel Led (to_come left (Device WriteRoot ∷ Device (Sync Metadata) ∷ [])) answer steps mid new tt r l in
      root_by left mid (all_found more old mid was led h) next.got next.mid next.rest answer new next.fits next.did next.run next.leads
  read_by left more old was h (Began nodes) mid steps answer new f led rest r l =
      let begun = begins_anew more nodes old mid was led h in
      nodes_by tells size contents faults first left nodes 0 mid begun.0 begun.1 (omega (arith, begun.2)) steps answer new r l
  read_by left more old was h got mid steps answer new f led rest r l = absurd f

  reading : (left more : ℕ) (old : OpeningStage D) (was : ReadSteps Global) → Reads old was → (steps : List (Want × Got)) (answer : Answer) (new : OpeningStage D) → IsRunOf (to_read left more) steps answer → Leads Led old steps new → HasSo answer new
  reading left more old was h [] answer new r l = absurd (no_end r)
    where
      no_end : Device (ReadMetadata more) ≡ End answer → ⊥
      no_end e = cc
  reading left more old was h (step ∷ steps) answer new r l =
      read_by left more old was h step.1 l.0 steps answer new
      (subst (λ (w : Want). Fits w step.1) r.0 r.1)
      (subst (λ (w : Want). Led old w step.1 l.0) r.0 l.1)
      (λ fewer now h' r'. reading left fewer l.0 now h' steps answer new r' l.2)
      r.2 l.2

  -- ---- the three syncs

  -- nothing was read, and these devices are durable
  record AtStart (stage : OpeningStage D) : Type 0 where
    metadata : tells → contents stage.devices.metadata ≡ Settled
    begun : HasNotBegun stage.opening
    geometry : stage.opening.geometry ≡ first.opening.geometry
    mode : stage.mode ≡ first.mode

  same_opening : (old new : Opening) → HasNotBegun old → new.reading ≡ old.reading → new.commit ≡ old.commit → HasNotBegun new
  same_opening old new h e c = record { reading = h.reading; reading_is = e ∙ h.reading_is; begins = h.begins; commit = c ∙ h.commit }

  origin_by : (left : ℕ) (old : OpeningStage D) → AtStart old → (tells → contents old.devices.cache ≡ synced (contents first.devices.cache)) → old.devices.origin ≡ first.devices.origin →
      (got : Got) (mid : OpeningStage D) (steps : List (Want × Got)) (answer : Answer) (new : OpeningStage D) → Fits (Device (Sync Origin)) got → Led old (Device (Sync Origin)) got mid →
      IsRunOf (after (to_come left (Device (Sync Origin) ∷ (to_read left left).steps)) got) steps answer → Leads Led mid steps new → HasSo answer new
  origin_by left old h cache origin Fault mid steps answer new f led r l = failed tells size contents faults first (OpeningJob left) Origin mid steps answer new r l
  origin_by left old h cache origin Done mid steps answer new f led r l =
      let begun = same_opening old.opening mid.opening h.begun led.4.0 led.4.1 in
      reading left left mid begun.reading (record {
        durable = record {
          metadata = λ t. ap contents led.0.0 ∙ h.metadata t;
          copies = λ t. (ap contents led.0.1 ∙ cache t, (led.4.2 t).0 ∙ ap (λ (d : D). synced (contents d)) origin);
          geometry = led.2 ∙ h.geometry;
          mode = led.5 ∙ h.mode;
        };
        reading_is = begun.reading_is;
        read = λ t. begun.begins (map newest Settled);
        commit = begun.commit;
      }) steps answer new r l
  origin_by left old h cache origin got mid steps answer new f led r l = absurd f

  cache_by : (left : ℕ) (old : OpeningStage D) → AtStart old → old.devices.cache ≡ first.devices.cache → old.devices.origin ≡ first.devices.origin →
      (got : Got) (mid : OpeningStage D) (steps : List (Want × Got)) (answer : Answer) (new : OpeningStage D) → Fits (Device (Sync Cache)) got → Led old (Device (Sync Cache)) got mid →
      IsRunOf (after (to_come left (Device (Sync Cache) ∷ Device (Sync Origin) ∷ (to_read left left).steps)) got) steps answer → Leads Led mid steps new → HasSo answer new
  cache_by left old h cache origin Fault mid steps answer new f led r l = failed tells size contents faults first (OpeningJob left) Cache mid steps answer new r l
  cache_by left old h cache origin Done mid steps answer new f led r l =
      let next = peel Led (to_come left (Device (Sync Origin) ∷ (to_read left left).steps)) answer steps mid new tt r l in
      origin_by left mid (record {
        metadata = λ t. ap contents led.0.0 ∙ h.metadata t;
        begun = same_opening old.opening mid.opening h.begun led.4.0 led.4.1;
        geometry = led.2 ∙ h.geometry;
        mode = led.5 ∙ h.mode;
      }) (λ t. (led.4.2 t).0 ∙ ap (λ (d : D). synced (contents d)) cache) (led.0.1 ∙ origin) next.got next.mid next.rest answer new next.fits next.did next.run next.leads
  cache_by left old h cache origin got mid steps answer new f led r l = absurd f

  metadata_by : (left : ℕ) → HasNotBegun first.opening → (got : Got) (mid : OpeningStage D) (steps : List (Want × Got)) (answer : Answer) (new : OpeningStage D) → Fits (Device (Sync Metadata)) got → Led first (Device (Sync Metadata)) got mid →
      IsRunOf (after (table (OpeningJob left)) got) steps answer → Leads Led mid steps new → HasSo answer new
  metadata_by left h Fault mid steps answer new f led r l = failed tells size contents faults first (OpeningJob left) Metadata mid steps answer new r l
  metadata_by left h Done mid steps answer new f led r l =
      let next = peel Led (to_come left (Device (Sync Cache) ∷ Device (Sync Origin) ∷ (to_read left left).steps)) answer steps mid new tt r l in
      let none : Goes (size first.devices.metadata) None (Sync Metadata) Done mid.opening.commit = subst (λ (c : Option RunningCommit). Goes (size first.devices.metadata) c (Sync Metadata) Done mid.opening.commit) h.commit led.4.1 in
      cache_by left mid (record {
        metadata = λ t. (led.4.2 t).0;
        begun = same_opening first.opening mid.opening h led.4.0 (none ∙ sym h.commit);
        geometry = led.2;
        mode = led.5;
      }) led.0.0 led.0.1 next.got next.mid next.rest answer new next.fits next.did next.run next.leads
  metadata_by left h got mid steps answer new f led r l = absurd f

  pub has_ended : (s : Plan) (left : ℕ) (steps : List (Want × Got)) (answer : Answer) (new : OpeningStage D) → s ≡ table (OpeningJob left) → HasNotBegun first.opening → IsRunOf s steps answer → Leads Led first steps new → OpeningHasEnded tells size contents first answer new
  has_ended s left steps answer new is h r l =
      let next = peel Led (table (OpeningJob left)) answer steps first new tt (subst (λ (t : Plan). IsRunOf t steps answer) is r) l in
      metadata_by left h next.got next.mid next.rest answer new next.fits next.did next.run next.leads
