-- What an opening writes anew: its nodes, the sync behind them, the root, and its sync.
use Rattle.std.proofs.Common.{◌≡◌, ◌∙◌, ◌+◌, ◌<◌, ◌++◌, ℕ, zero, suc, true, Bool, List, [], ◌∷◌, length, arith, Option, Some, refl, sym, subst, ap, map, if◌then◌else◌, inr}
use Rattle.std.proofs.lemmas.Bool.{eq-eqb}
use Rattle.std.specs.declared.alloc.Global.{Global}
use Rattle.wb_types.specs.declared.geometry.Geometry.{Geometry}
use Rattle.wb_types.specs.declared.mode.Dev.TheVariants.{Metadata}
use Rattle.wb_types.specs.declared.mode.Mode.TheVariants.{Passthrough}
use Rattle.wb_disk.specs.Device.{History, newest}
use Rattle.wb_format.specs.declared.root.Root.{Root}
use Rattle.wb_meta.specs.Reads.{FitsDevice}
use Rattle.wb_meta.specs.States.{RepresentsState}
use Rattle.wb_meta.specs.Steps.{DoesStep, steps_after}
use Rattle.wb_meta.specs.declared.commit_steps.CommitSteps.{CommitSteps}
use Rattle.wb_tree.specs.declared.image.Image.{Image}
use Rattle.wb_meta.specs.declared.commit_steps.CommitSteps.TheVariants.{NodesWritten, NodesSynced, RootWritten, Done as Committed}
use Rattle.wb_meta.specs.declared.read_steps.ReadSteps.TheVariants.{Done as AllRead}
use Rattle.wb_meta.specs.declared.read_steps.State.{State}
use Rattle.wb_tasks.specs.Tables.{Opening as OpeningJob}
use Rattle.wb_tasks.specs.Plan.{after, Fits, node_writes, opening_root}
use Rattle.wb_tasks.specs.Run.{IsRunOf, Leads}
use Rattle.wb_tasks.specs.declared.step.Answer.{Answer}
use Rattle.wb_tasks.specs.declared.step.Answer.TheVariants.{Done as Finished}
use Rattle.wb_tasks.specs.declared.step.DeviceStep.{DeviceStep}
use Rattle.wb_tasks.specs.declared.step.DeviceStep.TheVariants.{Sync, WriteNode, WriteRoot}
use Rattle.wb_tasks.specs.declared.step.Want.{Want}
use Rattle.wb_tasks.specs.declared.step.Want.TheVariants.{Device}
use Rattle.wb_tasks.specs.declared.step.Got.{Got}
use Rattle.wb_tasks.specs.declared.step.Got.TheVariants.{Done, Fault}
use Rattle.wb_devices.specs.Committing.{goes_on, is_coming}
use Rattle.wb_devices.specs.Stepping.{Goes}
use Rattle.wb_devices.specs.Clean.{IsLeftClean}
use Rattle.wb_meta.specs.Commits.{CommitHasCome}
use Rattle.wb_meta.proofs.Stepping.{goes_on as commit_goes_on}
use Rattle.wb_devices.specs.Converting.{IsConverted, WantsConversion}
use Rattle.wb_devices.proofs.Alike.{serves_alike}
use Rattle.wb_devices.proofs.Nodes.{does_sync, node_after, node_comes, sync_after, sync_comes}
use Rattle.wb_devices.specs.OpeningLed.{LedOpening}
use Rattle.wb_devices.specs.Outcomes.{IsOpen, DataIsDurable, OpeningHasEnded}
use Rattle.wb_devices.specs.declared.opening_stage.OpeningStage.{OpeningStage}
use Rattle.wb_devices.specs.declared.running.RunningCommit.{RunningCommit}
use Rattle.wb_tasks.proofs.Peeling.{peel}
use Rattle.wb_devices.proofs.EndingSteps.{ended, failed, put_done, settled, to_come}

module _ {D : Type 0} (tells : Type 0) (size : D → ℕ) (contents : D → List History) (faults : D → ℕ) (first : OpeningStage D) where
  abbrev Led : OpeningStage D → Want → Got → OpeningStage D → Type 0
  Led = LedOpening tells size contents faults

  abbrev HasSo : Answer → OpeningStage D → Type 0
  HasSo answer new = OpeningHasEnded tells size contents first answer new

  -- what was read stands in the second version, and the commit of its image has come so far
  pub record Anew (stage : OpeningStage D) (image : Image) (steps : CommitSteps) : Type 0 where
    pub old : State Global
    pub state : State Global
    pub reading_is : stage.opening.reading ≡ Some (AllRead state)
    pub wants : WantsConversion first.opening.geometry (AllRead old) old
    pub geometry : stage.opening.geometry ≡ first.opening.geometry
    pub size_is : size stage.devices.metadata ≡ first.opening.geometry.meta_sectors
    pub next : RunningCommit
    pub commit_is : stage.opening.commit ≡ Some next
    pub image_is : next.image ≡ image
    pub steps_are : next.steps ≡ steps
    pub converted : IsConverted first.opening.geometry old image state
    pub represents : tells → RepresentsState (map newest (settled contents first)) old.root old.tree old.dirty old.used.items
    pub come : tells → CommitHasCome image (settled contents first) steps (contents stage.devices.metadata)
    pub copies : tells → DataIsDurable contents first.devices stage.devices
    pub clean : first.mode ≡ Passthrough → IsLeftClean state

  -- the step that comes next of it is taken
  module _ (image : Image) (steps : CommitSteps) (step : DeviceStep) (comes : is_coming image steps step ≡ true) (old mid : OpeningStage D) (w : Anew old image steps) where
    abbrev running : RunningCommit
    running = w.next

    all_goes : goes_on (size old.devices.metadata) running.image running.steps step ≡ true
    all_goes =
        let coming : is_coming running.image running.steps step ≡ true = ap (λ (i : Image). is_coming i w.next.steps step) w.image_is ∙ ap (λ (s : CommitSteps). is_coming image s step) w.steps_are ∙ comes in
        let for_it : size old.devices.metadata ≡ running.image.root.geometry.meta_sectors =
        w.size_is ∙ ap (λ (g : Geometry). g.meta_sectors) (sym w.converted.root.geometry) ∙ ap (λ (r : Root). r.geometry.meta_sectors) (sym w.converted.root.next) ∙ ap (λ (i : Image). i.root.geometry.meta_sectors) (sym w.image_is) in
        rw coming (eq-eqb (size old.devices.metadata) running.image.root.geometry.meta_sectors for_it)

    -- what it does is a step of this image
    of_image : (before after : List History) → DoesStep running.image running.steps before after → DoesStep image steps before after
    of_image before after does = subst (λ (s : CommitSteps). DoesStep image s before after) w.steps_are (subst (λ (i : Image). DoesStep i running.steps before after) w.image_is does)

    anew_on : (mid.devices.cache ≡ old.devices.cache) → (mid.devices.origin ≡ old.devices.origin) → size mid.devices.metadata ≡ size old.devices.metadata → mid.opening.geometry ≡ old.opening.geometry
        → mid.opening.reading ≡ old.opening.reading → Goes (size old.devices.metadata) old.opening.commit step Done mid.opening.commit
        → (tells → DoesStep image steps (contents old.devices.metadata) (contents mid.devices.metadata)) → Anew mid image (steps_after image steps)
    anew_on cache origin same asked reading goes does =
        let so : Goes (size old.devices.metadata) (Some running) step Done mid.opening.commit = subst (λ (c : Option RunningCommit). Goes (size old.devices.metadata) c step Done mid.opening.commit) w.commit_is goes in
        record {
          old = w.old;
          state = w.state;
          reading_is = reading ∙ w.reading_is;
          wants = w.wants;
          geometry = asked ∙ w.geometry;
          size_is = same ∙ w.size_is;
          next = so.0;
          commit_is = so.1;
          image_is = so.2 ∙ w.image_is;
          steps_are = so.3 ∙ ap (λ (b : Bool). if b then steps_after running.image running.steps else running.steps) all_goes ∙ ap (λ (i : Image). steps_after i running.steps) w.image_is ∙ ap (λ (s : CommitSteps). steps_after image s) w.steps_are;
          converted = w.converted;
          represents = w.represents;
          come = λ t. commit_goes_on image first.opening.geometry.meta_sectors (settled contents first) (contents old.devices.metadata) (contents mid.devices.metadata) steps w.converted.placed (w.come t) (does t);
          copies = λ t. (ap contents cache ∙ (w.copies t).0, ap contents origin ∙ (w.copies t).1);
          clean = w.clean;
        }

  -- the steps that are left lead to the end
  abbrev Leads_on : ℕ → Image → CommitSteps → List Want → Type 0
  Leads_on left image steps rest = (mid : OpeningStage D) → Anew mid image steps → (taken : List (Want × Got)) (answer : Answer) (new : OpeningStage D) → IsRunOf (to_come left rest) taken answer → Leads Led mid taken new → HasSo answer new

  sync_anew_by : (left : ℕ) (image : Image) (steps : CommitSteps) (rest : List Want) → is_coming image steps (Sync Metadata) ≡ true → Leads_on left image (steps_after image steps) rest → (old : OpeningStage D) → Anew old image steps
      → (got : Got) (mid : OpeningStage D) (taken : List (Want × Got)) (answer : Answer) (new : OpeningStage D) → Fits (Device (Sync Metadata)) got → Led old (Device (Sync Metadata)) got mid
      → IsRunOf (after (to_come left (Device (Sync Metadata) ∷ rest)) got) taken answer → Leads Led mid taken new → HasSo answer new
  sync_anew_by left image steps rest comes on old w Fault mid taken answer new f led r l = failed tells size contents faults first (OpeningJob left) Metadata mid taken answer new r l
  sync_anew_by left image steps rest comes on old w Done mid taken answer new f led r l =
      on mid (anew_on image steps (Sync Metadata) comes old mid w led.0.0 led.0.1 led.1 led.2 led.4.0 led.4.1 (λ t. does_sync image steps (contents old.devices.metadata) (contents mid.devices.metadata) comes (led.4.2 t).0)) taken answer new r l
  sync_anew_by left image steps rest comes on old w got mid taken answer new f led r l = absurd f

  sync_anew : (left : ℕ) (image : Image) (steps : CommitSteps) (rest : List Want) → is_coming image steps (Sync Metadata) ≡ true → Leads_on left image (steps_after image steps) rest → Leads_on left image steps (Device (Sync Metadata) ∷ rest)
  sync_anew left image steps rest comes on old w run answer new r l =
      let next = peel Led (to_come left (Device (Sync Metadata) ∷ rest)) answer run old new tt r l in
      sync_anew_by left image steps rest comes on old w next.got next.mid next.rest answer new next.fits next.did next.run next.leads

  root_anew_by : (left : ℕ) (image : Image) (rest : List Want) → Leads_on left image RootWritten rest → (old : OpeningStage D) → Anew old image NodesSynced
      → (got : Got) (mid : OpeningStage D) (taken : List (Want × Got)) (answer : Answer) (new : OpeningStage D) → Fits (Device WriteRoot) got → Led old (Device WriteRoot) got mid
      → IsRunOf (after (to_come left (Device WriteRoot ∷ rest)) got) taken answer → Leads Led mid taken new → HasSo answer new
  root_anew_by left image rest on old w Fault mid taken answer new f led r l = failed tells size contents faults first (OpeningJob left) Metadata mid taken answer new r l
  root_anew_by left image rest on old w Done mid taken answer new f led r l =
      on mid (anew_on image NodesSynced WriteRoot refl old mid w led.0.0 led.0.1 led.1 led.2 led.4.0 led.4.1
      (λ t. of_image image NodesSynced WriteRoot refl old mid w (contents old.devices.metadata) (contents mid.devices.metadata)
      (put_done _ old.opening.commit w.next WriteRoot _ _ _ _ w.commit_is (all_goes image NodesSynced WriteRoot refl old mid w) (led.4.2 t)))) taken answer new r l
  root_anew_by left image rest on old w got mid taken answer new f led r l = absurd f

  root_anew : (left : ℕ) (image : Image) (rest : List Want) → Leads_on left image RootWritten rest → Leads_on left image NodesSynced (Device WriteRoot ∷ rest)
  root_anew left image rest on old w run answer new r l =
      let next = peel Led (to_come left (Device WriteRoot ∷ rest)) answer run old new tt r l in
      root_anew_by left image rest on old w next.got next.mid next.rest answer new next.fits next.did next.run next.leads

  node_anew_by : (left : ℕ) (image : Image) (number : ℕ) (rest : List Want) → number < length image.nodes.items → Leads_on left image (NodesWritten (number + 1)) rest → (old : OpeningStage D) → Anew old image (NodesWritten number)
      → (got : Got) (mid : OpeningStage D) (taken : List (Want × Got)) (answer : Answer) (new : OpeningStage D) → Fits (Device (WriteNode number)) got → Led old (Device (WriteNode number)) got mid
      → IsRunOf (after (to_come left (Device (WriteNode number) ∷ rest)) got) taken answer → Leads Led mid taken new → HasSo answer new
  node_anew_by left image number rest inside on old w Fault mid taken answer new f led r l = failed tells size contents faults first (OpeningJob left) Metadata mid taken answer new r l
  node_anew_by left image number rest inside on old w Done mid taken answer new f led r l =
      let comes = node_comes image number inside in
      let onward : Anew mid image (steps_after image (NodesWritten number)) = anew_on image (NodesWritten number) (WriteNode number) comes old mid w led.0.0 led.0.1 led.1 led.2 led.4.0 led.4.1
      (λ t. of_image image (NodesWritten number) (WriteNode number) comes old mid w (contents old.devices.metadata) (contents mid.devices.metadata)
      (put_done _ old.opening.commit w.next (WriteNode number) _ _ _ _ w.commit_is (all_goes image (NodesWritten number) (WriteNode number) comes old mid w) (led.4.2 t))) in
      on mid (subst (λ (s : CommitSteps). Anew mid image s) (node_after image number inside) onward) taken answer new r l
  node_anew_by left image number rest inside on old w got mid taken answer new f led r l = absurd f

  node_anew : (left : ℕ) (image : Image) (number : ℕ) (rest : List Want) → number < length image.nodes.items → Leads_on left image (NodesWritten (number + 1)) rest → Leads_on left image (NodesWritten number) (Device (WriteNode number) ∷ rest)
  node_anew left image number rest inside on old w run answer new r l =
      let next = peel Led (to_come left (Device (WriteNode number) ∷ rest)) answer run old new tt r l in
      node_anew_by left image number rest inside on old w next.got next.mid next.rest answer new next.fits next.did next.run next.leads

  -- all of it is durable
  all_anew : (left : ℕ) (image : Image) → Leads_on left image Committed []
  all_anew left image mid w run answer new r l =
      let whole : IsOpen (size mid.devices.metadata) mid.opening = record {
        state = w.state;
        reading_is = w.reading_is;
        fits = subst (λ (n : ℕ). FitsDevice n w.state.root w.state.tree w.state.used.items) (sym w.size_is) w.converted.fits;
        serves = serves_alike w.state.root.geometry mid.opening.geometry (w.converted.root.geometry ∙ sym w.geometry);
        next = w.next;
        commit_is = w.commit_is;
        opens = ap (λ (i : Image). i.root) w.image_is ∙ w.converted.root.next;
        is_done = w.steps_are;
      } in
      ended tells size contents faults first (OpeningJob left) Finished mid run answer new r l (
        whole,
        (λ t. inr (record {
          old = w.old;
          represents = w.represents t;
          wants = subst (λ (g : Geometry). WantsConversion g (AllRead w.old) w.old) (sym w.geometry) w.wants;
          converted = subst (λ (g : Geometry). IsConverted g w.old w.next.image w.state) (sym w.geometry) (subst (λ (i : Image). IsConverted first.opening.geometry w.old i w.state) (sym w.image_is) w.converted);
          wrote = subst (λ (i : Image). CommitHasCome i (settled contents first) Committed (contents mid.devices.metadata)) (sym w.image_is) (w.come t);
        })),
        w.copies,
        w.clean,
      )

  pub nodes_by : (left count number : ℕ) (old : OpeningStage D) (image : Image) → Anew old image (NodesWritten number) → number + count ≡ length image.nodes.items → (run : List (Want × Got)) (answer : Answer) (new : OpeningStage D)
      → IsRunOf (to_come left (node_writes count number ++ Device (Sync Metadata) ∷ opening_root)) run answer → Leads Led old run new → HasSo answer new
  nodes_by left zero number old image w many run answer new r l =
      let last : Leads_on left image RootWritten (Device (Sync Metadata) ∷ []) = sync_anew left image RootWritten [] refl (all_anew left image) in
      let root : Leads_on left image NodesSynced opening_root = root_anew left image (Device (Sync Metadata) ∷ []) last in
      let end : number ≡ length image.nodes.items = omega (arith, many) in
      sync_anew left image (NodesWritten number) opening_root (sync_comes image number end) (subst (λ (s : CommitSteps). Leads_on left image s opening_root) (sym (sync_after image number end)) root) old w run answer new r l
  nodes_by left (suc count) number old image w many run answer new r l =
      node_anew left image number (node_writes count (number + 1) ++ Device (Sync Metadata) ∷ opening_root) (omega (arith, many))
      (λ mid later run' answer' new' r' l'. nodes_by left count (number + 1) mid image later (omega (arith, many)) run' answer' new' r' l') old w run answer new r l
