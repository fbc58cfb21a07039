-- What a target's opening has opened. Its steps are those of an opening of the devices alone, which keeps what it has read; and the target was made of just that.
use Rattle.std.proofs.Common.{◌≡◌, ◌∙◌, ◌&&◌, ℕ, zero, suc, Bool, true, false, ◌+◌, ◌-◌, List, [], ◌∷◌, ◌++◌, Option, Some, None, is_none, refl, sym, subst, ap, inl, inr}
use Rattle.std.specs.declared.alloc.Global.{Global}
use Rattle.wb_types.specs.declared.message.Key.{Key}
use Rattle.wb_types.specs.declared.mode.Dev.TheVariants.{Metadata, Cache, Origin}
use Rattle.wb_types.specs.declared.mode.Mode.{Mode}
use Rattle.wb_types.specs.declared.refusal.Refusal.{Refusal}
use Rattle.wb_types.specs.declared.refusal.Refusal.TheVariants.{Io}
use Rattle.wb_disk.specs.Device.{History}
use Rattle.wb_tree.specs.declared.image.Image.{Image}
use Rattle.wb_meta.specs.Reads.{AreStepsOn}
use Rattle.std.specs.Prelude.{IfSome, Result, Ok}
use Rattle.wb_meta.specs.declared.read_steps.ReadSteps.{ReadSteps}
use Rattle.wb_meta.specs.declared.read_steps.ReadSteps.TheVariants.{Done as AllRead}
use Rattle.wb_meta.specs.declared.read_steps.State.{State}
use Rattle.wb_tasks.specs.Tables.{TaskJob, Opening as OpeningJob}
use Rattle.wb_tasks.specs.Plan.{Plan, table, want, after, node_writes, opening_root, Fits}
use Rattle.wb_tasks.specs.Run.{IsRunOf, Leads}
use Rattle.wb_tasks.specs.declared.step.Answer.{Answer}
use Rattle.wb_tasks.specs.declared.step.Answer.TheVariants.{Done as Finished, Refused as Refuses}
use Rattle.wb_tasks.specs.declared.step.DeviceStep.{DeviceStep}
use Rattle.wb_tasks.specs.declared.step.DeviceStep.TheVariants.{Sync, ReadMetadata, WriteNode, WriteRoot}
use Rattle.wb_tasks.specs.declared.step.Want.{Want}
use Rattle.wb_tasks.specs.declared.step.Want.TheVariants.{Device, End}
use Rattle.wb_tasks.specs.declared.step.Got.{Got}
use Rattle.wb_tasks.specs.declared.step.Got.TheVariants.{Done, Fault, Refused, Began, More}
use Rattle.wb_tasks.proofs.Driving.{no_result}
use Rattle.wb_devices.specs.Moving.{OthersStay}
use Rattle.wb_devices.specs.Stepping.{DidStep, Goes}
use Rattle.wb_devices.specs.Openings.{MayGoOn, HasNotBegun}
use Rattle.wb_devices.specs.OpeningLed.{LedOpening}
use Rattle.wb_devices.specs.declared.devices.Devices.{Devices}
use Rattle.wb_devices.specs.declared.opening_stage.OpeningStage.{OpeningStage}
use Rattle.wb_devices.specs.declared.running.RunningCommit.{RunningCommit}
use Rattle.wb_devices.proofs.Ending.{has_ended}
use Rattle.wb_tasks.proofs.Peeling.{peel}
use Rattle.wb_target.specs.Making.{PolicyStarts, IsMadeOf, MakingGoesOn, WasOpened, is_due, writes_metadata}
use Rattle.wb_target.specs.Offices.{OfficeState}
use Rattle.wb_target.specs.declared.making.MakingStage.{MakingStage}

-- an opening with these steps to come
abbrev pub to_come : ℕ → List Want → Plan
to_come left steps = record { job = OpeningJob left; steps = steps; answer = Finished }

abbrev pub to_read : ℕ → ℕ → Plan
to_read left more = to_come left (Device (ReadMetadata more) ∷ Device WriteRoot ∷ Device (Sync Metadata) ∷ [])

-- a plan with no step left ends with its own answer
pub ends_so : (job : TaskJob) (a answer : Answer) (steps : List (Want × Got)) → IsRunOf (record { job = job; steps = []; answer = a }) steps answer → (steps ≡ []) × (a ≡ answer)
ends_so job a answer [] r = (refl, cc)
ends_so job a answer (step ∷ steps) r = absurd (no_result a step.1 (subst (λ (w : Want). Fits w step.1) r.0 r.1))

-- so one that is refused is not done
not_done : (job : TaskJob) (refusal : _) (steps : List (Want × Got)) → IsRunOf (record { job = job; steps = []; answer = Refuses refusal }) steps Finished → ⊥
not_done job refusal steps r = let ends = ends_so job (Refuses refusal) Finished steps r in let wrong : Refuses refusal ≡ Finished = ends.1 in cc

no_fault : {X : Type 0} → (Done ≡ Fault) → X
no_fault e = absurd cc

-- the stage, with what was read
abbrev with_read : {D : Type 0} → OpeningStage D → State Global → OpeningStage D
with_read stage state = record stage { opening = record stage.opening { reading = Some (AllRead state) } }

-- what was read is of a device of so many sectors
abbrev ReadOn : ℕ → State Global → Type 0
ReadOn sectors state = AreStepsOn sectors (AllRead state)

-- a step that writes or syncs the metadata, and a list of them
abbrev pub IsPut : Want → Type 0
IsPut (Device (WriteNode number)) = Unit {0}
IsPut (Device WriteRoot) = Unit {0}
IsPut (Device (Sync Metadata)) = Unit {0}
IsPut want = ⊥

abbrev pub AllPut : List Want → Type 0
AllPut [] = Unit {0}
AllPut (w ∷ ws) = IsPut w × AllPut ws

pub all_put : (nodes first : ℕ) → AllPut (node_writes nodes first ++ Device (Sync Metadata) ∷ opening_root)
all_put zero first = (tt, (tt, (tt, tt)))
all_put (suc nodes) first = (tt, all_put nodes (first + 1))

pub and_false : (w none : Bool) → none ≡ false → (w && none) ≡ false
and_false true none there = there
and_false false none there = refl

pub none_less : {O : Type 0} (made : Option (Result O Refusal)) → (office : O) × (made ≡ Some (Ok office)) → is_none made ≡ false
none_less made there = ap is_none there.1

-- the image stays as a commit goes on
image_stays : (size : ℕ) (next : RunningCommit) (step : _) (got : Got) (commit commit' : Option RunningCommit) → commit ≡ Some next → Goes size commit step got commit' → (later : RunningCommit) × (commit' ≡ Some later) × (later.image ≡ next.image)
image_stays size next step got commit commit' is goes = let so : Goes size (Some next) step got commit' = subst (λ (c : Option RunningCommit). Goes size c step got commit') is goes in (so.0, so.1, so.2)

module _ {D P : Type 0} (tells : Type 0) (size : D → ℕ) (contents : D → List History) (faults : D → ℕ) (starts : PolicyStarts P) (with_setting : P → Key → ℕ → Option P) (mode : Mode) (keys : List (Key × ℕ)) where
  abbrev Led : OpeningStage D → Want → Got → OpeningStage D → Type 0
  Led = LedOpening tells size contents faults

  abbrev Makes : MakingStage D P → Want → Got → MakingStage D P → Type 0
  Makes = MakingGoesOn tells size contents faults starts with_setting

  -- an opening in this mode, with these keys, that may go on, and has made no target yet
  record Stands (m : MakingStage D P) : Type 0 where
    may : MayGoOn (size m.stage.devices.metadata) m.stage.opening
    mode_is : m.stage.mode ≡ mode
    keys_are : m.keys.now ≡ keys
    made_none : is_none m.made ≡ true

  -- the target was made of what was read here, by the root that is written
  record IsMadeHere (stage : OpeningStage D) : Type 0 where
    state : State Global
    next : RunningCommit
    reading_is : stage.opening.reading ≡ Some (AllRead state)
    commit_is : stage.opening.commit ≡ Some next
    office : OfficeState P
    made : IsMadeOf starts with_setting state next.image mode keys office

  -- the target is there
  abbrev pub IsThere : MakingStage D P → Type 0
  IsThere m = (office : OfficeState P) × (m.made ≡ Some (Ok office))

  -- an opening of the devices alone, done from here on, whose devices end so
  record Alone (s : Plan) (old : OpeningStage D) (last : MakingStage D P) : Type 0 where
    steps : List (Want × Got)
    run : IsRunOf s steps Finished
    new : OpeningStage D
    leads : Leads Led old steps new
    devices : new.devices ≡ last.stage.devices
    made : IsMadeHere new
    there : IsThere last

  step_first : (s : Plan) (old mid : OpeningStage D) (got : Got) (last : MakingStage D P) → Fits (want s) got → Led old (want s) got mid → Alone (after s got) mid last → Alone s old last
  step_first s old mid got last f led a = record { steps = (want s, got) ∷ a.steps; run = (refl, f, a.run); new = a.new; leads = (mid, led, a.leads); devices = a.devices; made = a.made; there = a.there }

  -- a step that is the opening's own, as it stands
  pub record Stays (m mid : MakingStage D P) (w : Want) (got : Got) : Type 0 where
    pub led : Led m.stage w got mid.stage
    pub same : mid.made ≡ m.made

  -- as one is where nothing is due
  pub exact : (m mid : MakingStage D P) (w : Want) (got : Got) → is_due m.made w ≡ false → Makes m w got mid → Stays m mid w got
  exact m mid w got undue makes = elim makes.3 [
    | inl so ↦ record { led = subst (λ (s : OpeningStage D). Led s w got mid.stage) (so.1.others undue) so.2; same = so.4 undue }
    | inr failed ↦ absurd (let both : true ≡ false = sym failed.1 ∙ undue in cc)
  ]

  -- one that writes nothing
  record Passes (m mid : MakingStage D P) (w : Want) (got : Got) : Type 0 where
    led : Led m.stage w got mid.stage
    stands : Stands mid

  passes : (m mid : MakingStage D P) (w : Want) (got : Got) → writes_metadata w ≡ false → Stands m → Makes m w got mid → Passes m mid w got
  passes m mid w got other h makes =
      let so = exact m mid w got (ap (λ b. b && is_none m.made) other) makes in
      record {
        led = so.led;
        stands = record { may = makes.0; mode_is = makes.1 ∙ h.mode_is; keys_are = ap (λ k. k.now) makes.2 ∙ h.keys_are; made_none = ap is_none so.same ∙ h.made_none };
      }

  -- ---- behind the first step that writes

  -- the target was made of this state, which the opening has no longer
  record Holds (m : MakingStage D P) (state : State Global) : Type 0 where
    there : IsThere m
    on : ReadOn (size m.stage.devices.metadata) state
    made : IsMadeHere (with_read m.stage state)

  -- what a step on the metadata does besides to what was read
  abbrev PutOn : DeviceStep → Devices D → Option RunningCommit → MakingStage D P → Type 0
  PutOn step devices commit mid = OthersStay Metadata devices mid.stage.devices
      × (size mid.stage.devices.metadata ≡ size devices.metadata)
      × Goes (size devices.metadata) commit step Done mid.stage.opening.commit
      × (tells → DidStep commit step Done (size devices.metadata) (contents devices.metadata) (faults devices.metadata) [] [] (contents mid.stage.devices.metadata) (faults mid.stage.devices.metadata))

  put_of : (step : DeviceStep) (before : OpeningStage D) (mid : MakingStage D P) → IsPut (Device step) → Led before (Device step) Done mid.stage → PutOn step before.devices before.opening.commit mid
  put_of (WriteNode number) before mid is led = (led.0, led.1, led.4.1, led.4.2)
  put_of WriteRoot before mid is led = (led.0, led.1, led.4.1, led.4.2)
  put_of (Sync Metadata) before mid is led = (led.0, led.1, led.4.1, led.4.2)
  put_of step before mid is led = absurd is

  -- what was read stays with it
  led_with : (step : DeviceStep) (m : OpeningStage D) (mid : MakingStage D P) (state : State Global) → IsPut (Device step) → m.opening.reading ≡ Some (AllRead state) → mid.stage.opening.geometry ≡ m.opening.geometry → mid.stage.mode ≡ m.mode → ReadOn (size mid.stage.devices.metadata) state
      → PutOn step m.devices m.opening.commit mid → Led m (Device step) Done (with_read mid.stage state)
  led_with (WriteNode number) m mid state is reads geometry same on put = (put.0, put.1, geometry, on, (sym reads, put.2, put.3), same)
  led_with WriteRoot m mid state is reads geometry same on put = (put.0, put.1, geometry, on, (sym reads, put.2, put.3), same)
  led_with (Sync Metadata) m mid state is reads geometry same on put = (put.0, put.1, geometry, on, (sym reads, put.2, put.3), same)
  led_with step m mid state is reads geometry same on put = absurd is

  -- the target that was made stays that of the commit which goes on
  made_on : (step : DeviceStep) (devices : Devices D) (commit : Option RunningCommit) (mid : MakingStage D P) (state : State Global) (next : RunningCommit) → commit ≡ Some next → (office : OfficeState P) → IsMadeOf starts with_setting state next.image mode keys office
      → PutOn step devices commit mid → IsMadeHere (with_read mid.stage state)
  made_on step devices commit mid state next commit_is office made put =
      let later = image_stays (size devices.metadata) next step Done commit mid.stage.opening.commit commit_is put.2 in
      record {
        state = state;
        next = later.0;
        reading_is = refl;
        commit_is = later.1;
        office = office;
        made = subst (λ (image : Image). IsMadeOf starts with_setting state image mode keys office) (sym later.2) made;
      }

  -- a step on the metadata behind which the target is there
  record Wrote (s : OpeningStage D) (step : DeviceStep) (mid : MakingStage D P) : Type 0 where
    state : State Global
    led : Led s (Device step) Done (with_read mid.stage state)
    holds : Holds mid state

  -- one that comes when it is there
  wrote_on : (step : DeviceStep) (m mid : MakingStage D P) (state : State Global) → IsPut (Device step) → Holds m state → Makes m (Device step) Done mid → Wrote (with_read m.stage state) step mid
  wrote_on step m mid state is h makes =
      let so = exact m mid (Device step) Done (and_false (writes_metadata (Device step)) (is_none m.made) (none_less m.made h.there)) makes in
      let put = put_of step m.stage mid is so.led in
      let on : ReadOn (size mid.stage.devices.metadata) state = subst (λ (n : ℕ). AreStepsOn n (AllRead state)) (sym put.1) h.on in
      let same_state : h.made.state ≡ state = let both : Some (AllRead h.made.state) ≡ Some (AllRead state) = sym h.made.reading_is in cc in
      record {
        state = state;
        led = led_with step (with_read m.stage state) mid state is refl so.led.2 makes.1 on put;
        holds = record {
          there = (h.there.0, so.same ∙ h.there.1);
          on = on;
          made = made_on step m.stage.devices m.stage.opening.commit mid state h.made.next h.made.commit_is h.made.office (subst (λ (x : State Global). IsMadeOf starts with_setting x h.made.next.image mode keys h.made.office) same_state h.made.made) put;
        };
      }

  -- the first that writes
  wrote : (step : DeviceStep) (m mid : MakingStage D P) → IsPut (Device step) → writes_metadata (Device step) ≡ true → Stands m → Makes m (Device step) Done mid → Wrote m.stage step mid
  wrote step m mid is first h makes = elim makes.3 [
    | inl so ↦
        let due = so.3 (ap (λ b. b && is_none m.made) first ∙ h.made_none) in
        let read = due.2 in
        let taken = so.1 in
        let put = subst (λ (commit : Option RunningCommit). PutOn step m.stage.devices commit mid) taken.commit (subst (λ (devices : Devices D). PutOn step devices so.0.opening.commit mid) taken.devices (put_of step so.0 mid is so.2)) in
        let was : ReadOn (size m.stage.devices.metadata) read.state = subst (λ (r : Option (ReadSteps Global)). IfSome r (AreStepsOn (size m.stage.devices.metadata))) read.reading_is h.may in
        let on : ReadOn (size mid.stage.devices.metadata) read.state = subst (λ (n : ℕ). AreStepsOn n (AllRead read.state)) (sym put.1) was in
        record {
          state = read.state;
          led = led_with step m.stage mid read.state is read.reading_is (so.2.2 ∙ taken.geometry) makes.1 on put;
          holds = record {
            there = (due.0, due.1);
            on = on;
            made = made_on step m.stage.devices m.stage.opening.commit mid read.state read.next read.commit_is due.0
                (subst (λ (k : List (Key × ℕ)). IsMadeOf starts with_setting read.state read.next.image mode k due.0) h.keys_are
                (subst (λ (x : Mode). IsMadeOf starts with_setting read.state read.next.image x m.keys.now due.0) h.mode_is read.made)) put;
          };
        }
    | inr failed ↦ absurd (no_fault failed.0)
  ]

  -- what is left then: steps that write or sync the metadata
  after_put : (left : ℕ) (step : DeviceStep) (ws : List Want) (got : Got) (rest : List (Want × Got)) → IsPut (Device step) → Fits (Device step) got → IsRunOf (after (to_come left (Device step ∷ ws)) got) rest Finished → (got ≡ Done) × IsRunOf (to_come left ws) rest Finished
  after_put left (WriteNode number) ws Done rest is f r = (refl, r)
  after_put left (WriteNode number) ws Fault rest is f r = absurd (not_done (OpeningJob left) (Io Metadata) rest r)
  after_put left WriteRoot ws Done rest is f r = (refl, r)
  after_put left WriteRoot ws Fault rest is f r = absurd (not_done (OpeningJob left) (Io Metadata) rest r)
  after_put left (Sync Metadata) ws Done rest is f r = (refl, r)
  after_put left (Sync Metadata) ws Fault rest is f r = absurd (not_done (OpeningJob left) (Io Metadata) rest r)
  after_put left (WriteNode number) ws got rest is f r = absurd f
  after_put left WriteRoot ws got rest is f r = absurd f
  after_put left (Sync Metadata) ws got rest is f r = absurd f
  after_put left step ws got rest is f r = absurd is

  before_put : (left : ℕ) (step : DeviceStep) (ws : List Want) (old mid : OpeningStage D) (last : MakingStage D P) → IsPut (Device step) → Led old (Device step) Done mid → Alone (to_come left ws) mid last → Alone (to_come left (Device step ∷ ws)) old last
  before_put left (WriteNode number) ws old mid last is led a = step_first (to_come left (Device (WriteNode number) ∷ ws)) old mid Done last tt led a
  before_put left WriteRoot ws old mid last is led a = step_first (to_come left (Device WriteRoot ∷ ws)) old mid Done last tt led a
  before_put left (Sync Metadata) ws old mid last is led a = step_first (to_come left (Device (Sync Metadata) ∷ ws)) old mid Done last tt led a
  before_put left step ws old mid last is led a = absurd is

  putting : (left : ℕ) (ws : List Want) → AllPut ws → (m : MakingStage D P) (state : State Global) → Holds m state → (steps : List (Want × Got)) (last : MakingStage D P) → IsRunOf (to_come left ws) steps Finished → Leads Makes m steps last → Alone (to_come left ws) (with_read m.stage state) last
  putting left [] all m state h steps last r l =
      let nothing = (ends_so (OpeningJob left) Finished Finished steps r).0 in
      let is : m ≡ last = subst (λ (s : List (Want × Got)). Leads Makes m s last) nothing l in
      record { steps = []; run = refl; new = with_read m.stage state; leads = refl; devices = ap (λ (x : MakingStage D P). x.stage.devices) is; made = h.made; there = subst (λ (x : MakingStage D P). IsThere x) is h.there }
  putting left (Device step ∷ ws) all m state h steps last r l =
      let next = peel Makes (to_come left (Device step ∷ ws)) Finished steps m last tt r l in
      let well = after_put left step ws next.got next.rest all.0 next.fits next.run in
      let w = wrote_on step m next.mid state all.0 h (subst (λ (got : Got). Makes m (Device step) got next.mid) well.0 next.did) in
      before_put left step ws (with_read m.stage state) (with_read next.mid.stage w.state) last all.0 w.led (putting left ws all.1 next.mid w.state w.holds next.rest last well.1 next.leads)
  putting left (w ∷ ws) all m state h steps last r l = absurd all.0

  -- the first of them writes
  put_first : (left : ℕ) (step : DeviceStep) (ws : List Want) → IsPut (Device step) → writes_metadata (Device step) ≡ true → AllPut ws → (m : MakingStage D P) → Stands m → (steps : List (Want × Got)) (last : MakingStage D P) → IsRunOf (to_come left (Device step ∷ ws)) steps Finished → Leads Makes m steps last
      → Alone (to_come left (Device step ∷ ws)) m.stage last
  put_first left step ws is first all m h steps last r l =
      let next = peel Makes (to_come left (Device step ∷ ws)) Finished steps m last tt r l in
      let well = after_put left step ws next.got next.rest is next.fits next.run in
      let w = wrote step m next.mid is first h (subst (λ (got : Got). Makes m (Device step) got next.mid) well.0 next.did) in
      before_put left step ws m.stage (with_read next.mid.stage w.state) last is w.led (putting left ws all next.mid w.state w.holds next.rest last well.1 next.leads)

  -- ---- the root, and the nodes of what is converted before it

  rooting : (left : ℕ) (m : MakingStage D P) → Stands m → (steps : List (Want × Got)) (last : MakingStage D P) → IsRunOf (to_come left opening_root) steps Finished → Leads Makes m steps last → Alone (to_come left opening_root) m.stage last
  rooting left m h steps last r l = put_first left WriteRoot (Device (Sync Metadata) ∷ []) tt refl (tt, tt) m h steps last r l

  writing : (left nodes : ℕ) (m : MakingStage D P) → Stands m → (steps : List (Want × Got)) (last : MakingStage D P) → IsRunOf (to_come left (node_writes nodes 0 ++ Device (Sync Metadata) ∷ opening_root)) steps Finished → Leads Makes m steps last
      → Alone (to_come left (node_writes nodes 0 ++ Device (Sync Metadata) ∷ opening_root)) m.stage last
  writing left zero m h steps last r l =
      let next = peel Makes (to_come left (Device (Sync Metadata) ∷ opening_root)) Finished steps m last tt r l in
      let well = after_put left (Sync Metadata) opening_root next.got next.rest tt next.fits next.run in
      let p = passes m next.mid (Device (Sync Metadata)) Done refl h (subst (λ (got : Got). Makes m (Device (Sync Metadata)) got next.mid) well.0 next.did) in
      before_put left (Sync Metadata) opening_root m.stage next.mid.stage last tt p.led (rooting left next.mid p.stands next.rest last well.1 next.leads)
  writing left (suc nodes) m h steps last r l = put_first left (WriteNode 0) (node_writes nodes 1 ++ Device (Sync Metadata) ∷ opening_root) tt refl (all_put nodes 1) m h steps last r l

  -- ---- reading

  read_by : (left more : ℕ) (m : MakingStage D P) → Stands m → (got : Got) (mid : MakingStage D P) (rest : List (Want × Got)) (last : MakingStage D P) → Fits (Device (ReadMetadata more)) got → Makes m (Device (ReadMetadata more)) got mid →
      ((fewer : ℕ) → Stands mid → IsRunOf (to_read left fewer) rest Finished → Alone (to_read left fewer) mid.stage last) → IsRunOf (after (to_read left more) got) rest Finished → Leads Makes mid rest last → Alone (to_read left more) m.stage last
  read_by left more m h Fault mid rest last f makes on r l = absurd (not_done (OpeningJob left) (Io Metadata) rest r)
  read_by left more m h (Refused refusal) mid rest last f makes on r l = absurd (not_done (OpeningJob left) refusal rest r)
  read_by left more m h More mid rest last f makes on r l =
      let p = passes m mid (Device (ReadMetadata more)) More refl h makes in
      step_first (to_read left more) m.stage mid.stage More last f p.led (on (more - 1) p.stands r)
  read_by left more m h (Began nodes) mid rest last f makes on r l =
      let p = passes m mid (Device (ReadMetadata more)) (Began nodes) refl h makes in
      step_first (to_read left more) m.stage mid.stage (Began nodes) last f p.led (writing left nodes mid p.stands rest last r l)
  read_by left more m h Done mid rest last f makes on r l =
      let p = passes m mid (Device (ReadMetadata more)) Done refl h makes in
      step_first (to_read left more) m.stage mid.stage Done last f p.led (rooting left mid p.stands rest last r l)
  read_by left more m h got mid rest last f makes on r l = absurd f

  reading : (left more : ℕ) (m : MakingStage D P) → Stands m → (steps : List (Want × Got)) (last : MakingStage D P) → IsRunOf (to_read left more) steps Finished → Leads Makes m steps last → Alone (to_read left more) m.stage last
  reading left more m h [] last r l = absurd (no_end r)
    where
      no_end : Device (ReadMetadata more) ≡ End Finished → ⊥
      no_end e = cc
  reading left more m h (step ∷ steps) last r l =
      read_by left more m h step.1 l.0 steps last (subst (λ (w : Want). Fits w step.1) r.0 r.1) (subst (λ (w : Want). Makes m w step.1 l.0) r.0 l.1)
      (λ fewer h' r'. reading left fewer l.0 h' steps last r' l.2) r.2 l.2

  -- ---- the three syncs

  origin_by : (left : ℕ) (m : MakingStage D P) → Stands m → (got : Got) (mid : MakingStage D P) (rest : List (Want × Got)) (last : MakingStage D P) → Fits (Device (Sync Origin)) got → Makes m (Device (Sync Origin)) got mid →
      IsRunOf (after (to_come left (Device (Sync Origin) ∷ (to_read left left).steps)) got) rest Finished → Leads Makes mid rest last → Alone (to_come left (Device (Sync Origin) ∷ (to_read left left).steps)) m.stage last
  origin_by left m h Fault mid rest last f makes r l = absurd (not_done (OpeningJob left) (Io Origin) rest r)
  origin_by left m h Done mid rest last f makes r l =
      let p = passes m mid (Device (Sync Origin)) Done refl h makes in
      step_first (to_come left (Device (Sync Origin) ∷ (to_read left left).steps)) m.stage mid.stage Done last f p.led (reading left left mid p.stands rest last r l)
  origin_by left m h got mid rest last f makes r l = absurd f

  cache_by : (left : ℕ) (m : MakingStage D P) → Stands m → (got : Got) (mid : MakingStage D P) (rest : List (Want × Got)) (last : MakingStage D P) → Fits (Device (Sync Cache)) got → Makes m (Device (Sync Cache)) got mid →
      IsRunOf (after (to_come left (Device (Sync Cache) ∷ Device (Sync Origin) ∷ (to_read left left).steps)) got) rest Finished → Leads Makes mid rest last → Alone (to_come left (Device (Sync Cache) ∷ Device (Sync Origin) ∷ (to_read left left).steps)) m.stage last
  cache_by left m h Fault mid rest last f makes r l = absurd (not_done (OpeningJob left) (Io Cache) rest r)
  cache_by left m h Done mid rest last f makes r l =
      let next = peel Makes (to_come left (Device (Sync Origin) ∷ (to_read left left).steps)) Finished rest mid last tt r l in
      let p = passes m mid (Device (Sync Cache)) Done refl h makes in
      step_first (to_come left (Device (Sync Cache) ∷ Device (Sync Origin) ∷ (to_read left left).steps)) m.stage mid.stage Done last f p.led
      (origin_by left mid p.stands next.got next.mid next.rest last next.fits next.did next.run next.leads)
  cache_by left m h got mid rest last f makes r l = absurd f

  metadata_by : (left : ℕ) (m : MakingStage D P) → Stands m → (got : Got) (mid : MakingStage D P) (rest : List (Want × Got)) (last : MakingStage D P) → Fits (Device (Sync Metadata)) got → Makes m (Device (Sync Metadata)) got mid →
      IsRunOf (after (table (OpeningJob left)) got) rest Finished → Leads Makes mid rest last → Alone (table (OpeningJob left)) m.stage last
  metadata_by left m h Fault mid rest last f makes r l = absurd (not_done (OpeningJob left) (Io Metadata) rest r)
  metadata_by left m h Done mid rest last f makes r l =
      let next = peel Makes (to_come left (Device (Sync Cache) ∷ Device (Sync Origin) ∷ (to_read left left).steps)) Finished rest mid last tt r l in
      let p = passes m mid (Device (Sync Metadata)) Done refl h makes in
      step_first (table (OpeningJob left)) m.stage mid.stage Done last f p.led
      (cache_by left mid p.stands next.got next.mid next.rest last next.fits next.did next.run next.leads)
  metadata_by left m h got mid rest last f makes r l = absurd f

  -- ---- all of it

  -- an opening that has made no target yet, and is done in the end, of the devices alone
  done_alone : (first last : MakingStage D P) (left : ℕ) (steps : List (Want × Got)) → Stands first → IsRunOf (table (OpeningJob left)) steps Finished → Leads Makes first steps last → Alone (table (OpeningJob left)) first.stage last
  done_alone first last left steps h r l =
      let next = peel Makes (table (OpeningJob left)) Finished steps first last tt r l in
      metadata_by left first h next.got next.mid next.rest last next.fits next.did next.run next.leads

  -- it has made its target
  pub has_made : (first last : MakingStage D P) (left : ℕ) (steps : List (Want × Got)) → MayGoOn (size first.stage.devices.metadata) first.stage.opening → first.stage.mode ≡ mode → first.keys.now ≡ keys → first.made ≡ None
      → IsRunOf (table (OpeningJob left)) steps Finished → Leads Makes first steps last → (office : OfficeState P) × (last.made ≡ Some (Ok office))
  has_made first last left steps may mode_is keys_are made_none r l = (done_alone first last left steps (record { may = may; mode_is = mode_is; keys_are = keys_are; made_none = ap is_none made_none }) r l).there

  pub was_opened : (first last : MakingStage D P) (left : ℕ) (steps : List (Want × Got)) → MayGoOn (size first.stage.devices.metadata) first.stage.opening → first.stage.mode ≡ mode → first.keys.now ≡ keys → first.made ≡ None → HasNotBegun first.stage.opening
      → IsRunOf (table (OpeningJob left)) steps Finished → Leads Makes first steps last → WasOpened tells size contents starts with_setting mode keys first.stage.devices last.stage.devices
  was_opened first last left steps may mode_is keys_are made_none begun r l =
      let alone = done_alone first last left steps (record { may = may; mode_is = mode_is; keys_are = keys_are; made_none = ap is_none made_none }) r l in
      let ended = has_ended tells size contents faults first.stage (table (OpeningJob left)) left alone.steps Finished alone.new refl begun alone.run alone.leads in
      let opened = ended.0 in
      let made = alone.made in
      let same_state : made.state ≡ opened.state = let both : Some (AllRead made.state) ≡ Some (AllRead opened.state) = sym made.reading_is ∙ opened.reading_is in cc in
      let same_next : made.next ≡ opened.next = let both : Some made.next ≡ Some opened.next = sym made.commit_is ∙ opened.commit_is in cc in
      subst (λ (back : Devices D). WasOpened tells size contents starts with_setting mode keys first.stage.devices back) alone.devices (record {
        opening = alone.new.opening;
        done = opened;
        over = ended.1;
        durable = ended.2;
        clean = λ passes. ended.3 (mode_is ∙ passes);
        office = made.office;
        made = subst (λ (state : State Global). IsMadeOf starts with_setting state opened.next.image mode keys made.office) same_state
            (subst (λ (next : RunningCommit). IsMadeOf starts with_setting made.state next.image mode keys made.office) same_next made.made);
      })
