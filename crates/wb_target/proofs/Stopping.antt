-- How an opening of a target was refused: its steps were those of an opening of the devices alone, up to the first that writes; or a device failed; or no target could be made.
use Rattle.std.proofs.Common.{◌≡◌, ◌≢◌, ◌⊎◌, ◌∙◌, ◌&&◌, ℕ, zero, suc, true, false, ◌-◌, List, [], ◌∷◌, ◌++◌, Option, Some, None, is_none, refl, sym, subst, ap, inl, inr}
use Rattle.std.specs.Prelude.{Result, Ok, Err}
use Rattle.wb_types.specs.declared.message.Key.{Key}
use Rattle.wb_types.specs.declared.mode.Dev.{Dev}
use Rattle.wb_types.specs.declared.mode.Dev.TheVariants.{Metadata, Cache, Origin}
use Rattle.wb_types.specs.declared.refusal.Refusal.{Refusal}
use Rattle.wb_types.specs.declared.refusal.Refusal.TheVariants.{Io}
use Rattle.wb_disk.specs.Device.{History, newest, only, synced}
use Rattle.wb_tasks.specs.Tables.{TaskJob, Opening as OpeningJob}
use Rattle.wb_tasks.specs.Plan.{Plan, table, want, after, node_writes, opening_root, Fits, IsStep}
use Rattle.wb_tasks.specs.Run.{IsRunOf, Leads}
use Rattle.wb_tasks.specs.declared.step.Answer.{Answer}
use Rattle.wb_tasks.specs.declared.step.Answer.TheVariants.{Done as Finished, Refused as Refuses}
use Rattle.wb_tasks.specs.declared.step.DeviceStep.{DeviceStep}
use Rattle.wb_tasks.specs.declared.step.DeviceStep.TheVariants.{Sync, ReadMetadata, WriteNode, WriteRoot}
use Rattle.wb_tasks.specs.declared.step.Want.{Want}
use Rattle.wb_tasks.specs.declared.step.Want.TheVariants.{Device, End}
use Rattle.wb_tasks.specs.declared.step.Got.{Got}
use Rattle.wb_tasks.specs.declared.step.Got.TheVariants.{Done, Fault, Refused, Began, More}
use Rattle.wb_devices.specs.Openings.{HasNotBegun}
use Rattle.wb_devices.specs.OpeningLed.{LedOpening}
use Rattle.wb_devices.specs.Outcomes.{IsRefused}
use Rattle.wb_devices.specs.declared.devices.Devices.{Devices}
use Rattle.wb_devices.specs.declared.opening_stage.OpeningStage.{OpeningStage}
use Rattle.wb_devices.proofs.Ending.{has_ended}
use Rattle.wb_port.specs.Requests.{ComesTo}
use Rattle.wb_tasks.proofs.Peeling.{Peeled, peel}
use Rattle.wb_target.specs.Making.{PolicyStarts, MakingGoesOn, IsNotMadeFor, is_due, writes_metadata}
use Rattle.wb_target.specs.NotOpened.{AreOnlySynced}
use Rattle.wb_target.specs.Offices.{OfficeState}
use Rattle.wb_target.specs.declared.making.MakingStage.{MakingStage}
use Rattle.wb_target.proofs.Opened.{to_come, to_read, ends_so, IsPut, AllPut, all_put, and_false, none_less, exact}

-- a sync of what was synced leaves it as it is
synced_twice : (device : List History) → synced (synced device) ≡ synced device
synced_twice [] = refl
synced_twice (h ∷ hs) = ap (λ (rest : List History). only (newest h) ∷ rest) (synced_twice hs)

-- what a target could not be made for is not kept
abbrev pub IsNoCause : {O : Type 0} → Option (Result O Refusal) → Type 0
IsNoCause made = (cause : Refusal) → made ≢ Some (Err cause)

none_no_cause : {O : Type 0} (made : Option (Result O Refusal)) → is_none made ≡ true → IsNoCause made
none_no_cause made none cause is = absurd (let wrong : true ≡ false = sym none ∙ ap is_none is in cc)

there_no_cause : {O : Type 0} (made : Option (Result O Refusal)) (office : O) → made ≡ Some (Ok office) → IsNoCause made
there_no_cause made office there cause is = absurd (let wrong : Some (Ok office) ≡ Some (Err cause) = sym there ∙ is in cc)

-- with no step left the stage stays, and the plan's own answer is given
not_finished : (job : TaskJob) (refusal : Refusal) (steps : List (Want × Got)) → IsRunOf (record { job = job; steps = []; answer = Finished }) steps (Refuses refusal) → ⊥
not_finished job refusal steps r = let ends = ends_so job Finished (Refuses refusal) steps r in let wrong : Finished ≡ Refuses refusal = ends.1 in cc

module _ {D P : Type 0} (tells : Type 0) (size : D → ℕ) (contents : D → List History) (faults : D → ℕ) (starts : PolicyStarts P) (with_setting : P → Key → ℕ → Option P) (keys : List (Key × ℕ)) (first : Devices D) where
  -- from this stage on, by steps of an opening that makes its target, a run of what is left refuses so
  abbrev Comes : Plan → MakingStage D P → Refusal → MakingStage D P → Type 0
  Comes s m refusal last = ComesTo (MakingGoesOn tells size contents faults starts with_setting) s m (Refuses refusal) last

  next_of : (s : Plan) (m last : MakingStage D P) (refusal : Refusal) → IsStep (want s) → Comes s m refusal last → Peeled (MakingGoesOn tells size contents faults starts with_setting) s (Refuses refusal) m last
  next_of s m last refusal is run = peel (MakingGoesOn tells size contents faults starts with_setting) s (Refuses refusal) run.0 m last is run.1 run.2

  abbrev Synced : Devices D → Type 0
  Synced devices = AreOnlySynced tells contents first devices

  -- an opening that has made no target yet
  record Waits (m : MakingStage D P) : Type 0 where
    keys_are : m.keys.now ≡ keys
    none : is_none m.made ≡ true

  -- a device failed where the target was there, or there was nothing to make it of
  record Failed (last : MakingStage D P) (refusal : Refusal) : Type 0 where
    io : refusal ≡ Io Metadata
    no_cause : IsNoCause last.made

  -- it could not be made, and the devices are only synced
  pub record NotMade (last : MakingStage D P) (refusal : Refusal) : Type 0 where
    pub io : refusal ≡ Io Metadata
    pub cause : Refusal
    pub kept : last.made ≡ Some (Err cause)
    pub why : IsNotMadeFor with_setting keys cause
    pub synced_only : Synced last.stage.devices

  -- an opening of the devices alone
  record Alone (s : Plan) (old : OpeningStage D) (last : MakingStage D P) (refusal : Refusal) : Type 0 where
    steps : List (Want × Got)
    run : IsRunOf s steps (Refuses refusal)
    leads : Leads (LedOpening tells size contents faults) old steps last.stage
    none : is_none last.made ≡ true

  abbrev Ends : Plan → OpeningStage D → MakingStage D P → Refusal → Type 0
  Ends s old last refusal = Alone s old last refusal ⊎ Failed last refusal ⊎ NotMade last refusal

  step_first : (s : Plan) (old mid : OpeningStage D) (got : Got) (last : MakingStage D P) (refusal : Refusal) → Fits (want s) got → LedOpening tells size contents faults old (want s) got mid → Ends (after s got) mid last refusal → Ends s old last refusal
  step_first s old mid got last refusal f led ends = elim ends [
    | inl a ↦ inl (record { steps = (want s, got) ∷ a.steps; run = (refl, f, a.run); leads = (mid, led, a.leads); none = a.none })
    | inr other ↦ inr other
  ]

  -- where the plan has no step left, the last stage is this one
  is_last : (job : TaskJob) (a : Answer) (m last : MakingStage D P) (refusal : Refusal) → Comes (record { job = job; steps = []; answer = a }) m refusal last → m ≡ last
  is_last job a m last refusal run = subst (λ (s : List (Want × Got)). Leads (MakingGoesOn tells size contents faults starts with_setting) m s last) (ends_so job a (Refuses refusal) run.0 run.1).0 run.2

  -- a refusal that ends it before the first write
  stops : (job : TaskJob) (cause : Refusal) (m : MakingStage D P) → Waits m → (last : MakingStage D P) (refusal : Refusal) → Comes (record { job = job; steps = []; answer = Refuses cause }) m refusal last → Ends (record { job = job; steps = []; answer = Refuses cause }) m.stage last refusal
  stops job cause m h last refusal run =
      let is = is_last job (Refuses cause) m last refusal run in
      inl (record {
        steps = [];
        run = ap End (ends_so job (Refuses cause) (Refuses refusal) run.0 run.1).1;
        leads = ap (λ (x : MakingStage D P). x.stage) is;
        none = subst (λ (x : MakingStage D P). is_none x.made ≡ true) is h.none;
      })

  -- a step that writes nothing
  record Passes (m mid : MakingStage D P) (w : Want) (got : Got) : Type 0 where
    led : LedOpening tells size contents faults m.stage w got mid.stage
    waits : Waits mid

  passes : (m mid : MakingStage D P) (w : Want) (got : Got) → writes_metadata w ≡ false → Waits m → MakingGoesOn tells size contents faults starts with_setting m w got mid → Passes m mid w got
  passes m mid w got other h makes =
      let so = exact tells size contents faults starts with_setting m.stage.mode keys m mid w got (ap (λ b. b && is_none m.made) other) makes in
      record { led = so.led; waits = record { keys_are = ap (λ k. k.now) makes.2 ∙ h.keys_are; none = ap is_none so.same ∙ h.none } }

  -- ---- from the first step that writes on

  -- after one of these steps either the next comes, or a device has failed
  after_put : (left : ℕ) (step : DeviceStep) (ws : List Want) (got : Got) (rest : List (Want × Got)) (refusal : Refusal) → IsPut (Device step) → Fits (Device step) got → IsRunOf (after (to_come left (Device step ∷ ws)) got) rest (Refuses refusal)
      → ((got ≡ Done) × IsRunOf (to_come left ws) rest (Refuses refusal)) ⊎ ((got ≡ Fault) × IsRunOf (record { job = OpeningJob left; steps = []; answer = Refuses (Io Metadata) }) rest (Refuses refusal))
  after_put left (WriteNode number) ws Done rest refusal is f r = inl (refl, r)
  after_put left (WriteNode number) ws Fault rest refusal is f r = inr (refl, r)
  after_put left WriteRoot ws Done rest refusal is f r = inl (refl, r)
  after_put left WriteRoot ws Fault rest refusal is f r = inr (refl, r)
  after_put left (Sync Metadata) ws Done rest refusal is f r = inl (refl, r)
  after_put left (Sync Metadata) ws Fault rest refusal is f r = inr (refl, r)
  after_put left (WriteNode number) ws got rest refusal is f r = absurd f
  after_put left WriteRoot ws got rest refusal is f r = absurd f
  after_put left (Sync Metadata) ws got rest refusal is f r = absurd f
  after_put left step ws got rest refusal is f r = absurd is

  io_of : (job : TaskJob) (refusal : Refusal) (rest : List (Want × Got)) → IsRunOf (record { job = job; steps = []; answer = Refuses (Io Metadata) }) rest (Refuses refusal) → refusal ≡ Io Metadata
  io_of job refusal rest r = let ends : Refuses (Io Metadata) ≡ Refuses refusal = (ends_so job (Refuses (Io Metadata)) (Refuses refusal) rest r).1 in cc

  -- the target is there, and the rest is written
  putting : (left : ℕ) (ws : List Want) → AllPut ws → (m : MakingStage D P) (office : OfficeState P) → m.made ≡ Some (Ok office) → (last : MakingStage D P) (refusal : Refusal) → Comes (to_come left ws) m refusal last → Failed last refusal
  putting left [] all m office there last refusal run = absurd (not_finished (OpeningJob left) refusal run.0 run.1)
  putting left (Device step ∷ ws) all m office there last refusal run =
      let next = next_of (to_come left (Device step ∷ ws)) m last refusal tt run in
      let so = exact tells size contents faults starts with_setting m.stage.mode keys m next.mid (Device step) next.got (and_false (writes_metadata (Device step)) (is_none m.made) (none_less m.made (office, there))) next.did in
      elim (after_put left step ws next.got next.rest refusal all.0 next.fits next.run) [
        | inl well ↦ putting left ws all.1 next.mid office (so.same ∙ there) last refusal (next.rest, well.1, next.leads)
        | inr failed ↦ record {
          io = io_of (OpeningJob left) refusal next.rest failed.1;
          no_cause = subst (λ (x : MakingStage D P). IsNoCause x.made) (is_last (OpeningJob left) (Refuses (Io Metadata)) next.mid last refusal (next.rest, failed.1, next.leads)) (there_no_cause next.mid.made office (so.same ∙ there));
        }
      ]
  putting left (w ∷ ws) all m office there last refusal run = absurd all.0

  -- the first that writes
  put_first : (left : ℕ) (step : DeviceStep) (ws : List Want) → IsPut (Device step) → writes_metadata (Device step) ≡ true → AllPut ws → (m : MakingStage D P) → Waits m → Synced m.stage.devices → (last : MakingStage D P) (refusal : Refusal) → Comes (to_come left (Device step ∷ ws)) m refusal last
      → Failed last refusal ⊎ NotMade last refusal
  put_first left step ws is writes all m h on last refusal run =
      let next = next_of (to_come left (Device step ∷ ws)) m last refusal tt run in
      let due : is_due m.made (Device step) ≡ true = ap (λ b. b && is_none m.made) writes ∙ h.none in
      let came = after_put left step ws next.got next.rest refusal is next.fits next.run in
      elim next.did.3 [
        | inl so ↦
            let made = so.3 due in
            elim came [
              | inl well ↦ inl (putting left ws all next.mid made.0 made.1 last refusal (next.rest, well.1, next.leads))
              | inr failed ↦ inl (record {
                io = io_of (OpeningJob left) refusal next.rest failed.1;
                no_cause = subst (λ (x : MakingStage D P). IsNoCause x.made) (is_last (OpeningJob left) (Refuses (Io Metadata)) next.mid last refusal (next.rest, failed.1, next.leads)) (there_no_cause next.mid.made made.0 made.1);
              })
            ]
        | inr not ↦
            elim came [
              | inl well ↦ absurd (let wrong : Done ≡ Fault = sym well.0 ∙ not.0 in cc)
              | inr failed ↦
                  let io = io_of (OpeningJob left) refusal next.rest failed.1 in
                  let at_last = is_last (OpeningJob left) (Refuses (Io Metadata)) next.mid last refusal (next.rest, failed.1, next.leads) in
                  elim not.3 [
                    | inl nothing ↦ inl (record { io = io; no_cause = subst (λ (x : MakingStage D P). IsNoCause x.made) at_last (none_no_cause next.mid.made (ap is_none nothing.1 ∙ h.none)) })
                    | inr why ↦ inr (record {
                      io = io;
                      cause = why.0;
                      kept = subst (λ (x : MakingStage D P). x.made ≡ Some (Err why.0)) at_last why.1;
                      why = subst (λ (k : List (Key × ℕ)). IsNotMadeFor with_setting k why.0) h.keys_are why.2;
                      synced_only = subst (λ (x : MakingStage D P). Synced x.stage.devices) at_last (subst (λ (d : Devices D). Synced d) (sym not.2) on);
                    })
                  ]
            ]
      ]

  rooting : (left : ℕ) (m : MakingStage D P) → Waits m → Synced m.stage.devices → (last : MakingStage D P) (refusal : Refusal) → Comes (to_come left opening_root) m refusal last → Ends (to_come left opening_root) m.stage last refusal
  rooting left m h on last refusal run = inr (put_first left WriteRoot (Device (Sync Metadata) ∷ []) tt refl (tt, tt) m h on last refusal run)

  -- a sync of what is only synced
  synced_on : (m mid : MakingStage D P) → LedOpening tells size contents faults m.stage (Device (Sync Metadata)) Done mid.stage → Synced m.stage.devices → Synced mid.stage.devices
  synced_on m mid led on = record {
    metadata = λ t. (led.4.2 t).0 ∙ ap synced (on.metadata t) ∙ synced_twice (contents first.metadata);
    copies = λ t. (ap contents led.0.0 ∙ (on.copies t).0, ap contents led.0.1 ∙ (on.copies t).1);
  }

  writing : (left nodes : ℕ) (m : MakingStage D P) → Waits m → Synced m.stage.devices → (last : MakingStage D P) (refusal : Refusal) → Comes (to_come left (node_writes nodes 0 ++ Device (Sync Metadata) ∷ opening_root)) m refusal last
      → Ends (to_come left (node_writes nodes 0 ++ Device (Sync Metadata) ∷ opening_root)) m.stage last refusal
  writing left zero m h on last refusal run =
      let next = next_of (to_come left (Device (Sync Metadata) ∷ opening_root)) m last refusal tt run in
      write_none next.got next.mid (passes m next.mid (Device (Sync Metadata)) next.got refl h next.did) next.fits (next.rest, next.run, next.leads)
    where
      write_none : (got : Got) (mid : MakingStage D P) → Passes m mid (Device (Sync Metadata)) got → Fits (Device (Sync Metadata)) got → Comes (after (to_come left (Device (Sync Metadata) ∷ opening_root)) got) mid refusal last → Ends (to_come left (Device (Sync Metadata) ∷ opening_root)) m.stage last refusal
      write_none Done mid p f run = step_first (to_come left (Device (Sync Metadata) ∷ opening_root)) m.stage mid.stage Done last refusal f p.led (rooting left mid p.waits (synced_on m mid p.led on) last refusal run)
      write_none Fault mid p f run = step_first (to_come left (Device (Sync Metadata) ∷ opening_root)) m.stage mid.stage Fault last refusal f p.led (stops (OpeningJob left) (Io Metadata) mid p.waits last refusal run)
      write_none got mid p f run = absurd f
  writing left (suc nodes) m h on last refusal run = inr (put_first left (WriteNode 0) (node_writes nodes 1 ++ Device (Sync Metadata) ∷ opening_root) tt refl (all_put nodes 1) m h on last refusal run)

  -- ---- reading

  read_on : (more : ℕ) (got : Got) (m mid : MakingStage D P) → LedOpening tells size contents faults m.stage (Device (ReadMetadata more)) got mid.stage → Synced m.stage.devices → Synced mid.stage.devices
  read_on more got m mid led on = record {
    metadata = λ t. led.4.0 t ∙ on.metadata t;
    copies = λ t. (ap contents led.0.0 ∙ (on.copies t).0, ap contents led.0.1 ∙ (on.copies t).1);
  }

  read_by : (left more : ℕ) (m : MakingStage D P) → Synced m.stage.devices → (got : Got) (mid : MakingStage D P) → Passes m mid (Device (ReadMetadata more)) got → Fits (Device (ReadMetadata more)) got → (last : MakingStage D P) (refusal : Refusal) → Comes (after (to_read left more) got) mid refusal last
      → ((fewer : ℕ) → Synced mid.stage.devices → after (to_read left more) got ≡ to_read left fewer → Ends (to_read left fewer) mid.stage last refusal) → Ends (to_read left more) m.stage last refusal
  read_by left more m on Fault mid p f last refusal run next = step_first (to_read left more) m.stage mid.stage Fault last refusal f p.led (stops (OpeningJob left) (Io Metadata) mid p.waits last refusal run)
  read_by left more m on (Refused cause) mid p f last refusal run next = step_first (to_read left more) m.stage mid.stage (Refused cause) last refusal f p.led (stops (OpeningJob left) cause mid p.waits last refusal run)
  read_by left more m on More mid p f last refusal run next = step_first (to_read left more) m.stage mid.stage More last refusal f p.led (next (more - 1) (read_on more More m mid p.led on) refl)
  read_by left more m on (Began nodes) mid p f last refusal run next = step_first (to_read left more) m.stage mid.stage (Began nodes) last refusal f p.led (writing left nodes mid p.waits (read_on more (Began nodes) m mid p.led on) last refusal run)
  read_by left more m on Done mid p f last refusal run next = step_first (to_read left more) m.stage mid.stage Done last refusal f p.led (rooting left mid p.waits (read_on more Done m mid p.led on) last refusal run)
  read_by left more m on got mid p f last refusal run next = absurd f

  reading : (left more : ℕ) (m : MakingStage D P) → Waits m → Synced m.stage.devices → (steps : List (Want × Got)) (last : MakingStage D P) (refusal : Refusal) → IsRunOf (to_read left more) steps (Refuses refusal) → Leads (MakingGoesOn tells size contents faults starts with_setting) m steps last → Ends (to_read left more) m.stage last refusal
  reading left more m h on [] last refusal r l = absurd (no_end r)
    where
      no_end : Device (ReadMetadata more) ≡ End (Refuses refusal) → ⊥
      no_end e = cc
  reading left more m h on (step ∷ steps) last refusal r l =
      let p = passes m l.0 (Device (ReadMetadata more)) step.1 refl h (subst (λ (w : Want). MakingGoesOn tells size contents faults starts with_setting m w step.1 l.0) r.0 l.1) in
      read_by left more m on step.1 l.0 p (subst (λ (w : Want). Fits w step.1) r.0 r.1) last refusal (steps, r.2, l.2)
      (λ fewer on' is. reading left fewer l.0 p.waits on' steps last refusal (subst (λ (t : Plan). IsRunOf t steps (Refuses refusal)) is r.2) l.2)

  -- ---- the three syncs

  abbrev from_origin : ℕ → Plan
  from_origin left = to_come left (Device (Sync Origin) ∷ (to_read left left).steps)

  abbrev from_cache : ℕ → Plan
  from_cache left = to_come left (Device (Sync Cache) ∷ Device (Sync Origin) ∷ (to_read left left).steps)

  abbrev MetadataSynced : Devices D → Type 0
  MetadataSynced devices = tells → contents devices.metadata ≡ synced (contents first.metadata)

  abbrev CacheSynced : Devices D → Type 0
  CacheSynced devices = tells → contents devices.cache ≡ synced (contents first.cache)

  origin_by : (left : ℕ) (m : MakingStage D P) → MetadataSynced m.stage.devices → CacheSynced m.stage.devices → m.stage.devices.origin ≡ first.origin → (got : Got) (mid : MakingStage D P) → Passes m mid (Device (Sync Origin)) got → Fits (Device (Sync Origin)) got
      → (last : MakingStage D P) (refusal : Refusal) → Comes (after (from_origin left) got) mid refusal last → Ends (from_origin left) m.stage last refusal
  origin_by left m meta cache origin Fault mid p f last refusal run = step_first (from_origin left) m.stage mid.stage Fault last refusal f p.led (stops (OpeningJob left) (Io Origin) mid p.waits last refusal run)
  origin_by left m meta cache origin Done mid p f last refusal run =
      step_first (from_origin left) m.stage mid.stage Done last refusal f p.led (reading left left mid p.waits (record {
        metadata = λ t. ap contents p.led.0.0 ∙ meta t;
        copies = λ t. (ap contents p.led.0.1 ∙ cache t, (p.led.4.2 t).0 ∙ ap (λ (d : D). synced (contents d)) origin);
      }) run.0 last refusal run.1 run.2)
  origin_by left m meta cache origin got mid p f last refusal run = absurd f

  cache_by : (left : ℕ) (m : MakingStage D P) → MetadataSynced m.stage.devices → m.stage.devices.cache ≡ first.cache → m.stage.devices.origin ≡ first.origin → (got : Got) (mid : MakingStage D P) → Passes m mid (Device (Sync Cache)) got → Fits (Device (Sync Cache)) got
      → (last : MakingStage D P) (refusal : Refusal) → Comes (after (from_cache left) got) mid refusal last → Ends (from_cache left) m.stage last refusal
  cache_by left m meta cache origin Fault mid p f last refusal run = step_first (from_cache left) m.stage mid.stage Fault last refusal f p.led (stops (OpeningJob left) (Io Cache) mid p.waits last refusal run)
  cache_by left m meta cache origin Done mid p f last refusal run =
      let next = next_of (from_origin left) mid last refusal tt run in
      step_first (from_cache left) m.stage mid.stage Done last refusal f p.led (origin_by left mid (λ t. ap contents p.led.0.0 ∙ meta t) (λ t. (p.led.4.2 t).0 ∙ ap (λ (d : D). synced (contents d)) cache) (p.led.0.1 ∙ origin)
      next.got next.mid (passes mid next.mid (Device (Sync Origin)) next.got refl p.waits next.did) next.fits last refusal (next.rest, next.run, next.leads))
  cache_by left m meta cache origin got mid p f last refusal run = absurd f

  metadata_by : (left : ℕ) (m : MakingStage D P) → m.stage.devices ≡ first → (got : Got) (mid : MakingStage D P) → Passes m mid (Device (Sync Metadata)) got → Fits (Device (Sync Metadata)) got
      → (last : MakingStage D P) (refusal : Refusal) → Comes (after (table (OpeningJob left)) got) mid refusal last → Ends (table (OpeningJob left)) m.stage last refusal
  metadata_by left m over Fault mid p f last refusal run = step_first (table (OpeningJob left)) m.stage mid.stage Fault last refusal f p.led (stops (OpeningJob left) (Io Metadata) mid p.waits last refusal run)
  metadata_by left m over Done mid p f last refusal run =
      let next = next_of (from_cache left) mid last refusal tt run in
      step_first (table (OpeningJob left)) m.stage mid.stage Done last refusal f p.led (cache_by left mid (λ t. (p.led.4.2 t).0 ∙ ap (λ (d : Devices D). synced (contents d.metadata)) over)
      (p.led.0.0 ∙ ap (λ (d : Devices D). d.cache) over) (p.led.0.1 ∙ ap (λ (d : Devices D). d.origin) over)
      next.got next.mid (passes mid next.mid (Device (Sync Cache)) next.got refl p.waits next.did) next.fits last refusal (next.rest, next.run, next.leads))
  metadata_by left m over got mid p f last refusal run = absurd f

  -- ---- all of it

  -- no cause is kept, and unless a device failed the metadata were refused; or the target could not be made
  abbrev pub HasStopped : MakingStage D P → MakingStage D P → Refusal → Type 0
  HasStopped begun last refusal = (IsNoCause last.made × (((device : Dev) → refusal ≢ Io device) → IsRefused tells contents begun.stage last.stage refusal)) ⊎ NotMade last refusal

  pub has_stopped : (begun last : MakingStage D P) (left : ℕ) (steps : List (Want × Got)) (refusal : Refusal) → begun.stage.devices ≡ first → begun.keys.now ≡ keys → begun.made ≡ None → HasNotBegun begun.stage.opening
      → IsRunOf (table (OpeningJob left)) steps (Refuses refusal) → Leads (MakingGoesOn tells size contents faults starts with_setting) begun steps last → HasStopped begun last refusal
  has_stopped begun last left steps refusal over keys_are made_none not_begun r l =
      let next = next_of (table (OpeningJob left)) begun last refusal tt (steps, r, l) in
      let begins : Waits begun = record { keys_are = keys_are; none = ap is_none made_none } in
      elim (metadata_by left begun over next.got next.mid (passes begun next.mid (Device (Sync Metadata)) next.got refl begins next.did) next.fits last refusal (next.rest, next.run, next.leads)) [
        | inl a ↦ inl (none_no_cause last.made a.none, has_ended tells size contents faults begun.stage (table (OpeningJob left)) left a.steps (Refuses refusal) last.stage refl not_begun a.run a.leads)
        | inr other ↦ elim other [
          | inl failed ↦ inl (failed.no_cause, λ no. absurd (no Metadata failed.io))
          | inr not ↦ inr not
        ]
      ]
