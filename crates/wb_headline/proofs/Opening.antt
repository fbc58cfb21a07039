-- Each step of an opening, done, refused or failing, is followed.
use Rattle.std.proofs.Common.{◌≡◌, ◌≢◌, ◌∙◌, ◌-◌, inl, inr, ℕ, Bool, true, List, [], Option, Some, None, refl, sym, ap, subst, arith, map, slice_get, slice_set, false}
use Rattle.wb_format.specs.declared.root.Root.{Root}
use Rattle.wb_devices.specs.Clean.{IsCleanSoFar, entries_of}
use Rattle.std.proofs.lemmas.Option.{some_pair_parts}
use Rattle.std.proofs.lemmas.List.{length-set}
use Rattle.wb_types.proofs.Lists.{set_cases}
use Rattle.wb_types.specs.declared.mode.Mode.{Mode}
use Rattle.wb_types.specs.declared.mode.Mode.TheVariants.{Writeback, Passthrough}
use Rattle.wb_types.specs.declared.mode.Dev.TheVariants.{Metadata, Cache, Origin}
use Rattle.wb_types.specs.declared.refusal.Refusal.{Refusal}
use Rattle.wb_types.specs.declared.refusal.Refusal.TheVariants.{Io, NotClean}
use Rattle.wb_disk.specs.Device.{Content as Bytes, History, newest, synced}
use Rattle.wb_disk.specs.Failing.{synced_where}
use Rattle.wb_disk.proofs.FailedSyncs.{partly_synced}
use Rattle.wb_meta.specs.Representing.{Stored}
use Rattle.wb_meta.specs.Steps.{DoesStep, FailsStep, steps_after}
use Rattle.wb_meta.specs.Reads.{sectors_read}
use Rattle.wb_meta.specs.declared.read_steps.ReadSteps.{ReadSteps}
use Rattle.wb_meta.specs.declared.read_steps.ReadSteps.TheVariants.{Begun, Done as AllRead}
use Rattle.wb_meta.specs.declared.read_steps.State.{State as StoredThere}
use Rattle.wb_meta.specs.declared.commit_steps.CommitSteps.TheVariants.{NodesWritten}
use Rattle.wb_types.specs.declared.entry.Entry.{Entry}
use Rattle.wb_dirty.specs.ImageReading.{with_bits}
use Rattle.wb_types.specs.declared.geometry.Geometry.{Geometry}
use Rattle.wb_tasks.specs.Tables.{Opening}
use Rattle.wb_tasks.specs.Plan.{Plan, after}
use Rattle.wb_tasks.specs.declared.step.DeviceStep.{DeviceStep}
use Rattle.wb_tasks.specs.declared.step.DeviceStep.TheVariants.{Sync, ReadMetadata, WriteRoot}
use Rattle.wb_tasks.specs.declared.step.Want.TheVariants.{Device}
use Rattle.wb_tasks.specs.declared.step.Got.{Got}
use Rattle.wb_tasks.specs.declared.step.Got.TheVariants.{Done, Fault, Refused as GotRefused, Began, More}
use Rattle.wb_devices.specs.declared.devices.Devices.{Devices}
use Rattle.wb_devices.specs.declared.running.RunningCommit.{RunningCommit}
use Rattle.wb_devices.specs.Committing.{is_coming}
use Rattle.wb_devices.specs.Converting.{Converts, IsConverted}
use Rattle.wb_devices.specs.Opened.{HasCome, HasNextRoot, got_of_refusal}
use Rattle.wb_meta.specs.Roots.{Commit, MayBeReadAs}
use Rattle.wb_meta.specs.Sizes.{AreSameSizes}
use Rattle.wb_meta.proofs.Sizes.{swapped_sizes}
use Rattle.wb_meta.proofs.Deciding.{read_is_committed}
use Rattle.wb_promise.specs.declared.job.Job.{Job}
use Rattle.wb_promise.specs.declared.job.Job.TheVariants.{Open}
use Rattle.wb_promise.specs.States.{Shape, State, Actor, Opens}
use Rattle.wb_promise.specs.Happenings.{Chosen, Plain, Begins, Reaches, Puts, DoesSync, DoesRead}
use Rattle.wb_promise.specs.Effects.{commit_then, reading_then, actor_then, task_then, led}
use Rattle.wb_promise.specs.Clerk.{Notes, Doing, noted_step, device_note, failing, put}
use Rattle.wb_runs.proofs.Images.{Images, Turns, one_image}
use Rattle.wb_runs.proofs.Underway.{Readable, Found, images_of, is_written, partly_readable}
use Rattle.wb_runs.proofs.Metadata.{MetadataKept, HasReached, AtOpening, Rooting as RootingKept, kept_readable, nodes_begin, root_begins}
use Rattle.wb_runs.proofs.Linking.{IsTask, AtPhase}
use Rattle.wb_runs.proofs.Sizes.{joined_sizes}
use Rattle.wb_link.specs.World.{Shared}
use Rattle.wb_link.specs.Openings.{AbstractPhase as PhaseThere, Stands as StandsThere, Gone as GoneThere, Opens as OpensThere, Learnt, Stage, Settling, Caching, Basing, Looking, Rooting, Renewing, Answering, Learns, Advances, advance}
use Rattle.wb_simulation.specs.Opened.{located, TakesClean}
use Rattle.wb_simulation.specs.Sites.{DevicesAgree, LeadsTo, locations, StateTakesClean}
use Rattle.wb_simulation.proofs.BitLocations.{located-with_bits}
use Rattle.wb_simulation.proofs.Opening.{admitted, openings_followed, read_clean}
use Rattle.wb_headline.proofs.Following.{opening_at, anew_at, HasLearnt, HasRoot, HasReadAt, IsFollowed, IsOver, size, Followed, Goes}
use Rattle.wb_headline.proofs.Suspends.{takes_none}
use Rattle.wb_headline.proofs.Arriving.{SameSectors, sized_so, Arrived, arrives, rests, opens}
use Rattle.wb_headline.proofs.Rooted.{same_one, early_left, early_read, still_unwritten, rooted_on, leads_so, two_read, two_left, both_left}

-- of a step of an opening on a device nothing of the sectors is noted
pub opening_same : (shape : Shape) (shown : List Bytes) (n : Notes) (a : ℕ) (doing : Doing) (mode : Mode) (second : Bool) (step : DeviceStep) (got : Got) (read : List Bytes) → doing.job ≡ Open mode second → SameSectors n (noted_step shape Writeback shown n a (Some (Some doing)) (Device step) got read)
opening_same shape shown n a doing mode second step got read j =
    let mid = failing doing step got in
    subst (λ (q : Job). SameSectors n (device_note shape Writeback (put n a (Some mid)) a mid q step got read)) (sym j)
    (record { histories = refl; finished = refl; floors = refl; doings = length-set n.doings a (Some mid) })

-- the images as they are, read so, beside a root that leads to this state
with_root : (shape : Shape) (sectors : ℕ) (committed new : Stored) (later : Option Stored) (learnt : Learnt) (old now : Devices (List History)) (s : Shared) → DevicesAgree shape.geometry sectors committed later old s → HasRoot learnt later → learnt.locations ≡ locations new → StateTakesClean new (λ block. false) →
    now.origin ≡ old.origin → now.cache ≡ old.cache → MayBeReadAs shape.geometry committed (Some new) now.metadata → DevicesAgree shape.geometry sectors committed (Some new) now s
with_root shape sectors committed new later learnt old now s d r same none o c read =
    let runs = subst (λ (l : Option Stored). Rattle.wb_simulation.specs.Sites.IsRunning l s) r.1 d.images.later_is in
    record {
      origin = d.origin ∙ ap (λ (x : List History). Rattle.wb_contents.specs.Devices.by_block sectors Rattle.wb_simulation.specs.Worlds.zeros x) (sym o);
      cache = d.cache ∙ ap (λ (x : List History). Rattle.wb_contents.specs.Devices.by_block sectors Rattle.wb_simulation.specs.Worlds.zeros x) (sym c);
      images = record { read = read; committed_is = d.images.committed_is; clean_is = d.images.clean_is; later_is = (runs.0, runs.1 ∙ sym r.2 ∙ same, λ b c e. (let there = ap (λ (m : ℕ → Option ℕ). m b) (sym r.2 ∙ same) ∙ e in runs.2 b c there ∙ sym (r.3 b c there) ∙ none b c e)) };
    }

module _ (P A : Type 0) (shape : Shape) (images : Images) (devices : Devices (List History)) (commit : Option RunningCommit) (mode : Mode) (reading : Option (ReadSteps A)) (actors : List Actor) (n : Notes) where
  abbrev w : State P A
  w = record { devices = devices; commit = commit; phase = Opens mode reading; actors = actors }

  abbrev device : List History
  device = devices.metadata

  module _ (known : MetadataKept {P = P} {A = A} shape.geometry images (Opens mode reading) commit device) (f : Followed P A shape images w n) (alone : AtPhase {P = P} {A = A} (Opens mode reading) actors) (a : ℕ) (x : Actor) (ex : slice_get actors a ≡ Some x) (opened_in : Mode) (second : Bool) (shown : List Bytes) (doing : Doing) (job_is : doing.job ≡ Open opened_in second) where
    readable : Readable shape.geometry images device
    readable = kept_readable shape.geometry images device P A (Opens mode reading) commit known

    -- what is noted then
    abbrev n' : DeviceStep → Got → List Bytes → Notes
    n' step got read = noted_step shape Writeback shown n a (Some (Some doing)) (Device step) got read

    -- the state after a step
    abbrev after_it : DeviceStep → Got → Chosen P A → Devices (List History) → State P A
    after_it step got chosen devices' = record {
      devices = devices';
      commit = commit_then {P = P} {A = A} (Opens mode reading) commit (Device step) got chosen;
      phase = Opens mode (reading_then reading (Device step) got chosen);
      actors = slice_set actors a (actor_then {P = P} {A = A} shape (Opens mode reading) devices x (Device step) got);
    }

    same : (step : DeviceStep) (got : Got) (read : List Bytes) → SameSectors n (n' step got read)
    same step got read = opening_same shape shown n a doing opened_in second step got read job_is

    module _ (plan : Plan) (xt : x.task ≡ Some (Open opened_in second, plan)) where
      -- whoever has a task then is the one who opens
      each_then : (y : Actor) (plan' : Plan) (Is : Plan → Type 0) → y.task ≡ Some (Open opened_in second, plan') → Is plan' → (b : ℕ) (z : Actor) (job : Job) (plan2 : Plan) → slice_get (slice_set actors a y) b ≡ Some z → z.task ≡ Some (job, plan2) → Is plan2
      each_then y plan' Is yt i b z job plan2 e zt = elim (set_cases actors a b y z e) [
        | inl here ↦
            let both : Some (Open opened_in second, plan') ≡ Some (job, plan2) = sym yt ∙ ap (λ (v : Actor). v.task) (sym here.1) ∙ zt in
            subst Is (some_pair_parts (Open opened_in second) job plan' plan2 both).1 i
        | inr other ↦ absurd (other.0 (alone.1 b z other.1 (subst (λ (t : Option (Job × Plan)). IsTask t) (sym zt) tt) ∙ sym (alone.1 a x ex (subst (λ (t : Option (Job × Plan)). IsTask t) (sym xt) tt))))
      ]

      -- it goes on so
      goes_to : (step : DeviceStep) (got : Got) (read : List Bytes) (chosen : Chosen P A) (images' : Images) (later' : Option Stored) (phase' : PhaseThere) (devices' : Devices (List History)) (reading' : Option (ReadSteps A)) (commit' : Option RunningCommit) (plan' : Plan) →
          reading_then reading (Device step) got chosen ≡ reading' → commit_then {P = P} {A = A} (Opens mode reading) commit (Device step) got chosen ≡ commit' → after plan got ≡ plan' → Arrived P A shape images'.committed later' phase' devices' (n' step got read) → phase' ≢ StandsThere →
          MetadataKept {P = P} {A = A} shape.geometry images' (Opens mode reading') commit' devices'.metadata → IsFollowed mode reading' commit' later' plan' phase' → Goes P A shape (after_it step got chosen devices') (n' step got read)
      goes_to step got read chosen images' later' phase' devices' reading' commit' plan' er ec ep v down known' at =
          let y = actor_then {P = P} {A = A} shape (Opens mode reading) devices x (Device step) got in
          subst (λ (r : Option (ReadSteps A)). Goes P A shape (record { devices = devices'; commit = commit_then {P = P} {A = A} (Opens mode reading) commit (Device step) got chosen; phase = Opens mode r; actors = slice_set actors a y }) (n' step got read)) (sym er)
          (subst (λ (c : Option RunningCommit). Goes P A shape (record { devices = devices'; commit = c; phase = Opens mode reading'; actors = slice_set actors a y }) (n' step got read)) (sym ec)
          (opens P A shape images' later' phase' devices' (n' step got read) v down (slice_set actors a y) (sized_so P A shape actors (slice_set actors a y) n (n' step got read) (same step got read) (length-set actors a y) f.sized) mode reading' commit' known'
          (each_then y plan' (λ (p : Plan). IsFollowed mode reading' commit' later' p phase') (ap (λ (t : Option (Job × Plan)). task_then t (Device step) got) xt ∙ ap (λ (p : Plan). Some (Open opened_in second, p)) ep) at)))

    over : (total : ℕ) (refusal : Refusal) → IsOver (record { job = Opening total; steps = []; answer = Rattle.wb_tasks.specs.declared.step.Answer.TheVariants.Refused refusal }) GoneThere
    over total refusal = record { nothing = refl; refused = λ e. absurd (cc); phase_is = refl }

    no_stand : (stage : Stage) → OpensThere mode stage ≢ StandsThere
    no_stand stage e = absurd (cc)

    no_gone : GoneThere ≢ StandsThere
    no_gone e = absurd (cc)

    module _ (total left : ℕ) where
      -- ---- the first sync of the metadata

      module _ (ph : f.site.phase ≡ OpensThere mode Settling) (rd : HasReadAt Settling reading commit f.phase.later) (xt : x.task ≡ Some (Open opened_in second, opening_at total left Settling)) where
        begins_of : (chosen : Chosen P A) → DoesSync (Opens mode reading) None device chosen → (now : ReadSteps A) × (chosen ≡ Begins now) × (sectors_read now ≡ 0)
        begins_of (Begins now) s = (now, refl, s)
        begins_of chosen s = absurd s

        reached_at : (now : ReadSteps A) (i : Images) (m : List History) → sectors_read now ≡ 0 → Found shape.geometry i m → HasReached shape.geometry i now m
        reached_at (Begun alloc global) i m e found = record { found = found; come = tt; on = tt }
        reached_at now i m e found = absurd (omega (arith, e))

        pub settle_done : (read : List Bytes) (chosen : Chosen P A) → DoesSync (Opens mode reading) commit device chosen → Goes P A shape (after_it (Sync Metadata) Done chosen (record devices { metadata = synced device })) (n' (Sync Metadata) Done read)
        settle_done read chosen s =
            let b = begins_of chosen (subst (λ (c : Option RunningCommit). DoesSync (Opens mode reading) c device chosen) rd.1 s) in
            let l = openings_followed.settles shape.geometry (size P A shape) images.committed f.phase.later mode f.site devices ph f.phase.devices_follow.agree in
            let found : Found shape.geometry (one_image l.state) (synced device) = record { committed = l.state; are = refl; read = l.leads.agrees.images.read; settled = l.settled } in
            goes_to (opening_at total left Settling) xt (Sync Metadata) Done read chosen (one_image l.state) None (OpensThere mode Caching) (record devices { metadata = synced device }) (Some b.0) None (opening_at total left Caching)
            (ap (λ (c : Chosen P A). reading_then reading (Device (Sync Metadata)) Done c) b.1) (ap (λ (c : Option RunningCommit). led c Done) rd.1) refl
            (arrives P A shape images w n (n' (Sync Metadata) Done read) f (same (Sync Metadata) Done read) l.state None (OpensThere mode Caching) (record devices { metadata = synced device }) l.leads (no_stand Caching)) (no_stand Caching)
            (reached_at b.0 (one_image l.state) (synced device) b.2 found)
            (inl (record { total = total; left = left; stage = Caching; is = refl; phase_is = refl; read = ((b.0, refl), refl, refl) }))

        pub settle_fails : (read : List Bytes) (chosen : Chosen P A) (lands : ℕ → Bool) → Goes P A shape (after_it (Sync Metadata) Fault chosen (record devices { metadata = synced_where lands device })) (n' (Sync Metadata) Fault read)
        settle_fails read chosen lands =
            let l = openings_followed.settling_fails shape.geometry (size P A shape) images.committed f.phase.later mode f.site devices ph f.phase.devices_follow.agree (synced_where lands device) (partly_synced lands device) in
            goes_to (opening_at total left Settling) xt (Sync Metadata) Fault read chosen images f.phase.later GoneThere (record devices { metadata = synced_where lands device }) None None _
            refl (ap (λ (c : Option RunningCommit). led c Fault) rd.1) refl
            (arrives P A shape images w n (n' (Sync Metadata) Fault read) f (same (Sync Metadata) Fault read) images.committed f.phase.later GoneThere (record devices { metadata = synced_where lands device }) l no_gone) no_gone
            (partly_readable shape.geometry images lands device readable)
            (inr (inr (over total _)))

      -- ---- the syncs of cache and origin

      module _ (ph : f.site.phase ≡ OpensThere mode Caching) (rd : HasReadAt Caching reading commit f.phase.later) (xt : x.task ≡ Some (Open opened_in second, opening_at total left Caching)) where
        pub cache_done : (read : List Bytes) (chosen : Chosen P A) → Goes P A shape (after_it (Sync Cache) Done chosen (record devices { cache = synced devices.cache })) (n' (Sync Cache) Done read)
        cache_done read chosen =
            let l = openings_followed.syncs_cache shape.geometry (size P A shape) images.committed f.phase.later mode f.site devices ph f.phase.devices_follow.agree in
            goes_to (opening_at total left Caching) xt (Sync Cache) Done read chosen images f.phase.later (OpensThere mode Basing) (record devices { cache = synced devices.cache }) reading commit (opening_at total left Basing) refl refl refl
            (arrives P A shape images w n (n' (Sync Cache) Done read) f (same (Sync Cache) Done read) images.committed f.phase.later (OpensThere mode Basing) (record devices { cache = synced devices.cache }) l (no_stand Basing)) (no_stand Basing) known
            (inl (record { total = total; left = left; stage = Basing; is = refl; phase_is = refl; read = rd }))

        pub cache_fails : (read : List Bytes) (chosen : Chosen P A) (lands : ℕ → Bool) → Goes P A shape (after_it (Sync Cache) Fault chosen (record devices { cache = synced_where lands devices.cache })) (n' (Sync Cache) Fault read)
        cache_fails read chosen lands =
            let l = openings_followed.cache_fails shape.geometry (size P A shape) images.committed f.phase.later mode f.site devices ph f.phase.devices_follow.agree lands in
            goes_to (opening_at total left Caching) xt (Sync Cache) Fault read chosen images f.phase.later GoneThere (record devices { cache = synced_where lands devices.cache }) reading commit _ refl refl refl
            (arrives P A shape images w n (n' (Sync Cache) Fault read) f (same (Sync Cache) Fault read) images.committed f.phase.later GoneThere (record devices { cache = synced_where lands devices.cache }) l no_gone) no_gone known (inr (inr (over total _)))

      module _ (ph : f.site.phase ≡ OpensThere mode Basing) (rd : HasReadAt Basing reading commit f.phase.later) (xt : x.task ≡ Some (Open opened_in second, opening_at total left Basing)) where
        pub origin_done : (read : List Bytes) (chosen : Chosen P A) → Goes P A shape (after_it (Sync Origin) Done chosen (record devices { origin = synced devices.origin })) (n' (Sync Origin) Done read)
        origin_done read chosen =
            let l = openings_followed.syncs_origin shape.geometry (size P A shape) images.committed f.phase.later mode f.site devices ph f.phase.devices_follow.agree in
            goes_to (opening_at total left Basing) xt (Sync Origin) Done read chosen images f.phase.later (OpensThere mode Looking) (record devices { origin = synced devices.origin }) reading commit (opening_at total left Looking) refl refl refl
            (arrives P A shape images w n (n' (Sync Origin) Done read) f (same (Sync Origin) Done read) images.committed f.phase.later (OpensThere mode Looking) (record devices { origin = synced devices.origin }) l (no_stand Looking)) (no_stand Looking) known
            (inl (record { total = total; left = left; stage = Looking; is = refl; phase_is = refl; read = rd }))

        pub origin_fails : (read : List Bytes) (chosen : Chosen P A) (lands : ℕ → Bool) → Goes P A shape (after_it (Sync Origin) Fault chosen (record devices { origin = synced_where lands devices.origin })) (n' (Sync Origin) Fault read)
        origin_fails read chosen lands =
            let l = openings_followed.origin_fails shape.geometry (size P A shape) images.committed f.phase.later mode f.site devices ph f.phase.devices_follow.agree lands in
            goes_to (opening_at total left Basing) xt (Sync Origin) Fault read chosen images f.phase.later GoneThere (record devices { origin = synced_where lands devices.origin }) reading commit _ refl refl refl
            (arrives P A shape images w n (n' (Sync Origin) Fault read) f (same (Sync Origin) Fault read) images.committed f.phase.later GoneThere (record devices { origin = synced_where lands devices.origin }) l no_gone) no_gone known (inr (inr (over total _)))

      -- ---- the reading

      module _ (ph : f.site.phase ≡ OpensThere mode Looking) (rd : HasReadAt Looking reading commit f.phase.later) (xt : x.task ≡ Some (Open opened_in second, opening_at total left Looking)) where
        none : commit ≡ None
        none = rd.1

        -- so far one image alone is known, on a settled device
        so_far : HasReached shape.geometry images rd.0.0 device
        so_far = subst (λ (c : Option RunningCommit). AtOpening shape.geometry images (Some rd.0.0) c device) none (subst (λ (r : Option (ReadSteps A)). AtOpening shape.geometry images r commit device) rd.0.1 known)

        alone_now : images.running ≡ None
        alone_now = ap (λ (i : Images). i.running) so_far.found.are

        agree : DevicesAgree shape.geometry (size P A shape) images.committed None devices f.site.world.shared
        agree = subst (λ (l : Option Stored). DevicesAgree shape.geometry (size P A shape) images.committed l devices f.site.world.shared) rd.2 f.phase.devices_follow.agree

        -- nothing is read any more
        look_stops : (got : Got) (read : List Bytes) (chosen : Chosen P A) (refusal : Refusal) → reading_then reading (Device (ReadMetadata left)) got chosen ≡ None → commit_then {P = P} {A = A} (Opens mode reading) commit (Device (ReadMetadata left)) got chosen ≡ None →
            after (opening_at total left Looking) got ≡ record { job = Opening total; steps = []; answer = Rattle.wb_tasks.specs.declared.step.Answer.TheVariants.Refused refusal } → Goes P A shape (after_it (ReadMetadata left) got chosen devices) (n' (ReadMetadata left) got read)
        look_stops got read chosen refusal er ec ep =
            let l = openings_followed.look_stops shape.geometry (size P A shape) images.committed None mode f.site devices ph agree in
            goes_to (opening_at total left Looking) xt (ReadMetadata left) got read chosen images None GoneThere devices None None _ er ec ep
            (arrives P A shape images w n (n' (ReadMetadata left) got read) f (same (ReadMetadata left) got read) images.committed None GoneThere devices l no_gone) no_gone readable (inr (inr (over total refusal)))

        -- there is more to read
        look_on : (now : ReadSteps A) (read : List Bytes) (chosen : Chosen P A) → HasReached shape.geometry images now device → reading_then reading (Device (ReadMetadata left)) More chosen ≡ Some now → commit_then {P = P} {A = A} (Opens mode reading) commit (Device (ReadMetadata left)) More chosen ≡ None →
            Goes P A shape (after_it (ReadMetadata left) More chosen devices) (n' (ReadMetadata left) More read)
        look_on now read chosen k er ec =
            goes_to (opening_at total left Looking) xt (ReadMetadata left) More read chosen images None (OpensThere mode Looking) devices (Some now) None (opening_at total (left - 1) Looking) er ec refl
            (rests P A shape images w n (n' (ReadMetadata left) More read) f (same (ReadMetadata left) More read) images.committed None (OpensThere mode Looking) devices f.phase.devices_follow.idle ph agree) (no_stand Looking) k
            (inl (record { total = total; left = left - 1; stage = Looking; is = refl; phase_is = refl; read = ((now, refl), refl, refl) }))

        -- all was read: the abstract opening learns where each block is
        abbrev learnt : Learnt
        learnt = record { locations = f.site.world.shared.committed; clean = f.site.world.shared.committed_clean }

        -- what was read is the committed state, wherever its dirty bits stand
        record ReadAll (stored : StoredThere A) : Type 0 where
          same : learnt.locations ≡ located (entries_of stored)
          takes : TakesClean stored.root.clean (entries_of stored) learnt.clean
          leads : LeadsTo shape.geometry (size P A shape) images.committed None f.site (OpensThere mode (Rooting learnt)) devices

        reads_all : (stored : StoredThere A) (asked : Geometry) → AreSameSizes asked shape.geometry → (mode ≡ Passthrough → IsCleanSoFar asked (AllRead stored)) → HasReached shape.geometry images (AllRead stored) device → ReadAll stored
        reads_all stored asked sizes clean k =
            let is = read_is_committed shape.geometry k.found.committed device stored.root stored.tree stored.dirty stored.used.items k.found.read k.found.settled k.come k.on.0 in
            let one : images.committed ≡ k.found.committed = ap (λ (i : Images). i.committed) k.found.are in
            let entries_are : entries_of stored ≡ images.committed.found.entries = is.1 ∙ ap (λ (s : Stored). s.found.entries) (sym one) in
            let located_so : learnt.locations ≡ located (entries_of stored) = agree.images.committed_is ∙ ap (λ es. located es) (sym entries_are) in
            let takes_so = read_clean stored.root (entries_of stored) images.committed learnt.clean (is.0 ∙ ap (λ (s : Stored). s.root) (sym one)) entries_are agree.images.clean_is in
            let its_sizes : AreSameSizes stored.root.geometry asked = joined_sizes stored.root.geometry shape.geometry asked (subst (λ (r : Root). AreSameSizes r.geometry shape.geometry) (sym is.0) k.found.read.sizes) (swapped_sizes asked shape.geometry sizes) in
            record {
              same = located_so;
              takes = takes_so;
              leads = record {
                event = Advances (Learns learnt);
                may = (mode, Looking, ph, (refl, refl, admitted mode stored.root (entries_of stored) learnt (λ passes. clean passes stored refl its_sizes) located_so takes_so));
                phase_is = ap (λ (p : PhaseThere). (advance f.site.world p (Learns learnt)).phase) ph;
                agrees = subst (λ (p : PhaseThere). DevicesAgree shape.geometry (size P A shape) images.committed None devices (advance f.site.world p (Learns learnt)).world.shared) (sym ph) agree;
              };
            }

        -- so what is to be written is on its way there
        look_ends : (got : Got) (read : List Bytes) (chosen : Chosen P A) (stored after' : StoredThere A) (running : RunningCommit) (plan' : Plan) → ReadAll stored → Turns (λ (i : Images). RootingKept shape.geometry i (AllRead after') running device) images →
            reading_then reading (Device (ReadMetadata left)) got chosen ≡ Some (AllRead after') → commit_then {P = P} {A = A} (Opens mode reading) commit (Device (ReadMetadata left)) got chosen ≡ Some running → after (opening_at total left Looking) got ≡ plan' →
            IsFollowed mode (Some (AllRead after')) (Some running) None plan' (OpensThere mode (Rooting learnt)) → Goes P A shape (after_it (ReadMetadata left) got chosen devices) (n' (ReadMetadata left) got read)
        look_ends got read chosen stored after' running plan' all t er ec ep at =
            let v = arrives P A shape images w n (n' (ReadMetadata left) got read) f (same (ReadMetadata left) got read) images.committed None (OpensThere mode (Rooting learnt)) devices all.leads (no_stand (Rooting learnt)) in
            goes_to (opening_at total left Looking) xt (ReadMetadata left) got read chosen t.now None (OpensThere mode (Rooting learnt)) devices (Some (AllRead after')) (Some running) plan' er ec ep
            (subst (λ (s : Stored). Arrived P A shape s None (OpensThere mode (Rooting learnt)) devices (n' (ReadMetadata left) got read)) (sym (same_one t.turn images t.now alone_now t.turned)) v) (no_stand (Rooting learnt)) t.kept at

        -- the root is next
        look_done : (stored : StoredThere A) (running : RunningCommit) (read : List Bytes) (chosen : Chosen P A) → ReadAll stored → HasReached shape.geometry images (AllRead stored) device → HasNextRoot (AllRead stored) (Some running) →
            reading_then reading (Device (ReadMetadata left)) Done chosen ≡ Some (AllRead stored) → commit_then {P = P} {A = A} (Opens mode reading) commit (Device (ReadMetadata left)) Done chosen ≡ Some running → Goes P A shape (after_it (ReadMetadata left) Done chosen devices) (n' (ReadMetadata left) Done read)
        look_done stored running read chosen all k next er ec =
            look_ends Done read chosen stored stored running (opening_at total left (Rooting learnt)) all (root_begins A shape.geometry images device (AllRead stored) (Some running) k next) er ec refl
            (inl (record {
              total = total;
              left = left;
              stage = Rooting learnt;
              is = refl;
              phase_is = refl;
              read = (
                record {
                  stored = stored;
                  reading_is = refl;
                  running = running;
                  commit_is = refl;
                  same = all.same ∙ located-with_bits stored.dirty stored.tree.entries;
                  clean = all.takes;
                },
                refl,
              );
            }))

        -- or the nodes of what is written anew, which has the places of what was read, and its dirty bits beside it
        look_begins : (asked : Geometry) (old new : StoredThere A) (running : RunningCommit) (nodes : ℕ) (read : List Bytes) (chosen : Chosen P A) → ReadAll old → IsConverted asked old running.image new → running.steps ≡ NodesWritten 0 → Turns (λ (i : Images). RootingKept shape.geometry i (AllRead new) running device) images →
            reading_then reading (Device (ReadMetadata left)) (Began nodes) chosen ≡ Some (AllRead new) → commit_then {P = P} {A = A} (Opens mode reading) commit (Device (ReadMetadata left)) (Began nodes) chosen ≡ Some running → Goes P A shape (after_it (ReadMetadata left) (Began nodes) chosen devices) (n' (ReadMetadata left) (Began nodes) read)
        look_begins asked old new running nodes read chosen all converted steps t er ec =
            let entries_are : entries_of new ≡ entries_of old = converted.entries ∙ ap (λ (bits : Option (List Bool)). with_bits bits old.tree.entries) (sym converted.in_tree) in
            look_ends (Began nodes) read chosen old new running (anew_at total nodes 0) all t er ec refl
            (inr (inl (record {
              total = total;
              count = nodes;
              first = 0;
              learnt = learnt;
              is = refl;
              phase_is = refl;
              read = record {
                stored = new;
                reading_is = refl;
                running = running;
                commit_is = refl;
                same = all.same ∙ ap (λ es. located es) (sym entries_are) ∙ located-with_bits new.dirty new.tree.entries;
                clean = subst (λ (es : List (Option Entry)). TakesClean new.root.clean es learnt.clean) (sym entries_are) (subst (λ (marked : Bool). TakesClean marked (entries_of old) learnt.clean) (sym converted.root.clean) all.takes);
              };
              unwritten = ap is_written steps;
              alone = refl;
            })))

        -- by what its step gives
        pub looks : (got : Got) (read : List Bytes) (chosen : Chosen P A) → DoesRead mode shape.geometry second left rd.0.0 device None got chosen → Goes P A shape (after_it (ReadMetadata left) got chosen devices) (n' (ReadMetadata left) got read)
        looks got read (Reaches after' commit') (no_fault, inl more) = elim more.3.2 [
          | inl in_time ↦ by_got in_time.1 got no_fault in_time.0
          | inr unclean ↦ look_stops got read (Reaches after' commit') NotClean unclean.2 unclean.3 (ap (λ (v : Got). after (opening_at total left Looking) v) unclean.1)
        ]
          where
            asked : Geometry
            asked = more.3.0

            sizes : AreSameSizes asked shape.geometry
            sizes = more.3.1.sizes_are

            reached : HasReached shape.geometry images more.0 device
            reached = record { found = so_far.found; come = more.1 (map newest device) (record { size = Rattle.std.proofs.lemmas.List.length-map device newest; here = λ place e. refl }) so_far.come; on = more.2 }

            all_read : (now : ReadSteps A) → (mode ≡ Passthrough → IsCleanSoFar asked now) → HasReached shape.geometry images now device → (next : HasNextRoot now commit') → after' ≡ Some now → Goes P A shape (after_it (ReadMetadata left) Done (Reaches after' commit') devices) (n' (ReadMetadata left) Done read)
            all_read (AllRead stored) clean k next e = look_done stored next.next read (Reaches after' commit') (reads_all stored asked sizes clean k) k (subst (λ (c : Option RunningCommit). HasNextRoot (AllRead stored) c) next.commit_is next) e next.commit_is
            all_read now clean k next e = absurd next.is_done

            begins : (now : ReadSteps A) (nodes : ℕ) → (mode ≡ Passthrough → IsCleanSoFar asked now) → HasReached shape.geometry images now device → Converts asked now nodes after' commit' → Goes P A shape (after_it (ReadMetadata left) (Began nodes) (Reaches after' commit') devices) (n' (ReadMetadata left) (Began nodes) read)
            begins now nodes clean k c =
                let here = subst (λ (r : ReadSteps A). HasReached shape.geometry images r device) c.wants.all_read k in
                let all = reads_all c.old asked sizes (λ passes. subst (λ (r : ReadSteps A). IsCleanSoFar asked r) c.wants.all_read (clean passes)) here in
                let t = subst (λ (r : Option (ReadSteps A)). Turns (λ (i : Images). AtOpening shape.geometry i r (Some c.next) device) images) c.after_is
                (subst (λ (o : Option RunningCommit). Turns (λ (i : Images). AtOpening shape.geometry i after' o device) images) c.commit_is (nodes_begin A shape.geometry images device asked now nodes after' commit' sizes k c)) in
                look_begins asked c.old c.new c.next nodes read (Reaches after' commit') all c.converted c.steps t c.after_is c.commit_is

            by_got : (mode ≡ Passthrough → IsCleanSoFar asked more.0) → (got : Got) → (got ≢ Fault) → HasCome asked left more.0 None got after' commit' → Goes P A shape (after_it (ReadMetadata left) got (Reaches after' commit') devices) (n' (ReadMetadata left) got read)
            by_got clean More z h = look_on more.0 read (Reaches after' commit') reached h.1 h.3
            by_got clean Done z h = all_read more.0 clean reached h.2 h.0
            by_got clean (Began nodes) z h = begins more.0 nodes clean reached h.2
            by_got clean (GotRefused refusal) z h = look_stops (GotRefused refusal) read (Reaches after' commit') refusal h.0 h.1 refl
            by_got clean Fault z h = absurd (z refl)
            by_got clean got z h = absurd h
        looks got read (Reaches after' commit') (no_fault, inr more) = by_refusal more.0 more.3
          where
            by_refusal : (r : Refusal) → got ≡ got_of_refusal r → Goes P A shape (after_it (ReadMetadata left) got (Reaches after' commit') devices) (n' (ReadMetadata left) got read)
            by_refusal (Io d) e = absurd (no_fault e)
            by_refusal r e = look_stops got read (Reaches after' commit') r more.4 more.5 (ap (λ (v : Got). after (opening_at total left Looking) v) e)
        looks got read chosen g = absurd g

        pub look_fails : (read : List Bytes) → Goes P A shape (after_it (ReadMetadata left) Fault Plain devices) (n' (ReadMetadata left) Fault read)
        look_fails read = look_stops Fault read Plain (Io Metadata) refl refl refl

      -- ---- the root

      -- what was known with the reading and the commit that it has
      abbrev rooting : (i : Learnt) (h : HasLearnt reading commit i) → RootingKept shape.geometry images (AllRead h.stored) h.running device
      rooting i h = subst (λ (c : Option RunningCommit). AtOpening shape.geometry images (Some (AllRead h.stored)) c device) h.commit_is (subst (λ (r : Option (ReadSteps A)). AtOpening shape.geometry images r commit device) h.reading_is known)

      -- the same has been learnt while the commit goes on
      abbrev learnt_still : (i : Learnt) (h : HasLearnt reading commit i) (running' : RunningCommit) → HasLearnt (Some (AllRead h.stored)) (Some running') i
      learnt_still i h running' = record { stored = h.stored; reading_is = refl; running = running'; commit_is = refl; same = h.same; clean = h.clean }

      -- the state that its root leads to
      leads_to : (i : Learnt) (h : HasLearnt reading commit i) → i.locations ≡ locations (rooting i h).of.new
      leads_to i h = h.same ∙ ap (λ es. located es) (sym (leads_so A shape.geometry images h.stored h.running device (rooting i h)))

      old_is : (i : Learnt) (h : HasLearnt reading commit i) → (rooting i h).of.old ≡ images.committed
      old_is i h = ap (λ (j : Images). j.committed) (sym (rooting i h).under.are)

      -- a node that is written anew, or the sync behind them, is nothing there
      module _ (i : Learnt) (ph : f.site.phase ≡ OpensThere mode (Rooting i)) (h : HasLearnt reading commit i) (unwritten : is_written h.running.steps ≡ false) (none : f.phase.later ≡ None) (plan : Plan) (xt : x.task ≡ Some (Open opened_in second, plan)) (step : DeviceStep) (other : step ≢ WriteRoot) (coming : is_coming h.running.image h.running.steps step ≡ true) (new : List History) where
        abbrev written : Devices (List History)
        written = record devices { metadata = new }

        abbrev going : RootingKept shape.geometry images (AllRead h.stored) h.running device
        going = rooting i h

        abbrev next : RunningCommit
        next = record h.running { steps = steps_after h.running.image h.running.steps }

        alone_so : DevicesAgree shape.geometry (size P A shape) images.committed None devices f.site.world.shared
        alone_so = subst (λ (l : Option Stored). DevicesAgree shape.geometry (size P A shape) images.committed l devices f.site.world.shared) none f.phase.devices_follow.agree

        unwritten_then : is_written next.steps ≡ false
        unwritten_then = still_unwritten h.running.image h.running.steps step coming other unwritten

        pub node_done : (read : List Bytes) (chosen : Chosen P A) (plan' : Plan) → DoesStep h.running.image h.running.steps device new → reading_then reading (Device step) Done chosen ≡ reading → commit_then {P = P} {A = A} (Opens mode reading) commit (Device step) Done chosen ≡ led commit Done → after plan Done ≡ plan' →
            ((learnt : HasLearnt (Some (AllRead h.stored)) (Some next) i) → is_written learnt.running.steps ≡ false → IsFollowed mode (Some (AllRead h.stored)) (Some next) None plan' (OpensThere mode (Rooting i))) → Goes P A shape (after_it step Done chosen written) (n' step Done read)
        node_done read chosen plan' does er ec ep at =
            let t = rooted_on A shape.geometry images (AllRead h.stored) h.running device new going does in
            let old : t.kept.of.old ≡ images.committed = ap (λ (c : Commit). c.old) t.of_is ∙ old_is i h in
            let read_so = subst (λ (s : Stored). MayBeReadAs shape.geometry s None new) old (early_read shape.geometry t.now next t.kept.of new t.kept.under unwritten_then) in
            let agree_then = openings_followed.writes_nodes i new shape.geometry (size P A shape) images.committed None mode f.site devices ph alone_so read_so in
            goes_to plan xt step Done read chosen t.now None (OpensThere mode (Rooting i)) written (Some (AllRead h.stored)) (Some next) plan'
            (er ∙ h.reading_is) (ec ∙ ap (λ (c : Option RunningCommit). led c Done) h.commit_is) ep
            (subst (λ (s : Stored). Arrived P A shape s None (OpensThere mode (Rooting i)) written (n' step Done read)) (sym t.committed_is)
            (rests P A shape images w n (n' step Done read) f (same step Done read) images.committed None (OpensThere mode (Rooting i)) written f.phase.devices_follow.idle ph agree_then)) (no_stand (Rooting i)) t.kept
            (at (learnt_still i h next) unwritten_then)

        pub node_fails : (read : List Bytes) (chosen : Chosen P A) (total' : ℕ) (refusal : Refusal) → FailsStep h.running.image h.running.steps device new → reading_then reading (Device step) Fault chosen ≡ None → commit_then {P = P} {A = A} (Opens mode reading) commit (Device step) Fault chosen ≡ led commit Fault →
            after plan Fault ≡ record { job = Opening total'; steps = []; answer = Rattle.wb_tasks.specs.declared.step.Answer.TheVariants.Refused refusal } → Goes P A shape (after_it step Fault chosen written) (n' step Fault read)
        node_fails read chosen total' refusal bad er ec ep =
            let left_so = early_left shape.geometry images h.running going.of device new step going.under coming other unwritten bad in
            let l = openings_followed.nodes_fail i new shape.geometry (size P A shape) images.committed None mode f.site devices ph alone_so (subst (λ (s : Stored). MayBeReadAs shape.geometry s None new) (old_is i h) left_so.read) in
            let v = arrives P A shape images w n (n' step Fault read) f (same step Fault read) images.committed None GoneThere written l no_gone in
            goes_to plan xt step Fault read chosen (images_of going.of false) None GoneThere written None None _
            er (ec ∙ ap (λ (c : Option RunningCommit). led c Fault) h.commit_is) ep
            (subst (λ (s : Stored). Arrived P A shape s None GoneThere written (n' step Fault read)) (sym (old_is i h)) v) no_gone left_so (inr (inr (over total' refusal)))

      -- a root that is written, or fails to be
      module _ (i : Learnt) (ph : f.site.phase ≡ OpensThere mode (Rooting i)) (rd : HasReadAt (Rooting i) reading commit f.phase.later) (xt : x.task ≡ Some (Open opened_in second, opening_at total left (Rooting i))) (new : List History) where
        abbrev devices' : Devices (List History)
        devices' = record devices { metadata = new }

        abbrev k : RootingKept shape.geometry images (AllRead rd.0.stored) rd.0.running device
        k = rooting i rd.0

        pub root_done : (read : List Bytes) → DoesStep rd.0.running.image rd.0.running.steps device new → Goes P A shape (after_it WriteRoot Done (Puts new) devices') (n' WriteRoot Done read)
        root_done read does =
            let t = rooted_on A shape.geometry images (AllRead rd.0.stored) rd.0.running device new k does in
            let goal = t.kept.of.new in
            let same_new : goal ≡ k.of.new = ap (λ (c : Commit). c.new) t.of_is in
            let old : t.kept.of.old ≡ images.committed = ap (λ (c : Commit). c.old) t.of_is ∙ old_is i rd.0 in
            let read_so = subst (λ (s : Stored). MayBeReadAs shape.geometry s (Some goal) new) old (two_read shape.geometry t.kept.of new t.now _ t.kept.under) in
            let leads : i.locations ≡ locations goal = leads_to i rd.0 ∙ ap locations (sym same_new) in
            let none = takes_none goal t.kept.unmarked in
            let l = openings_followed.roots i goal new leads none shape.geometry (size P A shape) images.committed f.phase.later mode f.site devices ph f.phase.devices_follow.agree read_so in
            let v = arrives P A shape images w n (n' WriteRoot Done read) f (same WriteRoot Done read) images.committed (Some goal) (OpensThere mode (Renewing i)) devices' l (no_stand (Renewing i)) in
            goes_to (opening_at total left (Rooting i)) xt WriteRoot Done read (Puts new) t.now (Some goal) (OpensThere mode (Renewing i)) devices' (Some (AllRead rd.0.stored)) (Some _) (opening_at total left (Renewing i))
            rd.0.reading_is (ap (λ (c : Option RunningCommit). led c Done) rd.0.commit_is) refl
            (subst (λ (s : Stored). Arrived P A shape s (Some goal) (OpensThere mode (Renewing i)) devices' (n' WriteRoot Done read)) (sym t.committed_is) v) (no_stand (Renewing i)) t.kept
            (inl (record { total = total; left = left; stage = Renewing i; is = refl; phase_is = refl; read = (learnt_still i rd.0 _, (goal, refl, leads, none)) }))

        pub root_fails : (read : List Bytes) → FailsStep rd.0.running.image rd.0.running.steps device new → Goes P A shape (after_it WriteRoot Fault (Puts new) devices') (n' WriteRoot Fault read)
        root_fails read bad =
            let goal = k.of.new in
            let read_so = subst (λ (s : Stored). MayBeReadAs shape.geometry s (Some goal) new) (old_is i rd.0) (two_left shape.geometry k.of device images rd.0.running new k.under bad) in
            let l = openings_followed.root_fails i goal new (leads_to i rd.0) (takes_none goal k.unmarked) shape.geometry (size P A shape) images.committed f.phase.later mode f.site devices ph f.phase.devices_follow.agree read_so in
            let v = arrives P A shape images w n (n' WriteRoot Fault read) f (same WriteRoot Fault read) images.committed (Some goal) GoneThere devices' l no_gone in
            goes_to (opening_at total left (Rooting i)) xt WriteRoot Fault read (Puts new) (images_of k.of true) (Some goal) GoneThere devices' None None _
            refl (ap (λ (c : Option RunningCommit). led c Fault) rd.0.commit_is) refl
            (subst (λ (s : Stored). Arrived P A shape s (Some goal) GoneThere devices' (n' WriteRoot Fault read)) (sym (old_is i rd.0)) v) no_gone (both_left shape.geometry k.of device images rd.0.running new k.under bad) (inr (inr (over total _)))

      -- and the sync after it
      module _ (i : Learnt) (ph : f.site.phase ≡ OpensThere mode (Renewing i)) (rd : HasReadAt (Renewing i) reading commit f.phase.later) (xt : x.task ≡ Some (Open opened_in second, opening_at total left (Renewing i))) (new : List History) where
        abbrev renewed : Devices (List History)
        renewed = record devices { metadata = new }

        abbrev kept : RootingKept shape.geometry images (AllRead rd.0.stored) rd.0.running device
        kept = rooting i rd.0

        agree_so : DevicesAgree shape.geometry (size P A shape) images.committed (Some kept.of.new) devices f.site.world.shared
        agree_so = with_root shape (size P A shape) images.committed kept.of.new f.phase.later i devices devices f.site.world.shared f.phase.devices_follow.agree rd.1 (leads_to i rd.0) (takes_none kept.of.new kept.unmarked) refl refl
            (subst (λ (s : Stored). MayBeReadAs shape.geometry s (Some kept.of.new) device) (old_is i rd.0) (two_read shape.geometry kept.of device images rd.0.running kept.under))

        pub renew_done : (read : List Bytes) → DoesStep rd.0.running.image rd.0.running.steps device new → Goes P A shape (after_it (Sync Metadata) Done Plain renewed) (n' (Sync Metadata) Done read)
        renew_done read does =
            let t = rooted_on A shape.geometry images (AllRead rd.0.stored) rd.0.running device new kept does in
            let goal = kept.of.new in
            let new_is : t.kept.of.new ≡ goal = ap (λ (c : Commit). c.new) t.of_is in
            let old : t.kept.of.old ≡ images.committed = ap (λ (c : Commit). c.old) t.of_is ∙ old_is i rd.0 in
            let read_so = subst (λ (s : Stored). MayBeReadAs shape.geometry images.committed (Some s) new) new_is
            (subst (λ (s : Stored). MayBeReadAs shape.geometry s (Some t.kept.of.new) new) old (two_read shape.geometry t.kept.of new t.now _ t.kept.under)) in
            let l = openings_followed.renews i new shape.geometry (size P A shape) images.committed (Some goal) mode f.site devices ph agree_so read_so in
            let v = arrives P A shape images w n (n' (Sync Metadata) Done read) f (same (Sync Metadata) Done read) images.committed (Some goal) (OpensThere mode (Answering i)) renewed l (no_stand (Answering i)) in
            goes_to (opening_at total left (Renewing i)) xt (Sync Metadata) Done read Plain t.now (Some goal) (OpensThere mode (Answering i)) renewed (Some (AllRead rd.0.stored)) (Some _) (opening_at total left (Answering i))
            rd.0.reading_is (ap (λ (c : Option RunningCommit). led c Done) rd.0.commit_is) refl
            (subst (λ (s : Stored). Arrived P A shape s (Some goal) (OpensThere mode (Answering i)) renewed (n' (Sync Metadata) Done read)) (sym t.committed_is) v) (no_stand (Answering i)) t.kept
            (inl (record { total = total; left = left; stage = Answering i; is = refl; phase_is = refl; read = (learnt_still i rd.0 _, (goal, refl, leads_to i rd.0, takes_none goal kept.unmarked)) }))

        pub renew_fails : (read : List Bytes) → FailsStep rd.0.running.image rd.0.running.steps device new → Goes P A shape (after_it (Sync Metadata) Fault Plain renewed) (n' (Sync Metadata) Fault read)
        renew_fails read bad =
            let goal = kept.of.new in
            let read_so = subst (λ (s : Stored). MayBeReadAs shape.geometry s (Some goal) new) (old_is i rd.0) (two_left shape.geometry kept.of device images rd.0.running new kept.under bad) in
            let l = openings_followed.renewing_fails i new shape.geometry (size P A shape) images.committed (Some goal) mode f.site devices ph agree_so read_so in
            let v = arrives P A shape images w n (n' (Sync Metadata) Fault read) f (same (Sync Metadata) Fault read) images.committed (Some goal) GoneThere renewed l no_gone in
            goes_to (opening_at total left (Renewing i)) xt (Sync Metadata) Fault read Plain (images_of kept.of true) (Some goal) GoneThere renewed None None _
            refl (ap (λ (c : Option RunningCommit). led c Fault) rd.0.commit_is) refl
            (subst (λ (s : Stored). Arrived P A shape s (Some goal) GoneThere renewed (n' (Sync Metadata) Fault read)) (sym (old_is i rd.0)) v) no_gone (both_left shape.geometry kept.of device images rd.0.running new kept.under bad) (inr (inr (over total _)))
