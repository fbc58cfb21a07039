-- Whatever step an opening takes, done or failing, it is followed, and its answer; a target that it makes has seals that tell where it has each
-- block, and no orders.
use Rattle.std.proofs.Common.{Bool, false, ◌≡◌, ◌∙◌, ◌≤◌, ◌+◌, ◌^◌, inl, inr, ℕ, zero, suc, true, List, Option, Some, None, refl, sym, ap, subst, arith, length, map, replicate, slice_get, slice_set, Contains, []}
use Rattle.std.proofs.lemmas.List.{length-replicate, length-set, length-map}
use Rattle.wb_types.proofs.Lists.{set_cases}
use Rattle.wb_types.specs.declared.entry.Entry.{Entry}
use Rattle.wb_types.specs.declared.mode.Mode.{Mode}
use Rattle.wb_types.specs.declared.number.OBlock.{OBlock}
use Rattle.wb_types.specs.declared.mode.Mode.TheVariants.{Writeback}
use Rattle.wb_types.specs.declared.refusal.Refusal.{Refusal}
use Rattle.wb_types.specs.declared.refusal.Refusal.TheVariants.{Io}
use Rattle.wb_types.proofs.Truth.{and_true}
use Rattle.wb_disk.specs.Device.{Content as Bytes, History, newest, only, entries, synced}
use Rattle.wb_disk.proofs.Leaving.{read-left}
use Rattle.wb_words.specs.SharedWords.{word_at, place_in}
use Rattle.wb_contents.specs.Devices.{by_block}
use Rattle.wb_contents.specs.Volume.{at_location}
use Rattle.wb_tree.specs.Mapping.{IsMapping}
use Rattle.wb_meta.specs.Representing.{Stored}
use Rattle.wb_meta.specs.Sizes.{AreSameSizes}
use Rattle.wb_meta.specs.declared.read_steps.ReadSteps.{ReadSteps}
use Rattle.wb_meta.specs.declared.read_steps.ReadSteps.TheVariants.{Done as AllRead}
use Rattle.wb_meta.specs.declared.read_steps.State.{State as StoredThere}
use Rattle.wb_policy.specs.declared.order.Order.{Order}
use Rattle.wb_tasks.specs.Plan.{Plan, want, first_step, device_of}
use Rattle.wb_tasks.specs.declared.step.Answer.TheVariants.{Done as Finished, Refused as Refuses}
use Rattle.wb_tasks.specs.declared.step.Want.TheVariants.{End, Device}
use Rattle.wb_tasks.specs.declared.step.Got.{Got}
use Rattle.wb_devices.specs.declared.devices.Devices.{Devices}
use Rattle.wb_devices.specs.declared.running.RunningCommit.{RunningCommit}
use Rattle.wb_devices.specs.Clean.{entries_of}
use Rattle.wb_devices.specs.Committing.{is_committed}
use Rattle.wb_stage.specs.Stages.{is_all_done}
use Rattle.wb_refines.specs.Translation.{number_of as number_there}
use Rattle.wb_promise.specs.declared.job.Job.{Job}
use Rattle.wb_promise.specs.declared.job.Job.TheVariants.{Open}
use Rattle.wb_promise.specs.States.{Shape, State, Actor, Stands, Gone, Opens, sector_count, cache_sector_count, block_size, OfReading, Phase}
use Rattle.wb_promise.specs.Effects.{actor_then, task_then, target_over, device_done, device_failed, stepped, phase_opened, phase_then}
use Rattle.wb_promise.specs.Clerk.{Notes, begins, put, Doing, noted_step}
use Rattle.wb_promise.specs.Headline.{place_of, shown_by, ShowsAllowed, shown, shown_in}
use Rattle.wb_runs.proofs.Images.{Images, later_of}
use Rattle.wb_runs.proofs.Metadata.{MetadataKept, AtDesk, AtOpening, Rooting as RootingKept, kept_readable, target_stands}
use Rattle.wb_runs.proofs.Linking.{IsTask, AtPhase}
use Rattle.wb_link.specs.World.{World, abstract_resting as idle}
use Rattle.wb_link.specs.Clerk.{abstract_opened as opened_notes}
use Rattle.wb_link.specs.Openings.{Site, Gone as GoneThere, Opens as OpensThere, Learnt, Answering, opened_on, Stage, Settling, Caching, Basing, Looking, Rooting, Renewing}
use Rattle.wb_headline.proofs.Suspends.{takes_none}
use Rattle.wb_simulation.specs.Opened.{located}
use Rattle.wb_simulation.specs.Sites.{DevicesAgree, IsRunning}
use Rattle.wb_simulation.specs.Worlds.{zeros, Agrees}
use Rattle.wb_devices.proofs.BitEntries.{mapping-with_bits}
use Rattle.wb_simulation.proofs.BitLocations.{located-with_bits}
use Rattle.wb_simulation.proofs.Noted.{notes_followed}
use Rattle.wb_simulation.proofs.Opened.{opened_followed}
use Rattle.wb_types.specs.declared.mode.Dev.TheVariants.{Metadata, Cache, Origin}
use Rattle.wb_disk.specs.Crash.{Choice}
use Rattle.wb_disk.specs.Failing.{lands, synced_where}
use Rattle.wb_meta.specs.Steps.{coming_step}
use Rattle.wb_tasks.specs.declared.step.Answer.{Answer}
use Rattle.wb_tasks.specs.declared.step.DeviceStep.TheVariants.{Sync, ReadMetadata, WriteNode, WriteRoot}
use Rattle.wb_tasks.specs.declared.step.Want.{Want}
use Rattle.wb_tasks.specs.declared.step.Got.TheVariants.{Done, Fault}
use Rattle.wb_promise.specs.Happenings.{Chosen, Plain, Reaches, Puts, Opened, Gives, Falters, DoesPut, DoesSync, FailsSync, FailsPut, sector_put, DoesOpen}
use Rattle.wb_runs.proofs.Underway.{is_written, sync_does, sync_fails, put_fails}
use Rattle.wb_types.specs.declared.number.CBlock.{CBlock}
use Rattle.wb_promise.specs.Sealed.{number_of}
use Rattle.wb_headline.specs.Desks.{block_there}
use Rattle.wb_headline.proofs.Events.{Reached, event_reaches}
use Rattle.wb_headline.proofs.Following.{situation, HasLearnt, HasReadAt, IsOver, many, size, most, Followed, Goes, opening_at, anew_at, IsFollowed}
use Rattle.wb_headline.proofs.Arriving.{SameSectors, sized_so, rests, gone}
use Rattle.wb_headline.proofs.Showing.{shows_allowed, length-rising, sized_mapping, state_allowed}
use Rattle.wb_headline.proofs.Answering.{no_orders_live, opened_state, view_of, answer_of, answer_may, opened_site, answer_leads, shown_view}
use Rattle.wb_headline.proofs.Opening.{settle_done, settle_fails, cache_done, cache_fails, origin_done, origin_fails, looks, look_fails, node_done, node_fails, root_done, root_fails, renew_done, renew_fails}
use Rattle.wb_headline.proofs.Keeping.{NoOrders, Keeping}
use Rattle.wb_headline.proofs.Kept.{made_keeps, none_goes}
use Rattle.wb_headline.proofs.Targets.{landed_or}

same_number : (place : Option CBlock) → number_there place ≡ number_of place
same_number None = refl
same_number (Some c) = refl

module _ (P A : Type 0) (shape : Shape) (images : Images) (devices : Devices (List History)) (commit : Option RunningCommit) (mode : Mode) (reading : Option (ReadSteps A)) (actors : List Actor) (n : Notes) where
  abbrev w : State P A
  w = record { devices = devices; commit = commit; phase = Opens mode reading; actors = actors }

  module _ (known : MetadataKept {P = P} {A = A} shape.geometry images (Opens mode reading) commit devices.metadata) (f : Followed P A shape images w n) (alone : AtPhase {P = P} {A = A} (Opens mode reading) actors) (a : ℕ) (x : Actor) (ex : slice_get actors a ≡ Some x) (opened_in : Mode) (second : Bool) (plan : Plan) (xt : x.task ≡ Some (Open opened_in second, plan)) (got : Got) where
    -- refused, nothing stands
    pub refused_goes : (refusal : Refusal) → IsOver plan f.site.phase → Goes P A shape (record { devices = devices; commit = None; phase = Gone; actors = slice_set actors a (actor_then {P = P} {A = A} shape (Opens mode reading) devices x (End (Refuses refusal)) got) }) (put n a None)
    refused_goes refusal over =
        let y = actor_then {P = P} {A = A} shape (Opens mode reading) devices x (End (Refuses refusal)) got in
        let same : SameSectors n (put n a None) = record { histories = refl; finished = refl; floors = refl; doings = length-set n.doings a None } in
        let readable = kept_readable shape.geometry images devices.metadata P A (Opens mode reading) commit known in
        gone P A shape images f.phase.later GoneThere devices (put n a None) (rests P A shape images w n (put n a None) f same images.committed f.phase.later GoneThere devices f.phase.devices_follow.idle over.phase_is f.phase.devices_follow.agree) (λ e. absurd (cc))
        (slice_set actors a y) (sized_so P A shape actors (slice_set actors a y) n (put n a None) same (length-set actors a y) f.sized) None readable

    -- one that is answered done has read all, and its root is durable
    pub record Answered (chosen : Chosen P A) : Type 0 where
      pub learnt : Learnt
      pub phase_is : f.site.phase ≡ OpensThere mode (Answering learnt)
      pub read : HasReadAt (Answering learnt) reading commit f.phase.later
      pub policy : P
      pub done : is_all_done commit ≡ true
      pub stands : phase_opened shape mode reading chosen ≡ Stands (target_over shape mode policy read.0.stored)

    pub answered : (chosen : Chosen P A) → End Finished ≡ want plan → DoesOpen (Opens mode reading) commit chosen → Answered chosen
    answered chosen next d = by_at (f.phase.each a x (Open opened_in second) plan ex xt)
      where
        by_chosen : (i : Learnt) → f.site.phase ≡ OpensThere mode (Answering i) → HasReadAt (Answering i) reading commit f.phase.later → (c : Chosen P A) → DoesOpen (Opens mode reading) commit c → Answered c
        by_chosen i ph rd (Opened policy) d = record { learnt = i; phase_is = ph; read = rd; policy = policy; done = d.1; stands = ap (λ (r : Option (ReadSteps A)). phase_opened shape mode r (Opened policy)) rd.0.reading_is }
        by_chosen i ph rd c d = absurd d

        by_stage : (total left : ℕ) (stage : Stage) → f.site.phase ≡ OpensThere mode stage → HasReadAt stage reading commit f.phase.later → End Finished ≡ want (opening_at total left stage) → Answered chosen
        by_stage total left (Answering i) ph rd e = by_chosen i ph rd chosen d
        by_stage total left stage ph rd e = absurd (cc)

        by_nodes : (total count first : ℕ) → End Finished ≡ want (anew_at total count first) → Answered chosen
        by_nodes total zero first e = absurd (cc)
        by_nodes total (suc count) first e = absurd (cc)

        by_at : IsFollowed mode reading commit f.phase.later plan f.site.phase → Answered chosen
        by_at (inl s) = by_stage s.total s.left s.stage s.phase_is s.read (next ∙ ap want s.is)
        by_at (inr (inl s)) = by_nodes s.total s.count s.first (next ∙ ap want s.is)
        by_at (inr (inr over)) = absurd (over.refused (let same : End Finished ≡ End plan.answer = next ∙ ap (λ (ws : List Want). first_step ws plan.answer) over.nothing in let is : Finished ≡ plan.answer = cc in sym is))

    module _ (i : Learnt) (ph : f.site.phase ≡ OpensThere mode (Answering i)) (rd : HasReadAt (Answering i) reading commit f.phase.later) (policy : P) (done : is_all_done commit ≡ true) (cache_size : length devices.cache ≡ cache_sector_count shape) (origin_size : length devices.origin ≡ sector_count shape) where
      abbrev stored : StoredThere A
      stored = rd.0.stored

      abbrev tree : List (Option Entry)
      tree = stored.tree.entries

      rooting : RootingKept shape.geometry images (AllRead stored) rd.0.running devices.metadata
      rooting = subst (λ (c : Option RunningCommit). AtOpening shape.geometry images (Some (AllRead stored)) c devices.metadata) rd.0.commit_is (subst (λ (r : Option (ReadSteps A)). AtOpening shape.geometry images r commit devices.metadata) rd.0.reading_is known)

      committed_now : is_committed rd.0.running.steps ≡ true
      committed_now = subst (λ (c : Option RunningCommit). is_all_done c ≡ true) rd.0.commit_is done

      abbrev y : Actor
      y = actor_then {P = P} {A = A} shape (Opens mode reading) devices x (End Finished) got

      abbrev stands_now : State P A
      stands_now = record { devices = devices; commit = None; phase = Stands (target_over shape mode policy stored); actors = slice_set actors a y }

      abbrev shown_now : List Bytes
      shown_now = shown_by shape tree (map newest devices.cache) (map newest devices.origin)

      -- nobody is at anything then
      pub at_rest : (b : ℕ) (z : Actor) → slice_get (slice_set actors a y) b ≡ Some z → z.task ≡ None
      at_rest b z e = elim (set_cases actors a b y z e) [
        | inl here ↦ ap (λ (v : Actor). v.task) here.1 ∙ ap (λ (t : Option (Job × Plan)). task_then t (End Finished) got) xt
        | inr other ↦ by_task z.task refl (λ t. other.0 (alone.1 b z other.1 t ∙ sym (alone.1 a x ex (subst (λ (t : Option (Job × Plan)). IsTask t) (sym xt) tt))))
      ]
        where
          by_task : (t : Option (Job × Plan)) → z.task ≡ t → (IsTask z.task → ⊥) → z.task ≡ None
          by_task None s none = s
          by_task (Some task) s none = absurd (none (subst (λ (t : Option (Job × Plan)). IsTask t) (sym s) tt))

      -- what the metadata are read as then: one image alone
      record One : Type 0 where
        pub now : Images
        pub kept : AtDesk shape.geometry now (target_over shape mode policy stored).desk None devices.metadata
        pub entries_are : now.committed.found.entries ≡ tree
        pub unmarked : now.committed.root.clean ≡ false
        pub alone_is : now.running ≡ None
        pub later_is : later_of now ≡ None

      one : One
      one =
          let t = target_stands A shape.geometry images devices.metadata P mode policy shape.threshold stored rd.0.running rooting committed_now in
          by_standing t.now t.kept.0 t.kept.1 t.kept.2 t.kept.0.stands
        where
          by_standing : (j : Images) → AtDesk shape.geometry j (target_over shape mode policy stored).desk None devices.metadata → j.committed.found.entries ≡ tree → j.committed.root.clean ≡ false → Rattle.wb_runs.proofs.Metadata.Standing shape.geometry j (target_over shape mode policy stored).desk None devices.metadata → One
          by_standing j k e u (inl q) = record { now = j; kept = k; entries_are = e; unmarked = u; alone_is = ap (λ (v : Images). v.running) q.are; later_is = ap later_of q.are }
          by_standing j k e u (inr b) = absurd (let busy = b.busy in cc)

      its_sizes : AreSameSizes stored.root.geometry shape.geometry
      its_sizes = one.kept.is.sizes

      mapping : IsMapping shape.geometry.cache_blocks shape.geometry.origin_blocks tree
      mapping = sized_mapping stored.root.geometry shape.geometry tree its_sizes one.kept.is.kept.mapping

      d : DevicesAgree shape.geometry (size P A shape) images.committed f.phase.later devices f.site.world.shared
      d = f.phase.devices_follow.agree

      -- what is shown is what the abstract opening shows
      view_is : (b o : ℕ) → newest (at_location (by_block (block_size shape) zeros devices.origin) (by_block (block_size shape) zeros devices.cache) (place_of tree b) b o) ≡ view_of f.site i b o
      view_is b o = ap (λ g. newest (at_location g (by_block (block_size shape) zeros devices.cache) (place_of tree b) b o)) (sym d.origin) ∙ ap (λ g. newest (at_location f.site.world.shared.origin g (place_of tree b) b o)) (sym d.cache)
          ∙ ap (λ l. newest (at_location f.site.world.shared.origin f.site.world.shared.cache (l b) b o)) (sym rd.0.same)

      pub shows : ShowsAllowed n shown_now
      shows = shows_allowed shape n f.notes f.notes_agree.histories f.notes_agree.floors f.sized.sectors devices cache_size origin_size tree mapping
          (λ b o c k. state_allowed (size P A shape) (many P A shape) shape.geometry f.site f.notes images.committed f.phase.later devices rd.1.0 f.reached d (inr rd.1.1) b o c
          (subst (λ l. Contains (entries (at_location (by_block (block_size shape) zeros devices.origin) (by_block (block_size shape) zeros devices.cache) (l b) b o)) c) (sym rd.0.same ∙ rd.1.2) k))
          (map newest devices.cache) (map newest devices.origin) (read-left devices.cache) (read-left devices.origin)

      abbrev blocks_now : ℕ → Rattle.wb_link.specs.World.Block
      blocks_now k = block_there (opened_state tree k)

      abbrev site_now : Site
      site_now = opened_site mode f.site i tree

      agrees_now : Agrees (situation shape (target_over shape mode policy stored) devices (slice_set actors a y)) site_now.world
      agrees_now =
          let many_then : length (slice_set actors a y) ≡ length f.site.world.actors = length-set actors a y ∙ f.sized.actors_many ∙ sym f.as_many in
          let few : shape.geometry.cache_blocks ≤ 2 ^ 32 = (let l = shape.geometry.within.cache_to in omega (arith, l)) in
          subst (λ (os : List (Option Order)). Agrees (record (situation shape (target_over shape mode policy stored) devices (slice_set actors a y)) { orders = os }) site_now.world) (sym (no_orders_live stored.root.geometry.cache_blocks ∙ ap (λ (k : ℕ). replicate {A = Option Order} k None) its_sizes.cache_blocks))
          (subst (λ (k : ℕ). Agrees (record (situation shape (target_over shape mode policy stored) devices (slice_set actors a y)) { orders = replicate shape.geometry.cache_blocks None }) (record { shared = opened_on f.site.world.shared mode i blocks_now; actors = replicate k idle; waiting = λ c. None })) many_then
          (opened_followed mode (size P A shape) (most P A shape) shape.geometry.origin_blocks shape.geometry.cache_blocks stored.root.clean (entries_of stored) i blocks_now f.site.world.shared devices (slice_set actors a y)
          (mapping-with_bits stored.dirty shape.geometry.cache_blocks shape.geometry.origin_blocks tree mapping) few (rd.0.same ∙ sym (located-with_bits stored.dirty tree)) rd.0.clean d.origin d.cache at_rest))

      -- the seals tell where the tree has each block
      pub opened_tells : (block : OBlock) → number_there (place_in (word_at (target_over shape mode policy stored).words.seals block)) ≡ place_of tree block.0
      opened_tells block = sym (agrees_now.words_agree.seals block).location ∙ ap (λ (l : ℕ → Option ℕ). l block.0) rd.0.same

      pub opened_goes : Goes P A shape stands_now (begins (length n.doings) shown_now)
      opened_goes =
          let may = answer_may (size P A shape) mode f.site i tree ph rd.0.same in
          let leads = answer_leads mode f.site i tree ph in
          let readable = kept_readable shape.geometry one.now devices.metadata P A (Stands (target_over shape mode policy stored)) None one.kept in
          record {
            images = one.now;
            known = one.kept;
            followed = record {
              site = site_now;
              notes = opened_notes (view_of f.site i);
              reached = subst (λ (v : Site). Reached (size P A shape) (many P A shape) v (opened_notes (view_of f.site i))) leads (event_reaches (size P A shape) (many P A shape) f.site f.notes (answer_of f.site i tree) f.reached may);
              as_many = length-replicate (length f.site.world.actors) idle ∙ f.as_many;
              notes_agree = notes_followed.anew (size P A shape) (length n.doings) shown_now (view_of f.site i) f.site.world (opened_on f.site.world.shared mode i blocks_now)
                  (shown_view shape devices cache_size origin_size tree mapping ∙ (λ j b o. only (view_is b o j)));
              sized = record {
                actors_many = length-set actors a y ∙ f.sized.actors_many;
                doings_many = length-replicate (length n.doings) None ∙ f.sized.doings_many;
                sectors = length-map shown_now only ∙ length-map (Rattle.wb_types.specs.Extents.rising 0 (sector_count shape)) _ ∙ length-rising 0 (sector_count shape);
              };
              phase = record {
                phase_is = refl;
                agrees = agrees_now;
                desk = record { mapping = rd.0.same; blocks = λ c. refl };
                images_agree = record {
                  read = readable.read;
                  committed_is = rd.0.same ∙ ap (λ es. located es) (sym one.entries_are);
                  clean_is = takes_none one.now.committed one.unmarked;
                  later_is = subst (λ (l : Option Stored). IsRunning l site_now.world.shared) (sym one.later_is) tt;
                };
                running = λ state e. absurd (let bad : None ≡ Some state = sym one.alone_is ∙ e in cc);
              };
            };
          }

  module _ (known : MetadataKept {P = P} {A = A} shape.geometry images (Opens mode reading) commit devices.metadata) (f : Followed P A shape images w n) (alone : AtPhase {P = P} {A = A} (Opens mode reading) actors) (none : NoOrders actors) (a : ℕ) (x : Actor) (ex : slice_get actors a ≡ Some x) (opened_in : Mode) (second : Bool) (doing : Doing) (job_is : doing.job ≡ Open opened_in second)
      (cache_size : length devices.cache ≡ cache_sector_count shape) (origin_size : length devices.origin ≡ sector_count shape) where
    -- what a step leads to, and what it shows
    abbrev Done_by : Job → List Bytes → Want → Got → List Bytes → Chosen P A → Type 0
    Done_by job buffer next got read chosen = Goes P A shape (stepped shape w a x next got chosen (λ step. device_done job buffer step chosen))
        (noted_step shape Writeback (shown shape (stepped shape w a x next got chosen (λ step. device_done job buffer step chosen))) n a (Some (Some doing)) next got read)

    abbrev Failed_by : Choice → Job → List Bytes → Want → List Bytes → Chosen P A → Type 0
    Failed_by choice job buffer next read chosen = Goes P A shape (stepped shape w a x next Fault chosen (λ step. device_failed (lands (device_of step) choice) job buffer step chosen))
        (noted_step shape Writeback (shown shape (stepped shape w a x next Fault chosen (λ step. device_failed (lands (device_of step) choice) job buffer step chosen))) n a (Some (Some doing)) next Fault read)

    module _ (total left : ℕ) (job : Job) (buffer : List Bytes) (got : Got) (read : List Bytes) (chosen : Chosen P A) where
      by_stage : (stage : Stage) → f.site.phase ≡ OpensThere mode stage → HasReadAt stage reading commit f.phase.later → x.task ≡ Some (Open opened_in second, opening_at total left stage) → Gives shape w x (Open opened_in second) (want (opening_at total left stage)) got read chosen → Done_by job buffer (want (opening_at total left stage)) got read chosen
      by_stage Settling ph rd xt g = subst (λ (v : Got). Done_by job buffer (Device (Sync Metadata)) v read chosen) (sym g.1)
          (settle_done P A shape images devices commit mode reading actors n known f alone a x ex opened_in second [] doing job_is total left ph rd xt read chosen g.2)
      by_stage Caching ph rd xt g = subst (λ (v : Got). Done_by job buffer (Device (Sync Cache)) v read chosen) (sym g.1)
          (cache_done P A shape images devices commit mode reading actors n known f alone a x ex opened_in second [] doing job_is total left ph rd xt read chosen)
      by_stage Basing ph rd xt g = subst (λ (v : Got). Done_by job buffer (Device (Sync Origin)) v read chosen) (sym g.1)
          (origin_done P A shape images devices commit mode reading actors n known f alone a x ex opened_in second [] doing job_is total left ph rd xt read chosen)
      by_stage Looking ph rd xt g = by_chosen chosen (subst (λ (c : Option RunningCommit). Rattle.wb_promise.specs.Happenings.DoesRead mode shape.geometry second left rd.0.0 devices.metadata c got chosen) rd.1
          (subst (λ (r : Option (ReadSteps A)). OfReading {P = P} {A = A} (Opens mode r) (λ mode was. Rattle.wb_promise.specs.Happenings.DoesRead mode shape.geometry second left was devices.metadata commit got chosen)) rd.0.1 g.2))
        where
          by_chosen : (c : Chosen P A) → Rattle.wb_promise.specs.Happenings.DoesRead mode shape.geometry second left rd.0.0 devices.metadata None got c → Done_by job buffer (Device (ReadMetadata left)) got read c
          by_chosen (Reaches r c) d = looks P A shape images devices commit mode reading actors n known f alone a x ex opened_in second [] doing job_is total left ph rd xt got read (Reaches r c) d
          by_chosen c d = absurd d
      by_stage (Rooting i) ph rd xt g = subst (λ (v : Got). Done_by job buffer (Device WriteRoot) v read chosen) (sym g.1) (by_chosen chosen (subst (λ (c : Option RunningCommit). DoesPut c WriteRoot devices.metadata chosen) rd.0.commit_is g.2))
        where
          by_chosen : (c : Chosen P A) → DoesPut (Some rd.0.running) WriteRoot devices.metadata c → Done_by job buffer (Device WriteRoot) Done read c
          by_chosen (Puts new) d = root_done P A shape images devices commit mode reading actors n known f alone a x ex opened_in second [] doing job_is total left i ph rd xt new read d.1
          by_chosen c d = absurd d
      by_stage (Renewing i) ph rd xt g =
          let s = subst (λ (c : Option RunningCommit). DoesSync {P = P} {A = A} (Opens mode reading) c devices.metadata chosen) rd.0.commit_is g.2 in
          subst (λ (v : Got). Done_by job buffer (Device (Sync Metadata)) v read chosen) (sym g.1) (subst (λ (c : Chosen P A). Done_by job buffer (Device (Sync Metadata)) Done read c) (sym s.1)
          (renew_done P A shape images devices commit mode reading actors n known f alone a x ex opened_in second [] doing job_is total left i ph rd xt (synced devices.metadata) read (sync_does rd.0.running.image rd.0.running.steps devices.metadata s.0)))
      by_stage (Answering i) ph rd xt g = by_chosen chosen g.2
        where
          over_reading : (policy : P) → is_all_done commit ≡ true → Done_by job buffer (End Finished) got read (Opened policy)
          over_reading policy done =
              let o = opened_goes known f alone a x ex opened_in second (opening_at total left (Answering i)) xt got i ph rd policy done cache_size origin_size in
              let Then : Option (ReadSteps A) → Job → Type 0 = λ r j. Goes P A shape (record { devices = devices; commit = None; phase = phase_opened shape mode r (Opened policy); actors = slice_set actors a (actor_then {P = P} {A = A} shape (Opens mode reading) devices x (End Finished) got) })
              (Rattle.wb_promise.specs.Clerk.finished_note n a doing j (shown_in shape devices (phase_opened shape mode r (Opened policy)))) in
              subst (λ (j : Job). Then reading j) (sym job_is) (subst (λ (r : Option (ReadSteps A)). Then r (Open opened_in second)) (sym rd.0.reading_is) o)

          by_chosen : (c : Chosen P A) → Rattle.wb_promise.specs.Happenings.DoesOpen (Opens mode reading) commit c → Done_by job buffer (End Finished) got read c
          by_chosen (Opened policy) d = over_reading policy d.1
          by_chosen c d = absurd d

      -- a node that is written anew, or the sync behind them
      by_nodes : (i : Learnt) → f.site.phase ≡ OpensThere mode (Rooting i) → (h : HasLearnt reading commit i) → is_written h.running.steps ≡ false → f.phase.later ≡ None → (count first : ℕ) → x.task ≡ Some (Open opened_in second, anew_at total count first) → Gives shape w x (Open opened_in second) (want (anew_at total count first)) got read chosen →
          Done_by job buffer (want (anew_at total count first)) got read chosen
      by_nodes i ph h unwritten alone_is zero first xt g =
          let s = subst (λ (c : Option RunningCommit). DoesSync {P = P} {A = A} (Opens mode reading) c devices.metadata chosen) h.commit_is g.2 in
          subst (λ (v : Got). Done_by job buffer (Device (Sync Metadata)) v read chosen) (sym g.1) (subst (λ (c : Chosen P A). Done_by job buffer (Device (Sync Metadata)) Done read c) (sym s.1)
          (node_done P A shape images devices commit mode reading actors n known f alone a x ex opened_in second [] doing job_is total left i ph h unwritten alone_is (anew_at total 0 first) xt (Sync Metadata) (λ e. absurd (cc)) (and_true _ _ s.0).0 (synced devices.metadata) read Plain (opening_at total 0 (Rooting i))
          (sync_does h.running.image h.running.steps devices.metadata s.0) refl refl refl
          (λ learnt early. inl (record { total = total; left = 0; stage = Rooting i; is = refl; phase_is = refl; read = (learnt, refl) }))))
      by_nodes i ph h unwritten alone_is (suc count) first xt g = subst (λ (v : Got). Done_by job buffer (Device (WriteNode first)) v read chosen) (sym g.1) (by_chosen chosen (subst (λ (c : Option RunningCommit). DoesPut c (WriteNode first) devices.metadata chosen) h.commit_is g.2))
        where
          by_chosen : (c : Chosen P A) → DoesPut (Some h.running) (WriteNode first) devices.metadata c → Done_by job buffer (Device (WriteNode first)) Done read c
          by_chosen (Puts new) d = node_done P A shape images devices commit mode reading actors n known f alone a x ex opened_in second [] doing job_is total left i ph h unwritten alone_is (anew_at total (suc count) first) xt (WriteNode first) (λ e. absurd (cc)) (and_true _ _ d.0).0 new read (Puts new) (anew_at total count (first + 1))
              d.1 refl refl refl
              (λ learnt early. inr (inl (record { total = total; count = count; first = first + 1; learnt = i; is = refl; phase_is = refl; read = learnt; unwritten = early; alone = refl })))
          by_chosen c d = absurd d

    -- a step that fails
    module _ (total left : ℕ) (choice : Choice) (job : Job) (buffer : List Bytes) (read : List Bytes) (chosen : Chosen P A) where
      fails_at : (stage : Stage) → f.site.phase ≡ OpensThere mode stage → HasReadAt stage reading commit f.phase.later → x.task ≡ Some (Open opened_in second, opening_at total left stage) → Falters w choice (want (opening_at total left stage)) chosen → Failed_by choice job buffer (want (opening_at total left stage)) read chosen
      fails_at Settling ph rd xt g = settle_fails P A shape images devices commit mode reading actors n known f alone a x ex opened_in second [] doing job_is total left ph rd xt read chosen (lands Metadata choice)
      fails_at Caching ph rd xt g = cache_fails P A shape images devices commit mode reading actors n known f alone a x ex opened_in second [] doing job_is total left ph rd xt read chosen (lands Cache choice)
      fails_at Basing ph rd xt g = origin_fails P A shape images devices commit mode reading actors n known f alone a x ex opened_in second [] doing job_is total left ph rd xt read chosen (lands Origin choice)
      fails_at Looking ph rd xt g = subst (λ (c : Chosen P A). Failed_by choice job buffer (Device (ReadMetadata left)) read c) (sym g.0)
          (look_fails P A shape images devices commit mode reading actors n known f alone a x ex opened_in second [] doing job_is total left ph rd xt read)
      fails_at (Rooting i) ph rd xt g = by_chosen chosen (subst (λ (c : Option RunningCommit). FailsPut c choice WriteRoot devices.metadata chosen) rd.0.commit_is g)
        where
          by_chosen : (c : Chosen P A) → FailsPut (Some rd.0.running) choice WriteRoot devices.metadata c → Failed_by choice job buffer (Device WriteRoot) read c
          by_chosen (Puts new) d = root_fails P A shape images devices commit mode reading actors n known f alone a x ex opened_in second [] doing job_is total left i ph rd xt new read
              (put_fails rd.0.running.image rd.0.running.steps WriteRoot devices.metadata new tt d.0 (landed_or (lands Metadata choice (sector_put (coming_step rd.0.running.image rd.0.running.steps))) d.1))
          by_chosen c d = absurd d
      fails_at (Renewing i) ph rd xt g =
          let s = subst (λ (c : Option RunningCommit). FailsSync {P = P} {A = A} (Opens mode reading) c devices.metadata) rd.0.commit_is g.1 in
          subst (λ (c : Chosen P A). Failed_by choice job buffer (Device (Sync Metadata)) read c) (sym g.0)
          (renew_fails P A shape images devices commit mode reading actors n known f alone a x ex opened_in second [] doing job_is total left i ph rd xt (synced_where (lands Metadata choice) devices.metadata) read
          (sync_fails rd.0.running.image rd.0.running.steps (lands Metadata choice) devices.metadata s.0))
      fails_at (Answering i) ph rd xt g = absurd g

      nodes_fail : (i : Learnt) → f.site.phase ≡ OpensThere mode (Rooting i) → (h : HasLearnt reading commit i) → is_written h.running.steps ≡ false → f.phase.later ≡ None → (count first : ℕ) → x.task ≡ Some (Open opened_in second, anew_at total count first) → Falters w choice (want (anew_at total count first)) chosen →
          Failed_by choice job buffer (want (anew_at total count first)) read chosen
      nodes_fail i ph h unwritten alone_is zero first xt g =
          let s = subst (λ (c : Option RunningCommit). FailsSync {P = P} {A = A} (Opens mode reading) c devices.metadata) h.commit_is g.1 in
          subst (λ (c : Chosen P A). Failed_by choice job buffer (Device (Sync Metadata)) read c) (sym g.0)
          (node_fails P A shape images devices commit mode reading actors n known f alone a x ex opened_in second [] doing job_is total left i ph h unwritten alone_is (anew_at total 0 first) xt (Sync Metadata) (λ e. absurd (cc)) (and_true _ _ s.0).0 (synced_where (lands Metadata choice) devices.metadata) read Plain total (Io Metadata)
          (sync_fails h.running.image h.running.steps (lands Metadata choice) devices.metadata s.0) refl refl refl)
      nodes_fail i ph h unwritten alone_is (suc count) first xt g = by_chosen chosen (subst (λ (c : Option RunningCommit). FailsPut c choice (WriteNode first) devices.metadata chosen) h.commit_is g)
        where
          by_chosen : (c : Chosen P A) → FailsPut (Some h.running) choice (WriteNode first) devices.metadata c → Failed_by choice job buffer (Device (WriteNode first)) read c
          by_chosen (Puts new) d = node_fails P A shape images devices commit mode reading actors n known f alone a x ex opened_in second [] doing job_is total left i ph h unwritten alone_is (anew_at total (suc count) first) xt (WriteNode first) (λ e. absurd (cc)) (and_true _ _ d.0).0 new read (Puts new) total (Io Metadata)
              (put_fails h.running.image h.running.steps (WriteNode first) devices.metadata new tt d.0 (landed_or (lands Metadata choice (sector_put (coming_step h.running.image h.running.steps))) d.1)) refl refl refl
          by_chosen c d = absurd d

    -- ---- whatever it is at

    module _ (plan : Plan) (xt : x.task ≡ Some (Open opened_in second, plan)) (job : Job) (buffer : List Bytes) where
      pub opening_steps : (next : Want) (got : Got) (read : List Bytes) (chosen : Chosen P A) → next ≡ want plan → Gives shape w x (Open opened_in second) next got read chosen → Done_by job buffer next got read chosen
      opening_steps next got read chosen e g = by_at (f.phase.each a x (Open opened_in second) plan ex xt)
        where
          -- it has only to answer, refused
          answers : IsOver plan f.site.phase → (answer : Answer) → plan.answer ≡ answer → next ≡ End answer → Done_by job buffer next got read chosen
          answers over Finished ea en = absurd (over.refused ea)
          answers over (Refuses refusal) ea en =
              let g' = subst (λ (v : Want). Gives shape w x (Open opened_in second) v got read chosen) en g in
              subst (λ (v : Want). Done_by job buffer v got read chosen) (sym en) (subst (λ (c : Chosen P A). Done_by job buffer (End (Refuses refusal)) got read c) (sym g'.0.1)
              (refused_goes known f alone a x ex opened_in second plan xt got refusal over))

          by_at : IsFollowed mode reading commit f.phase.later plan f.site.phase → Done_by job buffer next got read chosen
          by_at (inl s) =
              let en : next ≡ want (opening_at s.total s.left s.stage) = e ∙ ap want s.is in
              subst (λ (v : Want). Done_by job buffer v got read chosen) (sym en) (by_stage s.total s.left job buffer got read chosen s.stage s.phase_is s.read (xt ∙ ap (λ (p : Plan). Some (Open opened_in second, p)) s.is)
              (subst (λ (v : Want). Gives shape w x (Open opened_in second) v got read chosen) en g))
          by_at (inr (inl s)) =
              let en : next ≡ want (anew_at s.total s.count s.first) = e ∙ ap want s.is in
              subst (λ (v : Want). Done_by job buffer v got read chosen) (sym en) (by_nodes s.total 0 job buffer got read chosen s.learnt s.phase_is s.read s.unwritten s.alone s.count s.first (xt ∙ ap (λ (p : Plan). Some (Open opened_in second, p)) s.is)
              (subst (λ (v : Want). Gives shape w x (Open opened_in second) v got read chosen) en g))
          by_at (inr (inr over)) = answers over plan.answer refl (e ∙ ap (λ (ws : List Want). first_step ws plan.answer) over.nothing)

      pub opening_faults : (choice : Choice) (next : Want) (read : List Bytes) (chosen : Chosen P A) → next ≡ want plan → Falters w choice next chosen → Failed_by choice job buffer next read chosen
      opening_faults choice next read chosen e g = by_at (f.phase.each a x (Open opened_in second) plan ex xt)
        where
          by_at : IsFollowed mode reading commit f.phase.later plan f.site.phase → Failed_by choice job buffer next read chosen
          by_at (inl s) =
              let en : next ≡ want (opening_at s.total s.left s.stage) = e ∙ ap want s.is in
              subst (λ (v : Want). Failed_by choice job buffer v read chosen) (sym en) (fails_at s.total s.left choice job buffer read chosen s.stage s.phase_is s.read (xt ∙ ap (λ (p : Plan). Some (Open opened_in second, p)) s.is)
              (subst (λ (v : Want). Falters w choice v chosen) en g))
          by_at (inr (inl s)) =
              let en : next ≡ want (anew_at s.total s.count s.first) = e ∙ ap want s.is in
              subst (λ (v : Want). Failed_by choice job buffer v read chosen) (sym en) (nodes_fail s.total 0 choice job buffer read chosen s.learnt s.phase_is s.read s.unwritten s.alone s.count s.first (xt ∙ ap (λ (p : Plan). Some (Open opened_in second, p)) s.is)
              (subst (λ (v : Want). Falters w choice v chosen) en g))
          by_at (inr (inr over)) = absurd (subst (λ (v : Want). Falters w choice v chosen) (e ∙ ap (λ (ws : List Want). first_step ws plan.answer) over.nothing) g)

  module _ (known : MetadataKept {P = P} {A = A} shape.geometry images (Opens mode reading) commit devices.metadata) (f : Followed P A shape images w n) (alone : AtPhase {P = P} {A = A} (Opens mode reading) actors) (none : NoOrders actors) (a : ℕ) (x : Actor) (ex : slice_get actors a ≡ Some x) (opened_in : Mode) (second : Bool) (plan : Plan) (xt : x.task ≡ Some (Open opened_in second, plan))
      (cache_size : length devices.cache ≡ cache_sector_count shape) (origin_size : length devices.origin ≡ sector_count shape) (got : Got) (read : List Bytes) where
    abbrev Then : Answer → Phase P A → Type 0
    Then answer phase = Keeping phase (slice_set actors a (actor_then {P = P} {A = A} shape (Opens mode reading) devices x (End answer) got))

    no_orders : (answer : Answer) → NoOrders (slice_set actors a (actor_then {P = P} {A = A} shape (Opens mode reading) devices x (End answer) got))
    no_orders answer = none_goes P A shape (Opens mode reading) devices actors a x (End answer) got ex none

    pub opening_keeps : (answer : Answer) (chosen : Chosen P A) → End answer ≡ want plan → Gives shape w x (Open opened_in second) (End answer) got read chosen → Then answer (phase_then {P = P} {A = A} shape (Opens mode reading) (End answer) got chosen)
    opening_keeps Finished chosen next g =
        let o = answered known f alone a x ex opened_in second plan xt got chosen next g.2 in
        subst (λ (p : Phase P A). Then Finished p) (sym o.stands) (made_keeps P (target_over shape mode o.policy o.read.0.stored) (slice_set actors a (actor_then {P = P} {A = A} shape (Opens mode reading) devices x (End Finished) got)) (no_orders Finished)
        (at_rest known f alone a x ex opened_in second plan xt got o.learnt o.phase_is o.read o.policy o.done cache_size origin_size)
        (λ block. sym (same_number (place_in (word_at (target_over shape mode o.policy o.read.0.stored).words.seals block))) ∙ opened_tells known f alone a x ex opened_in second plan xt got o.learnt o.phase_is o.read o.policy o.done cache_size origin_size block))
    opening_keeps (Refuses refusal) chosen next g = subst (λ (c : Chosen P A). Then (Refuses refusal) (phase_opened shape mode reading c)) (sym g.0.1) (no_orders (Refuses refusal))

    -- what it shows is allowed
    pub opening_shows : (chosen : Chosen P A) → End Finished ≡ want plan → Gives shape w x (Open opened_in second) (End Finished) got read chosen → ShowsAllowed n (shown_in shape devices (phase_then {P = P} {A = A} shape (Opens mode reading) (End Finished) got chosen))
    opening_shows chosen next g =
        let o = answered known f alone a x ex opened_in second plan xt got chosen next g.2 in
        subst (λ (p : Phase P A). ShowsAllowed n (shown_in shape devices p)) (sym o.stands) (shows known f alone a x ex opened_in second plan xt got o.learnt o.phase_is o.read o.policy o.done cache_size origin_size)
