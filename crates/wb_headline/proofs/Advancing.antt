-- Each step of the commit of a flush or a suspend, with each result that it may have, is followed.
use Rattle.std.proofs.Common.{◌≡◌, ◌≢◌, ◌∙◌, ◌≤◌, ◌<◌, ◌⊎◌, inl, inr, ℕ, zero, suc, Bool, true, false, if◌then◌else◌, List, [], ◌++◌, Option, Some, None, refl, sym, ap, subst, arith, length, slice_get, slice_set, Contains, ◌+◌}
use Rattle.std.proofs.lemmas.List.{length-set}
use Rattle.std.proofs.lemmas.List.Elements.{Contains-append_cases, Contains-append_left, Contains-append_right}
use Rattle.wb_types.specs.declared.number.OBlock.{OBlock}
use Rattle.wb_types.specs.declared.mode.Dev.{Dev}
use Rattle.wb_types.specs.declared.mode.Dev.TheVariants.{Metadata}
use Rattle.wb_types.specs.declared.refusal.Refusal.{Refusal}
use Rattle.wb_types.specs.declared.refusal.Refusal.TheVariants.{Busy, Failed, Memory, GenerationEnd}
use Rattle.wb_disk.specs.Device.{Content as Bytes, History, synced}
use Rattle.wb_disk.specs.Failing.{synced_where, lands}
use Rattle.wb_words.specs.Rule.{LockRule}
use Rattle.wb_words.specs.SharedWords.{word_at, place_in}
use Rattle.wb_words.specs.Effects.{result_of, words_after}
use Rattle.wb_words.specs.declared.step.CellStep.{CellStep}
use Rattle.wb_words.specs.declared.step.CellStep.TheVariants.{Look, SetFailed}
use Rattle.wb_words.specs.declared.word.Word.TheVariants.{Fail}
use Rattle.wb_tree.specs.declared.image.Image.{Image}
use Rattle.wb_tree.specs.Mapping.{Mapping}
use Rattle.wb_meta.specs.Representing.{Stored}
use Rattle.wb_meta.specs.Steps.{DoesStep, FailsStep, steps_after, coming_step}
use Rattle.wb_meta.specs.declared.commit_steps.CommitSteps.{CommitSteps}
use Rattle.wb_meta.specs.declared.commit_steps.CommitSteps.TheVariants.{NodesWritten}
use Rattle.wb_policy.specs.declared.order.Order.{Order}
use Rattle.wb_desk.specs.Desks.{DeskState}
use Rattle.wb_desk.specs.Commits.{HasBegun, IsBeginRefused, commit_begun, commit_broken, commit_ended}
use Rattle.wb_tasks.specs.Plan.{Plan, want, got_of, device_of}
use Rattle.wb_tasks.specs.Ready.{HoldsBlocks, Suits, IsOwnStep}
use Rattle.wb_tasks.specs.declared.step.Answer.{Answer}
use Rattle.wb_tasks.specs.declared.step.Answer.TheVariants.{Done as Finished, Refused as Refuses}
use Rattle.wb_tasks.specs.declared.step.DeviceStep.{DeviceStep}
use Rattle.wb_tasks.specs.declared.step.DeviceStep.TheVariants.{Sync, WriteRoot}
use Rattle.wb_tasks.specs.declared.step.DeskStep.TheVariants.{Arrive, Ask, BeginCommit, BreakCommit, EndCommit}
use Rattle.wb_tasks.specs.declared.step.DeskStep.{DeskStep}
use Rattle.wb_tasks.specs.declared.step.Want.{Want}
use Rattle.wb_tasks.specs.declared.step.Want.TheVariants.{Cell, Device, Desk, End}
use Rattle.wb_tasks.specs.declared.step.Got.{Got}
use Rattle.wb_tasks.specs.declared.step.Got.TheVariants.{Done, Fault, Began, Ticket, Served, Refused as GotRefused}
use Rattle.wb_devices.specs.declared.devices.Devices.{Devices}
use Rattle.wb_devices.specs.declared.running.RunningCommit.{RunningCommit}
use Rattle.wb_devices.specs.Moving.{device_in}
use Rattle.wb_devices.specs.Committing.{is_coming, is_committed}
use Rattle.wb_desk.specs.Sharing.{IsLeadRefused}
use Rattle.wb_stage.specs.declared.share.Share.{Share}
use Rattle.wb_stage.specs.declared.share.Share.TheVariants.{Waiting}
use Rattle.wb_stage.specs.Sharing.{share_then}
use Rattle.wb_stage.specs.Asking.{ended}
use Rattle.wb_meta.specs.Roots.{MayBeReadAs}
use Rattle.wb_promise.specs.declared.job.Job.{Job}
use Rattle.wb_promise.specs.declared.job.Job.TheVariants.{Flush}
use Rattle.wb_promise.specs.States.{Shape, State, Actor, Target, Stands, with_device}
use Rattle.wb_promise.specs.Effects.{actor_then, awaiting_then, buffer_then, seen_then, share_by, dropped, orders_then, device_done, device_failed, stepped, led}
use Rattle.wb_runs.specs.Holding.{cards_of}
use Rattle.wb_promise.specs.Clerk.{Notes, Doing, noted_step, device_note, failing, put, finished_note, made_durable}
use Rattle.wb_runs.proofs.Ordering.{held_of}
use Rattle.wb_runs.proofs.Images.{Images, later_of, one_image}
use Rattle.wb_runs.proofs.Underway.{images_of, is_written, led_on, sync_does, sync_fails as commit_sync_fails, put_fails, IsPut}
use Rattle.wb_runs.proofs.Metadata.{MetadataKept, AtDesk, Leading, Quiet, begins_over, ends_over, broken_over, kept_readable}
use Rattle.wb_link.specs.World.{World, Shared, abstract_after_all}
use Rattle.wb_refines.specs.Commits.{IsNoBegin, commit_task, commit_there}
use Rattle.wb_simulation.proofs.Leading.{doing_as}
use Rattle.wb_simulation.proofs.Followed.{doing_of}
use Rattle.wb_simulation.specs.Noting.{NotesAgree}
use Rattle.wb_simulation.specs.Noted.{told}
use Rattle.wb_simulation.specs.Sites.{ImagesAgree, IsRunning, locations, StateTakesClean}
use Rattle.wb_simulation.specs.Telling.{Quietly, Answers}
use Rattle.wb_simulation.specs.Worlds.{Situation, TurnedTo, DeskTurnedTo, Turn, Stays, Begins, Puts, Ends, WorldFollowsBy, WorldFollows, one_begun, IsLeftOut, TakesIn}
use Rattle.wb_simulation.specs.Laws.{WantsNext, AsksToLead, flush_or_suspend, stepped_actor, after_step, turn_of}
use Rattle.wb_simulation.proofs.Commits.{commit_steps_followed}
use Rattle.wb_simulation.proofs.Noted.{notes_followed}
use Rattle.wb_simulation.proofs.Opening.{images_followed}
use Rattle.wb_headline.specs.Desks.{DeskAgrees, live_orders}
use Rattle.wb_headline.proofs.Desking.{desk_stays, desk_begins, desk_ends}
use Rattle.wb_headline.proofs.Following.{situation, size, most, Followed, Goes}
use Rattle.wb_headline.proofs.Rooted.{same_one}
use Rattle.wb_headline.proofs.Suspends.{AllSeen}
use Rattle.wb_simulation.specs.Opened.{located}
use Rattle.wb_simulation.specs.Actors.{ticket_in}
use Rattle.wb_promise.specs.Headline.{place_of}
use Rattle.wb_promise.specs.Sealed.{number_of}
use Rattle.wb_format.specs.declared.root.Root.{Root}
use Rattle.wb_headline.proofs.Targets.{landed_or, standing, actor_is, beside, failing_same, noted_within, leads_on, stays_on, unnoted}
use Rattle.wb_disk.specs.Crash.{Choice}
use Rattle.wb_stage.specs.Stages.{is_all_done}
use Rattle.wb_promise.specs.Happenings.{Chosen, Plain, Puts, DoesPut, DoesSync, FailsPut, FailsSync, sector_put}
use Rattle.wb_promise.specs.Headline.{shown}
use Rattle.wb_types.proofs.Truth.{and_true}
use Rattle.wb_runs.proofs.Stepping.{data_device}
use Rattle.wb_runs.proofs.Plans.{own_next}
use Rattle.wb_headline.proofs.Underway.{failed_read, IsStill, written_before, failed_written, written_there, runs_there, still, not_noted, finished_durable, marks, begun_places, shown_places, begun_takes, some_is}

module _ (P A : Type 0) (shape : Shape) (images : Images) (t : Target P) (commit : Option RunningCommit) (devices : Devices (List History)) (actors : List Actor) (n : Notes) (known : MetadataKept {P = P} {A = A} shape.geometry images (Stands t) commit devices.metadata)
    (f : Followed P A shape images (standing P A shape images t commit devices actors n) n) (rule : LockRule shape.geometry.origin_blocks t.words (cards_of actors)) (a : ℕ) (x : Actor) (ex : slice_get actors a ≡ Some x) (clean : Bool) (plan : Plan) (xt : x.task ≡ Some (flush_or_suspend clean, plan))
    (doing : Doing) (noted : slice_get n.doings a ≡ Some (Some doing)) (job_is : doing.job ≡ flush_or_suspend clean) where
  -- where the machine stands
  abbrev now : Situation
  now = situation shape t devices actors

  -- so its actor there is to do this next
  wants : {next : Want} → next ≡ want plan → WantsNext now a x f.site.world (flush_or_suspend clean) plan next
  wants {next} e = record { here = ex; task = xt; asks = sym e; agrees = f.phase.agrees }

  -- its task
  pub its_task : (blocks : List OBlock) × (plan.job ≡ commit_task clean blocks (most P A shape clean))
  its_task =
      let b = beside P A shape images t commit devices actors n known f a x ex in
      let r = doing_as clean (size P A shape) (most P A shape) _ plan x.card x.share b.0 (doing_of (size P A shape) (most P A shape) t.words x b.0 (flush_or_suspend clean) plan (f.phase.agrees.each a x b.0 ex b.1) xt) in
      (r.blocks, r.job)

  abbrev s : Shared
  s = f.site.world.shared

  -- the actor after such a step
  pub goes_still : (next : Want) (got : Got) → IsStill next → actor_then {P = P} {A = A} shape (Stands t) devices x next got ≡ record x { task = Rattle.wb_promise.specs.Effects.task_then (Some (flush_or_suspend clean, plan)) next got; card = Rattle.wb_promise.specs.Effects.card_then {P = P} {A = A} shape (Stands t) x.card next }
  goes_still next got k =
      let v = still P A t devices x clean next got k in
      actor_is P A shape (Stands t) devices x (flush_or_suspend clean) plan next got xt
      ∙ (λ i. record { task = Rattle.wb_promise.specs.Effects.task_then (Some (flush_or_suspend clean, plan)) next got; card = Rattle.wb_promise.specs.Effects.card_then {P = P} {A = A} shape (Stands t) x.card next; orders = v.0 i; awaiting = v.1 i; buffer = v.2 i; seen = v.3 i; share = v.4 i })

  -- the state after a step, by this actor
  abbrev then_is : Target P → Option RunningCommit → Devices (List History) → Want → Got → State P A
  then_is t' commit' devices' next got = record { devices = devices'; commit = commit'; phase = Stands t'; actors = slice_set actors a (actor_then {P = P} {A = A} shape (Stands t) devices x next got) }

  -- what is noted of a step on a device, and of any other
  abbrev device_n : DeviceStep → Got → Notes
  device_n step got = put n a (Some (failing doing step got))

  noted_less : Rattle.std.proofs.Common.◌<◌ a (length n.doings)
  noted_less = noted_within P A shape images t commit devices actors n known f a x ex

  -- ---- steps on devices

  module _ (turn : Turn) (step : DeviceStep) (got : Got) (contents : List Bytes) (t' : Target P) (commit' : Option RunningCommit) (devices' : Devices (List History)) (images' : Images) (plain : IsStill (Device step))
      (g : WorldFollowsBy turn Quietly a f.site.world (situation shape t' devices' actors) (after_step (flush_or_suspend clean) plan got x)) where
    device_notes : NotesAgree (size P A shape) (device_n step got) (abstract_after_all f.site.world g.records) (told f.notes g.records)
    device_notes = let e = failing_same doing step got in notes_followed.redone (size P A shape) n (abstract_after_all f.site.world g.records) (told f.notes g.records) a doing (failing doing step got) (unnoted P A shape images t commit devices actors n known f a x ex notes_followed.quiet g f.notes_agree) noted e.0 e.1

    on_device : AtDesk shape.geometry images' t'.desk commit' devices'.metadata → DeskAgrees t'.desk (abstract_after_all f.site.world g.records).shared → ImagesAgree shape.geometry images'.committed (later_of images') devices'.metadata (abstract_after_all f.site.world g.records).shared →
        ((state : Stored) → images'.running ≡ Some state → ((abstract_after_all f.site.world g.records).shared.running ≡ locations state) × StateTakesClean state (abstract_after_all f.site.world g.records).shared.running_clean) → Goes P A shape (then_is t' commit' devices' (Device step) got) (noted_step shape t.desk.mode [] n a (Some (Some doing)) (Device step) got contents)
    on_device known' desk images_agree running =
        subst (λ (m : Notes). Goes P A shape (then_is t' commit' devices' (Device step) got) m) (sym (ap (λ (q : Job). device_note shape t.desk.mode (device_n step got) a (failing doing step got) q step got contents) job_is ∙ not_noted shape t.desk.mode (device_n step got) a (failing doing step got) clean step got contents))
        (subst (λ (y : Actor). Goes P A shape (record { devices = devices'; commit = commit'; phase = Stands t'; actors = slice_set actors a y }) (device_n step got)) (sym (goes_still (Device step) got plain))
        (leads_on P A shape images t commit devices actors n known f a x ex turn Quietly t' commit' devices' (after_step (flush_or_suspend clean) plan got x) (device_n step got) images' (live_orders t'.desk) g device_notes (length-set n.doings a (Some (failing doing step got))) refl known' refl desk images_agree running))

  -- cache and origin are synced, or fail to be
  module _ (device : Dev) (holds : HoldsBlocks device) (next : Device (Sync device) ≡ want plan) (contents : List Bytes) where
    synced_so : (got : Got) → (list : List History) → WorldFollows Quietly a f.site.world (situation shape t (with_device device devices list) actors) (after_step (flush_or_suspend clean) plan got x) →
        Goes P A shape (then_is t commit (with_device device devices list) (Device (Sync device)) got) (noted_step shape t.desk.mode [] n a (Some (Some doing)) (Device (Sync device)) got contents)
    synced_so got list g =
        let known' = subst (λ (m : List History). AtDesk shape.geometry images t.desk commit m) (sym (data_device device holds devices list)) known in
        let s' = (abstract_after_all f.site.world g.records).shared in
        let readable = kept_readable shape.geometry images (with_device device devices list).metadata P A (Stands t) commit known' in
        on_device Stays (Sync device) got contents t commit (with_device device devices list) images tt g known' (desk_stays P t.desk s s' f.phase.desk t.desk refl refl g.desk.0 g.desk.1)
        (images_followed.stay shape.geometry images.committed (later_of images) devices.metadata (with_device device devices list).metadata s s' f.phase.images_agree g.turned readable.read) (λ state e. let r = f.phase.running state e in (g.turned.1 ∙ r.0, subst (StateTakesClean state) (sym g.turned.4) r.1))

    pub syncs : Goes P A shape (then_is t commit (with_device device devices (synced (device_in device devices))) (Device (Sync device)) Done) (noted_step shape t.desk.mode [] n a (Some (Some doing)) (Device (Sync device)) Done contents)
    syncs = synced_so Done (synced (device_in device devices)) (commit_steps_followed.syncs clean now device a x plan f.site.world holds (wants next))

    pub sync_fails : (lands : ℕ → Bool) → Goes P A shape (then_is t commit (with_device device devices (synced_where lands (device_in device devices))) (Device (Sync device)) Fault) (noted_step shape t.desk.mode [] n a (Some (Some doing)) (Device (Sync device)) Fault contents)
    sync_fails lands = synced_so Fault (synced_where lands (device_in device devices)) (commit_steps_followed.sync_fails clean now device lands a x plan f.site.world holds (wants next))

  -- ---- steps of the commit on the metadata

  module _ (step : DeviceStep) (of_metadata : device_of step ≡ Metadata) (next : Device step ≡ want plan) (contents : List Bytes) (c : RunningCommit) (runs : commit ≡ Some c) (coming : is_coming c.image c.steps step ≡ true) (new : List History) where
    k : AtDesk shape.geometry images t.desk (Some c) devices.metadata
    k = subst (λ (m : Option RunningCommit). AtDesk shape.geometry images t.desk m devices.metadata) runs known

    l : Leading shape.geometry images t.desk c devices.metadata
    l = k.stands

    abbrev devices' : Devices (List History)
    devices' = record devices { metadata = new }

    running_now : images.running ≡ Some l.of.new
    running_now = ap (λ (i : Images). i.running) l.under.are

    committed_now : l.of.old ≡ images.committed
    committed_now = ap (λ (i : Images). i.committed) (sym l.under.are)

    -- the root was written there where it was here
    written_now : is_written c.steps ≡ true → s.root_written ≡ true
    written_now e = (subst (λ (o : Option Stored). IsRunning o s) (ap later_of l.under.are ∙ ap (λ b. if b then Some l.of.new else None) e) f.phase.images_agree.later_is).0

    abbrev c' : RunningCommit
    c' = record c { steps = steps_after c.image c.steps }

    -- what comes there of one that was done
    parts : (v : DeviceStep) → is_coming c.image c.steps v ≡ true → (s' : Shared) → DeskTurnedTo (turn_of v) s s' → TurnedTo (turn_of v) s s' → (s'.mapping ≡ s.mapping) × (s'.blocks ≡ s.blocks) × (s'.committed ≡ s.committed) × (s'.running ≡ s.running) × (is_written (steps_after c.image c.steps) ≡ true → s'.root_written ≡ true) × (s'.committed_clean ≡ s.committed_clean) × (s'.running_clean ≡ s.running_clean)
    parts WriteRoot coming s' d u = (d.0, d.1, u.0, u.1, λ w. u.2, u.3, u.4)
    parts v coming s' d u = (d.0, d.1, u.0, u.1, λ w. u.2 ∙ written_now (written_before c.image c.steps v coming (λ e. absurd (cc)) w), u.3, u.4)

    put_done : IsStill (Device step) → DoesStep c.image c.steps devices.metadata new → Goes P A shape (then_is t (led commit Done) devices' (Device step) Done) (noted_step shape t.desk.mode [] n a (Some (Some doing)) (Device step) Done contents)
    put_done plain does =
        let g = commit_steps_followed.on_metadata clean now step new a x plan f.site.world of_metadata (wants next) in
        let s' = (abstract_after_all f.site.world g.records).shared in
        let so = parts step coming s' g.desk g.turned in
        let u = led_on shape.geometry images c l.of devices.metadata new l.under does in
        let same : u.now.committed ≡ images.committed = ap (λ (i : Images). i.committed) u.kept.are ∙ committed_now in
        let known' : AtDesk shape.geometry u.now t.desk (Some c') new = record { is = k.is; stands = record { of = l.of; under = u.kept; edited = l.edited; places = l.places; same = l.same; generation = l.generation; busy = l.busy } } in
        let readable = kept_readable shape.geometry u.now new P A (Stands t) (Some c') known' in
        let runs_now = f.phase.running l.of.new running_now in
        let there : s'.running ≡ locations l.of.new = so.3 ∙ runs_now.0 in
        let clean_there = subst (StateTakesClean l.of.new) (sym so.6) runs_now.1 in
        subst (λ (m : Option RunningCommit). Goes P A shape (then_is t m devices' (Device step) Done) (noted_step shape t.desk.mode [] n a (Some (Some doing)) (Device step) Done contents)) (sym (ap (λ (m : Option RunningCommit). led m Done) runs))
        (on_device (turn_of step) step Done contents t (Some c') devices' u.now plain g known' (desk_stays P t.desk s s' f.phase.desk t.desk refl refl so.0 so.1)
        (record {
          read = readable.read;
          committed_is = so.2 ∙ f.phase.images_agree.committed_is ∙ ap locations (sym same);
          clean_is = subst (λ (v : Stored). StateTakesClean v s'.committed_clean) (sym same) (subst (StateTakesClean images.committed) (sym so.5) f.phase.images_agree.clean_is);
          later_is = subst (λ (i : Images). IsRunning (later_of i) s') (sym u.kept.are) (runs_there l.of (is_written (steps_after c.image c.steps)) s' so.4 there clean_there);
        })
        (λ state e. let is = some_is l.of.new state (sym (ap (λ (i : Images). i.running) u.kept.are) ∙ e) in (there ∙ ap locations is, subst (λ (v : Stored). StateTakesClean v s'.running_clean) is clean_there)))

    put_failed : IsStill (Device step) → FailsStep c.image c.steps devices.metadata new → Goes P A shape (then_is t (led commit Fault) devices' (Device step) Fault) (noted_step shape t.desk.mode [] n a (Some (Some doing)) (Device step) Fault contents)
    put_failed plain bad =
        let fails = commit_steps_followed.metadata_fails clean now step new a x plan f.site.world of_metadata (wants next) in
        let written = fails.0 in
        let g = fails.2 in
        let images' = images_of l.of (failed_written c.steps) in
        let s' = (abstract_after_all f.site.world g.records).shared in
        let readable = failed_read shape.geometry images c l.of devices.metadata new l.under bad in
        let runs_now = f.phase.running l.of.new running_now in
        let there : s'.running ≡ locations l.of.new = g.turned.1 ∙ runs_now.0 in
        let clean_there = subst (StateTakesClean l.of.new) (sym g.turned.4) runs_now.1 in
        subst (λ (m : Option RunningCommit). Goes P A shape (then_is t m devices' (Device step) Fault) (noted_step shape t.desk.mode [] n a (Some (Some doing)) (Device step) Fault contents)) (sym (ap (λ (m : Option RunningCommit). led m Fault) runs))
        (on_device (Puts written) step Fault contents t None devices' images' plain g (record { is = k.is; stands = inr (record { readable = readable; busy = l.busy }) }) (desk_stays P t.desk s s' f.phase.desk t.desk refl refl g.desk.0 g.desk.1)
        (record {
          read = readable.read;
          committed_is = g.turned.0 ∙ f.phase.images_agree.committed_is ∙ ap locations (sym committed_now);
          clean_is = subst (λ (v : Stored). StateTakesClean v s'.committed_clean) (sym committed_now) (subst (StateTakesClean images.committed) (sym g.turned.3) f.phase.images_agree.clean_is);
          later_is = runs_there l.of (failed_written c.steps) s' (λ e. g.turned.2 ∙ written_there c.image c.steps step s.root_written written coming written_now fails.1 e) there clean_there;
        })
        (λ state e. let is = some_is l.of.new state e in (there ∙ ap locations is, subst (λ (v : Stored). StateTakesClean v s'.running_clean) is clean_there)))

  -- ---- the desk

  -- which of both it is
  as_it_is : (which : Bool) → clean ≡ which → (G : Job → Type 0) → G (flush_or_suspend which) → G (flush_or_suspend clean)
  as_it_is which is G g = subst (λ (c : Bool). G (flush_or_suspend c)) (sym is) g

  wants_as : (which : Bool) → clean ≡ which → {next : Want} → next ≡ want plan → WantsNext now a x f.site.world (flush_or_suspend which) plan next
  wants_as which is {next} e = subst (λ (c : Bool). WantsNext now a x f.site.world (flush_or_suspend c) plan next) is (wants e)

  -- a flush that asked to lead a commit, and what it has then
  pub asked_then : (step : DeskStep) (got : Got) → AsksToLead step → clean ≡ false → actor_then {P = P} {A = A} shape (Stands t) devices x (Desk step) got ≡ record (after_step (flush_or_suspend clean) plan got x) { share = share_then t.desk x.share step got }
  asked_then step got asks flushes = by_step step asks
    where
      as_flush_is : x.task ≡ Some (Flush, plan)
      as_flush_is = xt ∙ ap (λ (c : Bool). Some (flush_or_suspend c, plan)) flushes

      named : (y : Share) → ◌≡◌ {A = Actor} (record (after_step Flush plan got x) { share = y }) (record (after_step (flush_or_suspend clean) plan got x) { share = y })
      named y = ap (λ (c : Bool). record (after_step (flush_or_suspend c) plan got x) { share = y }) (sym flushes)

      by_step : (v : DeskStep) → AsksToLead v → actor_then {P = P} {A = A} shape (Stands t) devices x (Desk v) got ≡ record (after_step (flush_or_suspend clean) plan got x) { share = share_then t.desk x.share v got }
      by_step (Arrive allowed) k = actor_is P A shape (Stands t) devices x Flush plan (Desk (Arrive allowed)) got as_flush_is ∙ named (share_then t.desk x.share (Arrive allowed) got)
      by_step (Ask allowed) k = actor_is P A shape (Stands t) devices x Flush plan (Desk (Ask allowed)) got as_flush_is ∙ named (share_then t.desk x.share (Ask allowed) got)
      by_step v k = absurd k

  no_begin : (refusal : Refusal) → IsBeginRefused t.desk refusal → IsNoBegin refusal
  no_begin Busy r = tt
  no_begin Memory r = tt
  no_begin GenerationEnd r = tt
  no_begin refusal r = absurd r

  -- a commit begins, of the desk's mapping
  pub begins : (step : DeskStep) (nodes : ℕ) (c : RunningCommit) (tree : Mapping) (y : Actor) → actor_then {P = P} {A = A} shape (Stands t) devices x (Desk step) (Began nodes) ≡ y → c.steps ≡ NodesWritten 0 → (hint_of : P → ℕ → ℕ) → HasBegun hint_of (marks clean x.seen) t.desk c.image (commit_begun t.desk tree c.image) →
      (clean ≡ true → AllSeen t.words t.desk.tree.entries x.seen × ((block : OBlock) → number_of (place_in (word_at t.words.seals block)) ≡ place_of t.desk.tree.entries block.0)) →
      WorldFollowsBy (Begins clean) Quietly a f.site.world (record now { commits = one_begun now.commits }) y →
      Goes P A shape (then_is (record { words = t.words; desk = commit_begun t.desk tree c.image }) (Some c) devices (Desk step) (Began nodes)) n
  begins step nodes c tree y is_then steps hint_of begun all g = by_commit commit refl known
    where
      To : Type 0
      To = Goes P A shape (then_is (record { words = t.words; desk = commit_begun t.desk tree c.image }) (Some c) devices (Desk step) (Began nodes)) n

      idle : t.desk.space.committing ≡ false
      idle = begun.may.idle

      quiet : Quiet shape.geometry images t.desk devices.metadata → AtDesk shape.geometry images t.desk None devices.metadata → To
      quiet q k =
          let b = begins_over P shape.geometry images t.desk devices.metadata hint_of (marks clean x.seen) c tree k.is q steps begun in
          let s' = (abstract_after_all f.site.world g.records).shared in
          let t' : Target P = record { words = t.words; desk = commit_begun t.desk tree c.image } in
          let l = b.kept.0.stands in
          let one : later_of images ≡ None = ap later_of q.are in
          let agree : ImagesAgree shape.geometry images.committed None devices.metadata s = subst (λ (o : Option Stored). ImagesAgree shape.geometry images.committed o devices.metadata s) one f.phase.images_agree in
          let begun_there = images_followed.begin clean shape.geometry images.committed devices.metadata s s' agree g.turned in
          let same : b.now.committed ≡ images.committed = same_one b.turn images b.now (ap (λ (i : Images). i.running) q.are) b.turned in
          let later : later_of b.now ≡ None = ap later_of l.under.are ∙ ap (λ (v : CommitSteps). if is_written v then Some l.of.new else None) steps in
          subst (λ (v : Actor). Goes P A shape (record { devices = devices; commit = Some c; phase = Stands t'; actors = slice_set actors a v }) n) (sym is_then)
          (leads_on P A shape images t commit devices actors n known f a x ex (Begins clean) Quietly t' (Some c) devices y n b.now (live_orders t'.desk) g (unnoted P A shape images t commit devices actors n known f a x ex notes_followed.quiet g f.notes_agree) refl refl b.kept.0 refl (desk_begins P t.desk s s' f.phase.desk tree c.image (begun_places clean x.seen hint_of t.desk c.image tree begun) g.desk.0 g.desk.1) (subst (λ (o : Option Stored). ImagesAgree shape.geometry b.now.committed o devices.metadata s') (sym later) (subst (λ (v : Stored). ImagesAgree shape.geometry v None devices.metadata s') (sym same) begun_there.0)) (λ state e. let is = some_is b.kept.1.0 state (sym b.kept.1.1 ∙ e) in (
            begun_there.1 ∙ f.phase.desk.mapping ∙ sym (shown_places clean x.seen (hint_of t.desk.policy) t.desk.tree.entries) ∙ ap (λ es. Rattle.wb_simulation.specs.Opened.located es) (sym b.kept.1.2) ∙ ap locations is,
            subst (StateTakesClean state) (sym g.turned.4) (begun_takes clean x.seen hint_of t.desk c.image tree t.words s state begun f.phase.agrees.words_agree all
                (ap (λ (v : Stored). v.root.clean) (sym (some_is l.of.new state (sym (ap (λ (i : Images). i.running) l.under.are) ∙ e))) ∙ ap (λ (r : Root). r.clean) l.under.can.root_is ∙ ap (λ (i : Image). i.root.clean) l.under.image)
                (ap (λ (v : Stored). v.found.entries) (sym is) ∙ b.kept.1.2)),
          )))

      by_commit : (o : Option RunningCommit) → commit ≡ o → AtDesk shape.geometry images t.desk commit devices.metadata → To
      by_commit (Some d) e k = absurd (let k' = subst (λ (m : Option RunningCommit). AtDesk shape.geometry images t.desk m devices.metadata) e k in let busy = k'.stands.busy in let bad : false ≡ true = sym idle ∙ busy in cc)
      by_commit None e k =
          let k' = subst (λ (m : Option RunningCommit). AtDesk shape.geometry images t.desk m devices.metadata) e k in
          elim k'.stands [ inl q ↦ quiet q k' | inr b ↦ absurd (let bad : false ≡ true = sym idle ∙ b.busy in cc) ]

  -- what the desk says changes nothing there
  desk_says : (step : DeskStep) (got : Got) (y : Actor) → actor_then {P = P} {A = A} shape (Stands t) devices x (Desk step) got ≡ y → WorldFollows Quietly a f.site.world now y → Goes P A shape (then_is t commit devices (Desk step) got) n
  desk_says step got y is g =
      subst (λ (v : Actor). Goes P A shape (record { devices = devices; commit = commit; phase = Stands t; actors = slice_set actors a v }) n) (sym is)
      (stays_on P A shape images t commit devices actors n known f a x ex Quietly t.words devices y n g (unnoted P A shape images t commit devices actors n known f a x ex notes_followed.quiet g f.notes_agree) refl refl refl)

  -- a suspend begins none
  pub begin_refused : (refusal : Refusal) (allowed : ℕ) → Desk (BeginCommit allowed) ≡ want plan → clean ≡ true → IsBeginRefused t.desk refusal → Goes P A shape (then_is t commit devices (Desk (BeginCommit allowed)) (GotRefused refusal)) n
  begin_refused refusal allowed next suspends r = desk_says (BeginCommit allowed) (GotRefused refusal) _ (goes_still (Desk (BeginCommit allowed)) (GotRefused refusal) tt)
      (as_it_is true suspends (λ job. WorldFollows Quietly a f.site.world now (after_step job plan (GotRefused refusal) x)) (commit_steps_followed.is_refused now allowed refusal a x plan f.site.world (no_begin refusal r) (wants_as true suspends next)))

  -- a flush leads none: the desk refuses it, or one was broken
  pub lead_refused : (step : DeskStep) (refusal : Refusal) (asks : AsksToLead step) → Desk step ≡ want plan → clean ≡ false → IsLeadRefused t.desk refusal → IsLeftOut now.commits (ticket_in (Desk step) x.share) → Goes P A shape (then_is t commit devices (Desk step) (GotRefused refusal)) n
  lead_refused step refusal asks next flushes r out = by r
    where
      To : Refusal → Type 0
      To v = Goes P A shape (then_is t commit devices (Desk step) (GotRefused v)) n

      answered : (v : Refusal) → WorldFollows Quietly a f.site.world now (record (after_step Flush plan (GotRefused v) x) { share = share_then t.desk x.share step (GotRefused v) }) → To v
      answered v g = desk_says step (GotRefused v) _ (asked_then step (GotRefused v) asks flushes) (as_it_is false flushes (λ job. WorldFollows Quietly a f.site.world now (record (after_step job plan (GotRefused v) x) { share = share_then t.desk x.share step (GotRefused v) })) g)

      by : ((refusal ≡ Failed) × (t.desk.broken ≡ true)) ⊎ ((t.desk.broken ≡ false) × (t.desk.space.committing ≡ false) × IsBeginRefused t.desk refusal) → To refusal
      by (inl broken) = subst To (sym broken.0) (answered Failed (commit_steps_followed.is_broken now step (share_then t.desk x.share step (GotRefused Failed)) a x plan f.site.world asks (wants_as false flushes next) broken.1 out))
      by (inr idle) = answered refusal (commit_steps_followed.is_not_led now refusal step (share_then t.desk x.share step (GotRefused refusal)) a x plan f.site.world asks (no_begin refusal idle.2) (wants_as false flushes next) out)

  -- it is served by a commit of another, or gets a ticket
  pub is_served : (step : DeskStep) (asks : AsksToLead step) → Desk step ≡ want plan → clean ≡ false → TakesIn now.commits (ticket_in (Desk step) x.share) → Goes P A shape (then_is t commit devices (Desk step) Served) n
  is_served step asks next flushes taken = desk_says step Served _ (asked_then step Served asks flushes)
      (as_it_is false flushes (λ job. WorldFollows Quietly a f.site.world now (record (after_step job plan Served x) { share = share_then t.desk x.share step Served }))
      (commit_steps_followed.is_served now step (share_then t.desk x.share step Served) a x plan f.site.world asks (wants_as false flushes next) taken))

  pub gets_ticket : (allowed : ℕ) → Desk (Arrive allowed) ≡ want plan → clean ≡ false → t.desk.broken ≡ false → t.desk.space.committing ≡ true → Goes P A shape (then_is t commit devices (Desk (Arrive allowed)) Ticket) n
  gets_ticket allowed next flushes whole busy = desk_says (Arrive allowed) Ticket _ (asked_then (Arrive allowed) Ticket tt flushes)
      (as_it_is false flushes (λ job. WorldFollows Quietly a f.site.world now (record (after_step job plan Ticket x) { share = Waiting (t.desk.ended + 2) }))
      (commit_steps_followed.gets_ticket now allowed a x plan f.site.world (wants_as false flushes next) busy whole))

  -- commits are broken, of which nothing comes on the devices
  pub breaks : Desk BreakCommit ≡ want plan → Goes P A shape (then_is (record { words = t.words; desk = commit_broken t.desk }) commit devices (Desk BreakCommit) Done) n
  breaks next =
      let g = commit_steps_followed.breaks clean now a x plan f.site.world (wants next) in
      let s' = (abstract_after_all f.site.world g.records).shared in
      let t' : Target P = record { words = t.words; desk = commit_broken t.desk } in
      let y = after_step (flush_or_suspend clean) plan Done x in
      let known' = broken_over P shape.geometry images t.desk commit devices.metadata known in
      let readable = kept_readable shape.geometry images devices.metadata P A (Stands t) commit known in
      subst (λ (v : Actor). Goes P A shape (record { devices = devices; commit = commit; phase = Stands t'; actors = slice_set actors a v }) n) (sym (goes_still (Desk BreakCommit) Done tt))
      (leads_on P A shape images t commit devices actors n known f a x ex Stays Quietly t' commit devices y n images (live_orders t'.desk) g (unnoted P A shape images t commit devices actors n known f a x ex notes_followed.quiet g f.notes_agree) refl refl known' refl (desk_stays P t.desk s s' f.phase.desk (commit_broken t.desk) refl refl g.desk.0 g.desk.1)
      (images_followed.stay shape.geometry images.committed (later_of images) devices.metadata devices.metadata s s' f.phase.images_agree g.turned readable.read) (λ state e. let r = f.phase.running state e in (g.turned.1 ∙ r.0, subst (StateTakesClean state) (sym g.turned.4) r.1)))

  -- the commit ends
  ends : (c : RunningCommit) → commit ≡ Some c → Desk EndCommit ≡ want plan → is_committed c.steps ≡ true → Goes P A shape (then_is (record { words = t.words; desk = ended t.desk }) None devices (Desk EndCommit) Done) n
  ends c runs next done =
      let k = subst (λ (m : Option RunningCommit). AtDesk shape.geometry images t.desk m devices.metadata) runs known in
      let e = ends_over P shape.geometry images t.desk devices.metadata c k done in
      let g = commit_steps_followed.ends clean now a x plan f.site.world (wants next) in
      let s' = (abstract_after_all f.site.world g.records).shared in
      let y = after_step (flush_or_suspend clean) plan Done x in
      let after = commit_ended t.desk in
      let is : ended t.desk ≡ after = ap (λ (v : Bool). if v then after else t.desk) k.stands.busy in
      let t' : Target P = record { words = t.words; desk = after } in
      let known' = subst (λ (d : DeskState P). AtDesk shape.geometry e.now d None devices.metadata) is e.kept.0 in
      let readable = kept_readable shape.geometry e.now devices.metadata P A (Stands t') None known' in
      let one : e.now ≡ one_image e.kept.1.0 = e.kept.1.2 in
      let read = subst (λ (i : Images). MayBeReadAs shape.geometry i.committed (later_of i) devices.metadata) one readable.read in
      let agree = images_followed.end shape.geometry e.kept.1.0 devices.metadata s s' g.turned (f.phase.running e.kept.1.0 e.kept.1.1).0 (f.phase.running e.kept.1.0 e.kept.1.1).1 read in
      subst (λ (d : DeskState P). Goes P A shape (then_is (record { words = t.words; desk = d }) None devices (Desk EndCommit) Done) n) (sym is)
      (subst (λ (y : Actor). Goes P A shape (record { devices = devices; commit = None; phase = Stands t'; actors = slice_set actors a y }) n) (sym (goes_still (Desk EndCommit) Done tt))
      (leads_on P A shape images t commit devices actors n known f a x ex Ends Quietly t' None devices y n e.now (live_orders t'.desk) g (unnoted P A shape images t commit devices actors n known f a x ex notes_followed.quiet g f.notes_agree) refl refl known' refl (desk_ends P t.desk s s' f.phase.desk g.desk.0 g.desk.1) (subst (λ (i : Images). ImagesAgree shape.geometry i.committed (later_of i) devices.metadata s') (sym one) agree) (λ state r. absurd (let bad : None ≡ Some state = sym (ap (λ (i : Images). i.running) one) ∙ r in cc))))

  -- ---- the shared words, and the answer

  pub told_so : (step : CellStep) (y : Actor) → actor_then {P = P} {A = A} shape (Stands t) devices x (Cell step) (got_of (result_of t.words step)) ≡ y → WorldFollows Quietly a f.site.world (record now { words = words_after t.words step }) y →
      Goes P A shape (then_is (record { words = words_after t.words step; desk = t.desk }) commit devices (Cell step) (got_of (result_of t.words step))) n
  told_so step y is g =
      subst (λ (y : Actor). Goes P A shape (record { devices = devices; commit = commit; phase = Stands (record { words = words_after t.words step; desk = t.desk }); actors = slice_set actors a y }) n) (sym is)
      (stays_on P A shape images t commit devices actors n known f a x ex Quietly (words_after t.words step) devices y n g
      (unnoted P A shape images t commit devices actors n known f a x ex notes_followed.quiet g f.notes_agree) refl refl refl)

  pub told_still : (step : CellStep) → IsStill (Cell step) → WorldFollows Quietly a f.site.world (record now { words = words_after t.words step }) (stepped_actor t.words (flush_or_suspend clean) plan step x) →
      Goes P A shape (then_is (record { words = words_after t.words step; desk = t.desk }) commit devices (Cell step) (got_of (result_of t.words step))) n
  told_still step k g = told_so step (stepped_actor t.words (flush_or_suspend clean) plan step x) (goes_still (Cell step) (got_of (result_of t.words step)) k) g

  pub looks_at_fail : Cell (Look Fail) ≡ want plan → Goes P A shape (then_is (record { words = words_after t.words (Look Fail); desk = t.desk }) commit devices (Cell (Look Fail)) (got_of (result_of t.words (Look Fail)))) n
  looks_at_fail next = told_still (Look Fail) tt (commit_steps_followed.looks clean now a x plan f.site.world (wants next))

  pub sets_failed : Cell SetFailed ≡ want plan → Goes P A shape (then_is (record { words = words_after t.words SetFailed; desk = t.desk }) commit devices (Cell SetFailed) (got_of (result_of t.words SetFailed))) n
  sets_failed next = told_still SetFailed tt (commit_steps_followed.fails clean now _ _ a x plan f.site.world rule.logs.fail (wants next))

  pub answers : (answer : Answer) (shown contents : List Bytes) → End answer ≡ want plan → length doing.then_finished ≡ length n.floors → Goes P A shape (then_is t commit devices (End answer) Done) (noted_step shape t.desk.mode shown n a (Some (Some doing)) (End answer) Done contents)
  answers answer shown contents next asked = by_answer answer next
    where
      b : (y : Rattle.wb_link.specs.World.AbstractActor) × (slice_get f.site.world.actors a ≡ Some y)
      b = beside P A shape images t commit devices actors n known f a x ex

      orders_over : Answer → List Order
      orders_over v = orders_then x.orders x.awaiting (flush_or_suspend clean) (End v) Done

      awaiting_over : Answer → List Order
      awaiting_over v = awaiting_then x.orders x.awaiting (flush_or_suspend clean) (End v) Done

      over : Answer → Actor
      over v = record x { task = None; orders = orders_over v; awaiting = awaiting_over v }

      served : (o : Order) → Contains (held_of x) o → Contains ((x.awaiting ++ x.orders) ++ []) o
      served o h = Contains-append_left (x.awaiting ++ x.orders) [] o (elim (Contains-append_cases x.orders x.awaiting o h) [ inl i ↦ Contains-append_right x.awaiting x.orders o i | inr i ↦ Contains-append_left x.awaiting x.orders o i ])

      -- a flush that is done has served the orders that wait for it
      has_still : (clean : Bool) (v : Answer) (o : Order) → Contains (held_of x) o → Contains (orders_then x.orders x.awaiting (flush_or_suspend clean) (End v) Done ++ awaiting_then x.orders x.awaiting (flush_or_suspend clean) (End v) Done) o
      has_still false Finished o h = served o h
      has_still true (Refuses refusal) o h = h
      has_still clean v o h = h

      seen_still : (clean : Bool) (v : Answer) → seen_then x.seen (End v) Done (flush_or_suspend clean) ≡ x.seen
      seen_still true v = refl
      seen_still false v = refl

      given : (v : Answer) → End v ≡ want plan → WorldFollows (Answers (commit_there clean) v) a f.site.world now (over v)
      given v e = commit_steps_followed.answers clean now v a x plan (orders_over v) (awaiting_over v) f.site.world (wants e) (has_still clean v)

      finish : (v : Answer) (n' : Notes) (g : WorldFollows (Answers (commit_there clean) v) a f.site.world now (over v)) → NotesAgree (size P A shape) n' (abstract_after_all f.site.world g.records) (told f.notes g.records) → length n'.doings ≡ length n.doings → length n'.histories ≡ length n.histories → Goes P A shape (then_is t commit devices (End v) Done) n'
      finish v n' g notes d h =
          subst (λ (y : Actor). Goes P A shape (record { devices = devices; commit = commit; phase = Stands t; actors = slice_set actors a y }) n')
          (sym (actor_is P A shape (Stands t) devices x (flush_or_suspend clean) plan (End v) Done xt ∙ (λ i. record { task = None; card = x.card; orders = orders_over v; awaiting = awaiting_over v; buffer = x.buffer; seen = seen_still clean v i; share = x.share })))
          (stays_on P A shape images t commit devices actors n known f a x ex (Answers (commit_there clean) v) t.words devices (over v) n' g notes d h refl)

      by_answer : (v : Answer) → End v ≡ want plan → Goes P A shape (then_is t commit devices (End v) Done) (noted_step shape t.desk.mode shown n a (Some (Some doing)) (End v) Done contents)
      by_answer (Refuses refusal) e =
          let g = given (Refuses refusal) e in
          finish (Refuses refusal) (put n a None) g (notes_followed.refused (commit_there clean) refusal Stays a f.site.world _ _ g b.0 n f.notes b.1 noted_less f.notes_agree)
          (length-set n.doings a None) refl
      by_answer Finished e =
          let g = given Finished e in
          subst (λ (m : Notes). Goes P A shape (then_is t commit devices (End Finished) Done) m) (sym (ap (λ (q : Job). finished_note n a doing q shown) job_is ∙ finished_durable n a doing clean shown))
          (finish Finished (made_durable n a doing) g
          (notes_followed.commit_answered clean Stays a f.site.world _ _ g b.0 n f.notes b.1 noted_less f.notes_agree doing noted asked)
          (length-set n.doings a None) refl)

  -- ---- a step of the commit on the metadata, and its end

  module _ (suits : Suits shape.geometry.origin_blocks plan x.card) where
    abbrev pub w : State P A
    w = standing P A shape images t commit devices actors n

    abbrev pub Done_by : Want → Got → List Bytes → Chosen P A → Type 0
    Done_by next got read chosen = Goes P A shape (stepped shape w a x next got chosen (λ step. device_done (flush_or_suspend clean) x.buffer step chosen))
        (noted_step shape t.desk.mode (shown shape (stepped shape w a x next got chosen (λ step. device_done (flush_or_suspend clean) x.buffer step chosen))) n a (Some (Some doing)) next got read)

    abbrev pub Failed_by : Choice → Want → List Bytes → Chosen P A → Type 0
    Failed_by choice next read chosen = Goes P A shape (stepped shape w a x next Fault chosen (λ step. device_failed (lands (device_of step) choice) (flush_or_suspend clean) x.buffer step chosen))
        (noted_step shape t.desk.mode (shown shape (stepped shape w a x next Fault chosen (λ step. device_failed (lands (device_of step) choice) (flush_or_suspend clean) x.buffer step chosen))) n a (Some (Some doing)) next Fault read)

    pub mine : (next : Want) → next ≡ want plan → IsOwnStep (commit_task clean its_task.0 (most P A shape clean)) next
    mine next e = own_next shape.geometry.origin_blocks plan x.card suits _ next its_task.1 e

    -- a step of the commit, done or failing
    module _ (step : DeviceStep) (of_metadata : device_of step ≡ Metadata) (next : Device step ≡ want plan) (read : List Bytes) where
      abbrev Put_to : Got → List History → Type 0
      Put_to got new = Goes P A shape (then_is t (led commit got) (record devices { metadata = new }) (Device step) got) (noted_step shape t.desk.mode [] n a (Some (Some doing)) (Device step) got read)

      pub by_put : IsStill (Device step) → (chosen : Chosen P A) (o : Option RunningCommit) → commit ≡ o → DoesPut o step devices.metadata chosen → (new : List History) × (chosen ≡ Puts new) × Put_to Done new
      by_put plain (Puts new) (Some c) runs d = (new, refl, put_done step of_metadata next read c runs (and_true _ _ d.0).0 new plain d.1)
      by_put plain chosen o runs d = absurd d

      pub by_put_fault : IsPut step → IsStill (Device step) → (choice : Choice) (chosen : Chosen P A) (o : Option RunningCommit) → commit ≡ o → FailsPut o choice step devices.metadata chosen → (new : List History) × (chosen ≡ Puts new) × Put_to Fault new
      by_put_fault put plain choice (Puts new) (Some c) runs d =
          (new, refl, put_failed step of_metadata next read c runs (and_true _ _ d.0).0 new plain (put_fails c.image c.steps step devices.metadata new put d.0 (landed_or (lands Metadata choice (sector_put (coming_step c.image c.steps))) d.1)))
      by_put_fault put plain choice chosen o runs d = absurd d

    pub by_sync : (read : List Bytes) (chosen : Chosen P A) (o : Option RunningCommit) → commit ≡ o → DoesSync {P = P} {A = A} (Stands t) o devices.metadata chosen → Device (Sync Metadata) ≡ want plan → Done_by (Device (Sync Metadata)) Done read chosen
    by_sync read chosen (Some c) runs d e = subst (λ (ch : Chosen P A). Done_by (Device (Sync Metadata)) Done read ch) (sym d.1)
        (put_done (Sync Metadata) refl e read c runs (and_true _ _ d.0).0 (synced devices.metadata) tt (sync_does c.image c.steps devices.metadata d.0))
    by_sync read chosen None runs d e = absurd d

    pub by_sync_fault : (choice : Choice) (read : List Bytes) (o : Option RunningCommit) → commit ≡ o → FailsSync {P = P} {A = A} (Stands t) o devices.metadata → Device (Sync Metadata) ≡ want plan → Failed_by choice (Device (Sync Metadata)) read Plain
    by_sync_fault choice read (Some c) runs d e = put_failed (Sync Metadata) refl e read c runs (and_true _ _ d.0).0 (synced_where (lands Metadata choice) devices.metadata) tt (commit_sync_fails c.image c.steps (lands Metadata choice) devices.metadata d.0)
    by_sync_fault choice read None runs d e = absurd d

    pub by_end : (read : List Bytes) (o : Option RunningCommit) → commit ≡ o → is_all_done o ≡ true → Desk EndCommit ≡ want plan → (chosen : Chosen P A) → Done_by (Desk EndCommit) Done read chosen
    by_end read (Some c) runs d e chosen = ends c runs e d
    by_end read None runs d e chosen = absurd (cc)
