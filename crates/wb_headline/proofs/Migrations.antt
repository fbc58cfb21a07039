-- Whatever comes of a promotion, a demotion or a write-back is followed: on the words, on a device, at the desk, and its answer.
use Rattle.std.proofs.Common.{◌≡◌, ◌∙◌, ◌<◌, ◌≤◌, ◌+◌, ℕ, Bool, List, [], Option, Some, None, refl, sym, subst, length, slice_get, slice_set, ◌≢◌, if◌then◌else◌, false, inl, inr, true, ◌++◌, ap, arith, Contains}
use Rattle.std.proofs.lemmas.List.{length-set}
use Rattle.wb_types.specs.declared.extent.Extent.{Extent}
use Rattle.wb_types.specs.declared.mode.Dev.{Dev}
use Rattle.wb_types.specs.declared.number.OBlock.{OBlock}
use Rattle.wb_types.specs.declared.number.CBlock.{CBlock}
use Rattle.wb_types.specs.declared.refusal.Refusal.{Refusal}
use Rattle.wb_disk.specs.Device.{Content as Bytes, History}
use Rattle.wb_disk.specs.Extents.{written_each, written_where}
use Rattle.wb_words.specs.Rule.{LockRule}
use Rattle.wb_words.specs.SharedWords.{word_at, place_in}
use Rattle.wb_words.specs.Effects.{result_of, words_after}
use Rattle.wb_words.specs.declared.step.CellStep.{CellStep}
use Rattle.wb_policy.specs.declared.order.Order.{Order}
use Rattle.wb_tasks.specs.Plan.{Plan, want, after, got_of}
use Rattle.wb_tasks.specs.Ready.{Suits, HoldsBlocks, IsOwnStep}
use Rattle.wb_tasks.specs.declared.step.Answer.{Answer}
use Rattle.wb_tasks.specs.declared.step.Answer.TheVariants.{Done as Finished, Refused as Refuses}
use Rattle.wb_tasks.specs.declared.step.DeviceStep.{DeviceStep}
use Rattle.wb_tasks.specs.declared.step.DeviceStep.TheVariants.{Read as ReadExtent, Write as WriteExtent}
use Rattle.wb_tasks.specs.declared.step.DeskStep.TheVariants.{Map, Unmap, ReleaseOrder}
use Rattle.wb_tasks.specs.declared.step.Migration.{Migration}
use Rattle.wb_tasks.specs.declared.step.Want.TheVariants.{Cell, Device, Desk, End}
use Rattle.wb_tasks.specs.declared.step.Got.{Got}
use Rattle.wb_tasks.specs.declared.step.Got.TheVariants.{Done, Fault, Refused as GotRefused}
use Rattle.wb_devices.specs.declared.devices.Devices.{Devices}
use Rattle.wb_devices.specs.declared.running.RunningCommit.{RunningCommit}
use Rattle.wb_devices.specs.Moving.{device_in}
use Rattle.wb_promise.specs.declared.job.Job.{Job}
use Rattle.wb_promise.specs.declared.job.Job.TheVariants.{Migrate}
use Rattle.wb_promise.specs.States.{Shape, Actor, Target, Stands, with_device, State}
use Rattle.wb_promise.specs.Effects.{actor_then, awaiting_then, contents_at, orders_then, dropped, replacing}
use Rattle.wb_runs.specs.Holding.{cards_of}
use Rattle.wb_promise.specs.Clerk.{Notes, Doing, noted_step, device_note, finished_note, failing, put}
use Rattle.wb_runs.proofs.Images.{Images, later_of}
use Rattle.wb_runs.proofs.Metadata.{MetadataKept, AtDesk, unknowing, kept_readable}
use Rattle.wb_link.specs.World.{abstract_after_all, Shared, removed}
use Rattle.wb_simulation.specs.Sites.{StateTakesClean}
use Rattle.wb_simulation.specs.Noted.{told}
use Rattle.wb_simulation.specs.Telling.{Carries, Rests}
use Rattle.wb_simulation.specs.Worlds.{Situation, Turn, Stays, WorldFollowsBy, WorldFollows, Maps, Unmaps, GivesUp, TurnedTo}
use Rattle.wb_simulation.specs.Laws.{WantsNext, stepped_actor, after_step}
use Rattle.wb_simulation.specs.Migrating.{SeesWhere, EndsOrder}
use Rattle.wb_simulation.proofs.Noted.{notes_followed}
use Rattle.wb_simulation.proofs.Migrations.{migrations_followed}
use Rattle.std.proofs.lemmas.List.Elements.{Contains-append_left}
use Rattle.std.proofs.lemmas.Option.{slice_get_within}
use Rattle.wb_types.specs.declared.mode.Dev.TheVariants.{Metadata, Cache, Origin}
use Rattle.wb_disk.specs.Crash.{Choice}
use Rattle.wb_disk.specs.Failing.{lands}
use Rattle.wb_contents.specs.Volume.{changed, Locations}
use Rattle.wb_words.specs.declared.word.Access.TheVariants.{Owned as Own}
use Rattle.wb_words.specs.declared.word.Word.TheVariants.{Seal as SealWord, Number}
use Rattle.wb_words.specs.declared.card.Hold.TheVariants.{Held}
use Rattle.wb_words.specs.declared.step.CellStep.TheVariants.{Look, Seal}
use Rattle.wb_policy.specs.declared.order.Order.TheVariants.{Replace as ReplaceOrder, Demote as DemoteOrder}
use Rattle.wb_space.specs.declared.block.Block.TheVariants.{Mapped, Reserved, Quarantined}
use Rattle.wb_tree.specs.Mapping.{Mapping}
use Rattle.wb_tree.specs.Edits.{IsChangedAt}
use Rattle.wb_orders.specs.Orders.{AreOrders, Orders, without_order}
use Rattle.wb_desk.specs.Desks.{DeskState, DeskInvariant, holdings}
use Rattle.wb_desk.specs.Calls.{released}
use Rattle.wb_desk.specs.Entries.{MayMap, mapped, unmapped, entry_of, Removes, is_replacement}
use Rattle.wb_desk.proofs.Entering.{entrance}
use Rattle.wb_desk.proofs.Leaving.{mapped_state}
use Rattle.wb_stage.specs.Asking.{DidRelease, DidUnmap, IsGivenUp, is_of, order_of as order_found}
use Rattle.wb_tasks.specs.Tables.{BlockRange, Migrating, OnBlock}
use Rattle.wb_tasks.specs.declared.step.Migration.TheVariants.{Demote}
use Rattle.wb_tasks.specs.declared.step.Want.{Want}
use Rattle.wb_refines.specs.Translation.{number_of}
use Rattle.wb_promise.specs.Happenings.{Chosen, Plain, Asks, Gives, Falters, MayFailAt}
use Rattle.wb_promise.specs.Headline.{place_of}
use Rattle.wb_runs.specs.Inside.{StepInside}
use Rattle.wb_runs.proofs.Desks.{mapped_stands, unmapped_stands, released_for}
use Rattle.wb_runs.proofs.InsideRuns.{PlanInside, want_inside}
use Rattle.wb_simulation.proofs.Followed.{IsWithin}
use Rattle.wb_simulation.proofs.Moving.{same_device}
use Rattle.wb_simulation.proofs.Opening.{images_followed}
use Rattle.wb_policy.specs.Law.{IsMappedAt}
use Rattle.wb_runs.proofs.Owning.{Owned}
use Rattle.wb_simulation.specs.Carried.{IsOrderFor}
use Rattle.wb_runs.proofs.Located.{stands_alone, unmapped_there}
use Rattle.wb_headline.specs.Desks.{live_orders, orders_living, DeskAgrees, block_there}
use Rattle.wb_headline.proofs.Following.{situation, commits_of, size, Followed, Goes}
use Rattle.wb_headline.proofs.Targets.{standing, actor_is, beside, failing_same, noted_within, stays_on, leads_on, unnoted}
use Rattle.wb_headline.proofs.Orders.{keeps_so, leaves_from, left, none_waits, of_order, past, stands_so, at_there, live_at, for_block, only_held, only_of}
use Rattle.wb_headline.proofs.Carried.{own, looks_seal, looks_number}
use Rattle.wb_headline.proofs.Desking.{desk_maps, desk_releases, desk_unmaps}
use Rattle.wb_headline.proofs.Seeing.{named, orders_set, seal_tells_order, slot_within}
use Rattle.wb_headline.proofs.Whole.{Whole, Stepped_to, Faulted_to, at_target, held_tells}
use Rattle.wb_runs.proofs.Plans.{task_suits}
use Rattle.wb_runs.proofs.Stepping.{data_device}

-- a migration that is answered leaves its actor the orders that it has
answered_still : (orders awaiting : List Order) (migration : Migration) (block : OBlock) (answer : Answer) → (orders_then orders awaiting (Migrate migration block) (End answer) Done ≡ orders) × (awaiting_then orders awaiting (Migrate migration block) (End answer) Done ≡ awaiting)
answered_still orders awaiting migration block Finished = (refl, refl)
answered_still orders awaiting migration block (Refuses refusal) = (refl, refl)

module _ (P A : Type 0) (shape : Shape) (images : Images) (t : Target P) (commit : Option RunningCommit) (devices : Devices (List History)) (actors : List Actor) (n : Notes) (known : MetadataKept {P = P} {A = A} shape.geometry images (Stands t) commit devices.metadata)
    (f : Followed P A shape images (standing P A shape images t commit devices actors n) n) (a : ℕ) (x : Actor) (ex : slice_get actors a ≡ Some x) where
  -- where the machine stands
  abbrev now : Situation
  now = situation shape t devices actors

  noted_less : a < length n.doings
  noted_less = noted_within P A shape images t commit devices actors n known f a x ex

  module _ (migration : Migration) (block : OBlock) (plan : Plan) (xt : x.task ≡ Some (Migrate migration block, plan)) (suits : Suits shape.geometry.origin_blocks plan x.card) (doing : Doing) (noted : slice_get n.doings a ≡ Some (Some doing)) (job_is : doing.job ≡ Migrate migration block) where
    abbrev migrating_job : Job
    migrating_job = Migrate migration block

    -- so its actor there is to do this next
    wants : {next : Want} → next ≡ want plan → WantsNext now a x f.site.world (Migrate migration block) plan next
    wants {next} e = record { here = ex; task = xt; asks = sym e; agrees = f.phase.agrees }

    -- on the shared words
    pub cells : LockRule shape.geometry.origin_blocks t.words (cards_of actors) → (step : CellStep) → Cell step ≡ want plan → SeesWhere t.words (live_orders t.desk) f.site.world.shared.mapping migration block step →
        Goes P A shape (record { devices = devices; commit = commit; phase = Stands (record { words = words_after t.words step; desk = t.desk }); actors = slice_set actors a (actor_then {P = P} {A = A} shape (Stands t) devices x (Cell step) (got_of (result_of t.words step))) }) n
    cells rule step next sees =
        let y = stepped_actor t.words migrating_job plan step x in
        let g = migrations_followed.cells now shape.geometry.origin_blocks a x migration block plan step f.site.world rule (wants next) suits sees in
        subst (λ (y : Actor). Goes P A shape (record { devices = devices; commit = commit; phase = Stands (record { words = words_after t.words step; desk = t.desk }); actors = slice_set actors a y }) n) (sym (actor_is P A shape (Stands t) devices x migrating_job plan (Cell step) (got_of (result_of t.words step)) xt))
        (stays_on P A shape images t commit devices actors n known f a x ex Carries (words_after t.words step) devices y n g
        (unnoted P A shape images t commit devices actors n known f a x ex notes_followed.carries g f.notes_agree) refl refl refl)

    -- on a device
    module _ (step : DeviceStep) (got : Got) (contents : List Bytes) (devices' : Devices (List History)) (y : Actor) (is : actor_then {P = P} {A = A} shape (Stands t) devices x (Device step) got ≡ y)
        (g : WorldFollows Carries a f.site.world (situation shape t devices' actors) y) where
      on_device : devices'.metadata ≡ devices.metadata → Goes P A shape (record { devices = devices'; commit = commit; phase = Stands t; actors = slice_set actors a (actor_then {P = P} {A = A} shape (Stands t) devices x (Device step) got) }) (noted_step shape t.desk.mode [] n a (Some (Some doing)) (Device step) got contents)
      on_device same =
          let mid = failing doing step got in
          let e = failing_same doing step got in
          let notes = notes_followed.redone (size P A shape) n (abstract_after_all f.site.world g.records) (told f.notes g.records) a doing mid (unnoted P A shape images t commit devices actors n known f a x ex notes_followed.carries g f.notes_agree) noted e.0 e.1 in
          subst (λ (q : Job). Goes P A shape (record { devices = devices'; commit = commit; phase = Stands t; actors = slice_set actors a (actor_then {P = P} {A = A} shape (Stands t) devices x (Device step) got) }) (device_note shape t.desk.mode (put n a (Some mid)) a mid q step got contents)) (sym job_is)
          (subst (λ (v : Actor). Goes P A shape (record { devices = devices'; commit = commit; phase = Stands t; actors = slice_set actors a v }) (put n a (Some mid))) (sym is)
          (stays_on P A shape images t commit devices actors n known f a x ex Carries t.words devices' y (put n a (Some mid)) g notes (length-set n.doings a (Some mid)) refl same))

    pub read_done : (device : Dev) (e : Extent) (contents : List Bytes) → Device (ReadExtent device e) ≡ want plan → e.first + e.count ≤ length (device_in device devices) →
        Goes P A shape (record { devices = devices; commit = commit; phase = Stands t; actors = slice_set actors a (actor_then {P = P} {A = A} shape (Stands t) devices x (Device (ReadExtent device e)) Done) }) (noted_step shape t.desk.mode [] n a (Some (Some doing)) (Device (ReadExtent device e)) Done contents)
    read_done device e contents next inside =
        let y : Actor = record x { task = Some (migrating_job, after plan Done); buffer = contents_at (device_in device devices) e } in
        on_device (ReadExtent device e) Done contents devices y (actor_is P A shape (Stands t) devices x migrating_job plan (Device (ReadExtent device e)) Done xt)
        (migrations_followed.read_done now shape.geometry.origin_blocks a x migration block plan device e f.site.world (wants next) suits inside) refl

    pub read_fails : (device : Dev) (e : Extent) (contents : List Bytes) → Device (ReadExtent device e) ≡ want plan →
        Goes P A shape (record { devices = devices; commit = commit; phase = Stands t; actors = slice_set actors a (actor_then {P = P} {A = A} shape (Stands t) devices x (Device (ReadExtent device e)) Fault) }) (noted_step shape t.desk.mode [] n a (Some (Some doing)) (Device (ReadExtent device e)) Fault contents)
    read_fails device e contents next =
        on_device (ReadExtent device e) Fault contents devices (after_step migrating_job plan Fault x) (actor_is P A shape (Stands t) devices x migrating_job plan (Device (ReadExtent device e)) Fault xt)
        (migrations_followed.read_fails now shape.geometry.origin_blocks a x migration block plan device e f.site.world (wants next) suits) refl

    pub write_done : (device : Dev) (e : Extent) (contents : List Bytes) → HoldsBlocks device → Device (WriteExtent device e) ≡ want plan → e.first + e.count ≤ length (device_in device devices) →
        Goes P A shape (record { devices = with_device device devices (written_each (device_in device devices) e.first x.buffer); commit = commit; phase = Stands t; actors = slice_set actors a (actor_then {P = P} {A = A} shape (Stands t) devices x (Device (WriteExtent device e)) Done) }) (noted_step shape t.desk.mode [] n a (Some (Some doing)) (Device (WriteExtent device e)) Done contents)
    write_done device e contents holds next inside =
        on_device (WriteExtent device e) Done contents (with_device device devices (written_each (device_in device devices) e.first x.buffer)) (after_step migrating_job plan Done x) (actor_is P A shape (Stands t) devices x migrating_job plan (Device (WriteExtent device e)) Done xt)
        (migrations_followed.write_done now shape.geometry.origin_blocks a x migration block plan device e f.site.world (wants next) suits inside)
        (data_device device holds devices (written_each (device_in device devices) e.first x.buffer))

    pub write_fails : (device : Dev) (e : Extent) (contents : List Bytes) (lands : ℕ → Bool) → HoldsBlocks device → Device (WriteExtent device e) ≡ want plan → e.first + e.count ≤ length (device_in device devices) →
        Goes P A shape (record { devices = with_device device devices (written_where lands (device_in device devices) e.first x.buffer); commit = commit; phase = Stands t; actors = slice_set actors a (actor_then {P = P} {A = A} shape (Stands t) devices x (Device (WriteExtent device e)) Fault) }) (noted_step shape t.desk.mode [] n a (Some (Some doing)) (Device (WriteExtent device e)) Fault contents)
    write_fails device e contents lands holds next inside =
        on_device (WriteExtent device e) Fault contents (with_device device devices (written_where lands (device_in device devices) e.first x.buffer)) (after_step migrating_job plan Fault x) (actor_is P A shape (Stands t) devices x migrating_job plan (Device (WriteExtent device e)) Fault xt)
        (migrations_followed.write_fails now shape.geometry.origin_blocks a x migration block plan device e lands f.site.world (wants next) suits inside)
        (data_device device holds devices (written_where lands (device_in device devices) e.first x.buffer))

    -- the desk has no memory for its entry
    pub map_refused : (b : OBlock) (c : CBlock) (refusal : Refusal) → Desk (Map b c) ≡ want plan →
        Goes P A shape (record { devices = devices; commit = commit; phase = Stands t; actors = slice_set actors a (actor_then {P = P} {A = A} shape (Stands t) devices x (Desk (Map b c)) (GotRefused refusal)) }) n
    map_refused b c refusal next =
        let y = after_step migrating_job plan (GotRefused refusal) x in
        let g = migrations_followed.is_refused now shape.geometry.origin_blocks a x migration block b c plan refusal f.site.world (wants next) suits in
        subst (λ (y : Actor). Goes P A shape (record { devices = devices; commit = commit; phase = Stands t; actors = slice_set actors a y }) n) (sym (actor_is P A shape (Stands t) devices x migrating_job plan (Desk (Map b c)) (GotRefused refusal) xt))
        (stays_on P A shape images t commit devices actors n known f a x ex Carries t.words devices y n g
        (unnoted P A shape images t commit devices actors n known f a x ex notes_followed.carries g f.notes_agree) refl refl refl)

    -- it is answered
    pub answers : (answer : Answer) (shown contents : List Bytes) → End answer ≡ want plan →
        Goes P A shape (record { devices = devices; commit = commit; phase = Stands t; actors = slice_set actors a (actor_then {P = P} {A = A} shape (Stands t) devices x (End answer) Done) }) (noted_step shape t.desk.mode shown n a (Some (Some doing)) (End answer) Done contents)
    answers answer shown contents next = by_answer answer next
      where
        y : Actor
        y = record x { task = None }

        rested : (v : Answer) → End v ≡ want plan → Goes P A shape (record { devices = devices; commit = commit; phase = Stands t; actors = slice_set actors a (actor_then {P = P} {A = A} shape (Stands t) devices x (End v) Done) }) (put n a None)
        rested v e =
            let g = migrations_followed.answers now shape.geometry.origin_blocks a x migration block plan v f.site.world (wants e) suits in
            let b = beside P A shape images t commit devices actors n known f a x ex in
            subst (λ (v' : Actor). Goes P A shape (record { devices = devices; commit = commit; phase = Stands t; actors = slice_set actors a v' }) (put n a None)) (sym (actor_is P A shape (Stands t) devices x migrating_job plan (End v) Done xt ∙ (λ i. record { task = None; card = x.card; orders = (answered_still x.orders x.awaiting migration block v).0 i; awaiting = (answered_still x.orders x.awaiting migration block v).1 i; buffer = x.buffer; seen = x.seen; share = x.share })))
            (stays_on P A shape images t commit devices actors n known f a x ex Rests t.words devices (record x { task = None }) (put n a None) g
            (notes_followed.rests Stays a f.site.world _ _ g b.0 n f.notes b.1 noted_less f.notes_agree) (length-set n.doings a None) refl refl)

        by_answer : (v : Answer) → End v ≡ want plan → Goes P A shape (record { devices = devices; commit = commit; phase = Stands t; actors = slice_set actors a (actor_then {P = P} {A = A} shape (Stands t) devices x (End v) Done) }) (noted_step shape t.desk.mode shown n a (Some (Some doing)) (End v) Done contents)
        by_answer (Refuses refusal) e = rested (Refuses refusal) e
        by_answer Finished e = subst (λ (q : Job). Goes P A shape (record { devices = devices; commit = commit; phase = Stands t; actors = slice_set actors a (actor_then {P = P} {A = A} shape (Stands t) devices x (End Finished) Done) }) (finished_note n a doing q shown)) (sym job_is) (rested Finished e)

module _ (P A : Type 0) (shape : Shape) (t : Target P) (commit : Option RunningCommit) (devices : Devices (List History)) (actors : List Actor) (n : Notes) (b : Whole P A shape (at_target P A shape t commit devices actors) n) (a : ℕ) (x : Actor) (migration : Migration) (block : OBlock) (plan : Plan) (doing : Doing) (ex : slice_get actors a ≡ Some x) (xt : x.task ≡ Some (Migrate migration block, plan))
    (noted : slice_get n.doings a ≡ Some (Some doing)) (job_is : doing.job ≡ Migrate migration block) where
  place_told : x.card.hold ≡ Held Own block → ((place : Option CBlock) (dirty : Bool) → want plan ≢ Cell (Seal block place dirty)) → number_of (place_in (word_at t.words.seals block)) ≡ place_of t.desk.tree.entries block.0
  place_told = held_tells P A shape t commit devices actors n b a x (Migrate migration block) plan ex xt block

  suits : Suits shape.geometry.origin_blocks plan x.card
  suits = task_suits shape.geometry.origin_blocks x xt (b.used.suited a x ex)

  abbrev job : Job
  job = Migrate migration block

  abbrev w : State P A
  w = at_target P A shape t commit devices actors

  abbrev slots : List (Option Order)
  slots = live_orders t.desk

  -- where the machine stands
  abbrev now_at_desk : Situation
  now_at_desk = situation shape t devices actors

  -- so its actor there is to do this next
  wants_at_desk : {next : Want} → next ≡ want plan → WantsNext now_at_desk a x b.goes.followed.site.world (Migrate migration block) plan next
  wants_at_desk {next} e = record { here = ex; task = xt; asks = sym e; agrees = b.goes.followed.phase.agrees }

  kept : DeskInvariant unknowing t.desk
  kept = b.goes.known.is.kept

  -- a step on a device or at the desk is a migration's own
  own_step : (next : Want) → next ≡ want plan → IsWithin next → (m : Migration) × (part : BlockRange) × IsOwnStep (OnBlock (Migrating m part)) next
  own_step next e within = own now_at_desk shape.geometry.origin_blocks b.goes.followed.site.world b.goes.followed.phase.agrees a x migration block plan ex xt suits next e within

  -- where it looks at a seal or a number, the seal tells where its order has the block
  sees : (step : CellStep) → Cell step ≡ want plan → SeesWhere t.words slots b.goes.followed.site.world.shared.mapping migration block step
  sees (Look (SealWord o)) e = seal_tells_order P t.desk kept slots (named P t.desk kept) t.words b.goes.followed.site.world.shared.mapping migration block (place_told (looks_seal now_at_desk shape.geometry.origin_blocks b.goes.followed.site.world b.goes.followed.phase.agrees a x migration block plan ex xt suits o e) (λ place dirty q. absurd (let bad : Cell (Look (SealWord o)) ≡ Cell (Seal block place dirty) = e ∙ q in cc))) b.goes.followed.phase.desk.mapping
  sees (Look (Number o)) e = seal_tells_order P t.desk kept slots (named P t.desk kept) t.words b.goes.followed.site.world.shared.mapping migration block (place_told (looks_number now_at_desk shape.geometry.origin_blocks b.goes.followed.site.world b.goes.followed.phase.agrees a x migration block plan ex xt suits o e) (λ place dirty q. absurd (let bad : Cell (Look (Number o)) ≡ Cell (Seal block place dirty) = e ∙ q in cc))) b.goes.followed.phase.desk.mapping
  sees step e = tt

  inside : (next : Want) → next ≡ want plan → StepInside shape next
  inside next e = subst (λ (v : Want). StepInside shape v) (sym e) (want_inside shape plan (subst (λ (o : Option (Job × Plan)). PlanInside shape o) xt (b.inside.tasks a x ex)).1)

  abbrev To : Want → Got → List Bytes → Chosen P A → Type 0
  To next got read chosen = Stepped_to P A shape w n a x job next got read chosen doing

  -- ---- an order is over

  are : AreOrders t.desk.orders
  are = b.goes.known.is.orders

  owned : Owned t.desk actors
  owned = b.keeping.owned

  abbrev then_actor : OBlock → List Order → Actor
  then_actor bl awaiting = record x { task = Some (job, Rattle.wb_tasks.specs.Plan.after plan Done); orders = dropped bl x.orders; awaiting = awaiting }

  abbrev s : Shared
  s = b.goes.followed.site.world.shared

  -- the desk and its orders turn, and whatever is read of the metadata stays
  goes_to : (turn : Turn) (desk' : DeskState P) (y : Actor) (next : Want) (orders' : List (Option Order)) → actor_then {P = P} {A = A} shape (Stands t) devices x next Done ≡ y →
      (g : WorldFollowsBy turn Carries a b.goes.followed.site.world (record now_at_desk { mode = desk'.mode; commits = commits_of desk'; orders = orders' }) y) → (TurnedTo turn s (abstract_after_all b.goes.followed.site.world g.records).shared → TurnedTo Stays s (abstract_after_all b.goes.followed.site.world g.records).shared) →
      AtDesk shape.geometry b.goes.images desk' commit devices.metadata → orders' ≡ live_orders desk' → DeskAgrees desk' (abstract_after_all b.goes.followed.site.world g.records).shared →
      Goes P A shape (record { devices = devices; commit = commit; phase = Stands (record { words = t.words; desk = desk' }); actors = slice_set actors a (actor_then {P = P} {A = A} shape (Stands t) devices x next Done) }) n
  goes_to turn desk' y next orders' is g stays known' same desk =
      let s' = (abstract_after_all b.goes.followed.site.world g.records).shared in
      let turned = stays g.turned in
      let readable = kept_readable shape.geometry b.goes.images devices.metadata P A (Stands t) commit b.goes.known in
      subst (λ (v : Actor). Goes P A shape (record { devices = devices; commit = commit; phase = Stands (record { words = t.words; desk = desk' }); actors = slice_set actors a v }) n) (sym is)
      (leads_on P A shape b.goes.images t commit devices actors n b.goes.known b.goes.followed a x ex turn Carries (record { words = t.words; desk = desk' }) commit devices y n b.goes.images orders' g
      (unnoted P A shape b.goes.images t commit devices actors n b.goes.known b.goes.followed a x ex notes_followed.carries g b.goes.followed.notes_agree) refl refl known' same desk
      (images_followed.stay shape.geometry b.goes.images.committed (later_of b.goes.images) devices.metadata devices.metadata s s' b.goes.followed.phase.images_agree turned readable.read)
      (λ state e. let r = b.goes.followed.phase.running state e in (turned.1 ∙ r.0, subst (StateTakesClean state) (sym turned.4) r.1)))

  -- a block that was promoted is mapped
  maps_on : (bl : OBlock) (c : CBlock) (tree : Mapping) (policy : P) (read : List Bytes) → MayMap t.desk bl c → IsChangedAt t.desk.tree tree c.0 (Some (entry_of bl)) → Desk (Map bl c) ≡ want plan → To (Desk (Map bl c)) Done read (Asks (mapped t.desk c tree policy))
  maps_on bl c tree policy read may changed next =
      let desk' = mapped t.desk c tree policy in
      let en = entrance unknowing t.desk bl c kept may in
      let free = ap (λ (m : Locations). m bl.0) b.goes.followed.phase.desk.mapping ∙ unmapped_there P t.desk kept bl.0 en.unmapped in
      let law = migrations_followed.maps now_at_desk shape.geometry.origin_blocks a x migration block bl c plan b.goes.followed.site.world (wants_at_desk next) suits free in
      let over = law.2 in
      let g = subst (λ (k : OBlock). WorldFollowsBy (Maps k.0 c.0) Carries a b.goes.followed.site.world (record now_at_desk { orders = slice_set slots c.0 None }) (then_actor bl x.awaiting)) (sym law.1) over.2.follows in
      let room = slice_get_within t.desk.space.blocks c.0 Reserved may.reserved in
      goes_to (Maps bl.0 c.0) desk' (then_actor bl x.awaiting) (Desk (Map bl c)) (slice_set slots c.0 None) (actor_is P A shape (Stands t) devices x job plan (Desk (Map bl c)) Done xt) g (λ d. d)
      (mapped_stands P shape.geometry b.goes.images t.desk commit devices.metadata bl c tree policy b.goes.known may changed) (sym (orders_set t.desk.orders.slots c.0 None))
      (desk_maps P t.desk s (abstract_after_all b.goes.followed.site.world g.records).shared b.goes.followed.phase.desk bl c tree policy room (let l = en.inside in let m = kept.mapping.size in omega (arith, l, m)) (unmapped_there P t.desk kept bl.0 en.unmapped) en.none changed g.desk.0 g.desk.1)

  -- one that was demoted leaves, or one that another is to follow
  module _ (bl : OBlock) (read : List Bytes) (new : DeskState P) (did : DidUnmap (λ policy o. new.policy) bl t.desk new) (same : bl ≡ block) where
    abbrev away : Actor
    away = then_actor bl (replacing bl x.orders ++ x.awaiting)

    module _ (c : ℕ) (o : Order) (live : slice_get slots c ≡ Some (Some o)) (mine : Contains x.orders o) (removes : Removes o) (at : IsMappedAt (holdings t.desk) bl.0 c) (of : is_of bl o ≡ true) where
      leaves_to : (v : Bool) → is_replacement o ≡ v → (after_it : Option ℕ) → block_there (Quarantined v false) ≡ removed after_it → (orders' : List (Option Order)) → orders' ≡ orders_living (if v then t.desk.orders else without_order t.desk.orders (record { 0 = c })).slots →
          WorldFollowsBy (Unmaps block.0 c after_it) Carries a b.goes.followed.site.world (record now_at_desk { orders = orders' }) (then_actor bl (replacing bl x.orders ++ x.awaiting)) → To (Desk (Unmap bl)) Done read (Asks new)
      leaves_to v r after_it there orders' orders_are follows =
          let parted = b.keeping.parted a x ex in
          let gone = left P t.desk kept actors are owned a x ex parted bl c o live mine removes at of new did in
          let alone = stands_alone P t.desk kept bl.0 c at in
          let desk' = unmapped t.desk (record { 0 = c }) new.tree new.policy in
          let g = subst (λ (k : OBlock). WorldFollowsBy (Unmaps k.0 c after_it) Carries a b.goes.followed.site.world (record now_at_desk { orders = orders' }) away) (sym same) follows in
          let room = slice_get_within t.desk.space.blocks c Mapped (mapped_state unknowing t.desk bl.0 c kept at) in
          subst (λ (k : DeskState P). To (Desk (Unmap bl)) Done read (Asks k)) (sym gone.1)
          (goes_to (Unmaps bl.0 c after_it) desk' away (Desk (Unmap bl)) orders' (actor_is P A shape (Stands t) devices x job plan (Desk (Unmap bl)) Done xt) g (λ d. d)
          (subst (λ (k : DeskState P). AtDesk shape.geometry b.goes.images k commit devices.metadata) gone.1 (unmapped_stands P shape.geometry b.goes.images t.desk commit devices.metadata bl new b.goes.known did))
          (orders_are ∙ ap (λ (os : Orders). orders_living os.slots) (sym (past P t.desk kept actors are owned a x ex parted bl c o live mine removes at of v r)))
          (desk_unmaps P t.desk s (abstract_after_all b.goes.followed.site.world g.records).shared b.goes.followed.phase.desk bl.0 (record { 0 = c }) alone.0 new.tree new.policy after_it
          (ap (λ (k : Bool). block_there (Quarantined k false)) (keeps_so P t.desk kept actors are owned a x ex parted bl c o live mine removes at of v r) ∙ there) room alone.1 gone.0 g.desk.0 g.desk.1))

  unmaps_on : (bl : OBlock) (read : List Bytes) (new : DeskState P) → Desk (Unmap bl) ≡ want plan → DidUnmap (λ policy o. new.policy) bl t.desk new → To (Desk (Unmap bl)) Done read (Asks new)
  unmaps_on bl read new next did =
      let leaving = leaves_from P t.desk kept s b.goes.followed.phase.desk in
      let law = migrations_followed.unmaps now_at_desk shape.geometry.origin_blocks a x migration block bl plan b.goes.followed.site.world (wants_at_desk next) suits (leaving bl) in
      let same : bl ≡ block = law.1 in
      let c = law.2.0 in
      elim law.2.1 [
        | inl d ↦ (
            let parted = b.keeping.parted a x ex in
            let at = subst (λ (k : OBlock). IsMappedAt (holdings t.desk) k.0 c) (sym same) (stands_so P t.desk kept s b.goes.followed.phase.desk block.0 c (leaving block c None (DemoteOrder block) d.live (inl (refl, refl)) (λ no. absurd (no refl)))) in
            let of = for_block Demote block bl same in
            let none = none_waits P t.desk kept actors are owned a x ex parted bl c (DemoteOrder block) d.live d.mine tt at of refl in
            leaves_to bl read new did same c (DemoteOrder block) d.live d.mine tt at of false refl None refl (slice_set slots c None) (sym (orders_set t.desk.orders.slots c None))
            (subst (λ (os : List Order). WorldFollowsBy (Unmaps block.0 c None) Carries a b.goes.followed.site.world (record now_at_desk { orders = slice_set slots c None }) (then_actor bl (os ++ x.awaiting))) (sym none) d.follows))
        | inr d ↦ leaves_to bl read new did same c (ReplaceOrder block d.new d.k) d.live d.mine tt (subst (λ (k : OBlock). IsMappedAt (holdings t.desk) k.0 c) (sym same) (stands_so P t.desk kept s b.goes.followed.phase.desk block.0 c d.stood))
            (subst (λ (k : OBlock). is_of k (ReplaceOrder block d.new d.k) ≡ true) (sym same) (of_order Demote block (Some d.new.0) (ReplaceOrder block d.new d.k) (inr (refl, refl)))) true refl (Some d.new.0) refl slots refl d.follows
      ]

  -- an order is given up
  releases_on : (bl : OBlock) (read : List Bytes) (new : DeskState P) → Desk (ReleaseOrder bl) ≡ want plan → DidRelease x.orders bl t.desk new → To (Desk (ReleaseOrder bl)) Done read (Asks new)
  releases_on bl read new next d =
      let law = migrations_followed.gives_up now_at_desk shape.geometry.origin_blocks a x migration block bl plan b.goes.followed.site.world (wants_at_desk next) suits in
      by law.0 law.1
    where
      by : bl ≡ block → ((c : ℕ) × (after_it : Option ℕ) × (order : Order) × IsOrderFor migration block after_it order × EndsOrder (GivesUp c) c a b.goes.followed.site.world now_at_desk x (then_actor bl x.awaiting) order) → To (Desk (ReleaseOrder bl)) Done read (Asks new)
      by same (c, after_it, order, of, ends) =
          let held = Contains-append_left x.orders x.awaiting order ends.mine in
          let l = live_at P t.desk actors are owned a x ex order c ends.live held in
          let at : l.cache.0 ≡ c = at_there P t.desk actors are owned a x ex order c ends.live held in
          let is_its : is_of bl order ≡ true = ap (λ (k : OBlock). is_of k order) same ∙ of_order migration block after_it order of in
          let found = only_of bl x.orders order ends.mine is_its (λ p h i. only_held P t.desk actors are owned a x ex order c ends.live held bl is_its p (Contains-append_left x.orders x.awaiting p h) i) in
          let is : new ≡ released t.desk (record { 0 = c }) = (subst (λ (o : Option Order). IsGivenUp o t.desk new) found d).0 l ∙ ap (λ (k : ℕ). released t.desk (record { 0 = k })) at in
          let inside = slot_within t.desk.orders.slots l.cache.0 l.live l.there in
          let many_slots = kept.slots in
          let many_blocks = kept.blocks in
          let g = ends.follows in
          subst (λ (k : DeskState P). To (Desk (ReleaseOrder bl)) Done read (Asks k)) (sym is)
          (goes_to (GivesUp c) (released t.desk (record { 0 = c })) (then_actor bl x.awaiting) (Desk (ReleaseOrder bl)) (slice_set slots c None) (actor_is P A shape (Stands t) devices x job plan (Desk (ReleaseOrder bl)) Done xt) g (λ v. v)
          (subst (λ (k : DeskState P). AtDesk shape.geometry b.goes.images k commit devices.metadata) is (released_for P shape.geometry b.goes.images t.desk commit devices.metadata new (order_found bl x.orders) b.goes.known d))
          (sym (orders_set t.desk.orders.slots c None)) (desk_releases P t.desk s (abstract_after_all b.goes.followed.site.world g.records).shared b.goes.followed.phase.desk (record { 0 = c }) (omega (arith, inside, at, many_slots, many_blocks)) g.desk.0 g.desk.1))

  -- any step that is done or refused
  pub any_step : (next : Want) (got : Got) (read : List Bytes) (chosen : Chosen P A) → next ≡ want plan → Gives shape w x job next got read chosen → To next got read chosen
  any_step (Cell step) got read chosen e g = subst (λ (v : Got). To (Cell step) v read chosen) (sym g.1)
      (cells P A shape b.goes.images t commit devices actors n b.goes.known b.goes.followed a x ex migration block plan xt suits doing noted job_is b.used.here step e (sees step e))
  any_step (Device (ReadExtent d ext)) got read chosen e g = subst (λ (v : Got). To (Device (ReadExtent d ext)) v read chosen) (sym g.2)
      (subst (λ (c : Chosen P A). To (Device (ReadExtent d ext)) Done read c) (sym g.1.1)
      (subst (λ (ds : Devices (List History)). Goes P A shape (record { devices = ds; commit = commit; phase = Stands t; actors = slice_set actors a (actor_then {P = P} {A = A} shape (Stands t) devices x (Device (ReadExtent d ext)) Done) }) (noted_step shape t.desk.mode [] n a (Some (Some doing)) (Device (ReadExtent d ext)) Done read)) (sym (same_device d devices g.0))
      (read_done P A shape b.goes.images t commit devices actors n b.goes.known b.goes.followed a x ex migration block plan xt suits doing noted job_is d ext read e g.3)))
  any_step (Device (WriteExtent d ext)) got read chosen e g = subst (λ (v : Got). To (Device (WriteExtent d ext)) v read chosen) (sym g.2)
      (subst (λ (c : Chosen P A). To (Device (WriteExtent d ext)) Done read c) (sym g.1.1)
      (write_done P A shape b.goes.images t commit devices actors n b.goes.known b.goes.followed a x ex migration block plan xt suits doing noted job_is d ext read g.0 e g.3))
  any_step (Desk (Map bl c)) Done read (Asks new) e g = subst (λ (v : DeskState P). To (Desk (Map bl c)) Done read (Asks v)) (sym g.1.2) (maps_on bl c new.tree new.policy read g.1.0 g.1.1 e)
  any_step (Desk (Map bl c)) (GotRefused refusal) read Plain e g = map_refused P A shape b.goes.images t commit devices actors n b.goes.known b.goes.followed a x ex migration block plan xt suits doing noted job_is bl c refusal e
  any_step (Desk (Map bl c)) got read chosen e g = absurd g.1
  any_step (Desk (ReleaseOrder bl)) got read (Asks new) e g = subst (λ (v : Got). To (Desk (ReleaseOrder bl)) v read (Asks new)) (sym g.1) (releases_on bl read new e g.2)
  any_step (Desk (ReleaseOrder bl)) got read chosen e g = absurd g.2
  any_step (End answer) got read chosen e g = subst (λ (v : Got). To (End answer) v read chosen) (sym g.1) (subst (λ (c : Chosen P A). To (End answer) Done read c) (sym g.0.1)
      (answers P A shape b.goes.images t commit devices actors n b.goes.known b.goes.followed a x ex migration block plan xt suits doing noted job_is answer _ read e))
  any_step (Desk (Unmap bl)) got read (Asks new) e g = subst (λ (v : Got). To (Desk (Unmap bl)) v read (Asks new)) (sym g.1) (unmaps_on bl read new e g.2)
  any_step (Desk (Unmap bl)) got read chosen e g = absurd g.2
  any_step next got read chosen e g = absurd ((own_step next e tt).2)

  room : (d : Dev) (ext : Extent) → HoldsBlocks d → StepInside shape (Device (WriteExtent d ext)) → ext.first + ext.count ≤ length (Rattle.wb_devices.specs.Moving.device_in d devices)
  room Cache ext h i = subst (λ (k : ℕ). ext.first + ext.count ≤ k) (sym b.inside.cache) i
  room Origin ext h i = subst (λ (k : ℕ). ext.first + ext.count ≤ k) (sym b.inside.origin) i
  room Metadata ext h i = absurd h

  abbrev Fails : Choice → Want → List Bytes → Chosen P A → Type 0
  Fails choice next read chosen = Faulted_to P A shape w n a x choice job next read chosen doing

  -- any step that fails
  pub any_fault : (choice : Choice) (next : Want) (read : List Bytes) (chosen : Chosen P A) → next ≡ want plan → MayFailAt devices choice next → Falters w choice next chosen → Fails choice next read chosen
  any_fault choice (Device (ReadExtent d ext)) read chosen e m g = subst (λ (c : Chosen P A). Fails choice (Device (ReadExtent d ext)) read c) (sym g.0)
      (subst (λ (ds : Devices (List History)). Goes P A shape (record { devices = ds; commit = commit; phase = Stands t; actors = slice_set actors a (actor_then {P = P} {A = A} shape (Stands t) devices x (Device (ReadExtent d ext)) Fault) }) (noted_step shape t.desk.mode [] n a (Some (Some doing)) (Device (ReadExtent d ext)) Fault read)) (sym (same_device d devices g.1))
      (read_fails P A shape b.goes.images t commit devices actors n b.goes.known b.goes.followed a x ex migration block plan xt suits doing noted job_is d ext read e))
  any_fault choice (Device (WriteExtent d ext)) read chosen e m g = subst (λ (c : Chosen P A). Fails choice (Device (WriteExtent d ext)) read c) (sym g.0)
      (write_fails P A shape b.goes.images t commit devices actors n b.goes.known b.goes.followed a x ex migration block plan xt suits doing noted job_is d ext read (lands d choice) g.1 e (room d ext g.1 (inside (Device (WriteExtent d ext)) e)))
  any_fault choice (Device step) read chosen e m g = absurd ((own_step (Device step) e tt).2)
  any_fault choice next read chosen e m g = absurd m
