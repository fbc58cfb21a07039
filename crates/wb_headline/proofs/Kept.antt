-- What is kept of orders, seals and suspends is kept by each step, each start and an opening's answer.
use Rattle.std.proofs.Common.{◌≡◌, ◌∙◌, ◌⊎◌, ◌<◌, inl, inr, ℕ, zero, suc, Bool, true, false, cond, List, [], ◌∷◌, Option, Some, None, refl, sym, ap, subst, arith, slice_get, slice_set, Contains}
use Rattle.wb_types.proofs.Lists.{set_cases}
use Rattle.wb_types.specs.declared.entry.Entry.{Entry}
use Rattle.wb_types.specs.declared.number.OBlock.{OBlock}
use Rattle.wb_disk.specs.Device.{Content as Bytes, History}
use Rattle.wb_words.specs.declared.card.Hold.TheVariants.{Nothing, Held}
use Rattle.wb_words.specs.SharedWords.{word_at, place_in}
use Rattle.wb_words.specs.Rule.{LockRule}
use Rattle.wb_policy.specs.declared.order.Order.{Order}
use Rattle.wb_policy.specs.declared.order.Order.TheVariants.{Replace as ReplaceOrder}
use Rattle.wb_types.specs.declared.number.CBlock.{CBlock}
use Rattle.wb_orders.specs.Named.{first_of}
use Rattle.wb_tasks.specs.declared.step.Migration.TheVariants.{Demote}
use Rattle.std.proofs.lemmas.List.Elements.{Contains-append_left, Contains-append_right}
use Rattle.std.proofs.lemmas.Option.{get_or_from_slice_get}
use Rattle.wb_desk.specs.Desks.{DeskState, MayReserve}
use Rattle.wb_desk.specs.Commits.{HasBegun, commit_begun, commit_broken, commit_ended}
use Rattle.wb_tasks.specs.Tables.{BlockJob, Reading, OnBlock}
use Rattle.wb_tasks.specs.Plan.{Plan, want, after}
use Rattle.wb_tasks.specs.Ready.{IsJobs}
use Rattle.wb_tasks.specs.declared.step.DeviceStep.{DeviceStep}
use Rattle.wb_tasks.specs.declared.step.DeviceStep.TheVariants.{Read as ReadExtent, Write as WriteExtent, Sync, ReadMetadata, WriteNode, WriteRoot}
use Rattle.wb_tasks.specs.declared.step.DeskStep.{DeskStep}
use Rattle.wb_tasks.specs.declared.step.DeskStep.TheVariants.{Map, Unmap, ReleaseOrder, Arrive, Ask, BeginCommit, BreakCommit, EndCommit}
use Rattle.wb_tasks.specs.declared.step.Want.{Want}
use Rattle.wb_tasks.specs.declared.step.Want.TheVariants.{Cell, Device, Desk, End}
use Rattle.wb_tasks.specs.declared.step.Got.{Got}
use Rattle.wb_tasks.specs.declared.step.Got.TheVariants.{Done, Fault, Began, Ticket, Served, Refused as GotRefused}
use Rattle.wb_devices.specs.declared.devices.Devices.{Devices}
use Rattle.wb_devices.specs.declared.running.RunningCommit.{RunningCommit}
use Rattle.wb_promise.specs.declared.job.Job.{Job}
use Rattle.wb_promise.specs.declared.job.Job.TheVariants.{Read, Write, Flush, Suspend, Migrate, Replace, Invalidate}
use Rattle.wb_promise.specs.declared.event.What.TheVariants.{Started}
use Rattle.wb_promise.specs.States.{Shape, State, Actor, Target, Phase, Stands, OfReading, resting}
use Rattle.wb_promise.specs.Happenings.{Chosen, Plain, Cut, Orders, Looks, Asks, Commits, Gives, DoesArrive, DoesAsk, DoesBegin, DoesLead, DoesRead, StartsAs, AreMapped, HasTask, OfSome, most_for, order_for}
use Rattle.wb_promise.specs.Effects.{actor_then, phase_then, phase_given, given, job_of, begun_desk, all_resting}
use Rattle.wb_promise.specs.Clerk.{Notes}
use Rattle.wb_promise.specs.Headline.{place_of}
use Rattle.wb_runs.specs.Holding.{cards_of, AllSuited}
use Rattle.wb_promise.specs.Sealed.{SealsNext, number_of}
use Rattle.wb_desk.specs.Marks.{bits_in_tree}
use Rattle.wb_runs.proofs.Imaged.{begun_entries}
use Rattle.wb_runs.proofs.Images.{Images}
use Rattle.wb_runs.proofs.Metadata.{MetadataKept}
use Rattle.wb_runs.proofs.Lists.{first_or}
use Rattle.wb_runs.proofs.Ordering.{held_of, then_had}
use Rattle.wb_runs.proofs.Owning.{Owned, owned_given, owned_same}
use Rattle.wb_headline.proofs.Orders.{AreParted}
use Rattle.wb_headline.proofs.Following.{Followed}
use Rattle.wb_headline.proofs.Keeping.{KeepingAt, Keeping, HasNone, NoOrders, TaskRight, GoesAmong, plainly, saw_among, saw_begin, saw_end, shares_none, own, cell_keeps, device_keeps, answer_keeps, desk_plain, map_keeps, map_refused_keeps, unmap_keeps, request_unmap_keeps, release_keeps, flush_release_keeps, ready}
use Rattle.wb_headline.proofs.Targets.{standing}
use Rattle.wb_headline.proofs.Seeing.{mapped_there}
use Rattle.wb_headline.proofs.Suspends.{Saw, SawTask, saw_first, marked_places}
use Rattle.wb_simulation.specs.Actors.{IsAmong, IsAmongOthers, AreAmongOthers}
use Rattle.wb_simulation.proofs.Opened.{found_at}
use Rattle.wb_tree.specs.declared.image.Image.{Image}
use Rattle.wb_tree.specs.Mapping.{Mapping}
use Rattle.wb_types.specs.declared.refusal.Refusal.{Refusal}
use Rattle.wb_words.specs.declared.step.CellStep.TheVariants.{Look}
use Rattle.wb_words.specs.declared.word.Word.TheVariants.{Fail}
use Rattle.wb_runs.proofs.Plans.{task_suits}
use Rattle.wb_types.specs.declared.mode.Dev.TheVariants.{Metadata}

-- ---- where no target stands nobody has an order

pub none_set : (actors : List Actor) (a : ℕ) (y : Actor) → HasNone y → NoOrders actors → NoOrders (slice_set actors a y)
none_set actors a y here none b z e = elim (set_cases actors a b y z e) [
  | inl i ↦ subst (λ (v : Actor). HasNone v) (sym i.1) here
  | inr o ↦ none b z o.1
]

pub none_rest : (actors : List Actor) → NoOrders (all_resting actors)
none_rest [] a x e = absurd (cc)
none_rest (z ∷ zs) zero x e = (let both : resting ≡ x = cc in subst (λ (v : Actor). HasNone v) both (λ order h. absurd (omega (arith, h.1))))
none_rest (z ∷ zs) (suc a) x e = none_rest zs a x e

pub none_goes : (P A : Type 0) (shape : Shape) (phase : Phase P A) (devices : Devices (List History)) (actors : List Actor) (a : ℕ) (x : Actor) (next : Want) (got : Got) → slice_get actors a ≡ Some x → NoOrders actors → NoOrders (slice_set actors a (actor_then shape phase devices x next got))
none_goes P A shape phase devices actors a x next got ex none = none_set actors a (actor_then shape phase devices x next got) (λ order h. none a x ex order (then_had x (job_of x.task) next got order h)) none

-- ---- where one is made nobody is at anything

pub made_keeps : (P : Type 0) (t : Target P) (actors : List Actor) → NoOrders actors → ((b : ℕ) (z : Actor) → slice_get actors b ≡ Some z → z.task ≡ None) → ((block : OBlock) → number_of (place_in (word_at t.words.seals block)) ≡ place_of t.desk.tree.entries block.0) → KeepingAt t actors
made_keeps P t actors none rest told = record {
  owned = record { live = λ a x order e h. absurd (none a x e order h); one = λ a b x z order e q h i. absurd (none a x e order h) };
  parted = λ a x e order h i. none a x e order (Contains-append_left x.orders x.awaiting order h);
  tells = λ b. inl (told b);
  right = λ a x e. subst (λ (o : Option (Job × Plan)). TaskRight t.desk.tree.entries x.card o) (sym (rest a x e)) tt;
  alone = λ a x e. inl (subst IsAmongOthers (sym (rest a x e)) tt);
  saw = λ a x e. subst (λ (o : Option (Job × Plan)). SawTask t.words t.desk.tree.entries x.seen o) (sym (rest a x e)) tt;
}

-- ---- where one stands

begun_orders : (P A : Type 0) (chosen : Chosen P A) (desk : DeskState P) → (begun_desk chosen desk).orders ≡ desk.orders
begun_orders P A (Commits c tree) desk = refl
begun_orders P A chosen desk = refl

ended_same : (P : Type 0) (X : Type 0) (of : DeskState P → X) (desk : DeskState P) → of (commit_ended desk) ≡ of desk → of (cond desk.space.committing (commit_ended desk) desk) ≡ of desk
ended_same P X of desk same = by desk.space.committing
  where
    by : (t : Bool) → of (cond t (commit_ended desk) desk) ≡ of desk
    by true = same
    by false = refl

-- a read or write of an extent that does not fail is done
gives_done : (P A : Type 0) (shape : Shape) (w : State P A) (x : Actor) (job : Job) (j : BlockJob) (step : DeviceStep) (got : Got) (read : List Bytes) (chosen : Chosen P A) → IsJobs j step → Gives shape w x job (Device step) got read chosen → got ≡ Done
gives_done P A shape w x (Read extent) j (ReadExtent d e) got read chosen i g = g.2
gives_done P A shape w x (Write extent content) j (WriteExtent d e) got read chosen i g = g.2
gives_done P A shape w x (Migrate m block) j (ReadExtent d e) got read chosen i g = g.2
gives_done P A shape w x (Migrate m block) j (WriteExtent d e) got read chosen i g = g.2
gives_done P A shape w x job j (ReadExtent d e) got read chosen i g = absurd g
gives_done P A shape w x job j (WriteExtent d e) got read chosen i g = absurd g
gives_done P A shape w x job (Reading part) step got read chosen i g = absurd i
gives_done P A shape w x job j step got read chosen i g = absurd i

-- so is whatever a suspend does on a device
suspend_gives_done : (P A : Type 0) (shape : Shape) (w : State P A) (x : Actor) (t : Target P) (step : DeviceStep) (got : Got) (read : List Bytes) (chosen : Chosen P A) → w.phase ≡ Stands t → Gives shape w x Suspend (Device step) got read chosen → got ≡ Done
suspend_gives_done P A shape w x t (Sync Metadata) got read chosen p g = g.1
suspend_gives_done P A shape w x t (Sync device) got read chosen p g = g.1
suspend_gives_done P A shape w x t (WriteNode number) got read chosen p g = g.1
suspend_gives_done P A shape w x t WriteRoot got read chosen p g = g.1
suspend_gives_done P A shape w x t (ReadMetadata left) got read chosen p g = absurd (subst (λ (q : Phase P A). OfReading q (λ mode was. DoesRead mode shape.geometry false left was w.devices.metadata w.commit got chosen)) p g.2)
suspend_gives_done P A shape w x t step got read chosen p g = absurd g

-- who is at nothing has no task
pub at_nothing : (P A : Type 0) (w : State P A) (b : ℕ) (z : Actor) → slice_get w.actors b ≡ Some z → (HasTask w b → ⊥) → z.task ≡ None
at_nothing P A w b z ez none = by z.task refl
  where
    by : (o : Option (Job × Plan)) → z.task ≡ o → z.task ≡ None
    by None e = e
    by (Some doing) e = absurd (none (subst (λ (o : Option Actor). OfSome o (λ v. OfSome v.task (λ d. Unit {0}))) (sym ez) (subst (λ (o : Option (Job × Plan)). OfSome o (λ d. Unit {0})) (sym e) tt)))

module _ (P A : Type 0) (shape : Shape) (images : Images) (t : Target P) (commit : Option RunningCommit) (devices : Devices (List History)) (actors : List Actor) (n : Notes) (known : MetadataKept {P = P} {A = A} shape.geometry images (Stands t) commit devices.metadata)
    (f : Followed P A shape images (standing P A shape images t commit devices actors n) n) (rule : LockRule shape.geometry.origin_blocks t.words (cards_of actors)) (all_suited : AllSuited shape.geometry.origin_blocks actors) (k : KeepingAt t actors) (a : ℕ) (x : Actor) (ex : slice_get actors a ≡ Some x) where
  -- it is given a job
  pub start_keeps : x.task ≡ None → AreAmongOthers actors → (job : Job) (chosen : Chosen P A) → StartsAs shape (standing P A shape images t commit devices actors n) a job Started chosen → Keeping (phase_given {P = P} {A = A} (Stands t) job chosen) (slice_set actors a (given shape t.desk.mode x job chosen))
  start_keeps xt all_among job chosen h = by_job job chosen h
    where
      w : State P A
      w = standing P A shape images t commit devices actors n

      among : (t' : Target P) (y : Actor) (job : Job) (plan : Plan) → y.task ≡ Some (job, plan) → IsAmong job → GoesAmong P A shape images t commit devices actors n known f rule all_suited k a x ex t' y
      among t' y job plan task is = record {
        nobody = λ c z away ez. all_among c z ez;
        itself = inl (subst IsAmongOthers (sym task) is);
        saw = saw_among t'.words t'.desk.tree.entries y.seen y.task (subst IsAmongOthers (sym task) is);
      }

      nothing : x.card.hold ≡ Nothing
      nothing = task_suits shape.geometry.origin_blocks x xt (all_suited a x ex)

      kept : (t' : Target P) (y : Actor) (job : Job) (plan : Plan) → GoesAmong P A shape images t commit devices actors n known f rule all_suited k a x ex t' y → y.task ≡ Some (job, plan) → y.card ≡ x.card → t'.words.seals ≡ t.words.seals → ((b : ℕ) → place_of t'.desk.tree.entries b ≡ place_of t.desk.tree.entries b) → Owned t'.desk (slice_set actors a y) → AreParted y → KeepingAt t' (slice_set actors a y)
      kept t' y job plan goes task card seals places owned parted = plainly P A shape images t commit devices actors n known f rule all_suited k a x ex t' y goes seals places
          (λ b place s. subst (λ (o : Option (Job × Plan)). SealsNext b place o) xt s) owned parted
          (subst (λ (o : Option (Job × Plan)). TaskRight t'.desk.tree.entries y.card o) (sym task) (λ access b h. absurd (let bad : Nothing ≡ Held access b = sym nothing ∙ ap (λ (c : Rattle.wb_words.specs.declared.card.Card.Card). c.hold) (sym card) ∙ h in cc)))

      plain : (job : Job) (y : Actor) (plan : Plan) → GoesAmong P A shape images t commit devices actors n known f rule all_suited k a x ex t y → y.task ≡ Some (job, plan) → y.card ≡ x.card → held_of y ≡ held_of x → AreParted y → KeepingAt t (slice_set actors a y)
      plain job y plan goes task card held parted = kept t y job plan goes task card refl (λ b. refl) (owned_same P t.desk actors a x y ex k.owned t.desk held refl) parted

      -- one that is given now did not live
      fresh : (order : Order) (c : CBlock) → MayReserve t.desk c order → Contains x.awaiting order → ⊥
      fresh order c may h =
          let l = k.owned.live a x order ex (Contains-append_right x.orders x.awaiting order h) in
          let busy = known.is.orders.marks l.cache.0 (first_of order).0 l.live l.there (inl (ap (λ (p : Order). (first_of p).0) l.same)) in
          let idle = get_or_from_slice_get t.desk.orders.busy (first_of order).0 false false may.give.idle.0 in
          let bad : true ≡ false = sym busy ∙ idle in absurd (cc)

      parted_with : (order : Order) (c : CBlock) → MayReserve t.desk c order → (o : Order) → Contains (order ∷ x.orders) o → Contains x.awaiting o → ⊥
      parted_with order c may o h w = first_or order o x.orders ⊥ h (λ same. fresh order c may (subst (λ (p : Order). Contains x.awaiting p) same w)) (λ later. k.parted a x ex o later w)

      -- each block that is mapped is among those that it looks at
      looks_at_all : (blocks : List OBlock) → AreMapped t.desk blocks → (block : OBlock) (c : ℕ) → place_of t.desk.tree.entries block.0 ≡ Some c → (c < shape.geometry.cache_blocks) × Contains blocks block
      looks_at_all blocks are block c at =
          let found = found_at t.desk.tree.entries block.0 0 c at in
          let inside = found.3 in
          let is = found.2 in
          let size_is = known.is.kept.mapping.size in
          let same = known.is.sizes.cache_blocks in
          (omega (arith, inside, is, size_is, same), are.all block c (mapped_there P t.desk known.is.kept block.0 c at))

      by_job : (job : Job) (chosen : Chosen P A) → StartsAs shape w a job Started chosen → Keeping (phase_given {P = P} {A = A} (Stands t) job chosen) (slice_set actors a (given shape t.desk.mode x job chosen))
      by_job (Migrate m b) (Cut cut) h = (let y : Actor = given {P = P} {A = A} shape t.desk.mode x (Migrate m b) (Cut cut) in plain (Migrate m b) y _ (among t y (Migrate m b) _ refl tt) refl refl refl (k.parted a x ex))
      by_job (Migrate m b) (Orders cut c) h =
          let y : Actor = given {P = P} {A = A} shape t.desk.mode x (Migrate m b) (Orders cut c) in
          let t' : Target P = record { words = t.words; desk = Rattle.wb_desk.specs.Calls.reserved t.desk c (order_for m b) false } in
          kept t' y (Migrate m b) _ (among t' y (Migrate m b) _ refl tt) refl refl refl (λ i. refl) (owned_given P t.desk actors a x y ex k.owned c (order_for m b) known.is.orders h.1 refl) (parted_with (order_for m b) c h.1)
      by_job (Migrate m b) chosen h = absurd h
      by_job (Replace old new) (Cut cut) h = (let y : Actor = given {P = P} {A = A} shape t.desk.mode x (Replace old new) (Cut cut) in plain (Migrate Demote old) y _ (among t y (Migrate Demote old) _ refl tt) refl refl refl (k.parted a x ex))
      by_job (Replace old new) (Orders cut c) h =
          let y : Actor = given {P = P} {A = A} shape t.desk.mode x (Replace old new) (Orders cut c) in
          let t' : Target P = record { words = t.words; desk = Rattle.wb_desk.specs.Calls.reserved t.desk c (ReplaceOrder old new c) false } in
          kept t' y (Migrate Demote old) _ (among t' y (Migrate Demote old) _ refl tt) refl refl refl (λ i. refl) (owned_given P t.desk actors a x y ex k.owned c (ReplaceOrder old new c) known.is.orders h.1 refl) (parted_with (ReplaceOrder old new c) c h.1)
      by_job (Replace old new) chosen h = absurd h
      by_job Suspend (Looks blocks) h =
          let y : Actor = given {P = P} {A = A} shape t.desk.mode x Suspend (Looks blocks) in
          plain Suspend y _ (record {
            nobody = λ c z away ez. all_among c z ez;
            itself = inr (λ c z away ez. at_nothing P A w c z ez (h.0 c));
            saw = saw_first t.words t.desk.tree.entries shape.geometry.cache_blocks (most_for shape.geometry true) blocks (Cell (Look Fail)) (looks_at_all blocks h.1);
          }) refl refl refl (k.parted a x ex)
      by_job Suspend chosen h = absurd h
      by_job job chosen h = (let y : Actor = given shape t.desk.mode x job chosen in plain job y _ (among t y job _ refl tt) refl refl refl (k.parted a x ex))

  module _ (plan : Plan) where
    abbrev After : Want → Got → Chosen P A → Type 0
    After next got chosen = Keeping (phase_then {P = P} {A = A} shape (Stands t) next got chosen) (slice_set actors a (actor_then {P = P} {A = A} shape (Stands t) devices x next got))

    -- the desk answers who asks for a commit: one begins, or the desk stays
    asks_keeps : (job : Job) → x.task ≡ Some (job, plan) → (step : DeskStep) (got : Got) (chosen : Chosen P A) → Desk step ≡ want plan → x.card.hold ≡ Nothing → held_of (actor_then {P = P} {A = A} shape (Stands t) devices x (Desk step) got) ≡ held_of x → ((b : ℕ) → place_of (begun_desk chosen t.desk).tree.entries b ≡ place_of t.desk.tree.entries b) → (job ≡ Suspend → Saw t.words (begun_desk chosen t.desk).tree.entries x.seen (after plan got).steps) →
        KeepingAt (record { words = t.words; desk = begun_desk chosen t.desk }) (slice_set actors a (actor_then {P = P} {A = A} shape (Stands t) devices x (Desk step) got))
    asks_keeps job xt step got chosen e none same places saw = desk_plain P A shape images t commit devices actors n known f rule all_suited k a x ex job plan xt step got (begun_desk chosen t.desk) saw e
        none places
        (owned_same P t.desk actors a x (actor_then {P = P} {A = A} shape (Stands t) devices x (Desk step) got) ex k.owned (begun_desk chosen t.desk) same (begun_orders P A chosen t.desk))

    -- the entries that are stored are of the same blocks, marked or not
    same_places : (seen : Option (List Bool)) (hint_of : P → ℕ → ℕ) (image : Image) (tree : Mapping) → HasBegun hint_of seen t.desk image (commit_begun t.desk tree image) → (b : ℕ) → place_of tree.entries b ≡ place_of t.desk.tree.entries b
    same_places None hint_of image tree h b = ap (λ (es : List (Option Entry)). place_of es b) (begun_entries hint_of None t.desk tree image h)
    same_places (Some bits) hint_of image tree h b = ap (λ (es : List (Option Entry)). place_of es b) (begun_entries hint_of (Some bits) t.desk tree image h) ∙ marked_places (hint_of t.desk.policy) (bits_in_tree t.desk.geometry.version bits) t.desk.tree.entries 0 b

    -- a suspend's begins, or does not
    begins_keeps : (job : Job) → x.task ≡ Some (job, plan) → (most : ℕ) (got : Got) (chosen : Chosen P A) → Desk (BeginCommit most) ≡ want plan → DoesBegin (Some x.seen) most t.desk got chosen → After (Desk (BeginCommit most)) got chosen
    begins_keeps job xt most got chosen e d = asks_keeps job xt (BeginCommit most) got chosen e (ready P A shape images t commit devices actors n known f rule all_suited k a x ex job plan xt (Desk (BeginCommit most)) e) refl (by got chosen d)
        (λ s. saw_begin P A shape images t commit devices actors n known f rule all_suited k a x ex job plan xt s most (begun_desk chosen t.desk) got e (which got chosen d))
      where
        which : (got : Got) (chosen : Chosen P A) → DoesBegin (Some x.seen) most t.desk got chosen → ((nodes : ℕ) × (got ≡ Began nodes)) ⊎ ((refusal : Refusal) × (got ≡ GotRefused refusal))
        which (Began nodes) (Commits c tree) d = inl (nodes, refl)
        which (GotRefused refusal) Plain d = inr (refusal, refl)
        which got chosen d = absurd d

        by : (got : Got) (chosen : Chosen P A) → DoesBegin (Some x.seen) most t.desk got chosen → (b : ℕ) → place_of (begun_desk chosen t.desk).tree.entries b ≡ place_of t.desk.tree.entries b
        by (Began nodes) (Commits c tree) d b = same_places (Some x.seen) d.3.0 c.image tree d.3.1 b
        by (GotRefused refusal) Plain d b = refl
        by got chosen d b = absurd d

    -- a flush leads one, or does not
    led_places : (most : ℕ) (got : Got) (chosen : Chosen P A) → DoesLead most t.desk got chosen → (b : ℕ) → place_of (begun_desk chosen t.desk).tree.entries b ≡ place_of t.desk.tree.entries b
    led_places most (Began nodes) (Commits c tree) d b = same_places None d.1.3.0 c.image tree d.1.3.1 b
    led_places most (GotRefused refusal) Plain d b = refl
    led_places most got chosen d b = absurd d

    arrives_keeps : (job : Job) → x.task ≡ Some (job, plan) → (most : ℕ) (got : Got) (chosen : Chosen P A) → Desk (Arrive most) ≡ want plan → DoesArrive most t.desk got chosen → After (Desk (Arrive most)) got chosen
    arrives_keeps job xt most got chosen e d = asks_keeps job xt (Arrive most) got chosen e (ready P A shape images t commit devices actors n known f rule all_suited k a x ex job plan xt (Desk (Arrive most)) e) refl (by got chosen d) (λ s. absurd (shares_none P A shape images t commit devices actors n known f rule all_suited k a x ex job plan xt s most (inl e)))
      where
        by : (got : Got) (chosen : Chosen P A) → DoesArrive most t.desk got chosen → (b : ℕ) → place_of (begun_desk chosen t.desk).tree.entries b ≡ place_of t.desk.tree.entries b
        by Ticket Plain d b = refl
        by got chosen d b = led_places most got chosen d b

    asked_keeps : (job : Job) → x.task ≡ Some (job, plan) → (most : ℕ) (got : Got) (chosen : Chosen P A) → Desk (Ask most) ≡ want plan → DoesAsk x.share most t.desk got chosen → After (Desk (Ask most)) got chosen
    asked_keeps job xt most got chosen e d = asks_keeps job xt (Ask most) got chosen e (ready P A shape images t commit devices actors n known f rule all_suited k a x ex job plan xt (Desk (Ask most)) e) refl (by got chosen d) (λ s. absurd (shares_none P A shape images t commit devices actors n known f rule all_suited k a x ex job plan xt s most (inr e)))
      where
        by : (got : Got) (chosen : Chosen P A) → DoesAsk x.share most t.desk got chosen → (b : ℕ) → place_of (begun_desk chosen t.desk).tree.entries b ≡ place_of t.desk.tree.entries b
        by Served Plain d b = refl
        by got chosen d b = led_places most got chosen d.1 b

    ends_keeps : (job : Job) → x.task ≡ Some (job, plan) → (got : Got) (chosen : Chosen P A) → Desk EndCommit ≡ want plan → got ≡ Done → After (Desk EndCommit) got chosen
    ends_keeps job xt got chosen e done = desk_plain P A shape images t commit devices actors n known f rule all_suited k a x ex job plan xt EndCommit got (cond t.desk.space.committing (commit_ended t.desk) t.desk)
        (λ s. subst (λ (g : Got). Saw t.words (cond t.desk.space.committing (commit_ended t.desk) t.desk).tree.entries x.seen (after plan g).steps) (sym done)
        (saw_end P A shape images t commit devices actors n known f rule all_suited k a x ex job plan xt s EndCommit (cond t.desk.space.committing (commit_ended t.desk) t.desk) (λ b. ended_same P (Option ℕ) (λ (d : DeskState P). place_of d.tree.entries b) t.desk refl) e)) e
        (ready P A shape images t commit devices actors n known f rule all_suited k a x ex job plan xt (Desk EndCommit) e)
        (λ b. ended_same P (Option ℕ) (λ (d : DeskState P). place_of d.tree.entries b) t.desk refl)
        (owned_same P t.desk actors a x (actor_then {P = P} {A = A} shape (Stands t) devices x (Desk EndCommit) got) ex k.owned (cond t.desk.space.committing (commit_ended t.desk) t.desk) refl (ended_same P Rattle.wb_orders.specs.Orders.Orders (λ (d : DeskState P). d.orders) t.desk refl))

    breaks_keeps : (job : Job) → x.task ≡ Some (job, plan) → (got : Got) (chosen : Chosen P A) → Desk BreakCommit ≡ want plan → got ≡ Done → After (Desk BreakCommit) got chosen
    breaks_keeps job xt got chosen e done = desk_plain P A shape images t commit devices actors n known f rule all_suited k a x ex job plan xt BreakCommit got (commit_broken t.desk)
        (λ s. subst (λ (g : Got). Saw t.words t.desk.tree.entries x.seen (after plan g).steps) (sym done) (saw_end P A shape images t commit devices actors n known f rule all_suited k a x ex job plan xt s BreakCommit (commit_broken t.desk) (λ b. refl) e)) e
        (ready P A shape images t commit devices actors n known f rule all_suited k a x ex job plan xt (Desk BreakCommit) e)
        (λ b. refl)
        (owned_same P t.desk actors a x (actor_then {P = P} {A = A} shape (Stands t) devices x (Desk BreakCommit) got) ex k.owned (commit_broken t.desk) refl refl)

    -- it goes on
    pub step_keeps : (job : Job) → x.task ≡ Some (job, plan) → (next : Want) (got : Got) (read : List Bytes) (chosen : Chosen P A) → next ≡ want plan → Gives shape (standing P A shape images t commit devices actors n) x job next got read chosen → After next got chosen
    step_keeps (Migrate m b) xt (Desk (Map bl c)) Done read (Asks new) e g = map_keeps P A shape images t commit devices actors n known f rule all_suited k a x ex m b plan xt bl c new e g.1.0 g.1.1 g.1.2
    step_keeps (Migrate m b) xt (Desk (Map bl c)) (GotRefused refusal) read Plain e g = map_refused_keeps P A shape images t commit devices actors n known f rule all_suited k a x ex m b plan xt bl c refusal e
    step_keeps (Migrate m b) xt (Desk (Map bl c)) got read chosen e g = absurd g.1
    step_keeps (Migrate m b) xt (Desk (Unmap bl)) got read (Asks new) e g = subst (λ (v : Got). After (Desk (Unmap bl)) v (Asks new)) (sym g.1) (unmap_keeps P A shape images t commit devices actors n known f rule all_suited k a x ex m b plan xt bl new e g.2)
    step_keeps (Migrate m b) xt (Desk (Unmap bl)) got read chosen e g = absurd g.2
    step_keeps (Migrate m b) xt (Desk (ReleaseOrder bl)) got read (Asks new) e g = subst (λ (v : Got). After (Desk (ReleaseOrder bl)) v (Asks new)) (sym g.1) (release_keeps P A shape images t commit devices actors n known f rule all_suited k a x ex m b plan xt bl new e g.2)
    step_keeps (Migrate m b) xt (Desk (ReleaseOrder bl)) got read chosen e g = absurd g.2
    step_keeps (Write ext content) xt (Desk (Unmap bl)) got read (Asks new) e g = subst (λ (v : Got). After (Desk (Unmap bl)) v (Asks new)) (sym g.1) (request_unmap_keeps P A shape images t commit devices actors n known f rule all_suited k a x ex (Write ext content) tt plan xt bl new e g.2)
    step_keeps (Write ext content) xt (Desk (Unmap bl)) got read chosen e g = absurd g.2
    step_keeps (Invalidate b) xt (Desk (Unmap bl)) got read (Asks new) e g = subst (λ (v : Got). After (Desk (Unmap bl)) v (Asks new)) (sym g.1) (request_unmap_keeps P A shape images t commit devices actors n known f rule all_suited k a x ex (Invalidate b) tt plan xt bl new e g.2)
    step_keeps (Invalidate b) xt (Desk (Unmap bl)) got read chosen e g = absurd g.2
    step_keeps Flush xt (Desk (ReleaseOrder bl)) got read (Asks new) e g = subst (λ (v : Got). After (Desk (ReleaseOrder bl)) v (Asks new)) (sym g.1) (flush_release_keeps P A shape images t commit devices actors n known f rule all_suited k a x ex plan xt bl new e g.2)
    step_keeps Flush xt (Desk (ReleaseOrder bl)) got read chosen e g = absurd g.2
    step_keeps job xt (Cell step) got read chosen e g = subst (λ (v : Got). After (Cell step) v chosen) (sym g.1) (cell_keeps P A shape images t commit devices actors n known f rule all_suited k a x ex job plan xt step e)
    step_keeps job xt (Device step) got read chosen e g = device_keeps P A shape images t commit devices actors n known f rule all_suited k a x ex job plan xt step e got
        (λ j is. inl (gives_done P A shape (standing P A shape images t commit devices actors n) x job j step got read chosen (own P A shape images t commit devices actors n known f rule all_suited k a x ex job plan xt (OnBlock j) (Device step) is e) g))
        (λ s. inl (suspend_gives_done P A shape (standing P A shape images t commit devices actors n) x t step got read chosen refl (subst (λ (j : Job). Gives shape (standing P A shape images t commit devices actors n) x j (Device step) got read chosen) s g)))
    step_keeps job xt (End answer) got read chosen e g = answer_keeps P A shape images t commit devices actors n known f rule all_suited k a x ex job plan xt answer got e
    step_keeps job xt (Desk EndCommit) got read chosen e g = ends_keeps job xt got chosen e g.1
    step_keeps job xt (Desk BreakCommit) got read chosen e g = breaks_keeps job xt got chosen e g.1
    step_keeps job xt (Desk (Arrive most)) got read chosen e g = arrives_keeps job xt most got chosen e g.1
    step_keeps job xt (Desk (Ask most)) got read chosen e g = asked_keeps job xt most got chosen e g.1
    step_keeps job xt (Desk (BeginCommit most)) got read chosen e g = begins_keeps job xt most got chosen e g.1
    step_keeps job xt next got read chosen e g = absurd g

    -- a step on a device that fails
    pub fault_keeps : (job : Job) → x.task ≡ Some (job, plan) → (step : DeviceStep) (chosen : Chosen P A) → Device step ≡ want plan → After (Device step) Fault chosen
    fault_keeps job xt step chosen e = device_keeps P A shape images t commit devices actors n known f rule all_suited k a x ex job plan xt step e Fault (λ j is. inr refl) (λ s. inr refl)
