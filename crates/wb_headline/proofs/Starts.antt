-- Whatever is started is followed: a read, a write, a flush, a suspend, an opening, and a migration or a replacement, under an order that is given or again under one that was kept.
use Rattle.std.proofs.Common.{◌≡◌, ◌∙◌, ◌<◌, ◌+◌, ◌-◌, ◌/◌, inl, inr, ℕ, zero, suc, true, false, List, [], ◌∷◌, Option, Some, None, refl, sym, ap, subst, arith, length, slice_get, slice_set, Contains, ◌^◌, Bool, get_or}
use Rattle.std.proofs.lemmas.List.{length-set, length-map}
use Rattle.std.proofs.lemmas.List.Elements.{Contains-append_left}
use Rattle.wb_types.proofs.Lists.{set_cases}
use Rattle.wb_types.specs.Extents.{IsCutInto}
use Rattle.wb_types.specs.declared.extent.Extent.{Extent}
use Rattle.wb_types.specs.declared.mode.Mode.{Mode}
use Rattle.wb_types.specs.declared.mode.Mode.TheVariants.{Writeback, Passthrough}
use Rattle.wb_disk.specs.Device.{Content as Bytes, History}
use Rattle.wb_words.specs.SharedWords.{flag}
use Rattle.wb_words.specs.declared.card.Hold.TheVariants.{Nothing}
use Rattle.wb_tasks.specs.Tables.{Reading as ReadingPart, Invalidating as InvalidatingPart, OnBlock, whole_block}
use Rattle.wb_tasks.specs.Plan.{Plan, table}
use Rattle.wb_policy.specs.declared.order.Order.{Order}
use Rattle.wb_devices.specs.declared.devices.Devices.{Devices}
use Rattle.wb_devices.specs.declared.running.RunningCommit.{RunningCommit}
use Rattle.wb_promise.specs.declared.job.Job.{Job}
use Rattle.wb_promise.specs.declared.job.Job.TheVariants.{Read, Write, Flush, Suspend, Open, Migrate, Replace, Invalidate}
use Rattle.wb_promise.specs.States.{Shape, State, Actor, Target, Phase, Stands, Gone, Opens, OfTarget, resting, block_size}
use Rattle.wb_promise.specs.Happenings.{blocks_left, block_range, extent_refusal, task_job, Chosen, Cut, Orders, StartGives, begun_as, order_for, write_job, invalidated_range}
use Rattle.wb_promise.specs.Effects.{all_resting, phase_given, given, unseen}
use Rattle.wb_promise.specs.Clerk.{Notes, Doing, begun, put, nobody}
use Rattle.wb_runs.proofs.Images.{Images, later_of}
use Rattle.wb_runs.proofs.Metadata.{MetadataKept, kept_readable, unknowing}
use Rattle.wb_runs.proofs.Extents.{AllWithin, MayStart, may_start, some_sectors, cut_within, cut_of_block}
use Rattle.wb_runs.proofs.Lists.{rests}
use Rattle.wb_link.specs.Tables.{Job as AbstractJob}
use Rattle.wb_refines.specs.Commits.{commit_there}
use Rattle.wb_link.specs.World.{World, abstract_after_all, Shared, Mapped as MappedThere, NamesBlock as NamesThere}
use Rattle.wb_link.specs.Openings.{Opens as OpensThere, Settling, MayOpen}
use Rattle.wb_refines.specs.Translation.{job_for}
use Rattle.wb_simulation.specs.Sites.{StateTakesClean}
use Rattle.wb_simulation.specs.Actors.{IsBusyAt, AreAmongOthers}
use Rattle.wb_simulation.specs.Opened.{AreAtRest}
use Rattle.wb_simulation.specs.Steps.{IsPart}
use Rattle.wb_simulation.specs.Telling.{Quietly, Starts, Resumes}
use Rattle.wb_simulation.specs.Worlds.{Stays, Turn, TurnedTo, DeskTurnedTo, WorldFollowsBy}
use Rattle.wb_simulation.specs.Laws.{Begun}
use Rattle.wb_simulation.proofs.Starting.{starts_followed}
use Rattle.wb_simulation.proofs.Opening.{openings_followed, images_followed}
use Rattle.wb_simulation.proofs.Noted.{notes_followed}
use Rattle.wb_headline.specs.Desks.{live_orders, block_there, DeskAgrees}
use Rattle.wb_contents.proofs.Lists.{there_is as there}
use Rattle.wb_headline.proofs.Following.{situation, size, most, Followed, Goes}
use Rattle.wb_headline.proofs.Arriving.{SameSectors, sized_so, arrives, opens, agreeing}
use Rattle.wb_headline.proofs.Targets.{standing, beside, noted_within, stays_on, leads_on}
use Rattle.std.proofs.lemmas.Option.{get_or_from_slice_get, slice_get_within}
use Rattle.wb_types.specs.declared.number.OBlock.{OBlock}
use Rattle.wb_types.specs.declared.number.CBlock.{CBlock}
use Rattle.wb_policy.specs.Law.{IsMappedAt}
use Rattle.wb_policy.specs.declared.order.Order.TheVariants.{Promote as PromoteOrder, Replace as ReplaceOrder, Demote as DemoteOrder, Clean as CleanOrder}
use Rattle.wb_space.specs.declared.block.Block.{Block}
use Rattle.wb_space.specs.declared.block.Block.TheVariants.{Free, Mapped, Reserved}
use Rattle.wb_space.specs.Blocks.{state}
use Rattle.wb_orders.specs.Named.{first_of, second_of, IsNamed}
use Rattle.wb_orders.specs.Orders.{AreOrders, order_at}
use Rattle.wb_desk.specs.Desks.{DeskInvariant, MayReserve, Names, holdings, sectors_asked}
use Rattle.wb_desk.specs.Calls.{reserved}
use Rattle.wb_desk.proofs.Leaving.{mapped_state}
use Rattle.wb_tasks.specs.declared.step.Migration.{Migration}
use Rattle.wb_tasks.specs.declared.step.Migration.TheVariants.{Promote, Demote, Clean}
use Rattle.wb_promise.specs.declared.event.What.TheVariants.{Started}
use Rattle.wb_runs.proofs.InsideRuns.{some_there, in_one_block}
use Rattle.wb_runs.proofs.Desks.{reserved_stands}
use Rattle.wb_contents.specs.Volume.{Locations}
use Rattle.std.proofs.lemmas.Bool.{eq-eqb}
use Rattle.wb_simulation.specs.Carried.{is_at, order_there, replacement_there, IsOrderFor}
use Rattle.wb_simulation.specs.Migrating.{order_of_block, IsUngiven, MayBeGiven, MayBeKept, given_by, migrates}
use Rattle.wb_simulation.specs.Noted.{told}
use Rattle.wb_simulation.specs.Noting.{NotesAgree}
use Rattle.wb_simulation.proofs.Migrations.{migrations_followed}
use Rattle.wb_simulation.proofs.Orders.{cache_there}
use Rattle.wb_headline.proofs.Desking.{desk_stays, desk_reserves}
use Rattle.wb_runs.proofs.Located.{stands_there, unmapped_there}
use Rattle.wb_headline.proofs.Seeing.{live_here, named, orders_set, slot_there, slot_within, vacant_there}
use Rattle.wb_runs.proofs.Plans.{task_suits}
use Rattle.wb_headline.proofs.Whole.{Whole, at_target}

-- ---- the extents of a request are of its block

pub part_of : (shape : Shape) (mode : Mode) (extent : Extent) (cut : List Extent) → extent_refusal shape extent ≡ None → IsCutInto extent cut → IsPart (block_size shape) (block_range shape mode extent cut)
part_of shape mode extent cut inside cuts = record {
  some = some_sectors shape extent m;
  sized = refl;
  each = λ e c.
      let w = some_there extent cut all e c in
      let first = cut_of_block shape extent cut m all e c e.first (omega arith) (let s = w.some in omega (arith, s)) in
      let last = cut_of_block shape extent cut m all e c (e.first + e.count - 1) (let s = w.some in omega (arith, s)) (let s = w.some in omega (arith, s)) in
      record { some = w.some; block_is = first; room = in_one_block (block_size shape) e.first e.count (extent.first / block_size shape) (some_sectors shape extent m) w.some first last };
}
  where
    m : MayStart shape extent
    m = may_start shape extent inside

    all : AllWithin extent cut
    all = cut_within extent cut cuts

module _ (P A : Type 0) (shape : Shape) (images : Images) (t : Target P) (commit : Option RunningCommit) (devices : Devices (List History)) (actors : List Actor) (n : Notes) (known : MetadataKept {P = P} {A = A} shape.geometry images (Stands t) commit devices.metadata)
    (f : Followed P A shape images (standing P A shape images t commit devices actors n) n) (a : ℕ) (x : Actor) (ex : slice_get actors a ≡ Some x) (xt : x.task ≡ None) where
  -- an actor that has been given a job, there or not
  begins_so : (job : Job) (plan : Plan) (seen' : List Bool) (of : AbstractJob) → Begun of a f.site.world (situation shape t devices actors) (record x { task = Some (job, plan); seen = seen' }) →
      Goes P A shape (record { devices = devices; commit = commit; phase = Stands (record { words = t.words; desk = t.desk }); actors = slice_set actors a (record x { task = Some (job, plan); seen = seen' }) }) (put n a (Some (begun n job)))
  begins_so job plan seen' of b = by b
    where
      n' : Notes
      n' = put n a (Some (begun n job))

      y : (v : Rattle.wb_link.specs.World.AbstractActor) × (slice_get f.site.world.actors a ≡ Some v)
      y = beside P A shape images t commit devices actors n known f a x ex

      less : a < length n.doings
      less = noted_within P A shape images t commit devices actors n known f a x ex

      was : (d : Option Doing) × (slice_get n.doings a ≡ Some d)
      was = there n.doings a less

      y' : Actor
      y' = record x { task = Some (job, plan); seen = seen' }

      by : Begun of a f.site.world (situation shape t devices actors) (record x { task = Some (job, plan); seen = seen' }) →
          Goes P A shape (record { devices = devices; commit = commit; phase = Stands (record { words = t.words; desk = t.desk }); actors = slice_set actors a (record x { task = Some (job, plan); seen = seen' }) }) (put n a (Some (begun n job)))
      by (inl g) = stays_on P A shape images t commit devices actors n known f a x ex (Starts of) t.words devices y' (put n a (Some (begun n job))) g
          (notes_followed.starts of job Stays a f.site.world _ _ g y.0 n f.notes y.1 less f.notes_agree was.0 was.1) (length-set n.doings a (Some (begun n job))) refl refl
      by (inr g) =
          let none = (subst (λ (q : Option (Job × Plan)). IsBusyAt (size P A shape) (most P A shape) (f.phase.agrees.each a x y.0 ex y.1).failed q x.card x.share y.0) xt (f.phase.agrees.each a x y.0 ex y.1).at).0 in
          stays_on P A shape images t commit devices actors n known f a x ex Quietly t.words devices y' (put n a (Some (begun n job))) g
          (notes_followed.starts_late job Stays a f.site.world _ _ g y.0 n f.notes y.1 less f.notes_agree none) (length-set n.doings a (Some (begun n job))) refl refl

  pub read_starts : (extent : Extent) (cut : List Extent) → AreAmongOthers actors → x.card.hold ≡ Nothing → extent_refusal shape extent ≡ None → IsCutInto extent cut →
      Goes P A shape (record { devices = devices; commit = commit; phase = Stands (record { words = t.words; desk = t.desk }); actors = slice_set actors a (record x { task = Some (Read extent, table (task_job shape t.desk.mode x.awaiting (Read extent) cut [])) }) }) (put n a (Some (begun n (Read extent))))
  read_starts extent cut among holds inside cuts = begins_so (Read extent) (table (task_job shape t.desk.mode x.awaiting (Read extent) cut [])) x.seen (job_for (size P A shape) [] (OnBlock (ReadingPart (block_range shape t.desk.mode extent cut))))
      (starts_followed.read (situation shape t devices actors) a x extent (block_range shape t.desk.mode extent cut) f.site.world ex xt holds (part_of shape t.desk.mode extent cut inside cuts) refl among f.phase.agrees)

  pub write_starts : (extent : Extent) (content : Bytes) (cut : List Extent) → AreAmongOthers actors → x.card.hold ≡ Nothing → extent_refusal shape extent ≡ None → IsCutInto extent cut →
      Goes P A shape (record { devices = devices; commit = commit; phase = Stands (record { words = t.words; desk = t.desk }); actors = slice_set actors a (record x { task = Some (Write extent content, table (task_job shape t.desk.mode x.awaiting (Write extent content) cut [])) }) }) (put n a (Some (begun n (Write extent content))))
  write_starts extent content cut among holds inside cuts = begins_so (Write extent content) (table (task_job shape t.desk.mode x.awaiting (Write extent content) cut [])) x.seen (job_for (size P A shape) content (OnBlock (write_job t.desk.mode (block_range shape t.desk.mode extent cut))))
      (starts_followed.write (situation shape t devices actors) a x extent content (block_range shape t.desk.mode extent cut) f.site.world ex xt holds (part_of shape t.desk.mode extent cut inside cuts) refl among f.phase.agrees)

  -- an invalidation, in passthrough
  pub invalidation_starts : (block : OBlock) → AreAmongOthers actors → x.card.hold ≡ Nothing → t.desk.mode ≡ Passthrough →
      Goes P A shape (record { devices = devices; commit = commit; phase = Stands (record { words = t.words; desk = t.desk }); actors = slice_set actors a (record x { task = Some (Invalidate block, table (task_job shape t.desk.mode x.awaiting (Invalidate block) [] [])) }) }) (put n a (Some (begun n (Invalidate block))))
  invalidation_starts block among holds passes = begins_so (Invalidate block) (table (task_job shape t.desk.mode x.awaiting (Invalidate block) [] [])) x.seen (job_for (size P A shape) [] (OnBlock (InvalidatingPart (invalidated_range shape block))))
      (starts_followed.invalidate (situation shape t devices actors) a x block (invalidated_range shape block) f.site.world ex xt holds (record { some = omega (arith, shape.geometry.within.block_from); sized = refl; each = λ e c. absurd (omega (arith, c.1)) }) passes among f.phase.agrees)

  -- a flush
  pub flush_starts : (cut : List Extent) → AreAmongOthers actors → Goes P A shape (record { devices = devices; commit = commit; phase = Stands (record { words = t.words; desk = t.desk }); actors = slice_set actors a (record x { task = Some (Flush, table (task_job shape t.desk.mode x.awaiting Flush cut [])) }) }) (put n a (Some (begun n Flush)))
  flush_starts cut among = begins_so Flush (table (task_job shape t.desk.mode x.awaiting Flush cut [])) x.seen (commit_there false)
      (starts_followed.flush (situation shape t devices actors) a x (blocks_left x.awaiting) f.site.world ex xt among f.phase.agrees)

  -- a suspend, which looks at these blocks and has seen none
  pub suspend_starts : (looks : List OBlock) → AreAtRest actors →
      Goes P A shape (record { devices = devices; commit = commit; phase = Stands (record { words = t.words; desk = t.desk }); actors = slice_set actors a (record x { task = Some (Suspend, table (task_job shape t.desk.mode x.awaiting Suspend [] looks)); seen = unseen shape Suspend x.seen }) }) (put n a (Some (begun n Suspend)))
  suspend_starts looks rest = begins_so Suspend (table (task_job shape t.desk.mode x.awaiting Suspend [] looks)) (unseen shape Suspend x.seen) (commit_there true)
      (starts_followed.suspend (situation shape t devices actors) a x looks (unseen shape Suspend x.seen) f.site.world ex rest f.phase.agrees)

-- ---- an opening, over whatever is there

module _ (P A : Type 0) (shape : Shape) (images : Images) (w : State P A) (n : Notes) (known : MetadataKept shape.geometry images w.phase w.commit w.devices.metadata) (f : Followed P A shape images w n) where
  -- none begins where a target stands that has not failed
  may_open : (phase : Phase P A) → w.phase ≡ phase → (OfTarget phase (λ t. t.words.fail ≡ 0) → ⊥) → MayOpen f.site
  may_open (Stands t) e not = inr (p.agrees.words_agree.fail ∙ failed t.words.fail not)
    where
      p : Rattle.wb_headline.proofs.Following.TargetFollows P A shape images t w.devices w.actors f.site
      p = subst (λ (q : Phase P A). Rattle.wb_headline.proofs.Following.PhaseFollows P A shape images q w.commit w.devices w.actors f.site) e f.phase

      failed : (k : ℕ) → (k ≡ 0 → ⊥) → flag k ≡ true
      failed zero n = absurd (n refl)
      failed (suc k) n = refl
  may_open other e not = inl (subst (λ (q : Phase P A). Rattle.wb_headline.proofs.Following.PhaseFollows P A shape images q w.commit w.devices w.actors f.site) e f.phase).devices_follow.down

  -- an opening begins
  pub opening_starts : (a : ℕ) (mode : Mode) (second : Bool) (y : Actor) → (OfTarget w.phase (λ t. t.words.fail ≡ 0) → ⊥) → y.task ≡ Some (Open mode second, table (task_job shape Writeback y.awaiting (Open mode second) [] [])) →
      Goes P A shape (record { devices = w.devices; commit = None; phase = Opens mode None; actors = slice_set (all_resting w.actors) a y }) (put (record n { doings = nobody n.doings }) a (Some (begun n (Open mode second))))
  opening_starts a mode second y not yt =
      let d = agreeing P A shape images w.phase w.commit w.devices w.actors f.site known f.phase in
      let l = openings_followed.begins shape.geometry (size P A shape) images.committed d.later mode f.site w.devices d.agree (may_open w.phase refl not) in
      let n' = put (record n { doings = nobody n.doings }) a (Some (begun n (Open mode second))) in
      let same : SameSectors n n' = record { histories = refl; finished = refl; floors = refl; doings = length-set (nobody n.doings) a (Some (begun n (Open mode second))) ∙ length-map n.doings (λ (o : Option Doing). None) } in
      let v = arrives P A shape images w n n' f same images.committed d.later (OpensThere mode Settling) w.devices l (λ e. absurd (cc)) in
      opens P A shape images d.later (OpensThere mode Settling) w.devices n' v (λ e. absurd (cc)) (slice_set (all_resting w.actors) a y)
      (sized_so P A shape w.actors (slice_set (all_resting w.actors) a y) n n' same (length-set (all_resting w.actors) a y ∙ length-map w.actors (λ (z : Actor). resting)) f.sized) mode None None
      (kept_readable shape.geometry images w.devices.metadata P A w.phase w.commit known)
      (λ b z job plan e zt. elim (set_cases (all_resting w.actors) a b y z e) [
        | inl here ↦
            let both : Some (Open mode second, table (task_job shape Writeback y.awaiting (Open mode second) [] [])) ≡ Some (job, plan) = sym yt ∙ ap (λ (q : Actor). q.task) (sym here.1) ∙ zt in
            let is = (Rattle.std.proofs.lemmas.Option.some_pair_parts (Open mode second) job (table (task_job shape Writeback y.awaiting (Open mode second) [] [])) plan both).1 in
            inl (record { total = shape.geometry.meta_sectors; left = shape.geometry.meta_sectors; stage = Settling; is = sym is; phase_is = refl; read = (refl, refl) })
        | inr other ↦ absurd (let none : z.task ≡ None = (rests w.actors b z other.1).0 in let bad : None ≡ Some (job, plan) = sym none ∙ zt in cc)
      ])

-- ---- a migration

-- what an order names there it names at the desk
named_there : (m : Locations) (k : ℕ) (o : Order) (v : ℕ) → NamesThere (order_there m k o) v → IsNamed o v
named_there m k (ReplaceOrder old x c) v n = by (is_at (m old.0) k) n
  where
    by : (t : Bool) → NamesThere (replacement_there t old.0 x.0 k) v → IsNamed (ReplaceOrder old x c) v
    by true (inl e) = inl e
    by true (inr e) = inr (let both : Some x.0 ≡ Some v = e in cc)
    by false (inl e) = inr e
    by false (inr e) = absurd (let bad : None ≡ Some v = e in cc)
named_there m k o v (inl e) = inl e
named_there m k o v (inr e) = absurd (let bad : None ≡ Some v = e in cc)

-- a migration's own order is of its block alone
plain_named : (m : Migration) (block : OBlock) (c : CBlock) (v : ℕ) → NamesThere (order_of_block block c None) v → IsNamed (order_for m block) v
plain_named (Promote k) block c v (inl e) = inl e
plain_named m block c v (inr e) = absurd (let bad : None ≡ Some v = e in cc)
plain_named m block c v (inl e) = inl e

plain_there : (l : Locations) (m : Migration) (block : OBlock) (c : CBlock) → order_there l c.0 (order_for m block) ≡ order_of_block block c None
plain_there l (Promote k) block c = refl
plain_there l m block c = refl

module _ (P A : Type 0) (shape : Shape) (t : Target P) (commit : Option RunningCommit) (devices : Devices (List History)) (actors : List Actor) (n : Notes) (b : Whole P A shape (at_target P A shape t commit devices actors) n) (a : ℕ) (x : Actor) (ex : slice_get actors a ≡ Some x) (xt : x.task ≡ None) (among : AreAmongOthers actors) where
  holds : x.card.hold ≡ Nothing
  holds = task_suits shape.geometry.origin_blocks x xt (b.used.suited a x ex)

  are_orders : AreOrders t.desk.orders
  are_orders = b.goes.known.is.orders

  kept : DeskInvariant unknowing t.desk
  kept = b.goes.known.is.kept

  abbrev slots_now : List (Option Order)
  slots_now = live_orders t.desk

  names : (c : ℕ) (q : Order) → slice_get slots_now c ≡ Some (Some q) → Names (holdings t.desk) (state t.desk.space.blocks c) c q
  names = named P t.desk kept

  -- no live order shares a block with one that may be given
  ungiven : (o : Order) (block : OBlock) (c : CBlock) (next : Option ℕ) → MayReserve t.desk c o → ((v : ℕ) → NamesThere (order_of_block block c next) v → IsNamed o v) → IsUngiven b.goes.followed.site.world.shared.mapping slots_now (order_of_block block c next)
  ungiven o block c next may named_by k p there = (let l = live_here t.desk.orders.slots k p there in (
    λ v i j. (let busy = are_orders.marks k v l.0 l.1 (subst (λ (u : Order). IsNamed u v) (sym l.2) (named_there b.goes.followed.site.world.shared.mapping k p v i)) in let bad : true ≡ false = sym busy ∙ idle v (named_by v j) in absurd (cc)),
    λ s. (let none = get_or_from_slice_get t.desk.orders.slots c.0 None None may.give.vacant in let same : k ≡ c.0 = sym (cache_there b.goes.followed.site.world.shared.mapping k p) ∙ s in let bad : Some l.0 ≡ None = sym l.1 ∙ ap (order_at t.desk.orders.slots) same ∙ none in absurd (cc)),
  ))
    where
      idle : (v : ℕ) → IsNamed o v → get_or t.desk.orders.busy v false ≡ false
      idle v (inl e) = ap (λ (i : ℕ). get_or t.desk.orders.busy i false) (sym e) ∙ get_or_from_slice_get t.desk.orders.busy (first_of o).0 false false may.give.idle.0
      idle v (inr e) = ap (λ (i : ℕ). get_or t.desk.orders.busy i false) (sym e) ∙ get_or_from_slice_get t.desk.orders.busy (second_of o).0 false false may.give.idle.1

  -- a block that is mapped is so there
  mapped_state_here : (block : OBlock) (c : ℕ) → IsMappedAt (holdings t.desk) block.0 c → state t.desk.space.blocks c ≡ Mapped
  mapped_state_here block c at = get_or_from_slice_get t.desk.space.blocks c Mapped Free (mapped_state unknowing t.desk block.0 c kept at)

  mapped_here : (block : OBlock) (c : ℕ) → IsMappedAt (holdings t.desk) block.0 c → (b.goes.followed.site.world.shared.mapping block.0 ≡ Some c) × (b.goes.followed.site.world.shared.blocks c ≡ MappedThere)
  mapped_here block c at = (
    ap (λ (m : ℕ → Option ℕ). m block.0) b.goes.followed.phase.desk.mapping ∙ stands_there P t.desk kept block.0 c at,
    b.goes.followed.phase.desk.blocks c ∙ ap (λ (v : Block). block_there v) (mapped_state_here block c at),
  )

  -- what is asked there of the block and the cache block of an order that is given
  may_be_given : (m : Migration) (block : OBlock) (c : CBlock) → MayReserve t.desk c (order_for m block) → MayBeGiven m block.0 c.0 b.goes.followed.site.world.shared
  may_be_given (Promote k) block c may = (
    ap (λ (v : CBlock). v.0) (sym may.lawful.0),
    ap (λ (m : ℕ → Option ℕ). m block.0) b.goes.followed.phase.desk.mapping ∙ unmapped_there P t.desk kept block.0 may.lawful.2,
    b.goes.followed.phase.desk.blocks c.0 ∙ ap (λ (v : Block). block_there v) (ap (λ (v : CBlock). state t.desk.space.blocks v.0) may.lawful.0 ∙ get_or_from_slice_get t.desk.space.blocks k.0 Free Free may.lawful.1),
  )
  may_be_given Demote block c may = mapped_here block c.0 may.lawful
  may_be_given Clean block c may = mapped_here block c.0 may.lawful

  -- what an order that lives says still
  may_be_kept : (m : Migration) (block : OBlock) (c : ℕ) → slice_get slots_now c ≡ Some (Some (order_for m block)) → MayBeKept m c b.goes.followed.site.world.shared
  may_be_kept (Promote k) block c live = (let v = names c (PromoteOrder block k) live in (sym v.0, b.goes.followed.phase.desk.blocks c ∙ ap (λ (b : Block). block_there b) v.1))
  may_be_kept Demote block c live = (mapped_here block c (names c (DemoteOrder block) live)).1
  may_be_kept Clean block c live = (mapped_here block c (names c (CleanOrder block) live)).1

  images_stay : (m : Migration) (c : ℕ) (s s' : Shared) → TurnedTo (given_by m c) s s' → TurnedTo Stays s s'
  images_stay (Promote k) c s s' d = d
  images_stay m c s s' d = d

  module _ (migration : Migration) (block : OBlock) (cut : List Extent) (cuts : IsCutInto (whole_block (size P A shape) block) cut) where
    abbrev begun_job : Job
    begun_job = Migrate migration block

    abbrev n' : Notes
    n' = put n a (Some (begun n begun_job))

    abbrev begun_plan : Plan
    begun_plan = migrates (size P A shape) migration block cut

    some : 0 < size P A shape
    some = omega (arith, shape.geometry.within.block_from)

    small : (c : ℕ) → c < length t.desk.orders.slots → c < 2 ^ 32
    small c l = let many = kept.slots in let limit = t.desk.geometry.within.cache_to in omega (arith, l, many, limit)

    -- it is noted to be at its job, while nobody is told of it there
    notes_then : (turn : Turn) (orders' : List (Option Order)) (y : Actor) (h : WorldFollowsBy turn Resumes a b.goes.followed.site.world (record (situation shape t devices actors) { orders = orders' }) y) → y.task ≡ Some (begun_job, begun_plan) →
        NotesAgree (size P A shape) n' (abstract_after_all b.goes.followed.site.world h.records) (told b.goes.followed.notes h.records)
    notes_then turn orders' y h task =
        let at_it = beside P A shape b.goes.images t commit devices actors n b.goes.known b.goes.followed a x ex in
        let was = there n.doings a (noted_within P A shape b.goes.images t commit devices actors n b.goes.known b.goes.followed a x ex) in
        notes_followed.resumes begun_job turn a b.goes.followed.site.world _ _ h at_it.0 n b.goes.followed.notes at_it.1 (noted_within P A shape b.goes.images t commit devices actors n b.goes.known b.goes.followed a x ex) b.goes.followed.notes_agree was.0 was.1

    -- a migration under an order that is given with it
    under_given : (o : Order) (c : CBlock) (next : Option ℕ) → MayReserve t.desk c o → IsOrderFor migration block next o → order_there b.goes.followed.site.world.shared.mapping c.0 o ≡ order_of_block block c next → ((v : ℕ) → NamesThere (order_of_block block c next) v → IsNamed o v) → ((v : ℕ) → next ≡ Some v → b.goes.followed.site.world.shared.mapping v ≡ None) →
        MayBeGiven migration block.0 c.0 b.goes.followed.site.world.shared → ((s' : Shared) → DeskTurnedTo (given_by migration c.0) b.goes.followed.site.world.shared s' → DeskAgrees (reserved t.desk c o false) s') →
        Goes P A shape (record { devices = devices; commit = commit; phase = Stands (record { words = t.words; desk = reserved t.desk c o false }); actors = slice_set actors a (record x { task = Some (begun_job, begun_plan); orders = o ∷ x.orders }) }) n'
    under_given o c next may of there named_by waits given_there desk_then =
        let desk' = reserved t.desk c o false in
        let y : Actor = record x { task = Some (begun_job, begun_plan); orders = o ∷ x.orders } in
        let s = b.goes.followed.site.world.shared in
        let less = slice_get_within t.desk.orders.slots c.0 None may.give.vacant in
        let h = migrations_followed.starts (situation shape t devices actors) a x migration block c next o cut b.goes.followed.site.world ex xt holds some (small c.0 less) cuts
        (vacant_there t.desk.orders.slots c.0 may.give.vacant) of there (ungiven o block c next may named_by) waits given_there may.mode among b.goes.followed.phase.agrees in
        let s' = (abstract_after_all b.goes.followed.site.world h.records).shared in
        let turned = images_stay migration c.0 s s' h.turned in
        let readable = kept_readable shape.geometry b.goes.images devices.metadata P A (Stands t) commit b.goes.known in
        leads_on P A shape b.goes.images t commit devices actors n b.goes.known b.goes.followed a x ex (given_by migration c.0) Resumes (record { words = t.words; desk = desk' }) commit devices y n' b.goes.images (slice_set slots_now c.0 (Some o)) h
        (notes_then (given_by migration c.0) (slice_set slots_now c.0 (Some o)) y h refl) (length-set n.doings a (Some (begun n begun_job))) refl (reserved_stands P shape.geometry b.goes.images t.desk commit devices.metadata c o b.goes.known may)
        (sym (orders_set t.desk.orders.slots c.0 (Some (record { order = o; sectors = sectors_asked t.desk.geometry o; threshold = t.desk.threshold; number = t.desk.orders.given; waits = false })))) (desk_then s' h.desk)
        (images_followed.stay shape.geometry b.goes.images.committed (later_of b.goes.images) devices.metadata devices.metadata s s' b.goes.followed.phase.images_agree turned readable.read)
        (λ state e. let r = b.goes.followed.phase.running state e in (turned.1 ∙ r.0, subst (StateTakesClean state) (sym turned.4) r.1))

    -- one under an order that its actor has kept
    again : (o : Order) (next : Option ℕ) → Contains x.orders o → IsOrderFor migration block next o → ((c : CBlock) → slice_get slots_now c.0 ≡ Some (Some o) → (order_there b.goes.followed.site.world.shared.mapping c.0 o ≡ order_of_block block c next) × MayBeKept migration c.0 b.goes.followed.site.world.shared) →
        Goes P A shape (record { devices = devices; commit = commit; phase = Stands t; actors = slice_set actors a (record x { task = Some (begun_job, begun_plan) }) }) n'
    again o next has of kept_there =
        let had = Contains-append_left x.orders x.awaiting o has in
        let l = b.keeping.owned.live a x o ex had in
        let here : slice_get slots_now l.cache.0 ≡ Some (Some o) = slot_there t.desk.orders.slots l.cache.0 l.live l.there ∙ ap (λ (q : Order). Some (Some q)) l.same in
        let y : Actor = record x { task = Some (begun_job, begun_plan) } in
        let k = kept_there l.cache here in
        let h = migrations_followed.again (situation shape t devices actors) a x migration block l.cache next o cut b.goes.followed.site.world ex xt holds some (small l.cache.0 (slot_within t.desk.orders.slots l.cache.0 l.live l.there)) cuts here of k.0 has
        (λ d z ez i. b.keeping.owned.one d a z x o ez ex i had) k.1 among b.goes.followed.phase.agrees in
        stays_on P A shape b.goes.images t commit devices actors n b.goes.known b.goes.followed a x ex Resumes t.words devices y n' h (notes_then Stays slots_now y h refl) (length-set n.doings a (Some (begun n begun_job))) refl refl

  -- ---- any start

  -- what comes of the desk where a migration's own order is given
  desk_given : (m : Migration) (block : OBlock) (c : CBlock) (may : MayReserve t.desk c (order_for m block)) (s' : Shared) → DeskTurnedTo (given_by m c.0) b.goes.followed.site.world.shared s' → DeskAgrees (reserved t.desk c (order_for m block) false) s'
  desk_given (Promote k) block c may s' d =
      let less = slice_get_within t.desk.orders.slots c.0 None may.give.vacant in
      let many_slots = kept.slots in
      let many_blocks = kept.blocks in
      subst (λ (v : CBlock). DeskAgrees (reserved t.desk c (PromoteOrder block v) false) s') may.lawful.0 (desk_reserves P t.desk b.goes.followed.site.world.shared s' b.goes.followed.phase.desk block c (omega (arith, less, many_slots, many_blocks)) d.0 d.1)
  desk_given Demote block c may s' d = desk_stays P t.desk b.goes.followed.site.world.shared s' b.goes.followed.phase.desk (reserved t.desk c (DemoteOrder block) false) refl refl d.0 d.1
  desk_given Clean block c may s' d = desk_stays P t.desk b.goes.followed.site.world.shared s' b.goes.followed.phase.desk (reserved t.desk c (CleanOrder block) false) refl refl d.0 d.1

  -- an order of its own that it has kept
  again_plain : (m : Migration) (block : OBlock) (cut : List Extent) (cuts : IsCutInto (whole_block (size P A shape) block) cut) → Contains x.orders (order_for m block) →
      Goes P A shape (record { devices = devices; commit = commit; phase = Stands t; actors = slice_set actors a (record x { task = Some (Migrate m block, migrates (size P A shape) m block cut) }) }) (put n a (Some (begun n (Migrate m block))))
  again_plain m block cut cuts has = again m block cut cuts (order_for m block) None has (inl (refl, refl)) (λ c here. (plain_there b.goes.followed.site.world.shared.mapping m block c, may_be_kept m block c.0 here))

  -- where the block that was to leave has left, its replacement is the order of the one that follows
  follows_there : (old block : OBlock) (cache : CBlock) → slice_get t.desk.space.blocks cache.0 ≡ Some Reserved → (c : CBlock) → slice_get slots_now c.0 ≡ Some (Some (ReplaceOrder old block cache)) →
      (order_there b.goes.followed.site.world.shared.mapping c.0 (ReplaceOrder old block cache) ≡ order_of_block block c None) × MayBeKept (Promote cache) c.0 b.goes.followed.site.world.shared
  follows_there old block cache at c here =
      let v = names c.0 (ReplaceOrder old block cache) here in
      let is : state t.desk.space.blocks c.0 ≡ Reserved = ap (state t.desk.space.blocks) v.0 ∙ get_or_from_slice_get t.desk.space.blocks cache.0 Reserved Free at in (
        elim v.2 [
          | inl m ↦ absurd (let bad : Mapped ≡ Reserved = sym (mapped_state_here old c.0 m) ∙ is in cc)
          | inr gone ↦ ap (λ (l : Option ℕ). replacement_there (is_at l c.0) old.0 block.0 c.0) (ap (λ (m : ℕ → Option ℕ). m old.0) b.goes.followed.phase.desk.mapping ∙ unmapped_there P t.desk kept old.0 gone.0)
        ],
        (sym v.0, b.goes.followed.phase.desk.blocks c.0 ∙ ap (λ (b : Block). block_there b) is),
      )

  pub any_start : (migration : Migration) (block : OBlock) (chosen : Chosen P A) → StartGives shape (Stands t) (Some x) (Migrate migration block) Started chosen →
      Goes P A shape (record { devices = devices; commit = commit; phase = phase_given {P = P} {A = A} (Stands t) (Migrate migration block) chosen; actors = slice_set actors a (given shape t.desk.mode x (Migrate migration block) chosen) }) (put n a (Some (begun n (Migrate migration block))))
  any_start (Promote cache) block (Cut cut) h = elim h.1 [
    | inl has ↦ again_plain (Promote cache) block cut h.0 has
    | inr (old, has, at) ↦ again (Promote cache) block cut h.0 (ReplaceOrder old block cache) None has (inr (refl, refl, refl)) (follows_there old block cache at)
  ]
  any_start Demote block (Cut cut) h = again_plain Demote block cut h.0 h.1
  any_start Clean block (Cut cut) h = again_plain Clean block cut h.0 h.1
  any_start migration block (Orders cut c) h = under_given migration block cut h.0 (order_for migration block) c None h.1 (inl (refl, refl)) (plain_there b.goes.followed.site.world.shared.mapping migration block c) (plain_named migration block c) (λ b e. absurd (let bad : None ≡ Some b = e in cc)) (may_be_given migration block c h.1) (desk_given migration block c h.1)
  any_start migration block chosen h = absurd h

  -- while the block that is to leave stands there, its replacement is its order
  leaves_there : (old new : OBlock) (k : CBlock) (c : ℕ) → IsMappedAt (holdings t.desk) old.0 c → order_there b.goes.followed.site.world.shared.mapping c (ReplaceOrder old new k) ≡ record { block = old.0; cache = c; next = Some new.0 }
  leaves_there old new k c at = ap (λ (l : Option ℕ). replacement_there (is_at l c) old.0 new.0 c) (mapped_here old c at).0 ∙ ap (λ (v : Bool). replacement_there v old.0 new.0 c) (eq-eqb c c refl)

  pub any_replacement : (old new : OBlock) (chosen : Chosen P A) → StartGives shape (Stands t) (Some x) (Replace old new) Started chosen →
      Goes P A shape (record { devices = devices; commit = commit; phase = phase_given {P = P} {A = A} (Stands t) (Replace old new) chosen; actors = slice_set actors a (given shape t.desk.mode x (Replace old new) chosen) }) (put n a (Some (begun n (begun_as (Replace old new)))))
  any_replacement old new (Cut cut) (cuts, (cache, has, m)) = again Demote old cut cuts (ReplaceOrder old new cache) (Some new.0) has (inr (refl, refl))
      (λ c here. let v = names c.0 (ReplaceOrder old new cache) here in let at = subst (λ (k : ℕ). IsMappedAt (holdings t.desk) old.0 k) (sym v.0) m in (leaves_there old new cache c.0 at, (mapped_here old c.0 at).1))
  any_replacement old new (Orders cut c) h = under_given Demote old cut h.0 (ReplaceOrder old new c) c (Some new.0) h.1 (inr (refl, refl)) (leaves_there old new c c.0 h.1.lawful.1) named_by
      (λ v e. let both : Some new.0 ≡ Some v = e in let same : new.0 ≡ v = cc in subst (λ (k : ℕ). b.goes.followed.site.world.shared.mapping k ≡ None) same (ap (λ (m : ℕ → Option ℕ). m new.0) b.goes.followed.phase.desk.mapping ∙ unmapped_there P t.desk kept new.0 h.1.lawful.2)) (mapped_here old c.0 h.1.lawful.1)
      (λ s' d. desk_stays P t.desk b.goes.followed.site.world.shared s' b.goes.followed.phase.desk (reserved t.desk c (ReplaceOrder old new c) false) refl refl d.0 d.1)
    where
      named_by : (v : ℕ) → NamesThere (order_of_block old c (Some new.0)) v → IsNamed (ReplaceOrder old new c) v
      named_by v (inl e) = inl e
      named_by v (inr e) = inr (let both : Some new.0 ≡ Some v = e in cc)
  any_replacement old new chosen h = absurd h
