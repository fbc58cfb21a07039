-- A migration's start is followed: under an order that is given, or once more under one that lives.
use Rattle.std.proofs.Common.{◌++◌, false, ◌⊎◌, ◌≡◌, ◌≢◌, ◌<◌, ◌^◌, ◌∙◌, inl, inr, ℕ, true, List, [], ◌∷◌, Option, Some, None, refl, sym, ap, subst, slice_get, slice_set, Contains}
use Rattle.std.proofs.lemmas.Bool.{cases_eq}
use Rattle.wb_types.proofs.Lists.{Contains-first}
use Rattle.wb_types.specs.declared.extent.Extent.{Extent}
use Rattle.wb_types.specs.declared.number.OBlock.{OBlock}
use Rattle.wb_types.specs.declared.number.CBlock.{CBlock}
use Rattle.wb_types.specs.declared.mode.Mode.TheVariants.{Writeback, Passthrough}
use Rattle.wb_types.specs.Extents.{IsCutInto}
use Rattle.wb_words.specs.SharedWords.{flag}
use Rattle.wb_words.specs.declared.card.Hold.TheVariants.{Nothing as HoldsNothing}
use Rattle.wb_policy.specs.declared.order.Order.{Order}
use Rattle.wb_tasks.specs.Tables.{BlockRange, whole_block}
use Rattle.wb_tasks.specs.Plan.{Plan}
use Rattle.wb_tasks.specs.declared.step.Migration.{Migration}
use Rattle.wb_tasks.specs.declared.step.Migration.TheVariants.{Promote}
use Rattle.wb_link.specs.Tables.{Job as AbstractJob, Order as AbstractOrder, Finished as AnsweredDone, Script, Flag, Done as DoneThere, abstract_table as table_there}
use Rattle.wb_link.specs.World.{IsAbstractRun, World, is_alone, Shared, Start, Again, ShareNoBlock, Ungiven, MayStart, MayAgain, AbstractActor, abstract_reserved, Record, abstract_order_of as order_of_job, aside, abstract_taken, abstract_given, abstract_after_all, start_actor, again_actor}
use Rattle.wb_contents.proofs.Lists.{set_there, set_other, set_twice}
use Rattle.wb_refines.specs.Tasks.{AllInBlocks, IsResting}
use Rattle.wb_refines.specs.Models.{held_of}
use Rattle.wb_refines.specs.Translation.{offsets}
use Rattle.wb_refines.specs.Migrations.{order_on, job_under, migration_wants, Fills, migrating}
use Rattle.wb_refines.specs.Carrying.{without_block}
use Rattle.wb_refines.proofs.Carrying.{under_order}
use Rattle.wb_refines.proofs.Tasks.{within_offsets}
use Rattle.wb_promise.specs.declared.job.Job.TheVariants.{Migrate}
use Rattle.wb_promise.specs.States.{Actor}
use Rattle.wb_simulation.specs.Actors.{StandsFor, AreAmongOthers}
use Rattle.wb_simulation.proofs.Cut.{whole_part, whole_covered}
use Rattle.wb_contents.proofs.Positions.{changed_same, changed_other}
use Rattle.wb_link.proofs.Aside.{aside_cases}
use Rattle.wb_refines.specs.Going.{records, shared_after, gone, MayGo}
use Rattle.wb_refines.proofs.Going.{goes}
use Rattle.wb_simulation.specs.Steps.{IsPart}
use Rattle.wb_simulation.specs.Carried.{held, order_there, live_there, IsOf, IsOrderFor, IsCarried}
use Rattle.wb_simulation.specs.Telling.{Resumes, IsResumed, Given, Kept, Failing, Nowhere}
use Rattle.wb_simulation.specs.Worlds.{Situation, Agrees, OrdersAgree, OrderIsThere, Turn, Stays, WorldFollowsBy, WorldFollows}
use Rattle.wb_simulation.specs.Migrating.{order_of_block, IsUngiven, MayBeGiven, MayBeKept, given_by, migrates, begun_actor}
use Rattle.std.proofs.lemmas.List.Elements.{Contains-append_left}
use Rattle.wb_simulation.specs.Laws.{IsOnlyOf}
use Rattle.wb_simulation.proofs.Orders.{IsDone, begins_so, is_aside}
use Rattle.wb_simulation.proofs.Among.{whose, nobody_alone, stays_there}
use Rattle.wb_simulation.proofs.Starting.{IsGiven, given_nothing, begins, rests}
use Rattle.wb_simulation.proofs.Carrying.{under_migrates, is_done, late_done, carried_stands}

-- ---- what lives there

module _ (now : Situation) (s : World) (g : Agrees now s) where
  -- an actor's order is that of its cache block
  its_slot : (b : ℕ) (v : AbstractActor) (p : AbstractOrder) → slice_get s.actors b ≡ Some v → v.order ≡ Some p → (z : Actor) × (slice_get now.actors b ≡ Some z) × IsOf now.orders (held z) p
  its_slot b v p ev e = let z = whose now s g b v ev in (z.0, z.1, g.orders_agree.ours b z.0 v p z.1 ev e)

  apart_of : (own p : AbstractOrder) (q : Order) → IsUngiven s.shared.mapping now.orders own → slice_get now.orders p.cache ≡ Some (Some q) → OrderIsThere s p → ShareNoBlock p own
  apart_of own p q free e there =
      let both : Some (order_there s.shared.mapping p.cache q) ≡ Some p = (g.orders_agree.live p.cache (Some q) e p refl).1 there in
      let same : order_there s.shared.mapping p.cache q ≡ p = cc in
      subst (λ (r : AbstractOrder). ShareNoBlock r own) same (free p.cache q e)

  ungiven : (own : AbstractOrder) → IsUngiven s.shared.mapping now.orders own → Ungiven s own
  ungiven own free = (
    λ b v p ev e. let o = its_slot b v p ev e in apart_of own p o.2.0 free o.2.1 (inr (b, v, ev, e)),
    λ k p w. let o = g.orders_agree.waits k p w in apart_of own p o.1.0 free (ap (slice_get now.orders) o.0 ∙ o.1.1) (inl (ap s.waiting o.0 ∙ w)),
  )

  -- nothing is there of a cache block without an order
  module _ (c : ℕ) (no_order : slice_get now.orders c ≡ Some None) where
    none_at : (k : ℕ) (q : Order) → k ≡ c → slice_get now.orders k ≡ Some (Some q) → ⊥
    none_at k q e f = let bad : Some (Some q) ≡ Some None = sym f ∙ ap (slice_get now.orders) e ∙ no_order in absurd (cc)

    nobody_has : (b : ℕ) (v : AbstractActor) (p : AbstractOrder) → slice_get s.actors b ≡ Some v → v.order ≡ Some p → p.cache ≡ c → ⊥
    nobody_has b v p ev e at = let o = its_slot b v p ev e in none_at p.cache o.2.0 at o.2.1

    not_aside : (b : ℕ) (y : AbstractActor) → slice_get s.actors b ≡ Some y → (k : ℕ) (p : AbstractOrder) → k ≡ c → aside s.waiting y.order k ≡ Some p → ⊥
    not_aside b y ey k p e w = elim (aside_cases s.waiting y.order k p w) [
      | inl o ↦ nobody_has b y p ey o.0 (o.1 ∙ e)
      | inr o ↦ let r = g.orders_agree.waits k p o.0 in none_at k r.1.0 e r.1.1
    ]

-- ---- what it is there

module _ (now : Situation) (a : ℕ) (x : Actor) (migration : Migration) (block : OBlock) (c : CBlock) (next : Option ℕ) (order : Order) (cut : List Extent) (s : World) (y : AbstractActor) (g : Agrees now s) (among : AreAmongOthers now.actors) (ex : slice_get now.actors a ≡ Some x) (ey : slice_get s.actors a ≡ Some y) (none : x.task ≡ None)
    (hold : x.card.hold ≡ HoldsNothing) (some : 0 < now.size) (small : c.0 < 2 ^ 32) (is_cut : IsCutInto (whole_block now.size block) cut) (of : IsOrderFor migration block next order) (order_is : order_there s.shared.mapping c.0 order ≡ order_of_block block c next) where
  abbrev part : BlockRange
  part = record { mode = Writeback; block_sectors = now.size; block = block; extents = cut }

  abbrev own : AbstractOrder
  own = order_on part c next

  abbrev job : AbstractJob
  job = job_under own (offsets now.size cut) migration

  abbrev plan : Plan
  plan = migrates now.size migration block cut

  is_part : IsPart now.size part
  is_part = whole_part now.size block some cut is_cut

  inside : AllInBlocks now.size cut
  inside e h = (is_part.each e h).room

  -- its abstract actor, once it has begun
  abbrev begun_there : AbstractActor
  begun_there = without_block (migrating now.size own (offsets now.size cut) migration plan.steps AnsweredDone y.buffer)

  own_job : order_of_job job ≡ Some own
  own_job = under_order own (offsets now.size cut) migration

  given_is : IsResting y → abstract_given y job ≡ begun_there
  given_is idle = λ i. record { task = Some (begins_as migration i); held = idle.held i; order = own_job i; leads = idle.leads i; buffer = y.buffer }
    where
      begins_as : (m : Migration) → table_there (job_under own (offsets now.size cut) m) ≡ record { job = job_under own (offsets now.size cut) m; steps = migration_wants now.size own (offsets now.size cut) m plan.steps; answer = AnsweredDone }
      begins_as (Promote k) = refl
      begins_as m = refl

  carried_then : (orders' : List (Option Order)) (its : List Order) → slice_get orders' c.0 ≡ Some (Some order) → Contains its order → Fills migration c → IsCarried now.size orders' migration block part plan.steps plan.answer (record x { task = Some (Migrate migration block, plan); orders = its }) begun_there
  carried_then orders' its slot its_own fills = record {
    block_is = refl;
    is_part = is_part;
    c = c;
    small = small;
    fills = fills;
    of_block = tt;
    paired = (tt, (tt, tt));
    next = next;
    order = order;
    of = of;
    kept = Some own;
    has = inl (slot, refl, its_own);
    at = record { answer = AnsweredDone; buffer = y.buffer; is = λ i. record begun_there { held = held_of (sym hold i) }; alike = refl; saw = tt };
    read = tt;
  }

  fills_given : (m : Migration) → MayBeGiven m block.0 c.0 s.shared → Fills m c
  fills_given (Promote k) may = λ i. record { 0 = may.0 i }
  fills_given m may = tt

  fills_kept : (m : Migration) → MayBeKept m c.0 s.shared → Fills m c
  fills_kept (Promote k) may = λ i. record { 0 = may.0 i }
  fills_kept m may = tt

  may_start : now.mode ≢ Passthrough → (m : Migration) → MayBeGiven m block.0 c.0 s.shared → Ungiven s own → ((b : ℕ) → next ≡ Some b → s.shared.mapping b ≡ None) → MayStart now.size s (job_under own (offsets now.size cut) m)
  may_start caches (Promote k) may free waits = (within_offsets now.size cut inside, whole_covered now.size block some cut is_cut, free, (λ e. caches (sym g.mode ∙ e)), may.1, may.2, waits)
  may_start caches m may free waits = (within_offsets now.size cut inside, whole_covered now.size block some cut is_cut, free, (λ e. caches (sym g.mode ∙ e)), may.0, may.1, waits)

  may_again : (m : Migration) → MayBeKept m c.0 s.shared → MayAgain now.size s.shared (job_under own (offsets now.size cut) m)
  may_again (Promote k) may = (within_offsets now.size cut inside, whole_covered now.size block some cut is_cut, may.1)
  may_again m may = (within_offsets now.size cut inside, whole_covered now.size block some cut is_cut, may)

  -- an order that is given reserves a promotion's cache block, and is nothing else to what is shared
  is_given : (m : Migration) → IsGiven now.words (given_by m c.0) s.shared (abstract_reserved s.shared (job_under own (offsets now.size cut) m))
  is_given (Promote k) = record { words_agree = record { fail = g.words_agree.fail; seals = g.words_agree.seals }; origin = refl; cache = refl; mode = refl; commits = refl; broken = (refl, refl, refl); mapping = refl; turned = (refl, refl, refl, refl, refl); desk = (refl, refl) }
  is_given m = record { words_agree = g.words_agree; origin = refl; cache = refl; mode = refl; commits = refl; broken = (refl, refl, refl); mapping = refl; turned = (refl, refl, refl, refl, refl); desk = (refl, refl) }

  st : StandsFor now.size now.most now.words x y
  st = g.each a x y ex ey

  rest : (y.task ≡ None) × (IsResting y ⊎ (flag now.words.fail ≡ true))
  rest = rests now.size now.most now.words x y st none

  -- The order is at the actor then, which lives on the cache block.
  module _ (orders' : List (Option Order)) (its : List Order) (slot : slice_get orders' c.0 ≡ Some (Some order)) (mine : Contains its order) (beside : (d : ℕ) → d ≢ c.0 → slice_get orders' d ≡ slice_get now.orders d) (waiting : ℕ → Option AbstractOrder) (put : (d : ℕ) → d ≢ c.0 → waiting d ≡ aside s.waiting y.order d) (gone_from : (d : ℕ) (p : AbstractOrder) → d ≡ c.0 → waiting d ≡ Some p → ⊥)
      (alone : (b : ℕ) (v : AbstractActor) (p : AbstractOrder) → b ≢ a → slice_get s.actors b ≡ Some v → v.order ≡ Some p → p.cache ≡ c.0 → ⊥) (t : Shared) (same_map : t.mapping ≡ s.shared.mapping) where
    abbrev x' : Actor
    x' = record x { task = Some (Migrate migration block, plan); orders = its }

    same_own : (p : AbstractOrder) → Some own ≡ Some p → own ≡ p
    same_own p e = cc

    ordered : (y' : AbstractActor) → y'.order ≡ Some own → IsDone now.size now.words orders' x' y' → OrdersAgree now.size now.words orders' (slice_set now.actors a x') (record { shared = t; actors = slice_set s.actors a y'; waiting = waiting })
    ordered y' has done = begins_so now.size now.words now.words (λ e. e) now.orders orders' now.actors a x x' s y y' ex ey g.orders_agree done (λ d. d ≡ c.0) (λ d. elim (cases_eq d c.0) [ inl e ↦ inl e | inr n ↦ inr n ]) waiting
        (λ p e. subst (λ (q : AbstractOrder). (q.cache ≡ c.0) × ((o : Option Order) → slice_get orders' q.cache ≡ Some o → live_there s.shared.mapping q.cache o ≡ Some q) × IsOf orders' (its ++ x.awaiting) q) (same_own p (sym has ∙ e)) (refl, lives_so, (order, slot, Contains-append_left its x.awaiting order mine)))
        (λ d o p e eo l. has ∙ sym (lives_so o (ap (slice_get orders') (sym e) ∙ eo)) ∙ ap (λ k. live_there s.shared.mapping k o) (sym e) ∙ l) beside put gone_from alone t same_map
      where
        lives_so : (o : Option Order) → slice_get orders' c.0 ≡ Some o → live_there s.shared.mapping c.0 o ≡ Some own
        lives_so o e = let both : Some (Some order) ≡ Some o = sym slot ∙ e in let same : Some order ≡ o = cc in ap (live_there s.shared.mapping c.0) (sym same) ∙ ap (λ (p : AbstractOrder). Some p) order_is

    done : Fills migration c → IsDone now.size now.words orders' x' begun_there
    done fills = is_done now.size orders' migration block part plan x' begun_there (carried_then orders' its slot mine fills) now.words refl refl

    -- it has begun there, and then this is shared
    begins_there : (turn : Turn) (rs : List Record) → Fills migration c → IsAbstractRun now.size s rs → abstract_after_all s rs ≡ record { shared = t; actors = slice_set s.actors a begun_there; waiting = waiting } → IsResumed a y.task rs → IsGiven now.words turn s.shared t → WorldFollowsBy turn Resumes a s (record now { orders = orders' }) x'
    begins_there turn rs fills run is told i = begins now a x x' s y g ex ey turn Resumes orders' rs waiting t begun_there run is told i (λ l. let bad : false ≡ true = l in absurd (cc))
        (carried_stands now.size orders' migration block part plan x' begun_there (carried_then orders' its slot mine fills) now.words refl now.most) (ordered begun_there refl (done fills))

    -- one that has kept something has found there that the target has failed, and has the order
    abbrev fallen : AbstractActor
    fallen = record y { task = None; order = Some own }

    falls_there : (turn : Turn) (rs : List Record) → flag now.words.fail ≡ true → IsAbstractRun now.size s rs → abstract_after_all s rs ≡ record { shared = t; actors = slice_set s.actors a fallen; waiting = waiting } → IsResumed a y.task rs → IsGiven now.words turn s.shared t → WorldFollowsBy turn Resumes a s (record now { orders = orders' }) x'
    falls_there turn rs failed run is told i = begins now a x x' s y g ex ey turn Resumes orders' rs waiting t fallen run is told i (λ l. (l, λ more. absurd more))
        (record { failed = false; has_failed = λ e. absurd (cc); at = tt; below = record { owned = st.below.owned; shared = st.below.shared }; among_others = λ k. refl }) (ordered fallen refl (late_done now.size now.words orders' migration block part plan x' fallen refl refl true (λ e. failed) (record { has_failed = refl; nothing = refl; at = inl refl })))

  falls : (ys : List AbstractActor) (m : Migration) (u : Shared) (v : AbstractActor) → u.fail ≡ true → MayGo ys a u v (Some (table_there (job_under own (offsets now.size cut) m))) (Flag true ∷ DoneThere ∷ []) × (shared_after u v (Some (table_there (job_under own (offsets now.size cut) m))) (Flag true ∷ DoneThere ∷ []) ≡ u) × (gone v (Some (table_there (job_under own (offsets now.size cut) m))) (Flag true ∷ DoneThere ∷ []) ≡ record v { task = None })
  falls ys (Promote k) u v f = ((sym f, tt, (tt, tt, tt)), refl, refl)
  falls ys m u v f = ((sym f, tt, (tt, tt, tt)), refl, refl)

  module _ (no_order : slice_get now.orders c.0 ≡ Some None) (apart : IsUngiven s.shared.mapping now.orders own) (waits : (b : ℕ) → next ≡ Some b → s.shared.mapping b ≡ None) (may : MayBeGiven migration block.0 c.0 s.shared) (caches : now.mode ≢ Passthrough) where
    abbrev orders_then : List (Option Order)
    orders_then = slice_set now.orders c.0 (Some order)

    abbrev starting : Actor
    starting = record x { task = Some (Migrate migration block, plan); orders = order ∷ x.orders }

    abbrev Goal : Type 0
    Goal = WorldFollowsBy (given_by migration c.0) Resumes a s (record now { orders = orders_then }) starting

    free : Ungiven s own
    free = ungiven now s g own apart

    alone : (b : ℕ) (v : AbstractActor) (p : AbstractOrder) → b ≢ a → slice_get s.actors b ≡ Some v → v.order ≡ Some p → p.cache ≡ c.0 → ⊥
    alone b v p n ev e at = nobody_has now s g c.0 no_order b v p ev e at

    -- nor is it aside
    aside_not : (d : ℕ) (p : AbstractOrder) → d ≡ c.0 → aside s.waiting y.order d ≡ Some p → ⊥
    aside_not d p e w = not_aside now s g c.0 no_order a y ey d p e w

    starts_so : IsResting y → Goal
    starts_so idle = begins_there orders_then (order ∷ x.orders) (set_there now.orders c.0 None (Some order) no_order) (Contains-first order x.orders) (λ d n. set_other now.orders c.0 d (Some order) n) (aside s.waiting y.order) (λ d n. refl) aside_not alone (abstract_reserved s.shared job) (is_given migration).mapping (given_by migration c.0) (Start a job ∷ []) (fills_given migration may)
        ((y, record { actor = ey; task = idle.task; free = inl (idle.held, idle.leads); nobody_alone = nobody_alone now s g among; may = may_start caches migration may free waits }), tt)
        (ap (λ (o : Option AbstractActor). start_actor s a o job) ey ∙ (λ i. record { shared = abstract_reserved s.shared job; actors = slice_set s.actors a (given_is idle i); waiting = aside s.waiting y.order })) (Given job (under_migrates own (offsets now.size cut) migration) refl) (is_given migration)

    -- it has kept something at a failure, and is refused there at once
    starts_failing : flag now.words.fail ≡ true → Goal
    starts_failing failed =
        let t = abstract_reserved s.shared job in
        let y1 = abstract_given y job in
        let results = Flag true ∷ DoneThere ∷ [] in
        let w1 : World = record { shared = t; actors = slice_set s.actors a y1; waiting = aside s.waiting y.order } in
        let begun_is : start_actor s a (slice_get s.actors a) job ≡ w1 = ap (λ (o : Option AbstractActor). start_actor s a o job) ey in
        let stopped : t.fail ≡ true = (is_given migration).words_agree.fail ∙ failed in
        let f = falls (slice_set s.actors a y1) migration t y1 stopped in
        let went = goes now.size results w1 a y1 (Some (table_there job)) (set_there s.actors a y y1 ey) refl f.0 in
        let w2 : World = record { shared = t; actors = slice_set s.actors a (record y { task = None; order = Some own }); waiting = aside s.waiting y.order } in
        let then_is : abstract_after_all w1 (records a (Some (table_there job)) results) ≡ w2 = went.is ∙ (λ i. record { shared = f.1 i; actors = slice_set (slice_set s.actors a y1) a (f.2 i); waiting = aside s.waiting y.order }) ∙ (λ i. record { shared = t; actors = set_twice s.actors a y1 (record y { task = None; order = under_order own (offsets now.size cut) migration i }) i; waiting = aside s.waiting y.order }) in
        falls_there orders_then (order ∷ x.orders) (set_there now.orders c.0 None (Some order) no_order) (Contains-first order x.orders) (λ d n. set_other now.orders c.0 d (Some order) n) (aside s.waiting y.order) (λ d n. refl) aside_not alone t (is_given migration).mapping (given_by migration c.0) (Start a job ∷ records a (Some (table_there job)) results) failed (
          (y, record { actor = ey; task = rest.0; free = inr (g.words_agree.fail ∙ failed); nobody_alone = nobody_alone now s g among; may = may_start caches migration may free waits }),
          subst (λ (w : World). IsAbstractRun now.size w (records a (Some (table_there job)) results)) (sym begun_is) went.run,
        )
        (ap (λ (w : World). abstract_after_all w (records a (Some (table_there job)) results)) begun_is ∙ then_is) (Failing job (under_migrates own (offsets now.size cut) migration) rest.0 refl) (is_given migration)

    pub starts : Goal
    starts = elim rest.1 [ inl idle ↦ starts_so idle | inr failed ↦ starts_failing failed ]

  module _ (live : slice_get now.orders c.0 ≡ Some (Some order)) (mine : Contains x.orders order) (only : IsOnlyOf now.actors a order) (may : MayBeKept migration c.0 s.shared) where
    abbrev resuming : Actor
    resuming = begun_actor (Migrate migration block) plan x

    abbrev Again_goal : Type 0
    Again_goal = WorldFollows Resumes a s now resuming

    -- it has kept something at a failure, and nothing is begun there
    late : flag now.words.fail ≡ true → Again_goal
    late failed = stays_there now a x resuming s y g ex ey Resumes (subst (λ (t : Option Script). IsResumed a t (records a t [])) (sym rest.0) (Nowhere refl refl)) (record { failed = false; has_failed = λ e. absurd (cc); at = tt; below = st.below; among_others = λ k. ap is_alone rest.0 }) (λ o h. h)
        (late_done now.size now.words now.orders migration block part plan resuming y refl refl true (λ e. failed) (record { has_failed = refl; nothing = rest.0; at = inl refl }))

    -- no other actor has it
    nobody_else : (b : ℕ) (v : AbstractActor) (p : AbstractOrder) → b ≢ a → slice_get s.actors b ≡ Some v → v.order ≡ Some p → p.cache ≡ c.0 → ⊥
    nobody_else b v p n ev e at =
        let o = its_slot now s g b v p ev e in
        let both : Some (Some o.2.0) ≡ Some (Some order) = sym o.2.1 ∙ ap (slice_get now.orders) at ∙ live in
        let same : o.2.0 ≡ order = cc in
        n (only b o.0 o.1 (subst (λ (q : Order). Contains (held o.0) q) same o.2.2))

    there : OrderIsThere s own
    there = (g.orders_agree.live c.0 (Some order) live own refl).0 (ap (λ (o : AbstractOrder). Some o) order_is)

    is_put : aside s.waiting y.order c.0 ≡ Some own
    is_put = is_aside now.size now.words now.orders now.actors a s y ey g.orders_agree c.0 (Some order) live own refl there (λ b v n ev e. nobody_else b v own n ev e refl)

    again_so : IsResting y → Again_goal
    again_so idle = begins_there now.orders x.orders live mine (λ d n. refl) (abstract_taken (aside s.waiting y.order) (order_of_job job)) (λ d n. ap (λ (o : Option AbstractOrder). abstract_taken (aside s.waiting y.order) o d) own_job ∙ changed_other (aside s.waiting y.order) c.0 d None n)
        (λ d p e w. let bad : None ≡ Some p = sym (ap (λ (o : Option AbstractOrder). abstract_taken (aside s.waiting y.order) o c.0) own_job ∙ changed_same (aside s.waiting y.order) c.0 None) ∙ ap (abstract_taken (aside s.waiting y.order) (order_of_job job)) (sym e) ∙ w in absurd (cc)) nobody_else s.shared refl Stays (Again a job ∷ []) (fills_kept migration may)
        ((y, record { actor = ey; task = idle.task; free = inl (idle.held, idle.leads); order = (own, own_job, is_put); nobody_alone = nobody_alone now s g among; may = may_again migration may }), tt)
        (ap (λ (o : Option AbstractActor). again_actor s a o job) ey ∙ (λ i. record { shared = s.shared; actors = slice_set s.actors a (given_is idle i); waiting = abstract_taken (aside s.waiting y.order) (order_of_job job) })) (Kept job (under_migrates own (offsets now.size cut) migration) refl) (given_nothing now.words s.shared g.words_agree)

    pub again : Again_goal
    again = elim rest.1 [ inl idle ↦ again_so idle | inr failed ↦ late failed ]
