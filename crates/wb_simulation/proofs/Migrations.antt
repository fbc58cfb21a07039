-- A migration is followed, whatever it comes to.
use Rattle.std.proofs.Common.{◌++◌, ◌≡◌, ◌≤◌, ◌+◌, ◌∙◌, inl, inr, ℕ, Bool, List, [], ◌∷◌, Option, Some, None, refl, sym, ap, subst, length, ◌⊎◌}
use Rattle.wb_types.specs.declared.extent.Extent.{Extent}
use Rattle.wb_types.specs.declared.mode.Dev.{Dev}
use Rattle.wb_types.specs.declared.number.OBlock.{OBlock}
use Rattle.wb_types.specs.declared.number.CBlock.{CBlock}
use Rattle.wb_types.specs.declared.refusal.Refusal.{Refusal}
use Rattle.wb_disk.specs.Extents.{written_each, written_where}
use Rattle.wb_policy.specs.declared.order.Order.{Order}
use Rattle.wb_policy.specs.declared.order.Order.TheVariants.{Replace, Demote as DemoteOrder}
use Rattle.wb_words.specs.declared.card.Hold.TheVariants.{Nothing as HoldsNothing}
use Rattle.wb_tasks.specs.Tables.{BlockRange, Migrating, OnBlock}
use Rattle.wb_tasks.specs.Plan.{Plan, want, after}
use Rattle.wb_tasks.specs.Ready.{Suits}
use Rattle.wb_tasks.specs.declared.step.Answer.{Answer}
use Rattle.wb_tasks.specs.declared.step.DeviceStep.TheVariants.{Read, Write}
use Rattle.wb_tasks.specs.declared.step.DeskStep.TheVariants.{Map, Unmap, ReleaseOrder}
use Rattle.wb_tasks.specs.declared.step.Got.TheVariants.{Done, Fault, Refused}
use Rattle.wb_tasks.specs.declared.step.Migration.{Migration}
use Rattle.wb_tasks.specs.declared.step.Migration.TheVariants.{Promote, Demote}
use Rattle.wb_tasks.specs.declared.step.Want.{Want}
use Rattle.wb_tasks.specs.declared.step.Want.TheVariants.{Device, Desk, End}
use Rattle.wb_devices.specs.Moving.{device_in}
use Rattle.wb_link.specs.World.{World, AbstractActor}
use Rattle.wb_refines.specs.Models.{plan_of, held_of}
use Rattle.wb_refines.specs.Migrations.{Fills, order_on}
use Rattle.wb_promise.specs.declared.job.Job.TheVariants.{Migrate}
use Rattle.wb_promise.specs.Effects.{contents_at, dropped, replacing}
use Rattle.wb_promise.specs.States.{Actor, with_device}
use Rattle.wb_simulation.specs.Worlds.{Situation, Stays, Maps, Unmaps, GivesUp, WorldFollows}
use Rattle.wb_simulation.specs.Laws.{WantsNext, after_step}
use Rattle.wb_simulation.specs.Migrating.{MigrationsFollowed, Carried, EndsOrder, TurnsOrder, LeavesFrom}
use Rattle.wb_simulation.proofs.Followed.{first, answers_by, IsWithin, never_late, never_over}
use Rattle.wb_simulation.proofs.Ending.{IsOver, IsNothingLeft, stopped_over, late_over, answers}
use Rattle.wb_simulation.proofs.Migrating.{cells}
use Rattle.wb_simulation.proofs.Copying.{reads, writes, write_falls, read_falls}
use Rattle.wb_simulation.proofs.Ordering.{starts, again}
use Rattle.wb_simulation.specs.Actors.{IsLate}
use Rattle.wb_simulation.specs.Carried.{IsOrderFor, IsCarried, HasEnded, IsAtMigration}
use Rattle.wb_simulation.specs.Telling.{Rests, Rested}
use Rattle.wb_simulation.proofs.Among.{StandsThere, own_there}
use Rattle.wb_simulation.proofs.Carrying.{carried_leads, under_migrates}
use Rattle.wb_simulation.proofs.Deciding.{map_refused, mapped, unmapped, turned_over, given_up}

module _ (now : Situation) (blocks : ℕ) (a : ℕ) (x : Actor) (migration : Migration) (block : OBlock) (plan : Plan) (s : World) (next : Want) (wants : WantsNext now a x s (Migrate migration block) plan next) (suits : Suits blocks plan x.card) where
  its : StandsThere now s a x
  its = own_there now s wants.agrees a x wants.here

  abbrev y : AbstractActor
  y = its.0

  at : IsAtMigration now.size now.words now.orders migration block plan x its.0
  at = wants.agrees.orders_agree.carried a x its.0 migration block plan wants.here its.1 wants.task

  -- What holds of what is left, with this step on a device or the desk next, holds of it: it is at the same there.
  found : (next : Want) → want plan ≡ next → IsWithin next → (P : Plan → Type 0) → ((part : BlockRange) (later : List Want) → IsCarried now.size now.orders migration block part (next ∷ later) plan.answer x its.0 → Suits blocks (plan_of (Migrating migration part) (next ∷ later) plan.answer) x.card → P (plan_of (Migrating migration part) (next ∷ later) plan.answer)) → P plan
  found next asked within P h = elim at.at [
    | inl k ↦ first plan (OnBlock (Migrating migration at.part)) next at.job asked (λ p. IsCarried now.size now.orders migration block at.part p.steps p.answer x its.0 → Suits blocks p x.card → P p) (λ later is f has. h at.part later f has) (λ is end. absurd (subst IsWithin (sym end) within)) k suits
    | inr o ↦ elim o [
      | inl e ↦ absurd (never_over plan next asked within e.0.over)
      | inr l ↦ absurd (never_late at.failed plan (OnBlock (Migrating migration at.part)) next its.0 at.job refl asked within l)
    ]
  ]

  module _ (device : Dev) (e : Extent) where
    read_is_done : want plan ≡ Device (Read device e) → e.first + e.count ≤ length (device_in device now.devices) → Carried Stays a s now (record x { task = Some (Migrate migration block, after plan Done); buffer = contents_at (device_in device now.devices) e })
    read_is_done asked room = found (Device (Read device e)) asked tt (λ p. Carried Stays a s now (record x { task = Some (Migrate migration block, after p Done); buffer = contents_at (device_in device now.devices) e }))
        (λ part later f has. reads now blocks a x s its.0 wants.agrees wants.here its.1 migration block part device e plan.answer later f has room)

    write_is_done : want plan ≡ Device (Write device e) → e.first + e.count ≤ length (device_in device now.devices) → Carried Stays a s (record now { devices = with_device device now.devices (written_each (device_in device now.devices) e.first x.buffer) }) (after_step (Migrate migration block) plan Done x)
    write_is_done asked room = found (Device (Write device e)) asked tt (λ p. Carried Stays a s (record now { devices = with_device device now.devices (written_each (device_in device now.devices) e.first x.buffer) }) (after_step (Migrate migration block) p Done x))
        (λ part later f has. writes now blocks a x s its.0 wants.agrees wants.here its.1 migration block part device e plan.answer later f has room)

    write_has_failed : (lands : ℕ → Bool) → want plan ≡ Device (Write device e) → e.first + e.count ≤ length (device_in device now.devices) → Carried Stays a s (record now { devices = with_device device now.devices (written_where lands (device_in device now.devices) e.first x.buffer) }) (after_step (Migrate migration block) plan Fault x)
    write_has_failed lands asked room = found (Device (Write device e)) asked tt (λ p. Carried Stays a s (record now { devices = with_device device now.devices (written_where lands (device_in device now.devices) e.first x.buffer) }) (after_step (Migrate migration block) p Fault x))
        (λ part later f has. write_falls now blocks a x s its.0 wants.agrees wants.here its.1 migration block part device e plan.answer later f has room lands)

    read_has_failed : want plan ≡ Device (Read device e) → Carried Stays a s now (after_step (Migrate migration block) plan Fault x)
    read_has_failed asked = found (Device (Read device e)) asked tt (λ p. Carried Stays a s now (after_step (Migrate migration block) p Fault x))
        (λ part later f has. read_falls now blocks a x s its.0 wants.agrees wants.here its.1 migration block part device e plan.answer later f has)

  -- the actor once its order is over, with this left
  abbrev left_so : Plan → OBlock → Actor
  left_so p b = record x { task = Some (Migrate migration block, p); orders = dropped b x.orders }

  module _ (b : OBlock) where
    map_is_done : (c : CBlock) → want plan ≡ Desk (Map b c) → s.shared.mapping b.0 ≡ None → (migration ≡ Promote c) × (b ≡ block) × ((order : Order) × IsOrderFor (Promote c) block None order × EndsOrder (Maps block.0 c.0) c.0 a s now x (left_so (after plan Done) b) order)
    map_is_done c asked free = found (Desk (Map b c)) asked tt (λ p. (migration ≡ Promote c) × (b ≡ block) × ((order : Order) × IsOrderFor (Promote c) block None order × EndsOrder (Maps block.0 c.0) c.0 a s now x (left_so (after p Done) b) order)) (λ part later f has.
        let same : b ≡ part.block = has.1.1.1.0.0 in
        let promotes : migration ≡ Promote c = has.1.1.1.0.1 in
        let k = subst (λ (v : OBlock). IsCarried now.size now.orders migration block part (Desk (Map v c) ∷ later) plan.answer x its.0) same f in
        let left = plan_of (Migrating migration part) later plan.answer in
        let place : k.c.0 ≡ c.0 = at_cache migration c k.c promotes k.fills in (
          promotes,
          same ∙ k.block_is,
          (
            k.order,
            no_next k.next k.order (subst (λ (m : Migration). IsOrderFor m block k.next k.order) promotes k.of),
            subst (λ (v : OBlock). EndsOrder (Maps block.0 c.0) c.0 a s now x (left_so left v) k.order) (sym same)
                (subst (λ (v : OBlock). EndsOrder (Maps v.0 c.0) c.0 a s now x (left_so left part.block) k.order) k.block_is
                (subst (λ (v : ℕ). EndsOrder (Maps part.block.0 v) v a s now x (left_so left part.block) k.order) place
                (mapped now blocks a x s its.0 wants.agrees wants.here its.1 migration block part later plan.answer c k (subst (λ (v : OBlock). Suits blocks (plan_of (Migrating migration part) (Desk (Map v c) ∷ later) plan.answer) x.card) same has) (ap (λ (v : OBlock). s.shared.mapping v.0) (sym same) ∙ free)))),
          ),
        ))
      where
        no_next : (next : Option ℕ) (o : Order) → IsOrderFor (Promote c) block next o → IsOrderFor (Promote c) block None o
        no_next next o (inl e) = inl (e.0, refl)
        no_next next (Replace old new d) (inr r) = inr (r.0, r.1, refl)
        no_next next o (inr r) = absurd r

        at_cache : (m : Migration) (c d : CBlock) → m ≡ Promote c → Fills m d → d.0 ≡ c.0
        at_cache m c d e fills = let is : Fills (Promote c) d = subst (λ (q : Migration). Fills q d) e fills in sym (ap (λ (v : CBlock). v.0) is)

    map_is_refused : (c : CBlock) (refusal : Refusal) → want plan ≡ Desk (Map b c) → Carried Stays a s now (after_step (Migrate migration block) plan (Refused refusal) x)
    map_is_refused c refusal asked = found (Desk (Map b c)) asked tt (λ p. Carried Stays a s now (after_step (Migrate migration block) p (Refused refusal) x)) (λ part later f has.
        let same : b ≡ part.block = has.1.1.1.0.0 in
        map_refused now blocks a x s its.0 wants.agrees wants.here its.1 migration block part later plan.answer c (subst (λ (v : OBlock). IsCarried now.size now.orders migration block part (Desk (Map v c) ∷ later) plan.answer x its.0) same f)
        (subst (λ (v : OBlock). Suits blocks (plan_of (Migrating migration part) (Desk (Map v c) ∷ later) plan.answer) x.card) same has) refusal)

    abbrev then_waiting : Plan → Actor
    then_waiting p = record x { task = Some (Migrate migration block, p); orders = dropped b x.orders; awaiting = replacing b x.orders ++ x.awaiting }

    abbrev Leaves : Plan → Type 0
    Leaves p = (c : ℕ) × (EndsOrder (Unmaps block.0 c None) c a s now x (left_so p b) (DemoteOrder block) ⊎ TurnsOrder c a s now x (then_waiting p) block)

    unmap_is_done : want plan ≡ Desk (Unmap b) → LeavesFrom now.orders s.shared.mapping b → (migration ≡ Demote) × (b ≡ block) × Leaves (after plan Done)
    unmap_is_done asked leaving = found (Desk (Unmap b)) asked tt (λ p. (migration ≡ Demote) × (b ≡ block) × Leaves (after p Done)) (λ part later f has.
        let same : b ≡ part.block = has.1.1.1.0.0 in
        let demotes : migration ≡ Demote = has.1.1.1.0.1 in
        let k = subst (λ (v : OBlock). IsCarried now.size now.orders migration block part (Desk (Unmap v) ∷ later) plan.answer x its.0) same f in
        let its_block : b ≡ block = same ∙ k.block_is in (
          demotes,
          its_block,
          by part later same k (subst (λ (v : OBlock). Suits blocks (plan_of (Migrating migration part) (Desk (Unmap v) ∷ later) plan.answer) x.card) same has)
              (subst (λ (v : OBlock). LeavesFrom now.orders s.shared.mapping v) its_block leaving) k.order refl (subst (λ (m : Migration). IsOrderFor m block k.next k.order) demotes k.of),
        ))
      where
        by : (part : BlockRange) (later : List Want) → b ≡ part.block → (k : IsCarried now.size now.orders migration block part (Desk (Unmap part.block) ∷ later) plan.answer x its.0) → Suits blocks (plan_of (Migrating migration part) (Desk (Unmap part.block) ∷ later) plan.answer) x.card → LeavesFrom now.orders s.shared.mapping block →
            (o : Order) → k.order ≡ o → IsOrderFor Demote block k.next o → Leaves (plan_of (Migrating migration part) later plan.answer)
        by part later same k has leaving o e (inl is) = (
          k.c.0,
          inl (subst (λ (o : Order). EndsOrder (Unmaps block.0 k.c.0 None) k.c.0 a s now x (left_so (plan_of (Migrating migration part) later plan.answer) b) o) (e ∙ is.0)
              (subst (λ (v : OBlock). EndsOrder (Unmaps block.0 k.c.0 None) k.c.0 a s now x (left_so (plan_of (Migrating migration part) later plan.answer) v) k.order) (sym same)
              (subst (λ (v : OBlock). EndsOrder (Unmaps v.0 k.c.0 None) k.c.0 a s now x (left_so (plan_of (Migrating migration part) later plan.answer) part.block) k.order) k.block_is
              (unmapped now blocks a x s its.0 wants.agrees wants.here its.1 migration block part later plan.answer k has is.1 leaving)))),
        )
        by part later same k has leaving (Replace old new d) e (inr is) = (
          k.c.0,
          inr (subst (λ (v : OBlock). TurnsOrder k.c.0 a s now x (record x { task = Some (Migrate migration block, plan_of (Migrating migration part) later plan.answer); orders = dropped v x.orders; awaiting = replacing v x.orders ++ x.awaiting }) block) (sym same)
              (turned_over now blocks a x s its.0 wants.agrees wants.here its.1 migration block part later plan.answer k has new d (e ∙ ap (λ (v : OBlock). Replace v new d) is.0) is.1 leaving)),
        )
        by part later same k has leaving o e (inr is) = absurd is

    order_is_given_up : want plan ≡ Desk (ReleaseOrder b) → (b ≡ block) × ((c : ℕ) × (next : Option ℕ) × (order : Order) × IsOrderFor migration block next order × EndsOrder (GivesUp c) c a s now x (left_so (after plan Done) b) order)
    order_is_given_up asked = found (Desk (ReleaseOrder b)) asked tt (λ p. (b ≡ block) × ((c : ℕ) × (next : Option ℕ) × (order : Order) × IsOrderFor migration block next order × EndsOrder (GivesUp c) c a s now x (left_so (after p Done) b) order)) (λ part later f has.
        let same : b ≡ part.block = has.1.1 in
        let k = subst (λ (v : OBlock). IsCarried now.size now.orders migration block part (Desk (ReleaseOrder v) ∷ later) plan.answer x its.0) same f in (
          same ∙ k.block_is,
          (
            k.c.0,
            k.next,
            k.order,
            k.of,
            subst (λ (v : OBlock). EndsOrder (GivesUp k.c.0) k.c.0 a s now x (left_so (plan_of (Migrating migration part) later plan.answer) v) k.order) (sym same)
                (given_up now blocks a x s its.0 wants.agrees wants.here its.1 migration block part later plan.answer k (subst (λ (v : OBlock). Suits blocks (plan_of (Migrating migration part) (Desk (ReleaseOrder v) ∷ later) plan.answer) x.card) same has)),
          ),
        ))

  -- ---- its answer

  answered : (answer : Answer) → want plan ≡ End answer → WorldFollows Rests a s now (record x { task = None })
  answered answer asked = answers_by plan (OnBlock (Migrating migration at.part)) answer at.job asked (λ later k. (subst (λ (p : Plan). Suits blocks p x.card) (λ i. record { job = at.job i; steps = k i; answer = plan.answer }) suits).1.1.1)
      (λ p. Suits blocks p x.card → IsCarried now.size now.orders migration block at.part p.steps p.answer x its.0 ⊎ HasEnded at.failed p x its.0 ⊎ IsLate at.failed p its.0 → WorldFollows Rests a s now (record x { task = None })) (λ has on. by has.1 on) suits at.at
    where
      rests : Rested its.0.task → IsOver now.words its.0 → WorldFollows Rests a s now (record x { task = None })
      rests rested over = answers now a x s its.0 wants.here its.1 wants.agrees its.2 x.orders x.awaiting (λ o h. h) Rests (rested, refl) over

      by : x.card.hold ≡ HoldsNothing → IsCarried now.size now.orders migration block at.part [] answer x its.0 ⊎ HasEnded at.failed (plan_of (Migrating migration at.part) [] answer) x its.0 ⊎ IsLate at.failed (plan_of (Migrating migration at.part) [] answer) its.0 → WorldFollows Rests a s now (record x { task = None })
      by h (inl k) =
          let is = ap (λ (v : AbstractActor). v.task) k.at.is in
          rests (subst Rested (sym is) (refl, under_migrates (order_on at.part k.c k.next) _ migration)) (record { steps = subst IsNothingLeft (sym is) refl; free = inl (ap (λ (v : AbstractActor). v.held) k.at.is ∙ ap held_of h, carried_leads now.size now.orders migration block at.part [] answer x its.0 k) })
      by h (inr (inl e)) = rests (subst Rested (sym e.0.task) (e.0.nothing, e.1)) (stopped_over now.words at.failed at.has_failed (plan_of (Migrating migration at.part) [] answer) x.card its.0 refl e.0)
      by h (inr (inr l)) = rests (subst Rested (sym l.nothing) tt) (late_over now.words at.failed at.has_failed (plan_of (Migrating migration at.part) [] answer) its.0 l)

pub migrations_followed : MigrationsFollowed
migrations_followed = record {
  starts = λ now a x migration block c next order cut s ex none hold some small is_cut no_order of is apart waits may caches among g.
      let y = own_there now s g a x ex in
      starts now a x migration block c next order cut s y.0 g among ex y.1 none hold some small is_cut of is no_order apart waits may caches;
  again = λ now a x migration block c next order cut s ex none hold some small is_cut live of is mine only may among g.
      let y = own_there now s g a x ex in
      again now a x migration block c next order cut s y.0 g among ex y.1 none hold some small is_cut of is live mine only may;
  cells = cells;
  read_done = λ now blocks a x migration block plan device e s wants suits room. read_is_done now blocks a x migration block plan s _ wants suits device e wants.asks room;
  read_fails = λ now blocks a x migration block plan device e s wants suits. read_has_failed now blocks a x migration block plan s _ wants suits device e wants.asks;
  write_done = λ now blocks a x migration block plan device e s wants suits room. write_is_done now blocks a x migration block plan s _ wants suits device e wants.asks room;
  write_fails = λ now blocks a x migration block plan device e lands s wants suits room. write_has_failed now blocks a x migration block plan s _ wants suits device e lands wants.asks room;
  maps = λ now blocks a x migration block b c plan s wants suits free. map_is_done now blocks a x migration block plan s _ wants suits b c wants.asks free;
  is_refused = λ now blocks a x migration block b c plan refusal s wants suits. map_is_refused now blocks a x migration block plan s _ wants suits b c refusal wants.asks;
  unmaps = λ now blocks a x migration block b plan s wants suits leaving. unmap_is_done now blocks a x migration block plan s _ wants suits b wants.asks leaving;
  gives_up = λ now blocks a x migration block b plan s wants suits. order_is_given_up now blocks a x migration block plan s _ wants suits b wants.asks;
  answers = λ now blocks a x migration block plan answer s wants suits. answered now blocks a x migration block plan s _ wants suits answer wants.asks;
}
