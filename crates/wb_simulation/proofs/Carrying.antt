-- An actor of the run goes on with a migration, and its abstract actor goes on there.
use Rattle.std.proofs.Common.{◌≢◌, eqb-true, Contains, ◌≡◌, ◌∙◌, inl, inr, ℕ, Bool, true, false, List, [], ◌∷◌, Option, Some, None, refl, sym, ap, subst, slice_get, slice_set}
use Rattle.wb_types.specs.declared.number.OBlock.{OBlock}
use Rattle.wb_disk.specs.Device.{History}
use Rattle.wb_contents.specs.Devices.{by_block}
use Rattle.wb_contents.specs.Volume.{Locations}
use Rattle.wb_policy.specs.declared.order.Order.TheVariants.{Replace}
use Rattle.wb_words.specs.SharedWords.{Words, flag}
use Rattle.wb_policy.specs.declared.order.Order.{Order}
use Rattle.wb_tasks.specs.Tables.{BlockRange, Migrating, OnBlock}
use Rattle.wb_tasks.specs.Plan.{Plan}
use Rattle.wb_tasks.specs.declared.step.Answer.{Answer}
use Rattle.wb_tasks.specs.declared.step.Migration.{Migration}
use Rattle.wb_tasks.specs.declared.step.Migration.TheVariants.{Promote, Demote}
use Rattle.wb_tasks.specs.declared.step.Want.{Want}
use Rattle.wb_devices.specs.declared.devices.Devices.{Devices}
use Rattle.wb_link.specs.Tables.{Script, Got, Order as AbstractOrder, Want as AbstractWant, End, abstract_after, abstract_want}
use Rattle.wb_link.specs.World.{World, Shared, actor_after, task_after, is_alone, job_alone, AbstractActor}
use Rattle.wb_refines.specs.Going.{shared_after, gone, MayGo, IsQuiet, AreQuiet}
use Rattle.wb_refines.specs.Migrations.{order_on, job_under}
use Rattle.wb_refines.specs.Models.{WordsAgree, SameImages, IsBelow}
use Rattle.wb_refines.proofs.Going.{with_own}
use Rattle.wb_refines.proofs.Locks.{held_below}
use Rattle.wb_promise.specs.declared.job.Job.{Job}
use Rattle.wb_promise.specs.declared.job.Job.TheVariants.{Migrate}
use Rattle.wb_promise.specs.States.{Actor}
use Rattle.wb_simulation.specs.Actors.{IsLate, IsBusyAt, StandsFor}
use Rattle.wb_simulation.specs.Carried.{held, is_at, replacement_there, order_there, IsOrderFor, IsCarried, IsAtMigration}
use Rattle.wb_simulation.specs.Telling.{Carries, IsMigrating, IsNoEnd, AreCarried}
use Rattle.wb_simulation.specs.Worlds.{zeros, Situation, Agrees, OrdersAgree, Turn, TurnedTo, DeskTurnedTo, WorldFollowsBy, WorldFollows, KeepsNumbers}
use Rattle.wb_simulation.proofs.Orders.{IsDone}
use Rattle.wb_link.proofs.Actors.{job_on}
use Rattle.wb_simulation.proofs.Among.{goes_on, goes_with}

-- ---- what is told

abbrev pub IsMigratingOf : Option Script → Type 0
IsMigratingOf None = Unit {0}
IsMigratingOf (Some script) = IsMigrating script.job

abbrev HasTask : Option Script → Type 0
HasTask None = ⊥
HasTask (Some script) = Unit {0}

-- who has a task still after these steps has answered by none of them
going : (results : List Got) (y : AbstractActor) (task : Option Script) → HasTask (gone y task results).task → IsMigratingOf task → AreCarried task results
going results y None h m = tt
going [] y (Some script) h m = tt
going (got ∷ gots) y (Some script) h m = let r = by (abstract_want script) h (λ u i. going gots u (Some (abstract_after script got)) i (subst IsMigrating (sym (job_on script got)) m)) in (m, r.0, r.1)
  where
    by : (next : AbstractWant) → HasTask (gone (actor_after y script next got) (task_after script next got) gots).task → ((u : AbstractActor) → HasTask (gone u (Some (abstract_after script got)) gots).task → AreCarried (Some (abstract_after script got)) gots) → IsNoEnd next × AreCarried (task_after script next got) gots
    by (End answer) h rest = absurd h
    by next h rest = (tt, rest (actor_after y script next got) h)

-- nor has one by steps that touch no device and answer nothing
pub quiet_are_carried : (results : List Got) (task : Option Script) → IsMigratingOf task → AreQuiet task results → AreCarried task results
quiet_are_carried results None m q = tt
quiet_are_carried [] (Some script) m q = tt
quiet_are_carried (got ∷ gots) (Some script) m q = let r = by (abstract_want script) q.0 q.1 (λ p. quiet_are_carried gots (Some (abstract_after script got)) (subst IsMigrating (sym (job_on script got)) m) p) in (m, r.0, r.1)
  where
    by : (next : AbstractWant) → IsQuiet next → AreQuiet (task_after script next got) gots → (AreQuiet (Some (abstract_after script got)) gots → AreCarried (Some (abstract_after script got)) gots) → IsNoEnd next × AreCarried (task_after script next got) gots
    by (End answer) i q later = absurd i
    by next i q later = (tt, later q)

pub under_migrates : (order : AbstractOrder) (os : List (List ℕ)) (migration : Migration) → IsMigrating (job_under order os migration)
under_migrates order os (Promote c) = tt
under_migrates order os migration = tt

under_among : (order : AbstractOrder) (os : List (List ℕ)) (migration : Migration) → job_alone (job_under order os migration) ≡ false
under_among order os (Promote c) = refl
under_among order os migration = refl

-- two tasks that are the same are the same migration
abbrev At : (size : ℕ) → Words → List (Option Order) → Actor → AbstractActor → Job → Plan → Type 0
At size words orders x y (Migrate migration block) plan = IsAtMigration size words orders migration block plan x y
At size words orders x y job plan = Unit {0}

abbrev AtTask : (size : ℕ) → Words → List (Option Order) → Actor → AbstractActor → Option (Job × Plan) → Type 0
AtTask size words orders x y None = Unit {0}
AtTask size words orders x y (Some doing) = At size words orders x y doing.0 doing.1

pub at_it : (size : ℕ) (words : Words) (orders : List (Option Order)) (x : Actor) (y : AbstractActor) (migration : Migration) (block : OBlock) (plan : Plan) (m : Migration) (b : OBlock) (p : Plan) → IsAtMigration size words orders migration block plan x y →
    ◌≡◌ {A = Option (Job × Plan)} (Some (Migrate migration block, plan)) (Some (Migrate m b, p)) → IsAtMigration size words orders m b p x y
at_it size words orders x y migration block plan m b p h e = subst (AtTask size words orders x y) e h

-- ---- where its block stands

is_at_true : (o : Option ℕ) (c : ℕ) → is_at o c ≡ true → o ≡ Some c
is_at_true None c e = absurd (cc)
is_at_true (Some d) c e = ap (λ k. Some k) (eqb-true d c e)

-- the block of an order that another one is to follow stands on its cache block
pub stands_there : (m : Locations) (c : ℕ) (o : Order) (migration : Migration) (b : OBlock) (next : Option ℕ) (own : AbstractOrder) → IsOrderFor migration b next o → order_there m c o ≡ own → own.next ≡ next → next ≢ None → m b.0 ≡ Some c
stands_there m c o migration b next own (inl is) e same some = absurd (some is.1)
stands_there m c (Replace old new k) Demote b next own (inr is) e same some = ap (λ (v : OBlock). m v.0) (sym is.0) ∙ by (is_at (m old.0) c) refl
  where
    by : (t : Bool) → is_at (m old.0) c ≡ t → m old.0 ≡ Some c
    by true f = is_at_true (m old.0) c f
    by false f = absurd (some (sym same ∙ ap (λ (p : AbstractOrder). p.next) (sym e) ∙ ap (λ (t : Bool). (replacement_there t old.0 new.0 c).next) f))
stands_there m c (Replace old new k) (Promote d) b next own (inr is) e same some = absurd (some is.2)
stands_there m c o (Promote d) b next own (inr is) e same some = absurd is
stands_there m c o migration b next own (inr is) e same some = absurd is

-- ---- who is carried

module _ (size : ℕ) (orders : List (Option Order)) (migration : Migration) (block : OBlock) (part : BlockRange) (steps : List Want) (answer : Answer) (x : Actor) (y : AbstractActor) (k : IsCarried size orders migration block part steps answer x y) where
  pub carried_order : y.order ≡ k.kept
  carried_order = ap (λ (v : AbstractActor). v.order) k.at.is

  pub carried_leads : y.leads ≡ false
  carried_leads = ap (λ (v : AbstractActor). v.leads) k.at.is

  pub carried_below : IsBelow y x.card
  carried_below = held_below steps x.card y (ap (λ (v : AbstractActor). v.held) k.at.is)

  carried_among : is_alone y.task ≡ false
  carried_among = ap (λ (v : AbstractActor). is_alone v.task) k.at.is ∙ under_among (order_on part k.c k.next) _ migration

  pub carried_job : IsMigratingOf y.task
  carried_job = subst (λ (v : AbstractActor). IsMigratingOf v.task) (sym k.at.is) (under_migrates (order_on part k.c k.next) _ migration)

  carried_task : HasTask y.task
  carried_task = subst (λ (v : AbstractActor). HasTask v.task) (sym k.at.is) tt

module _ (size : ℕ) (orders : List (Option Order)) (migration : Migration) (block : OBlock) (part : BlockRange) (plan : Plan) (x : Actor) (y : AbstractActor) (k : IsCarried size orders migration block part plan.steps plan.answer x y) (words : Words) (task : x.task ≡ Some (Migrate migration block, plan)) where
  pub carried_stands : (most : Bool → ℕ) → StandsFor size most words x y
  carried_stands most = record {
    failed = false;
    has_failed = λ e. absurd (cc);
    at = subst (λ (t : Option (Job × Plan)). IsBusyAt size most false t x.card x.share y) (sym task) tt;
    below = carried_below size orders migration block part plan.steps plan.answer x y k;
    among_others = λ among. carried_among size orders migration block part plan.steps plan.answer x y k;
  }

  pub is_done : plan.job ≡ OnBlock (Migrating migration part) → IsDone size words orders x y
  is_done job m b p e = at_it size words orders x y migration block plan m b p (record { part = part; job = job; failed = false; has_failed = λ e. absurd (cc); at = inl k }) (sym task ∙ e)

-- who is late is so at what it is at now
pub late_done : (size : ℕ) (words : Words) (orders : List (Option Order)) (migration : Migration) (block : OBlock) (part : BlockRange) (plan : Plan) (x : Actor) (y : AbstractActor) → plan.job ≡ OnBlock (Migrating migration part) → x.task ≡ Some (Migrate migration block, plan) → (failed : Bool) → (failed ≡ true → flag words.fail ≡ true) → IsLate failed plan y → IsDone size words orders x y
late_done size words orders migration block part plan x y job task failed has l m b p e = at_it size words orders x y migration block plan m b p (record { part = part; job = job; failed = failed; has_failed = has; at = inr (inr l) }) (sym task ∙ e)

-- ---- it goes on

module _ (now : Situation) (words' : Words) (up : flag now.words.fail ≡ true → flag words'.fail ≡ true) (devices' : Devices (List History)) (a : ℕ) (x x' : Actor) (s : World) (y : AbstractActor)
    (g : Agrees now s) (ex : slice_get now.actors a ≡ Some x) (ey : slice_get s.actors a ≡ Some y) (migration : Migration) (block : OBlock) (part : BlockRange) (plan : Plan) (task : x'.task ≡ Some (Migrate migration block, plan)) (job : plan.job ≡ OnBlock (Migrating migration part)) (migrates : IsMigratingOf y.task)
    (results : List Got) (t : Shared) (may : MayGo s.actors a s.shared y y.task results) (is : shared_after s.shared y y.task results ≡ t) (words_agree : WordsAgree words' t) (origin : t.origin ≡ by_block now.size zeros devices'.origin) (cache : t.cache ≡ by_block now.size zeros devices'.cache) where
  abbrev z : AbstractActor
  z = gone y y.task results

  -- under the order that it had
  pub carry_on : IsCarried now.size now.orders migration block part plan.steps plan.answer x' z → z.order ≡ y.order → ((o : Order) → Contains (held x) o → Contains (held x') o) → SameImages s.shared t → WorldFollows Carries a s (record now { words = words'; devices = devices' }) x'
  carry_on f same own k = goes_on now words' up a x x' s y g ex ey Carries devices' results t (results, going results y y.task (carried_task now.size now.orders migration block part plan.steps plan.answer x' z f) migrates, refl) may is
      (carried_stands now.size now.orders migration block part plan x' z f words' task now.most) (λ l. let bad : true ≡ false = sym l ∙ carried_leads now.size now.orders migration block part plan.steps plan.answer x' z f in absurd (cc)) words_agree origin cache k.mode k.committing (k.broken, k.began, k.ended) (k.committed, k.running, k.root_written, k.committed_clean, k.running_clean) (k.mapping, k.blocks)
      same own (is_done now.size now.orders migration block part plan x' z f words' task job)

  -- its order is over
  pub carry_over : (turn : Turn) (orders' : List (Option Order)) → IsCarried now.size orders' migration block part plan.steps plan.answer x' z → t.mode ≡ s.shared.mode → t.committing ≡ s.shared.committing → KeepsNumbers s.shared t → TurnedTo turn s.shared t → DeskTurnedTo turn s.shared t →
      OrdersAgree now.size words' orders' (slice_set now.actors a x') (with_own s a t z) → WorldFollowsBy turn Carries a s (record now { words = words'; orders = orders'; devices = devices' }) x'
  carry_over turn orders' f mode commits broken turned desk ordered = goes_with now words' up a x x' s y g ex ey turn Carries orders' devices' results t (results, going results y y.task (carried_task now.size orders' migration block part plan.steps plan.answer x' z f) migrates, refl) may is
      (carried_stands now.size orders' migration block part plan x' z f words' task now.most) (λ l. let bad : true ≡ false = sym l ∙ carried_leads now.size orders' migration block part plan.steps plan.answer x' z f in absurd (cc)) words_agree origin cache mode commits broken turned desk ordered
