-- Which orders live, whose they are and what is done under them, once one actor has begun something, has gone on, or has ended its order.
use Rattle.std.proofs.Common.{◌≡◌, ◌≢◌, ◌∙◌, ◌⊎◌, inl, inr, ℕ, Bool, true, false, List, Option, Some, None, refl, sym, ap, subst, Contains, slice_get, slice_set}
use Rattle.std.proofs.lemmas.Bool.{cases_eq}
use Rattle.wb_types.specs.declared.number.OBlock.{OBlock}
use Rattle.wb_disk.specs.Device.{Content}
use Rattle.wb_contents.specs.Volume.{Locations, changed}
use Rattle.wb_contents.proofs.Positions.{changed_same, changed_other}
use Rattle.wb_words.specs.SharedWords.{Words, flag}
use Rattle.wb_policy.specs.declared.order.Order.{Order}
use Rattle.wb_policy.specs.declared.order.Order.TheVariants.{Replace}
use Rattle.wb_tasks.specs.Tables.{BlockRange, Migrating}
use Rattle.wb_tasks.specs.Plan.{Plan}
use Rattle.wb_tasks.specs.declared.step.Answer.{Answer}
use Rattle.wb_tasks.specs.declared.step.Migration.{Migration}
use Rattle.wb_tasks.specs.declared.step.Want.{Want}
use Rattle.wb_link.specs.Tables.{Order as AbstractOrder}
use Rattle.wb_link.specs.World.{aside, World, Shared, AbstractActor}
use Rattle.wb_link.proofs.Aside.{aside_cases}
use Rattle.wb_contents.proofs.Lists.{set_there, set_other}
use Rattle.wb_refines.specs.Migrations.{order_on}
use Rattle.wb_refines.specs.Models.{plan_of}
use Rattle.wb_refines.specs.Carried.{IsMigrationAt}
use Rattle.wb_refines.proofs.Going.{with_own}
use Rattle.wb_promise.specs.declared.job.Job.{Job}
use Rattle.wb_promise.specs.declared.job.Job.TheVariants.{Migrate}
use Rattle.wb_promise.specs.States.{Actor}
use Rattle.wb_simulation.specs.Steps.{AreOfBlock, ArePaired}
use Rattle.wb_simulation.specs.Carried.{ActorHasRead, IsUnderOrder, held, is_at, replacement_there, order_there, live_there, IsOf, IsCarried, IsAtMigration}
use Rattle.wb_simulation.specs.Worlds.{OrderIsThere, OrdersAgree}

-- an order of the desk is on its cache block there too
pub cache_there : (m : Locations) (c : ℕ) (o : Order) → (order_there m c o).cache ≡ c
cache_there m c (Replace old new k) = by_test (is_at (m old.0) c)
  where
    by_test : (t : Bool) → (replacement_there t old.0 new.0 c).cache ≡ c
    by_test true = refl
    by_test false = refl
cache_there m c o = refl

-- the one that was set, or another one that was there
pub who : {X : Type 0} (xs : List X) (a : ℕ) (x x' : X) → slice_get xs a ≡ Some x → (b : ℕ) (v : X) → slice_get (slice_set xs a x') b ≡ Some v → ((b ≡ a) × (x' ≡ v)) ⊎ ((b ≢ a) × (slice_get xs b ≡ Some v))
who {X} xs a x x' ex b v e = elim (cases_eq b a) [
  | inl same ↦ inl (same, (let both : Some x' ≡ Some v = sym (set_there xs a x x' ex) ∙ ap (λ k. slice_get (slice_set xs a x') k) (sym same) ∙ e in let one : x' ≡ v = cc in one))
  | inr n ↦ inr (n, sym (set_other xs a b x' n) ∙ e)
]

-- what holds of this actor and its abstract one, and of the others as they were, holds of all
pub by_pair : (actors : List Actor) (ys : List AbstractActor) (a : ℕ) (x x' : Actor) (y y' : AbstractActor) → slice_get actors a ≡ Some x → slice_get ys a ≡ Some y → (P : ℕ → Actor → AbstractActor → Type 0) → P a x' y' → ((b : ℕ) (z : Actor) (v : AbstractActor) → b ≢ a → slice_get actors b ≡ Some z → slice_get ys b ≡ Some v → P b z v) →
    (b : ℕ) (z : Actor) (v : AbstractActor) → slice_get (slice_set actors a x') b ≡ Some z → slice_get (slice_set ys a y') b ≡ Some v → P b z v
by_pair actors ys a x x' y y' ex ey P here others b z v ez ev = elim (who actors a x x' ex b z ez) [
  | inl one ↦ elim (who ys a y y' ey b v ev) [
    | inl two ↦ subst (λ k. P k z v) (sym one.0) (subst (λ (q : Actor). P a q v) one.1 (subst (λ (q : AbstractActor). P a x' q) two.1 here))
    | inr two ↦ absurd (two.0 one.0)
  ]
  | inr one ↦ elim (who ys a y y' ey b v ev) [ inl two ↦ absurd (one.0 two.0) | inr two ↦ others b z v one.0 one.1 two.1 ]
]

-- ---- what is aside once an actor has begun something

-- the actor's order, and what was aside, are aside then
aside_has : (waiting : ℕ → Option AbstractOrder) (o : Option AbstractOrder) (p : AbstractOrder) → ((q : AbstractOrder) → o ≡ Some q → q.cache ≡ p.cache → q ≡ p) → (waiting p.cache ≡ Some p) ⊎ (o ≡ Some p) → aside waiting o p.cache ≡ Some p
aside_has waiting None p one (inl w) = w
aside_has waiting None p one (inr e) = absurd (cc)
aside_has waiting (Some q) p one w = elim (cases_eq p.cache q.cache) [
  | inl e ↦ ap (changed waiting q.cache (Some q)) e ∙ changed_same waiting q.cache (Some q) ∙ ap (λ (v : AbstractOrder). Some v) (one q refl (sym e))
  | inr n ↦ elim w [ inl k ↦ changed_other waiting q.cache p.cache (Some q) n ∙ k | inr e ↦ (let same : q ≡ p = cc in absurd (n (ap (λ (v : AbstractOrder). v.cache) (sym same)))) ]
]

module _ (size : ℕ) (words : Words) (orders : List (Option Order)) (actors : List Actor) (a : ℕ) (s : World) (y : AbstractActor) (ey : slice_get s.actors a ≡ Some y) (g : OrdersAgree size words orders actors s) (c : ℕ) (o : Option Order) (e : slice_get orders c ≡ Some o) (p : AbstractOrder) (at : p.cache ≡ c) where
  one : OrderIsThere s p → (q : AbstractOrder) → y.order ≡ Some q → q.cache ≡ p.cache → q ≡ p
  one h q f k = let both : Some q ≡ Some p = sym ((g.live c o e q (k ∙ at)).1 (inr (a, y, ey, f))) ∙ (g.live c o e p at).1 h in cc

  -- an order that is there is aside, or another actor has it
  aside_or : OrderIsThere s p → (aside s.waiting y.order p.cache ≡ Some p) ⊎ ((b : ℕ) × (v : AbstractActor) × (b ≢ a) × (slice_get s.actors b ≡ Some v) × (v.order ≡ Some p))
  aside_or (inl w) = inl (aside_has s.waiting y.order p (one (inl w)) (inl w))
  aside_or (inr h) = elim (cases_eq h.0 a) [
    | inl f ↦ let both : Some h.1 ≡ Some y = sym h.2 ∙ ap (λ k. slice_get s.actors k) f ∙ ey in let same : h.1 ≡ y = cc in inl (aside_has s.waiting y.order p (one (inr h)) (inr (ap (λ (v : AbstractActor). v.order) (sym same) ∙ h.3)))
    | inr n ↦ inr (h.0, h.1, n, h.2, h.3)
  ]

  pub is_aside : OrderIsThere s p → ((b : ℕ) (v : AbstractActor) → b ≢ a → slice_get s.actors b ≡ Some v → v.order ≡ Some p → ⊥) → aside s.waiting y.order p.cache ≡ Some p
  is_aside h only = elim (aside_or h) [ inl w ↦ w | inr k ↦ absurd (only k.0 k.1 k.2 k.3 k.4) ]

-- ---- migrations

-- what a migration has still to do is its own, and nothing was written that it has not read
pub record GoesOn (size : ℕ) (part : BlockRange) (us : List Want) (buffer : List Content) (there : ℕ → Content) : Type 0 where
  pub of_block : AreOfBlock size part.block.0 us
  pub paired : ArePaired size us
  pub read : ActorHasRead size us buffer there

-- a migration that is carried has this left now
pub carried_again : (size : ℕ) (orders orders' : List (Option Order)) (migration : Migration) (block : OBlock) (part : BlockRange) (steps us : List Want) (answer then_answer : Answer) (x x' : Actor) (y z : AbstractActor) (k : IsCarried size orders migration block part steps answer x y) (kept : Option AbstractOrder) →
    IsUnderOrder (slice_get orders' k.c.0) k.order (order_on part k.c k.next) kept x'.orders us → IsMigrationAt part k.c k.next migration kept (plan_of (Migrating migration part) us then_answer) x'.card z → GoesOn size part us x'.buffer z.buffer → IsCarried size orders' migration block part us then_answer x' z
carried_again size orders orders' migration block part steps us answer then_answer x x' y z k kept has at on = record { block_is = k.block_is; is_part = k.is_part; c = k.c; small = k.small; fills = k.fills; of_block = on.of_block; paired = on.paired; next = k.next; order = k.order; of = k.of; kept = kept; has = has; at = at; read = on.read }

-- it is so still where its own order's cache block has what it had
pub carried_beside : (size : ℕ) (orders orders' : List (Option Order)) (migration : Migration) (block : OBlock) (part : BlockRange) (steps : List Want) (answer : Answer) (x : Actor) (y : AbstractActor) → ((p : AbstractOrder) → y.order ≡ Some p → slice_get orders' p.cache ≡ slice_get orders p.cache) →
    IsCarried size orders migration block part steps answer x y → IsCarried size orders' migration block part steps answer x y
carried_beside size orders orders' migration block part steps answer x y beside k = carried_again size orders orders' migration block part steps steps answer answer x x y y k k.kept
    (elim k.has [
      | inl l ↦ inl (beside (order_on part k.c k.next) (ap (λ (v : AbstractActor). v.order) k.at.is ∙ l.1) ∙ l.0, l.1, l.2)
      | inr tail ↦ inr tail
    ])
    k.at (record { of_block = k.of_block; paired = k.paired; read = k.read })

-- what its actor is at from now on
abbrev pub IsDone : (size : ℕ) → Words → List (Option Order) → Actor → AbstractActor → Type 0
IsDone size words orders x y = (migration : Migration) (block : OBlock) (plan : Plan) → x.task ≡ Some (Migrate migration block, plan) → IsAtMigration size words orders migration block plan x y

abbrev pub MigratesNot : Job → Type 0
MigratesNot (Migrate migration block) = ⊥
MigratesNot job = Unit {0}

abbrev pub IsNoMigration : Option (Job × Plan) → Type 0
IsNoMigration None = Unit {0}
IsNoMigration (Some doing) = MigratesNot doing.0

-- a task that is no migration
pub does_none : (size : ℕ) (words : Words) (orders : List (Option Order)) (x : Actor) (y : AbstractActor) → IsNoMigration x.task → IsDone size words orders x y
does_none size words orders x y n migration block plan e = absurd (subst (λ (t : Option (Job × Plan)). IsNoMigration t) e n)

module _ (size : ℕ) (words words' : Words) (up : flag words.fail ≡ true → flag words'.fail ≡ true) (orders orders' : List (Option Order)) (actors : List Actor) (a : ℕ) (x x' : Actor) (s : World) (y y' : AbstractActor) (ex : slice_get actors a ≡ Some x) (ey : slice_get s.actors a ≡ Some y)
    (g : OrdersAgree size words orders actors s) (its : IsDone size words' orders' x' y') where
  -- who was there and is not aside is this actor, which has the order still, or another one
  moved : (p : AbstractOrder) → (y.order ≡ Some p → y'.order ≡ Some p) → OrderIsThere s p → (s.waiting p.cache ≡ Some p) ⊎ (y'.order ≡ Some p) ⊎ ((b : ℕ) × (v : AbstractActor) × (b ≢ a) × (slice_get s.actors b ≡ Some v) × (v.order ≡ Some p))
  moved p stays (inl w) = inl w
  moved p stays (inr h) = elim (cases_eq h.0 a) [
    | inl e ↦ let here : Some h.1 ≡ Some y = sym h.2 ∙ ap (λ k. slice_get s.actors k) e ∙ ey in let one : h.1 ≡ y = cc in inr (inl (stays (ap (λ (v : AbstractActor). v.order) (sym one) ∙ h.3)))
    | inr n ↦ inr (inr (h.0, h.1, n, h.2, h.3))
  ]

  -- ---- what lives where then

  -- On cache blocks of this kind its order is another one, if any, which is what lives there; on others it has what it had, or has put it aside.
  module _ (Here : ℕ → Type 0) (here_or : (d : ℕ) → Here d ⊎ (Here d → ⊥)) (waiting : ℕ → Option AbstractOrder) (t : Shared) (beside : (d : ℕ) → (Here d → ⊥) → slice_get orders' d ≡ slice_get orders d)
      (turns : (d : ℕ) (o : Option Order) → (Here d → ⊥) → slice_get orders d ≡ Some o → live_there t.mapping d o ≡ live_there s.shared.mapping d o) (alone : (b : ℕ) (v : AbstractActor) (p : AbstractOrder) → b ≢ a → slice_get s.actors b ≡ Some v → v.order ≡ Some p → Here p.cache → ⊥)
      (not_aside : (k : ℕ) (p : AbstractOrder) → Here k → waiting k ≡ Some p → ⊥) (lives : (d : ℕ) (o : Option Order) (p : AbstractOrder) → Here d → slice_get orders' d ≡ Some o → p.cache ≡ d → (live_there t.mapping d o ≡ Some p → y'.order ≡ Some p) × (y'.order ≡ Some p → live_there t.mapping d o ≡ Some p))
      (own : (p : AbstractOrder) → y'.order ≡ Some p → IsOf orders' (held x') p) (keeps : (p : AbstractOrder) → (Here p.cache → ⊥) → y'.order ≡ Some p → (y.order ≡ Some p) × (waiting p.cache ≢ Some p))
      (back : (k : ℕ) (p : AbstractOrder) → (Here k → ⊥) → waiting k ≡ Some p → ((y.order ≡ Some p) × (p.cache ≡ k)) ⊎ (s.waiting k ≡ Some p))
      (forth : (c : ℕ) (o : Option Order) (p : AbstractOrder) → slice_get orders c ≡ Some o → p.cache ≡ c → (Here c → ⊥) → OrderIsThere s p → (waiting p.cache ≡ Some p) ⊎ (y'.order ≡ Some p) ⊎ ((b : ℕ) × (v : AbstractActor) × (b ≢ a) × (slice_get s.actors b ≡ Some v) × (v.order ≡ Some p))) where
    abbrev then_is : World
    then_is = record { shared = t; actors = slice_set s.actors a y'; waiting = waiting }

    there : (c : ℕ) (o : Option Order) (p : AbstractOrder) → slice_get orders c ≡ Some o → p.cache ≡ c → (Here c → ⊥) → OrderIsThere s p → OrderIsThere then_is p
    there c o p e at n h = elim (forth c o p e at n h) [
      | inl w ↦ inl w
      | inr r ↦ elim r [ inl k ↦ inr (a, y', set_there s.actors a y y' ey, k) | inr k ↦ inr (k.0, k.1, set_other s.actors a k.0 y' k.2 ∙ k.3, k.4) ]
    ]

    was : (p : AbstractOrder) → (Here p.cache → ⊥) → OrderIsThere then_is p → OrderIsThere s p
    was p n (inl w) = elim (back p.cache p n w) [ inl k ↦ inr (a, y, ey, k.0) | inr k ↦ inl k ]
    was p n (inr h) = elim (who s.actors a y y' ey h.0 h.1 h.2) [
      | inl one ↦ inr (a, y, ey, (keeps p n (ap (λ (v : AbstractActor). v.order) one.1 ∙ h.3)).0)
      | inr one ↦ inr (h.0, h.1, one.1, h.3)
    ]

    -- on those cache blocks it is this actor's
    its_own : (p : AbstractOrder) → Here p.cache → OrderIsThere then_is p → y'.order ≡ Some p
    its_own p k (inl w) = absurd (not_aside p.cache p k w)
    its_own p k (inr h) = elim (who s.actors a y y' ey h.0 h.1 h.2) [ inl one ↦ ap (λ (v : AbstractActor). v.order) one.1 ∙ h.3 | inr one ↦ absurd (alone h.0 h.1 p one.0 one.1 h.3 k) ]

    -- on others it is of who had it
    unique : (b : ℕ) (v : AbstractActor) (p : AbstractOrder) → slice_get s.actors b ≡ Some v → v.order ≡ Some p → (Here p.cache → ⊥) → (c : ℕ) → c ≡ b → (d : ℕ) (z : AbstractActor) (q : AbstractOrder) → slice_get (slice_set s.actors a y') d ≡ Some z → z.order ≡ Some q → q.cache ≡ p.cache → d ≡ c
    unique b v p ev e n c same d z q ez f at = let k = (g.once b v p ev e).1 in elim (who s.actors a y y' ey d z ez) [
      | inl r ↦ r.0 ∙ k a y q ey (keeps q (λ h. n (subst Here at h)) (ap (λ (u : AbstractActor). u.order) r.1 ∙ f)).0 at ∙ sym same
      | inr r ↦ k d z q r.1 f at ∙ sym same
    ]

    -- what others migrate they migrate still, each under its own order
    at_on : (migration : Migration) (block : OBlock) (plan : Plan) (z : Actor) (u : AbstractActor) (b : ℕ) → b ≢ a → slice_get s.actors b ≡ Some u → IsAtMigration size words orders migration block plan z u → IsAtMigration size words' orders' migration block plan z u
    at_on migration block plan z u b n eu d = record {
      part = d.part;
      job = d.job;
      failed = d.failed;
      has_failed = λ e. up (d.has_failed e);
      at = elim d.at [
        | inl k ↦ inl (carried_beside size orders orders' migration block d.part plan.steps plan.answer z u (λ p e. beside p.cache (alone b u p n eu e)) k)
        | inr o ↦ inr o
      ];
    }

    carried_on : (b : ℕ) (z : Actor) (v : AbstractActor) (migration : Migration) (block : OBlock) (plan : Plan) → slice_get (slice_set actors a x') b ≡ Some z → slice_get (slice_set s.actors a y') b ≡ Some v → z.task ≡ Some (Migrate migration block, plan) → IsAtMigration size words' orders' migration block plan z v
    carried_on b z v migration block plan ez ev task = by_pair actors s.actors a x x' y y' ex ey (λ k q u. (m : Migration) (c : OBlock) (p : Plan) → q.task ≡ Some (Migrate m c, p) → IsAtMigration size words' orders' m c p q u) its
        (λ k q u n eq eu m c p e. at_on m c p q u k n eu (g.carried k q u m c p eq eu e)) b z v ez ev migration block plan task

    pub orders_so : OrdersAgree size words' orders' (slice_set actors a x') then_is
    orders_so = record {
      live = λ c o e p at. elim (here_or c) [
        | inl k ↦ let l = lives c o p k e at in (λ f. inr (a, y', set_there s.actors a y y' ey, l.0 f), λ h. l.1 (its_own p (subst Here (sym at) k) h))
        | inr n ↦ let f = sym (beside c n) ∙ e in let k = g.live c o f p at in let same = turns c o n f in (λ l. there c o p f at n (k.0 (sym same ∙ l)), λ h. same ∙ k.1 (was p (λ v. n (subst Here at v)) h))
      ];
      once = λ b v p ev e. elim (who s.actors a y y' ey b v ev) [
        | inl one ↦ elim (here_or p.cache) [
          | inl k ↦ (λ w. not_aside p.cache p k w, λ d z q ez f at. elim (who s.actors a y y' ey d z ez) [ inl r ↦ r.0 ∙ sym one.0 | inr r ↦ absurd (alone d z q r.0 r.1 f (subst Here (sym at) k)) ])
          | inr n ↦ let k = keeps p n (ap (λ (u : AbstractActor). u.order) one.1 ∙ e) in (k.1, unique a y p ey k.0 n b one.0)
        ]
        | inr one ↦
            let n = alone b v p one.0 one.1 e in
            (λ w. elim (back p.cache p n w) [ inl r ↦ absurd (one.0 ((g.once a y p ey r.0).1 b v p one.1 e refl)) | inr r ↦ absurd ((g.once b v p one.1 e).0 r) ], unique b v p one.1 e n b refl)
      ];
      waits = λ k p w. elim (here_or k) [
        | inl v ↦ absurd (not_aside k p v w)
        | inr n ↦ elim (back k p n w) [
          | inl r ↦ let i = g.ours a x y p ex ey r.0 in (r.1, (i.0, beside k n ∙ ap (slice_get orders) (sym r.1) ∙ i.1))
          | inr r ↦ let i = g.waits k p r in (i.0, (i.1.0, beside k n ∙ i.1.1))
        ]
      ];
      ours = λ b z v p ez ev. by_pair actors s.actors a x x' y y' ex ey (λ k q u. (p : AbstractOrder) → u.order ≡ Some p → IsOf orders' (held q) p) own
          (λ k q u n eq eu p e. let r = g.ours k q u p eq eu e in (r.0, beside p.cache (alone k u p n eu e) ∙ r.1, r.2)) b z v ez ev p;
      carried = carried_on;
    }

  -- it has gone on; on cache blocks of this kind its order is over
  pub goes_so : (Over : ℕ → Type 0) (over_or : (d : ℕ) → Over d ⊎ (Over d → ⊥)) → ((p : AbstractOrder) → y'.order ≡ Some p → (y.order ≡ Some p) × (Over p.cache → ⊥)) → ((p : AbstractOrder) → y.order ≡ Some p → (Over p.cache → ⊥) → y'.order ≡ Some p) → ((d : ℕ) → (Over d → ⊥) → slice_get orders' d ≡ slice_get orders d) → ((d : ℕ) (o : Option Order) → Over d → slice_get orders' d ≡ Some o → o ≡ None) →
      ((k : ℕ) (p : AbstractOrder) → Over k → s.waiting k ≡ Some p → ⊥) → ((b : ℕ) (v : AbstractActor) (p : AbstractOrder) → b ≢ a → slice_get s.actors b ≡ Some v → v.order ≡ Some p → Over p.cache → ⊥) → ((o : Order) → Contains (held x) o → ((p : AbstractOrder) → y'.order ≡ Some p → slice_get orders p.cache ≡ Some (Some o) → Contains (held x') o)) → (t : Shared) →
      ((d : ℕ) (o : Option Order) → (Over d → ⊥) → slice_get orders d ≡ Some o → live_there t.mapping d o ≡ live_there s.shared.mapping d o) → OrdersAgree size words' orders' (slice_set actors a x') (with_own s a t y')
  goes_so Over over_or keeps stays beside none waits_not alone still t turns = orders_so Over over_or s.waiting t beside turns alone waits_not
      (λ d o p k e at. (λ l. let bad : None ≡ Some p = ap (live_there t.mapping d) (sym (none d o k e)) ∙ l in absurd (cc), λ f. absurd ((keeps p f).1 (subst Over (sym at) k))))
      (λ p e. let k = keeps p e in let r = g.ours a x y p ex ey k.0 in (r.0, beside p.cache k.1 ∙ r.1, still r.0 r.2 p e r.1)) (λ p n e. let k = keeps p e in (k.0, (g.once a y p ey k.0).0)) (λ k p n w. inr w)
      (λ c o p e at n h. moved p (λ f. stays p f (λ v. n (subst Over at v))) h)

  -- it has begun something, and taken on the order of these cache blocks
  pub begins_so : (Taken : ℕ → Type 0) (taken_or : (d : ℕ) → Taken d ⊎ (Taken d → ⊥)) (waiting : ℕ → Option AbstractOrder) → ((p : AbstractOrder) → y'.order ≡ Some p → Taken p.cache × ((o : Option Order) → slice_get orders' p.cache ≡ Some o → live_there s.shared.mapping p.cache o ≡ Some p) × IsOf orders' (held x') p) →
      ((d : ℕ) (o : Option Order) (p : AbstractOrder) → Taken d → slice_get orders' d ≡ Some o → live_there s.shared.mapping d o ≡ Some p → y'.order ≡ Some p) → ((d : ℕ) → (Taken d → ⊥) → slice_get orders' d ≡ slice_get orders d) → ((d : ℕ) → (Taken d → ⊥) → waiting d ≡ aside s.waiting y.order d) → ((d : ℕ) (p : AbstractOrder) → Taken d → waiting d ≡ Some p → ⊥) →
      ((b : ℕ) (v : AbstractActor) (p : AbstractOrder) → b ≢ a → slice_get s.actors b ≡ Some v → v.order ≡ Some p → Taken p.cache → ⊥) → (t : Shared) → t.mapping ≡ s.shared.mapping → OrdersAgree size words' orders' (slice_set actors a x') (record { shared = t; actors = slice_set s.actors a y'; waiting = waiting })
  begins_so Taken taken_or waiting own takes beside put gone alone t same_map = orders_so Taken taken_or waiting t beside (λ d o n e. ap (λ (m : Locations). live_there m d o) same_map) alone gone
      (λ d o p k e at. (λ l. takes d o p k e (sym (ap (λ (m : Locations). live_there m d o) same_map) ∙ l), λ f. ap (λ (m : Locations). live_there m d o) same_map ∙ ap (λ i. live_there s.shared.mapping i o) (sym at) ∙ (own p f).1 o (ap (slice_get orders') at ∙ e)))
      (λ p e. (own p e).2) (λ p n e. absurd (n (own p e).0)) (λ k p n w. elim (aside_cases s.waiting y.order k p (sym (put k n) ∙ w)) [ inl r ↦ inl (r.0, r.1) | inr r ↦ inr r.0 ])
      (λ c o p e at n h. elim (aside_or size words orders actors a s y ey g c o e p at h) [ inl w ↦ inl (put p.cache (λ v. n (subst Taken at v)) ∙ w) | inr k ↦ inr (inr k) ])

-- ---- the two that change no order

-- it has gone on, under the order that it had
pub orders_on : (size : ℕ) (words words' : Words) → (flag words.fail ≡ true → flag words'.fail ≡ true) → (orders : List (Option Order)) (actors : List Actor) (a : ℕ) (x x' : Actor) (s : World) (y y' : AbstractActor) (t : Shared) → slice_get actors a ≡ Some x → slice_get s.actors a ≡ Some y → OrdersAgree size words orders actors s →
    y'.order ≡ y.order → ((o : Order) → Contains (held x) o → Contains (held x') o) → t.mapping ≡ s.shared.mapping → IsDone size words' orders x' y' → OrdersAgree size words' orders (slice_set actors a x') (with_own s a t y')
orders_on size words words' up orders actors a x x' s y y' t ex ey g same own same_map its = goes_so size words words' up orders orders actors a x x' s y y' ex ey g its (λ d. ⊥) (λ d. inr (λ v. v))
    (λ p e. (sym same ∙ e, λ v. v)) (λ p e n. same ∙ e) (λ d n. refl) (λ d o v. absurd v) (λ k p v. absurd v) (λ b v p n ev e k. k) (λ o h p e l. own o h) t (λ d o n e. ap (λ (m : Locations). live_there m d o) same_map)

-- it has begun something under no order
pub orders_begun : (size : ℕ) (words : Words) (orders : List (Option Order)) (actors : List Actor) (a : ℕ) (x x' : Actor) (s : World) (y y' : AbstractActor) (t : Shared) → slice_get actors a ≡ Some x → slice_get s.actors a ≡ Some y → OrdersAgree size words orders actors s →
    y'.order ≡ None → t.mapping ≡ s.shared.mapping → IsDone size words orders x' y' → OrdersAgree size words orders (slice_set actors a x') (record { shared = t; actors = slice_set s.actors a y'; waiting = aside s.waiting y.order })
orders_begun size words orders actors a x x' s y y' t ex ey g none same_map its = begins_so size words words (λ f. f) orders orders actors a x x' s y y' ex ey g its (λ d. ⊥) (λ d. inr (λ v. v)) (aside s.waiting y.order)
    (λ p e. let bad : None ≡ Some p = sym none ∙ e in absurd (cc)) (λ d o p v. absurd v) (λ d n. refl) (λ d n. refl) (λ d p v. absurd v) (λ b v p n ev e k. k) t same_map

-- ---- an order that turns into another one

-- Its order goes on as another one on its cache block, which is what lives there then.
module _ (size : ℕ) (words : Words) (orders : List (Option Order)) (actors : List Actor) (a : ℕ) (x x' : Actor) (s : World) (y y' : AbstractActor) (ex : slice_get actors a ≡ Some x) (ey : slice_get s.actors a ≡ Some y) (g : OrdersAgree size words orders actors s) (its : IsDone size words orders x' y')
    (own own' : AbstractOrder) (under : y.order ≡ Some own) (under' : y'.order ≡ Some own') (same : own'.cache ≡ own.cache) (t : Shared) (order : Order) (slot : slice_get orders own.cache ≡ Some (Some order)) (lives : live_there t.mapping own.cache (Some order) ≡ Some own') (mine : Contains (held x') order)
    (turns : (d : ℕ) (o : Option Order) → d ≢ own.cache → slice_get orders d ≡ Some o → live_there t.mapping d o ≡ live_there s.shared.mapping d o) where
  -- nothing else is on its cache block
  not_aside_so : (k : ℕ) (p : AbstractOrder) → k ≡ own.cache → s.waiting k ≡ Some p → ⊥
  not_aside_so k p at w =
      let here = (g.live own.cache (Some order) slot own refl).1 (inr (a, y, ey, under)) in
      let there = (g.live own.cache (Some order) slot p ((g.waits k p w).0 ∙ at)).1 (inl (ap s.waiting (g.waits k p w).0 ∙ w)) in
      let both : Some p ≡ Some own = sym there ∙ here in
      (g.once a y own ey under).0 (ap s.waiting (sym at) ∙ w ∙ both)

  pub turns_so : OrdersAgree size words orders (slice_set actors a x') (with_own s a t y')
  turns_so = orders_so size words words (λ e. e) orders orders actors a x x' s y y' ex ey g its (λ d. d ≡ own.cache) (λ d. elim (cases_eq d own.cache) [ inl e ↦ inl e | inr n ↦ inr n ]) s.waiting t (λ d n. refl) turns
      (λ b v p n ev e at. n ((g.once a y own ey under).1 b v p ev e at)) not_aside_so
      (λ d o p here e at.
      let both : Some (Some order) ≡ Some o = sym slot ∙ ap (slice_get orders) (sym here) ∙ e in
      let is : Some order ≡ o = cc in
      let now : live_there t.mapping d o ≡ Some own' = (λ i. live_there t.mapping (here i) (sym is i)) ∙ lives in
      (λ l. under' ∙ sym now ∙ l, λ f. now ∙ sym under' ∙ f))
      (λ p e. let both : Some own' ≡ Some p = sym under' ∙ e in let is : own' ≡ p = cc in subst (λ (q : AbstractOrder). IsOf orders (held x') q) is (order, ap (slice_get orders) same ∙ slot, mine))
      (λ p n e. absurd (let both : Some own' ≡ Some p = sym under' ∙ e in let is : own' ≡ p = cc in n (ap (λ (q : AbstractOrder). q.cache) (sym is) ∙ same))) (λ k p n w. inr w)
      (λ c o p e at n h. moved size words words (λ e. e) orders orders actors a x x' s y y' ex ey g its p (λ f. absurd (let both : Some own ≡ Some p = sym under ∙ f in let is : own ≡ p = cc in n (sym at ∙ ap (λ (q : AbstractOrder). q.cache) (sym is)))) h)
