-- The orders that actors have live on the desk, and no two actors have one.
use Rattle.std.proofs.Common.{◌≡◌, ◌≢◌, ◌∙◌, inl, inr, ℕ, Bool, true, false, if◌then◌else◌, List, [], ◌∷◌, Option, Some, None, refl, sym, ap, subst, arith, slice_get, slice_set, get_or-set_same, get_or-set_other, Contains}
use Rattle.std.proofs.lemmas.Bool.{cases_eq}
use Rattle.std.proofs.lemmas.Option.{get_or_from_slice_get, slice_get_within}
use Rattle.wb_types.specs.declared.number.OBlock.{OBlock}
use Rattle.wb_types.specs.declared.number.CBlock.{CBlock}
use Rattle.wb_types.proofs.Lists.{Contains-first, Contains-behind}
use Rattle.wb_policy.specs.declared.order.Order.{Order}
use Rattle.wb_policy.specs.declared.order.Order.TheVariants.{Replace}
use Rattle.wb_orders.specs.declared.live_order.LiveOrder.{LiveOrder}
use Rattle.wb_orders.specs.Named.{first_of, IsNamed}
use Rattle.wb_orders.specs.Orders.{AreOrders, order_at}
use Rattle.wb_desk.specs.Desks.{DeskState, IsLive, MayReserve}
use Rattle.wb_desk.specs.Calls.{reserved}
use Rattle.wb_stage.specs.Asking.{is_of}
use Rattle.wb_promise.specs.States.{Actor}
use Rattle.wb_promise.specs.Effects.{dropped}
use Rattle.wb_runs.proofs.Ordering.{held_of}
use Rattle.wb_contents.proofs.Lists.{set_other, set_there}
use Rattle.wb_runs.proofs.Lists.{first_or}

-- ---- orders of a block

-- an order of a block names it
pub of_named : (b : OBlock) (order : Order) → is_of b order ≡ true → IsNamed order b.0
of_named b (Replace v x c) e = grind arith
of_named b order e = inl (grind arith)

-- what is left of orders was there, and is of another block
pub dropped_is : (b : OBlock) (orders : List Order) (order : Order) → Contains (dropped b orders) order → Contains orders order × (is_of b order ≡ false)
dropped_is b [] order h = absurd (omega (arith, h.1))
dropped_is b (o ∷ orders) order h = by_test (is_of b o) refl h (λ later. dropped_is b orders order later)
  where
    by_test : (t : Bool) → is_of b o ≡ t → Contains (if t then dropped b orders else o ∷ dropped b orders) order → (Contains (dropped b orders) order → Contains orders order × (is_of b order ≡ false)) → Contains (o ∷ orders) order × (is_of b order ≡ false)
    by_test true e h rest = let r = rest h in (Contains-behind o orders order r.0, r.1)
    by_test false e h rest = first_or o order (dropped b orders) (Contains (o ∷ orders) order × (is_of b order ≡ false)) h
        (λ same. (subst (λ (p : Order). Contains (o ∷ orders) p) (sym same) (Contains-first o orders), ap (is_of b) same ∙ e))
        (λ later. let r = rest later in (Contains-behind o orders order r.0, r.1))

-- ---- what is had

-- Each order that an actor has, whether it waits for a flush or not, lives on the desk, and somebody has taken it; no two actors have one.
pub record Owned {P : Type 0} (desk : DeskState P) (actors : List Actor) : Type 0 where
  pub live : (a : ℕ) (x : Actor) (order : Order) → slice_get actors a ≡ Some x → Contains (held_of x) order → IsLive desk order
  pub one : (a b : ℕ) (x z : Actor) (order : Order) → slice_get actors a ≡ Some x → slice_get actors b ≡ Some z → Contains (held_of x) order → Contains (held_of z) order → a ≡ b

-- an order that lives in another cache block lives on
live_beside : (P : Type 0) (desk desk' : DeskState P) (cache : CBlock) (s : Option LiveOrder) (order : Order) → desk'.orders.slots ≡ slice_set desk.orders.slots cache.0 s → (l : IsLive desk order) → l.cache.0 ≢ cache.0 → IsLive desk' order
live_beside P desk desk' cache s order same l n = record {
  cache = l.cache;
  live = l.live;
  there = ap (λ (slots : List (Option LiveOrder)). order_at slots l.cache.0) same ∙ get_or-set_other desk.orders.slots cache.0 l.cache.0 s None n ∙ l.there;
  same = l.same;
  taken = l.taken;
}

module _ (P : Type 0) (desk : DeskState P) (actors : List Actor) (a : ℕ) (x y : Actor) (e : slice_get actors a ≡ Some x) (owned : Owned desk actors) where
  -- an actor has these now, of another desk
  owned_by : (desk' : DeskState P) → ((order : Order) → Contains (held_of y) order → IsLive desk' order) → ((b : ℕ) (z : Actor) (order : Order) → b ≢ a → slice_get actors b ≡ Some z → Contains (held_of z) order → IsLive desk' order × (Contains (held_of y) order → ⊥)) → Owned desk' (slice_set actors a y)
  owned_by desk' mine others = record { live = live_at; one = one_at }
    where
      is_mine : (z : Actor) (f : slice_get (slice_set actors a y) a ≡ Some z) → y ≡ z
      is_mine z f = let here : Some y ≡ Some z = sym (set_there actors a x y e) ∙ f in cc

      there : (b : ℕ) (z : Actor) → b ≢ a → slice_get (slice_set actors a y) b ≡ Some z → slice_get actors b ≡ Some z
      there b z n f = sym (set_other actors a b y n) ∙ f

      live_at : (b : ℕ) (z : Actor) (order : Order) → slice_get (slice_set actors a y) b ≡ Some z → Contains (held_of z) order → IsLive desk' order
      live_at b z order f h = elim (cases_eq b a) [
        | inl s ↦ mine order (subst (λ (v : Actor). Contains (held_of v) order) (sym (is_mine z (subst (λ k. slice_get (slice_set actors a y) k ≡ Some z) s f))) h)
        | inr n ↦ (others b z order n (there b z n f) h).0
      ]

      one_at : (b c : ℕ) (z v : Actor) (order : Order) → slice_get (slice_set actors a y) b ≡ Some z → slice_get (slice_set actors a y) c ≡ Some v → Contains (held_of z) order → Contains (held_of v) order → b ≡ c
      one_at b c z v order f g h i = elim (cases_eq b a) [
        | inl s ↦ elim (cases_eq c a) [
          | inl t ↦ s ∙ sym t
          | inr m ↦ absurd ((others c v order m (there c v m g) i).1 (subst (λ (w : Actor). Contains (held_of w) order) (sym (is_mine z (subst (λ k. slice_get (slice_set actors a y) k ≡ Some z) s f))) h))
        ]
        | inr n ↦ elim (cases_eq c a) [
          | inl t ↦ absurd ((others b z order n (there b z n f) h).1 (subst (λ (w : Actor). Contains (held_of w) order) (sym (is_mine v (subst (λ k. slice_get (slice_set actors a y) k ≡ Some v) t g))) i))
          | inr m ↦ owned.one b c z v order (there b z n f) (there c v m g) h i
        ]
      ]

  -- it has some of its orders, and they live on
  pub owned_within : (desk' : DeskState P) → ((order : Order) → Contains (held_of y) order → Contains (held_of x) order) → desk'.orders ≡ desk.orders → Owned desk' (slice_set actors a y)
  owned_within desk' within same = owned_by desk'
      (λ order h. on order (owned.live a x order e (within order h)))
      (λ b z order n f h. (on order (owned.live b z order f h), λ i. n (owned.one b a z x order f e h (within order i))))
    where
      on : (order : Order) → IsLive desk order → IsLive desk' order
      on order l = record { cache = l.cache; live = l.live; there = ap (λ (os : Rattle.wb_orders.specs.Orders.Orders). order_at os.slots l.cache.0) same ∙ l.there; same = l.same; taken = l.taken }

  -- it has the same orders, and they live on
  pub owned_same : (desk' : DeskState P) → held_of y ≡ held_of x → desk'.orders ≡ desk.orders → Owned desk' (slice_set actors a y)
  owned_same desk' mine same = owned_within desk' (λ order h. subst (λ (os : List Order). Contains os order) mine h) same

  -- one more is given to it
  pub owned_given : (cache : CBlock) (order : Order) → AreOrders desk.orders → MayReserve desk cache order → held_of y ≡ order ∷ held_of x → Owned (reserved desk cache order false) (slice_set actors a y)
  owned_given cache order are may mine = owned_by (reserved desk cache order false)
      (λ o h. first_or order o (held_of x) (IsLive (reserved desk cache order false) o) (subst (λ (os : List Order). Contains os o) mine h)
      (λ same. subst (λ (p : Order). IsLive (reserved desk cache order false) p) (sym same) new)
      (λ later. on o (owned.live a x o e later)))
      (λ b z o n f h. (
        on o (owned.live b z o f h),
        λ i. first_or order o (held_of x) ⊥ (subst (λ (os : List Order). Contains os o) mine i)
            (λ same. fresh (owned.live b z order f (subst (λ (p : Order). Contains (held_of z) p) same h)))
            (λ later. n (owned.one b a z x o f e h later)),
      ))
    where
      new : IsLive (reserved desk cache order false) order
      new = record {
        cache = cache;
        live = record { order = order; sectors = Rattle.wb_desk.specs.Desks.sectors_asked desk.geometry order; threshold = desk.threshold; number = desk.orders.given; waits = false };
        there = get_or-set_same desk.orders.slots cache.0 _ None (slice_get_within desk.orders.slots cache.0 None may.give.vacant);
        same = refl;
        taken = refl;
      }

      vacant : (o : LiveOrder) → order_at desk.orders.slots cache.0 ≡ Some o → ⊥
      vacant o f = let none : order_at desk.orders.slots cache.0 ≡ None = get_or_from_slice_get desk.orders.slots cache.0 None None may.give.vacant in absurd (cc)

      on : (o : Order) → IsLive desk o → IsLive (reserved desk cache order false) o
      on o l = live_beside P desk (reserved desk cache order false) cache _ o refl l (λ s. vacant l.live (ap (order_at desk.orders.slots) (sym s) ∙ l.there))

      -- nobody has its blocks
      fresh : IsLive desk order → ⊥
      fresh l =
          let busy = are.marks l.cache.0 (first_of order).0 l.live l.there (inl (ap (λ (p : Order). (first_of p).0) l.same)) in
          let idle = get_or_from_slice_get desk.orders.busy (first_of order).0 false false may.give.idle.0 in
          absurd (cc)

  module _ (order : Order) (b : OBlock) (cache : CBlock) (live : LiveOrder) (has : Contains (held_of x) order) (there : order_at desk.orders.slots cache.0 ≡ Some live) (is : live.order ≡ order) (named : is_of b order ≡ true) (mine : (o : Order) → Contains (held_of y) o → Contains (held_of x) o × (is_of b o ≡ false)) where
    -- Its order is over, the only one of its block.
    pub owned_over : (desk' : DeskState P) → desk'.orders.slots ≡ slice_set desk.orders.slots cache.0 None → Owned desk' (slice_set actors a y)
    owned_over desk' same = owned_by desk'
        (λ o h. let r = mine o h in
        let l = owned.live a x o e r.0 in
        live_beside P desk desk' cache None o same l (λ s. absurd (let f : is_of b o ≡ true = ap (is_of b) (at_cache o l s) ∙ named in cc)))
        (λ c z o n f h. let l = owned.live c z o f h in (
          live_beside P desk desk' cache None o same l (λ s. n (owned.one c a z x order f e (subst (λ (p : Order). Contains (held_of z) p) (at_cache o l s) h) has)),
          λ i. n (owned.one c a z x o f e h (mine o i).0),
        ))
      where
        -- an order that lives in this cache block is this one
        at_cache : (o : Order) (l : IsLive desk o) → l.cache.0 ≡ cache.0 → o ≡ order
        at_cache o l s =
            let both : Some l.live ≡ Some live = sym l.there ∙ ap (order_at desk.orders.slots) s ∙ there in
            let one : l.live ≡ live = cc in
            sym l.same ∙ ap (λ (v : LiveOrder). v.order) one ∙ is
