-- Orders of a block in a list; who has one that lives has it alone; and a block that leaves the desk under its order.
use Rattle.std.proofs.Common.{◌≡◌, ◌∙◌, ◌&&◌, Bool, true, false, if◌then◌else◌, List, [], ◌∷◌, Some, None, refl, sym, ap, subst, arith, Contains, ◌||◌, inl, inr, ℕ, slice_get, slice_set, ◌++◌, Option}
use Rattle.wb_types.proofs.Truth.{and_true}
use Rattle.wb_types.proofs.Lists.{Contains-first, Contains-behind}
use Rattle.wb_types.specs.declared.number.OBlock.{OBlock}
use Rattle.wb_policy.specs.declared.order.Order.{Order}
use Rattle.wb_desk.specs.Entries.{is_replacement, HasLeft, IsRemoved, Removes, keeps, orders_past}
use Rattle.wb_stage.specs.Asking.{is_of, order_of, DidUnmap}
use Rattle.wb_promise.specs.Effects.{dropped, replacing}
use Rattle.wb_runs.proofs.Lists.{first_or}
use Rattle.std.proofs.lemmas.Bool.{eq-eqb}
use Rattle.std.proofs.lemmas.List.Elements.{Contains-append_cases, Contains-append_left, Contains-append_right}
use Rattle.wb_policy.specs.declared.order.Order.TheVariants.{Promote as PromoteOrder, Replace, Demote as DemoteOrder, Clean as CleanOrder}
use Rattle.wb_orders.specs.declared.live_order.LiveOrder.{LiveOrder}
use Rattle.wb_orders.specs.Named.{first_of, IsNamed}
use Rattle.wb_orders.specs.Orders.{AreOrders, order_at, Orders, without_order}
use Rattle.wb_desk.specs.Desks.{DeskState, IsLive, DeskInvariant, Names, holdings}
use Rattle.wb_tasks.specs.declared.step.Migration.{Migration}
use Rattle.wb_tasks.specs.declared.step.Migration.TheVariants.{Promote, Demote}
use Rattle.wb_promise.specs.States.{Actor}
use Rattle.wb_promise.specs.Happenings.{order_for}
use Rattle.wb_runs.proofs.Ordering.{held_of}
use Rattle.wb_runs.proofs.Owning.{Owned, dropped_is, of_named, owned_over, owned_within}
use Rattle.wb_types.specs.declared.number.CBlock.{CBlock}
use Rattle.wb_contents.specs.Volume.{Locations}
use Rattle.wb_space.specs.Blocks.{state}
use Rattle.wb_policy.specs.Law.{IsMappedAt}
use Rattle.wb_runs.proofs.Located.{stands_there}
use Rattle.wb_runs.proofs.Metadata.{unknowing}
use Rattle.wb_link.specs.World.{Shared}
use Rattle.wb_simulation.specs.Carried.{IsOrderFor}
use Rattle.wb_simulation.specs.Migrating.{LeavesFrom}
use Rattle.wb_headline.specs.Desks.{live_orders, DeskAgrees}
use Rattle.wb_headline.proofs.Seeing.{live_here, mapped_there, named}

-- the replacements of a block are of that block, and among the orders
pub replacing_is : (b : OBlock) (orders : List Order) (o : Order) → Contains (replacing b orders) o → Contains orders o × (is_of b o ≡ true)
replacing_is b [] o h = absurd (omega (arith, h.1))
replacing_is b (p ∷ orders) o h = by_test (is_of b p && is_replacement p) refl h (λ later. replacing_is b orders o later)
  where
    by_test : (t : Bool) → (is_of b p && is_replacement p) ≡ t → Contains (if t then p ∷ replacing b orders else replacing b orders) o → (Contains (replacing b orders) o → Contains orders o × (is_of b o ≡ true)) → Contains (p ∷ orders) o × (is_of b o ≡ true)
    by_test false e h rest = (let r = rest h in (Contains-behind p orders o r.0, r.1))
    by_test true e h rest = first_or p o (replacing b orders) (Contains (p ∷ orders) o × (is_of b o ≡ true)) h
        (λ same. (subst (λ (v : Order). Contains (p ∷ orders) v) (sym same) (Contains-first p orders), ap (is_of b) same ∙ (and_true (is_of b p) (is_replacement p) e).0))
        (λ later. let r = rest later in (Contains-behind p orders o r.0, r.1))

pub true_not : {A : Type 0} (t : Bool) → t ≡ true → t ≡ false → A
true_not true e f = absurd (cc)
true_not false e f = absurd (cc)

-- the first order of a block is its only one
pub only_of : (b : OBlock) (orders : List Order) (o : Order) → Contains orders o → is_of b o ≡ true → ((p : Order) → Contains orders p → is_of b p ≡ true → p ≡ o) → order_of b orders ≡ Some o
only_of b [] o h t one = absurd (omega (arith, h.1))
only_of b (p ∷ orders) o h t one = by_test (is_of b p) refl (λ later. only_of b orders o later t (λ q k. one q (Contains-behind p orders q k)))
  where
    by_test : (v : Bool) → is_of b p ≡ v → (Contains orders o → order_of b orders ≡ Some o) → (if v then Some p else order_of b orders) ≡ Some o
    by_test true e rest = ap (λ (q : Order). Some q) (one p (Contains-first p orders) e)
    by_test false e rest = first_or p o orders (order_of b orders ≡ Some o) h (λ same. true_not (is_of b p) (ap (is_of b) (sym same) ∙ t) e) rest

-- the order that is found is one of them
pub found_of : (b : OBlock) (orders : List Order) (o : Order) → order_of b orders ≡ Some o → Contains orders o × (is_of b o ≡ true)
found_of b [] o e = absurd (cc)
found_of b (p ∷ orders) o e = by_test (is_of b p) refl e (λ f. found_of b orders o f)
  where
    by_test : (v : Bool) → is_of b p ≡ v → (if v then Some p else order_of b orders) ≡ Some o → (order_of b orders ≡ Some o → Contains orders o × (is_of b o ≡ true)) → Contains (p ∷ orders) o × (is_of b o ≡ true)
    by_test true t f rest = (let same : p ≡ o = cc in (subst (λ (v : Order). Contains (p ∷ orders) v) same (Contains-first p orders), ap (is_of b) (sym same) ∙ t))
    by_test false t f rest = (let r = rest f in (Contains-behind p orders o r.0, r.1))

-- where none is of the block, all stay
pub none_dropped : (b : OBlock) (orders : List Order) → order_of b orders ≡ None → dropped b orders ≡ orders
none_dropped b [] e = refl
none_dropped b (p ∷ orders) e = by (is_of b p) e (λ f. none_dropped b orders f)
  where
    by : (t : Bool) → (if t then Some p else order_of b orders) ≡ None → (order_of b orders ≡ None → dropped b orders ≡ orders) → (if t then dropped b orders else p ∷ dropped b orders) ≡ p ∷ orders
    by true e rest = absurd (cc)
    by false e rest = ap (λ (os : List Order). p ∷ os) (rest e)

-- and where none of the block is a replacement, none is one of it
pub none_replacing : (b : OBlock) (orders : List Order) → ((p : Order) → Contains orders p → is_of b p ≡ true → is_replacement p ≡ false) → replacing b orders ≡ []
none_replacing b [] f = refl
none_replacing b (p ∷ orders) f = by (is_of b p && is_replacement p) refl (none_replacing b orders (λ q h. f q (Contains-behind p orders q h)))
  where
    by : (t : Bool) → (is_of b p && is_replacement p) ≡ t → replacing b orders ≡ [] → (if t then p ∷ replacing b orders else replacing b orders) ≡ []
    by true e rest = (let both = and_true (is_of b p) (is_replacement p) e in true_not (is_replacement p) both.1 (f p (Contains-first p orders) both.0))
    by false e rest = rest

-- ---- an order of a block

pub for_block : (m : Migration) (b bl : OBlock) → bl ≡ b → is_of bl (order_for m b) ≡ true
for_block (Promote c) b bl e = eq-eqb b.0 bl.0 (ap (λ (o : OBlock). o.0) (sym e))
for_block m b bl e = eq-eqb b.0 bl.0 (ap (λ (o : OBlock). o.0) (sym e))

-- each is of some block
of_first : (q : Order) → is_of (first_of q) q ≡ true
of_first (PromoteOrder b c) = eq-eqb b.0 b.0 refl
of_first (Replace old new c) = ap (λ (t : Bool). t || is_of old (DemoteOrder new)) (eq-eqb old.0 old.0 refl)
of_first (DemoteOrder b) = eq-eqb b.0 b.0 refl
of_first (CleanOrder b) = eq-eqb b.0 b.0 refl

-- no order both waits for a flush and does not
abbrev pub AreParted : Actor → Type 0
AreParted x = (order : Order) → Contains x.orders order → Contains x.awaiting order → ⊥

module _ (P : Type 0) (desk : DeskState P) (actors : List Actor) (are : AreOrders desk.orders) (owned : Owned desk actors) where
  -- of one block one order lives
  pub one_of_block : (o p : Order) → IsLive desk o → IsLive desk p → (b : OBlock) → is_of b o ≡ true → is_of b p ≡ true → o ≡ p
  one_of_block o p l m b t u =
      let same = are.apart l.cache.0 m.cache.0 b.0 l.live m.live l.there m.there (subst (λ (q : Order). IsNamed q b.0) (sym l.same) (of_named b o t)) (subst (λ (q : Order). IsNamed q b.0) (sym m.same) (of_named b p u)) in
      let both : Some l.live ≡ Some m.live = sym l.there ∙ ap (order_at desk.orders.slots) same ∙ m.there in
      let one : l.live ≡ m.live = cc in
      sym l.same ∙ ap (λ (v : LiveOrder). v.order) one ∙ m.same

  module _ (a : ℕ) (x : Actor) (ex : slice_get actors a ≡ Some x) (q : Order) (c : ℕ) (there : slice_get (live_orders desk) c ≡ Some (Some q)) (has : Contains (held_of x) q) where
    -- an order of an actor's lives where it is said to
    pub live_at : IsLive desk q
    live_at = owned.live a x q ex has

    pub at_there : live_at.cache.0 ≡ c
    at_there =
        let l = live_at in
        let k = live_here desk.orders.slots c q there in
        are.apart l.cache.0 c (first_of q).0 l.live k.0 l.there k.1 (subst (λ (p : Order). IsNamed p (first_of q).0) (sym l.same) (of_named (first_of q) q (of_first q))) (subst (λ (p : Order). IsNamed p (first_of q).0) (sym k.2) (of_named (first_of q) q (of_first q)))

    module _ (b : OBlock) (of : is_of b q ≡ true) where
      -- the only one of that block
      pub only_held : (p : Order) → Contains (held_of x) p → is_of b p ≡ true → p ≡ q
      only_held p h f = one_of_block p q (owned.live a x p ex h) live_at b f of

      -- it is over
      pub over : AreParted x → Contains x.orders q → (desk' : DeskState P) → desk'.orders.slots ≡ slice_set desk.orders.slots c None → (y : Actor) → y.orders ≡ dropped b x.orders → y.awaiting ≡ x.awaiting → Owned desk' (slice_set actors a y)
      over parted mine desk' slots y orders awaiting =
          owned_over P desk actors a x y ex owned q b live_at.cache live_at.live has live_at.there live_at.same of
          (λ o h. elim (Contains-append_cases y.orders y.awaiting o h) [
            | inl i ↦ (let d = dropped_is b x.orders o (subst (λ (os : List Order). Contains os o) orders i) in (Contains-append_left x.orders x.awaiting o d.0, d.1))
            | inr i ↦ (let w = subst (λ (os : List Order). Contains os o) awaiting i in (Contains-append_right x.orders x.awaiting o w, waits o w (is_of b o) refl))
          ])
          desk' (slots ∙ ap (λ (k : ℕ). slice_set desk.orders.slots k None) (sym at_there))
        where
          waits : (o : Order) → Contains x.awaiting o → (v : Bool) → is_of b o ≡ v → is_of b o ≡ false
          waits o w false e = e
          waits o w true e = absurd (parted o (subst (λ (p : Order). Contains x.orders p) (sym (only_held o (Contains-append_right x.orders x.awaiting o w) e)) mine) w)

or_left : (a b : Bool) → a ≡ true → (a || b) ≡ true
or_left true b e = refl
or_left false b e = absurd (cc)

or_right : (a b : Bool) → b ≡ true → (a || b) ≡ true
or_right true b e = refl
or_right false b e = e

-- a migration's order is one of its block
pub of_order : (m : Migration) (b : OBlock) (next : Option ℕ) (o : Order) → IsOrderFor m b next o → is_of b o ≡ true
of_order m b next o (inl is) = ap (is_of b) is.0 ∙ for_block m b b refl
of_order Demote b next (Replace old new c) (inr is) = or_left (is_of b (DemoteOrder old)) (is_of b (DemoteOrder new)) (eq-eqb old.0 b.0 (ap (λ (v : OBlock). v.0) is.0))
of_order (Promote k) b next (Replace old new c) (inr is) = or_right (is_of b (DemoteOrder old)) (is_of b (DemoteOrder new)) (eq-eqb new.0 b.0 (ap (λ (v : OBlock). v.0) is.0))
of_order m b next o (inr is) = absurd is

module _ (P : Type 0) (desk : DeskState P) (kept : DeskInvariant unknowing desk) where
  module _ (s : Shared) (g : DeskAgrees desk s) where
    pub mapped_so : (b c : ℕ) → IsMappedAt (holdings desk) b c → s.mapping b ≡ Some c
    mapped_so b c at = ap (λ (m : Locations). m b) g.mapping ∙ stands_there P desk kept b c at

    pub stands_so : (b c : ℕ) → s.mapping b ≡ Some c → IsMappedAt (holdings desk) b c
    stands_so b c e = mapped_there P desk kept b c (ap (λ (m : Locations). m b) (sym g.mapping) ∙ e)

    -- a block that is to leave stands where its order says
    pub leaves_from : (block : OBlock) → LeavesFrom (live_orders desk) s.mapping block
    leaves_from block c next order e (inl is) some = mapped_so block.0 c (subst (λ (o : Order). Names (holdings desk) (state desk.space.blocks c) c o) is.0 (named P desk kept c order e))
    leaves_from block c next (Replace old new k) e (inr is) some = some (λ q. let bad : None ≡ Some new.0 = sym q ∙ is.1 in absurd (cc))
    leaves_from block c next o e (inr is) some = absurd is

  module _ (actors : List Actor) (are : AreOrders desk.orders) (owned : Owned desk actors) (a : ℕ) (x : Actor) (ex : slice_get actors a ≡ Some x) (parted : AreParted x) (block : OBlock) (c : ℕ) (o : Order) (live : slice_get (live_orders desk) c ≡ Some (Some o)) (mine : Contains x.orders o) (removes : Removes o) (at : IsMappedAt (holdings desk) block.0 c) (of : is_of block o ≡ true) where
    abbrev cache : CBlock
    cache = record { 0 = c }

    abbrev held : Contains (held_of x) o
    held = Contains-append_left x.orders x.awaiting o mine

    abbrev l : IsLive desk o
    l = live_at P desk actors are owned a x ex o c live held

    here : order_at desk.orders.slots c ≡ Some l.live
    here = ap (order_at desk.orders.slots) (sym (at_there P desk actors are owned a x ex o c live held)) ∙ l.there

    pub left : (new : DeskState P) → DidUnmap (λ policy b. new.policy) block desk new → HasLeft (λ policy b. new.policy) desk block cache new
    left new did = did.0 (record { cache = cache; mapped = at; removed = subst (λ (o : Option LiveOrder). IsRemoved o) (sym here) (l.taken, subst (λ (q : Order). Removes q) (sym l.same) removes) })

    -- a replacement goes on
    module _ (v : Bool) (replaces : is_replacement o ≡ v) where
      pub past : orders_past (order_at desk.orders.slots c) desk.orders cache ≡ (if v then desk.orders else without_order desk.orders cache)
      past = ap (λ (s : Option LiveOrder). orders_past s desk.orders cache) here ∙ ap (λ (v : Bool). if v then desk.orders else without_order desk.orders cache) (ap is_replacement l.same ∙ replaces)

      pub keeps_so : keeps (order_at desk.orders.slots c) ≡ v
      keeps_so = ap keeps here ∙ ap is_replacement l.same ∙ replaces

    -- none waits then where it is over
    pub none_waits : is_replacement o ≡ false → replacing block x.orders ≡ []
    none_waits r = none_replacing block x.orders (λ p h f. ap is_replacement (only_held P desk actors are owned a x ex o c live held block of p (Contains-append_left x.orders x.awaiting p h) f) ∙ r)

    within : (y : Actor) → y.orders ≡ dropped block x.orders → y.awaiting ≡ (replacing block x.orders ++ x.awaiting) → (p : Order) → Contains (held_of y) p → Contains (held_of x) p
    within y orders awaiting p h = elim (Contains-append_cases y.orders y.awaiting p h) [
      | inl i ↦ Contains-append_left x.orders x.awaiting p (dropped_is block x.orders p (subst (λ (os : List Order). Contains os p) orders i)).0
      | inr i ↦ elim (Contains-append_cases (replacing block x.orders) x.awaiting p (subst (λ (os : List Order). Contains os p) awaiting i)) [
        | inl j ↦ Contains-append_left x.orders x.awaiting p (replacing_is block x.orders p j).0
        | inr j ↦ Contains-append_right x.orders x.awaiting p j
      ]
    ]

    pub owned_then : (v : Bool) → is_replacement o ≡ v → (desk' : DeskState P) → desk'.orders ≡ orders_past (order_at desk.orders.slots c) desk.orders cache → (y : Actor) → y.orders ≡ dropped block x.orders → y.awaiting ≡ (replacing block x.orders ++ x.awaiting) → Owned desk' (slice_set actors a y)
    owned_then true r desk' after y orders awaiting = owned_within P desk actors a x y ex owned desk' (within y orders awaiting) (after ∙ past true r)
    owned_then false r desk' after y orders awaiting = over P desk actors are owned a x ex o c live held block of parted mine desk' (ap (λ (os : Orders). os.slots) (after ∙ past false r)) y orders (awaiting ∙ ap (λ (os : List Order). os ++ x.awaiting) (none_waits r))
