-- An order that is aside is given up.
use Rattle.std.proofs.Common.{◌≡◌, ◌≢◌, ◌∙◌, inl, inr, ℕ, List, [], ◌∷◌, Option, Some, None, Contains, refl, sym, ap, subst, slice_get, slice_set}
use Rattle.std.proofs.lemmas.Bool.{cases_eq}
use Rattle.wb_contents.specs.Volume.{changed}
use Rattle.wb_contents.proofs.Positions.{changed_same, changed_other}
use Rattle.wb_policy.specs.declared.order.Order.{Order}
use Rattle.wb_link.specs.Tables.{Order as AbstractOrder}
use Rattle.wb_link.specs.World.{World, Shared, Release, release_order, block_given_back, aside, after_record, AbstractActor}
use Rattle.wb_contents.proofs.Lists.{set_there, set_other, set_same}
use Rattle.wb_promise.specs.States.{Actor}
use Rattle.wb_simulation.specs.Actors.{StandsFor, AreAmongOthers}
use Rattle.wb_simulation.specs.Carried.{held, live_there, order_there}
use Rattle.wb_simulation.specs.Telling.{Releases}
use Rattle.wb_simulation.specs.Worlds.{Situation, Agrees, OrdersAgree, GivesUp, WorldFollowsBy}
use Rattle.wb_simulation.specs.Laws.{IsOnlyOf}
use Rattle.wb_simulation.proofs.Starting.{begins}
use Rattle.wb_simulation.proofs.Orders.{IsNoMigration, cache_there, does_none, begins_so}
use Rattle.wb_simulation.proofs.Among.{whose, nobody_alone}

module _ (now : Situation) (a : ℕ) (x x' : Actor) (s : World) (y : AbstractActor) (ex : slice_get now.actors a ≡ Some x) (ey : slice_get s.actors a ≡ Some y) (g : Agrees now s) (among : AreAmongOthers now.actors)
    (c : ℕ) (order : Order) (slot : slice_get now.orders c ≡ Some (Some order)) (only : IsOnlyOf now.actors a order) (none : y.order ≡ None) (st : StandsFor now.size now.most now.words x' y) (other : IsNoMigration x'.task) where
  abbrev own : AbstractOrder
  own = order_there s.shared.mapping c order

  abbrev over : List (Option Order)
  over = slice_set now.orders c None

  -- nobody has it
  nobody : (b : ℕ) (v : AbstractActor) (p : AbstractOrder) → slice_get s.actors b ≡ Some v → v.order ≡ Some p → p.cache ≢ c
  nobody b v p ev e at =
      let z = whose now s g b v ev in
      let o = g.orders_agree.ours b z.0 v p z.1 ev e in
      let both : Some (Some o.0) ≡ Some (Some order) = sym o.1 ∙ ap (slice_get now.orders) at ∙ slot in
      let same : o.0 ≡ order = cc in
      let is_a : b ≡ a = only b z.0 z.1 (subst (λ (q : Order). Contains (held z.0) q) same o.2) in
      let here : Some v ≡ Some y = sym ev ∙ ap (slice_get s.actors) is_a ∙ ey in
      let one : v ≡ y = cc in
      let bad : None ≡ Some p = sym none ∙ ap (λ (u : AbstractActor). u.order) (sym one) ∙ e in absurd (cc)

  -- so it is aside
  waits : s.waiting c ≡ Some own
  waits = elim ((g.orders_agree.live c (Some order) slot own (cache_there s.shared.mapping c order)).0 refl) [
    | inl w ↦ ap s.waiting (sym (cache_there s.shared.mapping c order)) ∙ w
    | inr h ↦ absurd (nobody h.0 h.1 own h.2 h.3 (cache_there s.shared.mapping c order))
  ]

  abbrev t : Shared
  t = record s.shared { blocks = changed s.shared.blocks c (block_given_back (s.shared.blocks c)) }

  world_is : after_record s (Release c) ≡ record { shared = t; actors = slice_set s.actors a y; waiting = changed s.waiting c None }
  world_is = ap (release_order s c) waits ∙ ap (λ (ys : List AbstractActor). record { shared = t; actors = ys; waiting = changed s.waiting c None }) (sym (set_same s.actors a y ey))

  ordered : OrdersAgree now.size now.words over (slice_set now.actors a x') (record { shared = t; actors = slice_set s.actors a y; waiting = changed s.waiting c None })
  ordered = begins_so now.size now.words now.words (λ f. f) now.orders over now.actors a x x' s y y ex ey g.orders_agree (does_none now.size now.words over x' y other) (λ d. d ≡ c) (λ d. elim (cases_eq d c) [ inl e ↦ inl e | inr n ↦ inr n ]) (changed s.waiting c None)
      (λ p e. let bad : None ≡ Some p = sym none ∙ e in absurd (cc))
      (λ d o p e eo l. let both : Some None ≡ Some o = sym (set_there now.orders c (Some order) None slot) ∙ ap (slice_get over) (sym e) ∙ eo in let is : None ≡ o = cc in let bad : None ≡ Some p = ap (live_there s.shared.mapping d) is ∙ l in absurd (cc))
      (λ d n. set_other now.orders c d None n) (λ d n. changed_other s.waiting c d None n ∙ sym (ap (λ (o : Option AbstractOrder). aside s.waiting o d) none))
      (λ d p e w. let bad : None ≡ Some p = sym (changed_same s.waiting c None) ∙ ap (changed s.waiting c None) (sym e) ∙ w in absurd (cc)) (λ b v p n ev e at. nobody b v p ev e at) t refl

  pub released_there : WorldFollowsBy (GivesUp c) Releases a s (record now { orders = over }) x'
  released_there = begins now a x x' s y g ex ey (GivesUp c) Releases over (Release c ∷ []) (changed s.waiting c None) t y ((own, waits, nobody_alone now s g among), tt) world_is (c, refl)
      (record { words_agree = record { fail = g.words_agree.fail; seals = g.words_agree.seals }; origin = refl; cache = refl; mode = refl; commits = refl; broken = (refl, refl, refl); mapping = refl; turned = (refl, refl, refl, refl, refl); desk = (refl, refl) }) (λ l. (l, λ more. more)) st ordered
