-- The orders that actors have are of blocks that are there.
use Rattle.std.proofs.Common.{◌≡◌, ◌<◌, ℕ, Bool, true, false, if◌then◌else◌, List, [], ◌∷◌, Some, None, sym, ap, subst, arith, slice_get, Contains, ◌++◌, ◌&&◌, inl, inr}
use Rattle.std.proofs.lemmas.Option.{slice_get_within}
use Rattle.wb_types.specs.declared.geometry.Geometry.{Geometry}
use Rattle.wb_types.specs.declared.number.OBlock.{OBlock}
use Rattle.wb_types.specs.declared.number.CBlock.{CBlock}
use Rattle.wb_types.proofs.Lists.{Contains-first, Contains-behind}
use Rattle.wb_policy.specs.declared.order.Order.{Order}
use Rattle.wb_policy.specs.declared.order.Order.TheVariants.{Promote as PromoteOrder, Replace, Demote as DemoteOrder, Clean as CleanOrder}
use Rattle.wb_tasks.specs.declared.step.DeskStep.TheVariants.{Map, Unmap, ReleaseOrder}
use Rattle.wb_tasks.specs.declared.step.Want.{Want}
use Rattle.wb_tasks.specs.declared.step.Want.TheVariants.{Desk, End}
use Rattle.wb_tasks.specs.declared.step.Got.{Got}
use Rattle.wb_tasks.specs.declared.step.Got.TheVariants.{Done}
use Rattle.wb_desk.specs.Desks.{DeskState, MayReserve}
use Rattle.wb_stage.specs.Asking.{is_of}
use Rattle.wb_promise.specs.States.{Actor}
use Rattle.wb_promise.specs.Effects.{dropped, orders_then, awaiting_then, orders_released, awaiting_released, orders_answered, awaiting_answered, replacing}
use Rattle.wb_runs.proofs.Lists.{first_or}
use Rattle.wb_runs.proofs.Metadata.{IsDesk}
use Rattle.std.proofs.lemmas.List.Elements.{Contains-append_left, Contains-append_right, Contains-append_cases}
use Rattle.wb_desk.specs.Entries.{is_replacement}
use Rattle.wb_promise.specs.declared.job.Job.{Job}
use Rattle.wb_promise.specs.declared.job.Job.TheVariants.{Flush}
use Rattle.wb_tasks.specs.declared.step.Answer.TheVariants.{Done as Finished}

-- the blocks that an order names are there
abbrev pub OrderInside : Geometry → Order → Type 0
OrderInside g (PromoteOrder b c) = (b.0 < g.origin_blocks) × (c.0 < g.cache_blocks)
OrderInside g (Replace v x c) = (v.0 < g.origin_blocks) × (x.0 < g.origin_blocks) × (c.0 < g.cache_blocks)
OrderInside g (DemoteOrder b) = b.0 < g.origin_blocks
OrderInside g (CleanOrder b) = b.0 < g.origin_blocks

abbrev pub OrdersInside : Geometry → List Order → Type 0
OrdersInside g orders = (order : Order) → Contains orders order → OrderInside g order

-- all that an actor has, those too that wait for a flush
abbrev pub held_of : Actor → List Order
held_of x = x.orders ++ x.awaiting

abbrev pub AllOrdersInside : Geometry → List Actor → Type 0
AllOrdersInside g actors = (a : ℕ) (x : Actor) → slice_get actors a ≡ Some x → OrdersInside g (held_of x)

-- orders that were dropped are no more
pub dropped_had : (b : OBlock) (orders : List Order) (order : Order) → Contains (dropped b orders) order → Contains orders order
dropped_had b [] order c = c
dropped_had b (o ∷ os) order c = by_test (is_of b o) (dropped_had b os order) c
  where
    by_test : (t : Bool) → (Contains (dropped b os) order → Contains os order) → Contains (if t then dropped b os else o ∷ dropped b os) order → Contains (o ∷ os) order
    by_test true later c = Contains-behind o os order (later c)
    by_test false later c = first_or o order (dropped b os) (Contains (o ∷ os) order) c (λ e. subst (λ (p : Order). Contains (o ∷ os) p) (sym e) (Contains-first o os)) (λ r. Contains-behind o os order (later r))

-- the replacements of a block are some of the orders
pub replacing_had : (b : OBlock) (orders : List Order) (order : Order) → Contains (replacing b orders) order → Contains orders order
replacing_had b [] order c = c
replacing_had b (o ∷ os) order c = by_test (is_of b o && is_replacement o) (replacing_had b os order) c
  where
    by_test : (t : Bool) → (Contains (replacing b os) order → Contains os order) → Contains (if t then o ∷ replacing b os else replacing b os) order → Contains (o ∷ os) order
    by_test true later c = first_or o order (replacing b os) (Contains (o ∷ os) order) c (λ e. subst (λ (p : Order). Contains (o ∷ os) p) (sym e) (Contains-first o os)) (λ r. Contains-behind o os order (later r))
    by_test false later c = Contains-behind o os order (later c)

-- of two lists, whose members were in this one
from_both : (xs ys : List Order) (x : Actor) (order : Order) → (Contains xs order → Contains (held_of x) order) → (Contains ys order → Contains (held_of x) order) → Contains (xs ++ ys) order → Contains (held_of x) order
from_both xs ys x order f g c = elim (Contains-append_cases xs ys order c) [
  | inl m ↦ f m
  | inr m ↦ g m
]

pub in_orders : (x : Actor) (order : Order) → Contains x.orders order → Contains (held_of x) order
in_orders x order m = Contains-append_left x.orders x.awaiting order m

pub in_awaiting : (x : Actor) (order : Order) → Contains x.awaiting order → Contains (held_of x) order
in_awaiting x order m = Contains-append_right x.orders x.awaiting order m

-- whoever gives up an order, or answers, has none that it had not
released_had : (x : Actor) (b : OBlock) (job : Job) (order : Order) → Contains (orders_released b job x.orders ++ awaiting_released b job x.awaiting) order → Contains (held_of x) order
released_had x b Flush order c = from_both x.orders (dropped b x.awaiting) x order (in_orders x order) (λ m. in_awaiting x order (dropped_had b x.awaiting order m)) c
released_had x b job order c = from_both (dropped b x.orders) x.awaiting x order (λ m. in_orders x order (dropped_had b x.orders order m)) (in_awaiting x order) c

answered_had : (x : Actor) (job : Job) (order : Order) → Contains (orders_answered job x.orders x.awaiting ++ awaiting_answered job x.awaiting) order → Contains (held_of x) order
answered_had x Flush order c = from_both (x.awaiting ++ x.orders) [] x order
    (λ m. from_both x.awaiting x.orders x order (in_awaiting x order) (in_orders x order) m) (λ m. absurd (omega (arith, m.1))) c
answered_had x job order c = c

-- a step leaves its actor none that it had not
pub then_had : (x : Actor) (job : Job) (next : Want) (got : Got) (order : Order) → Contains (orders_then x.orders x.awaiting job next got ++ awaiting_then x.orders x.awaiting job next got) order → Contains (held_of x) order
then_had x job (Desk (Map b c)) Done order m = from_both (dropped b x.orders) x.awaiting x order (λ n. in_orders x order (dropped_had b x.orders order n)) (in_awaiting x order) m
then_had x job (Desk (Unmap b)) Done order m = from_both (dropped b x.orders) (replacing b x.orders ++ x.awaiting) x order (λ n. in_orders x order (dropped_had b x.orders order n))
    (λ n. from_both (replacing b x.orders) x.awaiting x order (λ k. in_orders x order (replacing_had b x.orders order k)) (in_awaiting x order) n) m
then_had x job (Desk (ReleaseOrder b)) Done order m = released_had x b job order m
then_had x job (End Finished) Done order m = answered_had x job order m
then_had x job next got order m = m

pub orders_left : (g : Geometry) (x : Actor) (job : Job) (next : Want) (got : Got) → OrdersInside g (held_of x) → OrdersInside g (orders_then x.orders x.awaiting job next got ++ awaiting_then x.orders x.awaiting job next got)
orders_left g x job next got i = λ order m. i order (then_had x job next got order m)

-- an order that is given names blocks that are there
pub order_given : (P : Type 0) (g : Geometry) (desk : DeskState P) (cache : CBlock) (order : Order) → IsDesk g desk → MayReserve desk cache order → OrderInside g order
order_given P g desk cache order k may = by_kind order may
  where
    of_origin : (b : ℕ) → slice_get desk.orders.busy b ≡ Some false → b < g.origin_blocks
    of_origin b e = omega (arith, slice_get_within desk.orders.busy b false e, k.kept.busy, k.sizes.origin_blocks)

    of_cache : (c : CBlock) → cache ≡ c → slice_get desk.orders.slots cache.0 ≡ Some None → c.0 < g.cache_blocks
    of_cache c e vacant =
        let there = slice_get_within desk.orders.slots cache.0 None vacant in
        let same = ap (λ (x : CBlock). x.0) e in
        omega (arith, there, same, k.kept.slots, k.sizes.cache_blocks)

    by_kind : (order : Order) → MayReserve desk cache order → OrderInside g order
    by_kind (PromoteOrder b c) may = (of_origin b.0 may.give.idle.0, of_cache c may.lawful.0 may.give.vacant)
    by_kind (Replace v x c) may = (of_origin v.0 may.give.idle.0, of_origin x.0 may.give.idle.1, of_cache c may.lawful.0 may.give.vacant)
    by_kind (DemoteOrder b) may = of_origin b.0 may.give.idle.0
    by_kind (CleanOrder b) may = of_origin b.0 may.give.idle.0
