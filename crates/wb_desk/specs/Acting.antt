-- What each call of a desk is, as acts on the cache blocks, the mapping, the images and the live orders.
use Rattle.std.specs.Prelude.{◌≡◌, ◌==◌, ℕ, suc, Bool, true, false, if◌then◌else◌, List, [], ◌∷◌, ◌++◌, Option, Some, None}
use Rattle.std.specs.Option.{option_map}
use Rattle.wb_types.specs.declared.geometry.Geometry.{Geometry}
use Rattle.wb_types.specs.declared.mode.Mode.{Mode}
use Rattle.wb_types.specs.declared.number.Place.{Place}
use Rattle.wb_tree.specs.Mapping.{Mapping, IsMapping}
use Rattle.wb_policy.specs.declared.order.Order.{Order}
use Rattle.wb_policy.specs.declared.order.Order.TheVariants.{Promote, Replace, Demote, Clean}
use Rattle.wb_policy.specs.Law.{Holdings, origins}
use Rattle.wb_orders.specs.declared.live_order.LiveOrder.{LiveOrder as Living}
use Rattle.wb_orders.specs.Named.{first_of, second_of}
use Rattle.wb_orders.specs.Orders.{AreOrders, order_at, cost_of}
use Rattle.wb_desk.specs.Allocation.{LiveOrder, Allocation, AllocationInvariant, DeskAct, Give, Over, Map as MapBlock, Unmap as UnmapBlock, Begin, End, Threshold, IsActRun, after_acts, at_opening, cost}
use Rattle.wb_desk.specs.Desks.{DeskState, holdings, sectors_asked}
use Rattle.wb_desk.specs.Entries.{is_replacement}
use Rattle.wb_desk.specs.Opening.{opened}
use Rattle.wb_desk.specs.Safety.{HeldImages, DeskCall, TakeOrder, Tell, GiveOrder, Release, Map, Unmap, BeginCommit, EndCommit, BreakCommit, AreCalls, images_since, desk_after}

-- an order of a cache block, as the acts speak of it
abbrev pub spoken_of : ℕ → Order → ℕ → ℕ → LiveOrder
spoken_of cache order sectors threshold = record { origin = (first_of order).0; other = (second_of order).0; cache = cache; sectors = sectors; threshold = threshold }

abbrev pub as_given : ℕ → Living → LiveOrder
as_given cache o = spoken_of cache o.order o.sectors o.threshold

-- the order of a cache block among these
abbrev pub order_in : List LiveOrder → ℕ → Option LiveOrder
order_in [] c = None
order_in (o ∷ os) c = if o.cache == c then Some o else order_in os c

-- and where it stands among them
abbrev pub rank_in : List LiveOrder → ℕ → ℕ
rank_in [] c = 0
rank_in (o ∷ os) c = if o.cache == c then 0 else suc (rank_in os c)

-- What acts speak of is what a desk and its images are. The orders are those that live: each is that of its cache block, with its
-- blocks, its sectors and the threshold of when it was given.
pub record IsAllocation {P : Type 0} (d : DeskState P) (images : HeldImages) (a : Allocation) : Type 0 where
  pub blocks : a.blocks ≡ d.space.blocks
  pub mapping : a.mapping ≡ holdings d
  pub committed : a.committed ≡ images.committed
  pub running : a.running ≡ images.running
  pub committing : a.committing ≡ d.space.committing
  pub threshold : a.threshold ≡ d.threshold
  pub orders : (c : ℕ) → order_in a.orders c ≡ option_map (as_given c) (order_at d.orders.slots c)
  pub sectors : cost a.orders ≡ cost_of d.orders.slots

-- a promotion reserves its cache block
abbrev pub reserves : Order → Bool
reserves (Promote b c) = true
reserves (Replace v x c) = false
reserves (Demote b) = false
reserves (Clean b) = false

-- An entry goes: a replacement keeps the cache block, another order of it is over.
abbrev pub acts_removing : Option Living → ℕ → ℕ → List DeskAct
acts_removing None c rank = UnmapBlock c false ∷ []
acts_removing (Some o) c rank = if is_replacement o.order then UnmapBlock c true ∷ [] else UnmapBlock c false ∷ Over rank ∷ []

-- what a call of a desk is, whose allocation is this, and which made this desk of it
abbrev pub acts_of : {P : Type 0} → Allocation → DeskState P → DeskCall → DeskState P → List DeskAct
acts_of a d TakeOrder new = []
acts_of a d Tell new = Threshold new.threshold ∷ []
acts_of a d (GiveOrder c order waits) new = Give (spoken_of c.0 order (sectors_asked d.geometry order) d.threshold) (reserves order) ∷ []
acts_of a d (Release c) new = Over (rank_in a.orders c.0) ∷ []
acts_of a d (Map b c) new = MapBlock b.0 c.0 ∷ Over (rank_in a.orders c.0) ∷ []
acts_of a d (Unmap b c) new = acts_removing (order_at d.orders.slots c.0) c.0 (rank_in a.orders c.0)
acts_of a d BeginCommit new = Begin ∷ []
acts_of a d EndCommit new = End ∷ []
acts_of a d BreakCommit new = []

-- what these calls are, one after the other
abbrev pub acts_since : {P : Type 0} → Allocation → DeskState P → List (DeskCall × DeskState P) → List DeskAct
acts_since a d [] = []
acts_since a d (c ∷ calls) = acts_of a d c.0 c.1 ++ acts_since (after_acts a (acts_of a d c.0 c.1)) c.1 calls

-- ---- laws

-- A desk that has just been opened is at the beginning of the acts.
abbrev pub OpenedDeskBegins : Type 0 → Type 0
OpenedDeskBegins P = (geometry : Geometry) (generation : ℕ) (tree : Mapping) (used : List Place) (mode : Mode) (policy : P) (threshold mapped : ℕ)
    → IsMapping geometry.cache_blocks geometry.origin_blocks tree.entries
    → AllocationInvariant (at_opening (origins tree.entries) threshold)
    × AreOrders (opened geometry generation tree used mode policy threshold mapped).orders
    × IsAllocation (opened geometry generation tree used mode policy threshold mapped) (record { committed = origins tree.entries; running = origins tree.entries }) (at_opening (origins tree.entries) threshold)

-- Whatever is called, each call is these acts, each of which may be then, and they make of the allocation that of the desk.
abbrev pub CallsAreActs : (P : Type 0) → (P → Holdings → Type 0) → Type 0
CallsAreActs P knows = (d : DeskState P) (calls : List (DeskCall × DeskState P)) (images : HeldImages) (a : Allocation)
    → AreCalls knows d calls → AreOrders d.orders → IsAllocation d images a → AllocationInvariant a
    → IsActRun a (acts_since a d calls)
    × AllocationInvariant (after_acts a (acts_since a d calls))
    × AreOrders (desk_after d calls).orders
    × IsAllocation (desk_after d calls) (images_since d images calls) (after_acts a (acts_since a d calls))
