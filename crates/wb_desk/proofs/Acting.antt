-- Each call of a desk is a list of acts.
use Rattle.std.proofs.Common.{◌≡◌, ◌≢◌, ◌<◌, ◌+◌, ◌%◌, ◌^◌, inl, inr, ℕ, Bool, true, false, if◌then◌else◌, List, [], ◌∷◌, ◌++◌, Option, Some, None, length, map, replicate, is_some, get_or, set, slice_get, refl, sym, ap, subst, ◌∙◌, arith, get_or-set_same, get_or-set_other}
use Rattle.std.specs.Option.{option_map}
use Rattle.std.proofs.lemmas.Bool.{cases_eq, cases_lt}
use Rattle.std.proofs.lemmas.List.{length-replicate, get_or-replicate, get_or_past, set-set}
use Rattle.std.proofs.Math.ListN.{get_or-map}
use Rattle.std.proofs.lemmas.Option.{get_or_from_slice_get, slice_get_within, slice_get-get_or}
use Rattle.wb_types.specs.declared.entry.Entry.{Entry}
use Rattle.wb_types.specs.declared.geometry.Geometry.{Geometry}
use Rattle.wb_types.specs.declared.mode.Mode.{Mode}
use Rattle.wb_types.specs.declared.number.CBlock.{CBlock}
use Rattle.wb_types.specs.declared.number.OBlock.{OBlock}
use Rattle.wb_types.specs.declared.number.Place.{Place}
use Rattle.wb_tree.specs.Mapping.{Mapping, IsMapping}
use Rattle.wb_tree.specs.declared.image.Image.{Image}
use Rattle.wb_policy.specs.declared.order.Order.{Order}
use Rattle.wb_policy.specs.declared.order.Order.TheVariants.{Promote, Replace, Demote, Clean}
use Rattle.wb_policy.specs.Law.{Holdings, origins, IsMappedAt, IsUnmapped}
use Rattle.wb_space.specs.declared.block.Block.{Block}
use Rattle.wb_space.specs.declared.block.Block.TheVariants.{Free, Mapped, Reserved, Quarantined}
use Rattle.wb_space.specs.Blocks.{state, released as block_released, commit_begun as block_begun, commit_ended as block_ended, opened_block}
use Rattle.wb_orders.specs.declared.live_order.LiveOrder.{LiveOrder as Living}
use Rattle.wb_orders.specs.Named.{first_of, second_of, IsNamed}
use Rattle.wb_orders.specs.Orders.{Orders, AreOrders, IsTaken, IsQueue, order_at, cost_of, slots_taken, queue_taken, order_taken, without_order, unmarked}
use Rattle.wb_orders.proofs.Kept.{Slots, within_of, none_kept, none_cost}
use Rattle.wb_orders.proofs.Calls.{given_kept, given_cost, taken_kept, taken_cost, over_kept, over_cost}
use Rattle.wb_desk.specs.Allocation.{BlockMap, LiveOrder, Allocation, AllocationInvariant, MayGiveOrder, Apart, Shareless, NoneTwice, at_opening, block_as_opened, IsActRun, DeskAct, Over, Unmap as UnmapBlock, after_act, after_acts, origin_in, cost, orders_without, cache_at}
use Rattle.wb_desk.specs.Desks.{DeskState, DeskInvariant, MayReserve, holdings, sectors_asked}
use Rattle.wb_desk.specs.Calls.{blocks_reserved, reserved, released, next_order_taken}
use Rattle.wb_desk.specs.Entries.{MayMap, IsRemoved, entry_of, mapped, unmapped, keeps, orders_past, is_replacement}
use Rattle.wb_desk.specs.Opening.{opened}
use Rattle.wb_desk.specs.Commits.{commit_begun, commit_broken, commit_ended}
use Rattle.wb_desk.specs.Safety.{HeldImages, DeskCall, TakeOrder, Tell, GiveOrder, Release, Map, Unmap, BeginCommit, EndCommit, BreakCommit, Does, AreCalls, images_after, images_since, desk_after}
use Rattle.wb_desk.specs.Acting.{IsAllocation, spoken_of, as_given, order_in, rank_in, acts_of, acts_removing, acts_since}
use Rattle.wb_desk.proofs.Acts.{all_kept, opened_kept}
use Rattle.wb_desk.proofs.Entering.{entrance}
use Rattle.wb_desk.proofs.Leaving.{mapped_state}
use Rattle.wb_desk.proofs.Safe.{origins-set}
use Rattle.wb_desk.proofs.Ranked.{in_push_same, in_push_other, cost_push, rank_within, rank_there, in_without_other, in_without_same, cost_without, has_one, apart_all}

-- ---- live orders

-- the list has the order of each slot
abbrev AreListed : List LiveOrder → Slots → Type 0
AreListed os slots = (c : ℕ) → order_in os c ≡ option_map (as_given c) (order_at slots c)

none_some : (o : Living) → (let x : Option Living = None in x) ≡ Some o → ⊥
none_some o e = cc

-- an order of the list is that of a slot
lives : (c : ℕ) (slot : Option Living) (p : LiveOrder) → option_map (as_given c) slot ≡ Some p → (o : Living) × (slot ≡ Some o) × (as_given c o ≡ p)
lives c None p e = absurd cc
lives c (Some o) p e = (o, refl, cc)

there_in : (os : List LiveOrder) (slots : Slots) (c : ℕ) (o : Living) → AreListed os slots → order_at slots c ≡ Some o → order_in os c ≡ Some (as_given c o)
there_in os slots c o all e = all c ∙ ap (λ (s : Option Living). option_map (as_given c) s) e

given_listed : (os : List LiveOrder) (slots : Slots) (c : ℕ) (o : Living) → slice_get slots c ≡ Some None → AreListed os slots → AreListed (os ++ as_given c o ∷ []) (set slots c (Some o))
given_listed os slots c o vacant all k = elim (cases_eq k c) [
  | inl e ↦ subst (λ (k : ℕ). order_in (os ++ as_given c o ∷ []) k ≡ option_map (as_given k) (order_at (set slots c (Some o)) k)) (sym e)
      (in_push_same os (as_given c o) (all c ∙ ap (λ (s : Option Living). option_map (as_given c) s) (get_or_from_slice_get slots c None None vacant))
      ∙ sym (ap (λ (s : Option Living). option_map (as_given c) s) (get_or-set_same slots c (Some o) None (slice_get_within slots c None vacant))))
  | inr n ↦ in_push_other os (as_given c o) k n ∙ all k ∙ sym (ap (λ (s : Option Living). option_map (as_given k) s) (get_or-set_other slots c k (Some o) None n))
]

over_listed : (os : List LiveOrder) (slots : Slots) (c : ℕ) (o : Living) → order_at slots c ≡ Some o → Shareless os → AreListed os slots → AreListed (orders_without os (rank_in os c)) (set slots c None)
over_listed os slots c o at shareless all k = elim (cases_eq k c) [
  | inl e ↦ subst (λ (k : ℕ). order_in (orders_without os (rank_in os c)) k ≡ option_map (as_given k) (order_at (set slots c None) k)) (sym e)
      (in_without_same os c shareless ∙ sym (ap (λ (s : Option Living). option_map (as_given c) s) (get_or-set_same slots c None None (within_of slots c o at))))
  | inr n ↦ in_without_other os c k n ∙ all k ∙ sym (ap (λ (s : Option Living). option_map (as_given k) s) (get_or-set_other slots c k None None n))
]

over_sectors : (os : List LiveOrder) (slots : Slots) (c : ℕ) (o : Living) → order_at slots c ≡ Some o → AreListed os slots → cost os ≡ cost_of slots → cost (orders_without os (rank_in os c)) ≡ cost_of (set slots c None)
over_sectors os slots c o at all same = omega (arith, same, cost_without os c (as_given c o) (there_in os slots c o all at), over_cost slots c o at)

-- who takes an order changes nothing of what it keeps
taken_listed : (slots : Slots) (cs : List CBlock) (c : ℕ) → IsQueue slots 0 cs → option_map (as_given c) (order_at (slots_taken slots cs) c) ≡ option_map (as_given c) (order_at slots c)
taken_listed slots [] c queue = refl
taken_listed slots (k ∷ cs) c queue = subst (λ (s : Option Living). option_map (as_given c) (order_at (set slots k.0 (option_map order_taken s)) c) ≡ option_map (as_given c) (order_at slots c)) (sym queue.1)
    (elim (cases_eq c k.0) [
      | inl e ↦ ap (λ (s : Option Living). option_map (as_given c) s) (ap (λ (n : ℕ). order_at (set slots k.0 (Some (order_taken queue.0))) n) e ∙ get_or-set_same slots k.0 (Some (order_taken queue.0)) None (within_of slots k.0 queue.0 queue.1))
          ∙ sym (ap (λ (s : Option Living). option_map (as_given c) s) (ap (λ (n : ℕ). order_at slots n) e ∙ queue.1))
      | inr n ↦ ap (λ (s : Option Living). option_map (as_given c) s) (get_or-set_other slots k.0 c (Some (order_taken queue.0)) None n)
    ])

taken_sectors : (slots : Slots) (cs : List CBlock) → IsQueue slots 0 cs → cost_of (slots_taken slots cs) ≡ cost_of slots
taken_sectors slots [] queue = refl
taken_sectors slots (k ∷ cs) queue = ap (λ (s : Option Living). cost_of (set slots k.0 (option_map order_taken s))) queue.1 ∙ taken_cost slots k.0 queue.0 queue.1

next_kept : (slots : Slots) (busy : List Bool) (cs : List CBlock) (given : ℕ) → AreOrders (record { slots = slots; busy = busy; waiting = cs; given = given })
    → AreOrders (record { slots = slots_taken slots cs; busy = busy; waiting = queue_taken cs; given = given })
next_kept slots busy [] given a = a
next_kept slots busy (c ∷ cs) given a = subst (λ (s : Option Living). AreOrders (record { slots = set slots c.0 (option_map order_taken s); busy = busy; waiting = cs; given = given })) (sym a.queue.1)
    (taken_kept slots busy c cs given a.queue.0 a a.queue.1)

ended_kept : (orders : Orders) (c : CBlock) (o : Living) → AreOrders orders → order_at orders.slots c.0 ≡ Some o → o.waits ≡ false → AreOrders (without_order orders c)
ended_kept orders c o a at rests = subst (λ (s : Option Living). AreOrders (record orders { slots = set orders.slots c.0 None; busy = unmarked s orders.busy })) (sym at) (over_kept orders c o a at rests)

-- the order of a cache block that somebody has taken
taken_order : (slot : Option Living) → IsTaken slot → (o : Living) × (slot ≡ Some o) × (o.waits ≡ false)
taken_order None t = absurd t
taken_order (Some o) t = (o, refl, t)

-- ---- blocks

differs : true ≡ false → ⊥
differs e = cc

apart_new : (orders : Orders) (os : List LiveOrder) (c : ℕ) (order : Order) (sectors threshold k : ℕ) (p : LiveOrder) → AreOrders orders → AreListed os orders.slots → slice_get orders.slots c ≡ Some None
    → slice_get orders.busy (first_of order).0 ≡ Some false → slice_get orders.busy (second_of order).0 ≡ Some false
    → order_in os k ≡ Some p → Apart (spoken_of c order sectors threshold) p
apart_new orders os c order sectors threshold k p a all vacant first second e = subst (λ (p : LiveOrder). Apart (spoken_of c order sectors threshold) p) live.2 (record {
  cache = λ h. none_some live.0 (sym (get_or_from_slice_get orders.slots c None None vacant) ∙ ap (λ (n : ℕ). order_at orders.slots n) h ∙ live.1);
  origin = λ h. idle (first_of order).0 first (inl (sym h));
  origin_other = λ h. idle (first_of order).0 first (inr (sym h));
  other_origin = λ h. idle (second_of order).0 second (inl (sym h));
  other = λ h. idle (second_of order).0 second (inr (sym h));
})
  where
    live : (o : Living) × (order_at orders.slots k ≡ Some o) × (as_given k o ≡ p)
    live = lives k (order_at orders.slots k) p (sym (all k) ∙ e)

    idle : (b : ℕ) → slice_get orders.busy b ≡ Some false → IsNamed live.0.order b → ⊥
    idle b is named = differs (sym (a.marks k b live.0 live.1 named) ∙ get_or_from_slice_get orders.busy b false false is)

unmapped_in : (m : Holdings) (b : ℕ) → IsUnmapped m b → (k : ℕ) → origin_in m k ≢ Some b
unmapped_in m b none k e = elim (cases_lt k (length m)) [
  | inl l ↦ none k (slice_get-get_or m k None l ∙ ap (λ (x : Option ℕ). Some x) e)
  | inr p ↦ nothing (sym (get_or_past m k None p) ∙ e)
]
  where
    nothing : (let x : Option ℕ = None in x) ≡ Some b → ⊥
    nothing h = cc

-- a block that is given back at once after it was set to a state that this leaves alone
set_back : (blocks : List Block) (c k : ℕ) (b : Block) → k ≡ c → c < length blocks → block_released b ≡ b → set (set blocks c b) k (block_released (state (set blocks c b) k)) ≡ set blocks c b
set_back blocks c k b e l same = ap (λ (n : ℕ). set (set blocks c b) n (block_released (state (set blocks c b) n))) e
    ∙ ap (λ (x : Block). set (set blocks c b) c (block_released x)) (get_or-set_same blocks c b Free l) ∙ ap (λ (x : Block). set (set blocks c b) c x) same ∙ set-set blocks c b b

past_kept : (orders : Orders) (c : CBlock) (slot : Option Living) → order_at orders.slots c.0 ≡ slot → IsRemoved slot → AreOrders orders → AreOrders (orders_past slot orders c)
past_kept orders c None is removed r = r
past_kept orders c (Some o) is removed r = by (is_replacement o.order)
  where
    by : (b : Bool) → AreOrders (if b then orders else without_order orders c)
    by true = r
    by false = ended_kept orders c o r is removed.0

-- ---- lists of acts

run_then : (a : Allocation) (first second : List DeskAct) → IsActRun a first → IsActRun (after_acts a first) second → IsActRun a (first ++ second)
run_then a [] second f s = s
run_then a (x ∷ first) second f s = (f.0, run_then (after_act a x) first second f.1 s)

acts_then : (a : Allocation) (first second : List DeskAct) → after_acts a (first ++ second) ≡ after_acts (after_acts a first) second
acts_then a [] second = refl
acts_then a (x ∷ first) second = acts_then (after_act a x) first second

-- ---- calls

module _ {P : Type 0} where
  -- the acts of a call may be, and lead to the allocation of what it made
  abbrev Follows : HeldImages → Allocation → DeskState P → DeskCall → DeskState P → Type 0
  Follows images a d call new = IsActRun a (acts_of a d call new) × IsAllocation new (images_after d images call) (after_acts a (acts_of a d call new))

  -- the blocks, the mapping and the orders become these, and the rest stays
  becomes : {d new : DeskState P} {images : HeldImages} {a : Allocation} {blocks : List Block} {mapping : BlockMap} {orders : List LiveOrder} → IsAllocation d images a
      → new.space.committing ≡ d.space.committing → new.threshold ≡ d.threshold
      → blocks ≡ new.space.blocks → mapping ≡ holdings new → AreListed orders new.orders.slots → cost orders ≡ cost_of new.orders.slots
      → IsAllocation new images (record a { blocks = blocks; mapping = mapping; orders = orders })
  becomes s runs threshold blocks mapping orders sectors = record {
    blocks = blocks;
    mapping = mapping;
    committed = s.committed;
    running = s.running;
    committing = s.committing ∙ sym runs;
    threshold = s.threshold ∙ sym threshold;
    orders = orders;
    sectors = sectors;
  }

  take_follows : (d : DeskState P) (images : HeldImages) (a : Allocation) → IsAllocation d images a → AreOrders d.orders → Follows images a d TakeOrder (next_order_taken d)
  take_follows d images a s r = (
    tt,
    becomes s refl refl s.blocks s.mapping (λ c. s.orders c ∙ sym (taken_listed d.orders.slots d.orders.waiting c r.queue)) (s.sectors ∙ sym (taken_sectors d.orders.slots d.orders.waiting r.queue)),
  )

  tell_follows : (d new : DeskState P) (images : HeldImages) (a : Allocation) → IsAllocation d images a → new ≡ record d { threshold = new.threshold; policy = new.policy } → Follows images a d Tell new
  tell_follows d new images a s e = (
    (tt, tt),
    record {
      blocks = s.blocks ∙ sym (ap (λ (x : DeskState P). x.space.blocks) e);
      mapping = s.mapping ∙ sym (ap (λ (x : DeskState P). holdings x) e);
      committed = s.committed;
      running = s.running;
      committing = s.committing ∙ sym (ap (λ (x : DeskState P). x.space.committing) e);
      threshold = refl;
      orders = λ c. s.orders c ∙ sym (ap (λ (x : DeskState P). option_map (as_given c) (order_at x.orders.slots c)) e);
      sectors = s.sectors ∙ sym (ap (λ (x : DeskState P). cost_of x.orders.slots) e);
    },
  )

  may_give : (d : DeskState P) (images : HeldImages) (a : Allocation) (c : CBlock) (order : Order) → IsAllocation d images a → AreOrders d.orders → AllocationInvariant a → MayReserve d c order
      → MayGiveOrder a (spoken_of c.0 order (sectors_asked d.geometry order) d.threshold)
  may_give d images a c order s r i may = record {
    apart = apart_all (spoken_of c.0 order (sectors_asked d.geometry order) d.threshold) a.orders i.shareless
        (λ k p e. apart_new d.orders a.orders c.0 order (sectors_asked d.geometry order) d.threshold k p r s.orders may.give.vacant may.give.idle.0 may.give.idle.1 e);
    room = omega (arith, may.give.room, s.sectors, s.threshold);
    under = sym s.threshold;
  }

  -- one order more was given
  module _ (d : DeskState P) (images : HeldImages) (a : Allocation) (c : CBlock) (order : Order) (waits : Bool) (s : IsAllocation d images a) (may : MayReserve d c order) where
    abbrev live : Living
    live = record { order = order; sectors = sectors_asked d.geometry order; threshold = d.threshold; number = d.orders.given; waits = waits }

    given : (blocks : List Block) → blocks ≡ blocks_reserved d.space.blocks order
        → IsAllocation (reserved d c order waits) images (record a { blocks = blocks; orders = a.orders ++ as_given c.0 live ∷ [] })
    given blocks e = becomes s refl refl e s.mapping (given_listed a.orders d.orders.slots c.0 live may.give.vacant s.orders) (omega (
      arith,
      cost_push a.orders (as_given c.0 live),
      s.sectors,
      given_cost d.orders c live (record { vacant = may.give.vacant; idle = may.give.idle; room = may.give.room; number = refl }),
    ))

  give_follows : (d : DeskState P) (images : HeldImages) (a : Allocation) (c : CBlock) (order : Order) (waits : Bool) → IsAllocation d images a → AreOrders d.orders → AllocationInvariant a → MayReserve d c order
      → Follows images a d (GiveOrder c order waits) (reserved d c order waits)
  give_follows d images a c (Promote b k) waits s r i may = (
    ((may_give d images a c (Promote b k) s r i may, ap (λ (x : List Block). slice_get x c.0) s.blocks ∙ ap (λ (x : CBlock). slice_get d.space.blocks x.0) may.lawful.0 ∙ may.lawful.1), tt),
    given d images a c (Promote b k) waits s may (set a.blocks c.0 Reserved) (ap (λ (x : List Block). set x c.0 Reserved) s.blocks ∙ ap (λ (x : CBlock). set d.space.blocks x.0 Reserved) may.lawful.0),
  )
  give_follows d images a c (Replace v b k) waits s r i may = ((may_give d images a c (Replace v b k) s r i may, tt), given d images a c (Replace v b k) waits s may a.blocks s.blocks)
  give_follows d images a c (Demote b) waits s r i may = ((may_give d images a c (Demote b) s r i may, tt), given d images a c (Demote b) waits s may a.blocks s.blocks)
  give_follows d images a c (Clean b) waits s r i may = ((may_give d images a c (Clean b) s r i may, tt), given d images a c (Clean b) waits s may a.blocks s.blocks)

  release_follows : (d : DeskState P) (images : HeldImages) (a : Allocation) (c : CBlock) → IsAllocation d images a → AllocationInvariant a → IsTaken (order_at d.orders.slots c.0)
      → Follows images a d (Release c) (released d c)
  release_follows d images a c s i is =
      let t = taken_order (order_at d.orders.slots c.0) is in
      let inside = there_in a.orders d.orders.slots c.0 t.0 s.orders t.1 in (
        (rank_within a.orders c.0 (as_given c.0 t.0) inside, tt),
        becomes s refl refl (ap (λ (n : ℕ). set a.blocks n (block_released (state a.blocks n))) (rank_there a.orders c.0 (as_given c.0 t.0) inside)
            ∙ ap (λ (x : List Block). set x c.0 (block_released (state x c.0))) s.blocks) s.mapping (over_listed a.orders d.orders.slots c.0 t.0 t.1 i.shareless s.orders) (over_sectors a.orders d.orders.slots c.0 t.0 t.1 s.orders s.sectors),
      )

  -- a block is set, and an order of it is over, which leaves the block as it is
  set_and_over : (d : DeskState P) (images : HeldImages) (a : Allocation) (c : ℕ) (o : Living) (b : Block) → IsAllocation d images a → order_at d.orders.slots c ≡ Some o → c < length d.space.blocks → block_released b ≡ b
      → set (set a.blocks c b) (cache_at a.orders (rank_in a.orders c)) (block_released (state (set a.blocks c b) (cache_at a.orders (rank_in a.orders c)))) ≡ set d.space.blocks c b
  set_and_over d images a c o b s at l same =
      set_back a.blocks c (cache_at a.orders (rank_in a.orders c)) b (rank_there a.orders c (as_given c o) (there_in a.orders d.orders.slots c o s.orders at))
      (subst (λ (x : List Block). c < length x) (sym s.blocks) l) same
      ∙ ap (λ (x : List Block). set x c b) s.blocks

  map_follows : (knows : P → Holdings → Type 0) (d : DeskState P) (images : HeldImages) (a : Allocation) (b : OBlock) (c : CBlock) (tree : Mapping) (policy : P) → DeskInvariant knows d → IsAllocation d images a
      → AllocationInvariant a → MayMap d b c → tree.entries ≡ set d.tree.entries c.0 (Some (entry_of b)) → Follows images a d (Map b c) (mapped d c tree policy)
  map_follows knows d images a b c tree policy v s i may entries =
      let way = entrance knows d b c v may in
      let l : c.0 < length d.space.blocks = slice_get_within d.space.blocks c.0 Reserved may.reserved in
      let within : c.0 < length (holdings d) = slice_get_within (holdings d) c.0 None way.vacant in (
        (
          (
            ap (λ (x : List Block). slice_get x c.0) s.blocks ∙ may.reserved,
            subst (λ (m : Holdings). c.0 < length m) (sym s.mapping) within,
            subst (λ (m : Holdings). (k : ℕ) → origin_in m k ≢ Some b.0) (sym s.mapping) (unmapped_in (holdings d) b.0 way.unmapped),
          ),
          (rank_within a.orders c.0 (as_given c.0 may.live) (there_in a.orders d.orders.slots c.0 may.live s.orders may.there), tt),
        ),
        becomes s refl refl (set_and_over d images a c.0 may.live Mapped s may.there l refl) (ap (λ (m : Holdings). set m c.0 (Some b.0)) s.mapping ∙ sym (origins-set d.tree.entries tree.entries c.0 (Some (entry_of b)) entries)) (over_listed a.orders d.orders.slots c.0 may.live may.there i.shareless s.orders) (over_sectors a.orders d.orders.slots c.0 may.live may.there s.orders s.sectors),
      )

  -- a desk whose block was removed, with the orders of then
  abbrev left_with : DeskState P → CBlock → Mapping → P → Bool → Orders → ℕ → DeskState P
  left_with d c tree policy keep orders demotions = record d {
    tree = tree;
    space = record d.space { blocks = set d.space.blocks c.0 (Quarantined keep false) };
    orders = orders;
    policy = policy;
    demotions = demotions;
  }

  module _ (knows : P → Holdings → Type 0) (d : DeskState P) (images : HeldImages) (a : Allocation) (b : OBlock) (c : CBlock) (tree : Mapping) (policy : P) (v : DeskInvariant knows d) (s : IsAllocation d images a)
      (i : AllocationInvariant a) (at : IsMappedAt (holdings d) b.0 c.0) (entries : tree.entries ≡ set d.tree.entries c.0 None) where
    there : slice_get a.blocks c.0 ≡ Some Mapped
    there = ap (λ (x : List Block). slice_get x c.0) s.blocks ∙ mapped_state knows d b.0 c.0 v at

    emptied : set a.mapping c.0 None ≡ holdings (record d { tree = tree })
    emptied = ap (λ (m : Holdings). set m c.0 None) s.mapping ∙ sym (origins-set d.tree.entries tree.entries c.0 None entries)

    left_alone : (demotions : ℕ) → IsActRun a (acts_removing None c.0 (rank_in a.orders c.0))
        × IsAllocation (left_with d c tree policy false d.orders demotions) images (after_acts a (acts_removing None c.0 (rank_in a.orders c.0)))
    left_alone demotions = (
      (there, tt),
      becomes s refl refl (ap (λ (x : List Block). set x c.0 (Quarantined false false)) s.blocks) emptied s.orders s.sectors,
    )

    left_under : (demotions : ℕ) (o : Living) → order_at d.orders.slots c.0 ≡ Some o → (r : Bool)
        → (let acts : List DeskAct = if r then UnmapBlock c.0 true ∷ [] else UnmapBlock c.0 false ∷ Over (rank_in a.orders c.0) ∷ [] in
        IsActRun a acts × IsAllocation (left_with d c tree policy r (if r then d.orders else without_order d.orders c) demotions) images (after_acts a acts))
    left_under demotions o is true = (
      ((there, has_one a.orders c.0 (as_given c.0 o) (there_in a.orders d.orders.slots c.0 o s.orders is)), tt),
      becomes s refl refl (ap (λ (x : List Block). set x c.0 (Quarantined true false)) s.blocks) emptied s.orders s.sectors,
    )
    left_under demotions o is false = (
      (there, (rank_within a.orders c.0 (as_given c.0 o) (there_in a.orders d.orders.slots c.0 o s.orders is), tt)),
      becomes s refl refl (set_and_over d images a c.0 o (Quarantined false false) s is (slice_get_within d.space.blocks c.0 Mapped (mapped_state knows d b.0 c.0 v at)) refl) emptied (over_listed a.orders d.orders.slots c.0 o is i.shareless s.orders) (over_sectors a.orders d.orders.slots c.0 o is s.orders s.sectors),
    )

    left : (demotions : ℕ) (slot : Option Living) → order_at d.orders.slots c.0 ≡ slot → IsActRun a (acts_removing slot c.0 (rank_in a.orders c.0))
        × IsAllocation (left_with d c tree policy (keeps slot) (orders_past slot d.orders c) demotions) images (after_acts a (acts_removing slot c.0 (rank_in a.orders c.0)))
    left demotions None is = left_alone demotions
    left demotions (Some o) is = left_under demotions o is (is_replacement o.order)

    unmap_follows : Follows images a d (Unmap b c) (unmapped d c tree policy)
    unmap_follows = left ((d.demotions + 1) % 2 ^ 64) (order_at d.orders.slots c.0) refl

  begin_follows : (d : DeskState P) (images : HeldImages) (a : Allocation) (tree : Mapping) (image : Image) → IsAllocation d images a → d.space.committing ≡ false → holdings (record d { tree = tree }) ≡ holdings d
      → Follows images a d BeginCommit (commit_begun d tree image)
  begin_follows d images a tree image s idle same = (
    (s.committing ∙ idle, tt),
    record { blocks = ap (λ (x : List Block). map block_begun x) s.blocks; mapping = s.mapping ∙ sym same; committed = s.committed; running = s.mapping; committing = refl; threshold = s.threshold; orders = s.orders; sectors = s.sectors },
  )

  end_follows : (d : DeskState P) (images : HeldImages) (a : Allocation) → IsAllocation d images a → d.space.committing ≡ true → Follows images a d EndCommit (commit_ended d)
  end_follows d images a s runs = (
    (s.committing ∙ runs, tt),
    record { blocks = ap (λ (x : List Block). map block_ended x) s.blocks; mapping = s.mapping; committed = s.running; running = s.running; committing = refl; threshold = s.threshold; orders = s.orders; sectors = s.sectors },
  )

  break_follows : (d : DeskState P) (images : HeldImages) (a : Allocation) → IsAllocation d images a → Follows images a d BreakCommit (commit_broken d)
  break_follows d images a s = (tt, becomes s refl refl s.blocks s.mapping s.orders s.sectors)

  call_follows : (knows : P → Holdings → Type 0) (d new : DeskState P) (call : DeskCall) (images : HeldImages) (a : Allocation) → DeskInvariant knows d → AreOrders d.orders → IsAllocation d images a
      → AllocationInvariant a → Does d call new → Follows images a d call new
  call_follows knows d new TakeOrder images a v r s i does = subst (λ (x : DeskState P). Follows images a d TakeOrder x) (sym does) (take_follows d images a s r)
  call_follows knows d new Tell images a v r s i does = tell_follows d new images a s does
  call_follows knows d new (GiveOrder c order waits) images a v r s i does =
      subst (λ (x : DeskState P). Follows images a d (GiveOrder c order waits) x) (sym does.1) (give_follows d images a c order waits s r i does.0)
  call_follows knows d new (Release c) images a v r s i does = subst (λ (x : DeskState P). Follows images a d (Release c) x) (sym does.1) (release_follows d images a c s i does.0)
  call_follows knows d new (Map b c) images a v r s i does =
      subst (λ (x : DeskState P). Follows images a d (Map b c) x) (sym does.2) (map_follows knows d images a b c new.tree new.policy v s i does.0 does.1)
  call_follows knows d new (Unmap b c) images a v r s i does =
      subst (λ (x : DeskState P). Follows images a d (Unmap b c) x) (sym does.3) (unmap_follows knows d images a b c new.tree new.policy v s i does.0 does.2)
  call_follows knows d new BeginCommit images a v r s i does =
      subst (λ (x : DeskState P). Follows images a d BeginCommit x) (sym does.2.1) (begin_follows d images a new.tree does.2.0 s does.0.idle does.1)
  call_follows knows d new EndCommit images a v r s i does = subst (λ (x : DeskState P). Follows images a d EndCommit x) (sym does.1) (end_follows d images a s does.0)
  call_follows knows d new BreakCommit images a v r s i does = subst (λ (x : DeskState P). Follows images a d BreakCommit x) (sym does) (break_follows d images a s)

  -- what holds of all live orders holds after each call
  orders_of : (new old : DeskState P) → new ≡ old → AreOrders old.orders → AreOrders new.orders
  orders_of new old e r = subst (λ (x : DeskState P). AreOrders x.orders) (sym e) r

  orders_kept : (d new : DeskState P) (call : DeskCall) → Does d call new → AreOrders d.orders → AreOrders new.orders
  orders_kept d new TakeOrder does r = orders_of new (next_order_taken d) does (next_kept d.orders.slots d.orders.busy d.orders.waiting d.orders.given r)
  orders_kept d new Tell does r = subst (λ (x : Orders). AreOrders x) (sym (ap (λ (x : DeskState P). x.orders) does)) r
  orders_kept d new (GiveOrder c order waits) does r = orders_of new (reserved d c order waits) does.1
      (given_kept d.orders c (record { order = order; sectors = sectors_asked d.geometry order; threshold = d.threshold; number = d.orders.given; waits = waits }) r
      (record { vacant = does.0.give.vacant; idle = does.0.give.idle; room = does.0.give.room; number = refl }))
  orders_kept d new (Release c) does r = let t = taken_order (order_at d.orders.slots c.0) does.0 in
      orders_of new (released d c) does.1 (ended_kept d.orders c t.0 r t.1 t.2)
  orders_kept d new (Map b c) does r = orders_of new (mapped d c new.tree new.policy) does.2 (ended_kept d.orders c does.0.live r does.0.there does.0.taken)
  orders_kept d new (Unmap b c) does r = orders_of new (unmapped d c new.tree new.policy) does.3 (past_kept d.orders c (order_at d.orders.slots c.0) refl does.1 r)
  orders_kept d new BeginCommit does r = orders_of new (commit_begun d new.tree does.2.0) does.2.1 r
  orders_kept d new EndCommit does r = orders_of new (commit_ended d) does.1 r
  orders_kept d new BreakCommit does r = orders_of new (commit_broken d) does r

  -- ---- lists of calls

  pub calls_follow : (knows : P → Holdings → Type 0) (d : DeskState P) (calls : List (DeskCall × DeskState P)) (images : HeldImages) (a : Allocation)
      → AreCalls knows d calls → AreOrders d.orders → IsAllocation d images a → AllocationInvariant a
      → IsActRun a (acts_since a d calls) × AllocationInvariant (after_acts a (acts_since a d calls)) × AreOrders (desk_after d calls).orders
      × IsAllocation (desk_after d calls) (images_since d images calls) (after_acts a (acts_since a d calls))
  calls_follow knows d [] images a are r s i = (tt, i, r, s)
  calls_follow knows d (c ∷ calls) images a are r s i =
      let f = call_follows knows d c.1 c.0 images a are.0 r s i are.1 in
      let acts = acts_of a d c.0 c.1 in
      let kept = all_kept a acts f.0 i in
      let rest = calls_follow knows c.1 calls (images_after d images c.0) (after_acts a acts) are.2 (orders_kept d c.1 c.0 are.1 r) f.1 kept in
      let e = acts_then a acts (acts_since (after_acts a acts) c.1 calls) in (
        run_then a acts (acts_since (after_acts a acts) c.1 calls) f.0 rest.0,
        subst (λ (x : Allocation). AllocationInvariant x) (sym e) rest.1,
        rest.2,
        subst (λ (x : Allocation). IsAllocation (desk_after c.1 calls) (images_since c.1 (images_after d images c.0) calls) x) (sym e) rest.3,
      )

-- ---- at an opening

no_orders_listed : (n c : ℕ) → None ≡ option_map (as_given c) (order_at (replicate n None) c)
no_orders_listed n c = ap (λ (s : Option Living). option_map (as_given c) s) (sym (none_at n c))
  where
    none_at : (n c : ℕ) → order_at (replicate n None) c ≡ None
    none_at n c = elim (cases_lt c n) [
      | inl i ↦ get_or-replicate {A = Option Living} n c None None i
      | inr p ↦ get_or_past (replicate n None) c None (omega (arith, p, length-replicate {A = Option Living} n None))
    ]

opened_blocks : (entries : List (Option Entry)) → map block_as_opened (origins entries) ≡ map opened_block (map is_some entries)
opened_blocks [] = refl
opened_blocks (None ∷ entries) = ap (λ (xs : List Block). Free ∷ xs) (opened_blocks entries)
opened_blocks (Some e ∷ entries) = ap (λ (xs : List Block). Mapped ∷ xs) (opened_blocks entries)

none_twice : (cache_blocks origin_blocks : ℕ) (entries : List (Option Entry)) → IsMapping cache_blocks origin_blocks entries → NoneTwice (origins entries)
none_twice cache_blocks origin_blocks entries m b c k p q =
    let x = entry_of_origin entries c b p in
    let y = entry_of_origin entries k b q in
    m.once c k x.0 y.0 x.1 y.1 (same_origin x.0.origin y.0.origin (x.2 ∙ sym y.2))
  where
    same_origin : (x y : OBlock) → x.0 ≡ y.0 → x ≡ y
    same_origin x y e = ap (λ (n : ℕ). let b : OBlock = record { 0 = n } in b) e

    entry_of_origin : (entries : List (Option Entry)) (c b : ℕ) → origin_in (origins entries) c ≡ Some b → (e : Entry) × (get_or entries c None ≡ Some e) × (e.origin.0 ≡ b)
    entry_of_origin entries c b p = by (get_or entries c None) refl (sym (get_or-map (option_map (λ (e : Entry). e.origin.0)) entries c None) ∙ p)
      where
        by : (e : Option Entry) → get_or entries c None ≡ e → option_map (λ (x : Entry). x.origin.0) e ≡ Some b → (x : Entry) × (get_or entries c None ≡ Some x) × (x.origin.0 ≡ b)
        by None is o = absurd cc
        by (Some x) is o = (x, is, cc)

pub opening_begins : {P : Type 0} (geometry : Geometry) (generation : ℕ) (tree : Mapping) (used : List Place) (mode : Mode) (policy : P) (threshold mapped : ℕ)
    → IsMapping geometry.cache_blocks geometry.origin_blocks tree.entries
    → AllocationInvariant (at_opening (origins tree.entries) threshold)
    × AreOrders (opened geometry generation tree used mode policy threshold mapped).orders
    × IsAllocation (opened geometry generation tree used mode policy threshold mapped) (record { committed = origins tree.entries; running = origins tree.entries }) (at_opening (origins tree.entries) threshold)
opening_begins geometry generation tree used mode policy threshold mapped m = (
  opened_kept (origins tree.entries) threshold (none_twice geometry.cache_blocks geometry.origin_blocks tree.entries m),
  none_kept geometry.cache_blocks geometry.origin_blocks,
  record {
    blocks = opened_blocks tree.entries;
    mapping = refl;
    committed = refl;
    running = refl;
    committing = refl;
    threshold = refl;
    orders = λ c. no_orders_listed geometry.cache_blocks c;
    sectors = none_cost geometry.cache_blocks;
  },
)
