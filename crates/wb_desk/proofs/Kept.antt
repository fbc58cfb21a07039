-- What holds of every desk holds after each call.
use Rattle.std.proofs.Common.{◌≡◌, ◌<◌, inl, inr, ℕ, Bool, true, false, List, [], ◌∷◌, Option, Some, None, length, get_or, set, refl, sym, ap, subst, ◌∙◌, arith, get_or-set_same, get_or-set_other}
use Rattle.std.specs.Option.{option_map}
use Rattle.std.proofs.lemmas.Bool.{cases_eq}
use Rattle.std.proofs.lemmas.List.{length-set, set-get_or}
use Rattle.std.proofs.lemmas.Option.{get_or_from_slice_get}
use Rattle.wb_types.specs.declared.entry.Entry.{Entry}
use Rattle.wb_types.specs.declared.number.CBlock.{CBlock}
use Rattle.wb_policy.specs.declared.order.Order.{Order}
use Rattle.wb_policy.specs.declared.order.Order.TheVariants.{Promote, Replace, Demote, Clean}
use Rattle.wb_policy.specs.Law.{Holdings, IsMappedAt}
use Rattle.wb_space.specs.declared.block.Block.{Block}
use Rattle.wb_space.specs.declared.block.Block.TheVariants.{Free, Mapped, Reserved, Quarantined}
use Rattle.wb_space.specs.Blocks.{state, IsClaimed, released as block_released}
use Rattle.wb_orders.specs.declared.live_order.LiveOrder.{LiveOrder}
use Rattle.wb_orders.specs.Named.{first_of, second_of}
use Rattle.wb_orders.specs.Orders.{order_at, order_taken, slots_taken, unmarked, IsTaken}
use Rattle.wb_desk.specs.Desks.{DeskState, DeskInvariant, IsRight, HasOne, NamesWhatIs, Names, MayReserve, IsGivenLawfully, IsLive, holdings, is_mapped, Takes, sectors_asked}
use Rattle.wb_desk.specs.Calls.{blocks_reserved, reserved, released, next_order_taken}
use Rattle.wb_orders.proofs.Kept.{within_of}
use Rattle.wb_desk.proofs.Index.{names_take, takes_once, lawful_takes}

abbrev pub Each : Holdings → List (Option Entry) → List Block → List (Option LiveOrder) → ℕ → Type 0
Each mapping entries blocks slots n = (k : ℕ) → k < n → IsRight mapping k (get_or entries k None) (state blocks k) (order_at slots k)

-- one cache block changes its state and its order
pub one_changes : (mapping : Holdings) (entries : List (Option Entry)) (blocks : List Block) (slots : List (Option LiveOrder)) (n c : ℕ) (b : Block) (s : Option LiveOrder)
    → length blocks ≡ n → length slots ≡ n → Each mapping entries blocks slots n → (c < n → IsRight mapping c (get_or entries c None) b s)
    → Each mapping entries (set blocks c b) (set slots c s) n
one_changes mapping entries blocks slots n c b s lb ls each here k l = elim (cases_eq k c) [
  | inl e ↦ at e
  | inr m ↦ subst (λ (x : Block). IsRight mapping k (get_or entries k None) x (order_at (set slots c s) k)) (sym (get_or-set_other blocks c k b Free m))
      (subst (λ (x : Option LiveOrder). IsRight mapping k (get_or entries k None) (state blocks k) x) (sym (get_or-set_other slots c k s None m)) (each k l))
]
  where
    at : k ≡ c → IsRight mapping k (get_or entries k None) (state (set blocks c b) k) (order_at (set slots c s) k)
    at e =
        let inside : c < n = subst (λ (x : ℕ). x < n) e l in
        subst (λ (x : ℕ). IsRight mapping x (get_or entries x None) (state (set blocks c b) x) (order_at (set slots c s) x)) (sym e)
        (subst (λ (x : Block). IsRight mapping c (get_or entries c None) x (order_at (set slots c s) c)) (sym (get_or-set_same blocks c b Free (omega arith)))
        (subst (λ (x : Option LiveOrder). IsRight mapping c (get_or entries c None) b x) (sym (get_or-set_same slots c s None (omega arith))) (here inside)))

-- ---- the order that waits longest is taken

taken_right : (mapping : Holdings) (c : ℕ) (entry : Option Entry) (b : Block) (s : Option LiveOrder) → IsRight mapping c entry b s → IsRight mapping c entry b (option_map order_taken s)
taken_right mapping c entry b None r = r
taken_right mapping c entry b (Some o) r = record { filled = r.filled; held = λ h. tt; stands = r.stands }

length_taken : (slots : List (Option LiveOrder)) (waiting : List CBlock) → length (slots_taken slots waiting) ≡ length slots
length_taken slots [] = refl
length_taken slots (c ∷ cs) = length-set slots c.0 (option_map order_taken (order_at slots c.0))

each_taken : (mapping : Holdings) (entries : List (Option Entry)) (blocks : List Block) (slots : List (Option LiveOrder)) (n : ℕ) (waiting : List CBlock)
    → length blocks ≡ n → length slots ≡ n → Each mapping entries blocks slots n → Each mapping entries blocks (slots_taken slots waiting) n
each_taken mapping entries blocks slots n [] lb ls each = each
each_taken mapping entries blocks slots n (c ∷ cs) lb ls each =
    subst (λ (x : List Block). Each mapping entries x (slots_taken slots (c ∷ cs)) n) (set-get_or blocks c.0 Free)
    (one_changes mapping entries blocks slots n c.0 (state blocks c.0) (option_map order_taken (order_at slots c.0)) lb ls each
    (λ l. taken_right mapping c.0 (get_or entries c.0 None) (state blocks c.0) (order_at slots c.0) (each c.0 l)))

-- ---- an order is over

pub length_unmarked : (s : Option LiveOrder) (busy : List Bool) → length (unmarked s busy) ≡ length busy
length_unmarked None busy = refl
length_unmarked (Some o) busy = length-set (set busy (first_of o.order).0 false) (second_of o.order).0 false
    ∙ length-set busy (first_of o.order).0 false

-- ---- an order is given

-- what its cache block becomes
abbrev new_block : Order → Block → Block
new_block (Promote b c) block = Reserved
new_block (Replace v x c) block = block
new_block (Demote b) block = block
new_block (Clean b) block = block

blocks_by : (blocks : List Block) (mapping : Holdings) (c : CBlock) (order : Order) → Takes mapping c order → blocks_reserved blocks order ≡ set blocks c.0 (new_block order (state blocks c.0))
blocks_by blocks mapping c (Promote b x) t = ap (λ (k : CBlock). set blocks k.0 Reserved) (sym t)
blocks_by blocks mapping c (Replace v b x) t = sym (set-get_or blocks c.0 Free)
blocks_by blocks mapping c (Demote b) t = sym (set-get_or blocks c.0 Free)
blocks_by blocks mapping c (Clean b) t = sym (set-get_or blocks c.0 Free)

module _ {P : Type 0} where
  new_right : (d : DeskState P) (c : CBlock) (o : LiveOrder) (entry : Option Entry) (order : Order) → o.order ≡ order → IsGivenLawfully d c order
      → (r : (s : Option LiveOrder) × IsRight (holdings d) c.0 entry (state d.space.blocks c.0) s)
      → IsRight (holdings d) c.0 entry (new_block order (state d.space.blocks c.0)) (Some o)
  new_right d c o entry (Promote b x) e l r = record {
    filled = sym (ap is_mapped (ap (λ (k : CBlock). state d.space.blocks k.0) l.0 ∙ get_or_from_slice_get d.space.blocks x.0 Free Free l.1)) ∙ r.1.filled;
    held = λ h. tt;
    stands = subst (λ (y : Order). Names (holdings d) Reserved c.0 y) (sym e) (ap (λ (k : CBlock). k.0) l.0, refl, l.2);
  }
  new_right d c o entry (Replace v b x) e l r = record {
    filled = r.1.filled;
    held = λ h. tt;
    stands = subst (λ (y : Order). Names (holdings d) (state d.space.blocks c.0) c.0 y) (sym e)
        (ap (λ (k : CBlock). k.0) l.0, l.2, inl (subst (λ (k : CBlock). IsMappedAt (holdings d) v.0 k.0) (sym l.0) l.1));
  }
  new_right d c o entry (Demote b) e l r = record {
    filled = r.1.filled;
    held = λ h. tt;
    stands = subst (λ (y : Order). Names (holdings d) (state d.space.blocks c.0) c.0 y) (sym e) l;
  }
  new_right d c o entry (Clean b) e l r = record {
    filled = r.1.filled;
    held = λ h. tt;
    stands = subst (λ (y : Order). Names (holdings d) (state d.space.blocks c.0) c.0 y) (sym e) l;
  }

  module _ (knows : P → Holdings → Type 0) where
    pub taken_kept : (d : DeskState P) → DeskInvariant knows d → DeskInvariant knows (next_order_taken d)
    taken_kept d i = record {
      mapping = i.mapping;
      keeps = i.keeps;
      blocks = i.blocks;
      slots = length_taken d.orders.slots d.orders.waiting ∙ i.slots;
      busy = i.busy;
      places = i.places;
      next = i.next;
      each = each_taken (holdings d) d.tree.entries d.space.blocks d.orders.slots d.geometry.cache_blocks d.orders.waiting i.blocks i.slots i.each;
      counted = i.counted;
      numbered = i.numbered;
      known = i.known;
    }

    pub reserved_kept : (d : DeskState P) (c : CBlock) (order : Order) (waits : Bool) → DeskInvariant knows d → MayReserve d c order → DeskInvariant knows (reserved d c order waits)
    reserved_kept d c order waits i m = record {
      mapping = i.mapping;
      keeps = i.keeps;
      blocks = ap (λ (x : List Block). length x) by ∙ length-set d.space.blocks c.0 (new_block order (state d.space.blocks c.0)) ∙ i.blocks;
      slots = length-set d.orders.slots c.0 (Some o) ∙ i.slots;
      busy = length-set (set d.orders.busy (first_of order).0 true) (second_of order).0 true
          ∙ length-set d.orders.busy (first_of order).0 true ∙ i.busy;
      places = i.places;
      next = i.next;
      each = subst (λ (x : List Block). Each (holdings d) d.tree.entries x (set d.orders.slots c.0 (Some o)) d.geometry.cache_blocks) (sym by)
          (one_changes (holdings d) d.tree.entries d.space.blocks d.orders.slots d.geometry.cache_blocks c.0 (new_block order (state d.space.blocks c.0)) (Some o) i.blocks i.slots i.each
          (λ l. new_right d c o (get_or d.tree.entries c.0 None) order refl m.lawful (order_at d.orders.slots c.0, i.each c.0 l)));
      counted = i.counted;
      numbered = i.numbered;
      known = i.known;
    }
      where
        by : blocks_reserved d.space.blocks order ≡ set d.space.blocks c.0 (new_block order (state d.space.blocks c.0))
        by = blocks_by d.space.blocks (holdings d) c order (lawful_takes d c order m.lawful)

        o : LiveOrder
        o = record { order = order; sectors = sectors_asked d.geometry order; threshold = d.threshold; number = d.orders.given; waits = waits }

    pub released_kept : (d : DeskState P) (c : CBlock) → DeskInvariant knows d → DeskInvariant knows (released d c)
    released_kept d c i = record {
      mapping = i.mapping;
      keeps = i.keeps;
      blocks = length-set d.space.blocks c.0 (block_released (state d.space.blocks c.0)) ∙ i.blocks;
      slots = length-set d.orders.slots c.0 None ∙ i.slots;
      busy = length_unmarked (order_at d.orders.slots c.0) d.orders.busy ∙ i.busy;
      places = i.places;
      next = i.next;
      each = one_changes (holdings d) d.tree.entries d.space.blocks d.orders.slots d.geometry.cache_blocks c.0 (block_released (state d.space.blocks c.0)) None i.blocks i.slots i.each
          (λ l. record { filled = same (state d.space.blocks c.0) ∙ (i.each c.0 l).filled; held = unclaimed (state d.space.blocks c.0); stands = tt });
      counted = i.counted;
      numbered = i.numbered;
      known = i.known;
    }
      where
        same : (b : Block) → is_mapped (block_released b) ≡ is_mapped b
        same Free = refl
        same Mapped = refl
        same Reserved = refl
        same (Quarantined claimed early) = refl

        unclaimed : (b : Block) → IsClaimed (block_released b) → HasOne None
        unclaimed Free h = h
        unclaimed Mapped h = h
        unclaimed Reserved h = h
        unclaimed (Quarantined claimed early) h = h

    pub takes_there : (d : DeskState P) (order : Order) → DeskInvariant knows d → (live : IsLive d order) → Takes (holdings d) live.cache order
    takes_there d order i live =
        let r = i.each live.cache.0 (omega (arith, within_of d.orders.slots live.cache.0 live.live live.there, i.slots)) in
        let n : Names (holdings d) (state d.space.blocks live.cache.0) live.cache.0 live.live.order = subst (λ (s : Option LiveOrder). NamesWhatIs (holdings d) (state d.space.blocks live.cache.0) live.cache.0 s) live.there r.stands in
        names_take (holdings d) (state d.space.blocks live.cache.0) live.cache order (subst (λ (y : Order). Names (holdings d) (state d.space.blocks live.cache.0) live.cache.0 y) live.same n)

    -- the cache block that a live order was found at is its own
    pub found_at : (d : DeskState P) (order : Order) (c : CBlock) → DeskInvariant knows d → (live : IsLive d order) → Takes (holdings d) c order → c ≡ live.cache
    found_at d order c i live t = takes_once d.geometry.cache_blocks d.geometry.origin_blocks d.tree.entries c live.cache order i.mapping t (takes_there d order i live)

    pub live_within : (d : DeskState P) (order : Order) → DeskInvariant knows d → (live : IsLive d order) → live.cache.0 < length d.space.blocks
    live_within d order i live = omega (arith, within_of d.orders.slots live.cache.0 live.live live.there, i.slots, i.blocks)

    -- what is known of the cache block of a live order, however it was found
    pub own : (d : DeskState P) (order : Order) (c : CBlock) → DeskInvariant knows d → (live : IsLive d order) → Takes (holdings d) c order
        → (c.0 < length d.space.blocks) × IsTaken (order_at d.orders.slots c.0)
    own d order c i live t =
        let e = found_at d order c i live t in
        subst (λ (k : CBlock). (k.0 < length d.space.blocks) × IsTaken (order_at d.orders.slots k.0)) (sym e)
        (live_within d order i live, subst (λ (s : Option LiveOrder). IsTaken s) (sym live.there) live.taken)
