-- What holds of every desk holds after an entry went.
use Rattle.std.proofs.Common.{◌≡◌, ◌⊎◌, ◌<◌, ◌≤◌, ◌+◌, ◌-◌, ◌%◌, ◌^◌, inl, inr, ℕ, Bool, true, false, cond, is_some, IsSome, List, Option, Some, None, length, get_or, set, slice_get, refl, sym, ap, subst, ◌∙◌, arith}
use Rattle.std.specs.List.{count_by}
use Rattle.std.specs.Option.{option_map}
use Rattle.std.proofs.Math.Nat.{add-mod-mod}
use Rattle.std.proofs.lemmas.Bool.{cases_eq}
use Rattle.std.proofs.lemmas.List.{length-set, length-map, set-get_or}
use Rattle.std.proofs.lemmas.List.Sums.{sum_by-set}
use Rattle.std.proofs.lemmas.Option.{slice_get_within, slice_get-get_or}
use Rattle.wb_types.specs.declared.entry.Entry.{Entry}
use Rattle.wb_types.specs.declared.number.CBlock.{CBlock}
use Rattle.wb_types.specs.declared.number.OBlock.{OBlock}
use Rattle.wb_tree.specs.Mapping.{Mapping, IsMapping, places_above}
use Rattle.wb_tree.proofs.Stored.EntryChanges.{clear-mapping}
use Rattle.wb_policy.specs.declared.order.Order.{Order}
use Rattle.wb_policy.specs.declared.order.Order.TheVariants.{Promote, Replace, Demote, Clean}
use Rattle.wb_policy.specs.Law.{Holdings, origins, IsMappedAt, IsUnmapped}
use Rattle.wb_policy.proofs.Laws.{slice_get-set_other}
use Rattle.wb_space.specs.declared.block.Block.{Block}
use Rattle.wb_space.specs.declared.block.Block.TheVariants.{Free, Mapped, Reserved, Quarantined}
use Rattle.wb_space.specs.Blocks.{state, IsClaimed}
use Rattle.wb_space.specs.Places.{noted_known}
use Rattle.wb_orders.specs.declared.live_order.LiveOrder.{LiveOrder}
use Rattle.wb_orders.specs.Orders.{Orders, order_at, without_order}
use Rattle.wb_desk.specs.Desks.{DeskState, DeskInvariant, IsRight, NamesWhatIs, Names, holdings, is_mapped, mapped_now}
use Rattle.wb_desk.specs.Fields.{IsIndex, AreParts, newest_places}
use Rattle.wb_desk.specs.Entries.{MayUnmap, IsRemoved, Removes, keeps, is_replacement, orders_past, orders_left, unmapped}
use Rattle.wb_tree.specs.Edits.{IsChangedAt}
use Rattle.wb_desk.proofs.Index.{entry_for, mapped_once, same_cache}
use Rattle.wb_tree.proofs.Images.PlanSteps.{kept_none}
use Rattle.wb_desk.proofs.Keeping.{set_keeps}
use Rattle.wb_desk.proofs.Kept.{Each, length_unmarked}
use Rattle.wb_desk.proofs.Entering.{one_entry_changes, mapped_elsewhere, set_origin, set_there, places_edited, left_above}
use Rattle.wb_types.proofs.Lists.{slice_get-set}

pub entry_there : (entries : List (Option Entry)) (b c : ℕ) → IsMappedAt (origins entries) b c → IsSome (get_or entries c None)
entry_there entries b c at = subst (λ (x : Option Entry). IsSome x) (sym (entry_for entries b c at).there) refl

origin_within : (entries : List (Option Entry)) (b c : ℕ) → IsMappedAt (origins entries) b c → c < length entries
origin_within entries b c at = omega (arith, slice_get_within (origins entries) c (Some b) at, length-map entries (option_map (λ (e : Entry). e.origin.0)))

-- ---- which blocks are mapped once one went

nothing : (x : ℕ) → (let y : Option (Option ℕ) = Some None in y) ≡ Some (Some x) → ⊥
nothing x e = cc

some_block : (a b : ℕ) → (let x : Option (Option ℕ) = Some (Some a) in x) ≡ Some (Some b) → a ≡ b
some_block a b e = cc

unmapped_still : (m : Holdings) (b c x : ℕ) → IsMappedAt m b c → IsUnmapped m x → IsUnmapped (set m c None) x
unmapped_still m b c x there u at e = elim (cases_eq at c) [
  | inl same ↦ nothing x (sym (slice_get-set m c (Some b) None there) ∙ ap (λ (k : ℕ). slice_get (set m c None) k) (sym same) ∙ e)
  | inr other ↦ u at (sym (slice_get-set_other m c at None other) ∙ e)
]

-- a block that stood there and nowhere else stands nowhere
unmapped_now : (m : Holdings) (b c : ℕ) → IsMappedAt m b c → ((k : ℕ) → IsMappedAt m b k → k ≡ c) → IsUnmapped (set m c None) b
unmapped_now m b c there once at e = elim (cases_eq at c) [
  | inl same ↦ nothing b (sym (slice_get-set m c (Some b) None there) ∙ ap (λ (k : ℕ). slice_get (set m c None) k) (sym same) ∙ e)
  | inr other ↦ other (once at (sym (slice_get-set_other m c at None other) ∙ e))
]

names_still : (m : Holdings) (b c k : ℕ) (block : Block) (o : Order) → IsMappedAt m b c → (k ≡ c → ⊥) → Names m block k o → Names (set m c None) block k o
names_still m b c k block (Promote x y) there other n = (n.0, n.1, unmapped_still m b c x.0 there n.2)
names_still m b c k block (Replace v x y) there other n = (
  n.0,
  unmapped_still m b c x.0 there n.1,
  elim n.2 [
    | inl at ↦ inl (mapped_elsewhere m v.0 c k None other at)
    | inr gone ↦ inr (unmapped_still m b c v.0 there gone.0, gone.1)
  ],
)
names_still m b c k block (Demote x) there other n = mapped_elsewhere m x.0 c k None other n
names_still m b c k block (Clean x) there other n = mapped_elsewhere m x.0 c k None other n

-- ---- the cache block that it left, and its order

abbrev slot_left : Option LiveOrder → Option LiveOrder
slot_left None = None
slot_left (Some o) = cond (is_replacement o.order) (Some o) None

right_left : (m : Holdings) (b c : ℕ) (block : Block) (s : Option LiveOrder) → IsMappedAt m b c → ((k : ℕ) → IsMappedAt m b k → k ≡ c) → IsRemoved s → NamesWhatIs m block c s
    → IsRight (set m c None) c None (Quarantined (keeps s) false) (slot_left s)
right_left m b c block None there once removed names = record { filled = refl; held = λ h. h; stands = tt }
right_left m b c block (Some o) there once removed names = by o.order refl removed.1 names
  where
    by : (order : Order) → o.order ≡ order → Removes order → Names m block c order
        → IsRight (set m c None) c None (Quarantined (is_replacement o.order) false) (cond (is_replacement o.order) (Some o) None)
    by (Promote x y) e r n = absurd r
    by (Clean x) e r n = absurd r
    by (Demote x) e r n = subst (λ (q : Order). IsRight (set m c None) c None (Quarantined (is_replacement q) false) (cond (is_replacement q) (Some o) None)) (sym e)
        (record { filled = refl; held = λ h. h; stands = tt })
    by (Replace v x y) e r n = subst (λ (q : Order). IsRight (set m c None) c None (Quarantined (is_replacement q) false) (cond (is_replacement q) (Some o) None)) (sym e) (record {
      filled = refl;
      held = λ h. tt;
      stands = subst (λ (q : Order). Names (set m c None) (Quarantined true false) c q) (sym e) (n.0, unmapped_still m b c x.0 there n.1, inr (gone n.2, tt));
    })
      where
        gone : IsMappedAt m v.0 c ⊎ (IsUnmapped m v.0 × IsClaimed block) → IsUnmapped (set m c None) v.0
        gone (inl at) = subst (λ (z : ℕ). IsUnmapped (set m c None) z) (some_block b v.0 (sym there ∙ at)) (unmapped_now m b c there once)
        gone (inr before) = unmapped_still m b c v.0 there before.0

slots_left : (orders : Orders) (c : CBlock) → (orders_left orders c).slots ≡ set orders.slots c.0 (slot_left (order_at orders.slots c.0))
slots_left orders c = by (order_at orders.slots c.0) refl
  where
    same : set orders.slots c.0 (order_at orders.slots c.0) ≡ orders.slots
    same = set-get_or orders.slots c.0 None

    by : (s : Option LiveOrder) → order_at orders.slots c.0 ≡ s → (orders_past s orders c).slots ≡ set orders.slots c.0 (slot_left s)
    by None e = sym (ap (λ (x : Option LiveOrder). set orders.slots c.0 x) (sym e) ∙ same)
    by (Some o) e = which (is_replacement o.order)
      where
        which : (r : Bool) → (cond r orders (without_order orders c)).slots ≡ set orders.slots c.0 (cond r (Some o) None)
        which true = sym (ap (λ (x : Option LiveOrder). set orders.slots c.0 x) (sym e) ∙ same)
        which false = refl

busy_left : (orders : Orders) (c : CBlock) → length (orders_left orders c).busy ≡ length orders.busy
busy_left orders c = by (order_at orders.slots c.0)
  where
    by : (s : Option LiveOrder) → length (orders_past s orders c).busy ≡ length orders.busy
    by None = refl
    by (Some o) = which (is_replacement o.order)
      where
        which : (r : Bool) → length (cond r orders (without_order orders c)).busy ≡ length orders.busy
        which true = refl
        which false = length_unmarked (order_at orders.slots c.0) orders.busy

-- ---- counting

one_less : (entries : List (Option Entry)) (c : ℕ) → c < length entries → IsSome (get_or entries c None)
    → count_by is_some (set entries c None) + 1 ≡ count_by is_some entries
one_less entries c l some = omega (arith, sum_by-set counts entries c None None l, one (get_or entries c None) some)
  where
    counts : Option Entry → ℕ
    counts x = cond (is_some x) 1 0

    one : (x : Option Entry) → IsSome x → counts x ≡ 1
    one None s = absurd (cc)
    one (Some e) s = refl

counted_less : (a p n m d : ℕ) → m + 1 ≡ n → (a + p) % 2 ^ 64 ≡ (n + d) % 2 ^ 64 → (a + p) % 2 ^ 64 ≡ (m + (d + 1) % 2 ^ 64) % 2 ^ 64
counted_less a p n m d one e = e ∙ ap (λ (k : ℕ). k % 2 ^ 64) moved ∙ sym (add-mod-mod m (d + 1) (2 ^ 64))
  where
    moved : n + d ≡ m + (d + 1)
    moved = omega arith

-- ---- the index

one_cache : (x y : Option CBlock) → (let a : Option (Option CBlock) = Some x in a) ≡ Some y → x ≡ y
one_cache x y e = cc

none_cache : (c : CBlock) → (let a : Option CBlock = None in a) ≡ Some c → ⊥
none_cache c e = cc

index_unmapped : (n : ℕ) (m : Holdings) (cached : List (Option CBlock)) (b c : ℕ) → IsIndex n m cached → b < n → IsMappedAt m b c → ((k : ℕ) → IsMappedAt m b k → k ≡ c)
    → IsIndex n (set m c None) (set cached b None)
index_unmapped n m cached b c i l at once = record {
  size = length-set cached b None ∙ i.size;
  found = λ x k e. elim (cases_eq x b) [
    | inl same ↦ absurd (none_cache k (one_cache None (Some k) (sym there ∙ ap (λ (y : ℕ). slice_get (set cached b None) y) (sym same) ∙ e)))
    | inr other ↦
        let before = i.found x k (sym (slice_get-set_other cached b x None other) ∙ e) in
        mapped_elsewhere m x c k.0 None (λ same. other (some_block x b (sym before ∙ ap (λ (y : ℕ). slice_get m y) same ∙ at))) before
  ];
  missing = λ x e. elim (cases_eq x b) [
    | inl same ↦ subst (λ (y : ℕ). IsUnmapped (set m c None) y) (sym same) (unmapped_now m b c at once)
    | inr other ↦ unmapped_still m b c x at (i.missing x (sym (slice_get-set_other cached b x None other) ∙ e))
  ];
}
  where
    there : slice_get (set cached b None) b ≡ Some None
    there = set_there cached b None (omega (arith, l, i.size))

module _ {P : Type 0} (knows : P → Holdings → Type 0) where
  stands_once : (d : DeskState P) (b c : ℕ) → DeskInvariant knows d → IsMappedAt (holdings d) b c → (k : ℕ) → IsMappedAt (holdings d) b k → k ≡ c
  stands_once d b c i at k there = mapped_once d.geometry.cache_blocks d.geometry.origin_blocks d.tree.entries b k c i.mapping there at

  pub mapped_within : (d : DeskState P) (b c : ℕ) → DeskInvariant knows d → IsMappedAt (holdings d) b c → (c < d.geometry.cache_blocks) × (b < d.geometry.origin_blocks)
  mapped_within d b c i at =
      let e = entry_for d.tree.entries b c at in
      (omega (arith, origin_within d.tree.entries b c at, i.mapping.size), omega (arith, (i.mapping.within c e.entry e.there).0, e.origin))

  -- the cache block that was found is the one that is meant
  pub found_there : (d : DeskState P) (b : OBlock) (c : CBlock) → DeskInvariant knows d → IsMappedAt (holdings d) b.0 c.0 → (may : MayUnmap d b) → c ≡ may.cache
  found_there d b c i at may = same_cache c may.cache (stands_once d b.0 may.cache.0 i may.mapped c.0 at)

  pub removed_there : (d : DeskState P) (b : OBlock) (c : CBlock) → DeskInvariant knows d → IsMappedAt (holdings d) b.0 c.0 → MayUnmap d b → IsRemoved (order_at d.orders.slots c.0)
  removed_there d b c i at may = subst (λ (k : CBlock). IsRemoved (order_at d.orders.slots k.0)) (sym (found_there d b c i at may)) may.removed

  -- the block is mapped
  pub mapped_state : (d : DeskState P) (b c : ℕ) → DeskInvariant knows d → IsMappedAt (holdings d) b c → slice_get d.space.blocks c ≡ Some Mapped
  mapped_state d b c i at =
      let l = (mapped_within d b c i at).0 in
      slice_get-get_or d.space.blocks c Free (omega (arith, l, i.blocks))
      ∙ ap (λ (x : Block). Some x) (one_mapped (state d.space.blocks c) ((i.each c l).filled ∙ some_is (get_or d.tree.entries c None) (entry_there d.tree.entries b c at)))
    where
      some_is : (x : Option Entry) → IsSome x → is_some x ≡ true
      some_is None s = absurd (cc)
      some_is (Some e) s = refl

      one_mapped : (x : Block) → is_mapped x ≡ true → x ≡ Mapped
      one_mapped Free e = absurd (cc)
      one_mapped Mapped e = refl
      one_mapped Reserved e = absurd (cc)
      one_mapped (Quarantined claimed early) e = absurd (cc)

  count_less : (d : DeskState P) (b c : ℕ) (tree : Mapping) → DeskInvariant knows d → IsMappedAt (holdings d) b c → IsChangedAt d.tree tree c None
      → count_by is_some tree.entries + 1 ≡ mapped_now d
  count_less d b c tree i at changed =
      ap (λ (x : List (Option Entry)). count_by is_some x + 1) changed.entries
      ∙ one_less d.tree.entries c (omega (arith, (mapped_within d b c i at).0, i.mapping.size)) (entry_there d.tree.entries b c at)

  pub unmapped_kept : (d : DeskState P) (b : OBlock) (c : CBlock) (tree : Mapping) (policy : P) → DeskInvariant knows d → IsMappedAt (holdings d) b.0 c.0 → IsRemoved (order_at d.orders.slots c.0)
      → IsChangedAt d.tree tree c.0 None → knows policy (origins tree.entries) → DeskInvariant knows (unmapped d c tree policy)
  unmapped_kept d b c tree policy i at removed changed known = record {
    mapping = subst (λ (x : List (Option Entry)). IsMapping d.geometry.cache_blocks d.geometry.origin_blocks x) (sym changed.entries)
        (clear-mapping d.geometry.cache_blocks d.geometry.origin_blocks c.0 d.tree.entries i.mapping);
    keeps = set_keeps d.geometry.version d.tree tree c.0 None (kept_none d.geometry.version) changed.entries i.keeps;
    blocks = length-set d.space.blocks c.0 quarantined ∙ i.blocks;
    slots = ap (λ (x : List (Option LiveOrder)). length x) (slots_left d.orders c) ∙ length-set d.orders.slots c.0 (slot_left (order_at d.orders.slots c.0)) ∙ i.slots;
    busy = busy_left d.orders c ∙ i.busy;
    places = places_edited d.geometry d.tree tree d.space.places d.space.committing d.nodes d.coming changed.edited i.places;
    next = i.next;
    each = subst (λ (x : List (Option Entry)). Each (origins x) x (set d.space.blocks c.0 quarantined) (orders_left d.orders c).slots d.geometry.cache_blocks) (sym changed.entries)
        (subst (λ (x : List (Option LiveOrder)). Each (origins (set d.tree.entries c.0 None)) (set d.tree.entries c.0 None) (set d.space.blocks c.0 quarantined) x d.geometry.cache_blocks) (sym (slots_left d.orders c))
        (subst (λ (m : Holdings). Each m (set d.tree.entries c.0 None) (set d.space.blocks c.0 quarantined) (set d.orders.slots c.0 (slot_left (order_at d.orders.slots c.0))) d.geometry.cache_blocks) (sym (set_origin d.tree.entries c.0 None))
        (one_entry_changes (holdings d) (set (holdings d) c.0 None) d.tree.entries d.space.blocks d.orders.slots d.geometry.cache_blocks c.0 None quarantined (slot_left (order_at d.orders.slots c.0))
        i.mapping.size i.blocks i.slots i.each
        (λ k o other is names. names_still (holdings d) b.0 c.0 k (state d.space.blocks k) o.order at other names)
        (λ l. right_left (holdings d) b.0 c.0 (state d.space.blocks c.0) (order_at d.orders.slots c.0) at (stands_once d b.0 c.0 i at) removed (i.each c.0 l).stands))));
    counted = counted_less d.at_opening d.promotions (mapped_now d) (count_by is_some tree.entries) d.demotions (count_less d b.0 c.0 tree i at changed) i.counted;
    numbered = i.numbered;
    known = known;
  }
    where
      quarantined : Block
      quarantined = Quarantined (keeps (order_at d.orders.slots c.0)) false

  pub unmapped_parts : (d : DeskState P) (b : OBlock) (c : CBlock) (tree : Mapping) (policy : P) (cached : List (Option CBlock)) (left : List Bool) (count : ℕ) → AreParts knows d cached left count
      → IsMappedAt (holdings d) b.0 c.0 → IsRemoved (order_at d.orders.slots c.0) → IsChangedAt d.tree tree c.0 None → knows policy (origins tree.entries)
      → AreParts knows (unmapped d c tree policy) (set cached b.0 None) (noted_known (places_above d.tree c.0) left) (count - 1)
  unmapped_parts d b c tree policy cached left count p at removed changed known = record {
    desk = unmapped_kept d b c tree policy p.desk at removed changed known;
    sound = changed.sound;
    have_left = left_above d.tree tree (newest_places d.space) left c.0 None p.sound changed p.have_left;
    index = subst (λ (m : Holdings). IsIndex d.geometry.origin_blocks m (set cached b.0 None)) (sym (ap origins changed.entries ∙ set_origin d.tree.entries c.0 None))
        (index_unmapped d.geometry.origin_blocks (holdings d) cached b.0 c.0 p.index (mapped_within d b.0 c.0 p.desk at).1 at (stands_once d b.0 c.0 p.desk at));
    count = omega (arith, p.count, count_less d b.0 c.0 tree p.desk at changed);
  }

  -- some block is mapped
  pub some_mapped : (d : DeskState P) (b : OBlock) (c : CBlock) (tree : Mapping) (cached : List (Option CBlock)) (left : List Bool) (count : ℕ) → AreParts knows d cached left count → IsMappedAt (holdings d) b.0 c.0
      → IsChangedAt d.tree tree c.0 None → 1 ≤ count
  some_mapped d b c tree cached left count p at changed = omega (arith, p.count, count_less d b.0 c.0 tree p.desk at changed)
