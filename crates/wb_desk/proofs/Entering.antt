-- What holds of every desk holds after an entry came.
use Rattle.std.proofs.Common.{◌≡◌, ◌≢◌, ◌<◌, ◌+◌, ◌%◌, ◌^◌, inl, inr, ℕ, suc, Bool, true, false, cond, is_some, List, [], ◌∷◌, Option, Some, None, IfSome, length, get_or, set, slice_get, refl, sym, ap, subst, ◌∙◌, arith, get_or-set_same, get_or-set_other}
use Rattle.std.specs.List.{count_by}
use Rattle.std.specs.Option.{option_map}
use Rattle.std.proofs.Math.Nat.{add-mod-mod, suc-mod}
use Rattle.std.proofs.lemmas.Bool.{cases_eq, cases_lt}
use Rattle.std.proofs.lemmas.List.{length-set, length-map, map-set, get_or-map, get_or_past}
use Rattle.std.proofs.lemmas.List.Sums.{sum_by-set}
use Rattle.std.proofs.lemmas.Option.{get_or_from_slice_get, slice_get-get_or}
use Rattle.wb_types.specs.declared.entry.Entry.{Entry}
use Rattle.wb_types.specs.declared.geometry.Geometry.{Geometry}
use Rattle.wb_types.specs.declared.number.CBlock.{CBlock}
use Rattle.wb_types.specs.declared.number.OBlock.{OBlock}
use Rattle.wb_tree.specs.Mapping.{Mapping, IsMapping, IsPlaceOf, IsSound, places_above}
use Rattle.wb_tree.specs.Edits.{IsEdited}
use Rattle.wb_tree.proofs.Stored.Edited.{places-edited}
use Rattle.wb_tree.proofs.Nodes.Above.{leaves-above}
use Rattle.wb_tree.proofs.Stored.EntryChanges.{set-mapping}
use Rattle.wb_policy.specs.declared.order.Order.{Order}
use Rattle.wb_policy.specs.declared.order.Order.TheVariants.{Promote, Replace, Demote, Clean}
use Rattle.wb_policy.specs.Law.{Holdings, origins, IsMappedAt, IsUnmapped}
use Rattle.wb_policy.proofs.Laws.{slice_get-set_other}
use Rattle.wb_space.specs.declared.block.Block.{Block}
use Rattle.wb_space.specs.declared.block.Block.TheVariants.{Free, Mapped, Reserved}
use Rattle.wb_space.specs.Places.{HaveLeft, PlacesInUse, noted_known}
use Rattle.wb_space.proofs.Changing.{more_left}
use Rattle.wb_space.specs.Blocks.{state}
use Rattle.wb_orders.specs.declared.live_order.LiveOrder.{LiveOrder}
use Rattle.wb_orders.specs.Named.{IsNamed, first_of, second_of}
use Rattle.wb_orders.specs.Orders.{AreOrders, next_of, order_at}
use Rattle.wb_orders.proofs.Kept.{within_of}
use Rattle.wb_desk.specs.InUse.{PlacesInvariant}
use Rattle.wb_desk.specs.Desks.{DeskState, DeskInvariant, IsRight, NamesWhatIs, Names, holdings, is_mapped, mapped_now}
use Rattle.wb_desk.specs.Fields.{IsIndex, AreParts, newest_places}
use Rattle.wb_desk.specs.Entries.{MayMap, Brings, entry_of, mapped}
use Rattle.wb_tree.specs.Edits.{IsChangedAt}
use Rattle.wb_desk.proofs.Index.{mapped_there}
use Rattle.wb_desk.proofs.Keeping.{clean_kept, set_keeps}
use Rattle.wb_desk.proofs.Kept.{Each, length_unmarked}
use Rattle.wb_types.proofs.Lists.{slice_get-set}

-- one cache block changes its entry, its state and its order
pub one_entry_changes : (mapping mapping' : Holdings) (entries : List (Option Entry)) (blocks : List Block) (slots : List (Option LiveOrder)) (n c : ℕ) (e : Option Entry) (b : Block) (s : Option LiveOrder)
    → length entries ≡ n → length blocks ≡ n → length slots ≡ n → Each mapping entries blocks slots n
    → ((k : ℕ) (o : LiveOrder) → k ≢ c → order_at slots k ≡ Some o → Names mapping (state blocks k) k o.order → Names mapping' (state blocks k) k o.order)
    → (c < n → IsRight mapping' c e b s) → Each mapping' (set entries c e) (set blocks c b) (set slots c s) n
one_entry_changes mapping mapping' entries blocks slots n c e b s le lb ls each others here k l = elim (cases_eq k c) [
  | inl same ↦ at same
  | inr m ↦
      subst (λ (x : Option Entry). IsRight mapping' k x (state (set blocks c b) k) (order_at (set slots c s) k)) (sym (get_or-set_other entries c k e None m))
      (subst (λ (x : Block). IsRight mapping' k (get_or entries k None) x (order_at (set slots c s) k)) (sym (get_or-set_other blocks c k b Free m))
      (subst (λ (x : Option LiveOrder). IsRight mapping' k (get_or entries k None) (state blocks k) x) (sym (get_or-set_other slots c k s None m))
      (record { filled = (each k l).filled; held = (each k l).held; stands = moved m (order_at slots k) refl (each k l).stands })))
]
  where
    moved : k ≢ c → (o : Option LiveOrder) → order_at slots k ≡ o → NamesWhatIs mapping (state blocks k) k o → NamesWhatIs mapping' (state blocks k) k o
    moved m None is names = tt
    moved m (Some o) is names = others k o m is names

    at : k ≡ c → IsRight mapping' k (get_or (set entries c e) k None) (state (set blocks c b) k) (order_at (set slots c s) k)
    at same =
        let inside : c < n = subst (λ (x : ℕ). x < n) same l in
        subst (λ (x : ℕ). IsRight mapping' x (get_or (set entries c e) x None) (state (set blocks c b) x) (order_at (set slots c s) x)) (sym same)
        (subst (λ (x : Option Entry). IsRight mapping' c x (state (set blocks c b) c) (order_at (set slots c s) c)) (sym (get_or-set_same entries c e None (omega arith)))
        (subst (λ (x : Block). IsRight mapping' c e x (order_at (set slots c s) c)) (sym (get_or-set_same blocks c b Free (omega arith)))
        (subst (λ (x : Option LiveOrder). IsRight mapping' c e b x) (sym (get_or-set_same slots c s None (omega arith))) (here inside))))

-- ---- which blocks are mapped once one came

some_block : (a b : ℕ) → (let x : Option (Option ℕ) = Some (Some a) in x) ≡ Some (Some b) → a ≡ b
some_block a b e = cc

pub unmapped_after : (m : Holdings) (b c x : ℕ) → slice_get m c ≡ Some None → (b ≡ x → ⊥) → IsUnmapped m x → IsUnmapped (set m c (Some b)) x
unmapped_after m b c x vacant n u at e = elim (cases_eq at c) [
  | inl same ↦ n (some_block b x (sym (slice_get-set m c None (Some b) vacant) ∙ ap (λ (k : ℕ). slice_get (set m c (Some b)) k) (sym same) ∙ e))
  | inr other ↦ u at (sym (slice_get-set_other m c at (Some b) other) ∙ e)
]

pub mapped_elsewhere : (m : Holdings) (v c k : ℕ) (x : Option ℕ) → (k ≡ c → ⊥) → IsMappedAt m v k → IsMappedAt (set m c x) v k
mapped_elsewhere m v c k x other e = slice_get-set_other m c k x other ∙ e

-- what an order of another cache block names is so still, where it does not name the block that came
names_after : (m : Holdings) (b c k : ℕ) (block : Block) (o : Order) → slice_get m c ≡ Some None → (k ≡ c → ⊥) → (IsNamed o b → ⊥) → Names m block k o → Names (set m c (Some b)) block k o
names_after m b c k block (Promote x y) vacant other apart n = (n.0, n.1, unmapped_after m b c x.0 vacant (λ e. apart (inl (sym e))) n.2)
names_after m b c k block (Replace v x y) vacant other apart n = (
  n.0,
  unmapped_after m b c x.0 vacant (λ e. apart (inr (sym e))) n.1,
  elim n.2 [
    | inl at ↦ inl (mapped_elsewhere m v.0 c k (Some b) other at)
    | inr gone ↦ inr (unmapped_after m b c v.0 vacant (λ e. apart (inl (sym e))) gone.0, gone.1)
  ],
)
names_after m b c k block (Demote x) vacant other apart n = mapped_elsewhere m x.0 c k (Some b) other n
names_after m b c k block (Clean x) vacant other apart n = mapped_elsewhere m x.0 c k (Some b) other n

-- ---- what is known of the block and of its cache block

-- the block that an order brings is unmapped, and named by it
pub brought : (m : Holdings) (block : Block) (c : ℕ) (b : OBlock) (o : Order) → Brings b o → Names m block c o → IsUnmapped m b.0 × IsNamed o b.0
brought m block c b (Promote x y) brings n = (subst (λ (k : OBlock). IsUnmapped m k.0) brings n.2, inl (ap (λ (k : OBlock). k.0) brings))
brought m block c b (Replace v x y) brings n = (subst (λ (k : OBlock). IsUnmapped m k.0) brings n.1, inr (ap (λ (k : OBlock). k.0) brings))
brought m block c b (Demote x) brings n = absurd brings
brought m block c b (Clean x) brings n = absurd brings

no_entry_there : (x : Option Entry) → false ≡ is_some x → x ≡ None
no_entry_there None e = refl
no_entry_there (Some x) e = absurd (cc)

pub vacant_origin : (entries : List (Option Entry)) (c : ℕ) → c < length entries → get_or entries c None ≡ None → slice_get (origins entries) c ≡ Some None
vacant_origin entries c l none =
    slice_get-get_or (origins entries) c None (omega (arith, l, length-map entries (option_map (λ (e : Entry). e.origin.0))))
    ∙ ap (λ (x : Option ℕ). Some x) (get_or-map (option_map (λ (e : Entry). e.origin.0)) entries c None None l ∙ ap (option_map (λ (e : Entry). e.origin.0)) none)

pub set_origin : (entries : List (Option Entry)) (c : ℕ) (e : Option Entry) → origins (set entries c e) ≡ set (origins entries) c (option_map (λ (x : Entry). x.origin.0) e)
set_origin entries c e = map-set (option_map (λ (x : Entry). x.origin.0)) entries c e

-- a busy block is one of the origin's
busy_inside : (busy : List Bool) (b : ℕ) → get_or busy b false ≡ true → b < length busy
busy_inside busy b is = elim (cases_lt b (length busy)) [
  | inl l ↦ l
  | inr past ↦ absurd (differs (sym (get_or_past busy b false past) ∙ is))
]
  where
    differs : false ≡ true → ⊥
    differs e = cc

-- ---- places

-- after an edit nodes stand where nodes stood
pub places_edited : (geometry : Geometry) (old new : Mapping) (places : PlacesInUse) (committing : Bool) (nodes coming : ℕ) → IsEdited old new
    → PlacesInvariant geometry old places committing nodes coming → PlacesInvariant geometry new places committing nodes coming
places_edited geometry old new places committing nodes coming edited i = record {
  room = i.room;
  inside = λ p at. i.inside p (places-edited old new p edited at);
  committed = i.committed;
  running = i.running;
  known = λ p at. i.known p (places-edited old new p edited at);
  idle = i.idle;
}

-- what stands above a changed entry has left
pub left_above : (old new : Mapping) (newest left : List Bool) (block : ℕ) (entry : Option Entry) → IsSound old → IsChangedAt old new block entry → HaveLeft (IsPlaceOf old) newest left
    → HaveLeft (IsPlaceOf new) newest (noted_known (places_above old block) left)
left_above old new newest left block entry sound changed have = more_left (IsPlaceOf old) (IsPlaceOf new) (places_above old block) newest left
    (leaves-above old new block sound changed.forgets changed.others) have

-- ---- counting

pub one_more : (entries : List (Option Entry)) (c : ℕ) (e : Entry) → c < length entries → get_or entries c None ≡ None
    → count_by is_some (set entries c (Some e)) ≡ count_by is_some entries + 1
one_more entries c e l none =
    omega (arith, sum_by-set counts entries c (Some e) None l, ap counts none)
  where
    counts : Option Entry → ℕ
    counts x = cond (is_some x) 1 0

pub counted_more : (a p m d : ℕ) → (a + p) % 2 ^ 64 ≡ (m + d) % 2 ^ 64 → (a + (p + 1) % 2 ^ 64) % 2 ^ 64 ≡ (m + 1 + d) % 2 ^ 64
counted_more a p m d e =
    add-mod-mod a (p + 1) (2 ^ 64)
    ∙ ap (λ (n : ℕ). n % 2 ^ 64) first
    ∙ next (a + p) ∙ ap (λ (n : ℕ). suc n % 2 ^ 64) e ∙ sym (next (m + d))
    ∙ ap (λ (n : ℕ). n % 2 ^ 64) second
  where
    first : a + (p + 1) ≡ suc (a + p)
    first = omega arith

    second : suc (m + d) ≡ m + 1 + d
    second = omega arith

    next : (n : ℕ) → suc n % 2 ^ 64 ≡ suc (n % 2 ^ 64) % 2 ^ 64
    next n = suc-mod n (2 ^ 64)

-- ---- the index

some_cache : (x y : Option CBlock) → (let a : Option (Option CBlock) = Some x in a) ≡ Some y → x ≡ y
some_cache x y e = cc

one_cache : (c k : CBlock) → (let a : Option CBlock = Some c in a) ≡ Some k → c ≡ k
one_cache c k e = cc

none_cache : (c : CBlock) → (let a : Option CBlock = Some c in a) ≡ None → ⊥
none_cache c e = cc

-- what stands where a place was set
pub set_there : (cached : List (Option CBlock)) (b : ℕ) (x : Option CBlock) → b < length cached → slice_get (set cached b x) b ≡ Some x
set_there cached b x l = slice_get-get_or (set cached b x) b None (omega (arith, l, length-set cached b x))
    ∙ ap (λ (y : Option CBlock). Some y) (get_or-set_same cached b x None l)

none_mapped : (b : ℕ) → (let x : Option (Option ℕ) = Some None in x) ≡ Some (Some b) → ⊥
none_mapped b e = cc

pub index_mapped : (n : ℕ) (m : Holdings) (cached : List (Option CBlock)) (b : ℕ) (c : CBlock) → IsIndex n m cached → b < n → slice_get m c.0 ≡ Some None
    → IsIndex n (set m c.0 (Some b)) (set cached b (Some c))
index_mapped n m cached b c i l vacant = record {
  size = length-set cached b (Some c) ∙ i.size;
  found = λ x k e. elim (cases_eq x b) [
    | inl same ↦
        let is = one_cache c k (some_cache (Some c) (Some k) (sym there ∙ ap (λ (y : ℕ). slice_get (set cached b (Some c)) y) (sym same) ∙ e)) in
        subst (λ (y : ℕ). IsMappedAt (set m c.0 (Some b)) y k.0) (sym same)
        (subst (λ (y : CBlock). IsMappedAt (set m c.0 (Some b)) b y.0) is (slice_get-set m c.0 None (Some b) vacant))
    | inr other ↦
        let at = i.found x k (sym (slice_get-set_other cached b x (Some c) other) ∙ e) in
        mapped_elsewhere m x c.0 k.0 (Some b) (λ same. none_mapped x (sym vacant ∙ ap (λ (y : ℕ). slice_get m y) (sym same) ∙ at)) at
  ];
  missing = λ x e. elim (cases_eq x b) [
    | inl same ↦ absurd (none_cache c (some_cache (Some c) None (sym there ∙ ap (λ (y : ℕ). slice_get (set cached b (Some c)) y) (sym same) ∙ e)))
    | inr other ↦ unmapped_after m b c.0 x vacant (λ same. other (sym same)) (i.missing x (sym (slice_get-set_other cached b x (Some c) other) ∙ e))
  ];
}
  where
    there : slice_get (set cached b (Some c)) b ≡ Some (Some c)
    there = set_there cached b (Some c) (omega (arith, l, i.size))

module _ {P : Type 0} (knows : P → Holdings → Type 0) where
  -- what is known where a block may be mapped
  pub record Entrance (d : DeskState P) (b : OBlock) (c : CBlock) : Type 0 where
    pub inside : c.0 < d.geometry.cache_blocks
    pub none : get_or d.tree.entries c.0 None ≡ None
    pub vacant : slice_get (holdings d) c.0 ≡ Some None
    pub unmapped : IsUnmapped (holdings d) b.0
    pub live : LiveOrder
    pub there : order_at d.orders.slots c.0 ≡ Some live
    pub named : IsNamed live.order b.0

  pub entrance : (d : DeskState P) (b : OBlock) (c : CBlock) → DeskInvariant knows d → MayMap d b c → Entrance d b c
  entrance d b c i may =
      let l : c.0 < d.geometry.cache_blocks = omega (arith, within_of d.orders.slots c.0 may.live may.there, i.slots) in
      let r = i.each c.0 l in
      let reserved : state d.space.blocks c.0 ≡ Reserved = get_or_from_slice_get d.space.blocks c.0 Reserved Free may.reserved in
      let none : get_or d.tree.entries c.0 None ≡ None = no_entry_there (get_or d.tree.entries c.0 None) (sym (ap is_mapped reserved) ∙ r.filled) in
      let names = subst (λ (s : Option LiveOrder). NamesWhatIs (holdings d) (state d.space.blocks c.0) c.0 s) may.there r.stands in
      let block = brought (holdings d) (state d.space.blocks c.0) c.0 b may.live.order may.brings names in
      record {
        inside = l;
        none = none;
        vacant = vacant_origin d.tree.entries c.0 (omega (arith, l, i.mapping.size)) none;
        unmapped = block.0;
        live = may.live;
        there = may.there;
        named = block.1;
      }

  -- the block that an order names is one of the origin's
  pub named_inside : (d : DeskState P) (c b : ℕ) (o : LiveOrder) → DeskInvariant knows d → AreOrders d.orders → order_at d.orders.slots c ≡ Some o → IsNamed o.order b → b < d.geometry.origin_blocks
  named_inside d c b o i orders there named = omega (arith, busy_inside d.orders.busy b (orders.marks c b o there named), i.busy)

  -- and so those of the one that waits longest
  abbrev pub AreInside : DeskState P → Order → Type 0
  AreInside d order = ((first_of order).0 < d.geometry.origin_blocks) × ((second_of order).0 < d.geometry.origin_blocks)

  pub next_inside : (d : DeskState P) → DeskInvariant knows d → AreOrders d.orders → IfSome (option_map (λ o. o.order) (next_of d.orders.slots d.orders.waiting)) (AreInside d)
  next_inside d i orders = by_queue d.orders.waiting
    where
      at : (c : ℕ) (o : Option LiveOrder) → order_at d.orders.slots c ≡ o → IfSome (option_map (λ o. o.order) o) (AreInside d)
      at c None is = tt
      at c (Some live) is = (named_inside d c (first_of live.order).0 live i orders is (inl refl), named_inside d c (second_of live.order).0 live i orders is (inr refl))

      by_queue : (waiting : List CBlock) → IfSome (option_map (λ o. o.order) (next_of d.orders.slots waiting)) (AreInside d)
      by_queue [] = tt
      by_queue (c ∷ cs) = at c.0 (order_at d.orders.slots c.0) refl

  pub count_after : (d : DeskState P) (b : OBlock) (c : CBlock) (tree : Mapping) → DeskInvariant knows d → MayMap d b c → IsChangedAt d.tree tree c.0 (Some (entry_of b))
      → count_by is_some tree.entries ≡ mapped_now d + 1
  count_after d b c tree i may changed =
      let way = entrance d b c i may in
      ap (λ (x : List (Option Entry)). count_by is_some x) changed.entries
      ∙ one_more d.tree.entries c.0 (entry_of b) (omega (arith, way.inside, i.mapping.size)) way.none

  pub mapped_kept : (d : DeskState P) (b : OBlock) (c : CBlock) (tree : Mapping) (policy : P) → DeskInvariant knows d → AreOrders d.orders → MayMap d b c
      → IsChangedAt d.tree tree c.0 (Some (entry_of b)) → knows policy (origins tree.entries) → DeskInvariant knows (mapped d c tree policy)
  mapped_kept d b c tree policy i orders may changed known = record {
    mapping = subst (λ (x : List (Option Entry)). IsMapping d.geometry.cache_blocks d.geometry.origin_blocks x) (sym changed.entries)
        (set-mapping d.geometry.cache_blocks d.geometry.origin_blocks c.0 d.tree.entries (entry_of b) i.mapping (record {
          origin = named_inside d c.0 b.0 way.live i orders way.there way.named;
          hint = omega arith;
          alone = λ other same is one. absurd (way.unmapped other (mapped_there d.tree.entries other same is ∙ ap (λ (x : OBlock). Some (Some x.0)) one));
        }));
    keeps = set_keeps d.geometry.version d.tree tree c.0 (Some (entry_of b)) (clean_kept d.geometry.version (entry_of b) refl) changed.entries i.keeps;
    blocks = length-set d.space.blocks c.0 Mapped ∙ i.blocks;
    slots = length-set d.orders.slots c.0 None ∙ i.slots;
    busy = length_unmarked (order_at d.orders.slots c.0) d.orders.busy ∙ i.busy;
    places = places_edited d.geometry d.tree tree d.space.places d.space.committing d.nodes d.coming changed.edited i.places;
    next = i.next;
    each = subst (λ (x : List (Option Entry)). Each (origins x) x (set d.space.blocks c.0 Mapped) (set d.orders.slots c.0 None) d.geometry.cache_blocks) (sym changed.entries)
        (one_entry_changes (holdings d) (origins (set d.tree.entries c.0 (Some (entry_of b)))) d.tree.entries d.space.blocks d.orders.slots d.geometry.cache_blocks c.0 (Some (entry_of b)) Mapped None
        i.mapping.size i.blocks i.slots i.each others
        (λ l. record { filled = refl; held = λ h. h; stands = tt }));
    counted = subst (λ (n : ℕ). (d.at_opening + (d.promotions + 1) % 2 ^ 64) % 2 ^ 64 ≡ (n + d.demotions) % 2 ^ 64) (sym (count_after d b c tree i may changed))
        (counted_more d.at_opening d.promotions (mapped_now d) d.demotions i.counted);
    numbered = i.numbered;
    known = known;
  }
    where
      way : Entrance d b c
      way = entrance d b c i may

      others : (k : ℕ) (o : LiveOrder) → k ≢ c.0 → order_at d.orders.slots k ≡ Some o → Names (holdings d) (state d.space.blocks k) k o.order
          → Names (origins (set d.tree.entries c.0 (Some (entry_of b)))) (state d.space.blocks k) k o.order
      others k o other is names = subst (λ (m : Holdings). Names m (state d.space.blocks k) k o.order) (sym (set_origin d.tree.entries c.0 (Some (entry_of b))))
          (names_after (holdings d) b.0 c.0 k (state d.space.blocks k) o.order way.vacant other
          (λ named. other (orders.apart k c.0 b.0 o way.live is way.there named way.named)) names)

  pub mapped_parts : (d : DeskState P) (b : OBlock) (c : CBlock) (tree : Mapping) (policy : P) (cached : List (Option CBlock)) (left : List Bool) (count : ℕ) → AreParts knows d cached left count → AreOrders d.orders → MayMap d b c
      → IsChangedAt d.tree tree c.0 (Some (entry_of b)) → knows policy (origins tree.entries) → AreParts knows (mapped d c tree policy) (set cached b.0 (Some c)) (noted_known (places_above d.tree c.0) left) (count + 1)
  mapped_parts d b c tree policy cached left count p orders may changed known =
      let way = entrance d b c p.desk may in
      record {
        desk = mapped_kept d b c tree policy p.desk orders may changed known;
        sound = changed.sound;
        have_left = left_above d.tree tree (newest_places d.space) left c.0 (Some (entry_of b)) p.sound changed p.have_left;
        index = subst (λ (m : Holdings). IsIndex d.geometry.origin_blocks m (set cached b.0 (Some c)))
            (sym (ap origins changed.entries ∙ set_origin d.tree.entries c.0 (Some (entry_of b))))
            (index_mapped d.geometry.origin_blocks (holdings d) cached b.0 c p.index (named_inside d c.0 b.0 way.live p.desk orders way.there way.named) way.vacant);
        count = ap (λ (n : ℕ). n + 1) p.count ∙ sym (count_after d b c tree p.desk may changed);
      }

  pub mapped_inside : (d : DeskState P) (b : OBlock) (c : CBlock) (cached : List (Option CBlock)) (left : List Bool) (count : ℕ) → AreParts knows d cached left count → AreOrders d.orders → MayMap d b c → b.0 < length cached
  mapped_inside d b c cached left count p orders may =
      let way = entrance d b c p.desk may in
      omega (arith, named_inside d c.0 b.0 way.live p.desk orders way.there way.named, p.index.size)
