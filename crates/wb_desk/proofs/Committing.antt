-- What holds of every desk holds after a commit has begun, and after it has ended.
use Rattle.std.proofs.Common.{◌≡◌, ◌<◌, ◌≤◌, ◌^◌, ◌⊎◌, ◌++◌, ℕ, Bool, true, false, if◌then◌else◌, List, [], ◌∷◌, Vec, Option, Some, None, length, map, get_or, is_some, inl, inr, ◌+◌, ◌%◌, refl, sym, ap, subst, ◌∙◌, arith}
use Rattle.std.specs.Prelude.{All, Contains}
use Rattle.std.specs.Global.{Global}
use Rattle.std.specs.Option.{IfNone, IfSome, option_map}
use Rattle.std.proofs.lemmas.Bool.{cases_lt, false≢true}
use Rattle.std.proofs.lemmas.List.{append-nil, get_or_past, length-append, length-map, length-replicate}
use Rattle.std.proofs.lemmas.List.Elements.{All-contains, All-map, All-weaker, Contains-append_cases, Contains-append_left}
use Rattle.std.proofs.Math.ListN.{get_or-map}
use Rattle.wb_types.specs.Limits.{dirty_nodes, node_count}
use Rattle.wb_types.specs.declared.entry.Entry.{Entry}
use Rattle.wb_types.specs.declared.geometry.Geometry.{Geometry}
use Rattle.wb_types.specs.declared.number.CBlock.{CBlock}
use Rattle.wb_types.specs.declared.number.Place.{Place}
use Rattle.wb_types.specs.declared.version.Version.{Version}
use Rattle.wb_format.specs.declared.node.Node.{Node}
use Rattle.wb_tree.specs.Mapping.{Mapping, IsMapping, IsPlaceOf, IsSound, AreInside, place_of, used_places}
use Rattle.wb_tree.specs.Edits.{IsEdited}
use Rattle.wb_tree.specs.Images.{AreFree, ImagePlan, IsImage}
use Rattle.wb_tree.specs.declared.image.Image.{Image}
use Rattle.wb_policy.specs.declared.order.Order.{Order}
use Rattle.wb_policy.specs.declared.order.Order.TheVariants.{Promote, Replace, Demote, Clean}
use Rattle.wb_policy.specs.Law.{Holdings, origins}
use Rattle.wb_space.specs.declared.block.Block.{Block}
use Rattle.wb_space.specs.declared.block.Block.TheVariants.{Free, Mapped, Reserved, Quarantined}
use Rattle.wb_space.specs.Blocks.{state, IsClaimed, commit_begun as block_begun, commit_ended as block_ended}
use Rattle.wb_space.specs.Spaces.{Spaces}
use Rattle.wb_space.specs.Places.{HaveLeft, noted, place, unused, place_count, without}
use Rattle.wb_space.proofs.Noted.{flagged, length-noted_alone, noted_or}
use Rattle.wb_space.proofs.Changing.{changed_places}
use Rattle.wb_space.proofs.Differing.{get_or-unused}
use Rattle.wb_orders.specs.declared.live_order.LiveOrder.{LiveOrder}
use Rattle.wb_orders.specs.Orders.{order_at}
use Rattle.wb_tree.proofs.Stored.Edited.{places-edited}
use Rattle.wb_meta.specs.CleanImages.{IsImageOf, places_of_bits}
use Rattle.wb_meta.specs.Imaging.{AreUnusedFor}
use Rattle.wb_meta.specs.Laws.{ImageHasPlaces}
use Rattle.wb_meta.proofs.Round.{free_of_unused}
use Rattle.wb_meta.proofs.BitsPlaces.{alone_places}
use Rattle.wb_desk.specs.InUse.{AreFlagged, places_for, places_wanted}
use Rattle.wb_desk.specs.Desks.{DeskState, DeskInvariant, IsRight, NamesWhatIs, Names, holdings, is_mapped}
use Rattle.wb_desk.specs.Fields.{IsIndex, AreParts, newest_places}
use Rattle.wb_desk.specs.Marks.{OfImaged, bits_beside}
use Rattle.wb_desk.proofs.Marking.{by_imaged, of_imaged, same_some, same_count}
use Rattle.wb_desk.proofs.Beside.{ImageFacts, alone_as, few_image, has_behind, image_facts, image_shows}
use Rattle.wb_desk.proofs.Keeping.{keeps_entries, keeps_tree}
use Rattle.wb_desk.specs.Commits.{HasBegun, MayBegin, IsOnUnused, beside, next_plan, places_with, space_begun, commit_begun, commit_ended}
use Rattle.wb_desk.proofs.Acts.{kept_begun, kept_ended}
use Rattle.wb_desk.proofs.FreePlaces.{many_places, places_length, unused_changed}

-- ---- blocks

-- a change of all cache blocks that leaves which are mapped, free, reserved and claimed, but frees what is not claimed
record LeavesOrders (change : Block → Block) : Type 0 where
  mapped : (b : Block) → is_mapped (change b) ≡ is_mapped b
  unclaimed : (b : Block) → IsClaimed (change b) → IsClaimed b
  claimed : (b : Block) → IsClaimed b → IsClaimed (change b)
  free : change Free ≡ Free
  reserved : change Reserved ≡ Reserved

begins : LeavesOrders block_begun
begins = record {
  mapped = mapped;
  unclaimed = kept_begun;
  claimed = claimed;
  free = refl;
  reserved = refl;
}
  where
    mapped : (b : Block) → is_mapped (block_begun b) ≡ is_mapped b
    mapped Free = refl
    mapped Mapped = refl
    mapped Reserved = refl
    mapped (Quarantined claimed early) = refl

    claimed : (b : Block) → IsClaimed b → IsClaimed (block_begun b)
    claimed Free h = h
    claimed Mapped h = h
    claimed Reserved h = h
    claimed (Quarantined true early) h = h
    claimed (Quarantined false early) h = h

ends : LeavesOrders block_ended
ends = record {
  mapped = mapped;
  unclaimed = kept_ended;
  claimed = claimed;
  free = refl;
  reserved = refl;
}
  where
    mapped : (b : Block) → is_mapped (block_ended b) ≡ is_mapped b
    mapped Free = refl
    mapped Mapped = refl
    mapped Reserved = refl
    mapped (Quarantined true true) = refl
    mapped (Quarantined false true) = refl
    mapped (Quarantined claimed false) = refl

    claimed : (b : Block) → IsClaimed b → IsClaimed (block_ended b)
    claimed Free h = h
    claimed Mapped h = h
    claimed Reserved h = h
    claimed (Quarantined true true) h = tt
    claimed (Quarantined true false) h = h
    claimed (Quarantined false true) h = absurd h
    claimed (Quarantined false false) h = h

names_left : (change : Block → Block) → LeavesOrders change → (mapping : Holdings) (block : Block) (c : ℕ) (order : Order) → Names mapping block c order → Names mapping (change block) c order
names_left change leaves mapping block c (Promote b k) n = (n.0, ap change n.1 ∙ leaves.reserved, n.2)
names_left change leaves mapping block c (Replace v b k) n = (
  n.0,
  n.1,
  elim n.2 [
    | inl at ↦ inl at
    | inr gone ↦ inr (gone.0, leaves.claimed block gone.1)
  ],
)
names_left change leaves mapping block c (Demote b) n = n
names_left change leaves mapping block c (Clean b) n = n

stands_left : (change : Block → Block) → LeavesOrders change → (mapping : Holdings) (block : Block) (c : ℕ) (slot : Option LiveOrder) → NamesWhatIs mapping block c slot → NamesWhatIs mapping (change block) c slot
stands_left change leaves mapping block c None n = tt
stands_left change leaves mapping block c (Some o) n = names_left change leaves mapping block c o.order n

right_left : (change : Block → Block) → LeavesOrders change → (mapping : Holdings) (c : ℕ) (entry : Option Entry) (block : Block) (slot : Option LiveOrder)
    → IsRight mapping c entry block slot → IsRight mapping c entry (change block) slot
right_left change leaves mapping c entry block slot right = record {
  filled = leaves.mapped block ∙ right.filled;
  held = λ h. right.held (leaves.unclaimed block h);
  stands = stands_left change leaves mapping block c slot right.stands;
}

state_left : (change : Block → Block) → LeavesOrders change → (blocks : List Block) (c : ℕ) → state (map change blocks) c ≡ change (state blocks c)
state_left change leaves blocks c = ap (λ (b : Block). get_or (map change blocks) c b) (sym leaves.free) ∙ get_or-map change blocks c Free

each_left : (change : Block → Block) → LeavesOrders change → (mapping : Holdings) (entries : List (Option Entry)) (blocks : List Block) (slots : List (Option LiveOrder)) (n : ℕ)
    → ((c : ℕ) → c < n → IsRight mapping c (get_or entries c None) (state blocks c) (order_at slots c))
    → (c : ℕ) → c < n → IsRight mapping c (get_or entries c None) (state (map change blocks) c) (order_at slots c)
each_left change leaves mapping entries blocks slots n each c l =
    subst (λ (b : Block). IsRight mapping c (get_or entries c None) b (order_at slots c)) (sym (state_left change leaves blocks c))
    (right_left change leaves mapping c (get_or entries c None) (state blocks c) (order_at slots c) (each c l))

-- whose entry was marked
right_marked : (old new : Holdings) (c : ℕ) (entry now : Option Entry) (block : Block) (slot : Option LiveOrder) → new ≡ old → is_some now ≡ is_some entry
    → IsRight old c entry block slot → IsRight new c now block slot
right_marked old new c entry now block slot same some right = record {
  filled = right.filled ∙ sym some;
  held = right.held;
  stands = subst (λ (m : Holdings). NamesWhatIs m block c slot) (sym same) right.stands;
}

none_used : (used : List Place) → length used ≡ 0 → used ≡ []
none_used [] e = refl
none_used (p ∷ ps) e = absurd (omega arith)

-- so many places are kept track of
pub length_flags : (geometry : Geometry) (nodes : ℕ) (flags : List Bool) → AreFlagged geometry nodes flags → length flags ≡ place_count geometry
length_flags geometry nodes flags f = ap (λ (xs : List Bool). length xs) f.are ∙ length-noted_alone f.used (place_count geometry)

pub still_some : {A B : Type 0} (f : A → B) (o : Option A) → is_some o ≡ is_some (option_map f o)
still_some f None = refl
still_some f (Some x) = refl

-- where no commit runs, places of the committed image may have left
pub left_size : (tree : Mapping) (space : Spaces) (left : List Bool) → space.committing ≡ false → HaveLeft (IsPlaceOf tree) (newest_places space) left → length left ≡ length space.places.committed
left_size tree space left idle have = (subst (λ (b : Bool). HaveLeft (IsPlaceOf tree) (if b then space.places.running else space.places.committed) left) idle have).size

-- of the places of an image those of its bits leave with the next one
bits_left : (Stands : Place → Type 0) (used bits : List Place) (count : ℕ) → ((p : Place) → Contains used p → Stands p) → ((p : Place) → Stands p → Contains bits p → ⊥)
    → HaveLeft Stands (noted (used ++ bits) (unused count)) (noted bits (unused count))
bits_left Stands used bits count are apart = record {
  size = length-noted_alone bits count ∙ sym (length-noted_alone (used ++ bits) count);
  stands = λ p is. elim (true_or_false (get_or (noted bits (unused count)) p.0 false)) [
    | inl t ↦ elim (noted_or bits (unused count) p.0 t) [
      | inl has ↦ absurd (apart p is has)
      | inr was ↦ absurd (false≢true (sym (get_or-unused count p.0) ∙ was))
    ]
    | inr f ↦ f
  ];
  rest = λ k there none. elim (noted_or (used ++ bits) (unused count) k there) [
    | inl has ↦ elim (Contains-append_cases used bits (place k) has) [
      | inl in_tree ↦ are (place k) in_tree
      | inr in_bits ↦ absurd (false≢true (sym none ∙ flagged bits (unused count) (place k) in_bits
          (omega (arith, within k there, length-noted_alone (used ++ bits) count, length-replicate {A = Bool} count false))))
    ]
    | inr was ↦ absurd (false≢true (sym (get_or-unused count k) ∙ was))
  ];
}
  where
    true_or_false : (b : Bool) → (b ≡ true) ⊎ (b ≡ false)
    true_or_false true = inl refl
    true_or_false false = inr refl

    within : (k : ℕ) → get_or (noted (used ++ bits) (unused count)) k false ≡ true → k < length (noted (used ++ bits) (unused count))
    within k there = elim (cases_lt k (length (noted (used ++ bits) (unused count)))) [
      | inl l ↦ l
      | inr past ↦ absurd (false≢true (sym (get_or_past (noted (used ++ bits) (unused count)) k false past) ∙ there))
    ]

-- ---- desks

module _ {P : Type 0} (knows : P → Holdings → Type 0) where
  -- the running image uses no place where no commit runs
  idle_flags : (d : DeskState P) → DeskInvariant knows d → d.space.committing ≡ false → d.space.places.running ≡ unused (place_count d.geometry)
  idle_flags d i idle = i.places.running.are ∙ ap (λ (ps : List Place). noted ps (unused (place_count d.geometry)))
      (none_used i.places.running.used (i.places.running.many ∙ i.places.idle idle))

  unused_for : (d : DeskState P) (m : Mapping) (clean : Bool) (used : List Place) → DeskInvariant knows d → d.space.committing ≡ false → (clean ≡ true → d.nodes ≤ node_count d.geometry.cache_blocks)
      → length m.entries ≡ d.geometry.cache_blocks → d.space.places.committed ≡ noted used (unused (place_count d.geometry)) → AreUnusedFor m d.geometry used (places_for m d.geometry clean d.space.places)
  unused_for d m clean used i idle few size are = unused_changed m d.geometry clean d.space.places d.nodes used size i.places.committed (idle_flags d i idle) i.places.room few are

  -- the places that the next image is planned with are free for it, whatever edits left of the tree
  pub free_for : (d : DeskState P) (clean : Bool) → DeskInvariant knows d → d.space.committing ≡ false → (clean ≡ true → d.nodes ≤ node_count d.geometry.cache_blocks)
      → (m : Mapping) → IsEdited d.tree m → length m.entries ≡ d.geometry.cache_blocks → AreFree m d.geometry (places_for m d.geometry clean d.space.places)
  free_for d clean i idle few m edited size = free_of_unused m d.geometry i.places.committed.used (places_for m d.geometry clean d.space.places)
      (λ p is. subst (λ (b : Bool). Contains (if b then i.places.running.used else i.places.committed.used) p) idle (i.places.known p (places-edited d.tree m p edited is)))
      (unused_for d m clean i.places.committed.used i idle few size i.places.committed.are)

  -- and they are enough
  pub enough_for : (d : DeskState P) (clean : Bool) → DeskInvariant knows d → d.space.committing ≡ false → (clean ≡ true → d.nodes ≤ node_count d.geometry.cache_blocks)
      → (m : Mapping) → length m.entries ≡ d.geometry.cache_blocks → places_wanted m d.geometry clean ≤ length (places_for m d.geometry clean d.space.places)
  enough_for d clean i idle few m size = omega (
    arith,
    places_length m d.geometry clean d.space.places (many_places m d.geometry clean d.space.places d.nodes size i.places.committed (idle_flags d i idle) few),
  )

  -- the image that was planned with the next generation
  image_for : (d : DeskState P) (hint : ℕ → ℕ) (clean : Option (List Bool)) (flag : Bool) (tree : Mapping) (generation : ℕ) (image : Image) → generation ≡ d.generation + 1
      → OfImaged d.geometry.version hint clean d.tree
      (λ m. IsImageOf (beside d clean) m tree (record { geometry = d.geometry; generation = generation; clean = flag; free = places_for m d.geometry flag d.space.places }) image)
      → OfImaged d.geometry.version hint clean d.tree (λ m. IsImageOf (beside d clean) m tree (next_plan d m flag) image)
  image_for d hint clean flag tree generation image next is = of_imaged d.geometry.version hint clean d.tree _ _
      (λ m is. subst (λ (n : ℕ). IsImageOf (beside d clean) m tree (record { geometry = d.geometry; generation = n; clean = flag; free = places_for m d.geometry flag d.space.places }) image) next is) is

  facts_for : (d : DeskState P) (hint : ℕ → ℕ) (clean : Option (List Bool)) (tree : Mapping) (image : Image) → DeskInvariant knows d → d.space.committing ≡ false
      → (is_some clean ≡ true → d.nodes ≤ node_count d.geometry.cache_blocks)
      → OfImaged d.geometry.version hint clean d.tree (λ m. IsImageOf (beside d clean) m tree (next_plan d m (is_some clean)) image)
      → ImageFacts d.geometry.version d.tree tree d.geometry.cache_blocks image
  facts_for d hint clean tree image i idle few is = image_facts d.geometry.version hint clean d.tree tree d.geometry.cache_blocks (λ m. next_plan d m (is_some clean)) image (λ m. refl)
      (free_for d (is_some clean) i idle few) i.mapping.size is

  on_unused : (d : DeskState P) (hint : ℕ → ℕ) (clean : Option (List Bool)) (tree : Mapping) (image : Image) → DeskInvariant knows d → d.space.committing ≡ false
      → (is_some clean ≡ true → d.nodes ≤ node_count d.geometry.cache_blocks) → ImageFacts d.geometry.version d.tree tree d.geometry.cache_blocks image
      → OfImaged d.geometry.version hint clean d.tree (λ m. IsImageOf (beside d clean) m tree (next_plan d m (is_some clean)) image) → IsMapping d.geometry.cache_blocks d.geometry.origin_blocks tree.entries
      → IsSound tree → AreInside d.geometry.meta_sectors tree → OfImaged d.geometry.version hint clean d.tree (λ m. IsOnUnused d (beside d clean) m tree (is_some clean) image)
  on_unused d hint clean tree image i idle few facts is mapping sound inside = of_imaged d.geometry.version hint clean d.tree _ _ (λ m is used are.
      let h = has_behind (beside d clean) m tree (next_plan d m (is_some clean)) image is in
      let kept : IsMapping d.geometry.cache_blocks d.geometry.origin_blocks m.entries = subst (λ (xs : List (Option Entry)). IsMapping d.geometry.cache_blocks d.geometry.origin_blocks xs) h.is.same_entries mapping in
      record {
        mapping = kept;
        free_are = unused_for d m (is_some clean) used i idle few kept.size are;
        image_is = is;
        sound = sound;
        inside = inside;
        keeps = keeps_tree d.geometry.version tree (facts.keeps (keeps_entries d.geometry.version d.tree i.keeps));
      }) is

  -- The image that was planned is that of a commit that begins.
  has_begun_so : (d : DeskState P) (hint_of : P → ℕ → ℕ) (clean : Option (List Bool)) (tree : Mapping) (image : Image) → DeskInvariant knows d → MayBegin d
      → (is_some clean ≡ true → d.nodes ≤ node_count d.geometry.cache_blocks) → ImageHasPlaces
      → OfImaged d.geometry.version (hint_of d.policy) clean d.tree (λ m. IsImageOf (beside d clean) m tree (next_plan d m (is_some clean)) image)
      → IsMapping d.geometry.cache_blocks d.geometry.origin_blocks tree.entries → IsSound tree → AreInside d.geometry.meta_sectors tree → HasBegun hint_of clean d image (commit_begun d tree image)
  has_begun_so d hint_of clean tree image i may few have_places is mapping sound inside = record {
    may = may;
    state = refl;
    image_is = is;
    unused = on_unused d (hint_of d.policy) clean tree image i may.idle few (facts_for d (hint_of d.policy) clean tree image i may.idle few is) is mapping sound inside;
    shown = image_shows d.geometry.version (hint_of d.policy) clean d.tree tree (λ m. next_plan d m (is_some clean)) image is;
    few = by_imaged d.geometry.version (hint_of d.policy) clean d.tree d.geometry.cache_blocks _ _
        (λ m edited size is. few_image d.geometry.version clean d.tree.entries m tree (next_plan d m (is_some clean)) image is size) i.mapping.size is;
    places = by_imaged d.geometry.version (hint_of d.policy) clean d.tree d.geometry.cache_blocks _ _
        (λ m edited size is. have_places (beside d clean) m tree (next_plan d m (is_some clean)) image (free_for d (is_some clean) i may.idle few m edited size) is) i.mapping.size is;
  }

  planned_so : {Bits : Type 0} (of : Bits → List Bool) (d : DeskState P) (hint : ℕ → ℕ) (clean : Option Bits) (tree : Mapping) (generation : ℕ) (image : Image) → generation ≡ d.generation + 1
      → OfImaged d.geometry.version hint (option_map of clean) d.tree
      (λ m. IsImageOf (bits_beside d.geometry.version (option_map of clean) d.tree.entries) m tree
      (record { geometry = d.geometry; generation = generation; clean = is_some clean; free = places_for m d.geometry (is_some clean) d.space.places }) image)
      → OfImaged d.geometry.version hint (option_map of clean) d.tree (λ m. IsImageOf (beside d (option_map of clean)) m tree (next_plan d m (is_some (option_map of clean))) image)
  planned_so of d hint clean tree generation image next planned = image_for d hint (option_map of clean) (is_some (option_map of clean)) tree generation image next
      (subst (λ (flag : Bool). OfImaged d.geometry.version hint (option_map of clean) d.tree
      (λ m. IsImageOf (beside d (option_map of clean)) m tree (record { geometry = d.geometry; generation = generation; clean = flag; free = places_for m d.geometry flag d.space.places }) image)) (still_some of clean) planned)

  pub has_begun : {Bits : Type 0} (of : Bits → List Bool) (d : DeskState P) (hint_of : P → ℕ → ℕ) (clean : Option Bits) (tree : Mapping) (generation : ℕ) (image : Image) → DeskInvariant knows d → MayBegin d
      → generation ≡ d.generation + 1 → (is_some clean ≡ true → d.nodes ≤ node_count d.geometry.cache_blocks) → ImageHasPlaces
      → OfImaged d.geometry.version (hint_of d.policy) (option_map of clean) d.tree
      (λ m. IsImageOf (bits_beside d.geometry.version (option_map of clean) d.tree.entries) m tree
      (record { geometry = d.geometry; generation = generation; clean = is_some clean; free = places_for m d.geometry (is_some clean) d.space.places }) image)
      → IsMapping d.geometry.cache_blocks d.geometry.origin_blocks tree.entries → IsSound tree → AreInside d.geometry.meta_sectors tree
      → HasBegun hint_of (option_map of clean) d image (commit_begun d tree image)
  has_begun of d hint_of clean tree generation image i may next few have_places planned mapping sound inside =
      has_begun_so d hint_of (option_map of clean) tree image i may (λ some. few (still_some of clean ∙ some)) have_places (planned_so of d (hint_of d.policy) clean tree generation image next planned) mapping sound inside

  pub facts_begun : {Bits : Type 0} (of : Bits → List Bool) (d : DeskState P) (hint : ℕ → ℕ) (clean : Option Bits) (tree : Mapping) (generation : ℕ) (image : Image) → DeskInvariant knows d → d.space.committing ≡ false
      → generation ≡ d.generation + 1 → (is_some clean ≡ true → d.nodes ≤ node_count d.geometry.cache_blocks)
      → OfImaged d.geometry.version hint (option_map of clean) d.tree
      (λ m. IsImageOf (bits_beside d.geometry.version (option_map of clean) d.tree.entries) m tree
      (record { geometry = d.geometry; generation = generation; clean = is_some clean; free = places_for m d.geometry (is_some clean) d.space.places }) image)
      → ImageFacts d.geometry.version d.tree tree d.geometry.cache_blocks image
  facts_begun of d hint clean tree generation image i idle next few planned =
      facts_for d hint (option_map of clean) tree image i idle (λ some. few (still_some of clean ∙ some)) (planned_so of d hint clean tree generation image next planned)

  -- and so it is said of what the call found and made
  pub begun_as : (hint_of : P → ℕ → ℕ) (clean : Option (List Bool)) (d old new : DeskState P) (image : Image) (tree : Mapping) → d ≡ old → new ≡ commit_begun d tree image → HasBegun hint_of clean d image (commit_begun d tree image)
      → HasBegun hint_of clean old image new
  begun_as hint_of clean d old new image tree same is begun =
      subst (λ (x : DeskState P). HasBegun hint_of clean x image new) same (subst (λ (x : DeskState P). HasBegun hint_of clean d image x) (sym is) begun)

  -- so many places an image uses
  places_few : (version : Version) (old tree : Mapping) (n : ℕ) (image : Image) → ImageFacts version old tree n image → length (places_with tree image) ≤ node_count n + dirty_nodes version n
  places_few version old tree n image is = omega (arith, is.used.few, is.few, length-append (used_places tree) (places_of_bits image))

  pub begun_kept : (d : DeskState P) (tree : Mapping) (image : Image) → DeskInvariant knows d → MayBegin d → ImageFacts d.geometry.version d.tree tree d.geometry.cache_blocks image
      → IsMapping d.geometry.cache_blocks d.geometry.origin_blocks tree.entries → AreInside d.geometry.meta_sectors tree → DeskInvariant knows (commit_begun d tree image)
  begun_kept d tree image i may is mapping inside = record {
    mapping = mapping;
    keeps = keeps_tree d.geometry.version tree (is.keeps (keeps_entries d.geometry.version d.tree i.keeps));
    blocks = length-map d.space.blocks block_begun ∙ i.blocks;
    slots = i.slots;
    busy = i.busy;
    places = record {
      room = i.places.room;
      inside = inside;
      committed = i.places.committed;
      running = record { used = places_with tree image; are = refl; many = refl; few = places_few d.geometry.version d.tree tree d.geometry.cache_blocks image is };
      known = λ p at. Contains-append_left (used_places tree) (places_of_bits image) p ((is.used.are p).1 at);
      idle = λ e. absurd cc;
    };
    next = λ e. may.next;
    each = λ c l. right_marked (origins d.tree.entries) (origins tree.entries) c (get_or d.tree.entries c None) (get_or tree.entries c None) (state (map block_begun d.space.blocks) c) (order_at d.orders.slots c)
        is.origins (same_some tree.entries d.tree.entries c is.origins)
        (each_left block_begun begins (holdings d) d.tree.entries d.space.blocks d.orders.slots d.geometry.cache_blocks i.each c l);
    counted = subst (λ (n : ℕ). (d.at_opening + d.promotions) % 2 ^ 64 ≡ (n + d.demotions) % 2 ^ 64) (sym (same_count tree.entries d.tree.entries is.origins)) i.counted;
    numbered = i.numbered;
    known = subst (λ (m : Holdings). knows d.policy m) (sym is.origins) i.known;
  }

  pub begun_parts : (d : DeskState P) (tree : Mapping) (image : Image) (cached : List (Option CBlock)) (left : List Bool) (mapped : ℕ) → AreParts knows d cached left mapped → MayBegin d
      → ImageFacts d.geometry.version d.tree tree d.geometry.cache_blocks image → IsMapping d.geometry.cache_blocks d.geometry.origin_blocks tree.entries
      → IsSound tree → AreInside d.geometry.meta_sectors tree → AreParts knows (commit_begun d tree image) cached (noted (places_of_bits image) (unused (place_count d.geometry))) mapped
  begun_parts d tree image cached left mapped parts may is mapping sound inside = record {
    desk = begun_kept d tree image parts.desk may is mapping inside;
    sound = sound;
    have_left = bits_left (IsPlaceOf tree) (used_places tree) (places_of_bits image) (place_count d.geometry) (λ p. (is.used.are p).0) is.apart;
    index = subst (λ (m : Holdings). IsIndex d.geometry.origin_blocks m cached) (sym is.origins) parts.index;
    count = parts.count ∙ sym (same_count tree.entries d.tree.entries is.origins);
  }

  -- the running image has the places of the committed one, but those that have left, and those of the nodes that it writes
  pub begun_running : (d : DeskState P) (tree : Mapping) (plan : ImagePlan) (image : Image) (left : List Bool) → DeskInvariant knows d → d.space.committing ≡ false → HaveLeft (IsPlaceOf d.tree) (newest_places d.space) left
      → IsImage d.tree tree plan image
      → noted (map (λ node. node.0) image.nodes.items) (without left d.space.places.committed) ≡ noted (used_places tree) (unused (place_count d.geometry))
  begun_running d tree plan image left i idle have is =
      changed_places (IsPlaceOf d.tree) (IsPlaceOf tree) (map (λ node. node.0) image.nodes.items) (used_places tree) d.space.places.committed left
      (subst (λ (b : Bool). HaveLeft (IsPlaceOf d.tree) (if b then d.space.places.running else d.space.places.committed) left) idle have)
      (λ p at within.
      ap (λ (flags : List Bool). get_or flags p.0 false) i.places.committed.are
      ∙ flagged i.places.committed.used (unused (place_count d.geometry)) p
      (subst (λ (b : Bool). Contains (if b then i.places.running.used else i.places.committed.used) p) idle (i.places.known p at))
      (omega (arith, within, size, length-replicate {A = Bool} (place_count d.geometry) false)))
      is.used.are
      (λ p at. record { level = at.level; index = at.index; known = is.stays at.level at.index p at.known })
      (λ p has. All-contains (IsPlaceOf tree) (map (λ node. node.0) image.nodes.items) p (All-map (IsPlaceOf tree) (λ (node : Place × Node). node.0) image.nodes.items stand) has)
      is.comes
      ∙ ap (λ (count : ℕ). noted (used_places tree) (unused count)) size
    where
      size : length d.space.places.committed ≡ place_count d.geometry
      size = length_flags d.geometry d.nodes d.space.places.committed i.places.committed

      stand : All (λ node. IsPlaceOf tree node.0) image.nodes.items
      stand = All-weaker (λ (node : Place × Node). place_of tree node.1.level node.1.index ≡ Some node.0) (λ (node : Place × Node). IsPlaceOf tree node.0)
          (λ node at. record { level = node.1.level; index = node.1.index; known = at }) image.nodes.items is.stands

  -- What is kept of the places then: those that the running image uses, those that leave with the next one, and how many it uses.
  pub record HaveBegun (d : DeskState P) (tree : Mapping) (image : Image) (new : Spaces) (after : List Bool) (count : ℕ) : Type 0 where
    pub space : new ≡ space_begun d.space (noted (places_with tree image) (unused (place_count d.geometry)))
    pub left : after ≡ noted (places_of_bits image) (unused (place_count d.geometry))
    pub coming : count ≡ length (places_with tree image)

  alone_with : (d : DeskState P) (tree : Mapping) (plan : ImagePlan) (image : Image) → IsImage d.tree tree plan image → places_with tree image ≡ used_places tree
  alone_with d tree plan image is = ap (λ (ps : List Place). used_places tree ++ ps) (alone_places d.tree tree plan image is) ∙ append-nil (used_places tree)

  -- where its places are listed, and where they are not
  pub have_begun : (d : DeskState P) (tree : Mapping) (plan : Mapping → ImagePlan) (image : Image) (left after : List Bool) (hint : ℕ → ℕ) (clean : Option (List Bool)) (used : Option (Vec Place Global)) (new : Spaces) (coming : ℕ)
      → DeskInvariant knows d → d.space.committing ≡ false → HaveLeft (IsPlaceOf d.tree) (newest_places d.space) left
      → OfImaged d.geometry.version hint clean d.tree (λ m. IsImageOf (bits_beside d.geometry.version clean d.tree.entries) m tree (plan m) image)
      → is_some used ≡ is_some clean → IfSome used (λ used. used.items ≡ places_with tree image)
      → IfSome used (λ used. new ≡ space_begun d.space (noted used.items (unused (length d.space.places.running))))
      → IfNone used (new ≡ space_begun d.space (noted (map (λ node. node.0) image.nodes.items) (without left d.space.places.committed)))
      → IfNone used (after ≡ unused (length left)) → IfSome used (λ _. after ≡ noted (places_of_bits image) (unused (length left)))
      → IfSome used (λ used. coming ≡ length used.items) → IfNone used (coming ≡ length tree.known)
      → HaveBegun d tree image new after coming
  have_begun d tree plan image left after hint None None new coming i idle have so marked are listed changed none bits many known =
      let is = alone_as d.geometry.version d.tree.entries d.tree tree (plan d.tree) image so in
      let same = alone_with d tree (plan d.tree) image is in
      record {
        space = changed ∙ ap (space_begun d.space) (begun_running d tree (plan d.tree) image left i idle have is ∙ ap (λ (ps : List Place). noted ps (unused (place_count d.geometry))) (sym same));
        left = none ∙ ap unused (left_size d.tree d.space left idle have ∙ length_flags d.geometry d.nodes d.space.places.committed i.places.committed)
            ∙ ap (λ (ps : List Place). noted ps (unused (place_count d.geometry))) (sym (alone_places d.tree tree (plan d.tree) image is));
        coming = known ∙ sym (length-map tree.known (λ node. node.place)) ∙ ap (λ (ps : List Place). length ps) (sym same);
      }
  have_begun d tree plan image left after hint (Some dirty) None new coming i idle have so marked are listed changed none bits many known = absurd cc
  have_begun d tree plan image left after hint clean (Some used) new coming i idle have so marked are listed changed none bits many known = record {
    space = listed ∙ ap (space_begun d.space) (ap (λ (ps : List Place). noted ps (unused (length d.space.places.running))) are
        ∙ ap (λ (n : ℕ). noted (places_with tree image) (unused n)) (length_flags d.geometry d.coming d.space.places.running i.places.running));
    left = bits ∙ ap (λ (n : ℕ). noted (places_of_bits image) (unused n))
        (left_size d.tree d.space left idle have ∙ length_flags d.geometry d.nodes d.space.places.committed i.places.committed);
    coming = many ∙ ap (λ (ps : List Place). length ps) are;
  }

  -- the places of an image are few enough to be counted
  pub places_counted : (d : DeskState P) (tree : Mapping) (image : Image) (used : Option (Vec Place Global)) → DeskInvariant knows d → ImageFacts d.geometry.version d.tree tree d.geometry.cache_blocks image
      → IfSome used (λ used. used.items ≡ places_with tree image) → IfSome used (λ used. length used.items < 2 ^ 32)
  places_counted d tree image None i is are = tt
  places_counted d tree image (Some used) i is are =
      let room = i.places.room in
      omega (arith, d.geometry.within.meta_to, room, places_few d.geometry.version d.tree tree d.geometry.cache_blocks image is, ap (λ (ps : List Place). length ps) are)

  pub ended_kept : (d : DeskState P) → DeskInvariant knows d → d.space.committing ≡ true → DeskInvariant knows (commit_ended d)
  ended_kept d i runs = record {
    mapping = i.mapping;
    keeps = i.keeps;
    blocks = length-map d.space.blocks block_ended ∙ i.blocks;
    slots = i.slots;
    busy = i.busy;
    places = record {
      room = i.places.room;
      inside = i.places.inside;
      committed = i.places.running;
      running = record { used = []; are = refl; many = refl; few = omega arith };
      known = λ p at. subst (λ (b : Bool). Contains (if b then i.places.running.used else i.places.committed.used) p) runs (i.places.known p at);
      idle = λ e. refl;
    };
    next = λ e. absurd cc;
    each = each_left block_ended ends (holdings d) d.tree.entries d.space.blocks d.orders.slots d.geometry.cache_blocks i.each;
    counted = i.counted;
    numbered = omega (arith, i.numbered);
    known = i.known;
  }
