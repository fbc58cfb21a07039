-- What is known of a desk and its metadata stays known when an order is given, given up, or ends since its block was mapped or unmapped.
use Rattle.std.proofs.Common.{◌≡◌, ◌∙◌, inl, inr, if◌then◌else◌, ℕ, zero, suc, Bool, true, false, List, [], ◌∷◌, Option, Some, None, refl, sym, ap, subst, slice_set}
use Rattle.std.specs.Prelude.{◌+◌}
use Rattle.wb_tree.proofs.Branching.Edits.{changed-edit, changed_at}
use Rattle.wb_policy.specs.Law.{Holdings, IsMappedAt}
use Rattle.wb_desk.proofs.Leaving.{unmapped_kept, found_there}
use Rattle.std.proofs.lemmas.Bool.{cases_eq, cases_Bool}
use Rattle.wb_runs.proofs.Spelling.{Decided}
use Rattle.wb_types.specs.declared.geometry.Geometry.{Geometry}
use Rattle.wb_types.specs.declared.number.OBlock.{OBlock}
use Rattle.wb_types.specs.declared.number.CBlock.{CBlock}
use Rattle.wb_disk.specs.Device.{History}
use Rattle.wb_tree.specs.Mapping.{Mapping, IsSound}
use Rattle.wb_tree.specs.Edits.{IsChangedAt, IsEdited}
use Rattle.wb_tree.proofs.Stored.Edited.{edited-more}
use Rattle.wb_space.specs.Places.{noted, unused, place_count}
use Rattle.wb_meta.specs.Imaging.{DeviceStores}
use Rattle.wb_meta.specs.Representing.{Stored}
use Rattle.wb_types.specs.declared.number.Place.{Place}
use Rattle.wb_meta.proofs.Round.{stored_edited}
use Rattle.wb_policy.specs.declared.order.Order.{Order}
use Rattle.wb_policy.specs.declared.order.Order.TheVariants.{Promote, Replace, Demote, Clean}
use Rattle.wb_orders.specs.declared.live_order.LiveOrder.{LiveOrder}
use Rattle.wb_orders.specs.Orders.{Orders, AreOrders, order_at, without_order, unmarked}
use Rattle.wb_orders.proofs.Calls.{given_kept, over_kept}
use Rattle.wb_desk.specs.Desks.{DeskState, MayReserve, IsLive, DeskInvariant, sectors_asked, holdings}
use Rattle.wb_desk.specs.Calls.{reserved, released}
use Rattle.wb_desk.specs.Entries.{MayMap, MayUnmap, IsRemoved, Removes, entry_of, mapped, unmapped, is_replacement, orders_past}
use Rattle.wb_desk.proofs.Kept.{reserved_kept, released_kept}
use Rattle.wb_desk.proofs.Entering.{mapped_kept}
use Rattle.wb_stage.specs.Asking.{IsGivenUp, DidUnmap}
use Rattle.wb_devices.specs.declared.running.RunningCommit.{RunningCommit}
use Rattle.wb_runs.proofs.Images.{Images}
use Rattle.wb_runs.proofs.Metadata.{unknowing, Standing, AtDesk}

-- the order of a cache block is over
orders_over : (orders : Orders) (c : CBlock) (o : LiveOrder) → AreOrders orders → order_at orders.slots c.0 ≡ Some o → o.waits ≡ false → AreOrders (without_order orders c)
orders_over orders c o a there taken = subst (λ (s : Option LiveOrder). AreOrders (record orders { slots = slice_set orders.slots c.0 None; busy = unmarked s orders.busy })) (sym there) (over_kept orders c o a there taken)

-- whether two orders are the same is decided
pub one_order : (o p : Order) → Decided (o ≡ p)
one_order (Promote b c) (Promote x k) = elim (cases_eq b.0 x.0) [
  | inl e ↦ elim (cases_eq c.0 k.0) [
    | inl f ↦ inl (ap (λ (i : ℕ). Promote (record { 0 = i }) c) e ∙ ap (λ (i : ℕ). Promote x (record { 0 = i })) f)
    | inr n ↦ inr (λ h. n (cc))
  ]
  | inr n ↦ inr (λ h. n (cc))
]
one_order (Replace v b c) (Replace w x k) = elim (cases_eq v.0 w.0) [
  | inl d ↦ elim (cases_eq b.0 x.0) [
    | inl e ↦ elim (cases_eq c.0 k.0) [
      | inl f ↦ inl (ap (λ (i : ℕ). Replace (record { 0 = i }) b c) d ∙ ap (λ (i : ℕ). Replace w (record { 0 = i }) c) e ∙ ap (λ (i : ℕ). Replace w x (record { 0 = i })) f)
      | inr n ↦ inr (λ h. n (cc))
    ]
    | inr n ↦ inr (λ h. n (cc))
  ]
  | inr n ↦ inr (λ h. n (cc))
]
one_order (Demote b) (Demote x) = elim (cases_eq b.0 x.0) [ inl e ↦ inl (ap (λ (i : ℕ). Demote (record { 0 = i })) e) | inr n ↦ inr (λ h. n (cc)) ]
one_order (Clean b) (Clean x) = elim (cases_eq b.0 x.0) [ inl e ↦ inl (ap (λ (i : ℕ). Clean (record { 0 = i })) e) | inr n ↦ inr (λ h. n (cc)) ]
one_order o p = inr (λ h. absurd (cc))

-- somebody has taken the order, which is this one
pub record IsThe (order : Order) (o : LiveOrder) : Type 0 where
  pub same : o.order ≡ order
  pub taken : o.waits ≡ false

is_the : (order : Order) (o : LiveOrder) → Decided (IsThe order o)
is_the order o = elim (one_order o.order order) [
  | inl s ↦ elim (cases_Bool o.waits) [ inl w ↦ inr (λ i. absurd (let e = i.taken in cc)) | inr t ↦ inl (record { same = s; taken = t }) ]
  | inr n ↦ inr (λ i. n i.same)
]

-- it is in one of these slots
pub record IsIn (order : Order) (slots : List (Option LiveOrder)) : Type 0 where
  pub cache : ℕ
  pub live : LiveOrder
  pub there : order_at slots cache ≡ Some live
  pub is : IsThe order live

is_in : (order : Order) (slots : List (Option LiveOrder)) → Decided (IsIn order slots)
is_in order [] = inr (λ i. absurd (let e = i.there in cc))
is_in order (s ∷ ss) = elim (is_in order ss) [
  | inl i ↦ inl (record { cache = suc i.cache; live = i.live; there = i.there; is = i.is })
  | inr none ↦ here none s refl
]
  where
    later : (x : Option LiveOrder) → (¬ IsIn order ss) → ((o : LiveOrder) → x ≡ Some o → IsThe order o → ⊥) → IsIn order (x ∷ ss) → ⊥
    later x none not i = by_cache i.cache i.there
      where
        by_cache : (k : ℕ) → order_at (x ∷ ss) k ≡ Some i.live → ⊥
        by_cache zero e = not i.live e i.is
        by_cache (suc k) e = none (record { cache = k; live = i.live; there = e; is = i.is })

    here : (¬ IsIn order ss) → (x : Option LiveOrder) → s ≡ x → Decided (IsIn order (s ∷ ss))
    here none None e = inr (later s none (λ o f h. absurd (cc)))
    here none (Some o) e = elim (is_the order o) [
      | inl is ↦ inl (record { cache = zero; live = o; there = e; is = is })
      | inr not ↦ inr (later s none (λ p f h. let same : o ≡ p = cc in not (subst (λ (v : LiveOrder). IsThe order v) (sym same) h)))
    ]

-- whether an order lives at a desk is decided
pub is_live : {P : Type 0} (desk : DeskState P) (order : Order) → Decided (IsLive desk order)
is_live desk order = elim (is_in order desk.orders.slots) [
  | inl i ↦ inl (record { cache = record { 0 = i.cache }; live = i.live; there = i.there; same = i.is.same; taken = i.is.taken })
  | inr none ↦ inr (λ l. none (record { cache = l.cache.0; live = l.live; there = l.there; is = record { same = l.same; taken = l.taken } }))
]

is_at : (o : Option ℕ) (block : ℕ) → Decided (Some o ≡ Some (Some block))
is_at None block = inr (λ e. absurd (cc))
is_at (Some b) block = elim (cases_eq b block) [
  | inl e ↦ inl (ap (λ (k : ℕ). Some (Some k)) e)
  | inr n ↦ inr (λ e. n (let same : Some b ≡ Some block = cc in cc))
]

-- whether a block stands in a cache block of which something holds that is decided
pub found_where : (mapping : Holdings) (block : ℕ) (Holds : ℕ → Type 0) → ((c : ℕ) → Decided (Holds c)) → Decided ((c : ℕ) × IsMappedAt mapping block c × Holds c)
found_where [] block Holds holds = inr (λ f. absurd (let e = f.1 in cc))
found_where (o ∷ os) block Holds holds = elim (found_where os block (λ c. Holds (suc c)) (λ c. holds (suc c))) [
  | inl f ↦ inl (suc f.0, f.1, f.2)
  | inr none ↦ elim (is_at o block) [
    | inl here ↦ elim (holds 0) [
      | inl h ↦ inl (0, here, h)
      | inr not ↦ inr (λ f. by f.0 f.1 f.2 (λ m h. not h) none)
    ]
    | inr elsewhere ↦ inr (λ f. by f.0 f.1 f.2 (λ m h. elsewhere m) none)
  ]
]
  where
    by : (c : ℕ) → IsMappedAt (o ∷ os) block c → Holds c → (Some o ≡ Some (Some block) → Holds 0 → ⊥) → (¬ ((c : ℕ) × IsMappedAt os block c × Holds (suc c))) → ⊥
    by zero m h first none = first m h
    by (suc c) m h first none = none (c, m, h)

removes : (order : Order) → Decided (Removes order)
removes (Promote b c) = inr (λ r. r)
removes (Replace v x c) = inl tt
removes (Demote b) = inl tt
removes (Clean b) = inr (λ r. r)

is_removed : (o : Option LiveOrder) → Decided (IsRemoved o)
is_removed None = inl tt
is_removed (Some o) = elim (cases_Bool o.waits) [
  | inl w ↦ inr (λ r. absurd (let f = r.0 in cc))
  | inr t ↦ elim (removes o.order) [ inl r ↦ inl (t, r) | inr n ↦ inr (λ r. n r.1) ]
]

-- whether a block may be unmapped is decided
pub is_unmappable : {P : Type 0} (desk : DeskState P) (b : OBlock) → Decided (MayUnmap desk b)
is_unmappable desk b = elim (found_where (holdings desk) b.0 (λ c. IsRemoved (order_at desk.orders.slots c)) (λ c. is_removed (order_at desk.orders.slots c))) [
  | inl f ↦ inl (record { cache = record { 0 = f.0 }; mapped = f.1; removed = f.2 })
  | inr none ↦ inr (λ may. none (may.cache.0, may.mapped, may.removed))
]

-- so a desk can do what it is asked where a block is to lose its entry
pub can_unmap : {P : Type 0} (desk : DeskState P) (b : OBlock) → DeskInvariant unknowing desk → IsSound desk.tree → (new : DeskState P) × DidUnmap (λ policy block. new.policy) b desk new
can_unmap {P} desk b kept sound = elim (is_unmappable desk b) [
  | inl may ↦
      let new = unmapped desk may.cache (changed_at desk.tree may.cache.0 None) desk.policy in
      (new, (λ other. subst (λ (c : CBlock). IsChangedAt desk.tree new.tree c.0 None × (new ≡ unmapped desk c new.tree new.policy)) (found_there unknowing desk b may.cache kept may.mapped other) (changed-edit desk.tree may.cache.0 None sound, refl), λ not. absurd (not may)))
  | inr none ↦ (desk, (λ may. absurd (none may), λ not. refl))
]

module _ (P : Type 0) (g : Geometry) (images : Images) (desk : DeskState P) (commit : Option RunningCommit) (device : List History) where
  -- the same metadata, of another desk with the same places and generation, whose tree they store too, and is an edit of the same trees
  standing_on : (desk' : DeskState P) → ((stored : Stored) (used : List Place) → DeviceStores desk.tree device stored used → DeviceStores desk'.tree device stored used) → ((tree : Mapping) → IsEdited tree desk.tree → IsEdited tree desk'.tree) →
      desk'.space.places ≡ desk.space.places → desk'.space.committing ≡ desk.space.committing → desk'.generation ≡ desk.generation → desk'.geometry ≡ desk.geometry → Standing g images desk commit device → Standing g images desk' commit device
  standing_on desk' stores edited places committing generation geometry s = by_commit commit s
    where
      by_commit : (commit : Option RunningCommit) → Standing g images desk commit device → Standing g images desk' commit device
      by_commit None (inl q) = inl (record {
        stored = q.stored;
        are = q.are;
        used = q.used;
        stores = stores q.stored q.used q.stores;
        all_used = q.all_used;
        places = ap (λ (p : Rattle.wb_space.specs.Places.PlacesInUse). p.committed) places ∙ q.places ∙ ap (λ (x : Geometry). noted q.used (unused (place_count x))) (sym geometry);
        generation = generation ∙ q.generation;
        same = q.same ∙ sym geometry;
        idle = committing ∙ q.idle;
      })
      by_commit None (inr b) = inr (record { readable = b.readable; busy = committing ∙ b.busy })
      by_commit (Some c) l = record {
        of = l.of;
        under = l.under;
        edited = edited l.of.tree l.edited;
        places = ap (λ (p : Rattle.wb_space.specs.Places.PlacesInUse). p.running) places ∙ l.places ∙ ap (λ (x : Geometry). noted l.of.used (unused (place_count x))) (sym geometry);
        same = l.same ∙ sym geometry;
        generation = l.generation ∙ ap (λ (n : ℕ). n + 1) (sym generation);
        busy = committing ∙ l.busy;
      }

  same_standing : (desk' : DeskState P) → desk'.tree ≡ desk.tree → desk'.space.places ≡ desk.space.places → desk'.space.committing ≡ desk.space.committing → desk'.generation ≡ desk.generation → desk'.geometry ≡ desk.geometry → Standing g images desk commit device → Standing g images desk' commit device
  same_standing desk' tree = standing_on desk' (λ stored used. subst (λ (m : Mapping). DeviceStores m device stored used) (sym tree)) (λ of. subst (λ (m : Mapping). IsEdited of m) (sym tree))

  edited_stands : (desk' : DeskState P) → IsEdited desk.tree desk'.tree → IsSound desk'.tree → desk'.space.places ≡ desk.space.places → desk'.space.committing ≡ desk.space.committing → desk'.generation ≡ desk.generation → desk'.geometry ≡ desk.geometry → Standing g images desk commit device → Standing g images desk' commit device
  edited_stands desk' edited sound = standing_on desk' (λ stored used s. stored_edited desk.tree desk'.tree device stored used s edited sound) (λ of e. edited-more of desk.tree desk'.tree e edited)

  pub mapped_stands : (b : OBlock) (c : CBlock) (tree : Mapping) (policy : P) → AtDesk g images desk commit device → MayMap desk b c → IsChangedAt desk.tree tree c.0 (Some (entry_of b)) → AtDesk g images (mapped desk c tree policy) commit device
  mapped_stands b c tree policy k may changed = record {
    is = record {
      sizes = k.is.sizes;
      kept = mapped_kept unknowing desk b c tree policy k.is.kept k.is.orders may changed tt;
      orders = orders_over desk.orders c may.live k.is.orders may.there may.taken;
      sound = changed.sound;
    };
    stands = edited_stands (mapped desk c tree policy) changed.edited changed.sound refl refl refl refl k.stands;
  }

  -- its order is over once a block has left its cache block, but a replacement's
  orders_past_kept : (c : CBlock) (o : Option LiveOrder) → order_at desk.orders.slots c.0 ≡ o → IsRemoved o → AreOrders desk.orders → AreOrders (orders_past o desk.orders c)
  orders_past_kept c None there removed a = a
  orders_past_kept c (Some o) there removed a = by (is_replacement o.order)
    where
      by : (t : Bool) → AreOrders (if t then desk.orders else without_order desk.orders c)
      by true = a
      by false = orders_over desk.orders c o a there removed.0

  left_stands : (c : CBlock) (tree : Mapping) (policy : P) (b : OBlock) → AtDesk g images desk commit device → IsMappedAt (holdings desk) b.0 c.0 → IsRemoved (order_at desk.orders.slots c.0) → IsChangedAt desk.tree tree c.0 None → AtDesk g images (unmapped desk c tree policy) commit device
  left_stands c tree policy b k at removed changed = record {
    is = record {
      sizes = k.is.sizes;
      kept = unmapped_kept unknowing desk b c tree policy k.is.kept at removed changed tt;
      orders = orders_past_kept c (order_at desk.orders.slots c.0) refl removed k.is.orders;
      sound = changed.sound;
    };
    stands = edited_stands (unmapped desk c tree policy) changed.edited changed.sound refl refl refl refl k.stands;
  }

  -- a block loses its entry, or there is none to lose
  pub unmapped_stands : (b : OBlock) (new : DeskState P) → AtDesk g images desk commit device → DidUnmap (λ policy block. new.policy) b desk new → AtDesk g images new commit device
  unmapped_stands b new k did = elim (is_unmappable desk b) [
    | inl may ↦ let left = did.0 may in subst (λ (d : DeskState P). AtDesk g images d commit device) (sym left.1) (left_stands may.cache new.tree new.policy b k may.mapped may.removed left.0)
    | inr none ↦ subst (λ (d : DeskState P). AtDesk g images d commit device) (sym (did.1 none)) k
  ]

  -- an order is given
  pub reserved_stands : (c : CBlock) (order : Order) → AtDesk g images desk commit device → MayReserve desk c order → AtDesk g images (reserved desk c order false) commit device
  reserved_stands c order k may = record {
    is = record {
      sizes = k.is.sizes;
      kept = reserved_kept unknowing desk c order false k.is.kept may;
      orders = given_kept desk.orders c (record { order = order; sectors = sectors_asked desk.geometry order; threshold = desk.threshold; number = desk.orders.given; waits = false }) k.is.orders
          (record { vacant = may.give.vacant; idle = may.give.idle; room = may.give.room; number = refl });
      sound = k.is.sound;
    };
    stands = same_standing (reserved desk c order false) refl refl refl refl refl k.stands;
  }

  released_stands : (c : CBlock) (live : LiveOrder) → order_at desk.orders.slots c.0 ≡ Some live → live.waits ≡ false → AtDesk g images desk commit device → AtDesk g images (released desk c) commit device
  released_stands c live there taken k = record {
    is = record {
      sizes = k.is.sizes;
      kept = released_kept unknowing desk c k.is.kept;
      orders = orders_over desk.orders c live k.is.orders there taken;
      sound = k.is.sound;
    };
    stands = same_standing (released desk c) refl refl refl refl refl k.stands;
  }

  -- an order is given up
  pub given_up_stands : (new : DeskState P) (order : Order) → AtDesk g images desk commit device → IsGivenUp (Some order) desk new → AtDesk g images new commit device
  given_up_stands new order k up = elim (is_live desk order) [
    | inl live ↦ subst (λ (d : DeskState P). AtDesk g images d commit device) (sym (up.0 live)) (released_stands live.cache live.live live.there live.taken k)
    | inr none ↦ subst (λ (d : DeskState P). AtDesk g images d commit device) (sym (up.1 none)) k
  ]

  -- so is the one of a block, if there is one
  pub released_for : (new : DeskState P) (order : Option Order) → AtDesk g images desk commit device → IsGivenUp order desk new → AtDesk g images new commit device
  released_for new None k up = subst (λ (d : DeskState P). AtDesk g images d commit device) (sym up) k
  released_for new (Some order) k up = given_up_stands new order k up
