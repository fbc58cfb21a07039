-- What a policy orders by its law may be given, if it fits.
use Rattle.std.proofs.Common.{◌≡◌, ◌≢◌, ◌<◌, ◌≤◌, ◌+◌, ◌-◌, inl, inr, ℕ, suc, Bool, true, false, List, Option, Some, None, length, get_or, slice_get, refl, sym, ap, subst, ◌∙◌, arith}
use Rattle.std.specs.Bool.{OnTrue, OnFalse}
use Rattle.std.specs.List.{position}
use Rattle.std.specs.Option.{option_map, IfSome}
use Rattle.std.proofs.lemmas.Option.{slice_get-get_or, slice_get_within, get_or_from_slice_get}
use Rattle.std.proofs.lemmas.List.Quantifiers.{position-Some}
use Rattle.wb_types.specs.declared.number.CBlock.{CBlock}
use Rattle.wb_types.specs.declared.number.OBlock.{OBlock}
use Rattle.wb_policy.specs.declared.order.Order.{Order}
use Rattle.wb_policy.specs.declared.order.Order.TheVariants.{Promote, Replace, Demote, Clean}
use Rattle.wb_policy.specs.declared.situation.Settled.{Settled}
use Rattle.wb_policy.specs.declared.situation.Tick.{Tick}
use Rattle.wb_policy.specs.Law.{Holdings, IsMappedAt, IsLawful}
use Rattle.wb_policy.specs.Situations.{is_busy}
use Rattle.wb_types.specs.declared.mode.Mode.{Mode}
use Rattle.wb_types.specs.declared.mode.Mode.TheVariants.{Passthrough}
use Rattle.wb_space.specs.declared.block.Block.{Block}
use Rattle.wb_space.specs.declared.block.Block.TheVariants.{Free, Mapped, Reserved, Quarantined}
use Rattle.wb_space.specs.Blocks.{state, is_free}
use Rattle.wb_orders.specs.declared.live_order.LiveOrder.{LiveOrder}
use Rattle.wb_orders.specs.Named.{first_of, second_of, IsNamed}
use Rattle.wb_orders.specs.Orders.{AreOrders, MayGive, cost_of, order_at}
use Rattle.wb_desk.specs.Desks.{DeskState, DeskInvariant, MayReserve, IsGivenLawfully as OrderIsLawful, Names, NamesWhatIs, holdings, sectors_asked}
use Rattle.wb_desk.specs.Settling.{Fits, IsAccess, OrderIsGiven, AccessIsSettled, IsTick, NoneFits, TickGives, TickEnds, IsTicked}
use Rattle.wb_desk.specs.Calls.{reserved}
use Rattle.wb_desk.proofs.Leaving.{mapped_within, mapped_state}

-- the least free cache block is free
pub least_free_there : (blocks : List Block) (free : Option CBlock) → option_map (λ (c : CBlock). c.0) free ≡ position is_free blocks → (c : CBlock) → free ≡ Some c → slice_get blocks c.0 ≡ Some Free
least_free_there blocks free is c e =
    let at = position-Some is_free blocks c.0 Free (sym is ∙ ap (option_map (λ (k : CBlock). k.0)) e) in
    slice_get-get_or blocks c.0 Free at.0 ∙ ap (λ (b : Block). Some b) (one_free (get_or blocks c.0 Free) at.1)
  where
    one_free : (b : Block) → is_free b ≡ true → b ≡ Free
    one_free Free h = refl
    one_free Mapped h = absurd (cc)
    one_free Reserved h = absurd (cc)
    one_free (Quarantined claimed early) h = absurd (cc)

not_busy : (busy : List Bool) (b : ℕ) → b < length busy → is_busy busy b ≡ false → slice_get busy b ≡ Some false
not_busy busy b l e = slice_get-get_or busy b false l ∙ ap (λ (x : Bool). Some x) e

busy_named : (b : Bool) → b ≡ true → b ≡ false → ⊥
busy_named b e f = let clash : true ≡ false = sym e ∙ f in cc

same_block : (a b : ℕ) → (let x : Option (Option ℕ) = Some (Some a) in x) ≡ Some (Some b) → a ≡ b
same_block a b e = cc

module _ {P : Type 0} (knows : P → Holdings → Type 0) where
  -- a free cache block has no live order
  vacant_free : (d : DeskState P) (c : ℕ) → DeskInvariant knows d → slice_get d.space.blocks c ≡ Some Free → c < d.geometry.cache_blocks → order_at d.orders.slots c ≡ None
  vacant_free d c i free l = by (order_at d.orders.slots c) (subst (λ (b : Block). NamesWhatIs (holdings d) b c (order_at d.orders.slots c)) is (i.each c l).stands) none
    where
      is : state d.space.blocks c ≡ Free
      is = get_or_from_slice_get d.space.blocks c Free Free free

      none : (b : ℕ) → IsMappedAt (holdings d) b c → ⊥
      none b at = let clash : Free ≡ Mapped = sym is ∙ get_or_from_slice_get d.space.blocks c Mapped Free (mapped_state knows d b c i at) in cc

      by : (s : Option LiveOrder) → NamesWhatIs (holdings d) Free c s → ((b : ℕ) → IsMappedAt (holdings d) b c → ⊥) → s ≡ None
      by None n m = refl
      by (Some o) n m = absurd (which o.order n m)
        where
          which : (order : Order) → Names (holdings d) Free c order → ((b : ℕ) → IsMappedAt (holdings d) b c → ⊥) → ⊥
          which (Promote b x) n m = let clash : Free ≡ Reserved = n.1 in cc
          which (Replace v b x) n m = elim n.2 [
            | inl at ↦ m v.0 at
            | inr gone ↦ gone.1
          ]
          which (Demote b) n m = m b.0 n
          which (Clean b) n m = m b.0 n

  -- and the cache block of a block without one has none
  vacant_mapped : (d : DeskState P) (b c : ℕ) → DeskInvariant knows d → AreOrders d.orders → IsMappedAt (holdings d) b c → is_busy d.orders.busy b ≡ false → order_at d.orders.slots c ≡ None
  vacant_mapped d b c i orders at idle = by (order_at d.orders.slots c) refl (subst (λ (x : Block). NamesWhatIs (holdings d) x c (order_at d.orders.slots c)) is (i.each c (mapped_within knows d b c i at).0).stands)
    where
      is : state d.space.blocks c ≡ Mapped
      is = get_or_from_slice_get d.space.blocks c Mapped Free (mapped_state knows d b c i at)

      by : (s : Option LiveOrder) → order_at d.orders.slots c ≡ s → NamesWhatIs (holdings d) Mapped c s → s ≡ None
      by None e n = refl
      by (Some o) e n = absurd (which o.order n (λ named. busy_named (is_busy d.orders.busy b) (orders.marks c b o e named) idle))
        where
          which : (order : Order) → Names (holdings d) Mapped c order → (IsNamed order b → ⊥) → ⊥
          which (Promote x y) n other = let clash : Mapped ≡ Reserved = n.1 in cc
          which (Replace v x y) n other = elim n.2 [
            | inl there ↦ other (inl (same_block v.0 b (sym there ∙ at)))
            | inr gone ↦ gone.1
          ]
          which (Demote x) n other = other (inl (same_block x.0 b (sym n ∙ at)))
          which (Clean x) n other = other (inl (same_block x.0 b (sym n ∙ at)))

  vacant_slot : (d : DeskState P) (c : ℕ) → DeskInvariant knows d → c < d.geometry.cache_blocks → order_at d.orders.slots c ≡ None → slice_get d.orders.slots c ≡ Some None
  vacant_slot d c i l e = slice_get-get_or d.orders.slots c None (omega (arith, l, i.slots)) ∙ ap (λ (x : Option LiveOrder). Some x) e

  -- an order of one block that is mapped
  single : (d : DeskState P) (b c : ℕ) (order : Order) → DeskInvariant knows d → AreOrders d.orders → IsMappedAt (holdings d) b c → is_busy d.orders.busy b ≡ false
      → (first_of order).0 ≡ b → (second_of order).0 ≡ b → Fits d order → MayGive d.orders (record { 0 = c }) order (sectors_asked d.geometry order) d.threshold
  single d b c order i orders at free first second fits =
      let within = mapped_within knows d b c i at in
      let idle = not_busy d.orders.busy b (omega (arith, within.1, i.busy)) free in
      record {
        vacant = vacant_slot d c i within.0 (vacant_mapped d b c i orders at free);
        idle = (subst (λ (n : ℕ). slice_get d.orders.busy n ≡ Some false) (sym first) idle, subst (λ (n : ℕ). slice_get d.orders.busy n ≡ Some false) (sym second) idle);
        room = fits.room;
        countable = fits.countable;
      }

  pub lawful_given : (d : DeskState P) (mode : Mode) (free : Option CBlock) (busy : List Bool) (order : Order) → DeskInvariant knows d → AreOrders d.orders
      → mode ≡ d.mode → busy ≡ d.orders.busy → ((c : CBlock) → free ≡ Some c → slice_get d.space.blocks c.0 ≡ Some Free)
      → IsLawful mode (holdings d) free busy order → Fits d order → (c : CBlock) × MayReserve d c order
  lawful_given d mode free busy (Promote b c) i orders m is at law fits =
      let there = at c law.names.1 in
      let l : c.0 < d.geometry.cache_blocks = omega (arith, slice_get_within d.space.blocks c.0 Free there, i.blocks) in
      let idle = not_busy d.orders.busy b.0 (omega (arith, fits.first, i.busy)) (subst (λ (x : List Bool). is_busy x b.0 ≡ false) is law.idle) in (
        c,
        record {
          mode = subst (λ (x : Mode). x ≢ Passthrough) m law.allowed;
          lawful = (refl, there, law.names.0);
          give = record { vacant = vacant_slot d c.0 i l (vacant_free d c.0 i there l); idle = (idle, idle); room = fits.room; countable = fits.countable };
        },
      )
  lawful_given d mode free busy (Replace v b c) i orders m is at law fits =
      let first = not_busy d.orders.busy v.0 (omega (arith, fits.first, i.busy)) (subst (λ (x : List Bool). is_busy x v.0 ≡ false) is law.idle.0) in
      let second = not_busy d.orders.busy b.0 (omega (arith, fits.second, i.busy)) (subst (λ (x : List Bool). is_busy x b.0 ≡ false) is law.idle.1) in (
        c,
        record {
          mode = subst (λ (x : Mode). x ≢ Passthrough) m law.allowed;
          lawful = (refl, law.names.1, law.names.0);
          give = record {
            vacant = vacant_slot d c.0 i (mapped_within knows d v.0 c.0 i law.names.1).0
                (vacant_mapped d v.0 c.0 i orders law.names.1 (subst (λ (x : List Bool). is_busy x v.0 ≡ false) is law.idle.0));
            idle = (first, second);
            room = fits.room;
            countable = fits.countable;
          };
        },
      )
  lawful_given d mode free busy (Demote b) i orders m is at law fits = (
    record { 0 = law.names.0 },
    record {
      mode = subst (λ (x : Mode). x ≢ Passthrough) m law.allowed;
      lawful = law.names.1;
      give = single d b.0 law.names.0 (Demote b) i orders law.names.1 (subst (λ (x : List Bool). is_busy x b.0 ≡ false) is law.idle) refl refl fits;
    },
  )
  lawful_given d mode free busy (Clean b) i orders m is at law fits = (
    record { 0 = law.names.0 },
    record {
      mode = subst (λ (x : Mode). x ≢ Passthrough) m law.allowed;
      lawful = law.names.1;
      give = single d b.0 law.names.0 (Clean b) i orders law.names.1 (subst (λ (x : List Bool). is_busy x b.0 ≡ false) is law.idle) refl refl fits;
    },
  )

  -- what the law says of an order holds of its being given
  pub may_give : (d : DeskState P) (b : OBlock) (a : Settled) (order : Option Order) → DeskInvariant knows d → AreOrders d.orders → IsAccess d b a
      → IfSome order (IsLawful a.mode (holdings d) a.least_free a.busy.now) → IfSome order (λ o. Fits d o → (c : CBlock) × MayReserve d c o)
  may_give d b a None i orders access law = tt
  may_give d b a (Some o) i orders access law =
      lawful_given d a.mode a.least_free a.busy.now o i orders access.mode access.busy (least_free_there d.space.blocks a.least_free access.least_free) law

  pub may_clean : (d : DeskState P) (mode : Mode) (busy : List Bool) (order : Option Order) → DeskInvariant knows d → AreOrders d.orders → mode ≡ d.mode → busy ≡ d.orders.busy
      → IfSome order (IsLawful mode (holdings d) None busy) → IfSome order (λ o. Fits d o → (c : CBlock) × MayReserve d c o)
  may_clean d mode busy None i orders m is law = tt
  may_clean d mode busy (Some o) i orders m is law = lawful_given d mode None busy o i orders m is (λ c e. absurd (none_free c e)) law
    where
      none_free : (c : CBlock) → (let x : Option CBlock = None in x) ≡ Some c → ⊥
      none_free c e = cc

-- ---- what a call of the policy and a gift make of a desk

module _ {P : Type 0} where
  lawful_with : (d : DeskState P) (p : P) (c : CBlock) (o : Order) → OrderIsLawful d c o → OrderIsLawful (record d { policy = p }) c o
  lawful_with d p c (Promote b k) l = l
  lawful_with d p c (Replace v b k) l = l
  lawful_with d p c (Demote b) l = l
  lawful_with d p c (Clean b) l = l

  -- the policy is of no account for what may be given
  may_with : (d : DeskState P) (p : P) (c : CBlock) (o : Order) → MayReserve d c o → MayReserve (record d { policy = p }) c o
  may_with d p c o m = record { mode = m.mode; lawful = lawful_with d p c o m.lawful; give = m.give }

  pub none_fits : (d : DeskState P) (p : P) (o : Order) → (Fits d o → (c : CBlock) × MayReserve d c o) → ((c : CBlock) → MayReserve (record d { policy = p }) c o → ⊥) → Fits (record d { policy = p }) o → ⊥
  none_fits d p o may never f =
      let m = may (record { first = f.first; second = f.second; room = f.room; countable = f.countable }) in
      never m.0 (may_with d p m.0 o m.1)

  pub settled_by : (ordered : P → Settled → Option Order) (settled : P → Settled → P) (d mid new : DeskState P) (b : OBlock) (r : Bool) (o : Order)
      → (a : Settled) × IsAccess d b a × (Some o ≡ ordered d.policy a) × (mid ≡ record d { policy = settled d.policy a })
      → (Fits d o → (c : CBlock) × MayReserve d c o)
      → OnTrue r ((c : CBlock) × MayReserve mid c o × (new ≡ reserved mid c o true)) → OnFalse r ((c : CBlock) → MayReserve mid c o → ⊥) → OnFalse r (new ≡ mid)
      → AccessIsSettled ordered settled d b new
  settled_by ordered settled d mid new b r o s may given never same = (s.0, s.1, subst (λ (x : Option Order). OrderIsGiven told x new) s.2 (by r given never same))
    where
      told : DeskState P
      told = record d { policy = settled d.policy s.0 }

      by : (r : Bool) → OnTrue r ((c : CBlock) × MayReserve mid c o × (new ≡ reserved mid c o true)) → OnFalse r ((c : CBlock) → MayReserve mid c o → ⊥) → OnFalse r (new ≡ mid) → OrderIsGiven told (Some o) new
      by true given never same = inl (subst (λ (x : DeskState P). (c : CBlock) × MayReserve x c o × (new ≡ reserved x c o true)) s.3 given)
      by false given never same = inr (none_fits d (settled d.policy s.0) o may (subst (λ (x : DeskState P). (c : CBlock) → MayReserve x c o → ⊥) s.3 never), same ∙ s.3)

  -- what the policy was asked at a tick
  pub asked_at : (cleaned : P → Tick → ℕ → Option Order) (ticked : P → Tick → ℕ → P) (before d new : DeskState P) (dirty : List (CBlock × OBlock)) (given : ℕ) (r : Option Order) (t : Tick)
      → before ≡ d → r ≡ cleaned before.policy t given → t.mode ≡ before.mode → t.room ≡ d.threshold - cost_of d.orders.slots → t.busy.now ≡ before.orders.busy → t.dirty.now ≡ dirty
      → new ≡ record before { policy = ticked before.policy t given }
      → (t : Tick) × IsTick d dirty t × (r ≡ cleaned d.policy t given) × (new ≡ record d { policy = ticked d.policy t given })
  asked_at cleaned ticked before d new dirty given r t is order mode room busy seen same = (
    t,
    record {
      mode = mode ∙ ap (λ (x : DeskState P). x.mode) is;
      room = room;
      busy = busy ∙ ap (λ (x : DeskState P). x.orders.busy) is;
      seen = seen;
    },
    order ∙ ap (λ (x : DeskState P). cleaned x.policy t given) is,
    same ∙ ap (λ (x : DeskState P). let n : DeskState P = record x { policy = ticked x.policy t given } in n) is,
  )

  pub gives_by : (cleaned : P → Tick → ℕ → Option Order) (ticked : P → Tick → ℕ → P) (d mid new : DeskState P) (dirty : List (CBlock × OBlock)) (given : ℕ) (r : Bool) (o : Order)
      → (t : Tick) × IsTick d dirty t × (Some o ≡ cleaned d.policy t given) × (mid ≡ record d { policy = ticked d.policy t given })
      → OnTrue r ((c : CBlock) × MayReserve mid c o × (new ≡ reserved mid c o true)) → OnTrue r (TickGives cleaned ticked dirty given d new)
  gives_by cleaned ticked d mid new dirty given false o s h = tt
  gives_by cleaned ticked d mid new dirty given true o s h =
      (s.0, s.1, (o, sym s.2, subst (λ (x : DeskState P). (c : CBlock) × MayReserve x c o × (new ≡ reserved x c o true)) s.3 h))

  pub ends_by : (cleaned : P → Tick → ℕ → Option Order) (ticked : P → Tick → ℕ → P) (d mid new : DeskState P) (dirty : List (CBlock × OBlock)) (given : ℕ) (r : Bool) (o : Order)
      → (t : Tick) × IsTick d dirty t × (Some o ≡ cleaned d.policy t given) × (mid ≡ record d { policy = ticked d.policy t given })
      → (Fits d o → (c : CBlock) × MayReserve d c o) → OnFalse r ((c : CBlock) → MayReserve mid c o → ⊥) → OnFalse r (new ≡ mid) → OnFalse r (TickEnds cleaned ticked dirty given d new)
  ends_by cleaned ticked d mid new dirty given true o s may never same = tt
  ends_by cleaned ticked d mid new dirty given false o s may never same = (
    s.0,
    s.1,
    subst (λ (x : Option Order). NoneFits (record d { policy = ticked d.policy s.0 given }) x) s.2
        (none_fits d (ticked d.policy s.0 given) o may (subst (λ (x : DeskState P). (c : CBlock) → MayReserve x c o → ⊥) s.3 never)),
    same ∙ s.3,
  )

  -- the policy has no order
  pub ends_without : (cleaned : P → Tick → ℕ → Option Order) (ticked : P → Tick → ℕ → P) (d new : DeskState P) (dirty : List (CBlock × OBlock)) (given : ℕ)
      → (t : Tick) × IsTick d dirty t × (None ≡ cleaned d.policy t given) × (new ≡ record d { policy = ticked d.policy t given }) → TickEnds cleaned ticked dirty given d new
  ends_without cleaned ticked d new dirty given s =
      (s.0, s.1, subst (λ (x : Option Order). NoneFits (record d { policy = ticked d.policy s.0 given }) x) s.2 tt, s.3)

  -- one order more of a tick
  pub one_more_tick : (cleaned : P → Tick → ℕ → Option Order) (ticked : P → Tick → ℕ → P) (dirty : List (CBlock × OBlock)) (most given : ℕ) (d next new : DeskState P) → given < most
      → TickGives cleaned ticked dirty given d next → IsTicked cleaned ticked dirty (most - (given + 1)) (given + 1) next new → IsTicked cleaned ticked dirty (most - given) given d new
  one_more_tick cleaned ticked dirty most given d next new l gives rest = subst (λ (n : ℕ). IsTicked cleaned ticked dirty n given d new) left (inr (next, gives, rest))
    where
      left : suc (most - (given + 1)) ≡ most - given
      left = omega arith

  pub last_tick : (cleaned : P → Tick → ℕ → Option Order) (ticked : P → Tick → ℕ → P) (dirty : List (CBlock × OBlock)) (most given : ℕ) (d new : DeskState P) → given < most
      → TickEnds cleaned ticked dirty given d new → IsTicked cleaned ticked dirty (most - given) given d new
  last_tick cleaned ticked dirty most given d new l ends = subst (λ (n : ℕ). IsTicked cleaned ticked dirty n given d new) left (inl ends)
    where
      left : suc (most - (given + 1)) ≡ most - given
      left = omega arith

  pub no_tick_left : (cleaned : P → Tick → ℕ → Option Order) (ticked : P → Tick → ℕ → P) (dirty : List (CBlock × OBlock)) (most given : ℕ) (d : DeskState P) → most ≤ given
      → IsTicked cleaned ticked dirty (most - given) given d d
  no_tick_left cleaned ticked dirty most given d l = subst (λ (n : ℕ). IsTicked cleaned ticked dirty n given d d) left refl
    where
      left : 0 ≡ most - given
      left = omega arith
