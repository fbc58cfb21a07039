-- What the policies decide fits.
use Rattle.std.proofs.Common.{◌≡◌, ◌<◌, ◌≤◌, ◌*◌, ◌&&◌, inl, inr, ℕ, Bool, true, false, cond, nat_le, nat_eq, not, List, Option, Some, None, refl, sym, subst, arith}
use Rattle.std.specs.Option.{IfSome, option_map}
use Rattle.std.proofs.lemmas.Bool.{leb-true}
use Rattle.wb_types.specs.declared.number.CBlock.{CBlock}
use Rattle.wb_types.specs.declared.number.OBlock.{OBlock}
use Rattle.wb_policy.specs.declared.order.Order.{Order}
use Rattle.wb_policy.specs.declared.order.Order.TheVariants.{Promote, Replace, Clean}
use Rattle.wb_policy.specs.declared.situation.Settled.{Settled}
use Rattle.wb_policy.specs.declared.situation.Tick.{Tick}
use Rattle.wb_policy.specs.Law.{AreMapped}
use Rattle.wb_policy.specs.Situations.{is_passthrough}
use Rattle.wb_policy.specs.Recency.{AgreesWith, least_recent, is_idle, is_dirty_and_idle}
use Rattle.wb_policy.specs.TinyLfu.{Knowledge, WasTold, after_access, ordered, decided, may_come_in, way_in, promotion, replacing_order, knows_mapped, write_back, cleaned as written_back}
use Rattle.wb_policy.specs.Cleaner.{Progress, chosen, next_in_turn, cleaned, ticked}
use Rattle.wb_policy.proofs.Laws.{uses, least_recent-mapped}
use Rattle.wb_policy.proofs.Turns.{lawful-chosen}
use Rattle.wb_desk.specs.Desks.{DeskState, holdings}
use Rattle.wb_desk.specs.Settling.{Fits, IsAccess, OrderIsGiven, IsTick, NoneFits}
use Rattle.wb_desk.specs.Decisions.{IsInService, IsWaiting, DecisionsAreGiven, TicksEndWithoutOrder, CleanerEndsWithoutOrder}
use Rattle.wb_desk.proofs.Leaving.{mapped_within}
use Rattle.wb_types.proofs.Truth.{and_true}

if_so : (b : Bool) (o : Order) (X : Order → Type 0) → (b ≡ true → X o) → IfSome (cond b (Some o) None) X
if_so true o X h = h refl
if_so false o X h = tt

if_any : (b : Bool) (o : Option Order) (X : Order → Type 0) → IfSome o X → IfSome (cond b o None) X
if_any true o X h = h
if_any false o X h = tt

if_not : (b : Bool) (o : Option Order) (X : Order → Type 0) → IfSome o X → IfSome (cond b None o) X
if_not true o X h = tt
if_not false o X h = h

-- ---- an access

module _ (d : DeskState Knowledge) (b : OBlock) (a : Settled) (k : Knowledge) (service : IsInService WasTold d d.policy.block_sectors) (access : IsAccess d b a) (within : b.0 < d.geometry.origin_blocks)
    (same : k.block_sectors ≡ d.policy.block_sectors) (told : AgreesWith (holdings d) k.recency) where
  inside : a.block.0 < d.geometry.origin_blocks
  inside = subst (λ (x : OBlock). x.0 < d.geometry.origin_blocks) (sym access.block) within

  fits_promotion : (free : CBlock) → IfSome (promotion k a free) (λ o. Fits d o)
  fits_promotion free = if_so (nat_le k.block_sectors a.room) (Promote a.block free) (λ o. Fits d o) (λ le. record {
    first = inside;
    second = inside;
    room = omega (arith, leb-true k.block_sectors a.room le, same, service.sectors, access.room, d.geometry.within.block_from);
    countable = service.countable;
  })

  fits_replacement : (v : Option (ℕ × ℕ)) → least_recent (is_idle a.busy.now) k.recency ≡ v → IfSome (replacing_order k a v) (λ o. Fits d o)
  fits_replacement None e = tt
  fits_replacement (Some v) e = if_so _ (Replace (record { 0 = v.0 }) a.block (record { 0 = v.1 })) (λ o. Fits d o) (λ h.
      let at = least_recent-mapped (holdings d) k.recency (is_idle a.busy.now) v told e in
      record {
        first = (mapped_within WasTold d v.0 v.1 service.desk at.0).1;
        second = inside;
        room = omega (arith, leb-true (2 * k.block_sectors) a.room (and_true _ _ h).1, same, service.sectors, access.room, d.geometry.within.block_from);
        countable = service.countable;
      })

  fits_way : (free : Option CBlock) → IfSome (way_in k a free) (λ o. Fits d o)
  fits_way (Some free) = fits_promotion free
  fits_way None = fits_replacement (least_recent (is_idle a.busy.now) k.recency) refl

  fits_decided : IfSome (decided k a) (λ o. Fits d o)
  fits_decided = if_any (may_come_in k a) (way_in k a a.least_free) (λ o. Fits d o) (fits_way a.least_free)

fits_ordered : (d : DeskState Knowledge) (b : OBlock) (a : Settled) → IsInService WasTold d d.policy.block_sectors → IsAccess d b a → b.0 < d.geometry.origin_blocks
    → IfSome (ordered d.policy a) (λ o. Fits d o)
fits_ordered d b a service access within = if_not (knows_mapped d.policy a.block.0) (decided (after_access d.policy a.block.0) a) (λ o. Fits d o)
    (fits_decided d b a (after_access d.policy a.block.0) service access within refl (uses (holdings d) d.policy.recency a.block.0 service.desk.known))

surely : {P : Type 0} (d : DeskState P) (p : P) (o : Option Order) (new : DeskState P) → IfSome o (λ x. Fits d x) → OrderIsGiven (record d { policy = p }) o new → IsWaiting (record d { policy = p }) o new
surely d p None new fits given = given
surely d p (Some o) new fits (inl given) = given
surely d p (Some o) new fits (inr not_so) = absurd (not_so.0 (record { first = fits.first; second = fits.second; room = fits.room; countable = fits.countable }))

pub decisions_given : DecisionsAreGiven
decisions_given d new b service within s =
    (s.0, s.1, surely d (after_access d.policy s.0.block.0) (ordered d.policy s.0) new (fits_ordered d b s.0 service s.1 within) s.2)

-- ---- a tick

no_order : {P : Type 0} (d : DeskState P) (p : P) (o : Option Order) → IfSome o (λ x. Fits d x) → NoneFits (record d { policy = p }) o → o ≡ None
no_order d p None fits never = refl
no_order d p (Some o) fits never = absurd (never (record { first = fits.first; second = fits.second; room = fits.room; countable = fits.countable }))

fits_write_back : (d : DeskState Knowledge) (dirty : List (CBlock × OBlock)) (t : Tick) → IsInService WasTold d d.policy.block_sectors → IsTick d dirty t
    → (o : Option (ℕ × ℕ)) → least_recent (is_dirty_and_idle t.busy.now t.dirty.now) d.policy.recency ≡ o → IfSome (write_back d.policy t o) (λ x. Fits d x)
fits_write_back d dirty t service tick None e = tt
fits_write_back d dirty t service tick (Some v) e = if_so (nat_le d.policy.block_sectors t.room) (Clean (record { 0 = v.0 })) (λ o. Fits d o) (λ le.
    let at = least_recent-mapped (holdings d) d.policy.recency (is_dirty_and_idle t.busy.now t.dirty.now) v service.desk.known e in
    let block = (mapped_within WasTold d v.0 v.1 service.desk at.0).1 in
    record {
      first = block;
      second = block;
      room = omega (arith, leb-true d.policy.block_sectors t.room le, service.sectors, tick.room, d.geometry.within.block_from);
      countable = service.countable;
    })

pub ticks_end : TicksEndWithoutOrder
ticks_end d new dirty given service mapped s = (
  s.0,
  s.1,
  no_order d d.policy (written_back d.policy s.0 given)
      (if_any (not (is_passthrough s.0.mode) && nat_eq given 0) _ (λ o. Fits d o) (fits_write_back d dirty s.0 service s.1 _ refl)) s.2,
)

fits_chosen : (d : DeskState Progress) (dirty : List (CBlock × OBlock)) (t : Tick) → IsInService (λ p m. Unit {0}) d d.policy.block_sectors → AreMapped (holdings d) dirty → IsTick d dirty t
    → (e : Option (CBlock × OBlock)) → chosen d.policy t ≡ e → IfSome (option_map (λ (x : CBlock × OBlock). Clean x.1) e) (λ o. Fits d o)
fits_chosen d dirty t service mapped tick None is = tt
fits_chosen d dirty t service mapped tick (Some e) is =
    let law = lawful-chosen (holdings d) d.policy t e (subst (λ (x : List (CBlock × OBlock)). AreMapped (holdings d) x) (sym tick.seen) mapped) is in
    let block = (mapped_within (λ p m. Unit {0}) d e.1.0 law.names.0 service.desk law.names.1).1 in
    record {
      first = block;
      second = block;
      room = omega (arith, room_for (not (is_passthrough t.mode)) (nat_le d.policy.block_sectors t.room) (next_in_turn d.policy t) is refl, service.sectors, tick.room, d.geometry.within.block_from);
      countable = service.countable;
    }
  where
    room_for : (b c : Bool) (o : Option (CBlock × OBlock)) → cond (b && c) o None ≡ Some e → c ≡ nat_le d.policy.block_sectors t.room → d.policy.block_sectors ≤ t.room
    room_for true true o h same = leb-true d.policy.block_sectors t.room (sym same)
    room_for true false o h same = absurd (cc)
    room_for false c o h same = absurd (cc)

pub cleaner_ends : CleanerEndsWithoutOrder
cleaner_ends d new dirty given service mapped s = (
  s.0,
  s.1,
  no_order d (ticked d.policy s.0 given) (cleaned d.policy s.0 given)
      (fits_chosen d dirty s.0 service mapped s.1 (chosen d.policy s.0) refl) s.2,
)
