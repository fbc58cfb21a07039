-- What TinyLfu orders keeps the law.
use Rattle.std.proofs.Common.{◌≡◌, ◌≢◌, ℕ, Bool, true, false, cond, not, ◌&&◌, nat_eq, Option, Some, None, IfSome, refl, sym, ap, ◌∙◌}
use Rattle.std.specs.Prelude.{nat_le}
use Rattle.wb_types.specs.declared.mode.Mode.{Mode}
use Rattle.wb_types.specs.declared.mode.Mode.TheVariants.{Passthrough}
use Rattle.wb_types.specs.declared.number.CBlock.{CBlock}
use Rattle.wb_policy.specs.declared.order.Order.{Order}
use Rattle.wb_policy.specs.declared.order.Order.TheVariants.{Clean}
use Rattle.wb_policy.specs.declared.situation.Settled.{Settled}
use Rattle.wb_policy.specs.declared.situation.Tick.{Tick}
use Rattle.wb_policy.specs.Law.{Holdings, IsUnmapped, IsLawful}
use Rattle.wb_policy.specs.Situations.{is_busy, is_passthrough}
use Rattle.wb_policy.specs.Recency.{least_recent, is_idle, is_dirty_and_idle}
use Rattle.wb_policy.specs.TinyLfu.{Knowledge, WasTold, may_come_in, replacing_order, way_in, decided, write_back, cleaned}
use Rattle.wb_policy.proofs.Laws.{least_recent-mapped}
use Rattle.wb_types.proofs.Truth.{and_true}

pub not_so : (a : Bool) → not a ≡ true → a ≡ false
not_so true h = cc
not_so false h = refl

pub not_passthrough : (mode : Mode) → not (is_passthrough mode) ≡ true → mode ≢ Passthrough
not_passthrough mode h e = let bad : false ≡ true = sym (ap (λ (m : Mode). not (is_passthrough m)) e) ∙ h in cc

if_true : (m : Holdings) (a : Settled) (b : Bool) (o : Order) → (b ≡ true → IsLawful a.mode m a.least_free a.busy.now o) → IfSome (cond b (Some o) None) (IsLawful a.mode m a.least_free a.busy.now)
if_true m a true o h = h refl
if_true m a false o h = tt

lawful-replacement : (m : Holdings) (k : Knowledge) (a : Settled) → WasTold k m → IsUnmapped m a.block.0 → a.mode ≢ Passthrough → is_busy a.busy.now a.block.0 ≡ false
    → (o : Option (ℕ × ℕ)) → least_recent (is_idle a.busy.now) k.recency ≡ o → IfSome (replacing_order k a o) (IsLawful a.mode m a.least_free a.busy.now)
lawful-replacement m k a knows new allowed idle None found = tt
lawful-replacement m k a knows new allowed idle (Some victim) found =
    let at = least_recent-mapped m k.recency (is_idle a.busy.now) victim knows found in
    if_true m a _ _ (λ _. record { allowed = allowed; names = (new, at.0); idle = (not_so _ at.1, idle) })

lawful-way_in : (m : Holdings) (k : Knowledge) (a : Settled) → WasTold k m → IsUnmapped m a.block.0 → a.mode ≢ Passthrough → is_busy a.busy.now a.block.0 ≡ false
    → (free : Option CBlock) → a.least_free ≡ free → IfSome (way_in k a free) (IsLawful a.mode m a.least_free a.busy.now)
lawful-way_in m k a knows new allowed idle (Some c) is = if_true m a _ _ (λ _. record { allowed = allowed; names = (new, is); idle = idle })
lawful-way_in m k a knows new allowed idle None is = lawful-replacement m k a knows new allowed idle _ refl

pub lawful-decided : (m : Holdings) (k : Knowledge) (a : Settled) → WasTold k m → IsUnmapped m a.block.0
    → IfSome (decided k a) (IsLawful a.mode m a.least_free a.busy.now)
lawful-decided m k a knows new = by (may_come_in k a) refl
  where
    by : (b : Bool) → may_come_in k a ≡ b → IfSome (cond b (way_in k a a.least_free) None) (IsLawful a.mode m a.least_free a.busy.now)
    by true h =
        let parts = and_true _ _ h in
        let others = and_true _ _ parts.1 in
        lawful-way_in m k a knows new (not_passthrough a.mode parts.0) (not_so _ others.0) a.least_free refl
    by false h = tt

lawful-write_back : (m : Holdings) (k : Knowledge) (t : Tick) → WasTold k m → t.mode ≢ Passthrough
    → (o : Option (ℕ × ℕ)) → least_recent (is_dirty_and_idle t.busy.now t.dirty.now) k.recency ≡ o
    → IfSome (write_back k t o) (IsLawful t.mode m None t.busy.now)
lawful-write_back m k t knows allowed None found = tt
lawful-write_back m k t knows allowed (Some e) found =
    let at = least_recent-mapped m k.recency (is_dirty_and_idle t.busy.now t.dirty.now) e knows found in
    let passes = and_true _ _ at.1 in
    by (nat_le k.block_sectors t.room) (record { allowed = allowed; names = (e.1, at.0); idle = not_so _ passes.1 })
  where
    by : (b : Bool) → IsLawful t.mode m None t.busy.now (Clean (record { 0 = e.0 })) → IfSome (cond b (Some (Clean (record { 0 = e.0 }))) None) (IsLawful t.mode m None t.busy.now)
    by true h = h
    by false h = tt

pub lawful-cleaned : (m : Holdings) (k : Knowledge) (t : Tick) (given : ℕ) → WasTold k m → IfSome (cleaned k t given) (IsLawful t.mode m None t.busy.now)
lawful-cleaned m k t given knows = by (not (is_passthrough t.mode) && nat_eq given 0) refl
  where
    by : (b : Bool) → (not (is_passthrough t.mode) && nat_eq given 0) ≡ b
        → IfSome (cond b (write_back k t (least_recent (is_dirty_and_idle t.busy.now t.dirty.now) k.recency)) None) (IsLawful t.mode m None t.busy.now)
    by true h = lawful-write_back m k t knows (not_passthrough t.mode (and_true _ _ h).0) _ refl
    by false h = tt
