-- What stands in lists of orders that are looked through, and which cache block a replacement is about.
use Rattle.std.proofs.Common.{◌≡◌, ◌≢◌, ◌<◌, ◌≤◌, ◌+◌, ℕ, zero, suc, List, [], ◌∷◌, sym, subst, arith, drop, length, slice_index_or, Contains, Bool, true, false, Result, Ok, Err, IfOk}
use Rattle.wb_types.specs.declared.number.OBlock.{OBlock}
use Rattle.wb_types.specs.declared.number.CBlock.{CBlock}
use Rattle.wb_policy.specs.Law.{IsMappedAt}
use Rattle.wb_policy.specs.declared.order.Order.{Order}
use Rattle.wb_policy.specs.declared.order.Order.TheVariants.{Replace}
use Rattle.wb_policy.specs.declared.quiet.Quiet.{Quiet}
use Rattle.wb_tree.specs.Mapping.{IsMapping}
use Rattle.wb_desk.specs.Desks.{DeskState, holdings}
use Rattle.wb_desk.proofs.Index.{mapped_once}
use Rattle.wb_runs.proofs.Lists.{first_or}
use Rattle.wb_promise.specs.Happenings.{KeepsReplacement}
use Rattle.std.specs.Bool.{OnFalse}

-- what is not the next element stands behind it
past : (xs : List Order) (i : ℕ) (d x : Order) → i < length xs → slice_index_or xs i d ≢ x → Contains (drop i xs) x → Contains (drop (suc i) xs) x
past [] i d x l n c = absurd (omega (arith, l))
past (y ∷ ys) zero d x l n c = first_or y x ys (Contains ys x) c (λ e. absurd (n (sym e))) (λ r. r)
past (y ∷ ys) (suc i) d x l n c = past ys i d x (omega (arith, l)) n c

pub stands_past : (xs : List Order) (i : ℕ) (d x : Order) → i < length xs → slice_index_or xs i d ≢ x → Contains (drop i xs) x → Contains (drop (i + 1) xs) x
stands_past xs i d x l n c = subst (λ (k : ℕ). Contains (drop k xs) x) (let same : suc i ≡ i + 1 = omega arith in same) (past xs i d x l n c)

-- behind the last there is none
pub none_past : (xs : List Order) (i : ℕ) (x : Order) → length xs ≤ i → Contains (drop i xs) x → ⊥
none_past [] zero x l c = absurd (omega (arith, c.1))
none_past [] (suc i) x l c = absurd (omega (arith, c.1))
none_past (y ∷ ys) zero x l c = absurd (omega (arith, l))
none_past (y ∷ ys) (suc i) x l c = none_past ys i x (omega (arith, l)) c

-- what is so where a test fails
pub on_false : (b : Bool) (P Q : Type 0) → (P → Q) → OnFalse b P → OnFalse b Q
on_false true P Q f h = tt
on_false false P Q f h = f h

-- and where something was done
pub if_ok : {T E : Type 0} (r : Result T E) (P Q : T → Type 0) → ((x : T) → P x → Q x) → IfOk r P → IfOk r Q
if_ok (Ok x) P Q f h = f x h
if_ok (Err e) P Q f h = tt

-- a replacement stands still only where its block does
pub keeps_where : (desk : DeskState Quiet) (kept : List Order) (old new : OBlock) (cache : CBlock) → IsMapping desk.geometry.cache_blocks desk.geometry.origin_blocks desk.tree.entries → IsMappedAt (holdings desk) old.0 cache.0 → KeepsReplacement desk kept old new → Contains kept (Replace old new cache)
keeps_where desk kept old new cache mapping at k =
    let same = mapped_once desk.geometry.cache_blocks desk.geometry.origin_blocks desk.tree.entries old.0 k.0.0 cache.0 mapping k.2 at in
    subst (λ (n : ℕ). Contains kept (Replace old new (record { 0 = n }))) same k.1
