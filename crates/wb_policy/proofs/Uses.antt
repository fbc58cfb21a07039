-- Recency as the library's list keeps it.
use Rattle.std.proofs.Common.{◌≡◌, ℕ, ◌<◌, ◌≤◌, ◌-◌, Bool, true, false, List, [], ◌∷◌, ◌++◌, length, take, reverse, nat_eq, ◌==◌, Option, Some, None, refl, sym, ap, arith}
use Rattle.std.specs.Map.{lookup_entry, remove_entry}
use Rattle.std.specs.Option.{option_map_or}
use Rattle.std.specs.List.{find}
use Rattle.std.proofs.lemmas.List.{take_all, reverse-append}
use Rattle.std.proofs.lemmas.List.Folds.{find-append}
use Rattle.std.proofs.lemmas.Bool.Decides.{nat_tests}
use Rattle.lru.specs.LruCache.{LruCache, put_entries}
use Rattle.lru.proofs.CallerLemmas.{Contains-lookup_entry}
use Rattle.wb_types.specs.declared.number.CBlock.{CBlock}
use Rattle.wb_types.specs.declared.number.OBlock.{OBlock}
use Rattle.wb_policy.specs.Recency.{newly_mapped, least_recent, is_dirty_and_idle}

-- where no key passes nothing is removed
pub unremoved : {K V : Type 0} (test : K → Bool) (es : List (K × V)) → lookup_entry test es ≡ None → remove_entry test es ≡ es
unremoved test [] h = refl
unremoved test (e ∷ es) h = kept test e es (test e.0) refl h (λ g. unremoved test es g)
  where
    kept : {K V : Type 0} (test : K → Bool) (e : K × V) (es : List (K × V)) (b : Bool) → test e.0 ≡ b → lookup_entry test (e ∷ es) ≡ None
        → (lookup_entry test es ≡ None → remove_entry test es ≡ es) → remove_entry test (e ∷ es) ≡ e ∷ es
    kept test e es true t h rest = let clash = rw t at h in cc
    kept test e es false t h rest = rw t (ap (λ r. e ∷ r) (rest (rw t at h)))

nat_same : (a b : ℕ) → nat_eq a b ≡ true → a ≡ b
nat_same a b h = grind (arith, nat_tests)

-- what is removed makes the list no longer
pub removed_within : {K V : Type 0} (test : K → Bool) (es : List (K × V)) → length (remove_entry test es) ≤ length es
removed_within test [] = omega arith
removed_within test (e ∷ es) = by (test e.0) refl (removed_within test es)
  where
    by : (b : Bool) → test e.0 ≡ b → length (remove_entry test es) ≤ length es → length (remove_entry test (e ∷ es)) ≤ length (e ∷ es)
    by true t rest = rw t (omega arith)
    by false t rest = rw t (omega (arith, rest))

-- what is put is the most recent, and no other goes out while there is room
pub put-is : (c : LruCache ℕ ℕ) (block at : ℕ) → length c.entries < c.cap → put_entries nat_eq c block at ≡ newly_mapped block at c.entries
put-is c block at room = by (lookup_entry (nat_eq block) c.entries) refl
  where
    by : (o : Option (ℕ × ℕ)) → lookup_entry (nat_eq block) c.entries ≡ o
        → option_map_or (λ e. (e.0, at) ∷ remove_entry (nat_eq block) c.entries) o ((block, at) ∷ take (c.cap - 1) c.entries) ≡ newly_mapped block at c.entries
    by None none =
        rw (unremoved (nat_eq block) c.entries none) (ap (λ es. (block, at) ∷ es) (take_all (c.cap - 1) c.entries (omega arith)))
    by (Some e) some =
        let same = nat_same block e.0 (Contains-lookup_entry (nat_eq block) c.entries e some).1 in
        ap (λ k. (k, at) ∷ remove_entry (nat_eq block) c.entries) (sym same)

-- a walk from the least recent end: what was seen does not pass, and the next one does
pub walk_finds : (test : ℕ × ℕ → Bool) (all rest seen : List (ℕ × ℕ)) (e : ℕ × ℕ) → all ≡ (rest ++ e ∷ []) ++ seen
    → find test (reverse seen) ≡ None → test e ≡ true → least_recent test all ≡ Some e
walk_finds test all rest seen e split none passes =
    rw (split, reverse-append (rest ++ e ∷ []) seen, reverse-append rest (e ∷ []), find-append test (reverse seen) _, none, passes) refl

-- and the next one does not
pub walk_goes_on : (test : ℕ × ℕ → Bool) (seen : List (ℕ × ℕ)) (e : ℕ × ℕ) → find test (reverse seen) ≡ None → test e ≡ false
    → find test (reverse (e ∷ seen)) ≡ None
walk_goes_on test seen e none fails =
    rw (reverse-append (e ∷ []) seen, find-append test (reverse seen) _, none, fails) refl

none_passes : (test : ℕ × ℕ → Bool) (es : List (ℕ × ℕ)) → ((e : ℕ × ℕ) → test e ≡ false) → find test es ≡ None
none_passes test [] fails = refl
none_passes test (e ∷ es) fails = rw (fails e) (none_passes test es fails)

-- where nothing was seen dirty nothing is to be cleaned
pub none_dirty : (busy : List Bool) (dirty : List (CBlock × OBlock)) (recency : List (ℕ × ℕ)) → (length dirty == 0) ≡ true
    → least_recent (is_dirty_and_idle busy dirty) recency ≡ None
none_dirty busy [] recency none = none_passes _ (reverse recency) (λ e. refl)
none_dirty busy (d ∷ dirty) recency none = absurd (grind (arith, nat_tests))
