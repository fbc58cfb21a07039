-- The mapping that an opening goes by.
use Rattle.std.proofs.Common.{arith, ◌≡◌, ◌∙◌, ◌<◌, ◌≤◌, ℕ, zero, suc, Bool, true, false, List, [], ◌∷◌, Option, Some, None, get_or, length, refl, sym, ap}
use Rattle.std.proofs.lemmas.List.{ext_get_or, length-map, get_or-map}
use Rattle.wb_types.specs.declared.entry.Entry.{Entry}
use Rattle.wb_tree.specs.Mapping.{IsMapping}
use Rattle.wb_dirty.specs.ImageReading.{entries_with, with_bits}
use Rattle.wb_policy.specs.Law.{origins}
use Rattle.wb_target.specs.Opening.{opened_entry, opened_mapping}

pub opened_list : (clean : Bool) (entries told : List (Option Entry)) → length told ≡ length entries
    → ((k : ℕ) → k < length told → get_or told k None ≡ opened_entry clean (get_or entries k None)) → told ≡ opened_mapping clean entries
opened_list clean entries told s each = ext_get_or None told (opened_mapping clean entries) (omega (arith, s, length-map entries (opened_entry clean)))
    (λ k l. each k l ∙ sym (get_or-map (opened_entry clean) entries k None None (omega (arith, l, s))))

-- the same blocks are mapped
pub same_origins : (clean : Bool) (entries : List (Option Entry)) → origins (opened_mapping clean entries) ≡ origins entries
same_origins clean [] = refl
same_origins clean (None ∷ entries) = ap (λ xs. None ∷ xs) (same_origins clean entries)
same_origins true (Some e ∷ entries) = ap (λ xs. Some e.origin.0 ∷ xs) (same_origins true entries)
same_origins false (Some e ∷ entries) = ap (λ xs. Some e.origin.0 ∷ xs) (same_origins false entries)

origins_bits : (bits : List Bool) (entries : List (Option Entry)) → origins (entries_with bits entries) ≡ origins entries
unfolding entries_with
origins_bits bits [] = refl
origins_bits [] (None ∷ entries) = ap (λ xs. None ∷ xs) (origins_bits [] entries)
origins_bits [] (Some e ∷ entries) = ap (λ xs. Some e.origin.0 ∷ xs) (origins_bits [] entries)
origins_bits (bit ∷ bits) (None ∷ entries) = ap (λ xs. None ∷ xs) (origins_bits bits entries)
origins_bits (bit ∷ bits) (Some e ∷ entries) = ap (λ xs. Some e.origin.0 ∷ xs) (origins_bits bits entries)

-- and with their dirty bits too
pub origins-with_bits : (bits : Option (List Bool)) (entries : List (Option Entry)) → origins (with_bits bits entries) ≡ origins entries
origins-with_bits None entries = refl
origins-with_bits (Some bits) entries = origins_bits bits entries

abbrev hint_in : Option Entry → ℕ
hint_in None = 0
hint_in (Some e) = e.hint

-- an entry as it is opened was there, of the same block, with no lesser hint
opened_there : (clean : Bool) (entries : List (Option Entry)) (at : ℕ) (e : Entry) → get_or (opened_mapping clean entries) at None ≡ Some e
    → (was : Entry) × (get_or entries at None ≡ Some was) × (e.origin ≡ was.origin) × (e.hint ≤ was.hint)
opened_there clean [] at e h = absurd cc
opened_there clean (None ∷ entries) zero e h = absurd cc
opened_there true (Some was ∷ entries) zero e h = let same : was.hint ≡ e.hint = ap hint_in h in (was, refl, cc, omega (arith, same))
opened_there false (Some was ∷ entries) zero e h = let same : 0 ≡ e.hint = ap hint_in h in (was, refl, cc, omega (arith, same))
opened_there clean (x ∷ entries) (suc at) e h = opened_there clean entries at e h

-- it is a mapping too
pub opened_is_mapping : (clean : Bool) (n m : ℕ) (entries : List (Option Entry)) → IsMapping n m entries → IsMapping n m (opened_mapping clean entries)
opened_is_mapping clean n m entries mapping = record {
  size = length-map entries (opened_entry clean) ∙ mapping.size;
  within = within;
  once = once;
}
  where
    within : (block : ℕ) (e : Entry) → get_or (opened_mapping clean entries) block None ≡ Some e → (e.origin.0 < m) × (e.hint ≤ 16)
    within block e h =
        let was = opened_there clean entries block e h in
        let may = mapping.within block was.0 was.1 in
        (omega (arith, may.0, ap (λ o. o.0) was.2), omega (arith, may.1, was.3))

    once : (block other : ℕ) (e same : Entry) → get_or (opened_mapping clean entries) block None ≡ Some e → get_or (opened_mapping clean entries) other None ≡ Some same → e.origin ≡ same.origin → block ≡ other
    once block other e same p q o =
        let x = opened_there clean entries block e p in
        let y = opened_there clean entries other same q in
        mapping.once block other x.0 y.0 x.1 y.1 (sym x.2 ∙ o ∙ y.2)
