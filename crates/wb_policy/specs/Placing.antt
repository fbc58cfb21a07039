-- How recent the mapped blocks are at an opening.
use Rattle.std.specs.Prelude.{◌≡◌, ℕ, ◌+◌, List, [], ◌∷◌, Option, Some, None, map}
use Rattle.std.specs.List.Sorted.{IsPermutation, IsSorted}
use Rattle.std.specs.Ordering.{nat_cmp, ordering_then}
use Rattle.std.specs.declared.cmp.Ordering.{Ordering}
use Rattle.wb_types.specs.declared.entry.Entry.{Entry}
use Rattle.wb_policy.specs.Recency.{Recency, mapped_in_order}

-- the mapped blocks from this cache block on: hint, cache block, origin block
abbrev pub mapped_from : ℕ → List (Option Entry) → List (ℕ × (ℕ × ℕ))
mapped_from at [] = []
mapped_from at (None ∷ entries) = mapped_from (at + 1) entries
mapped_from at (Some e ∷ entries) = (e.hint, (at, e.origin.0)) ∷ mapped_from (at + 1) entries

-- by hint, then by cache block
abbrev pub by_hint : ℕ × (ℕ × ℕ) → ℕ × (ℕ × ℕ) → Ordering
by_hint x y = ordering_then (nat_cmp x.0 y.0) (ordering_then (nat_cmp x.1.0 y.1.0) (nat_cmp x.1.1 y.1.1))

-- the recency at an opening: the mapped blocks by hint, then by cache block, both rising; the last is the most recent
abbrev pub IsPlacedByHint : List (Option Entry) → Recency → Type 0
IsPlacedByHint entries recency =
    (placed : List (ℕ × (ℕ × ℕ))) × IsPermutation (mapped_from 0 entries) placed × IsSorted by_hint placed
    × (recency ≡ mapped_in_order [] (map (λ p. (p.1.1, p.1.0)) placed))
