-- The mapped blocks by recency, and what becomes of it.
use Rattle.std.specs.Prelude.{◌≡◌, ℕ, nat_eq, ◌==◌, Bool, ◌&&◌, not, List, [], ◌∷◌, reverse, Option, Some}
use Rattle.std.specs.List.{find, list_any, IsDistinct}
use Rattle.std.specs.Map.{keys_of, lookup, remove_entry}
use Rattle.lru.specs.LruCache.{promoted}
use Rattle.wb_types.specs.declared.number.CBlock.{CBlock}
use Rattle.wb_types.specs.declared.number.OBlock.{OBlock}
use Rattle.wb_policy.specs.Law.{Holdings, IsMappedAt}
use Rattle.wb_policy.specs.Situations.{is_busy}

-- the mapped blocks with their cache blocks, the most recently used first
abbrev pub Recency : Type 0
Recency = List (ℕ × ℕ)

-- a mapped block that is used is the most recent; another changes nothing
abbrev pub used : ℕ → Recency → Recency
used block recency = promoted (nat_eq block) recency

-- a block newly mapped is the most recent
abbrev pub newly_mapped : ℕ → ℕ → Recency → Recency
newly_mapped block at recency = (block, at) ∷ remove_entry (nat_eq block) recency

abbrev pub no_longer_mapped : ℕ → Recency → Recency
no_longer_mapped block recency = remove_entry (nat_eq block) recency

-- these become mapped one after the other
abbrev pub mapped_in_order : Recency → List (ℕ × ℕ) → Recency
mapped_in_order recency [] = recency
mapped_in_order recency (e ∷ es) = mapped_in_order (newly_mapped e.0 e.1 recency) es

-- the least recently used of the blocks that pass
abbrev pub least_recent : (ℕ × ℕ → Bool) → Recency → Option (ℕ × ℕ)
least_recent test recency = find test (reverse recency)

-- a mapped block without a live order
abbrev pub is_idle : List Bool → ℕ × ℕ → Bool
is_idle busy e = not (is_busy busy e.0)

-- a cache block that was seen dirty
abbrev pub is_dirty : List (CBlock × OBlock) → ℕ → Bool
is_dirty dirty at = list_any (λ e. e.0.0 == at) dirty

-- a mapped block that was seen dirty, without a live order
abbrev pub is_dirty_and_idle : List Bool → List (CBlock × OBlock) → ℕ × ℕ → Bool
is_dirty_and_idle busy dirty e = is_dirty dirty e.1 && is_idle busy e

-- each mapped block stands in it once, with its cache block
pub record AgreesWith (mapping : Holdings) (recency : Recency) : Type 0 where
  pub once : IsDistinct nat_eq (keys_of recency)
  pub has : (block at : ℕ) → IsMappedAt mapping block at → lookup (nat_eq block) recency ≡ Some at
  pub stands : (block at : ℕ) → lookup (nat_eq block) recency ≡ Some at → IsMappedAt mapping block at
