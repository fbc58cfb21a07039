-- The law of every policy: which orders it may give, and of which blocks.
use Rattle.std.specs.Prelude.{◌≡◌, ◌≢◌, ℕ, Bool, false, List, Option, Some, slice_get, map, Contains}
use Rattle.std.specs.Option.{option_map}
use Rattle.wb_types.specs.declared.entry.Entry.{Entry}
use Rattle.wb_types.specs.declared.mode.Mode.{Mode}
use Rattle.wb_types.specs.declared.mode.Mode.TheVariants.{Passthrough}
use Rattle.wb_types.specs.declared.number.CBlock.{CBlock}
use Rattle.wb_types.specs.declared.number.OBlock.{OBlock}
use Rattle.wb_policy.specs.declared.order.Order.{Order}
use Rattle.wb_policy.specs.declared.order.Order.TheVariants.{Promote, Replace, Demote, Clean}
use Rattle.wb_policy.specs.Situations.{is_busy}

-- which origin block each cache block holds
abbrev pub Holdings : Type 0
Holdings = List (Option ℕ)

-- the origin blocks of a list of entries
abbrev pub origins : List (Option Entry) → Holdings
origins entries = map (option_map (λ e. e.origin.0)) entries

abbrev pub IsMappedAt : Holdings → ℕ → ℕ → Type 0
IsMappedAt mapping block at = slice_get mapping at ≡ Some (Some block)

abbrev pub IsUnmapped : Holdings → ℕ → Type 0
IsUnmapped mapping block = (at : ℕ) → slice_get mapping at ≢ Some (Some block)

-- no origin block stands twice
abbrev pub IsMapping : Holdings → Type 0
IsMapping mapping = (block at other : ℕ) → IsMappedAt mapping block at → IsMappedAt mapping block other → at ≡ other

-- the blocks that an order names, and what they are to be: a promotion brings an unmapped block into the free
-- cache block that was told; a replacement brings one into the cache block of the mapped block that it demotes;
-- only a mapped block is demoted or cleaned
abbrev pub NamesLawfully : Holdings → Option CBlock → Order → Type 0
NamesLawfully mapping free (Promote b c) = IsUnmapped mapping b.0 × (free ≡ Some c)
NamesLawfully mapping free (Replace v x c) = IsUnmapped mapping x.0 × IsMappedAt mapping v.0 c.0
NamesLawfully mapping free (Demote b) = (at : ℕ) × IsMappedAt mapping b.0 at
NamesLawfully mapping free (Clean b) = (at : ℕ) × IsMappedAt mapping b.0 at

-- no block of an order has a live order
abbrev pub HasNoLiveOrder : List Bool → Order → Type 0
HasNoLiveOrder busy (Promote b c) = is_busy busy b.0 ≡ false
HasNoLiveOrder busy (Replace v x c) = (is_busy busy v.0 ≡ false) × (is_busy busy x.0 ≡ false)
HasNoLiveOrder busy (Demote b) = is_busy busy b.0 ≡ false
HasNoLiveOrder busy (Clean b) = is_busy busy b.0 ≡ false

-- The law of every policy: what an order may name, by mode, mapping, free cache block and live orders.
pub record IsLawful (mode : Mode) (mapping : Holdings) (free : Option CBlock) (busy : List Bool) (order : Order) : Type 0 where
  pub allowed : mode ≢ Passthrough
  pub names : NamesLawfully mapping free order
  pub idle : HasNoLiveOrder busy order

-- each block seen dirty stands in its cache block
abbrev pub AreMapped : Holdings → List (CBlock × OBlock) → Type 0
AreMapped mapping dirty = (at : CBlock) (block : OBlock) → Contains dirty (at, block) → IsMappedAt mapping block.0 at.0
