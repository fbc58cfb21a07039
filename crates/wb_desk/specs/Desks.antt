-- What a caller sees of a desk, and what holds of it.
use Rattle.std.specs.Prelude.{◌≡◌, ◌≢◌, ◌<◌, ◌≤◌, ◌+◌, ◌*◌, ◌%◌, ◌^◌, ◌⊎◌, ℕ, Bool, true, false, List, Option, Some, None, is_some, length, slice_get, slice_index_or}
use Rattle.std.specs.List.{count_by}
use Rattle.wb_types.specs.declared.entry.Entry.{Entry}
use Rattle.wb_types.specs.declared.geometry.Geometry.{Geometry}
use Rattle.wb_types.specs.declared.mode.Mode.{Mode}
use Rattle.wb_types.specs.declared.mode.Mode.TheVariants.{Passthrough}
use Rattle.wb_types.specs.declared.number.CBlock.{CBlock}
use Rattle.wb_tree.specs.Images.{kept_tree}
use Rattle.wb_tree.specs.Mapping.{Mapping, IsMapping}
use Rattle.wb_policy.specs.declared.order.Order.{Order}
use Rattle.wb_policy.specs.declared.order.Order.TheVariants.{Promote, Replace, Demote, Clean}
use Rattle.wb_policy.specs.Law.{Holdings, origins, IsMappedAt, IsUnmapped}
use Rattle.wb_space.specs.declared.block.Block.{Block}
use Rattle.wb_space.specs.declared.block.Block.TheVariants.{Free, Mapped, Reserved, Quarantined}
use Rattle.wb_space.specs.Blocks.{state, IsClaimed}
use Rattle.wb_space.specs.Spaces.{Spaces}
use Rattle.wb_orders.specs.declared.live_order.LiveOrder.{LiveOrder}
use Rattle.wb_orders.specs.Orders.{Orders, MayGive, order_at}
use Rattle.wb_desk.specs.InUse.{PlacesInvariant}

pub record DeskState (P : Type 0) : Type 0 where
  pub geometry : Geometry
  pub mode : Mode
  -- the entries, and where nodes are known to stand
  pub tree : Mapping
  -- the states of the cache blocks, the places in use, and whether a commit runs
  pub space : Spaces
  pub orders : Orders
  pub policy : P
  -- the greatest sum of sectors that live orders may have
  pub threshold : ℕ
  -- of the root that stands
  pub generation : ℕ
  -- of the committed image, and of the one that a commit writes
  pub nodes : ℕ
  pub coming : ℕ
  -- the blocks that were mapped at the opening, and the entries that came and went since, modulo 2^64
  pub at_opening : ℕ
  pub promotions : ℕ
  pub demotions : ℕ
  -- the commits that ended since the opening; the running one's number is one more
  pub ended : ℕ
  -- whether no commit covers further flushes, as one failed
  pub broken : Bool

-- which origin block each cache block holds
abbrev pub holdings : {P : Type 0} → DeskState P → Holdings
holdings d = origins d.tree.entries

abbrev pub mapped_now : {P : Type 0} → DeskState P → ℕ
mapped_now d = count_by is_some d.tree.entries

-- the sectors that an order moves
abbrev pub sectors_asked : Geometry → Order → ℕ
sectors_asked g (Promote b c) = g.block
sectors_asked g (Replace v x c) = 2 * g.block
sectors_asked g (Demote b) = g.block
sectors_asked g (Clean b) = g.block

-- the cache block that an order takes: the one that it names, or where its block stands
abbrev pub Takes : Holdings → CBlock → Order → Type 0
Takes mapping cache (Promote b c) = cache ≡ c
Takes mapping cache (Replace v x c) = cache ≡ c
Takes mapping cache (Demote b) = IsMappedAt mapping b.0 cache.0
Takes mapping cache (Clean b) = IsMappedAt mapping b.0 cache.0

-- What an order names when it is given, and the cache block that it takes: a promotion brings an unmapped block into a
-- free one; a replacement one into that of the mapped block that it demotes; only a mapped block is demoted or cleaned.
abbrev pub IsGivenLawfully : {P : Type 0} → DeskState P → CBlock → Order → Type 0
IsGivenLawfully d cache (Promote b c) = (cache ≡ c) × (slice_get d.space.blocks c.0 ≡ Some Free) × IsUnmapped (holdings d) b.0
IsGivenLawfully d cache (Replace v x c) = (cache ≡ c) × IsMappedAt (holdings d) v.0 c.0 × IsUnmapped (holdings d) x.0
IsGivenLawfully d cache (Demote b) = IsMappedAt (holdings d) b.0 cache.0
IsGivenLawfully d cache (Clean b) = IsMappedAt (holdings d) b.0 cache.0

-- An order may be given, and takes this cache block.
pub record MayReserve {P : Type 0} (d : DeskState P) (cache : CBlock) (order : Order) : Type 0 where
  pub mode : d.mode ≢ Passthrough
  pub lawful : IsGivenLawfully d cache order
  pub give : MayGive d.orders cache order (sectors_asked d.geometry order) d.threshold

-- What an order names is so as long as it lives, given the state of its cache block: a promotion's is reserved for a block
-- that is unmapped; a replacement's has its victim, or is reserved or claimed once that was removed.
abbrev pub Names : Holdings → Block → ℕ → Order → Type 0
Names mapping block cache (Promote b c) = (cache ≡ c.0) × (block ≡ Reserved) × IsUnmapped mapping b.0
Names mapping block cache (Replace v x c) =
    (cache ≡ c.0) × IsUnmapped mapping x.0 × (IsMappedAt mapping v.0 cache ⊎ (IsUnmapped mapping v.0 × IsClaimed block))
Names mapping block cache (Demote b) = IsMappedAt mapping b.0 cache
Names mapping block cache (Clean b) = IsMappedAt mapping b.0 cache

-- a promotion's cache block is free
abbrev pub IsFreeFor : List Block → Order → Type 0
IsFreeFor blocks (Promote b c) = slice_get blocks c.0 ≡ Some Free
IsFreeFor blocks (Replace v x c) = Unit {0}
IsFreeFor blocks (Demote b) = Unit {0}
IsFreeFor blocks (Clean b) = Unit {0}

-- an order lives, and somebody has taken it
pub record IsLive {P : Type 0} (d : DeskState P) (order : Order) : Type 0 where
  pub cache : CBlock
  pub live : LiveOrder
  pub there : order_at d.orders.slots cache.0 ≡ Some live
  pub same : live.order ≡ order
  pub taken : live.waits ≡ false

abbrev pub is_mapped : Block → Bool
is_mapped Mapped = true
is_mapped Free = false
is_mapped Reserved = false
is_mapped (Quarantined claimed early) = false

abbrev pub HasOne : Option LiveOrder → Type 0
HasOne None = ⊥
HasOne (Some o) = Unit {0}

abbrev pub NamesWhatIs : Holdings → Block → ℕ → Option LiveOrder → Type 0
NamesWhatIs mapping block c None = Unit {0}
NamesWhatIs mapping block c (Some o) = Names mapping block c o.order

-- One cache block, with its entry, its state and its live order
pub record IsRight (mapping : Holdings) (c : ℕ) (entry : Option Entry) (block : Block) (slot : Option LiveOrder) : Type 0 where
  -- it is mapped exactly where it has an entry
  pub filled : is_mapped block ≡ is_some entry
  -- where it is reserved or claimed it has a live order
  pub held : IsClaimed block → HasOne slot
  pub stands : NamesWhatIs mapping block c slot

-- What holds of every desk
pub record DeskInvariant {P : Type 0} (knows : P → Holdings → Type 0) (d : DeskState P) : Type 0 where
  pub mapping : IsMapping d.geometry.cache_blocks d.geometry.origin_blocks d.tree.entries
  -- the words of the metadata's version say all of the entries
  pub keeps : kept_tree d.geometry.version d.tree ≡ d.tree
  pub blocks : length d.space.blocks ≡ d.geometry.cache_blocks
  pub slots : length d.orders.slots ≡ d.geometry.cache_blocks
  pub busy : length d.orders.busy ≡ d.geometry.origin_blocks
  pub places : PlacesInvariant d.geometry d.tree d.space.places d.space.committing d.nodes d.coming
  -- while a commit runs there is a next generation
  pub next : d.space.committing ≡ true → d.generation + 1 < 2 ^ 64
  pub each : (c : ℕ) → c < d.geometry.cache_blocks
      → IsRight (holdings d) c (slice_index_or d.tree.entries c None) (state d.space.blocks c) (order_at d.orders.slots c)
  -- promotions less demotions are the blocks mapped now less those at the opening
  pub counted : (d.at_opening + d.promotions) % 2 ^ 64 ≡ (mapped_now d + d.demotions) % 2 ^ 64
  -- each commit that ended made a generation
  pub numbered : d.ended ≤ d.generation
  -- the policy was told of the mapping
  pub known : knows d.policy (holdings d)
