-- TinyLFU: what it orders at an access and at a tick, by frequency and recency.
use Rattle.std.specs.Prelude.{◌≡◌, ℕ, ◌*◌, nat_eq, nat_le, nat_lt, Bool, ◌&&◌, not, if◌then◌else◌, List, [], ◌∷◌, Option, Some, None, is_some}
use Rattle.std.specs.Map.{lookup}
use Rattle.wb_sketch.specs.Frequencies.{Frequencies, accessed, empty, estimate_of}
use Rattle.wb_types.specs.declared.entry.Entry.{Entry}
use Rattle.wb_types.specs.declared.geometry.Geometry.{Geometry}
use Rattle.wb_types.specs.declared.message.Key.{Key}
use Rattle.wb_types.specs.declared.message.Key.TheVariants.{MigrationThreshold, PromoteMin}
use Rattle.wb_types.specs.declared.number.CBlock.{CBlock}
use Rattle.wb_policy.specs.declared.order.Order.{Order}
use Rattle.wb_policy.specs.declared.order.Order.TheVariants.{Promote, Replace, Clean}
use Rattle.wb_policy.specs.declared.situation.Settled.{Settled}
use Rattle.wb_policy.specs.declared.situation.Tick.{Tick}
use Rattle.wb_policy.specs.Law.{Holdings}
use Rattle.wb_policy.specs.Placing.{IsPlacedByHint}
use Rattle.wb_policy.specs.Situations.{is_busy, is_passthrough}
use Rattle.wb_policy.specs.Recency.{Recency, AgreesWith, used, least_recent, is_idle, is_dirty_and_idle}

-- What the policy goes by: the accesses so far, as the sketch counts them; the mapped blocks by recency; the least
-- estimate at which a block is promoted; the sectors of a block.
pub record Knowledge : Type 0 where
  pub frequencies : Frequencies
  pub recency : Recency
  pub promote_min : ℕ
  pub block_sectors : ℕ

-- it begins with no access so far, the mapped blocks placed by hint, and a `promote_min` of 2
abbrev pub BeginsWith : Geometry → List (Option Entry) → Knowledge → Type 0
BeginsWith geometry entries k =
    (k.frequencies ≡ empty geometry.cache_blocks) × IsPlacedByHint entries k.recency × (k.promote_min ≡ 2) × (k.block_sectors ≡ geometry.block)

-- an access counts in the sketch, and a mapped block becomes the most recent
abbrev pub after_access : Knowledge → ℕ → Knowledge
after_access k block = record k { frequencies = accessed k.frequencies block; recency = used block k.recency }

-- after these accesses, in their order
abbrev pub known_after_all : Knowledge → List ℕ → Knowledge
known_after_all k [] = k
known_after_all k (block ∷ blocks) = known_after_all (after_access k block) blocks

abbrev pub knows_mapped : Knowledge → ℕ → Bool
knows_mapped k block = is_some (lookup (nat_eq block) k.recency)

abbrev pub estimate : Knowledge → ℕ → ℕ
estimate k block = estimate_of k.frequencies block

-- whether an unmapped block may come in: not in passthrough, not with a live order, not below `promote_min`
abbrev pub may_come_in : Knowledge → Settled → Bool
may_come_in k a =
    not (is_passthrough a.mode) && (not (is_busy a.busy.now a.block.0) && nat_le k.promote_min (estimate k a.block.0))

-- into the least free cache block, where there is room for one
abbrev pub promotion : Knowledge → Settled → CBlock → Option Order
promotion k a free = if nat_le k.block_sectors a.room then Some (Promote a.block free) else None

-- in place of the victim, where the estimate is greater than the victim's and there is room for two
abbrev pub replacing_order : Knowledge → Settled → Option (ℕ × ℕ) → Option Order
replacing_order k a None = None
replacing_order k a (Some victim) =
    if nat_lt (estimate k victim.0) (estimate k a.block.0) && nat_le (2 * k.block_sectors) a.room
    then Some (Replace (record { 0 = victim.0 }) a.block (record { 0 = victim.1 })) else None

-- a promotion where a cache block is free; else a replacement of the least recently used block without a live order
abbrev pub way_in : Knowledge → Settled → Option CBlock → Option Order
way_in k a (Some free) = promotion k a free
way_in k a None = replacing_order k a (least_recent (is_idle a.busy.now) k.recency)

abbrev pub decided : Knowledge → Settled → Option Order
decided k a = if may_come_in k a then way_in k a a.least_free else None

-- The order at an access: none for a mapped block; else as is decided once the access has counted.
abbrev pub ordered : Knowledge → Settled → Option Order
ordered k a = if knows_mapped k a.block.0 then None else decided (after_access k a.block.0) a

-- write-back of a block that was found, where there is room for one
abbrev pub write_back : Knowledge → Tick → Option (ℕ × ℕ) → Option Order
write_back k t None = None
write_back k t (Some e) = if nat_le k.block_sectors t.room then Some (Clean (record { 0 = e.0 })) else None

-- The order at a tick that has given so many: the write-back of the least recently used block that was seen dirty and
-- has no live order. One at most, and none in passthrough.
abbrev pub cleaned : Knowledge → Tick → ℕ → Option Order
cleaned k t given =
    if not (is_passthrough t.mode) && nat_eq given 0
    then write_back k t (least_recent (is_dirty_and_idle t.busy.now t.dirty.now) k.recency) else None

-- `promote_min` is 1 to 17
abbrev pub with_setting : Knowledge → Key → ℕ → Option Knowledge
with_setting k MigrationThreshold value = None
with_setting k PromoteMin value = if nat_le 1 value && nat_le value 17 then Some (record k { promote_min = value }) else None

-- it was told of this mapping
abbrev pub WasTold : Knowledge → Holdings → Type 0
WasTold k mapping = AgreesWith mapping k.recency
