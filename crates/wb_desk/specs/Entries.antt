-- What a desk is after an entry came or went, and when one may.
use Rattle.std.specs.Prelude.{◌≡◌, ◌+◌, ◌%◌, ◌^◌, ℕ, Bool, true, false, if◌then◌else◌, Option, Some, None, slice_get, slice_set}
use Rattle.wb_types.specs.declared.entry.Entry.{Entry}
use Rattle.wb_types.specs.declared.number.CBlock.{CBlock}
use Rattle.wb_types.specs.declared.number.OBlock.{OBlock}
use Rattle.wb_tree.specs.Mapping.{Mapping}
use Rattle.wb_tree.specs.Edits.{IsChangedAt}
use Rattle.wb_policy.specs.declared.order.Order.{Order}
use Rattle.wb_policy.specs.declared.order.Order.TheVariants.{Promote, Replace, Demote, Clean}
use Rattle.wb_policy.specs.Law.{IsMappedAt}
use Rattle.wb_space.specs.declared.block.Block.TheVariants.{Mapped, Reserved, Quarantined}
use Rattle.wb_orders.specs.declared.live_order.LiveOrder.{LiveOrder}
use Rattle.wb_orders.specs.Orders.{Orders, order_at, without_order}
use Rattle.wb_desk.specs.Desks.{DeskState, holdings}

-- ---- an entry comes

-- the entry of a block that was promoted
abbrev pub entry_of : OBlock → Entry
entry_of b = record { origin = b; dirty = false; hint = 0 }

-- the order brings this block into its cache block
abbrev pub Brings : OBlock → Order → Type 0
Brings b (Promote x c) = x ≡ b
Brings b (Replace v x c) = x ≡ b
Brings b (Demote x) = ⊥
Brings b (Clean x) = ⊥

-- A block may be mapped to a cache block: an order that somebody has taken brings it there, and the cache block is reserved.
pub record MayMap {P : Type 0} (d : DeskState P) (b : OBlock) (c : CBlock) : Type 0 where
  pub live : LiveOrder
  pub there : order_at d.orders.slots c.0 ≡ Some live
  pub taken : live.waits ≡ false
  pub brings : Brings b live.order
  pub reserved : slice_get d.space.blocks c.0 ≡ Some Reserved

-- the cache block is mapped, and its order is over
abbrev pub mapped : {P : Type 0} → DeskState P → CBlock → Mapping → P → DeskState P
mapped d c tree policy = record d {
  tree = tree;
  space = record d.space { blocks = slice_set d.space.blocks c.0 Mapped };
  orders = without_order d.orders c;
  policy = policy;
  promotions = (d.promotions + 1) % 2 ^ 64;
}

-- A block has an entry now, which is clean and has no hint, and the policy was told.
abbrev pub HasEntered : {P : Type 0} → (P → ℕ → ℕ → P) → DeskState P → OBlock → CBlock → DeskState P → Type 0
HasEntered with_entry d b c new =
    IsChangedAt d.tree new.tree c.0 (Some (entry_of b)) × (new ≡ mapped d c new.tree (with_entry d.policy b.0 c.0))

-- ---- an entry goes

abbrev pub is_replacement : Order → Bool
is_replacement (Promote b c) = false
is_replacement (Replace v x c) = true
is_replacement (Demote b) = false
is_replacement (Clean b) = false

-- under these orders the entry of their cache block goes
abbrev pub Removes : Order → Type 0
Removes (Promote b c) = ⊥
Removes (Replace v x c) = Unit {0}
Removes (Demote b) = Unit {0}
Removes (Clean b) = ⊥

-- under no order, or under one that somebody has taken
abbrev pub IsRemoved : Option LiveOrder → Type 0
IsRemoved None = Unit {0}
IsRemoved (Some o) = (o.waits ≡ false) × Removes o.order

-- A block may be unmapped: it is mapped, and under the order of its cache block it goes.
pub record MayUnmap {P : Type 0} (d : DeskState P) (b : OBlock) : Type 0 where
  pub cache : CBlock
  pub mapped : IsMappedAt (holdings d) b.0 cache.0
  pub removed : IsRemoved (order_at d.orders.slots cache.0)

-- a replacement keeps the cache block that its victim leaves
abbrev pub keeps : Option LiveOrder → Bool
keeps None = false
keeps (Some o) = is_replacement o.order

abbrev pub orders_past : Option LiveOrder → Orders → CBlock → Orders
orders_past None orders c = orders
orders_past (Some o) orders c = if is_replacement o.order then orders else without_order orders c

-- a replacement lives on, another order is over
abbrev pub orders_left : Orders → CBlock → Orders
orders_left orders c = orders_past (order_at orders.slots c.0) orders c

-- the cache block is quarantined, and no commit has begun since
abbrev pub unmapped : {P : Type 0} → DeskState P → CBlock → Mapping → P → DeskState P
unmapped d c tree policy = record d {
  tree = tree;
  space = record d.space { blocks = slice_set d.space.blocks c.0 (Quarantined (keeps (order_at d.orders.slots c.0)) false) };
  orders = orders_left d.orders c;
  policy = policy;
  demotions = (d.demotions + 1) % 2 ^ 64;
}

-- A block has no entry any more, and the policy was told.
abbrev pub HasLeft : {P : Type 0} → (P → ℕ → P) → DeskState P → OBlock → CBlock → DeskState P → Type 0
HasLeft without_entry d b c new =
    IsChangedAt d.tree new.tree c.0 None × (new ≡ unmapped d c new.tree (without_entry d.policy b.0))
