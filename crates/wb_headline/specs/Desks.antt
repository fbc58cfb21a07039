-- When a desk is what the abstract world has of it.
use Rattle.std.specs.Prelude.{true, false, ◌≡◌, ℕ, List, [], ◌∷◌, Option, Some, None}
use Rattle.wb_space.specs.declared.block.Block.{Block}
use Rattle.wb_space.specs.declared.block.Block.TheVariants.{Free, Mapped, Reserved, Quarantined}
use Rattle.wb_space.specs.Blocks.{state}
use Rattle.wb_policy.specs.declared.order.Order.{Order}
use Rattle.wb_orders.specs.declared.live_order.LiveOrder.{LiveOrder}
use Rattle.wb_desk.specs.Desks.{DeskState}
use Rattle.wb_link.specs.World.{Shared, Block as AbstractBlock, Free as FreeThere, Mapped as MappedThere, Reserved as ReservedThere, Quarantined as QuarantinedThere, Retained as RetainedThere}
use Rattle.wb_simulation.specs.Opened.{located}

-- The state of a cache block there. One that a replacement has claimed is retained there.
abbrev pub block_there : Block → AbstractBlock
block_there Free = FreeThere
block_there Mapped = MappedThere
block_there Reserved = ReservedThere
block_there (Quarantined true early) = RetainedThere early
block_there (Quarantined false early) = QuarantinedThere early

-- each block is mapped where the desk's tree has its entry, and each cache block is in its state
pub record DeskAgrees {P : Type 0} (desk : DeskState P) (s : Shared) : Type 0 where
  pub mapping : s.mapping ≡ located desk.tree.entries
  pub blocks : (c : ℕ) → s.blocks c ≡ block_there (state desk.space.blocks c)

-- the order that lives on a cache block, if one does
abbrev pub live_order : Option LiveOrder → Option Order
live_order None = None
live_order (Some live) = Some live.order

abbrev pub orders_living : List (Option LiveOrder) → List (Option Order)
orders_living [] = []
orders_living (slot ∷ slots) = live_order slot ∷ orders_living slots

-- the orders that live at a desk, by cache block
abbrev pub live_orders : {P : Type 0} → DeskState P → List (Option Order)
live_orders desk = orders_living desk.orders.slots
