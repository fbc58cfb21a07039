-- What each call makes of a desk.
use Rattle.std.specs.Prelude.{Bool, List, slice_set}
use Rattle.wb_types.specs.declared.number.CBlock.{CBlock}
use Rattle.wb_policy.specs.declared.order.Order.{Order}
use Rattle.wb_policy.specs.declared.order.Order.TheVariants.{Promote, Replace, Demote, Clean}
use Rattle.wb_space.specs.declared.block.Block.{Block}
use Rattle.wb_space.specs.declared.block.Block.TheVariants.{Reserved}
use Rattle.wb_space.specs.Blocks.{state, released as block_released}
use Rattle.wb_orders.specs.Orders.{with_order, without_order, next_taken}
use Rattle.wb_desk.specs.Desks.{DeskState, sectors_asked}

abbrev pub blocks_reserved : List Block → Order → List Block
blocks_reserved blocks (Promote b c) = slice_set blocks c.0 Reserved
blocks_reserved blocks (Replace v x c) = blocks
blocks_reserved blocks (Demote b) = blocks
blocks_reserved blocks (Clean b) = blocks

-- one order more, in this cache block, which waits or is taken at once
abbrev pub reserved : {P : Type 0} → DeskState P → CBlock → Order → Bool → DeskState P
reserved d cache order waits = record d {
  space = record d.space { blocks = blocks_reserved d.space.blocks order };
  orders = with_order d.orders cache (record {
    order = order;
    sectors = sectors_asked d.geometry order;
    threshold = d.threshold;
    number = d.orders.given;
    waits = waits;
  });
}

-- the order of this cache block is given up
abbrev pub released : {P : Type 0} → DeskState P → CBlock → DeskState P
released d cache = record d {
  space = record d.space { blocks = slice_set d.space.blocks cache.0 (block_released (state d.space.blocks cache.0)) };
  orders = without_order d.orders cache;
}

-- the order that waits longest is taken
abbrev pub next_order_taken : {P : Type 0} → DeskState P → DeskState P
next_order_taken d = record d { orders = next_taken d.orders }
