use Rattle.std.proofs.Common.{◌≡◌, ◌++◌, drop, map}
use Rattle.wb_orders.specs.Named.{first_of}
use Rattle.wb_machine.proofs.keeping.blocks_left.Given as goal

-- behind those that were noted are those that were not looked at yet
abbrev pub invariant-loop-order : goal.invariant-loop-order
invariant-loop-order l = l.blocks.items ++ map first_of (drop l.order-index l.orders) ≡ map first_of l.orders
