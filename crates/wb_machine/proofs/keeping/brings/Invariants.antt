use Rattle.std.proofs.Common.{Contains, drop}
use Rattle.wb_types.specs.declared.number.OBlock.{OBlock}
use Rattle.wb_policy.specs.declared.order.Order.TheVariants.{Replace}
use Rattle.wb_machine.proofs.keeping.brings.Given as goal

-- what brings it there stands where none was looked at yet
abbrev pub invariant-loop-kept : goal.invariant-loop-kept
invariant-loop-kept l = (old : OBlock) → Contains l.orders (Replace old l.block l.cache) → Contains (drop l.kept-index l.orders) (Replace old l.block l.cache)
