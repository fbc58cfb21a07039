use Rattle.std.proofs.Common.{arith}
use Rattle.wb_policy.specs.declared.order.Order.TheVariants.{Replace}
use Rattle.wb_machine.proofs.Kept.{none_past, stands_past}
use Rattle.wb_machine.proofs.keeping.brings.Goals as goal

pub loop-kept-preserved : goal.loop-kept-preserved
loop-kept-preserved c = λ old h. stands_past c.args.orders.now c.loop-kept.kept-index _ (Replace old c.args.block c.args.cache) (omega (arith, c.loop-kept-test.true)) (c.if-is_bringing.ensures.other old) (c.loop-kept.invariant old h)

pub returns-clause-other : goal.returns-clause-other
returns-clause-other c = λ old h. none_past c.args.orders.now c.loop-kept.kept-index (Replace old c.args.block c.args.cache) (omega (arith, c.loop-kept-test.false)) (c.loop-kept.invariant old h)
