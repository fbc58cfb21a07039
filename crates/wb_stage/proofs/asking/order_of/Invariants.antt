use Rattle.std.proofs.Common.{◌≡◌, drop}
use Rattle.wb_stage.specs.Asking.{order_of}
use Rattle.wb_stage.proofs.asking.order_of.Given as goal

abbrev pub invariant-loop-order : goal.invariant-loop-order
invariant-loop-order l = order_of l.block (drop l.order-index l.held) ≡ order_of l.block l.held
