use Rattle.std.proofs.Common.{rules}
use Rattle.wb_orders.proofs.Stored.{stored_new}
use Rattle.wb_orders.proofs.live_orders.LiveOrders.new.Goals as goal

pub invariant_of-result : goal.invariant_of-result
invariant_of-result c = stored_new c.args.cache_blocks c.args.origin_blocks _ _ _ (search rules) (search rules) c.in_ok-with_capacity.ensures
