use Rattle.std.proofs.Common.{[], refl}
use Rattle.wb_target.proofs.office.Office.take_order.Goals as goal

-- of a desk on which none waits
pub returns-then-geometry-sizes-clause-next : goal.returns-then-geometry-sizes-clause-next
returns-then-geometry-sizes-clause-next g c = let d = c.args.self.now.desk in let orders = d.orders in (record d { orders = record orders { waiting = [] } }, refl)
