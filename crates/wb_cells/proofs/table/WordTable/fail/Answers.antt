use Rattle.wb_cells.proofs.Allowed.{allow_fail}
use Rattle.wb_cells.proofs.table.WordTable.fail.Goals as goal

pub set_bit-requires-clause-rule : goal.set_bit-requires-clause-rule
set_bit-requires-clause-rule c = allow_fail c.args.self.now.blocks c.args.self.now.table.shared.table_id.slots c.args.seat.now.id c.args.seat.now.me c.args.actor c.requires.actor c.args.bit c.value.result c.value.ensures
