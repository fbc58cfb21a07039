use Rattle.wb_cells.proofs.Allowed.{allow_count}
use Rattle.wb_cells.proofs.table.WordTable.count.Goals as goal

pub add_count-requires-clause-rule : goal.add_count-requires-clause-rule
add_count-requires-clause-rule c = allow_count c.args.self.now.blocks c.args.self.now.table.shared.table_id.slots c.args.seat.now.id c.args.seat.now.me c.args.actor c.requires.actor c.args.kind
