use Rattle.wb_cells.proofs.Allowed.{allow_finish}
use Rattle.wb_cells.proofs.table.WordTable.finish.Goals as goal

pub add_write-requires-clause-rule : goal.add_write-requires-clause-rule
add_write-requires-clause-rule c = allow_finish c.args.self.now.blocks c.args.self.now.table.shared.table_id.slots c.args.seat.now.id c.args.seat.now.me c.args.actor c.requires.actor c.args.block c.requires.room.0 c.requires.block c.requires.owns c.requires.room.1 c.requires.room.2
