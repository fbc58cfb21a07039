use Rattle.wb_cells.proofs.Allowed.{allow_look}
use Rattle.wb_cells.proofs.table.WordTable.look.Goals as goal

pub load-requires-clause-rule : goal.load-requires-clause-rule
load-requires-clause-rule c = allow_look c.args.self.now.blocks c.args.self.now.table.shared.table_id.slots c.args.seat.now.id c.args.seat.now.me c.args.actor c.requires.actor c.args.word c.requires.word
