use Rattle.wb_cells.proofs.Allowed.{allow_take}
use Rattle.wb_cells.proofs.table.WordTable.take.Goals as goal

pub exchange-requires-clause-rule : goal.exchange-requires-clause-rule
exchange-requires-clause-rule c = allow_take c.args.self.now.blocks c.args.self.now.table.shared.table_id.slots c.args.seat.now.id c.args.seat.now.me c.args.actor c.requires.actor c.args.access c.args.block c.args.seen c.weight.result c.weight.ensures c.requires.block c.requires.idle c.requires.free
