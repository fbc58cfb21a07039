use Rattle.wb_cells.proofs.Allowed.{allow_seal}
use Rattle.wb_cells.proofs.table.WordTable.seal.Goals as goal

pub store-requires-clause-rule : goal.store-requires-clause-rule
store-requires-clause-rule c = allow_seal c.args.self.now.blocks c.args.self.now.table.shared.table_id.slots c.args.seat.now.id c.args.seat.now.me c.args.actor c.requires.actor c.args.block c.args.seal c.requires.block c.requires.owns
