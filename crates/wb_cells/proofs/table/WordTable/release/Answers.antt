use Rattle.wb_cells.proofs.Allowed.{allow_release}
use Rattle.wb_cells.proofs.table.WordTable.release.Goals as goal

pub subtract-requires-clause-rule : goal.subtract-requires-clause-rule
subtract-requires-clause-rule c = allow_release c.args.self.now.blocks c.args.self.now.table.shared.table_id.slots c.args.seat.now.id c.args.seat.now.me c.args.actor c.requires.actor c.args.access c.args.block c.weight.result c.weight.ensures c.requires.block c.requires.holds
