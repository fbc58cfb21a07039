use Rattle.std.proofs.Common.{arith}
use Rattle.std.specs.Prelude.{◌≡◌, min}
use Rattle.wb_tasks.proofs.Pieces.{first_piece}
use Rattle.wb_tasks.proofs.cut.split.Goals as goal

pub returns-clause-pieces : goal.returns-clause-pieces
returns-clause-pieces c =
    let least : c.min-count.result ≡ min c.args.sectors.count c.args.longest = omega (arith, c.min-count.ensures) in
    rw least (first_piece c.args.longest c.args.sectors.first c.args.sectors.count c.requires.longest c.requires.some)
