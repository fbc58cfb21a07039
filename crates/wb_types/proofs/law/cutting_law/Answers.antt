use Rattle.std.proofs.Common.{arith}
use Rattle.wb_types.proofs.Cutting.{cut_short, pieces_cut, cut_sectors}
use Rattle.wb_types.proofs.law.cutting_law.Goals as goal

pub returns-clause-few : goal.returns-clause-few
returns-clause-few c whole extents i = cut_short whole extents i

pub returns-clause-pieces : goal.returns-clause-pieces
returns-clause-pieces c piece whole some = pieces_cut piece whole some

pub returns-clause-rising : goal.returns-clause-rising
returns-clause-rising c piece whole some = cut_sectors whole.count piece whole.first whole.count some (omega arith)
