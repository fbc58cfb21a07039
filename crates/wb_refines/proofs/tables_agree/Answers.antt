use Rattle.wb_refines.proofs.Tables.{tables_agree}
use Rattle.wb_refines.proofs.tables_agree.Goals as goal

pub returns : goal.returns
returns g = tables_agree
