use Rattle.wb_refines.proofs.Carrying.{carrying_followed}
use Rattle.wb_refines.proofs.migrations_are_followed.Goals as goal

pub returns : goal.returns
returns g = carrying_followed
