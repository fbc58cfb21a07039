use Rattle.wb_refines.proofs.Moving.{extents_followed}
use Rattle.wb_refines.proofs.extents_are_followed.Goals as goal

pub returns : goal.returns
returns g = extents_followed
