use Rattle.std.proofs.Common.{refl}
use Rattle.wb_target.proofs.target.Target.unmap.Goals as goal

pub returns : goal.returns
returns g c = (c.deref_mut.result.now.desk, (c.unmap.new.self.desk, (c.unmap.ensures, refl), refl))
