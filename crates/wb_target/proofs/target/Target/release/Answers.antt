use Rattle.wb_target.proofs.target.Target.release.Goals as goal

pub returns : goal.returns
returns g c = (c.deref_mut.result.now.desk, (c.release.new.self.desk, c.release.ensures))
