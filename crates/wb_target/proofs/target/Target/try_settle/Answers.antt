use Rattle.wb_target.proofs.target.Target.try_settle.Goals as goal

pub returns : goal.returns
returns g c = (c.deref_mut.result.now.desk, (c.settle.new.self.desk, c.settle.ensures))
