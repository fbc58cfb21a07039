use Rattle.wb_target.proofs.target.Target.tick.Goals as goal

pub returns-clause-ticked : goal.returns-clause-ticked
returns-clause-ticked g c = (c.in_ok-tick.ensures.ticked.0, (c.deref_mut.result.now.desk, (c.tick.new.self.desk, c.in_ok-tick.ensures.ticked.1)))
