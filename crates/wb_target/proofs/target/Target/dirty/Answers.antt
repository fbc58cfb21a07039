use Rattle.wb_target.proofs.target.Target.dirty.Goals as goal

pub returns : goal.returns
returns g c = record { counted = (c.deref_mut.result.now, (c.count_dirty.new.self, c.count_dirty.ensures)) }
