use Rattle.std.proofs.lemmas.Result.{on_ok_weaker, IfErr-weaker}
use Rattle.wb_target.proofs.target.Target.set.Goals as goal

pub returns-clause-set : goal.returns-clause-set
returns-clause-set g c = on_ok_weaker c.set.result (λ told. (c.deref_mut.result.now.desk, (c.set.new.self.desk, told))) c.set.ensures.set

pub returns-clause-refused : goal.returns-clause-refused
returns-clause-refused g c = IfErr-weaker c.set.result _ _ (λ refusal so. (c.deref_mut.result.now.desk, so)) c.set.ensures.refused
