use Rattle.wb_policy.proofs.Lawful.{lawful-cleaned}
use Rattle.wb_policy.proofs.tiny_lfu.TinyLfuPolicy.tick.Goals as goal

pub returns-clause-law : goal.returns-clause-law
returns-clause-law c = λ m knows _. rw c.clean.ensures (lawful-cleaned m c.args.self.now c.args.tick.now c.args.given knows)
