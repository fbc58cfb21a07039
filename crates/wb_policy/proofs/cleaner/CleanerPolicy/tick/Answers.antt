use Rattle.std.proofs.Common.{rules}
use Rattle.wb_policy.proofs.Turns.{lawful-chosen}
use Rattle.wb_policy.proofs.cleaner.CleanerPolicy.tick.Goals as goal

pub returns-in-Some-clause-law : goal.returns-in-Some-clause-law
returns-in-Some-clause-law c = λ m _ mapped.
    lawful-chosen m c.args.self.now c.args.tick.now (record { 0 = c.in-Some.at }, c.in-Some.block) mapped (search rules)
