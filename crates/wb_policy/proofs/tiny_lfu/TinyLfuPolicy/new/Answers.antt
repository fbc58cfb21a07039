use Rattle.wb_policy.proofs.Placed.{placed-agrees}
use Rattle.wb_policy.proofs.tiny_lfu.TinyLfuPolicy.new.Goals as goal

pub returns-clause-knows : goal.returns-clause-knows
returns-clause-knows c = λ once. placed-agrees c.args.mapping.now c.in_ok-recency.recency once c.in_ok-recency.ensures.value
