use Rattle.std.proofs.Common.{arith, rules}
use Rattle.wb_policy.proofs.Uses.{put-is}
use Rattle.wb_policy.proofs.recency.Recency.insert.Goals as goal
use Rattle.wb_policy.proofs.recency.Recency.insert.Goals.{in-Ok, in-Err}

pub returns-clause-ok : goal.returns-clause-ok
returns-clause-ok c =
    let cap = c.self.invariant in
    let put = put-is c.self.inside.blocks c.args.block.0 c.args.at.0 (omega arith) in
    elim c.match-put.branch [ in-Ok w ↦ search rules | in-Err w ↦ search rules ]
