use Rattle.wb_sketch.proofs.Covering.{estimate-covers}
use Rattle.wb_sketch.proofs.Meeting.{estimate-meets}
use Rattle.wb_sketch.proofs.law.estimate_law.Goals as goal

pub returns : goal.returns
returns c = record { never_less = estimate-covers; exact_where_alone = estimate-meets }
