use Rattle.wb_sketch.proofs.WordCounters.{halve-is}
use Rattle.wb_sketch.proofs.row.halve.Goals as goal

pub returns : goal.returns
returns c = halve-is c.args.word
