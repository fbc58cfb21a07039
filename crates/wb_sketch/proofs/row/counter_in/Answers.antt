use Rattle.std.proofs.Common.{◌∙◌, ◌/◌, ◌*◌, ◌^◌, sym}
use Rattle.std.proofs.lemmas.Nat.{and_mask}
use Rattle.wb_sketch.proofs.WordCounters.{counter_in-is}
use Rattle.wb_sketch.proofs.row.counter_in.Goals as goal

pub returns-clause-value : goal.returns-clause-value
returns-clause-value c = and_mask (c.args.word / 2 ^ (4 * c.args.number)) 4 ∙ sym (counter_in-is c.args.word c.args.number)
