use Rattle.std.proofs.Common.{◌≡◌, ap, replicate, ◌∙◌, arith}
use Rattle.std.proofs.lemmas.Grind.{common_steps}
use Rattle.wb_sketch.specs.Packed.{counter_in, counters_in}
use Rattle.wb_sketch.proofs.Packing.{values_in-replicate}
use Rattle.wb_sketch.proofs.WordCounters.{counter_in-none}
use Rattle.wb_sketch.proofs.row.Row.new.Goals as goal

pub returns-clause-value : goal.returns-clause-value
returns-clause-value c =
    let zeros : c.in_ok-words.words.items ≡ replicate c.args.words 0 = grind (arith, common_steps) in
    ap counters_in zeros ∙ values_in-replicate counter_in 16 c.args.words 0 (omega arith) counter_in-none
