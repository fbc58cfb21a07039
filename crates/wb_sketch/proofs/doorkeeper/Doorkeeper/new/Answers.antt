use Rattle.std.proofs.Common.{◌≡◌, ap, replicate, false, ◌∙◌, arith}
use Rattle.std.proofs.lemmas.Grind.{common_steps}
use Rattle.wb_sketch.specs.Packed.{mark_in, marks_in}
use Rattle.wb_sketch.proofs.Packing.{values_in-replicate}
use Rattle.wb_sketch.proofs.WordMarks.{mark_in-none}
use Rattle.wb_sketch.proofs.doorkeeper.Doorkeeper.new.Goals as goal

pub returns-clause-value : goal.returns-clause-value
returns-clause-value c =
    let zeros : c.in_ok-words.words.items ≡ replicate c.args.words 0 = grind (arith, common_steps) in
    ap marks_in zeros ∙ values_in-replicate mark_in 64 c.args.words false (omega arith) mark_in-none
