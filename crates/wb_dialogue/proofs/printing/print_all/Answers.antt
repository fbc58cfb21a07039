use Rattle.std.proofs.Common.{rules}
use Rattle.wb_dialogue.proofs.Pieces.{one_of_all}
use Rattle.wb_dialogue.proofs.printing.print_all.Goals as goal

pub loop-told-preserved : goal.loop-told-preserved
loop-told-preserved g c = one_of_all _ _ _ c.loop-told.invariant.0 c.in-Some.told.now c.in-Some.after.now _ c.loop-told.invariant.1 (search rules) (search rules)
