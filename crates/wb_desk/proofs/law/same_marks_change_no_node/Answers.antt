use Rattle.wb_desk.proofs.Marking.{no_mark}
use Rattle.wb_desk.proofs.law.same_marks_change_no_node.Goals as goal

pub returns : goal.returns
returns g = no_mark
