use Rattle.std.proofs.Common.{◌≡◌, ◌+◌, ◌≤◌, List, length}
use Rattle.wb_tasks.specs.Plan.{want}
use Rattle.wb_tasks.specs.Ready.{AreFirst, left_by}
use Rattle.wb_tasks.specs.Run.{Leads}
use Rattle.wb_tasks.specs.Length.{longest}
use Rattle.wb_tasks.specs.declared.step.Want.{Want}
use Rattle.wb_tasks.specs.declared.step.Got.{Got}
use Rattle.wb_tasks.proofs.Driving.{Leaves}
use Rattle.wb_tasks.proofs.stage.drive.Given as goal

abbrev pub invariant-loop-want : goal.invariant-loop-want
invariant-loop-want g l =
    (l.want ≡ want (g.T.Task.plan l.task))
    × ((steps : List (Want × Got)) × (length steps + longest (g.T.Task.plan l.task) ≤ longest (g.T.Task.plan l.fn.task)) × Leads g.S.Stage.led l.fn.stage steps l.stage × Leaves (g.T.Task.plan l.fn.task) steps (g.T.Task.plan l.task)
    × AreFirst (g.T.Task.plan l.fn.task) steps × (g.T.Task.plan l.task ≡ left_by (g.T.Task.plan l.fn.task) steps))

abbrev pub decreases-loop-want : goal.decreases-loop-want
decreases-loop-want g l = longest (g.T.Task.plan l.task)
