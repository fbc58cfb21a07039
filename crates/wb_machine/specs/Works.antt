-- What is left of what an actor was told to do.
use Rattle.wb_tasks.specs.Plan.{Plan}
use Rattle.wb_machine.specs.declared.work.Kind.{Kind}
use Rattle.wb_machine.specs.declared.work.Kind.TheVariants.{OnBlock, Commits}

-- what is left of it
abbrev pub plan_left : Kind → Plan
plan_left (OnBlock plan) = plan
plan_left (Commits plan) = plan
