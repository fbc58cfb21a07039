-- What is left of tasks, and what it asks of who has one.
use Rattle.std.proofs.Common.{◌≡◌, ℕ, List, Option, sym, subst}
use Rattle.wb_tasks.specs.Tables.{TaskJob}
use Rattle.wb_tasks.specs.Plan.{Plan, want}
use Rattle.wb_tasks.specs.declared.step.Answer.{Answer}
use Rattle.wb_tasks.specs.declared.step.Want.{Want}
use Rattle.wb_tasks.specs.Ready.{Suits, IsOwnStep}
use Rattle.wb_tasks.proofs.Readiness.{is_own_step}
use Rattle.wb_words.specs.declared.card.Card.{Card}
use Rattle.wb_promise.specs.declared.job.Job.{Job}
use Rattle.wb_promise.specs.States.{Actor}
use Rattle.wb_runs.specs.Holding.{TaskSuits}

-- what is left of a task on this job
abbrev pub plan_of : TaskJob → List Want → Answer → Plan
plan_of job steps answer = record { job = job; steps = steps; answer = answer }

-- who has this task, or none, has what is needed for it
pub task_suits : (blocks : ℕ) (x : Actor) {task : Option (Job × Plan)} → x.task ≡ task → TaskSuits blocks x.card x.task → TaskSuits blocks x.card task
task_suits blocks x is = subst (λ (o : Option (Job × Plan)). TaskSuits blocks x.card o) is

-- whose next step is one of its job's own
pub own_next : (blocks : ℕ) (plan : Plan) (card : Card) → Suits blocks plan card → (job : TaskJob) (next : Want) → plan.job ≡ job → next ≡ want plan → IsOwnStep job next
own_next blocks plan card suits job next is asks = subst (λ (v : Want). IsOwnStep job v) (sym asks) (subst (λ (q : TaskJob). IsOwnStep q (want plan)) is (is_own_step blocks plan card suits))
