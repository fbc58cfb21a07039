use Rattle.wb_tasks.proofs.Readiness.{begins_ready, flush_begins, suspend_begins, opening_begins, is_ready, is_own_step, job_stays, keeps_ready}
use Rattle.wb_tasks.proofs.law.steps_are_ready.Goals as goal

pub returns-clause-begins : goal.returns-clause-begins
returns-clause-begins c = begins_ready

pub returns-clause-ready : goal.returns-clause-ready
returns-clause-ready c = is_ready

pub returns-clause-keeps : goal.returns-clause-keeps
returns-clause-keeps c = keeps_ready

pub returns-clause-own : goal.returns-clause-own
returns-clause-own c = is_own_step

pub returns-clause-same : goal.returns-clause-same
returns-clause-same c = job_stays

pub returns-clause-begins_flush : goal.returns-clause-begins_flush
returns-clause-begins_flush c = flush_begins

pub returns-clause-begins_suspend : goal.returns-clause-begins_suspend
returns-clause-begins_suspend c = suspend_begins

pub returns-clause-begins_opening : goal.returns-clause-begins_opening
returns-clause-begins_opening c = opening_begins
