-- Each step of a commit is on a device, or ends it.
use Rattle.std.proofs.Common.{◌≡◌, ◌∙◌, ◌++◌, ℕ, zero, suc, List, [], ◌∷◌, refl, sym}
use Rattle.wb_types.specs.declared.mode.Dev.{Dev}
use Rattle.wb_types.specs.declared.refusal.Refusal.TheVariants.{Io}
use Rattle.wb_words.specs.declared.step.CellStep.TheVariants.{SetSuspended}
use Rattle.wb_tasks.specs.Plan.{Plan, after, after_fault, after_fault_of, failed_commit, first_step, node_writes, device_of, Fits}
use Rattle.wb_tasks.specs.declared.step.Answer.{Answer}
use Rattle.wb_tasks.specs.declared.step.Answer.TheVariants.{Done as Finished, Refused as Refuses}
use Rattle.wb_tasks.specs.declared.step.DeviceStep.{DeviceStep}
use Rattle.wb_tasks.specs.declared.step.DeviceStep.TheVariants.{Read, Write, Sync, ReadMetadata, WriteNode, WriteRoot}
use Rattle.wb_tasks.specs.declared.step.DeskStep.TheVariants.{EndCommit}
use Rattle.wb_tasks.specs.declared.step.Want.{Want}
use Rattle.wb_tasks.specs.declared.step.Want.TheVariants.{Cell, Device, Desk, End}
use Rattle.wb_tasks.specs.declared.step.Got.{Got}
use Rattle.wb_tasks.specs.declared.step.Got.TheVariants.{Done, Fault}
use Rattle.wb_flow.specs.Commits.{stage_steps, commit_left}
use Rattle.wb_flow.specs.Phases.{closing}
use Rattle.wb_flow.specs.declared.commit.Commit.{Commit}
use Rattle.wb_flow.specs.declared.commit.Stage.{Stage}
use Rattle.wb_flow.specs.declared.commit.Stage.TheVariants.{SyncsCache, SyncsOrigin, WritesNodes, WritesRoot, SyncsRoot, EndsCommit}
use Rattle.wb_flow.specs.declared.committing.Purpose.{Purpose}
use Rattle.wb_flow.specs.declared.committing.Purpose.TheVariants.{Flush, Suspend}

abbrev pub IsOfCommit : Want → Type 0
IsOfCommit (Desk EndCommit) = Unit {0}
IsOfCommit (Device (ReadMetadata left)) = ⊥
IsOfCommit (Device step) = Unit {0}
IsOfCommit w = ⊥

of_stage : (stage : Stage) (left node : ℕ) → IsOfCommit (first_step (stage_steps stage (node_writes left node)) Finished)
of_stage SyncsCache left node = tt
of_stage SyncsOrigin left node = tt
of_stage WritesNodes zero node = tt
of_stage WritesNodes (suc left) node = tt
of_stage WritesRoot left node = tt
of_stage SyncsRoot left node = tt
of_stage EndsCommit left node = tt

pub of_commit : (c : Commit) → IsOfCommit (first_step (commit_left c) Finished)
of_commit c = of_stage c.stage c.left c.node

-- so it is done, or fails
abbrev pub IsNeither : Got → Type 0
IsNeither Done = ⊥
IsNeither Fault = ⊥
IsNeither got = Unit {0}

gives_either : (w : Want) (got : Got) → IsOfCommit w → IsNeither got → Fits w got → ⊥
gives_either w Done o n f = n
gives_either w Fault o n f = n
gives_either (Device (Read device e)) got o n f = absurd f
gives_either (Device (Write device e)) got o n f = absurd f
gives_either (Device (Sync device)) got o n f = absurd f
gives_either (Device (WriteNode number)) got o n f = absurd f
gives_either (Device WriteRoot) got o n f = absurd f
gives_either (Desk EndCommit) got o n f = absurd f
gives_either w got o n f = absurd o

pub done_or_failed : (c : Commit) (got : Got) → IsNeither got → Fits (first_step (commit_left c) Finished) got → ⊥
done_or_failed c got n f = gives_either (first_step (commit_left c) Finished) got (of_commit c) n f

-- it comes before whatever follows the commit
first_of_stage : (stage : Stage) (left node : ℕ) (ws : List Want) (answer : Answer) → first_step (stage_steps stage (node_writes left node) ++ ws) answer ≡ first_step (stage_steps stage (node_writes left node)) Finished
first_of_stage SyncsCache left node ws answer = refl
first_of_stage SyncsOrigin left node ws answer = refl
first_of_stage WritesNodes zero node ws answer = refl
first_of_stage WritesNodes (suc left) node ws answer = refl
first_of_stage WritesRoot left node ws answer = refl
first_of_stage SyncsRoot left node ws answer = refl
first_of_stage EndsCommit left node ws answer = refl

pub first_of_closing : (purpose : Purpose) (c : Commit) → first_step (closing purpose (commit_left c)) Finished ≡ first_step (commit_left c) Finished
first_of_closing Flush c = refl
first_of_closing Suspend c = first_of_stage c.stage c.left c.node (Cell SetSuspended ∷ []) Finished

-- where it fails the failed bit is set, commits are broken, and its device is told
pub after_failing : (s : Plan) (c : Commit) (device : Dev) → ((step : DeviceStep) → after_fault_of s.job step ≡ failed_commit) → first_step s.steps s.answer ≡ first_step (commit_left c) Finished →
    ((step : DeviceStep) → first_step (commit_left c) Finished ≡ Device step → device_of step ≡ device) → Fits (first_step s.steps s.answer) Fault → record { job = s.job; steps = failed_commit; answer = Refuses (Io device) } ≡ after s Fault
after_failing s c device fails same told fits = by_want (first_step s.steps s.answer) refl fits
  where
    by_want : (w : Want) → first_step s.steps s.answer ≡ w → Fits w Fault → record { job = s.job; steps = failed_commit; answer = Refuses (Io device) } ≡ after_fault s w
    by_want (Device step) is f = λ i. record { job = s.job; steps = sym (fails step) i; answer = Refuses (Io (sym (told step (sym same ∙ is)) i)) }
    by_want (Cell step) is f = absurd f
    by_want (Desk step) is f = absurd f
    by_want (End answer) is f = absurd f
