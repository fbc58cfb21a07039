-- What is left of a flush, a suspend or an opening, by the phase that it is in.
use Rattle.std.specs.Prelude.{◌++◌, ◌+◌, ◌<◌, ◌^◌, ℕ, List, [], ◌∷◌}
use Rattle.wb_types.specs.declared.number.OBlock.{OBlock}
use Rattle.wb_types.specs.declared.refusal.Refusal.TheVariants.{Io}
use Rattle.wb_words.specs.declared.word.Word.TheVariants.{Fail}
use Rattle.wb_words.specs.declared.step.CellStep.TheVariants.{Look, SetSuspended}
use Rattle.wb_tasks.specs.Tables.{TaskJob, Flushing, Suspending, Opening}
use Rattle.wb_tasks.specs.Plan.{Plan, failed_commit, seal_looks, release_orders}
use Rattle.wb_tasks.specs.Points.{OpenPoint, AtFirst, AtCache, AtOrigin, AtRead, AtNodes, AtRoot, AtRootSync, AtEnd, open_left}
use Rattle.wb_tasks.specs.declared.step.DeskStep.TheVariants.{Arrive, Ask, BeginCommit, BreakCommit}
use Rattle.wb_tasks.specs.declared.step.Want.{Want}
use Rattle.wb_tasks.specs.declared.step.Want.TheVariants.{Cell, Desk}
use Rattle.wb_tasks.specs.declared.step.Answer.{Answer}
use Rattle.wb_tasks.specs.declared.step.Answer.TheVariants.{Done as Finished, Refused as Refuses}
use Rattle.wb_flow.specs.declared.committing.Purpose.{Purpose}
use Rattle.wb_flow.specs.declared.committing.Purpose.TheVariants.{Flush, Suspend}
use Rattle.wb_flow.specs.declared.committing.Phase.{Phase as CommitPhase}
use Rattle.wb_flow.specs.declared.committing.Phase.TheVariants.{LooksAtFail, Begins, Asks, Commits, SetsSuspended, GivesUp, SetsFailed, BreaksCommits, Ended}
use Rattle.wb_flow.specs.Commits.{commit_left, IsInRange}
use Rattle.wb_flow.specs.declared.open.Phase.{Phase as OpenPhase}
use Rattle.wb_flow.specs.declared.open.Phase.TheVariants.{SyncsMetadata as OpenSyncsMetadata, SyncsCache as OpenSyncsCache, SyncsOrigin as OpenSyncsOrigin, Reads, WritesNodes as OpenWritesNodes, WritesRoot as OpenWritesRoot, SyncsRoot as OpenSyncsRoot, Ended as OpenEnded}

-- the job that a request with this purpose is on
abbrev pub commit_job : Purpose → List OBlock → ℕ → TaskJob
commit_job Flush blocks most = Flushing blocks most
commit_job Suspend blocks most = Suspending blocks most

-- The steps up to the beginning of its commit, where it leads one; a suspend looks at these seals before.
abbrev pub begin_steps : Purpose → ℕ → List OBlock → List Want
begin_steps Flush most unseen = Desk (Arrive most) ∷ []
begin_steps Suspend most unseen = seal_looks unseen ++ Desk (BeginCommit most) ∷ []

-- these steps of its commit, and what follows them
abbrev pub closing : Purpose → List Want → List Want
closing Flush steps = steps
closing Suspend steps = steps ++ Cell SetSuspended ∷ []

-- The steps in a phase, where these of its blocks are left: to be looked at, or to be given up.
abbrev pub commit_task_steps : Purpose → List OBlock → ℕ → CommitPhase → List OBlock → List Want
commit_task_steps purpose blocks most LooksAtFail rest = Cell (Look Fail) ∷ begin_steps purpose most blocks
commit_task_steps purpose blocks most Begins rest = begin_steps purpose most rest
commit_task_steps purpose blocks most Asks rest = Desk (Ask most) ∷ []
commit_task_steps purpose blocks most (Commits commit) rest = closing purpose (commit_left commit)
commit_task_steps purpose blocks most SetsSuspended rest = Cell SetSuspended ∷ []
commit_task_steps purpose blocks most (GivesUp refusal) rest = release_orders rest
commit_task_steps purpose blocks most (SetsFailed device) rest = failed_commit
commit_task_steps purpose blocks most (BreaksCommits device) rest = Desk BreakCommit ∷ []
commit_task_steps purpose blocks most (Ended answer) rest = []

abbrev pub commit_task_answer : CommitPhase → Answer
commit_task_answer (GivesUp refusal) = Refuses refusal
commit_task_answer (SetsFailed device) = Refuses (Io device)
commit_task_answer (BreaksCommits device) = Refuses (Io device)
commit_task_answer (Ended answer) = answer
commit_task_answer phase = Finished

abbrev pub commit_task_left : Purpose → List OBlock → ℕ → CommitPhase → List OBlock → Plan
commit_task_left purpose blocks most phase rest = record { job = commit_job purpose blocks most; steps = commit_task_steps purpose blocks most phase rest; answer = commit_task_answer phase }

abbrev pub IsPhaseInRange : CommitPhase → Type 0
IsPhaseInRange (Commits commit) = IsInRange commit
IsPhaseInRange phase = Unit {0}

-- where an opening in a phase stands
abbrev pub open_point : OpenPhase → OpenPoint
open_point OpenSyncsMetadata = AtFirst
open_point OpenSyncsCache = AtCache
open_point OpenSyncsOrigin = AtOrigin
open_point (Reads left) = AtRead left
open_point (OpenWritesNodes node left) = AtNodes left node
open_point OpenWritesRoot = AtRoot
open_point OpenSyncsRoot = AtRootSync
open_point (OpenEnded answer) = AtEnd

-- The steps of an opening in a phase, that reads at most so many sectors after the first.
abbrev pub opening_steps : ℕ → OpenPhase → List Want
opening_steps more phase = open_left more (open_point phase)

abbrev pub opening_answer : OpenPhase → Answer
opening_answer (OpenEnded answer) = answer
opening_answer phase = Finished

-- the numbers of its nodes are numbers of the language
abbrev pub IsOpeningInRange : OpenPhase → Type 0
IsOpeningInRange (OpenWritesNodes node left) = node + left < 2 ^ 32
IsOpeningInRange phase = Unit {0}

abbrev pub opening_left : ℕ → OpenPhase → Plan
opening_left more phase = record { job = Opening more; steps = opening_steps more phase; answer = opening_answer phase }
