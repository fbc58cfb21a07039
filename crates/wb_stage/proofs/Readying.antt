-- The steps of a task on a block or of a flush are served, and who begins one with no block suits it.
use Rattle.std.proofs.Common.{◌≡◌, ◌∙◌, ℕ, List, [], ◌∷◌, refl}
use Rattle.wb_words.specs.declared.card.Card.{Card}
use Rattle.wb_words.specs.declared.card.Hold.TheVariants.{Nothing}
use Rattle.wb_tasks.specs.Tables.{BlockJob, TaskJob, Reading, Writing, Displacing, Invalidating, Migrating, OnBlock, Flushing, Suspending, Opening}
use Rattle.wb_tasks.specs.Ready.{IsOwnStep, Suits, left_by}
use Rattle.wb_tasks.specs.Plan.{Plan, table, after}
use Rattle.wb_tasks.specs.declared.step.DeviceStep.TheVariants.{Read, Write, Sync, ReadMetadata, WriteNode, WriteRoot}
use Rattle.wb_tasks.specs.declared.step.DeskStep.TheVariants.{Map, Unmap, ReleaseOrder, Arrive, Ask, BeginCommit, EndCommit, BreakCommit}
use Rattle.wb_tasks.specs.declared.step.Want.{Want}
use Rattle.wb_tasks.specs.declared.step.Want.TheVariants.{Cell, Device, Desk, End}
use Rattle.wb_tasks.specs.declared.step.Got.{Got}
use Rattle.wb_tasks.proofs.Readiness.{begins_ready, flush_begins, job_stays}
use Rattle.wb_stage.specs.Stages.{IsServed}
use Rattle.wb_stage.specs.Jobs.{MayRun}

-- no job on a block reads metadata, or begins a commit
never_so : (job : BlockJob) (left most : ℕ) → (¬ IsOwnStep (OnBlock job) (Device (ReadMetadata left))) × (¬ IsOwnStep (OnBlock job) (Desk (BeginCommit most)))
never_so (Reading part) left most = (λ o. o, λ o. o)
never_so (Writing part) left most = (λ o. o, λ o. o)
never_so (Displacing part) left most = (λ o. o, λ o. o)
never_so (Invalidating part) left most = (λ o. o, λ o. o)
never_so (Migrating migration part) left most = (λ o. o, λ o. o)

-- a job on a block, or a flush, wants nothing that is not served
on_block : (job : BlockJob) (w : Want) → IsOwnStep (OnBlock job) w → IsServed w
on_block job (Cell step) o = tt
on_block job (End answer) o = tt
on_block job (Device (Read device e)) o = tt
on_block job (Device (Write device e)) o = tt
on_block job (Device (Sync device)) o = tt
on_block job (Device (WriteNode number)) o = tt
on_block job (Device WriteRoot) o = tt
on_block job (Device (ReadMetadata left)) o = (never_so job left 0).0 o
on_block job (Desk (Map block place)) o = tt
on_block job (Desk (Unmap block)) o = tt
on_block job (Desk (ReleaseOrder block)) o = tt
on_block job (Desk (Arrive most)) o = tt
on_block job (Desk (Ask most)) o = tt
on_block job (Desk EndCommit) o = tt
on_block job (Desk BreakCommit) o = tt
on_block job (Desk (BeginCommit most)) o = (never_so job 0 most).1 o

in_flush : (serves : List _) (most : ℕ) (w : Want) → IsOwnStep (Flushing serves most) w → IsServed w
in_flush serves most (Cell step) o = tt
in_flush serves most (End answer) o = tt
in_flush serves most (Device (Read device e)) o = tt
in_flush serves most (Device (Write device e)) o = tt
in_flush serves most (Device (Sync device)) o = tt
in_flush serves most (Device (WriteNode number)) o = tt
in_flush serves most (Device WriteRoot) o = tt
in_flush serves most (Device (ReadMetadata left)) o = absurd o
in_flush serves most (Desk (Map block place)) o = tt
in_flush serves most (Desk (Unmap block)) o = tt
in_flush serves most (Desk (ReleaseOrder block)) o = tt
in_flush serves most (Desk (Arrive nodes)) o = tt
in_flush serves most (Desk (Ask nodes)) o = tt
in_flush serves most (Desk EndCommit) o = tt
in_flush serves most (Desk BreakCommit) o = tt
in_flush serves most (Desk (BeginCommit nodes)) o = absurd o

pub served : (blocks : ℕ) (job : TaskJob) (w : Want) → MayRun blocks job → IsOwnStep job w → IsServed w
served blocks (OnBlock job) w r o = on_block job w o
served blocks (Flushing serves most) w r o = in_flush serves most w o
served blocks (Suspending all most) w r o = absurd r
served blocks (Opening left) w r o = absurd r

pub begins : (blocks : ℕ) (job : TaskJob) (card : Card) → MayRun blocks job → card.hold ≡ Nothing → Suits blocks (table job) card
begins blocks (OnBlock job) card r idle = begins_ready blocks job card r idle
begins blocks (Flushing serves most) card r idle = flush_begins blocks serves most card idle
begins blocks (Suspending all most) card r idle = absurd r
begins blocks (Opening left) card r idle = absurd r

-- a task stays on its job
pub same_job : (s : Plan) (steps : List (Want × Got)) → (left_by s steps).job ≡ s.job
same_job s [] = refl
same_job s (step ∷ steps) = same_job (after s step.1) steps ∙ job_stays s step.1
