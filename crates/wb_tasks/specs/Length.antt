-- How many steps a task has at most.
use Rattle.std.specs.Prelude.{◌+◌, ◌*◌, ℕ, List, [], ◌∷◌, length, max}
use Rattle.wb_types.specs.declared.mode.Mode.{Mode}
use Rattle.wb_types.specs.declared.mode.Mode.TheVariants.{Writethrough}
use Rattle.wb_words.specs.declared.word.Word.TheVariants.{Cell as LockWord, Seal as SealWord, Number}
use Rattle.wb_tasks.specs.Tables.{BlockJob, Reading, Writing, Displacing, Invalidating, Migrating, TaskJob, OnBlock, Flushing, Suspending, Opening}
use Rattle.wb_tasks.specs.Plan.{Plan, lets_go}
use Rattle.wb_words.specs.declared.step.CellStep.TheVariants.{Look}
use Rattle.wb_tasks.specs.declared.step.DeviceStep.TheVariants.{ReadMetadata}
use Rattle.wb_tasks.specs.declared.step.DeskStep.TheVariants.{Map, Arrive, Ask, BeginCommit}
use Rattle.wb_tasks.specs.declared.step.Want.{Want}
use Rattle.wb_tasks.specs.declared.step.Want.TheVariants.{Cell, Device, Desk}

-- how often a write may write an extent
abbrev pub most_written : Mode → ℕ
most_written Writethrough = 2
most_written mode = 1

-- the most steps of a job that has its block, its answer counted
abbrev pub longest_work : BlockJob → ℕ
longest_work (Reading part) = length part.extents + 3
longest_work (Writing part) = most_written part.mode * length part.extents + 5
longest_work (Displacing part) = length part.extents + 6
longest_work (Invalidating part) = 4
longest_work (Migrating migration part) = 2 * length part.extents + 4

abbrev pub longest_work_of : TaskJob → ℕ
longest_work_of (OnBlock job) = longest_work job
longest_work_of job = 2

-- once a device step has failed, the desk has refused, or a number is worn: the block, an order, and the answer
abbrev pub longest_failing_on : BlockJob → ℕ
longest_failing_on (Reading part) = 2
longest_failing_on (Writing part) = 2
longest_failing_on (Displacing part) = 2
longest_failing_on (Invalidating part) = 2
longest_failing_on (Migrating migration part) = 3

abbrev pub longest_failing : TaskJob → ℕ
longest_failing (OnBlock job) = longest_failing_on job
longest_failing (Flushing serves most) = 3
longest_failing (Suspending blocks most) = 3
longest_failing (Opening left) = 1

-- from the end of a commit on: it, the bit of a suspend, and the answer
abbrev pub longest_ending : TaskJob → ℕ
longest_ending (Suspending blocks most) = 3
longest_ending job = 2

-- what comes with the nodes of an image: in an opening a root and two syncs, and the answer; else a commit and what ends it
abbrev pub longest_beside : TaskJob → ℕ
longest_beside (Opening left) = 4
longest_beside job = 5 + max (longest_failing job) (longest_ending job)

-- an image of so many nodes, and what comes with it
abbrev pub longest_begun : TaskJob → ℕ → ℕ
longest_begun job most = most + longest_beside job

-- what comes of a look at a seal: on a block the number and the work, else the steps that take so long
abbrev pub longest_seeing : TaskJob → ℕ → ℕ
longest_seeing (OnBlock job) later = 1 + longest_work job
longest_seeing job later = later

-- The most steps of a job with these steps to come, its answer counted. The lock word leaves the exchange and the
-- seal.
abbrev pub longest_of : TaskJob → List Want → ℕ
longest_of job [] = 1
longest_of job (Cell (Look (LockWord block)) ∷ ws) = 4 + longest_work_of job
longest_of job (Cell (Look (SealWord block)) ∷ ws) = 1 + longest_seeing job (longest_of job ws)
longest_of job (Cell (Look (Number block)) ∷ ws) = 1 + max 2 (longest_of job ws)
longest_of job (Device (ReadMetadata left) ∷ ws) = left + 1 + max (longest_beside job) (max (longest_failing job) (longest_of job ws))
longest_of job (Device step ∷ ws) = 1 + max (longest_failing job) (longest_of job ws)
longest_of job (Desk (Map block place) ∷ ws) = 1 + max (length (lets_go job) + 1) (longest_of job ws)
longest_of job (Desk (Arrive most) ∷ ws) = 2 + max (longest_begun job most) (length (lets_go job) + 1)
longest_of job (Desk (Ask most) ∷ ws) = 1 + max (longest_begun job most) (length (lets_go job) + 1)
longest_of job (Desk (BeginCommit most) ∷ ws) = 1 + max (longest_begun job most) (length (lets_go job) + 1)
longest_of job (w ∷ ws) = 1 + longest_of job ws

-- the most steps that a task may still take, its answer counted
abbrev pub longest : Plan → ℕ
longest s = longest_of s.job s.steps
