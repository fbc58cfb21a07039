-- What is left of a commit that has begun, by its next step.
use Rattle.std.specs.Prelude.{◌++◌, ◌+◌, ◌<◌, ◌^◌, List, [], ◌∷◌, Option, Some, None}
use Rattle.wb_types.specs.declared.mode.Dev.TheVariants.{Metadata, Cache, Origin}
use Rattle.wb_tasks.specs.Plan.{node_writes, root_steps}
use Rattle.wb_tasks.specs.declared.step.DeviceStep.TheVariants.{Sync, WriteRoot}
use Rattle.wb_tasks.specs.declared.step.DeskStep.TheVariants.{EndCommit}
use Rattle.wb_tasks.specs.declared.step.Want.{Want}
use Rattle.wb_tasks.specs.declared.step.Want.TheVariants.{Device, Desk}
use Rattle.wb_flow.specs.declared.commit.Commit.{Commit}
use Rattle.wb_flow.specs.declared.commit.Stage.{Stage}
use Rattle.wb_flow.specs.declared.commit.Stage.TheVariants.{SyncsCache, SyncsOrigin, WritesNodes, WritesRoot, SyncsRoot, EndsCommit}

-- the steps from this one on, which nodes are still to be written being the first list
abbrev pub stage_steps : Stage → List Want → List Want
stage_steps SyncsCache nodes = Device (Sync Cache) ∷ Device (Sync Origin) ∷ (nodes ++ root_steps)
stage_steps SyncsOrigin nodes = Device (Sync Origin) ∷ (nodes ++ root_steps)
stage_steps WritesNodes nodes = nodes ++ root_steps
stage_steps WritesRoot nodes = Device WriteRoot ∷ Device (Sync Metadata) ∷ Desk EndCommit ∷ []
stage_steps SyncsRoot nodes = Device (Sync Metadata) ∷ Desk EndCommit ∷ []
stage_steps EndsCommit nodes = Desk EndCommit ∷ []

abbrev pub commit_left : Commit → List Want
commit_left commit = stage_steps commit.stage (node_writes commit.left commit.node)

-- nothing of one that has ended
abbrev pub commit_after : Option Commit → List Want
commit_after None = []
commit_after (Some commit) = commit_left commit

-- the numbers of its nodes are numbers of the language
abbrev pub IsInRange : Commit → Type 0
IsInRange commit = commit.node + commit.left < 2 ^ 32
