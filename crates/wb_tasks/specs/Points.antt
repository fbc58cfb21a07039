-- Where an opening stands in its table, and what is left of it there.
use Rattle.std.specs.Prelude.{◌++◌, ℕ, List, [], ◌∷◌}
use Rattle.wb_types.specs.declared.mode.Dev.TheVariants.{Metadata, Cache, Origin}
use Rattle.wb_types.specs.declared.refusal.Refusal.{Refusal}
use Rattle.wb_tasks.specs.Tables.{Opening}
use Rattle.wb_tasks.specs.Plan.{first_steps, node_writes, opening_root}
use Rattle.wb_tasks.specs.declared.step.Answer.{Answer}
use Rattle.wb_tasks.specs.declared.step.Answer.TheVariants.{Done as Finished, Refused as Refuses}
use Rattle.wb_tasks.specs.declared.step.DeviceStep.TheVariants.{Sync, ReadMetadata}
use Rattle.wb_tasks.specs.declared.step.Want.{Want}
use Rattle.wb_tasks.specs.declared.step.Want.TheVariants.{Device}

-- what comes next: a sync, a sector that is read with so many that may follow, a node of those that are left or the sync that follows them, the
-- root, its sync, or the answer
pub data OpenPoint : Type 0 where
  AtFirst : OpenPoint
  AtCache : OpenPoint
  AtOrigin : OpenPoint
  AtRead : ℕ → OpenPoint
  AtNodes : (left from : ℕ) → OpenPoint
  AtRoot : OpenPoint
  AtRootSync : OpenPoint
  AtEnd : OpenPoint
  AtRefusal : Refusal → OpenPoint

-- the steps from there, where so many sectors may follow the first
abbrev pub open_left : ℕ → OpenPoint → List Want
open_left n AtFirst = first_steps (Opening n)
open_left n AtCache = Device (Sync Cache) ∷ Device (Sync Origin) ∷ Device (ReadMetadata n) ∷ opening_root
open_left n AtOrigin = Device (Sync Origin) ∷ Device (ReadMetadata n) ∷ opening_root
open_left n (AtRead left) = Device (ReadMetadata left) ∷ opening_root
open_left n (AtNodes left from) = node_writes left from ++ Device (Sync Metadata) ∷ opening_root
open_left n AtRoot = opening_root
open_left n AtRootSync = Device (Sync Metadata) ∷ []
open_left n AtEnd = []
open_left n (AtRefusal refusal) = []

abbrev pub open_answer : OpenPoint → Answer
open_answer (AtRefusal refusal) = Refuses refusal
open_answer point = Finished
