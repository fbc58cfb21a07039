-- What a step of an opening that reads metadata does.
use Rattle.std.specs.Prelude.{◌≡◌, ◌≤◌, ◌<◌, ◌⊎◌, ◌+◌, ◌^◌, ℕ, Option, Some, None, IfSome}
use Rattle.wb_types.specs.Limits.{node_count}
use Rattle.wb_types.specs.declared.geometry.Geometry.{Geometry}
use Rattle.wb_types.specs.declared.refusal.Refusal.{Refusal}
use Rattle.wb_types.specs.declared.refusal.Refusal.TheVariants.{Memory, Mismatch, GenerationEnd, Io}
use Rattle.wb_format.specs.declared.root.Root.{Root}
use Rattle.wb_meta.specs.Openings.{IsOpening}
use Rattle.wb_meta.specs.Reads.{IsDone, known_root}
use Rattle.wb_meta.specs.Sizes.{AreSameSizes}
use Rattle.wb_meta.specs.declared.read_steps.State.{State}
use Rattle.wb_meta.specs.declared.commit_steps.CommitSteps.TheVariants.{NodesSynced}
use Rattle.wb_meta.specs.declared.read_steps.ReadSteps.{ReadSteps}
use Rattle.wb_tasks.specs.declared.step.Got.{Got}
use Rattle.wb_tasks.specs.declared.step.Got.TheVariants.{Done, Fault, Refused, Began, More}
use Rattle.wb_devices.specs.Sizes.{IsServedBy}
use Rattle.wb_devices.specs.Converting.{Converts, WantsConversion}
use Rattle.wb_devices.specs.declared.running.RunningCommit.{RunningCommit}

-- a device that failed is a fault, anything else a refusal
abbrev pub got_of_refusal : Refusal → Got
got_of_refusal (Io device) = Fault
got_of_refusal refusal = Refused refusal

-- All was read, and the root that comes next over the newest one is to be written: of the next generation, with the same
-- tree, and not clean.
pub record HasNextRoot {A : Type 0} (now : ReadSteps A) (commit : Option RunningCommit) : Type 0 where
  pub is_done : IsDone now
  pub root : Root
  pub newest : known_root now ≡ Some root
  pub next : RunningCommit
  pub commit_is : commit ≡ Some next
  pub opens : IsOpening next.image root
  pub steps : next.steps ≡ NodesSynced

-- the root, once it is known, is of the sizes that are asked for
abbrev pub ReadsOf : {A : Type 0} → Geometry → ReadSteps A → Type 0
ReadsOf geometry now = (root : Root) → known_root now ≡ Some root → AreSameSizes root.geometry geometry

-- and of a version that serves
abbrev pub ReadsServed : {A : Type 0} → Geometry → ReadSteps A → Type 0
ReadsServed geometry now = (root : Root) → known_root now ≡ Some root → IsServedBy root.geometry geometry

-- Why a reading that has come so far is refused here: its root is of other sizes, or of the last generation; or for want of memory, where
-- what was read is to be written anew.
abbrev pub IsUnfit : {A : Type 0} → Geometry → ReadSteps A → Refusal → Type 0
IsUnfit {A} geometry now refusal = ((refusal ≡ Mismatch) × ((root : Root) × (known_root now ≡ Some root) × (¬ AreSameSizes root.geometry geometry)))
    ⊎ ((refusal ≡ GenerationEnd) × IsDone now × ((root : Root) × (known_root now ≡ Some root) × (root.generation + 1 ≡ 2 ^ 64)))
    ⊎ ((refusal ≡ Memory) × ((state : State A) × WantsConversion geometry now state))

-- No sector more is allowed, or fewer than the nodes that are to be written anew may be.
abbrev pub IsShort : {A : Type 0} → Geometry → ℕ → ReadSteps A → Type 0
IsShort {A} geometry left now = (left ≡ 0) ⊎ ((left < node_count geometry.cache_blocks) × ((state : State A) × WantsConversion geometry now state))

-- What becomes of an opening whose reading has come so far, where so many sectors more may be read or written: more is to be read; or all was
-- read, and the root is to be written, or before it the nodes of what is written anew.
abbrev pub HasCome : {A : Type 0} → Geometry → ℕ → ReadSteps A → Option RunningCommit → Got → Option (ReadSteps A) → Option RunningCommit → Type 0
HasCome geometry left now commit More after commit' = (1 ≤ left) × (after ≡ Some now) × ReadsOf geometry now × (commit' ≡ commit)
HasCome geometry left now commit Done after commit' = (after ≡ Some now) × ReadsServed geometry now × HasNextRoot now commit'
HasCome geometry left now commit (Began nodes) after commit' = ReadsOf geometry now × (nodes ≤ left) × Converts geometry now nodes after commit'
HasCome geometry left now commit (Refused refusal) after commit' = (after ≡ None) × (commit' ≡ commit) × IsUnfit geometry now refusal
HasCome geometry left now commit Fault after commit' = (after ≡ None) × (commit' ≡ commit) × IsShort geometry left now
HasCome geometry left now commit got after commit' = ⊥

-- the root that a commit writes, if there is one, is of a generation that a sector can spell
abbrev pub HasGeneration : Option RunningCommit → Type 0
HasGeneration commit = IfSome commit (λ running. running.image.root.generation < 2 ^ 64)
