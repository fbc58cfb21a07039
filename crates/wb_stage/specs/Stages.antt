-- What one step on the desk does to it and to the commit that runs; which steps are served.
use Rattle.std.specs.Prelude.{◌≡◌, ℕ, Bool, true, false, List, Option, Some, None, length}
use Rattle.wb_meta.specs.declared.commit_steps.CommitSteps.TheVariants.{NodesWritten}
use Rattle.wb_tree.specs.declared.image.Image.{Image}
use Rattle.wb_policy.specs.declared.order.Order.{Order}
use Rattle.wb_desk.specs.Desks.{DeskState}
use Rattle.wb_desk.specs.Commits.{HasBegun, commit_broken}
use Rattle.wb_desk.specs.Sharing.{IsLeadRefused}
use Rattle.wb_tasks.specs.declared.step.DeviceStep.TheVariants.{ReadMetadata}
use Rattle.wb_tasks.specs.declared.step.DeskStep.{DeskStep}
use Rattle.wb_tasks.specs.declared.step.DeskStep.TheVariants.{Map, Unmap, ReleaseOrder, Arrive, Ask, BeginCommit, EndCommit, BreakCommit}
use Rattle.wb_tasks.specs.declared.step.Want.{Want}
use Rattle.wb_tasks.specs.declared.step.Want.TheVariants.{Device, Desk}
use Rattle.wb_tasks.specs.declared.step.Got.{Got}
use Rattle.wb_tasks.specs.declared.step.Got.TheVariants.{Began, Refused, Ticket, Served}
use Rattle.wb_devices.specs.declared.running.RunningCommit.{RunningCommit}
use Rattle.wb_devices.specs.Committing.{is_committed}
use Rattle.wb_stage.specs.Asking.{DidMap, DidUnmap, DidRelease, AreEnough, IsUnbegun, ended}
use Rattle.wb_stage.specs.Sharing.{ShareIsCovered}
use Rattle.wb_stage.specs.declared.share.Share.{Share}

-- a commit, clean or not, that was begun has done nothing yet, and so much is so of its image
abbrev pub DidBeginSo : {P : Type 0} → Bool → (DeskState P → Image → DeskState P → Type 0) → ℕ → Got → DeskState P → Option RunningCommit → DeskState P → Option RunningCommit → Type 0
DidBeginSo clean so most (Began nodes) d commit d' commit' = (begun : RunningCommit) × (commit' ≡ Some begun) × (begun.steps ≡ NodesWritten 0)
    × (nodes ≡ length begun.image.nodes.items) × so d begun.image d'
DidBeginSo clean so most (Refused refusal) d commit d' commit' = (commit' ≡ commit) × IsUnbegun d clean most refusal d'
DidBeginSo clean so most got d commit d' commit' = ⊥

-- that of a flush is of the mapping as it is, whatever hints there are
abbrev pub DidBegin : {P : Type 0} → ℕ → Got → DeskState P → Option RunningCommit → DeskState P → Option RunningCommit → Type 0
DidBegin {P} most got d commit d' commit' = DidBeginSo false (λ old image new. (hint_of : P → ℕ → ℕ) × HasBegun hint_of None old image new) most got d commit d' commit'

-- that of a suspend is clean, with the dirty bits that were seen, by cache block, and the policy's hints
abbrev pub DidBeginWith : {P : Type 0} → (P → ℕ → ℕ) → List Bool → ℕ → Got → DeskState P → Option RunningCommit → DeskState P → Option RunningCommit → Type 0
DidBeginWith hint_of seen most got d commit d' commit' = DidBeginSo true (λ old image new. HasBegun hint_of (Some seen) old image new) most got d commit d' commit'

-- A flush leads a commit, unless one is broken or the desk refuses it, where so many nodes are enough for every image.
abbrev pub DidLead : {P : Type 0} → ℕ → Got → DeskState P → Option RunningCommit → DeskState P → Option RunningCommit → Type 0
DidLead most (Began nodes) d commit d' commit' = (d.broken ≡ false) × DidBegin most (Began nodes) d commit d' commit'
DidLead most (Refused refusal) d commit d' commit' = (commit' ≡ commit) × (d' ≡ d) × (AreEnough d false most → IsLeadRefused d refusal)
DidLead most got d commit d' commit' = ⊥

-- who arrives while a commit runs gets a ticket
abbrev pub DidArrive : {P : Type 0} → ℕ → Got → DeskState P → Option RunningCommit → DeskState P → Option RunningCommit → Type 0
DidArrive most Ticket d commit d' commit' = (d.broken ≡ false) × (d.space.committing ≡ true) × (d' ≡ d) × (commit' ≡ commit)
DidArrive most got d commit d' commit' = DidLead most got d commit d' commit'

-- who asks with a ticket is served where a commit has ended that covers it
abbrev pub DidAskWith : {P : Type 0} → Share → ℕ → Got → DeskState P → Option RunningCommit → DeskState P → Option RunningCommit → Type 0
DidAskWith share most Served d commit d' commit' = ShareIsCovered d share × (d' ≡ d) × (commit' ≡ commit)
DidAskWith share most (Began nodes) d commit d' commit' = (¬ ShareIsCovered d share) × DidLead most (Began nodes) d commit d' commit'
DidAskWith share most (Refused refusal) d commit d' commit' = (commit' ≡ commit) × (d' ≡ d) × (AreEnough d false most → (¬ ShareIsCovered d share) × IsLeadRefused d refusal)
DidAskWith share most got d commit d' commit' = ⊥

-- the commit ends where all of it was done
abbrev pub EndsWith : {P : Type 0} → Bool → DeskState P → Option RunningCommit → DeskState P → Option RunningCommit → Type 0
EndsWith true d commit d' commit' = (d' ≡ ended d) × (commit' ≡ None)
EndsWith false d commit d' commit' = (d' ≡ d) × (commit' ≡ commit)

abbrev pub is_all_done : Option RunningCommit → Bool
is_all_done None = false
is_all_done (Some commit) = is_committed commit.steps

-- What a step does to the desk, and to the commit that runs, by one call of the desk, for who has this of the commits that others lead.
abbrev pub DidAsk : {P : Type 0} → (P → ℕ → ℕ → P) → (P → ℕ → P) → List Order → DeskStep → Share → Got → DeskState P → Option RunningCommit → DeskState P → Option RunningCommit → Type 0
DidAsk with_entry without_entry held (Map b c) share got d commit d' commit' = DidMap with_entry b c got d d' × (commit' ≡ commit)
DidAsk with_entry without_entry held (Unmap b) share got d commit d' commit' = DidUnmap without_entry b d d' × (commit' ≡ commit)
DidAsk with_entry without_entry held (ReleaseOrder b) share got d commit d' commit' = DidRelease held b d d' × (commit' ≡ commit)
DidAsk with_entry without_entry held (Arrive most) share got d commit d' commit' = DidArrive most got d commit d' commit'
DidAsk with_entry without_entry held (Ask most) share got d commit d' commit' = DidAskWith share most got d commit d' commit'
DidAsk with_entry without_entry held (BeginCommit most) share got d commit d' commit' = ⊥
DidAsk with_entry without_entry held EndCommit share got d commit d' commit' = EndsWith (is_all_done commit) d commit d' commit'
DidAsk with_entry without_entry held BreakCommit share got d commit d' commit' = (d' ≡ commit_broken d) × (commit' ≡ commit)

-- The step is served here: no reading of an opening, and no commit whose root is marked clean, which wants the dirty bits that were
-- seen, and is asked for with them.
abbrev pub IsServed : Want → Type 0
IsServed (Device (ReadMetadata left)) = ⊥
IsServed (Desk (BeginCommit most)) = ⊥
IsServed want = Unit {0}
