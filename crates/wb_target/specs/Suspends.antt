-- What a suspend of a target does.
use Rattle.std.specs.Prelude.{◌≡◌, ◌⊎◌, ◌++◌, ℕ, zero, suc, Bool, false, List, [], ◌∷◌, Option, Some, None, length, replicate}
use Rattle.wb_types.specs.declared.entry.Entry.{Entry}
use Rattle.wb_types.specs.declared.number.OBlock.{OBlock}
use Rattle.wb_types.specs.declared.refusal.Refusal.{Refusal}
use Rattle.wb_types.specs.declared.refusal.Refusal.TheVariants.{Busy, Memory}
use Rattle.wb_tree.specs.Mapping.{Mapping, entry_at}
use Rattle.wb_disk.specs.Device.{History, Content as Bytes}
use Rattle.wb_cells.specs.Passes.{PassState}
use Rattle.wb_tasks.specs.Tables.{Suspending}
use Rattle.wb_tasks.specs.Plan.{Plan, table}
use Rattle.wb_tasks.specs.Ready.{IsSuspends, MayTake}
use Rattle.wb_tasks.specs.Run.{IsRunOf, Leads}
use Rattle.wb_tasks.specs.declared.step.Answer.{Answer}
use Rattle.wb_tasks.specs.declared.step.Answer.TheVariants.{Refused as Refuses}
use Rattle.wb_tasks.specs.declared.step.DeskStep.TheVariants.{BeginCommit}
use Rattle.wb_tasks.specs.declared.step.Want.{Want}
use Rattle.wb_tasks.specs.declared.step.Want.TheVariants.{Desk}
use Rattle.wb_tasks.specs.declared.step.Got.{Got}
use Rattle.wb_devices.specs.declared.devices.Devices.{Devices}
use Rattle.wb_devices.specs.declared.running.RunningCommit.{RunningCommit}
use Rattle.wb_desk.specs.Desks.{DeskState}
use Rattle.wb_stage.specs.Seen.{seen_after}
use Rattle.wb_stage.specs.declared.share.Share.TheVariants.{Nothing as Unshared}
use Rattle.wb_stage.specs.Stages.{DidAsk, DidBeginWith}
use Rattle.wb_port.specs.Hands.{DoneByPass}
use Rattle.wb_target.specs.Works.{DeskTold, WorksOn}
use Rattle.wb_target.specs.declared.suspending.SuspendStage.{SuspendStage}

-- the block of an entry, if there is one
abbrev pub mapped_block : Option Entry → List OBlock
mapped_block None = []
mapped_block (Some entry) = entry.origin ∷ []

-- the blocks in the first so many cache blocks, in that order
abbrev pub mapped_blocks : Mapping → ℕ → List OBlock
mapped_blocks tree zero = []
mapped_blocks tree (suc c) = mapped_blocks tree c ++ mapped_block (entry_at tree c)

-- Some desk was asked for this step, for who has taken no order, and answered so; where a commit begins, its image is clean, with the dirty
-- bits that were seen.
abbrev pub AskedWith : {P : Type 0} → (P → ℕ → ℕ) → (P → ℕ → ℕ → P) → (P → ℕ → P) → List Bool → DeskTold
AskedWith {P} hint_of with_entry without_entry seen (BeginCommit most) got commit commit' = (old : DeskState P) × ((new : DeskState P) × DidBeginWith hint_of seen most got old commit new commit')
AskedWith {P} hint_of with_entry without_entry seen step got commit commit' = (old : DeskState P) × ((new : DeskState P) × DidAsk with_entry without_entry [] step Unshared got old commit new commit')

-- What a suspend is at: its pass, the desk, the devices that it was lent, the commit that it runs, and for each cache block whether its copy
-- was seen dirty.
pub record SuspendState (D P : Type 0) : Type 0 where
  pub pass : PassState
  pub desk : DeskState P
  pub devices : Devices D
  pub buffer : List Bytes
  pub commit : Option RunningCommit
  pub seen : List Bool

-- What a step does to the desk: one on it what its call does, where a commit begins with the dirty bits that were seen; no other step changes it.
abbrev pub DeskGoes : {P : Type 0} → (P → ℕ → ℕ) → (P → ℕ → ℕ → P) → (P → ℕ → P) → List Bool → Want → Got → DeskState P → Option RunningCommit → DeskState P → Option RunningCommit → Type 0
DeskGoes hint_of with_entry without_entry seen (Desk (BeginCommit most)) got d commit d' commit' = DidBeginWith hint_of seen most got d commit d' commit'
DeskGoes hint_of with_entry without_entry seen (Desk step) got d commit d' commit' = DidAsk with_entry without_entry [] step Unshared got d commit d' commit'
DeskGoes hint_of with_entry without_entry seen want got d commit d' commit' = d' ≡ d

-- what a step of it does, on words of so many blocks
abbrev pub SuspendStep : {D P : Type 0} → Type 0 → (D → ℕ) → (D → List History) → (D → ℕ) → (P → ℕ → ℕ) → (P → ℕ → ℕ → P) → (P → ℕ → P) → ℕ → SuspendState D P → Want → Got → SuspendState D P → Type 0
SuspendStep tells size contents faults hint_of with_entry without_entry count s want got t =
    DoneByPass count s.pass want got t.pass
    × (t.seen ≡ seen_after want got s.seen)
    × WorksOn tells size contents faults (AskedWith hint_of with_entry without_entry s.seen) s.devices s.buffer s.commit want got t.devices t.buffer t.commit
    × DeskGoes hint_of with_entry without_entry s.seen want got s.desk s.commit t.desk t.commit

-- where a stage stands
abbrev pub suspending_at : {D P : Type 0} → SuspendStage D P → SuspendState D P
suspending_at stage = record { pass = stage.watch.now.pass; desk = stage.desk.now; devices = stage.devices.now; buffer = stage.buffer.now; commit = stage.commit.now; seen = stage.seen.now }

-- It serves the steps of a suspend, and no others, with a bit for each cache block.
abbrev pub IsReadyToSuspend : {D P : Type 0} → SuspendStage D P → Want → Type 0
IsReadyToSuspend stage want =
    MayTake stage.watch.now.geometry.origin_blocks stage.watch.now.pass.card want
    × ((all : List OBlock) × (most : ℕ) × IsSuspends all most want)
    × (length stage.seen.now ≡ stage.desk.now.geometry.cache_blocks)

pub record SuspendLed {D P : Type 0} (tells : Type 0) (size : D → ℕ) (contents : D → List History) (faults : D → ℕ) (hint_of : P → ℕ → ℕ) (with_entry : P → ℕ → ℕ → P) (without_entry : P → ℕ → P) (old : SuspendStage D P) (want : Want) (got : Got) (new : SuspendStage D P) : Type 0 where
  pub same_watch : new.watch.ghost_name ≡ old.watch.ghost_name
  pub same_desk : new.desk.ghost_name ≡ old.desk.ghost_name
  pub same_devices : new.devices.ghost_name ≡ old.devices.ghost_name
  pub words : new.watch.now.geometry ≡ old.watch.now.geometry
  pub cache : new.desk.now.geometry ≡ old.desk.now.geometry
  pub did : SuspendStep tells size contents faults hint_of with_entry without_entry old.watch.now.geometry.origin_blocks (suspending_at old) want got (suspending_at new)

-- Over these devices what a suspend was to do was run up to this answer, by this pass, on this desk, with these bits before the first step and no
-- commit. What its devices are then is handed back.
pub record RanSuspend {D P : Type 0} (pass : PassState) (desk : DeskState P) (tells : Type 0) (size : D → ℕ) (contents : D → List History) (faults : D → ℕ) (hint_of : P → ℕ → ℕ) (with_entry : P → ℕ → ℕ → P) (without_entry : P → ℕ → P) (count : ℕ) (plan : Plan) (bits : List Bool) (devices : Devices D) (answer : Answer) (back : Devices D) : Type 0 where
  pub first : SuspendState D P
  pub last : SuspendState D P
  pub by_pass : first.pass ≡ pass
  pub on_desk : first.desk ≡ desk
  pub over : first.devices ≡ devices
  pub unseen : first.seen ≡ bits
  pub unbegun : first.commit ≡ None
  pub steps : List (Want × Got)
  pub run : IsRunOf plan steps answer
  pub leads : Leads (SuspendStep tells size contents faults hint_of with_entry without_entry count) first steps last
  pub back_is : back ≡ last.devices

-- It was a suspend by this pass, which looks at the seals of all blocks that this desk maps, and has seen no bit before.
pub record WasSuspended {D P : Type 0} (pass : PassState) (desk : DeskState P) (tells : Type 0) (size : D → ℕ) (contents : D → List History) (faults : D → ℕ) (hint_of : P → ℕ → ℕ) (with_entry : P → ℕ → ℕ → P) (without_entry : P → ℕ → P) (devices : Devices D) (answer : Answer) (back : Devices D) : Type 0 where
  pub count : ℕ
  pub most : ℕ
  pub ran : RanSuspend pass desk tells size contents faults hint_of with_entry without_entry count (table (Suspending (mapped_blocks desk.tree desk.geometry.cache_blocks) most)) (replicate desk.geometry.cache_blocks false) devices answer back

-- A client was out, where that is so, or there was no memory to begin, and nothing was done; or a suspend was run that was refused so.
abbrev pub SuspendRefused : {D P : Type 0} → PassState → DeskState P → Type 0 → Type 0 → (D → ℕ) → (D → List History) → (D → ℕ) → (P → ℕ → ℕ) → (P → ℕ → ℕ → P) → (P → ℕ → P) → Devices D → Refusal → Devices D → Type 0
SuspendRefused pass desk client_out tells size contents faults hint_of with_entry without_entry devices refusal back =
    ((refusal ≡ Busy) × client_out × (back ≡ devices))
    ⊎ ((refusal ≡ Memory) × (back ≡ devices))
    ⊎ WasSuspended pass desk tells size contents faults hint_of with_entry without_entry devices (Refuses refusal) back
