-- What a step of a migration or a flush does to a client's stage. Of the desk, under its lock, it tells that one was asked for it by one
-- call, and answered so: whoever cannot show such a desk cannot say that the step was made.
use Rattle.std.specs.Prelude.{◌≡◌, ◌<◌, ◌⊎◌, ℕ, Bool, true, false, List, [], ◌∷◌, Option, Some, None, length}
use Rattle.wb_disk.specs.Device.{History, Content as Bytes}
use Rattle.wb_meta.specs.declared.commit_steps.CommitSteps.TheVariants.{NodesWritten}
use Rattle.wb_types.specs.Extents.{pieces}
use Rattle.wb_types.specs.declared.number.OBlock.{OBlock}
use Rattle.wb_types.specs.declared.number.CBlock.{CBlock}
use Rattle.wb_words.specs.declared.card.Card.{Card}
use Rattle.wb_policy.specs.declared.order.Order.{Order}
use Rattle.wb_policy.specs.declared.order.Order.TheVariants.{Promote, Replace}
use Rattle.wb_port.specs.declared.moving.TheConstants.{LONGEST}
use Rattle.wb_port.specs.Moves.{MayCopyFrom, MayCopyTo, MayPut, copied_to}
use Rattle.wb_tasks.specs.Tables.{TaskJob, OnBlock, Migrating, whole_block}
use Rattle.wb_tasks.specs.declared.step.DeviceStep.TheVariants.{Read, Write, WriteNode, WriteRoot}
use Rattle.wb_tasks.specs.Plan.{Plan, device_of}
use Rattle.wb_tasks.specs.Run.{IsRunOf, Leads}
use Rattle.wb_tasks.specs.declared.step.Answer.{Answer}
use Rattle.wb_tasks.specs.declared.step.DeskStep.{DeskStep}
use Rattle.wb_tasks.specs.declared.step.DeskStep.TheVariants.{Arrive, Ask, BeginCommit, EndCommit}
use Rattle.wb_tasks.specs.declared.step.Want.{Want}
use Rattle.wb_tasks.specs.declared.step.Want.TheVariants.{Device, Desk}
use Rattle.wb_tasks.specs.declared.step.Got.{Got}
use Rattle.wb_tasks.specs.declared.step.Got.TheVariants.{Began}
use Rattle.wb_devices.specs.Moving.{OthersStay, device_in}
use Rattle.wb_devices.specs.Stepping.{CommitGoes, DidStep, BufferStays}
use Rattle.wb_devices.specs.declared.devices.Devices.{Devices}
use Rattle.wb_devices.specs.declared.running.RunningCommit.{RunningCommit}
use Rattle.wb_desk.specs.Desks.{DeskState}
use Rattle.wb_stage.specs.Sharing.{share_then}
use Rattle.wb_stage.specs.declared.share.Share.{Share}
use Rattle.wb_stage.specs.declared.share.Share.TheVariants.{Nothing as Unshared}
use Rattle.wb_stage.specs.Stages.{DidAsk, IsServed, is_all_done}
use Rattle.wb_port.specs.Hands.{DoneByPass, IsReadyOn}
use Rattle.wb_port.specs.declared.hand.Hand.{Hand}
use Rattle.wb_target.specs.declared.gate.Point.{Point}
use Rattle.wb_target.specs.declared.gate.Point.TheVariants.{Device as AtDevice}
use Rattle.wb_target.specs.declared.working.WorkStage.{WorkStage}

-- the commit is let go where all of it was done
abbrev pub EndsIf : Bool → Option RunningCommit → Option RunningCommit → Type 0
EndsIf true commit commit' = commit' ≡ None
EndsIf false commit commit' = commit' ≡ commit

-- a commit that began has done nothing yet, and has so many nodes
abbrev pub HasCommit : ℕ → Option RunningCommit → Type 0
HasCommit nodes commit = (begun : RunningCommit) × (commit ≡ Some begun) × (begun.steps ≡ NodesWritten 0) × (nodes ≡ length begun.image.nodes.items)

-- A commit may begin for who asks for one; one that is all done ends.
abbrev pub DidAskDesk : DeskStep → Got → Option RunningCommit → Option RunningCommit → Type 0
DidAskDesk (Arrive most) (Began nodes) commit commit' = HasCommit nodes commit'
DidAskDesk (Ask most) (Began nodes) commit commit' = HasCommit nodes commit'
DidAskDesk (BeginCommit most) (Began nodes) commit commit' = HasCommit nodes commit'
DidAskDesk EndCommit got commit commit' = EndsIf (is_all_done commit) commit commit'
DidAskDesk step got commit commit' = commit' ≡ commit

-- what is told of a step on the desk, by its answer and the commit of who asks, before and after
abbrev pub DeskTold : Type 1
DeskTold = DeskStep → Got → Option RunningCommit → Option RunningCommit → Type 0

-- the same, and what who asks has of the commits that others lead, before and after
abbrev pub ShareTold : Type 1
ShareTold = Share → Share → DeskTold

-- Some desk was asked for this step, for who has taken these orders and has this of the commits that others lead, and answered so. Only under the lock does
-- anybody have a desk that tells policy of these entries.
abbrev pub AskedSharing : {P : Type 0} → (P → ℕ → ℕ → P) → (P → ℕ → P) → List Order → ShareTold
AskedSharing {P} with_entry without_entry held share share' step got commit commit' = (old : DeskState P) × ((new : DeskState P) × DidAsk with_entry without_entry held step share got old commit new commit' × (share' ≡ share_then old share step got))

-- who asks has nothing of them
abbrev pub WasAsked : {P : Type 0} → (P → ℕ → ℕ → P) → (P → ℕ → P) → List Order → DeskTold
WasAsked with_entry without_entry held = AskedSharing with_entry without_entry held Unshared Unshared

-- only a step on the desk tells of others' commits
abbrev pub ShareStays : Want → Share → Share → Type 0
ShareStays (Desk step) share share' = Unit {0}
ShareStays want share share' = share' ≡ share

-- A step on a device is one on its own device alone, and leads the commit on where it comes next of it; no other step is on a
-- device.
abbrev pub WorksOn : {D : Type 0} → Type 0 → (D → ℕ) → (D → List History) → (D → ℕ) → DeskTold → Devices D → List Bytes → Option RunningCommit → Want → Got → Devices D → List Bytes → Option RunningCommit → Type 0
WorksOn tells size contents faults asked old buffer commit (Device step) got new buffer' commit' =
    OthersStay (device_of step) old new
    × (size (device_in (device_of step) new) ≡ size (device_in (device_of step) old))
    × BufferStays step buffer buffer'
    × CommitGoes (size old.metadata) commit step got commit'
    × (tells → DidStep commit step got (size (device_in (device_of step) old)) (contents (device_in (device_of step) old)) (faults (device_in (device_of step) old)) buffer buffer' (contents (device_in (device_of step) new)) (faults (device_in (device_of step) new)))
WorksOn tells size contents faults asked old buffer commit (Desk step) got new buffer' commit' = (new ≡ old) × (buffer' ≡ buffer) × DidAskDesk step got commit commit' × asked step got commit commit'
WorksOn tells size contents faults asked old buffer commit want got new buffer' commit' = (new ≡ old) × (buffer' ≡ buffer) × (commit' ≡ commit)

-- What a task of a client is at: a hand, a buffer, and the commit that it runs.
pub record WorkState (D : Type 0) : Type 0 where
  pub hand : Hand D
  pub buffer : List Bytes
  pub commit : Option RunningCommit

-- the same, and what it has of the commits that others lead
pub record SharingState (D : Type 0) : Type 0 where
  pub work : WorkState D
  pub share : Share

-- what a step of it does, on words of so many blocks
abbrev pub WorkStep : {D : Type 0} → Type 0 → (D → ℕ) → (D → List History) → (D → ℕ) → ShareTold → ℕ → SharingState D → Want → Got → SharingState D → Type 0
WorkStep tells size contents faults asked blocks s want got t =
    DoneByPass blocks s.work.hand.pass want got t.work.hand.pass
    × WorksOn tells size contents faults (asked s.share t.share) s.work.hand.devices s.work.buffer s.work.commit want got t.work.hand.devices t.work.buffer t.work.commit
    × ShareStays want s.share t.share

-- A task was performed, with this answer: its steps are those of its table, and led from the one state to the other. It began with nothing of others'
-- commits, and has this of them at its end.
pub record WasPerformed {D : Type 0} (tells : Type 0) (size : D → ℕ) (contents : D → List History) (faults : D → ℕ) (asked : ShareTold) (blocks : ℕ) (plan : Plan) (old : WorkState D) (answer : Answer) (new : WorkState D) : Type 0 where
  pub steps : List (Want × Got)
  pub share : Share
  pub run : IsRunOf plan steps answer
  pub leads : Leads (WorkStep tells size contents faults asked blocks) (record { work = old; share = Unshared }) steps (record { work = new; share = share })
  pub same_mode : new.hand.mode ≡ old.hand.mode

-- the same, with this of others' commits at its end
pub record PerformedWith {D : Type 0} (tells : Type 0) (size : D → ℕ) (contents : D → List History) (faults : D → ℕ) (asked : ShareTold) (blocks : ℕ) (plan : Plan) (old : WorkState D) (answer : Answer) (new : WorkState D) (share : Share) : Type 0 where
  pub was : WasPerformed tells size contents faults asked blocks plan old answer new
  pub ends : was.share ≡ share

-- ---- what it may move

-- an order copies this block to this cache block
abbrev pub CopiesTo : Order → OBlock → CBlock → Type 0
CopiesTo (Promote b to) block c = (b ≡ block) × (to ≡ c)
CopiesTo (Replace victim b to) block c = (b ≡ block) × (to ≡ c)
CopiesTo order block c = ⊥

abbrev pub AmongCopies : List Order → OBlock → CBlock → Type 0
AmongCopies [] block c = ⊥
AmongCopies (order ∷ orders) block c = CopiesTo order block c ⊎ AmongCopies orders block c

-- one of these orders copies it, where it is copied to the cache at all
abbrev pub IsOrdered : List Order → OBlock → Option CBlock → Type 0
IsOrdered held block None = Unit {0}
IsOrdered held block (Some c) = AmongCopies held block c

-- An extent is copied from or to the block that the pass owns, in the cache where its seal tells or to where an order has it
-- copied; any other step is free.
abbrev pub MayWork : ℕ → List Order → Card → Want → Type 0
MayWork size held card (Device (Read device e)) = MayCopyFrom size card device e
MayWork size held card (Device (Write device e)) = (may : MayCopyTo size card device e) × IsOrdered held may.block may.to
MayWork size held card want = Unit {0}

-- A migration is of a whole block of this size, and one of these orders copies it; no request is served here.
abbrev pub MayMigrate : ℕ → List Order → TaskJob → Type 0
MayMigrate size held (OnBlock (Migrating migration part)) = (size ≡ part.block_sectors) × (0 < part.block_sectors) × (part.extents ≡ pieces LONGEST (whole_block part.block_sectors part.block)) × IsOrdered held part.block (copied_to migration)
MayMigrate size held (OnBlock job) = ⊥
MayMigrate size held job = Unit {0}

-- A node or root is written by a commit that runs, once cache and origin are durable.
abbrev pub WritesUnderCommit : {D : Type 0} → Type 0 → (D → List History) → Devices D → Option RunningCommit → Want → Type 0
WritesUnderCommit tells contents devices commit (Device (WriteNode number)) = MayPut tells contents devices commit
WritesUnderCommit tells contents devices commit (Device WriteRoot) = MayPut tells contents devices commit
WritesUnderCommit tells contents devices commit want = Unit {0}

abbrev pub IsReadyToWork : {R D P G : Type 0} → Type 0 → (D → List History) → WorkStage R D P G → Want → Type 0
IsReadyToWork tells contents stage want = IsReadyOn stage.cells.now stage.hand.now.pass want × IsServed want × MayWork stage.hand.now.block_sectors stage.held.now stage.hand.now.pass.card want × WritesUnderCommit tells contents stage.hand.now.devices stage.commit.now want

-- the gate was asked before a step on a device
abbrev pub GateIsAsked : {G : Type 0} → (G → Point → Bool → Type 0) → G → Want → Type 0
GateIsAsked answers gate (Device step) = (go : Bool) × answers gate AtDevice go
GateIsAsked answers gate want = Unit {0}

pub record WorkLed {R D P G : Type 0} (tells : Type 0) (size : D → ℕ) (contents : D → List History) (faults : D → ℕ) (told : List Order → ShareTold) (answers : G → Point → Bool → Type 0) (old : WorkStage R D P G) (want : Want) (got : Got) (new : WorkStage R D P G) : Type 0 where
  pub cells : new.cells ≡ old.cells
  pub held : new.held ≡ old.held
  pub gate : new.gate ≡ old.gate
  pub asked : GateIsAsked answers old.gate.now want
  pub same_hand : new.hand.ghost_name ≡ old.hand.ghost_name
  pub same_buffer : new.buffer.ghost_name ≡ old.buffer.ghost_name
  pub same_commit : new.commit.ghost_name ≡ old.commit.ghost_name
  pub same_share : new.share.ghost_name ≡ old.share.ghost_name
  pub sized : new.hand.now.block_sectors ≡ old.hand.now.block_sectors
  pub same_mode : new.hand.now.mode ≡ old.hand.now.mode
  pub by_pass : DoneByPass old.cells.now.blocks old.hand.now.pass want got new.hand.now.pass
  pub works : WorksOn tells size contents faults (told old.held.now old.share.now new.share.now) old.hand.now.devices old.buffer.now old.commit.now want got new.hand.now.devices new.buffer.now new.commit.now
  pub shares : ShareStays want old.share.now new.share.now
