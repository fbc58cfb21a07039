-- What a client has done when an order is carried out, or a flush is answered.
use Rattle.std.specs.Prelude.{◌≡◌, ◌≤◌, ◌<◌, ℕ, false, List, [], ◌∷◌, Option, Some, None, length}
use Rattle.wb_types.specs.Limits.{most_nodes}
use Rattle.wb_types.specs.Extents.{pieces}
use Rattle.wb_types.specs.declared.geometry.Geometry.{Geometry}
use Rattle.wb_types.specs.declared.mode.Mode.TheVariants.{Writeback}
use Rattle.wb_types.specs.declared.number.OBlock.{OBlock}
use Rattle.wb_types.specs.declared.refusal.Refusal.TheVariants.{Busy}
use Rattle.wb_disk.specs.Device.{History}
use Rattle.wb_policy.specs.declared.order.Order.{Order}
use Rattle.wb_policy.specs.declared.order.Order.TheVariants.{Promote, Replace, Demote, Clean}
use Rattle.wb_tasks.specs.Tables.{TaskJob, OnBlock, Migrating, Flushing, whole_block}
use Rattle.wb_tasks.specs.Plan.{table}
use Rattle.wb_tasks.specs.declared.step.Migration.{Migration}
use Rattle.wb_tasks.specs.declared.step.Migration.TheVariants.{Promote as Promoting, Demote as Demoting, Clean as Cleaning}
use Rattle.wb_tasks.specs.declared.step.Answer.{Answer}
use Rattle.wb_tasks.specs.declared.step.Answer.TheVariants.{Done as Finished, Refused as Refuses}
use Rattle.wb_devices.specs.declared.devices.Devices.{Devices}
use Rattle.wb_port.specs.Hands.{saw_fail_word}
use Rattle.wb_port.specs.Moves.{IsSynced}
use Rattle.wb_port.specs.declared.moving.TheConstants.{LONGEST}
use Rattle.wb_port.specs.declared.port.Port.{Port}
use Rattle.wb_stage.specs.declared.share.Share.{Share}
use Rattle.wb_stage.specs.declared.share.Share.TheVariants.{Nothing as Unshared, Covered}
use Rattle.wb_target.specs.declared.carrying.Flushed.{Flushed}
use Rattle.wb_target.specs.declared.carrying.Flushed.TheVariants.{Led, Served}
use Rattle.wb_target.specs.Tries.{EndedAfter}
use Rattle.wb_target.specs.Works.{WorkState, ShareTold, WasPerformed}

-- what a client is at
abbrev pub client_state : {D : Type 0} → Port D → WorkState D
client_state port = record { hand = port.hand; buffer = port.buffer.items; commit = port.commit }

-- it has looked at the fail word, and found this
abbrev pub looked_at_fail : {D : Type 0} → ℕ → WorkState D → WorkState D
looked_at_fail word s = record s { hand = saw_fail_word word s.hand }

-- A client that begins to work has looked at the fail word, which was clear, and has a buffer for the longest step: its own, or a new
-- one where it had none.
pub record HasBegun {D : Type 0} (old new : WorkState D) : Type 0 where
  pub clear : new.hand ≡ saw_fail_word 0 old.hand
  pub commit : new.commit ≡ old.commit
  pub kept : 0 < length old.buffer → new.buffer ≡ old.buffer
  pub holds : LONGEST ≤ length new.buffer

-- ---- a job

-- one run of a job's table on a client that has taken these orders, with this answer
abbrev pub Runs : {D : Type 0} → Type 0 → (D → ℕ) → (D → List History) → (D → ℕ) → (List Order → ShareTold) → ℕ → List Order → TaskJob → WorkState D → Answer → WorkState D → Type 0
Runs tells size contents faults asked blocks held job old answer new = WasPerformed tells size contents faults (asked held) blocks (table job) old answer new

-- A job was done: after runs that were refused as busy, if any, another was answered done.
abbrev pub WasDone : {D : Type 0} → (TaskJob → WorkState D → Answer → WorkState D → Type 0) → TaskJob → WorkState D → WorkState D → Type 0
WasDone runs job old new = EndedAfter (λ s t. runs job s (Refuses Busy) t) (λ s t. runs job s Finished t) old new

-- these were done, one after the other
abbrev pub WereDone : {D : Type 0} → (TaskJob → WorkState D → Answer → WorkState D → Type 0) → List TaskJob → WorkState D → WorkState D → Type 0
WereDone runs [] old new = old ≡ new
WereDone {D} runs (job ∷ jobs) old new = (mid : WorkState D) × WasDone runs job old mid × WereDone runs jobs mid new

-- ---- orders

-- a migration of a whole block
abbrev pub migration_of : Geometry → Migration → OBlock → TaskJob
migration_of geometry migration block = OnBlock (Migrating migration (record { mode = Writeback; block_sectors = geometry.block; block = block; extents = pieces LONGEST (whole_block geometry.block block) }))

-- a flush that serves the order of this block, if any
abbrev pub serving : Option OBlock → List OBlock
serving None = []
serving (Some block) = block ∷ []

abbrev pub flush_of : Geometry → Option OBlock → TaskJob
flush_of geometry serves = Flushing (serving serves) (most_nodes geometry.version false geometry.cache_blocks)

-- how a flush was answered done, by what it has of the commits of others at its end
abbrev pub share_of : Flushed → Share
share_of Led = Unshared
share_of (Served receipt) = Covered receipt

-- A job was done so: the last run of it had this of the commits of others at its end.
abbrev pub WasDoneWith : {D : Type 0} → (tells : Type 0) (size : D → ℕ) (contents : D → List History) (faults : D → ℕ) (asked : List Order → ShareTold) (blocks : ℕ) (held : List Order) (job : TaskJob) (share : Share) (old new : WorkState D) → Type 0
WasDoneWith tells size contents faults asked blocks held job share old new =
    EndedAfter (λ s t. Runs tells size contents faults asked blocks held job s (Refuses Busy) t) (λ s t. (run : Runs tells size contents faults asked blocks held job s Finished t) × (run.share ≡ share)) old new

-- The jobs of an order: a migration; a replacement is a demotion, a flush that serves the promoted block's order, and a promotion.
abbrev pub jobs_of : Geometry → Order → List TaskJob
jobs_of geometry (Promote block to) = migration_of geometry (Promoting to) block ∷ []
jobs_of geometry (Demote block) = migration_of geometry Demoting block ∷ []
jobs_of geometry (Clean block) = migration_of geometry Cleaning block ∷ []
jobs_of geometry (Replace victim block to) = migration_of geometry Demoting victim ∷ flush_of geometry (Some block) ∷ migration_of geometry (Promoting to) block ∷ []

-- an order's blocks are there
abbrev pub BlocksAreThere : Geometry → Order → Type 0
BlocksAreThere geometry (Promote b c) = b.0 < geometry.origin_blocks
BlocksAreThere geometry (Demote b) = b.0 < geometry.origin_blocks
BlocksAreThere geometry (Clean b) = b.0 < geometry.origin_blocks
BlocksAreThere geometry (Replace v x c) = (v.0 < geometry.origin_blocks) × (x.0 < geometry.origin_blocks)

-- ---- what a flush leaves

-- all three devices have of each sector its last content alone
abbrev pub AreSynced : {D : Type 0} → (D → List History) → Devices D → Type 0
AreSynced contents devices = IsSynced (contents devices.metadata) × IsSynced (contents devices.cache) × IsSynced (contents devices.origin)
