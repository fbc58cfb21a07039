-- What a call on a target was that was answered done, and what a client of the target has done by it.
use Rattle.std.specs.Prelude.{◌≡◌, ◌<◌, ◌++◌, ◌⊎◌, Bool, ℕ, List, [], ◌∷◌, Option, Some, None, length}
use Rattle.wb_types.specs.declared.geometry.Geometry.{Geometry}
use Rattle.wb_types.specs.declared.message.Message.{Message}
use Rattle.wb_types.specs.declared.message.Message.TheVariants.{Set, InvalidateCblocks}
use Rattle.wb_types.specs.declared.number.OBlock.{OBlock}
use Rattle.wb_types.specs.declared.refusal.Refusal.{Refusal}
use Rattle.wb_types.specs.declared.refusal.Refusal.TheVariants.{BadMessage, WrongMode, Failed}
use Rattle.wb_disk.specs.Device.{History, Content as Bytes}
use Rattle.wb_policy.specs.declared.order.Order.{Order}
use Rattle.wb_desk.specs.Messages.{AreRanges}
use Rattle.wb_target.specs.declared.client.Client.{Client}
use Rattle.wb_target.specs.declared.gate.Point.{Point}
use Rattle.wb_target.specs.Works.{ShareTold, WorkState}
use Rattle.wb_target.specs.Workers.{EndedBy, FailedAfter}
use Rattle.wb_target.specs.Blocking.{ReadCame, WriteCame, InParts}
use Rattle.wb_target.specs.Durable.{WroteDurably as WrittenDurably}
use Rattle.wb_tasks.specs.Tables.{TaskJob}
use Rattle.wb_tasks.specs.declared.step.Answer.{Answer}
use Rattle.wb_port.specs.Requests.{WasRead, WasWritten}
use Rattle.wb_port.specs.Ports.{block_at}
use Rattle.wb_port.specs.declared.hand.Hand.{Hand}
use Rattle.wb_target.specs.Carried.{client_state, looked_at_fail, HasBegun, Runs, WasDoneWith, WereDone, flush_of, jobs_of, share_of, AreSynced}
use Rattle.wb_target.specs.declared.carrying.Flushed.{Flushed as HowFlushed}
use Rattle.wb_target.specs.declared.carrying.Flushed.TheVariants.{Led}
use Rattle.wb_stage.specs.declared.share.Share.TheVariants.{Nothing as Unshared}

-- Sectors from a place on were read or written, as a whole or of one block without waiting, or written and then made durable; accesses were settled; all that was finished before was
-- made durable, alone or after a tick of the policy; the order that waits longest was carried out, or none waits; a message was followed.
pub data Deed : Type 0 where
  Read : (at : ℕ) → (content : List Bytes) → Deed
  Wrote : (at : ℕ) → (content : List Bytes) → Deed
  WroteDurably : (at : ℕ) → (content : List Bytes) → Deed
  TriedRead : (at : ℕ) → (content : List Bytes) → Deed
  TriedWrite : (at : ℕ) → (content : List Bytes) → Deed
  Settled : Deed
  Flushed : Deed
  Ticked : Deed
  Worked : (order : Option Order) → Deed
  Messaged : (message : Message) → Deed

-- what a client has done that answers this order, or that none waits
abbrev pub DidWork : {D : Type 0} → (List Order → TaskJob → WorkState D → Answer → WorkState D → Type 0) → Geometry → WorkState D → Option Order → WorkState D → Type 0
DidWork runs geometry old None new = HasBegun old new
DidWork {D} runs geometry old (Some order) new = (begun : WorkState D) × HasBegun old begun × WereDone (runs (order ∷ [])) (jobs_of geometry order) begun new

-- what a client has done that flushed: a flush, which leaves its three devices their last contents alone, where they tell what they hold and it led its commit itself
abbrev pub DidFlush : {D P : Type 0} → Type 0 → (D → ℕ) → (D → List History) → (D → ℕ) → (List Order → ShareTold) → Client D P → Client D P → Type 0
DidFlush tells size contents faults asked old new = (how : HowFlushed)
    × WasDoneWith tells size contents faults asked old.port.geometry.origin_blocks [] (flush_of old.port.geometry None) (share_of how) (client_state old.port) (client_state new.port)
    × (how ≡ Led → tells → AreSynced contents new.port.hand.devices)

-- A client has read so in parts, one a block, each by a run of its table; or has written so, and then flushed where that was to be durable; or by one such
-- run, whose access is to be settled then. It has had its policy told of all that was to be settled. It has flushed; or first had its policy's tick. It has
-- carried out the order that waited longest, or none did. It has done what a message asked for, and settled nothing.
abbrev pub ClientDid : {D P : Type 0} → Type 0 → (D → ℕ) → (D → List History) → (D → ℕ) → (List Order → ShareTold) → (List OBlock → Type 0) → Type 0 → (Option Order → Type 0) → (Geometry → Message → Hand D → Hand D → Type 0) → Client D P → Deed → Client D P → Type 0
ClientDid tells size contents faults asked settled ticked next messaged old (Read at content) new =
    (parts : ℕ) × (before : List Bytes) × InParts (ReadCame tells size contents faults old.port.geometry) old.port.geometry.block None parts at old.port.hand before new.port.hand content
ClientDid tells size contents faults asked settled ticked next messaged old (Wrote at content) new =
    (parts : ℕ) × InParts (WriteCame tells size contents faults (asked [] Unshared Unshared) old.port.geometry) old.port.geometry.block None parts at old.port.hand content new.port.hand content
ClientDid tells size contents faults asked settled ticked next messaged old (WroteDurably at content) new = (how : HowFlushed)
    × WrittenDurably (WriteCame tells size contents faults (asked [] Unshared Unshared) old.port.geometry) (WasDoneWith tells size contents faults asked old.port.geometry.origin_blocks [] (flush_of old.port.geometry None) (share_of how)) old.port.geometry at content old.port.hand (client_state new.port)
    × (how ≡ Led → tells → AreSynced contents new.port.hand.devices)
ClientDid tells size contents faults asked settled ticked next messaged old Flushed new = DidFlush tells size contents faults asked old new
ClientDid tells size contents faults asked settled ticked next messaged old (TriedRead at content) new =
    (before : List Bytes) × WasRead tells size contents faults old.port.cells.value.blocks old.port.geometry.block (block_at old.port.geometry at) (record { first = at; count = length content }) before content old.port.hand new.port.hand
    × (new.port.accesses.items ≡ old.port.accesses.items ++ block_at old.port.geometry at ∷ [])
ClientDid tells size contents faults asked settled ticked next messaged old (TriedWrite at content) new =
    WasWritten tells size contents faults old.port.cells.value.blocks old.port.geometry.block (block_at old.port.geometry at) (record { first = at; count = length content }) content old.port.hand new.port.hand
    × (new.port.accesses.items ≡ old.port.accesses.items ++ block_at old.port.geometry at ∷ [])
ClientDid tells size contents faults asked settled ticked next messaged old Settled new =
    (0 < length old.port.accesses.items → settled old.port.accesses.items) × (new.port.accesses.items ≡ []) × (new.port.hand ≡ old.port.hand)
ClientDid tells size contents faults asked settled ticked next messaged old Ticked new = ticked × (how : HowFlushed)
    × WasDoneWith tells size contents faults asked old.port.geometry.origin_blocks [] (flush_of old.port.geometry None) (share_of how) (looked_at_fail 0 (client_state old.port)) (client_state new.port)
    × (how ≡ Led → tells → AreSynced contents new.port.hand.devices)
ClientDid tells size contents faults asked settled ticked next messaged old (Worked order) new =
    next order × DidWork (Runs tells size contents faults asked old.port.geometry.origin_blocks) old.port.geometry (client_state old.port) order (client_state new.port)
ClientDid tells size contents faults asked settled ticked next messaged old (Messaged message) new =
    messaged old.port.geometry message old.port.hand new.port.hand × (new.port.accesses ≡ old.port.accesses)

-- For what a message is refused: a setting for its key or value, or as failed; ranges of cache blocks where some are not there, and else for the
-- mode, or as failed.
abbrev pub MayRefuseMessage : Geometry → Message → Refusal → Type 0
MayRefuseMessage geometry (Set key value) refusal = (refusal ≡ BadMessage) ⊎ (refusal ≡ Failed)
MayRefuseMessage geometry (InvalidateCblocks ranges) refusal =
    ((refusal ≡ BadMessage) × ¬ AreRanges geometry.cache_blocks ranges) ⊎ (AreRanges geometry.cache_blocks ranges × ((refusal ≡ WrongMode) ⊎ (refusal ≡ Failed)))

-- It has carried out orders, one after the other, the one that waits longest first, until the gate said no; or until it was refused, since the target had
-- failed, or failed at an order.
abbrev pub ClientWorked : {D P G : Type 0} → Type 0 → (D → ℕ) → (D → List History) → (D → ℕ) → (List Order → ShareTold) → (Option Order → Type 0) → (G → Point → Bool → Type 0) → G → Option Refusal → Client D P → Client D P → Type 0
ClientWorked tells size contents faults asked next answers gate None old new =
    EndedBy (Runs tells size contents faults asked old.port.geometry.origin_blocks) next old.port.geometry answers gate (client_state old.port) (client_state new.port)
ClientWorked tells size contents faults asked next answers gate (Some refusal) old new =
    FailedAfter (Runs tells size contents faults asked old.port.geometry.origin_blocks) next old.port.geometry answers gate refusal (client_state old.port) (client_state new.port)
