-- Why a call on a target was refused: what had been asked of one of its clients, and what that client met.
use Rattle.std.specs.Prelude.{◌≡◌, ℕ, List, [], Option}
use Rattle.wb_types.specs.declared.geometry.Geometry.{Geometry}
use Rattle.wb_types.specs.declared.message.Message.{Message}
use Rattle.wb_types.specs.declared.refusal.Refusal.{Refusal}
use Rattle.wb_disk.specs.Device.{History, Content as Bytes}
use Rattle.wb_policy.specs.declared.order.Order.{Order}
use Rattle.wb_port.specs.Ports.{TryReadRefused, TryWriteRefused}
use Rattle.wb_port.specs.declared.hand.Hand.{Hand}
use Rattle.wb_stage.specs.declared.share.Share.TheVariants.{Nothing as Unshared}
use Rattle.wb_target.specs.Blocking.{ReadCame, WriteCame, IsStopped}
use Rattle.wb_target.specs.Carried.{client_state, Runs}
use Rattle.wb_target.specs.Durable.{StoppedDurably}
use Rattle.wb_target.specs.Workers.{FlushRefused, OrderRefused, TickRefused}
use Rattle.wb_target.specs.Works.{ShareTold}
use Rattle.wb_target.specs.declared.blocking.Stopped.{Stopped}
use Rattle.wb_target.specs.declared.client.Client.{Client}

-- Sectors from a place on were to be read into a slice, which has the second content now for the first, or to be written, also so that they are
-- durable; the same within one block without waiting; all was to be made durable, alone or after a tick of the policy; an order was to be
-- carried out; a message was to be followed.
pub data Demand : Type 0 where
  Reads : (at : ℕ) → (before : List Bytes) → (after : List Bytes) → Demand
  Writes : (at : ℕ) → (content : List Bytes) → Demand
  WritesDurably : (at : ℕ) → (content : List Bytes) → Demand
  TriesRead : (at : ℕ) → (before : List Bytes) → (after : List Bytes) → Demand
  TriesWrite : (at : ℕ) → (content : List Bytes) → Demand
  Flushes : Demand
  Ticks : Demand
  Works : Demand
  Follows : (message : Message) → Demand

-- A client has met that: sectors that are not there, before any step; or its own steps, on words, devices and at the desk, came to that answer.
abbrev pub ClientMet : {D P : Type 0} → Type 0 → (D → ℕ) → (D → List History) → (D → ℕ) → (List Order → ShareTold) → (Option Order → Type 0) → (Geometry → Message → Refusal → Hand D → Hand D → Type 0) → Client D P → Demand → Refusal → Client D P → Type 0
ClientMet tells size contents faults asked next unfollowed old (Reads at before after) refusal new = (stopped : Stopped) × (stopped.refusal ≡ refusal)
    × IsStopped (ReadCame tells size contents faults old.port.geometry) old.port.geometry at stopped old.port.hand before new.port.hand after
ClientMet tells size contents faults asked next unfollowed old (Writes at content) refusal new = (stopped : Stopped) × (stopped.refusal ≡ refusal)
    × IsStopped (WriteCame tells size contents faults (asked [] Unshared Unshared) old.port.geometry) old.port.geometry at stopped old.port.hand content new.port.hand content
ClientMet tells size contents faults asked next unfollowed old (WritesDurably at content) refusal new = (stopped : Stopped) × (stopped.refusal ≡ refusal)
    × StoppedDurably (WriteCame tells size contents faults (asked [] Unshared Unshared) old.port.geometry) (FlushRefused (Runs tells size contents faults asked old.port.geometry.origin_blocks) old.port.geometry) old.port.geometry at stopped old.port.hand content (client_state new.port)
ClientMet tells size contents faults asked next unfollowed old (TriesRead at before after) refusal new = TryReadRefused tells size contents faults old.port at before refusal new.port after
ClientMet tells size contents faults asked next unfollowed old (TriesWrite at content) refusal new = TryWriteRefused tells size contents faults old.port at content refusal new.port
ClientMet tells size contents faults asked next unfollowed old Flushes refusal new =
    FlushRefused (Runs tells size contents faults asked old.port.geometry.origin_blocks) old.port.geometry refusal (client_state old.port) (client_state new.port)
ClientMet tells size contents faults asked next unfollowed old Ticks refusal new =
    TickRefused (Runs tells size contents faults asked old.port.geometry.origin_blocks) old.port.geometry refusal (client_state old.port) (client_state new.port)
ClientMet tells size contents faults asked next unfollowed old Works refusal new =
    OrderRefused (Runs tells size contents faults asked old.port.geometry.origin_blocks) next old.port.geometry refusal (client_state old.port) (client_state new.port)
ClientMet tells size contents faults asked next unfollowed old (Follows message) refusal new = unfollowed old.port.geometry message refusal old.port.hand new.port.hand
