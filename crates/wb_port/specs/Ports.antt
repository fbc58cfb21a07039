-- Which requests a client's port refuses, and why.
use Rattle.std.specs.Prelude.{◌≡◌, ◌≤◌, ◌/◌, ◌⊎◌, ℕ, List, length}
use Rattle.wb_types.specs.declared.geometry.Geometry.{Geometry}
use Rattle.wb_types.specs.declared.number.OBlock.{OBlock}
use Rattle.wb_types.specs.declared.refusal.Refusal.{Refusal}
use Rattle.wb_types.specs.declared.refusal.Refusal.TheVariants.{Range, Crosses as CrossesBlocks, Defer}
use Rattle.wb_disk.specs.Device.{History, Content as Bytes}
use Rattle.wb_port.specs.declared.port.TheConstants.{UNSETTLED}
use Rattle.wb_port.specs.declared.port.Port.{Port}
use Rattle.wb_port.specs.Requests.{IsOutside, Crosses, ReadRefused, WriteRefused}

-- the block of a sector
abbrev pub block_at : Geometry → ℕ → OBlock
block_at geometry first = record { 0 = first / geometry.block }

-- A request is refused before any step, with so many accesses unsettled.
abbrev pub IsTryRefused : Geometry → ℕ → ℕ → ℕ → Refusal → Type 0
IsTryRefused geometry unsettled first count Range = IsOutside geometry first count
IsTryRefused geometry unsettled first count CrossesBlocks = Crosses geometry first count
IsTryRefused geometry unsettled first count Defer = UNSETTLED ≤ unsettled
IsTryRefused geometry unsettled first count refusal = ⊥

-- Either so, and nothing changed, or by a run of the table of a read.
abbrev pub TryReadRefused : {D : Type 0} → Type 0 → (D → ℕ) → (D → List History) → (D → ℕ) → Port D → ℕ → List Bytes → Refusal → Port D → List Bytes → Type 0
TryReadRefused tells size contents faults port first out refusal port' out' =
    (IsTryRefused port.geometry (length port.accesses.items) first (length out) refusal × (port'.hand ≡ port.hand) × (out' ≡ out))
    ⊎ ReadRefused tells size contents faults port.cells.value.blocks port.geometry.block (block_at port.geometry first) (record { first = first; count = length out }) port.hand out refusal port'.hand out'

abbrev pub TryWriteRefused : {D : Type 0} → Type 0 → (D → ℕ) → (D → List History) → (D → ℕ) → Port D → ℕ → List Bytes → Refusal → Port D → Type 0
TryWriteRefused tells size contents faults port first from refusal port' =
    (IsTryRefused port.geometry (length port.accesses.items) first (length from) refusal × (port'.hand ≡ port.hand))
    ⊎ WriteRefused tells size contents faults port.cells.value.blocks port.geometry.block (block_at port.geometry first) (record { first = first; count = length from }) from port.hand refusal port'.hand
