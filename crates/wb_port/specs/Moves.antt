-- Which extents a client may move: those of the block that its pass has, where that block stands.
use Rattle.std.specs.Prelude.{◌≡◌, ◌≤◌, ◌+◌, ◌*◌, ◌⊎◌, ℕ, Bool, true, List, [], ◌∷◌, All, Option, Some, None}
use Rattle.wb_types.specs.declared.extent.Extent.{Extent}
use Rattle.wb_types.specs.declared.mode.Mode.{Mode}
use Rattle.wb_types.specs.declared.mode.Mode.TheVariants.{Writeback}
use Rattle.wb_types.specs.declared.mode.Dev.{Dev}
use Rattle.wb_types.specs.declared.mode.Dev.TheVariants.{Cache, Origin}
use Rattle.wb_types.specs.declared.number.OBlock.{OBlock}
use Rattle.wb_types.specs.declared.number.CBlock.{CBlock}
use Rattle.wb_words.specs.declared.word.Access.{Access}
use Rattle.wb_words.specs.declared.word.Access.TheVariants.{Owned}
use Rattle.wb_words.specs.declared.card.Hold.TheVariants.{Held}
use Rattle.wb_words.specs.declared.card.Card.{Card}
use Rattle.wb_words.specs.SharedWords.{place_in, dirty_in}
use Rattle.wb_disk.specs.Device.{History}
use Rattle.wb_devices.specs.declared.devices.Devices.{Devices}
use Rattle.wb_devices.specs.declared.running.RunningCommit.{RunningCommit}
use Rattle.wb_tasks.specs.Tables.{place_read, places_written}
use Rattle.wb_tasks.specs.declared.step.DeviceStep.{DeviceStep}
use Rattle.wb_tasks.specs.declared.step.DeviceStep.TheVariants.{Read, Write, WriteNode, WriteRoot}
use Rattle.wb_tasks.specs.declared.step.Migration.{Migration}
use Rattle.wb_tasks.specs.declared.step.Migration.TheVariants.{Promote, Demote, Clean}
use Rattle.wb_tasks.specs.declared.step.Want.{Want}
use Rattle.wb_tasks.specs.declared.step.Want.TheVariants.{Device}

-- an extent lies in so many sectors from here on
abbrev pub LiesIn : ℕ → ℕ → Extent → Type 0
LiesIn start size e = (start ≤ e.first) × (e.first + e.count ≤ start + size)

-- It lies in the block, and on the device on which the block stands: an unmapped one on the origin, a mapped one in its
-- cache block.
abbrev pub LiesAt : ℕ → OBlock → Option CBlock → Dev → Extent → Type 0
LiesAt size block None Origin e = LiesIn (block.0 * size) size e
LiesAt size block (Some c) Cache e = LiesIn (c.0 * size) size e
LiesAt size block place device e = ⊥

-- it lies so where it stands at one of these places
abbrev pub LiesAmong : ℕ → OBlock → List (Option CBlock) → Dev → Extent → Type 0
LiesAmong size block [] device e = ⊥
LiesAmong size block (place ∷ places) device e = LiesAt size block place device e ⊎ LiesAmong size block places device e

-- The pass shares or owns a block, of so many sectors, and has seen its seal since; the extent is in that block, where the
-- seal tells, but in passthrough on the origin.
pub record MayRead (mode : Mode) (size : ℕ) (card : Card) (device : Dev) (e : Extent) : Type 0 where
  pub access : Access
  pub block : OBlock
  pub seal : ℕ
  pub held : card.hold ≡ Held access block
  pub seen : card.seal ≡ Some seal
  pub at : LiesAt size block (place_read mode (place_in seal)) device e

-- a copy on this device is sealed dirty
abbrev pub IfCache : Dev → Bool → Type 0
IfCache Cache dirty = dirty ≡ true
IfCache device dirty = Unit {0}

abbrev pub IfOrigin : Dev → Bool → Type 0
IfOrigin Origin dirty = dirty ≡ true
IfOrigin device dirty = Unit {0}

-- in write-back a copy in the cache is sealed dirty before it is written
abbrev pub IfDirtied : Mode → Dev → Bool → Type 0
IfDirtied Writeback device dirty = IfCache device dirty
IfDirtied mode device dirty = Unit {0}

-- And it owns it; the extent is where the mode has it written, the block standing where the seal tells: in write-through of a mapped
-- block on the origin, and in its cache block.
pub record MayWrite (mode : Mode) (size : ℕ) (card : Card) (device : Dev) (e : Extent) : Type 0 where
  pub block : OBlock
  pub seal : ℕ
  pub owned : card.hold ≡ Held Owned block
  pub seen : card.seal ≡ Some seal
  pub dirty : IfDirtied mode device (dirty_in seal)
  pub at : LiesAmong size block (places_written mode (place_in seal)) device e

-- ---- copies

-- the cache block to which a migration copies its block
abbrev pub copied_to : Migration → Option CBlock
copied_to (Promote c) = Some c
copied_to Demote = None
copied_to Clean = None

-- Where a migration copies a block from or to: on the origin where the block is there, whatever its seal tells; in the cache at
-- this place.
abbrev pub IsCopyAt : ℕ → OBlock → Dev → Option CBlock → Extent → Type 0
IsCopyAt size block Origin place e = LiesIn (block.0 * size) size e
IsCopyAt size block Cache (Some c) e = LiesIn (c.0 * size) size e
IsCopyAt size block device place e = ⊥

-- The pass owns a block, and has seen its seal since, or sealed it; the extent is the block's, in the cache where the seal tells
-- that a dirty copy stands.
pub record MayCopyFrom (size : ℕ) (card : Card) (device : Dev) (e : Extent) : Type 0 where
  pub block : OBlock
  pub seal : ℕ
  pub owned : card.hold ≡ Held Owned block
  pub seen : card.seal ≡ Some seal
  pub dirty : IfCache device (dirty_in seal)
  pub at : IsCopyAt size block device (place_in seal) e

-- The pass owns a block; the extent is the block's, in the cache at the place to which it is copied. It is copied home before
-- it is sealed clean.
pub record MayCopyTo (size : ℕ) (card : Card) (device : Dev) (e : Extent) : Type 0 where
  pub block : OBlock
  pub to : Option CBlock
  pub seal : ℕ
  pub owned : card.hold ≡ Held Owned block
  pub seen : card.seal ≡ Some seal
  pub dirty : IfOrigin device (dirty_in seal)
  pub at : IsCopyAt size block device to e

-- ---- metadata

-- of each sector the last content alone is there
abbrev pub IsSynced : List History → Type 0
IsSynced histories = All (λ h. h.later ≡ []) histories

-- A node or root may be put: a commit runs, and what was written to cache and origin is durable.
pub record MayPut {D : Type 0} (tells : Type 0) (contents : D → List History) (devices : Devices D) (commit : Option RunningCommit) : Type 0 where
  pub commit_is : RunningCommit
  pub runs : commit ≡ Some commit_is
  pub cache : tells → IsSynced (contents devices.cache)
  pub origin : tells → IsSynced (contents devices.origin)

-- ---- the steps of a migration or a flush

-- an extent is copied, or a node or root put; any other step is free
abbrev pub MayPerform : {D : Type 0} → Type 0 → (D → List History) → ℕ → Card → Devices D → Option RunningCommit → DeviceStep → Type 0
MayPerform tells contents size card devices commit (Read device e) = MayCopyFrom size card device e
MayPerform tells contents size card devices commit (Write device e) = MayCopyTo size card device e
MayPerform tells contents size card devices commit (WriteNode number) = MayPut tells contents devices commit
MayPerform tells contents size card devices commit WriteRoot = MayPut tells contents devices commit
MayPerform tells contents size card devices commit step = Unit {0}

-- ---- requests

-- the same of any step: one that moves no extent asks for no block
abbrev pub MayMove : Mode → ℕ → Card → Want → Type 0
MayMove mode size card (Device (Read device e)) = MayRead mode size card device e
MayMove mode size card (Device (Write device e)) = MayWrite mode size card device e
MayMove mode size card next = Unit {0}
