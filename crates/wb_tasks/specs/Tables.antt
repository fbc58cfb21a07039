-- The step tables of the jobs on a block, and by which device each of its sectors goes.
use Rattle.std.specs.Prelude.{◌+◌, ◌*◌, ◌%◌, ◌++◌, ℕ, Bool, true, false, List, [], ◌∷◌, Option, Some, None, map}
use Rattle.wb_types.specs.declared.extent.Extent.{Extent}
use Rattle.wb_types.specs.declared.mode.Mode.{Mode}
use Rattle.wb_types.specs.declared.mode.Mode.TheVariants.{Writeback, Writethrough, Passthrough}
use Rattle.wb_types.specs.declared.mode.Dev.{Dev}
use Rattle.wb_types.specs.declared.mode.Dev.TheVariants.{Cache, Origin}
use Rattle.wb_types.specs.declared.number.OBlock.{OBlock}
use Rattle.wb_types.specs.declared.number.CBlock.{CBlock}
use Rattle.wb_words.specs.declared.word.Access.{Access}
use Rattle.wb_words.specs.declared.word.Access.TheVariants.{Shared, Owned}
use Rattle.wb_words.specs.declared.word.Kind.TheVariants.{ReadHit, ReadMiss, WriteHit, WriteMiss}
use Rattle.wb_words.specs.declared.word.Word.TheVariants.{Cell as LockWord, Seal as SealWord, Fail}
use Rattle.wb_words.specs.declared.step.CellStep.TheVariants.{Look, Take, Release, Seal, Finish, Count}
use Rattle.wb_tasks.specs.declared.step.DeviceStep.TheVariants.{Read, Write}
use Rattle.wb_tasks.specs.declared.step.DeskStep.TheVariants.{Map, Unmap, ReleaseOrder}
use Rattle.wb_tasks.specs.declared.step.Migration.{Migration}
use Rattle.wb_tasks.specs.declared.step.Migration.TheVariants.{Promote, Demote, Clean}
use Rattle.wb_tasks.specs.declared.step.Want.{Want}
use Rattle.wb_tasks.specs.declared.step.Want.TheVariants.{Cell, Device, Desk}

-- Sectors of one block of the origin, as extents of the origin's address range, in the order in which they are taken, and
-- the mode in which they are read and written. One step on a device moves one extent. Migrations do not look at the mode.
pub record BlockRange : Type 0 where
  pub mode : Mode
  pub block_sectors : ℕ
  pub block : OBlock
  pub extents : List Extent

-- the sectors of a whole block
abbrev pub whole_block : ℕ → OBlock → Extent
whole_block block_sectors block = record { first = block.0 * block_sectors; count = block_sectors }

-- What a task does with one block: it reads or writes sectors of it, or migrates the whole. Two jobs of passthrough take a mapped
-- block out of the cache by the desk, without a copy, and under no order: a write that may ask the desk, and an invalidation. They do
-- not look at the mode.
pub data BlockJob : Type 0 where
  Reading : BlockRange → BlockJob
  Writing : BlockRange → BlockJob
  Displacing : BlockRange → BlockJob
  Invalidating : BlockRange → BlockJob
  Migrating : Migration → BlockRange → BlockJob

-- What a task is to do. A flush may serve replacements, whose orders are those of these blocks, and its image has at most
-- so many nodes. A suspend looks at the seals of these blocks, which are those that are mapped, in this order, and its image has at
-- most so many nodes. An opening reads a metadata sector, and reads or writes at most so many more, the
-- sectors of its root not counted.
pub data TaskJob : Type 0 where
  OnBlock : BlockJob → TaskJob
  Flushing : (serves : List OBlock) → (most : ℕ) → TaskJob
  Suspending : (blocks : List OBlock) → (most : ℕ) → TaskJob
  Opening : (left : ℕ) → TaskJob

abbrev pub range_of : BlockJob → BlockRange
range_of (Reading part) = part
range_of (Writing part) = part
range_of (Displacing part) = part
range_of (Invalidating part) = part
range_of (Migrating migration part) = part

-- a read shares its block, all others own it
abbrev pub access_of : BlockJob → Access
access_of (Reading part) = Shared
access_of (Writing part) = Owned
access_of (Displacing part) = Owned
access_of (Invalidating part) = Owned
access_of (Migrating migration part) = Owned

-- of all jobs the two that write what they are given are numbered
abbrev pub is_write : BlockJob → Bool
is_write (Writing part) = true
is_write (Displacing part) = true
is_write job = false

-- ---- the route

-- a block that stands at this place is on this device: an unmapped one on the origin, a mapped one on the cache
abbrev pub device_at : Option CBlock → Dev
device_at None = Origin
device_at (Some c) = Cache

-- the place of an extent of a block in the block's copy on the cache device
abbrev pub cache_extent : BlockRange → CBlock → Extent → Extent
cache_extent part c e = record { first = c.0 * part.block_sectors + e.first % part.block_sectors; count = e.count }

abbrev pub read_step : BlockRange → Option CBlock → Extent → Want
read_step part None e = Device (Read Origin e)
read_step part (Some c) e = Device (Read Cache (cache_extent part c e))

abbrev pub write_step : BlockRange → Option CBlock → Extent → Want
write_step part None e = Device (Write Origin e)
write_step part (Some c) e = Device (Write Cache (cache_extent part c e))

-- Where a read takes its extents from, the block standing at this place: in passthrough from the origin, else from there.
abbrev pub place_read : Mode → Option CBlock → Option CBlock
place_read Passthrough place = None
place_read mode place = place

-- Where a write puts each of its extents, one after the other: in write-back where the newest copy stands; in write-through of a
-- mapped block on the origin, and then in the cache; else on the origin alone.
abbrev pub places_written : Mode → Option CBlock → List (Option CBlock)
places_written Writeback place = place ∷ []
places_written Writethrough (Some c) = None ∷ Some c ∷ []
places_written mode place = None ∷ []

-- In write-back a mapped block is sealed dirty before the first write to its clean copy. Write-through keeps the dirty bit as it is.
abbrev pub dirtying : Mode → OBlock → Option CBlock → Bool → List Want
dirtying Writeback block (Some c) false = Cell (Seal block (Some c) true) ∷ []
dirtying mode block place dirty = []

-- In passthrough a write of a mapped block gives it back, since the desk is needed first.
abbrev pub is_deferred : Mode → Option CBlock → Bool
is_deferred Passthrough (Some c) = true
is_deferred mode place = false

-- A read counts as a hit where it takes its extents from the cache: so none does in passthrough.
abbrev pub read_count : Option CBlock → Want
read_count None = Cell (Count ReadMiss)
read_count (Some c) = Cell (Count ReadHit)

-- a write counts as a hit where its block is mapped, in every mode
abbrev pub write_count : Option CBlock → Want
write_count None = Cell (Count WriteMiss)
write_count (Some c) = Cell (Count WriteHit)

-- Each of these extents is read from one place of its block and written to another, before the next one is read.
abbrev pub copies : BlockRange → Option CBlock → Option CBlock → List Extent → List Want
copies part from to [] = []
copies part from to (e ∷ extents) = read_step part from e ∷ write_step part to e ∷ copies part from to extents

-- Each of these extents is written to each of these places of its block, before the next one is.
abbrev pub writes : BlockRange → List (Option CBlock) → List Extent → List Want
writes part places [] = []
writes part places (e ∷ extents) = map (λ place. write_step part place e) places ++ writes part places extents

-- A mapped block leaves the cache without a copy: its entry is removed, and it is sealed to the origin.
abbrev pub dropping : OBlock → Option CBlock → List Want
dropping block None = []
dropping block (Some c) = Desk (Unmap block) ∷ Cell (Seal block None false) ∷ []

-- ---- the step tables, for any cut of the sectors into extents

-- acquiring a block: the fail word, then the lock word; what comes after it is known once it was seen
abbrev pub acquire : OBlock → List Want
acquire block = Cell (Look Fail) ∷ Cell (Look (LockWord block)) ∷ []

-- the exchange, at the lock word that was seen, and then the seal; what comes after it is known once it was seen
abbrev pub taking : Access → OBlock → ℕ → List Want
taking access block seen = Cell (Take access block seen) ∷ Cell (Look (SealWord block)) ∷ []

-- What a migration of a block at this place ends with, once its extents are copied. The map ends a promotion's order, the
-- unmap a demotion's; a write-back releases its own.
abbrev pub ending : Migration → OBlock → Option CBlock → List Want
ending (Promote c) block place = Desk (Map block c) ∷ Cell (Seal block (Some c) false) ∷ Cell (Release Owned block) ∷ []
ending Demote block place = Desk (Unmap block) ∷ Cell (Seal block None false) ∷ Cell (Release Owned block) ∷ []
ending Clean block place = Cell (Seal block place false) ∷ Cell (Release Owned block) ∷ Desk (ReleaseOrder block) ∷ []

-- A promotion copies its block into the cache; a demotion or write-back copies it home where the cache's copy is dirty.
abbrev pub copying : Migration → BlockRange → Option CBlock → Bool → List Want
copying (Promote c) part place dirty = copies part None (Some c) part.extents
copying migration part (Some c) true = copies part (Some c) None part.extents
copying migration part place dirty = []

-- What a write does in each mode once it has its block, which stands at this place. In passthrough a mapped block's entry is to be
-- removed first, which a request may not ask of a desk: it gives its block back, and its answer says so.
abbrev pub writing : Mode → BlockRange → Option CBlock → Bool → List Want
writing Passthrough part (Some c) dirty = Cell (Release Owned part.block) ∷ []
writing mode part place dirty = dirtying mode part.block place dirty ++ writes part (places_written mode place) part.extents ++ Cell (Finish part.block) ∷ write_count place ∷ Cell (Release Owned part.block) ∷ []

-- what a job does once it has its block, which stands at this place
abbrev pub work : BlockJob → Option CBlock → Bool → List Want
work (Reading part) place dirty = map (read_step part (place_read part.mode place)) part.extents ++ read_count (place_read part.mode place) ∷ Cell (Release Shared part.block) ∷ []
work (Writing part) place dirty = writing part.mode part place dirty
work (Displacing part) place dirty = dropping part.block place ++ writes part (None ∷ []) part.extents ++ Cell (Finish part.block) ∷ write_count place ∷ Cell (Release Owned part.block) ∷ []
work (Invalidating part) place dirty = dropping part.block place ++ Cell (Release Owned part.block) ∷ []
work (Migrating migration part) place dirty = copying migration part place dirty ++ ending migration part.block place
