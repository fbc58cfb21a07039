-- What a read or write of sectors of one block did to a client's hand.
use Rattle.std.specs.Prelude.{◌≡◌, ◌≤◌, ◌<◌, ◌+◌, ◌*◌, ◌%◌, ◌⊎◌, ℕ, Bool, true, false, List, [], ◌∷◌, Option, Some, None, length}
use Rattle.wb_types.specs.declared.mode.Mode.{Mode}
use Rattle.wb_types.specs.declared.mode.Mode.TheVariants.{Writeback}
use Rattle.wb_types.specs.declared.extent.Extent.{Extent}
use Rattle.wb_types.specs.declared.number.OBlock.{OBlock}
use Rattle.wb_types.specs.declared.number.CBlock.{CBlock}
use Rattle.wb_types.specs.declared.refusal.Refusal.{Refusal}
use Rattle.wb_types.specs.Extents.{pieces}
use Rattle.wb_types.specs.declared.geometry.Geometry.{Geometry}
use Rattle.wb_disk.specs.Device.{History, Content as Bytes}
use Rattle.wb_disk.specs.Extents.{GivesEach, written_each}
use Rattle.wb_words.specs.declared.word.Access.{Access}
use Rattle.wb_words.specs.declared.word.Access.TheVariants.{Shared, Owned}
use Rattle.wb_words.specs.declared.word.Kind.{Kind}
use Rattle.wb_words.specs.declared.word.Kind.TheVariants.{ReadHit, ReadMiss, WriteHit, WriteMiss}
use Rattle.wb_words.specs.declared.word.Word.TheVariants.{Cell as LockWord, Seal as SealWord, Number, Fail}
use Rattle.wb_words.specs.declared.card.Hold.TheVariants.{Nothing, Held}
use Rattle.wb_words.specs.declared.card.Card.{Card}
use Rattle.wb_words.specs.SharedWords.{place_in, dirty_in, seal_word}
use Rattle.wb_words.specs.Cards.{looked, holding, sealing, finishing, counting}
use Rattle.wb_words.specs.Looks.{SawAtMost}
use Rattle.wb_tasks.specs.Tables.{BlockRange, BlockJob, Reading, Writing, OnBlock, device_at, place_read, places_written}
use Rattle.wb_tasks.specs.Plan.{Plan, table}
use Rattle.wb_tasks.specs.Run.{IsRunOf, Leads}
use Rattle.wb_tasks.specs.Causes.{GaveCause}
use Rattle.wb_tasks.specs.declared.step.Answer.{Answer}
use Rattle.wb_tasks.specs.declared.step.Answer.TheVariants.{Done as Finished, Refused as Refuses}
use Rattle.wb_tasks.specs.declared.step.Want.{Want}
use Rattle.wb_tasks.specs.declared.step.Got.{Got}
use Rattle.wb_devices.specs.Moving.{OthersStay, device_in}
use Rattle.wb_devices.specs.declared.devices.Devices.{Devices}
use Rattle.wb_port.specs.declared.moving.TheConstants.{LONGEST}
use Rattle.wb_port.specs.declared.hand.Hand.{Hand}
use Rattle.wb_port.specs.Hands.{ReadStep, WriteStep}

-- a read or write, which asks nothing of a desk
abbrev pub IsReadOrWrite : BlockJob → Type 0
IsReadOrWrite (Reading part) = Unit {0}
IsReadOrWrite (Writing part) = Unit {0}
IsReadOrWrite job = ⊥

-- sectors of one block, cut into extents of at most the longest that a step takes, in this mode
abbrev pub part_of : Mode → ℕ → OBlock → Extent → BlockRange
part_of mode block_sectors block sectors = record { mode = mode; block_sectors = block_sectors; block = block; extents = pieces LONGEST sectors }

-- A block that stands at this place has this sector of the origin from here on, on the device of the place.
abbrev pub first_at : ℕ → Option CBlock → ℕ → ℕ
first_at block_sectors None first = first
first_at block_sectors (Some c) first = c.0 * block_sectors + first % block_sectors

abbrev pub read_kind : Option CBlock → Kind
read_kind None = ReadMiss
read_kind (Some c) = ReadHit

abbrev pub write_kind : Option CBlock → Kind
write_kind None = WriteMiss
write_kind (Some c) = WriteHit

-- ---- the card

-- A card that took a block: it saw the fail word clear, then the words of the block.
abbrev pub taking_card : Access → OBlock → ℕ → ℕ → ℕ → Card → Card
taking_card access block lock seal number card =
    looked (Number block) number (looked (SealWord block) seal (holding (Held access block) (looked (LockWord block) lock (looked Fail 0 card))))

-- a read counts by where its sectors are taken from, and gives its block back
abbrev pub read_card : Mode → OBlock → ℕ → ℕ → ℕ → Card → Card
read_card mode block lock seal number card = holding Nothing (counting (read_kind (place_read mode (place_in seal))) (taking_card Shared block lock seal number card))

-- in write-back a block is sealed dirty before the first write to its clean copy
abbrev pub dirtied : Mode → OBlock → Option CBlock → Bool → Card → Card
dirtied Writeback block (Some c) false card = sealing block (seal_word (Some c) true) card
dirtied mode block place dirty card = card

-- A write finishes one write more on its block, counts, and gives its block back.
abbrev pub write_card : Mode → OBlock → ℕ → ℕ → ℕ → Card → Card
write_card mode block lock seal number card =
    holding Nothing (counting (write_kind (place_in seal)) (finishing block (dirtied mode block (place_in seal) (dirty_in seal) (taking_card Owned block lock seal number card))))

-- ---- what was done

-- From such a state on, a run of what is left ends with this answer.
abbrev pub ComesTo : {S : Type 0} → (S → Want → Got → S → Type 0) → Plan → S → Answer → S → Type 0
ComesTo led s old answer new = (steps : List (Want × Got)) × IsRunOf s steps answer × Leads led old steps new

-- where a hand reads a block with this seal
abbrev pub read_at : {D : Type 0} → Hand D → ℕ → Option CBlock
read_at hand seal = place_read hand.mode (place_in seal)

-- sectors of a block that stands at this place are within the device of the place, where there are any
abbrev pub IsWithin : {D : Type 0} → (D → ℕ) → ℕ → ℕ → ℕ → Option CBlock → Devices D → Type 0
IsWithin size block_sectors first count place devices = 1 ≤ count → first_at block_sectors place first + count ≤ size (device_in (device_at place) devices)

-- A read: its steps were a run of its table to its end, by words of so many blocks, over a slice that held this before, and moved all of its
-- sectors. What the slice has is what the device gave on which the block stood, by the seal that was seen, but in passthrough the
-- origin, and the device has all of these sectors; no device changed, and none failed. The block's number is no less than any that the pass has seen of it.
pub record WasRead {D : Type 0} (tells : Type 0) (size : D → ℕ) (contents : D → List History) (faults : D → ℕ) (blocks block_sectors : ℕ) (block : OBlock) (sectors : Extent) (before out : List Bytes) (old new : Hand D) : Type 0 where
  pub lock : ℕ
  pub seal : ℕ
  pub number : ℕ
  pub same_mode : new.mode ≡ old.mode
  pub pass_is : new.pass ≡ record old.pass { card = read_card old.mode block lock seal number old.pass.card }
  pub least : SawAtMost block number old.pass.card.saw
  pub others : OthersStay (device_at (read_at old seal)) old.devices new.devices
  pub sized : size (device_in (device_at (read_at old seal)) new.devices) ≡ size (device_in (device_at (read_at old seal)) old.devices)
  pub inside : tells → IsWithin size block_sectors sectors.first sectors.count (read_at old seal) old.devices
  pub given : tells → GivesEach (contents (device_in (device_at (read_at old seal)) old.devices)) (first_at block_sectors (read_at old seal) sectors.first) out
  pub same : tells → contents (device_in (device_at (read_at old seal)) new.devices) ≡ contents (device_in (device_at (read_at old seal)) old.devices)
  pub no_fault : tells → faults (device_in (device_at (read_at old seal)) new.devices) ≡ faults (device_in (device_at (read_at old seal)) old.devices)
  pub run : ComesTo (ReadStep tells size contents faults blocks) (table (OnBlock (Reading (part_of old.mode block_sectors block sectors)))) (record { hand = old; out = before; moved = 0 }) Finished (record { hand = new; out = out; moved = sectors.count })

-- Sectors of a block that stands at this place were written the slice there, from this sector of the origin on: the device has all of them, and
-- did not fail; no other device changed.
pub record WrittenAt {D : Type 0} (tells : Type 0) (size : D → ℕ) (contents : D → List History) (faults : D → ℕ) (block_sectors first : ℕ) (from : List Bytes) (place : Option CBlock) (old new : Devices D) : Type 0 where
  pub others : OthersStay (device_at place) old new
  pub sized : size (device_in (device_at place) new) ≡ size (device_in (device_at place) old)
  pub inside : tells → IsWithin size block_sectors first (length from) place old
  pub written : tells → contents (device_in (device_at place) new) ≡ written_each (contents (device_in (device_at place) old)) (first_at block_sectors place first) from
  pub no_fault : tells → faults (device_in (device_at place) new) ≡ faults (device_in (device_at place) old)

-- so at each of these places
abbrev pub WrittenAtEach : {D : Type 0} → Type 0 → (D → ℕ) → (D → List History) → (D → ℕ) → ℕ → ℕ → List Bytes → List (Option CBlock) → Devices D → Devices D → Type 0
WrittenAtEach tells size contents faults block_sectors first from [] old new = new ≡ old
WrittenAtEach {D} tells size contents faults block_sectors first from (place ∷ places) old new =
    (mid : Devices D) × WrittenAt tells size contents faults block_sectors first from place old mid × WrittenAtEach tells size contents faults block_sectors first from places mid new

-- A write: its steps were a run of its table to its end, by words of so many blocks, and moved all of its sectors. Each place where
-- the mode has it written was written the slice, the block standing where the seal tells that was seen: one device, or in write-through of a mapped
-- block origin and cache.
pub record WasWritten {D : Type 0} (tells : Type 0) (size : D → ℕ) (contents : D → List History) (faults : D → ℕ) (blocks block_sectors : ℕ) (block : OBlock) (sectors : Extent) (from : List Bytes) (old new : Hand D) : Type 0 where
  pub lock : ℕ
  pub seal : ℕ
  pub number : ℕ
  pub same_mode : new.mode ≡ old.mode
  pub pass_is : new.pass ≡ record old.pass { card = write_card old.mode block lock seal number old.pass.card }
  pub least : SawAtMost block number old.pass.card.saw
  pub written : WrittenAtEach tells size contents faults block_sectors sectors.first from (places_written old.mode (place_in seal)) old.devices new.devices
  pub run : ComesTo (WriteStep tells size contents faults blocks from) (table (OnBlock (Writing (part_of old.mode block_sectors block sectors)))) (record { hand = old; moved = 0 }) Finished (record { hand = new; moved = sectors.count })

-- A request was refused: its steps were a run of its table that refuses so, they led from the stage before to the one after, and
-- one of them gave the cause.
pub record WasRefused {S : Type 0} (led : S → Want → Got → S → Type 0) (job : BlockJob) (old : S) (refusal : Refusal) (new : S) : Type 0 where
  pub steps : List (Want × Got)
  pub run : IsRunOf (table (OnBlock job)) steps (Refuses refusal)
  pub leads : Leads led old steps new
  pub cause : GaveCause (OnBlock job) refusal steps

-- A read of sectors of one block was refused, by words of so many blocks.
pub record ReadRefused {D : Type 0} (tells : Type 0) (size : D → ℕ) (contents : D → List History) (faults : D → ℕ) (blocks block_sectors : ℕ) (block : OBlock) (sectors : Extent) (old : Hand D) (out : List Bytes) (refusal : Refusal) (new : Hand D) (out' : List Bytes) : Type 0 where
  pub moved : ℕ
  pub same_mode : new.mode ≡ old.mode
  pub was : WasRefused (ReadStep tells size contents faults blocks) (Reading (part_of old.mode block_sectors block sectors)) (record { hand = old; out = out; moved = 0 }) refusal (record { hand = new; out = out'; moved = moved })

-- And a write of this slice.
pub record WriteRefused {D : Type 0} (tells : Type 0) (size : D → ℕ) (contents : D → List History) (faults : D → ℕ) (blocks block_sectors : ℕ) (block : OBlock) (sectors : Extent) (from : List Bytes) (old : Hand D) (refusal : Refusal) (new : Hand D) : Type 0 where
  pub moved : ℕ
  pub same_mode : new.mode ≡ old.mode
  pub was : WasRefused (WriteStep tells size contents faults blocks from) (Writing (part_of old.mode block_sectors block sectors)) (record { hand = old; moved = 0 }) refusal (record { hand = new; moved = moved })

-- ---- requests that are refused before any step

-- no sector, or one outside the origin
abbrev pub IsOutside : Geometry → ℕ → ℕ → Type 0
IsOutside geometry first count = (count ≡ 0) ⊎ (geometry.block * geometry.origin_blocks < first + count)

-- sectors of more than one block
abbrev pub Crosses : Geometry → ℕ → ℕ → Type 0
Crosses geometry first count = geometry.block < first % geometry.block + count
