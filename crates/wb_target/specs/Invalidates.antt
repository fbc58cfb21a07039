-- What an invalidation does: blocks leave the cache, without a copy, as a message in passthrough asks for it.
use Rattle.std.specs.Prelude.{◌≡◌, ◌≢◌, ◌≤◌, ◌<◌, ◌+◌, ◌-◌, ◌++◌, ◌⊎◌, ℕ, zero, suc, List, [], ◌∷◌, Option, Some, None, if◌then◌else◌, nat_lt, flat_map}
use Rattle.wb_types.specs.declared.entry.Entry.{Entry}
use Rattle.wb_types.specs.declared.geometry.Geometry.{Geometry}
use Rattle.wb_types.specs.declared.message.CBlockRange.{CBlockRange}
use Rattle.wb_types.specs.declared.mode.Mode.TheVariants.{Passthrough}
use Rattle.wb_types.specs.declared.number.OBlock.{OBlock}
use Rattle.wb_types.specs.declared.refusal.Refusal.{Refusal}
use Rattle.wb_types.specs.declared.refusal.Refusal.TheVariants.{Busy, BadMessage, WrongMode, Failed}
use Rattle.wb_tree.specs.Mapping.{entry_at}
use Rattle.wb_tasks.specs.Tables.{Invalidating, OnBlock}
use Rattle.wb_tasks.specs.Plan.{Plan, table}
use Rattle.wb_tasks.specs.Run.{IsRunOf, Leads}
use Rattle.wb_tasks.specs.declared.step.Answer.{Answer}
use Rattle.wb_tasks.specs.declared.step.Answer.TheVariants.{Done as Finished, Refused as Refuses}
use Rattle.wb_tasks.specs.declared.step.DeskStep.TheVariants.{Unmap}
use Rattle.wb_tasks.specs.declared.step.Want.{Want}
use Rattle.wb_tasks.specs.declared.step.Want.TheVariants.{Cell, Desk, End}
use Rattle.wb_tasks.specs.declared.step.Got.{Got}
use Rattle.wb_tasks.specs.declared.step.Got.TheVariants.{Done}
use Rattle.wb_desk.specs.Desks.{DeskState}
use Rattle.wb_desk.specs.Messages.{AreRanges}
use Rattle.wb_port.specs.Hands.{DoneByPass, IsReadyOn, saw_fail_word}
use Rattle.wb_port.specs.declared.hand.Hand.{Hand}
use Rattle.wb_target.specs.Tries.{EndedAfter}
use Rattle.wb_target.specs.Works.{DeskTold}
use Rattle.wb_target.specs.declared.client.Client.{Client}
use Rattle.wb_target.specs.declared.invalidating.InvalidateStage.{InvalidateStage}

-- the table of an invalidation of a block, which moves no sector
abbrev pub invalidation : ℕ → OBlock → Plan
invalidation block_sectors block = table (OnBlock (Invalidating (record { mode = Passthrough; block_sectors = block_sectors; block = block; extents = [] })))

-- what a step of it does to a client's hand: the desk is asked to take a block out of the mapping, or it is a step of the pass on a word
abbrev pub InvalidateStep : {D : Type 0} → DeskTold → ℕ → Hand D → Want → Got → Hand D → Type 0
InvalidateStep asked blocks s (Desk (Unmap block)) got t = (t ≡ s) × asked (Unmap block) Done None None
InvalidateStep asked blocks s (Cell step) got t = (t ≡ record s { pass = t.pass }) × DoneByPass blocks s.pass (Cell step) got t.pass
InvalidateStep asked blocks s want got t = ⊥

abbrev pub IsReadyToInvalidate : {R D P : Type 0} → InvalidateStage R D P → Want → Type 0
IsReadyToInvalidate stage (Desk (Unmap block)) = Unit {0}
IsReadyToInvalidate stage (Cell step) = IsReadyOn stage.cells.now stage.hand.now.pass (Cell step)
IsReadyToInvalidate stage (End answer) = Unit {0}
IsReadyToInvalidate stage want = ⊥

pub record InvalidateLed {R D P : Type 0} (asked : DeskTold) (old : InvalidateStage R D P) (want : Want) (got : Got) (new : InvalidateStage R D P) : Type 0 where
  pub cells : new.cells ≡ old.cells
  pub same_hand : new.hand.ghost_name ≡ old.hand.ghost_name
  pub did : InvalidateStep asked old.cells.now.blocks old.hand.now want got new.hand.now

-- By words of so many blocks the table of such an invalidation was run up to this answer.
pub record WasInvalidated {D : Type 0} (asked : DeskTold) (blocks block_sectors : ℕ) (block : OBlock) (old : Hand D) (answer : Answer) (new : Hand D) : Type 0 where
  pub steps : List (Want × Got)
  pub run : IsRunOf (invalidation block_sectors block) steps answer
  pub leads : Leads (InvalidateStep asked blocks) old steps new

-- After runs that were refused as busy, if any, one came to this answer.
abbrev pub InvalidationCame : {D : Type 0} → DeskTold → Geometry → Answer → OBlock → Hand D → Hand D → Type 0
InvalidationCame asked geometry answer block old new =
    EndedAfter (λ s t. WasInvalidated asked geometry.origin_blocks geometry.block block s (Refuses Busy) t) (λ s t. WasInvalidated asked geometry.origin_blocks geometry.block block s answer t) old new

-- the block of an entry, where it is there, of so many on the origin
abbrev pub block_within : ℕ → Option Entry → List OBlock
block_within count None = []
block_within count (Some entry) = if nat_lt entry.origin.0 count then (entry.origin ∷ []) else []

-- one that is there, or none
abbrev pub listed : Option OBlock → List OBlock
listed None = []
listed (Some block) = block ∷ []

-- some desk was asked for the block in this cache block, of so many on the origin, and told this one, or none
abbrev pub WasFound : Type 0 → ℕ → ℕ → Option OBlock → Type 0
WasFound P blocks place found = (d : DeskState P) × (((d.geometry.cache_blocks ≤ place) × (found ≡ None)) ⊎ (listed found ≡ block_within blocks (entry_at d.tree place)))

-- The block that was found in a cache block, if any, has left the cache.
abbrev pub LeavesIfFound : {H : Type 0} → (OBlock → H → H → Type 0) → Option OBlock → H → H → Type 0
LeavesIfFound leaves None old new = new ≡ old
LeavesIfFound leaves (Some block) old new = leaves block old new

-- Some desk was asked for the block in this cache block, and what it told has left.
abbrev pub IsEmptied : {H : Type 0} → (ℕ → Option OBlock → Type 0) → (OBlock → H → H → Type 0) → ℕ → H → H → Type 0
IsEmptied found leaves place old new = (block : Option OBlock) × found place block × LeavesIfFound leaves block old new

-- These cache blocks were emptied, one after the other.
abbrev pub AreEmptied : {H : Type 0} → (ℕ → Option OBlock → Type 0) → (OBlock → H → H → Type 0) → List ℕ → H → H → Type 0
AreEmptied found leaves [] old new = old ≡ new
AreEmptied {H} found leaves (place ∷ places) old new = (mid : H) × IsEmptied found leaves place old mid × AreEmptied found leaves places mid new

-- Of these cache blocks the first ones were emptied, and the block that was found in the next one did not leave.
pub record AreStopped {H : Type 0} (found : ℕ → Option OBlock → Type 0) (leaves stays : OBlock → H → H → Type 0) (places : List ℕ) (old new : H) : Type 0 where
  pub done : List ℕ
  pub place : ℕ
  pub rest : List ℕ
  pub all : places ≡ done ++ place ∷ rest
  pub before : H
  pub emptied : AreEmptied found leaves done old before
  pub block : OBlock
  pub found_there : found place (Some block)
  pub stayed : stays block before new

-- so many cache blocks from this one on
abbrev pub from_place : ℕ → ℕ → List ℕ
from_place first zero = []
from_place first (suc count) = first ∷ from_place (first + 1) count

-- the cache blocks of a range, rising
abbrev pub range_places : CBlockRange → List ℕ
range_places range = from_place range.begin.0 (range.end.0 - range.begin.0)

-- The blocks in these cache blocks have left a client's cache.
abbrev pub HaveLeftCache : {D : Type 0} → Type 0 → DeskTold → Geometry → List ℕ → Hand D → Hand D → Type 0
HaveLeftCache P asked geometry places old new = AreEmptied (WasFound P geometry.origin_blocks) (InvalidationCame asked geometry Finished) places old new

-- Those in the first of them have, and the next block met the fail word, which was set.
abbrev pub HaveFailed : {D : Type 0} → Type 0 → DeskTold → Geometry → List ℕ → Hand D → Hand D → Type 0
HaveFailed P asked geometry places old new = AreStopped (WasFound P geometry.origin_blocks) (InvalidationCame asked geometry Finished) (InvalidationCame asked geometry (Refuses Failed)) places old new

-- Of a client an invalidation leaves its target, the sizes, the devices and the accesses that are unsettled.
abbrev pub LeavesTheRest : {D P : Type 0} → Client D P → Client D P → Type 0
LeavesTheRest old new = (new.target ≡ old.target) × (new.port.geometry ≡ old.port.geometry) × (new.port.hand.devices ≡ old.port.hand.devices) × (new.port.accesses ≡ old.port.accesses)

-- The ranges are there, and the mode is passthrough; the blocks in all of them have left the cache, range by range, after a look at the fail
-- word, which was clear.
pub record WereInvalidated {D : Type 0} (P : Type 0) (asked : DeskTold) (geometry : Geometry) (ranges : List CBlockRange) (old new : Hand D) : Type 0 where
  pub there : AreRanges geometry.cache_blocks ranges
  pub passes : old.mode ≡ Passthrough
  pub left : HaveLeftCache P asked geometry (flat_map range_places ranges) (saw_fail_word 0 old) new

-- Some range is empty or goes past the cache's end; or else the mode is another one; or else the fail word was set at the first look, and nothing
-- was done, or at a later one.
pub data InvalidateRefused {D : Type 0} (P : Type 0) (asked : DeskTold) (geometry : Geometry) (ranges : List CBlockRange) (refusal : Refusal) (old new : Hand D) : Type 0 where
  NoRange : refusal ≡ BadMessage → ¬ AreRanges geometry.cache_blocks ranges → new ≡ old → InvalidateRefused P asked geometry ranges refusal old new
  OtherMode : refusal ≡ WrongMode → AreRanges geometry.cache_blocks ranges → old.mode ≢ Passthrough → new ≡ old → InvalidateRefused P asked geometry ranges refusal old new
  HadFailed : refusal ≡ Failed → AreRanges geometry.cache_blocks ranges → old.mode ≡ Passthrough → (word : ℕ) → 0 < word → new ≡ saw_fail_word word old → InvalidateRefused P asked geometry ranges refusal old new
  Stopped : refusal ≡ Failed → AreRanges geometry.cache_blocks ranges → old.mode ≡ Passthrough → HaveFailed P asked geometry (flat_map range_places ranges) (saw_fail_word 0 old) new → InvalidateRefused P asked geometry ranges refusal old new
