-- What a blocking read or write did, block by block.
use Rattle.std.specs.Prelude.{◌≡◌, ◌≢◌, ◌≤◌, ◌<◌, ◌+◌, ◌-◌, ◌*◌, ◌%◌, ◌⊎◌, ℕ, zero, suc, min, List, Option, Some, None, length, take, drop}
use Rattle.wb_types.specs.declared.extent.Extent.{Extent}
use Rattle.wb_types.specs.declared.geometry.Geometry.{Geometry}
use Rattle.wb_types.specs.declared.refusal.Refusal.{Refusal}
use Rattle.wb_types.specs.declared.refusal.Refusal.TheVariants.{Busy, Range}
use Rattle.wb_disk.specs.Device.{History, Content as Bytes}
use Rattle.wb_port.specs.Ports.{block_at}
use Rattle.wb_port.specs.Requests.{WasRead, WasWritten, ReadRefused, WriteRefused, IsOutside}
use Rattle.wb_port.specs.declared.hand.Hand.{Hand}
use Rattle.wb_tasks.specs.declared.step.Answer.TheVariants.{Done as Finished, Refused as Refuses}
use Rattle.wb_target.specs.Displaces.{WasDeferred}
use Rattle.wb_target.specs.Works.{DeskTold}
use Rattle.wb_target.specs.Tries.{EndedAfter}
use Rattle.wb_target.specs.declared.blocking.Stopped.{Stopped}

-- What became of one try of a part, from a client's hand and the part's place in the caller's slice to both after it: it was
-- done, or refused.

abbrev pub ReadCame : {D : Type 0} → Type 0 → (D → ℕ) → (D → List History) → (D → ℕ) → Geometry → Option Refusal → Extent → Hand D × List Bytes → Hand D × List Bytes → Type 0
ReadCame tells size contents faults geometry None part s t = WasRead tells size contents faults geometry.origin_blocks geometry.block (block_at geometry part.first) part s.1 t.1 s.0 t.0
ReadCame tells size contents faults geometry (Some refusal) part s t = ReadRefused tells size contents faults geometry.origin_blocks geometry.block (block_at geometry part.first) part s.0 s.1 refusal t.0 t.1

-- in passthrough a write that was deferred is done by the desk
abbrev pub WriteCame : {D : Type 0} → Type 0 → (D → ℕ) → (D → List History) → (D → ℕ) → DeskTold → Geometry → Option Refusal → Extent → Hand D × List Bytes → Hand D × List Bytes → Type 0
WriteCame tells size contents faults asked geometry None part s t =
    (WasWritten tells size contents faults geometry.origin_blocks geometry.block (block_at geometry part.first) part s.1 s.0 t.0 ⊎ WasDeferred tells size contents faults asked geometry part s.1 s.0 Finished t.0) × (t.1 ≡ s.1)
WriteCame tells size contents faults asked geometry (Some refusal) part s t =
    (WriteRefused tells size contents faults geometry.origin_blocks geometry.block (block_at geometry part.first) part s.1 s.0 refusal t.0 ⊎ WasDeferred tells size contents faults asked geometry part s.1 s.0 (Refuses refusal) t.0) × (t.1 ≡ s.1)

-- A part came to its end: tries of it that were refused as busy, and one that was not.
abbrev pub CameTo : {S : Type 0} → (Option Refusal → Extent → S → S → Type 0) → Option Refusal → Extent → S → S → Type 0
CameTo came end part s t = EndedAfter (came (Some Busy) part) (came end part) s t

-- Of so many sectors from here on, those of the first block.
abbrev pub front : ℕ → ℕ → ℕ → Extent
front block_sectors first count = record { first = first; count = min (block_sectors - first % block_sectors) count }

-- Nothing is left of a request, or its next part was refused, and the slice stays behind that part's place.
abbrev pub Ends : {H : Type 0} → (Option Refusal → Extent → H × List Bytes → H × List Bytes → Type 0) → ℕ → Option Refusal → ℕ → H → List Bytes → H → List Bytes → Type 0
Ends came block_sectors None first old slice new slice' = (length slice ≡ 0) × (new ≡ old) × (slice' ≡ slice)
Ends came block_sectors (Some refusal) first old slice new slice' =
    let part = front block_sectors first (length slice) in
    (0 < length slice) × CameTo came (Some refusal) part (old, take part.count slice) (new, take part.count slice') × (drop part.count slice' ≡ drop part.count slice)

-- Of the parts of a request, one a block and rising, so many were done, one after the other, each at its own place of the slice;
-- then the request ended.
abbrev pub InParts : {H : Type 0} → (Option Refusal → Extent → H × List Bytes → H × List Bytes → Type 0) → ℕ → Option Refusal → ℕ → ℕ → H → List Bytes → H → List Bytes → Type 0
InParts came block_sectors end zero first old slice new slice' = Ends came block_sectors end first old slice new slice'
InParts {H} came block_sectors end (suc done) first old slice new slice' =
    let part = front block_sectors first (length slice) in
    (0 < length slice) × ((mid : H) × CameTo came None part (old, take part.count slice) (mid, take part.count slice')
    × InParts came block_sectors end done (first + part.count) mid (drop part.count slice) new (drop part.count slice'))

abbrev pub IsInsideOrigin : Geometry → ℕ → ℕ → Type 0
IsInsideOrigin geometry first count = (0 < count) × (first + count ≤ geometry.block * geometry.origin_blocks)

-- A request that was stopped lay outside, and nothing was done; or so many of its parts were done, and the next one was refused.
abbrev pub IsStopped : {H : Type 0} → (Option Refusal → Extent → H × List Bytes → H × List Bytes → Type 0) → Geometry → ℕ → Stopped → H → List Bytes → H → List Bytes → Type 0
IsStopped came geometry first stopped old slice new slice' =
    (IsOutside geometry first (length slice) × (stopped.done ≡ 0) × (stopped.refusal ≡ Range) × (new ≡ old) × (slice' ≡ slice))
    ⊎ (IsInsideOrigin geometry first (length slice) × (stopped.refusal ≢ Range) × InParts came geometry.block (Some stopped.refusal) stopped.done first old slice new slice')
