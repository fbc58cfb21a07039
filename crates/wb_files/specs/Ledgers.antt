-- What a ledger tells of a file's history, and what a call on it does.
use Rattle.std.specs.Prelude.{◌≡◌, ◌<◌, ◌≤◌, ◌+◌, ℕ, false, List, ◌∷◌, Option, Some, None}
use Rattle.wb_files.specs.Events.{Event, Wrote, Began, EndedWell, Failed, syncs_begun, has_failure, BeganSince, IsCovered}
use Rattle.wb_files.specs.declared.ledger.OngoingSync.{OngoingSync}
use Rattle.wb_files.specs.declared.ledger.SyncLedger.{SyncLedger}

-- by its numbers each write is durable: a sync with a greater number than the last write has ended well, and none has failed
abbrev pub Covers : SyncLedger → Type 0
Covers ledger = (ledger.written < ledger.synced) × (ledger.has_failed ≡ false)

-- A ledger tells this history: it counts the syncs that began; each that is numbered past the last write began behind it; a failure is not forgotten; and where each write
-- is durable by its numbers, it is so by the history.
pub record IsTold (events : List Event) (ledger : SyncLedger) : Type 0 where
  pub begun : ledger.begun ≡ syncs_begun events
  pub since : (number : ℕ) → ledger.written < number → number ≤ ledger.begun → BeganSince events number
  pub sound : ledger.has_failed ≡ false → has_failure events ≡ false
  pub covered : Covers ledger → IsCovered events

-- The end of a write was noted: whatever history was told goes on by it, and no write counts as durable.
pub record Notes (old new : SyncLedger) : Type 0 where
  pub told : (events : List Event) → IsTold events old → IsTold (Wrote ∷ events) new
  pub uncovered : ¬ Covers new

-- A sync began, and has the next number; or it was left out, where each write is durable by whatever history was told; or no number was left, and it is not noted.
abbrev pub Begins : SyncLedger → Option OngoingSync → SyncLedger → Type 0
Begins old None new = (new ≡ old) × Covers old × ((events : List Event) → IsTold events old → IsCovered events)
Begins old (Some sync) new =
    (0 < sync.number → (events : List Event) → IsTold events old → (sync.number ≡ syncs_begun events + 1) × IsTold (Began sync.number ∷ events) new)
    × (sync.number ≡ 0 → new ≡ old)

-- A sync ended well, which is noted where it began.
pub record Ends (old : SyncLedger) (sync : OngoingSync) (new : SyncLedger) : Type 0 where
  pub told : (events : List Event) → IsTold events old → 0 < sync.number → sync.number ≤ syncs_begun events → IsTold (EndedWell sync.number ∷ events) new
  pub unnoted : (events : List Event) → IsTold events old → syncs_begun events < sync.number → new ≡ old

-- A sync failed, and from then on none is left out.
pub record Fails (old new : SyncLedger) : Type 0 where
  pub told : (events : List Event) → IsTold events old → IsTold (Failed ∷ events) new
  pub uncovered : ¬ Covers new
