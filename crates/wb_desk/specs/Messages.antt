-- What a message makes of a desk, and when it is refused.
use Rattle.std.specs.Prelude.{◌≡◌, ◌≢◌, ◌≤◌, ◌<◌, ◌^◌, ◌⊎◌, ℕ, All, List, Option, Some, None}
use Rattle.wb_types.specs.declared.mode.Mode.TheVariants.{Passthrough}
use Rattle.wb_types.specs.declared.message.CBlockRange.{CBlockRange}
use Rattle.wb_types.specs.declared.message.Key.{Key}
use Rattle.wb_types.specs.declared.message.Key.TheVariants.{MigrationThreshold, PromoteMin}
use Rattle.wb_types.specs.declared.message.Message.{Message}
use Rattle.wb_types.specs.declared.message.Message.TheVariants.{Set, InvalidateCblocks}
use Rattle.wb_types.specs.declared.refusal.Refusal.{Refusal}
use Rattle.wb_types.specs.declared.refusal.Refusal.TheVariants.{BadMessage, WrongMode}
use Rattle.wb_desk.specs.Desks.{DeskState}

-- each range has a cache block, and none past the last
abbrev pub AreRanges : ℕ → List CBlockRange → Type 0
AreRanges cache_blocks ranges = All (λ r. (r.begin.0 < r.end.0) × (r.end.0 ≤ cache_blocks)) ranges

-- A threshold is set, the policy takes a setting, or the ranges may be invalidated, one block after the other.
abbrev pub MessageIsTold : {P : Type 0} → (P → Key → ℕ → Option P) → DeskState P → Message → DeskState P → Type 0
MessageIsTold with_setting d (Set MigrationThreshold value) new = (value < 2 ^ 32) × (new ≡ record d { threshold = value })
MessageIsTold with_setting d (Set PromoteMin value) new = (with_setting d.policy PromoteMin value ≡ Some new.policy) × (new ≡ record d { policy = new.policy })
MessageIsTold with_setting d (InvalidateCblocks ranges) new = AreRanges d.geometry.cache_blocks ranges × (d.mode ≡ Passthrough) × (new ≡ d)

-- Ranges are tested before the mode.
abbrev pub IsRefused : {P : Type 0} → (P → Key → ℕ → Option P) → DeskState P → Message → Refusal → Type 0
IsRefused with_setting d (Set MigrationThreshold value) refusal = (refusal ≡ BadMessage) × (2 ^ 32 ≤ value)
IsRefused with_setting d (Set PromoteMin value) refusal = (refusal ≡ BadMessage) × (with_setting d.policy PromoteMin value ≡ None)
IsRefused with_setting d (InvalidateCblocks ranges) refusal =
    ((refusal ≡ BadMessage) × (AreRanges d.geometry.cache_blocks ranges → ⊥))
    ⊎ ((refusal ≡ WrongMode) × AreRanges d.geometry.cache_blocks ranges × (d.mode ≢ Passthrough))
