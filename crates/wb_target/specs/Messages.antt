-- What a message to a target did, and why it was refused.
use Rattle.std.specs.Prelude.{◌≡◌, ◌<◌, ◌⊎◌, ℕ, Option}
use Rattle.wb_types.specs.declared.geometry.Geometry.{Geometry}
use Rattle.wb_types.specs.declared.message.Key.{Key}
use Rattle.wb_types.specs.declared.message.Message.{Message}
use Rattle.wb_types.specs.declared.message.Message.TheVariants.{Set, InvalidateCblocks}
use Rattle.wb_types.specs.declared.refusal.Refusal.{Refusal}
use Rattle.wb_types.specs.declared.refusal.Refusal.TheVariants.{Failed}
use Rattle.wb_port.specs.Hands.{saw_fail_word}
use Rattle.wb_port.specs.declared.hand.Hand.{Hand}
use Rattle.wb_target.specs.Invalidates.{WereInvalidated, InvalidateRefused}
use Rattle.wb_target.specs.Told.{WasSet, WasNotSet}
use Rattle.wb_target.specs.Works.{DeskTold}

-- The fail word was clear, and then a setting was given this value.
abbrev pub SettingDid : {D P : Type 0} → (P → Key → ℕ → Option P) → Key → ℕ → Hand D → Hand D → Type 0
SettingDid with_setting key value old new = (new ≡ saw_fail_word 0 old) × WasSet with_setting key value

-- The fail word was set; or it was clear, and the setting does not take this value.
abbrev pub SettingRefused : {D P : Type 0} → (P → Key → ℕ → Option P) → Key → ℕ → Refusal → Hand D → Hand D → Type 0
SettingRefused with_setting key value refusal old new =
    ((refusal ≡ Failed) × ((word : ℕ) × (0 < word) × (new ≡ saw_fail_word word old)))
    ⊎ ((new ≡ saw_fail_word 0 old) × WasNotSet with_setting key value refusal)

abbrev pub MessageDid : {D P : Type 0} → (P → Key → ℕ → Option P) → DeskTold → Geometry → Message → Hand D → Hand D → Type 0
MessageDid with_setting asked geometry (Set key value) old new = SettingDid with_setting key value old new
MessageDid {D} {P} with_setting asked geometry (InvalidateCblocks ranges) old new = WereInvalidated P asked geometry ranges old new

abbrev pub MessageRefused : {D P : Type 0} → (P → Key → ℕ → Option P) → DeskTold → Geometry → Message → Refusal → Hand D → Hand D → Type 0
MessageRefused with_setting asked geometry (Set key value) refusal old new = SettingRefused with_setting key value refusal old new
MessageRefused {D} {P} with_setting asked geometry (InvalidateCblocks ranges) refusal old new = InvalidateRefused P asked geometry ranges refusal old new
