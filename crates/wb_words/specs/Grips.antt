-- The five steps by which a block is taken: a look at the fail word, a look at the lock word, the exchange, a look
-- at the seal, a look at the number.
use Rattle.std.specs.Prelude.{◌≡◌, ◌≢◌, ◌⊎◌, ℕ, ◌==◌, Bool, true, false, cond, [], ◌∷◌, Option, Some, if◌then◌else◌}
use Rattle.wb_types.specs.declared.number.OBlock.{OBlock}
use Rattle.wb_types.specs.declared.number.CBlock.{CBlock}
use Rattle.wb_types.specs.declared.refusal.Refusal.{Refusal}
use Rattle.wb_types.specs.declared.refusal.Refusal.TheVariants.{Busy, Failed}
use Rattle.wb_words.specs.declared.word.Access.{Access}
use Rattle.wb_words.specs.declared.word.Access.TheVariants.{Shared, Owned}
use Rattle.wb_words.specs.declared.word.Word.TheVariants.{Cell as LockWord, Seal as SealWord, Number, Fail}
use Rattle.wb_words.specs.declared.step.CellStep.{CellStep}
use Rattle.wb_words.specs.declared.step.CellStep.TheVariants.{Look, Take}
use Rattle.wb_words.specs.SharedWords.{can_take, place_in, dirty_in}
use Rattle.wb_words.specs.declared.card.Hold.TheVariants.{Nothing, Held}
use Rattle.wb_words.specs.declared.card.Card.{Card}
use Rattle.wb_words.specs.declared.grip.GripStage.{GripStage}
use Rattle.wb_words.specs.declared.grip.GripStage.TheVariants.{LookFail, LookLock, Exchange, LookSeal, LookNumber}
use Rattle.wb_words.specs.declared.grip.Grip.{Grip}
use Rattle.wb_words.specs.declared.grip.Gripped.{Gripped}
use Rattle.wb_words.specs.declared.grip.Gripped.TheVariants.{More, Shared as GrippedShared, Owned as GrippedOwned, Refused}
use Rattle.wb_words.specs.Cards.{looked, losing, holding}
use Rattle.wb_words.specs.Effects.{found_by, card_after}
use Rattle.wb_words.specs.Moments.{Moment}
use Rattle.wb_words.specs.Looks.{Finds, SawAtMost}

-- the next step
abbrev pub step_at : Access → OBlock → GripStage → CellStep
step_at access block LookLock = Look (LockWord block)
step_at access block (Exchange seen) = Take access block seen
step_at access block LookSeal = Look (SealWord block)
step_at access block (LookNumber seal) = Look (Number block)
step_at access block LookFail = Look Fail

-- what is told of a block that is held at last, from its seal and number words
abbrev pub told_held : Access → OBlock → ℕ → ℕ → Gripped
told_held Shared block seal number = GrippedShared (record { block = block; place = place_in seal; dirty = dirty_in seal; number = number })
told_held Owned block seal number = GrippedOwned (record { block = block; place = place_in seal; dirty = dirty_in seal; number = number })

-- what a step tells that found the word x
abbrev pub told_at : Access → OBlock → GripStage → ℕ → Gripped
told_at access block LookFail x = cond (x == 0) (More x) (Refused Failed)
told_at access block LookLock x = cond (can_take access x) (More x) (Refused Busy)
told_at access block (Exchange seen) x = cond (x == seen) (More x) (Refused Busy)
told_at access block LookSeal x = More x
told_at access block (LookNumber seal) x = told_held access block seal x

-- the stage after it, the first where the grip has ended
abbrev pub stage_after : Access → GripStage → ℕ → GripStage
stage_after access LookFail x = cond (x == 0) LookLock LookFail
stage_after access LookLock x = cond (can_take access x) (Exchange x) LookFail
stage_after access (Exchange seen) x = cond (x == seen) LookSeal LookFail
stage_after access LookSeal x = LookNumber x
stage_after access (LookNumber seal) x = LookFail

-- the card after it
abbrev pub card_having_found : Access → OBlock → GripStage → ℕ → Card → Card
card_having_found access block LookFail x card = looked Fail x card
card_having_found access block LookLock x card = looked (LockWord block) x card
card_having_found access block (Exchange seen) x card = if x == seen then holding (Held access block) card else losing block x card
card_having_found access block LookSeal x card = looked (SealWord block) x card
card_having_found access block (LookNumber seal) x card = looked (Number block) x card

-- what a look among the five finds
abbrev pub FindsAt : OBlock → GripStage → ℕ → Card → Type 0
FindsAt block LookFail x card = Finds Fail x card
FindsAt block LookLock x card = Finds (LockWord block) x card
FindsAt block (Exchange seen) x card = Unit {0}
FindsAt block LookSeal x card = Finds (SealWord block) x card
FindsAt block (LookNumber seal) x card = Finds (Number block) x card

-- a card that may make the next step
abbrev pub IsReadyAt : Access → OBlock → GripStage → Card → Type 0
IsReadyAt access block LookFail card = card.hold ≡ Nothing
IsReadyAt access block LookLock card = card.hold ≡ Nothing
IsReadyAt access block (Exchange seen) card = (card.hold ≡ Nothing) × (can_take access seen ≡ true)
IsReadyAt access block LookSeal card = card.hold ≡ Held access block
IsReadyAt access block (LookNumber seal) card = (card.hold ≡ Held access block) × (card.seal ≡ Some seal)

abbrev pub IsReadyToGrip : Grip → Card → Type 0
IsReadyToGrip grip card = IsReadyAt grip.access grip.block grip.stage card

-- One step of a grip: it is the step that the grip makes next, it found what the words of a moment give, and it made of
-- the card what such a step makes.
pub record GripStep (blocks : ℕ) (alone : Type 0) (grip : Grip) (card : Card) (result : Gripped) (next : Grip) (after : Card) : Type 0 where
  pub at : Moment blocks alone card
  pub found : ℕ
  pub found_is : found ≡ found_by at.words (step_at grip.access grip.block grip.stage)
  pub made : after ≡ card_after at.words (step_at grip.access grip.block grip.stage) card
  pub told : result ≡ told_at grip.access grip.block grip.stage found
  pub next_is : next ≡ record grip { stage = stage_after grip.access grip.stage found }
  pub after_is : after ≡ card_having_found grip.access grip.block grip.stage found card
  pub finds : FindsAt grip.block grip.stage found card

abbrev pub IsMore : Gripped → Type 0
IsMore (More x) = Unit {0}
IsMore (GrippedShared share) = ⊥
IsMore (GrippedOwned own) = ⊥
IsMore (Refused refusal) = ⊥

abbrev pub stages_left : GripStage → ℕ
stages_left LookFail = 5
stages_left LookLock = 4
stages_left (Exchange seen) = 3
stages_left LookSeal = 2
stages_left (LookNumber seal) = 1

-- the fail word was 0, and the lock word w
abbrev pub tried : OBlock → ℕ → Card → Card
tried block w card = looked (LockWord block) w (looked Fail 0 card)

-- The block is held, what is told of it are its words, and the number is no less than any that was seen.
pub record TellsHeld (access : Access) (block : OBlock) (place : Option CBlock) (dirty : Bool) (number : ℕ) (card after : Card) : Type 0 where
  pub hold : after.hold ≡ Held access block
  pub found : ℕ
  pub seal : (after.seal ≡ Some found) × (place ≡ place_in found) × (dirty ≡ dirty_in found)
  pub number_is : after.number ≡ Some number
  pub kept : after.kept ≡ card.kept
  pub added : after.added ≡ card.added
  pub stored : after.stored ≡ card.stored
  pub took : after.took ≡ (access, block) ∷ card.took
  pub set : after.set ≡ card.set
  pub lost : after.lost ≡ card.lost
  pub saw : (w : ℕ) × (after.saw ≡ (Number block, number) ∷ ((SealWord block, found) ∷ ((LockWord block, w) ∷ ((Fail, 0) ∷ card.saw))))
  pub least : SawAtMost block number card.saw

-- the lock word that was looked at rules the grip out, or another came between the look and the exchange
abbrev pub IsLost : Access → OBlock → Card → Card → Type 0
IsLost access block card after = (w : ℕ) × (((can_take access w ≡ false) × (after ≡ tried block w card)) ⊎ ((can_take access w ≡ true) × ((x : ℕ) × (x ≢ w) × (after ≡ losing block x (tried block w card)))))

-- the fail word that was looked at was not 0
abbrev pub IsFailed : Card → Card → Type 0
IsFailed card after = (f : ℕ) × (f ≢ 0) × (after ≡ looked Fail f card)

-- nothing is different but looks and losses
pub record Stays (card after : Card) : Type 0 where
  pub hold : after.hold ≡ card.hold
  pub kept : after.kept ≡ card.kept
  pub added : after.added ≡ card.added
  pub stored : after.stored ≡ card.stored

-- A refusal, and its cause.
abbrev pub IsRefusal : Access → OBlock → Refusal → Card → Card → Type 0
IsRefusal access block refusal card after = Stays card after × (((refusal ≡ Busy) × IsLost access block card after) ⊎ ((refusal ≡ Failed) × IsFailed card after))

-- What comes of a grip of who is alone and held nothing: it has the block, or a bit of the fail word was set.
abbrev pub EndsAlone : Gripped → Card → Type 0
EndsAlone (More x) card = ⊥
EndsAlone (GrippedShared share) card = card.set ≡ []
EndsAlone (GrippedOwned own) card = card.set ≡ []
EndsAlone (Refused refusal) card = (refusal ≡ Failed) × (card.set ≢ [])

-- where a grip ends
abbrev pub EndsAs : Access → OBlock → Gripped → Card → Card → Type 0
EndsAs access block (More x) card after = ⊥
EndsAs access block (GrippedShared share) card after = (access ≡ Shared) × (share.block ≡ block) × TellsHeld access block share.place share.dirty share.number card after
EndsAs access block (GrippedOwned own) card after = (access ≡ Owned) × (own.block ≡ block) × TellsHeld access block own.place own.dirty own.number card after
EndsAs access block (Refused refusal) card after = IsRefusal access block refusal card after
