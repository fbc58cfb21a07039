-- When what is shared, and an actor with a task that reads or writes a block, is what an abstract world has.
use Rattle.std.specs.Prelude.{Bool, ◌≡◌, ◌≢◌, ◌⊎◌, ◌<◌, ℕ, true, false, List, [], ◌∷◌, Option, Some, None, slice_get}
use Rattle.wb_tasks.specs.declared.step.DeskStep.TheVariants.{Unmap}
use Rattle.wb_types.specs.declared.number.OBlock.{OBlock}
use Rattle.wb_types.specs.declared.number.CBlock.{CBlock}
use Rattle.wb_types.specs.declared.mode.Mode.TheVariants.{Passthrough}
use Rattle.wb_types.specs.declared.refusal.Refusal.{Refusal}
use Rattle.wb_disk.specs.Device.{Content}
use Rattle.wb_words.specs.declared.word.Access.TheVariants.{Shared as Sharing, Owned}
use Rattle.wb_words.specs.declared.word.Word.TheVariants.{Seal as SealWord, Number}
use Rattle.wb_words.specs.declared.step.CellStep.{CellStep}
use Rattle.wb_words.specs.declared.step.CellStep.TheVariants.{Look, Seal as SealBlock, Release, SetFailed}
use Rattle.wb_words.specs.declared.card.Hold.{Hold}
use Rattle.wb_words.specs.declared.card.Hold.TheVariants.{Nothing as HoldsNothing, Held as HoldsBlock}
use Rattle.wb_words.specs.declared.card.Card.{Card}
use Rattle.wb_words.specs.SharedWords.{Words, word_at, place_in, dirty_in, flag, seal_word}
use Rattle.wb_words.specs.Cards.{owners, sharers}
use Rattle.wb_tasks.specs.Tables.{BlockJob, Writing, Migrating, OnBlock}
use Rattle.wb_tasks.specs.Plan.{Plan, work_of}
use Rattle.wb_tasks.specs.declared.step.Answer.{Answer}
use Rattle.wb_tasks.specs.declared.step.Want.{Want}
use Rattle.wb_tasks.specs.declared.step.Want.TheVariants.{Cell, Desk}
use Rattle.wb_tasks.specs.declared.step.Answer.TheVariants.{Done as Finished, Refused as Refuses}
use Rattle.wb_link.specs.Tables.{Seal, Script, Finished as AnsweredDone}
use Rattle.wb_link.specs.World.{job_alone, Shared, Held, Nothing, Shares, Owns, AbstractActor}
use Rattle.wb_refines.specs.Translation.{number_of, script_for}

-- a read, a write in a mode that caches, one that may displace its block, or an invalidation
abbrev pub IsRequest : BlockJob → Type 0
IsRequest (Writing part) = part.mode ≢ Passthrough
IsRequest (Migrating migration part) = ⊥
IsRequest job = Unit {0}

-- what is left of a job on a block
abbrev pub plan_of : BlockJob → List Want → Answer → Plan
plan_of job steps answer = record { job = OnBlock job; steps = steps; answer = answer }

-- The seal of a block says where it is, and whether a mapped one is dirty, as its word does.
pub record SealAgrees (word : ℕ) (seal : Seal) : Type 0 where
  pub location : seal.location ≡ number_of (place_in word)
  pub dirty : (c : CBlock) → place_in word ≡ Some c → seal.dirty ≡ dirty_in word

-- the fail word and the seals
pub record WordsAgree (words : Words) (s : Shared) : Type 0 where
  pub fail : s.fail ≡ flag words.fail
  pub seals : (block : OBlock) → SealAgrees (word_at words.seals block) (s.seals block.0)

abbrev pub held_of : Hold → Held
held_of HoldsNothing = Nothing
held_of (HoldsBlock Sharing block) = Shares block.0
held_of (HoldsBlock Owned block) = Owns block.0

-- An abstract actor has what the card says, but for a block whose number is still to be looked at.
abbrev pub held_for : List Want → Card → Held
held_for (Cell (Look (SealWord block)) ∷ later) card = Nothing
held_for (Cell (Look (Number block)) ∷ later) card = Nothing
held_for steps card = held_of card.hold

-- Where the number is looked at next, what comes after it is the work on a block with the seal that was seen; who sets the
-- failed bit next is to answer a refusal.
abbrev pub SawSeal : Plan → List Want → Card → Type 0
SawSeal plan (Cell (Look (Number block)) ∷ later) card = (seal : ℕ) × (card.seal ≡ Some seal) × (later ≡ work_of plan.job seal)
SawSeal plan (Cell SetFailed ∷ later) card = (refusal : Refusal) × (plan.answer ≡ Refuses refusal)
SawSeal plan steps card = Unit {0}

-- A block leaves the cache by these steps only where it was seen in a cache block.
abbrev pub UnmapNothing : List Want → Type 0
UnmapNothing [] = Unit {0}
UnmapNothing (Desk (Unmap block) ∷ later) = ⊥
UnmapNothing (next ∷ later) = UnmapNothing later

abbrev pub MayUnmap : Option CBlock → List Want → Type 0
MayUnmap None steps = UnmapNothing steps
MayUnmap (Some c) steps = Unit {0}

-- An abstract actor is at what is left of this task, whose block is at this place, once it was seen.
pub record IsAt (size : ℕ) (content : Content) (plan : Plan) (card : Card) (y : AbstractActor) : Type 0 where
  pub place : Option CBlock
  pub buffer : ℕ → Content
  pub is : y ≡ record { task = Some (script_for size content place plan); held = held_for plan.steps card; order = None; leads = false; buffer = buffer }
  pub saw : SawSeal plan plan.steps card
  pub unmaps : MayUnmap place plan.steps

-- nothing is left, but perhaps a block to give back
abbrev pub OnlyParts : List Want → Type 0
OnlyParts [] = Unit {0}
OnlyParts (Cell (Release access block) ∷ []) = Unit {0}
OnlyParts steps = ⊥

-- An abstract actor has no block that the card does not count.
pub record IsBelow (y : AbstractActor) (card : Card) : Type 0 where
  pub owned : (block : ℕ) → y.held ≡ Owns block → 0 < owners block card
  pub shared : (block : ℕ) → y.held ≡ Shares block → 0 < sharers block card

-- it holds nothing, or the target has failed and there is nothing to give back
abbrev pub IsFree : Bool → List Want → AbstractActor → Type 0
IsFree failed [] y = (y.held ≡ Nothing) ⊎ (failed ≡ true)
IsFree failed steps y = y.held ≡ Nothing

-- Refused, an abstract actor has only to answer: it has set the failed bit and keeps what it owns, or it has nothing, since it did
-- not take the block whose number was found worn.
pub record HasStopped (failed : Bool) (plan : Plan) (card : Card) (y : AbstractActor) : Type 0 where
  pub over : OnlyParts plan.steps
  pub refused : plan.answer ≢ Finished
  pub script : Script
  pub task : y.task ≡ Some script
  pub nothing : script.steps ≡ []
  pub undone : script.answer ≢ AnsweredDone
  pub among_others : job_alone script.job ≡ false
  pub leads : y.leads ≡ false
  pub below : IsBelow y card
  pub free : IsFree failed plan.steps y

-- the desk, its commits, and the images that the metadata stand for are the same
pub record SameImages (s t : Shared) : Type 0 where
  pub mapping : t.mapping ≡ s.mapping
  pub blocks : t.blocks ≡ s.blocks
  pub live : t.live ≡ s.live
  pub mode : t.mode ≡ s.mode
  pub committing : t.committing ≡ s.committing
  pub began : t.began ≡ s.began
  pub ended : t.ended ≡ s.ended
  pub broken : t.broken ≡ s.broken
  pub committed : t.committed ≡ s.committed
  pub running : t.running ≡ s.running
  pub root_written : t.root_written ≡ s.root_written
  pub committed_clean : t.committed_clean ≡ s.committed_clean
  pub running_clean : t.running_clean ≡ s.running_clean

-- what a step on the words changes nothing of
pub record SameElse (s t : Shared) : Type 0 where
  pub origin : t.origin ≡ s.origin
  pub cache : t.cache ≡ s.cache
  pub images : SameImages s t

-- Whoever holds a block there beside this actor has a card that counts what it holds.
abbrev pub BelowBeside : List AbstractActor → List Card → ℕ → Type 0
BelowBeside actors cards a = (b : ℕ) (y : AbstractActor) → b ≢ a → slice_get actors b ≡ Some y → y.held ≢ Nothing → (card : Card) × (slice_get cards b ≡ Some card) × IsBelow y card

-- a seal that is stored tells the place that it was made of
abbrev pub TellsPlace : CellStep → Type 0
TellsPlace (SealBlock block place dirty) = place_in (seal_word place dirty) ≡ place
TellsPlace step = Unit {0}
