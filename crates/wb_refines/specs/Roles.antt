-- The part that a job on a block plays in an abstract world, and when its steps on the shared words are followed there.
use Rattle.std.specs.Prelude.{◌≡◌, ◌≢◌, ◌⊎◌, ◌<◌, ℕ, false, List, [], ◌∷◌, Option, Some, None, slice_get}
use Rattle.wb_types.specs.declared.number.CBlock.{CBlock}
use Rattle.wb_types.specs.declared.number.OBlock.{OBlock}
use Rattle.wb_types.specs.declared.refusal.Refusal.{Refusal}
use Rattle.wb_types.specs.declared.refusal.Refusal.TheVariants.{Busy, Failed}
use Rattle.wb_disk.specs.Device.{Content}
use Rattle.wb_words.specs.SharedWords.{Words, flag, place_in}
use Rattle.wb_words.specs.Rule.{LockRule}
use Rattle.wb_words.specs.Effects.{result_of, words_after, card_after}
use Rattle.wb_words.specs.declared.card.Card.{Card}
use Rattle.wb_words.specs.declared.word.Access.{Access}
use Rattle.wb_words.specs.declared.word.Access.TheVariants.{Shared as Sharing, Owned}
use Rattle.wb_words.specs.declared.word.Word.TheVariants.{Number}
use Rattle.wb_words.specs.declared.step.CellStep.{CellStep}
use Rattle.wb_words.specs.declared.step.CellStep.TheVariants.{Look}
use Rattle.wb_tasks.specs.Tables.{BlockJob, OnBlock, range_of, access_of}
use Rattle.wb_tasks.specs.Plan.{Plan, after, got_of, answer_seeing, work_of}
use Rattle.wb_tasks.specs.Ready.{Suits, block_of}
use Rattle.wb_tasks.specs.declared.step.Answer.{Answer}
use Rattle.wb_tasks.specs.declared.step.Answer.TheVariants.{Refused as Refuses}
use Rattle.wb_tasks.specs.declared.step.Want.{Want}
use Rattle.wb_tasks.specs.declared.step.Want.TheVariants.{Cell}
use Rattle.wb_link.specs.Tables.{Order, Seal, Got, Job as AbstractJob, Want as AbstractWant, Share, Own, Look_seal, Set_failed, Answer as AbstractAnswer, Finished as AnsweredDone, Busy as AnsweredBusy, Failed as AnsweredFailed, abstract_acquire, breaking, abstract_work as work_there}
use Rattle.wb_link.specs.World.{job_alone, Shared, Held, AbstractActor}
use Rattle.wb_refines.specs.Translation.{cell_wants, wants_of, job_for, answer_for}
use Rattle.wb_refines.specs.Going.{AreQuiet, shared_after, gone, MayGo}
use Rattle.wb_refines.specs.Models.{SealAgrees, WordsAgree, SawSeal, HasStopped, SameElse, IsRequest, BelowBeside, TellsPlace, held_for, plan_of}

-- What a job on a block is there: its job, what stands for each rest of its steps, the order that its actor has, which answers are alike, and what
-- it is to find in its block's seal.
pub record Role : Type 1 where
  pub job : AbstractJob
  pub wants : List Want → List AbstractWant
  pub order : Option Order
  pub alike : Answer → AbstractAnswer → Type 0
  pub finds : (seal : ℕ) → Type 0

-- an actor in this role, with these steps to come
abbrev pub acting : Role → List AbstractWant → AbstractAnswer → Held → (ℕ → Content) → AbstractActor
acting role steps answer held buffer = record { task = Some (record { job = role.job; steps = steps; answer = answer }); held = held; order = role.order; leads = false; buffer = buffer }

-- It is at what is left of this task.
pub record IsAs (role : Role) (plan : Plan) (card : Card) (y : AbstractActor) : Type 0 where
  pub answer : AbstractAnswer
  pub buffer : ℕ → Content
  pub is : y ≡ acting role (role.wants plan.steps) answer (held_for plan.steps card) buffer
  pub alike : role.alike plan.answer answer
  pub saw : SawSeal plan plan.steps card

-- what takes a block
abbrev pub claim : Access → OBlock → AbstractWant
claim Sharing block = Share block.0
claim Owned block = Own block.0

-- The role is this job's: it takes the same block in the same way, its steps on the words stand for what the translation says, with the seal
-- that it sees it has the same work, and no seal defers it.
pub record Plays (role : Role) (job : BlockJob) : Type 0 where
  pub begins : abstract_acquire role.job ≡ claim (access_of job) (block_of job) ∷ Look_seal (block_of job).0 ∷ []
  pub steps : (step : CellStep) (later : List Want) → role.wants (Cell step ∷ later) ≡ cell_wants role.job step (role.wants later)
  pub ends : role.wants [] ≡ []
  pub works : (word : ℕ) (seal : Seal) → role.finds word → SealAgrees word seal → work_there role.job seal ≡ role.wants (work_of (OnBlock job) word)
  pub undeferred : (word : ℕ) (answer : Answer) → answer_seeing (OnBlock job) word answer ≡ answer
  pub breaks : breaking role.job ≡ Set_failed ∷ []
  pub among_others : job_alone role.job ≡ false
  pub failed : role.alike (Refuses Failed) AnsweredFailed
  pub busy : role.alike (Refuses Busy) AnsweredBusy
  pub undone : (refusal : Refusal) (answer : AbstractAnswer) → role.alike (Refuses refusal) answer → answer ≢ AnsweredDone

-- the role of a read, of a write of this content, or of an invalidation, whose block is to be found at this place
abbrev pub request_role : ℕ → Content → Option CBlock → BlockJob → Role
request_role size content place job = record {
  job = job_for size content (OnBlock job);
  wants = wants_of size place (job_for size content (OnBlock job));
  order = None;
  alike = λ answer there. there ≡ answer_for (job_for size content (OnBlock job)) answer;
  finds = λ seal. place_in seal ≡ place;
}

-- What an actor did on the words, which are these now, the abstract actor can do too, and both are at the same then.
pub record DoesToo (role : Role) (actors : List AbstractActor) (a : ℕ) (s : Shared) (y : AbstractActor) (words : Words) (plan : Plan) (card : Card) : Type 0 where
  pub results : List Got
  pub may : MayGo actors a s y y.task results
  pub quiet : AreQuiet y.task results
  pub words_agree : WordsAgree words (shared_after s y y.task results)
  pub same : SameElse s (shared_after s y y.task results)
  pub order : (gone y y.task results).order ≡ role.order
  pub at : IsAs role plan card (gone y y.task results) ⊎ ((k : HasStopped (flag words.fail) plan card (gone y y.task results)) × (k.script.job ≡ role.job))

-- Where a number is looked at the block is taken there: then the others have no more than their cards count, and its seal is as the job is to find it.
abbrev pub TakesBeside : Role → CellStep → List AbstractActor → List Card → ℕ → Card → Type 0
TakesBeside role (Look (Number block)) actors cards a card = BelowBeside actors cards a × ((seal : ℕ) → card.seal ≡ Some seal → role.finds seal)
TakesBeside role step actors cards a card = Unit {0}

-- Each step of this job on the shared words, which keep their rule, is followed in an abstract world: where what is shared there, the actor, and what the
-- others have agree with the words and the cards before it, they do so after it.
abbrev pub StepsFollowed : Role → BlockJob → Type 0
StepsFollowed role job = (blocks : ℕ) (words : Words) (cards : List Card) (actors : List AbstractActor) (a : ℕ) (card : Card) (s : Shared) (y : AbstractActor) (step : CellStep) (later : List Want) (answer : Answer) →
    LockRule blocks words cards → slice_get cards a ≡ Some card → TakesBeside role step actors cards a card → WordsAgree words s → TellsPlace step →
    Suits blocks (plan_of job (Cell step ∷ later) answer) card → IsAs role (plan_of job (Cell step ∷ later) answer) card y →
    DoesToo role actors a s y (words_after words step) (after (plan_of job (Cell step ∷ later) answer) (got_of (result_of words step))) (card_after words step card)

-- of a read, a write or an invalidation
abbrev pub RequestCellsFollowed : Type 0
RequestCellsFollowed = (size : ℕ) (content : Content) (place : Option CBlock) (job : BlockJob) → IsRequest job → 0 < size → size ≡ (range_of job).block_sectors → StepsFollowed (request_role size content place job) job
