-- Reads, writes, invalidations and migrations play their roles.
use Rattle.std.proofs.Common.{◌≡◌, ◌<◌, ◌∙◌, ℕ, Bool, false, List, [], ◌∷◌, Option, Some, None, refl, sym, ap, subst}
use Rattle.wb_types.specs.declared.number.CBlock.{CBlock}
use Rattle.wb_types.specs.declared.refusal.Refusal.{Refusal}
use Rattle.wb_types.specs.declared.refusal.Refusal.TheVariants.{Busy}
use Rattle.wb_disk.specs.Device.{Content}
use Rattle.wb_words.specs.SharedWords.{place_in, dirty_in}
use Rattle.wb_words.specs.declared.card.Card.{Card}
use Rattle.wb_tasks.specs.Tables.{BlockJob, TaskJob, BlockRange, Reading, Writing, Displacing, Invalidating, Migrating, OnBlock, range_of, access_of, work}
use Rattle.wb_tasks.specs.Ready.{block_of}
use Rattle.wb_tasks.specs.Plan.{Plan, answer_seeing}
use Rattle.wb_tasks.specs.declared.step.Answer.{Answer}
use Rattle.wb_types.specs.declared.number.OBlock.{OBlock}
use Rattle.wb_words.specs.declared.word.Word.TheVariants.{Number, Seal as SealWord}
use Rattle.wb_words.specs.declared.step.CellStep.TheVariants.{Look}
use Rattle.wb_tasks.specs.declared.step.Want.{Want}
use Rattle.wb_tasks.specs.declared.step.Want.TheVariants.{Cell}
use Rattle.wb_tasks.specs.declared.step.Answer.TheVariants.{Refused as Refuses}
use Rattle.wb_tasks.specs.declared.step.Migration.{Migration}
use Rattle.wb_tasks.specs.declared.step.Migration.TheVariants.{Promote, Demote, Clean}
use Rattle.wb_link.specs.Tables.{Order, Job as AbstractJob, Seal as SealThere, Answer as AbstractAnswer, Finished as AnsweredDone, abstract_work as work_there, Look_seal, Set_failed, abstract_acquire, breaking, Busy as AnsweredBusy}
use Rattle.wb_link.specs.World.{AbstractActor, job_alone}
use Rattle.wb_refines.specs.Translation.{number_of, offsets, job_for, answer_for, wants_of}
use Rattle.wb_refines.specs.Models.{SealAgrees, IsRequest, IsAt, held_for, plan_of, MayUnmap}
use Rattle.wb_refines.specs.Roles.{acting, IsAs, Plays, request_role, RequestCellsFollowed, claim}
use Rattle.wb_refines.specs.Migrations.{job_under, order_on, Fills, IsWhere}
use Rattle.wb_refines.specs.Carried.{migration_role, MigrationCellsFollowed}
use Rattle.wb_refines.proofs.Cells.{refused_undone}
use Rattle.wb_refines.proofs.Followed.{cell_steps_followed}
use Rattle.wb_refines.proofs.Modes.{undeferred_in, read_is, write_is}
use Rattle.wb_refines.proofs.Tables.{read_work, write_work, displacing_work, invalidating_work}
use Rattle.wb_refines.proofs.Migrating.{works}

-- A job's work hangs on no more of a seal than agrees, where it hangs on the dirty bit of a mapped block alone.
same_work : (job : AbstractJob) (place : Option CBlock) (dirty : Bool) (seal : SealThere) → ((d : Bool) → work_there job (record { location = None; dirty = d }) ≡ work_there job (record { location = None; dirty = dirty })) → seal.location ≡ number_of place → ((c : CBlock) → place ≡ Some c → seal.dirty ≡ dirty) →
    work_there job seal ≡ work_there job (record { location = number_of place; dirty = dirty })
same_work job None dirty seal any l d = ap (λ (v : Option ℕ). work_there job (record { location = v; dirty = seal.dirty })) l ∙ any seal.dirty
same_work job (Some c) dirty seal any l d = λ i. work_there job (record { location = l i; dirty = d c refl i })

-- an answer that is refused is no other's
undone : (job : AbstractJob) (refusal : Refusal) (answer : AbstractAnswer) → answer ≡ answer_for job (Refuses refusal) → (answer ≡ AnsweredDone → ⊥)
undone job refusal answer is e = refused_undone job refusal (sym is ∙ e)

-- a request that is at this is so in its role, and the other way round
pub as_request : (size : ℕ) (content : Content) (job : BlockJob) (steps : List Want) (answer : Answer) (card : Card) (y : AbstractActor) → (i : IsAt size content (plan_of job steps answer) card y) → IsAs (request_role size content i.place job) (plan_of job steps answer) card y
as_request size content job steps answer card y i = record { answer = answer_for (job_for size content (OnBlock job)) answer; buffer = i.buffer; is = i.is; alike = refl; saw = i.saw }

pub at_request : (size : ℕ) (content : Content) (place : Option CBlock) (job : BlockJob) (plan : Plan) (card : Card) (y : AbstractActor) → plan.job ≡ OnBlock job → MayUnmap place plan.steps → IsAs (request_role size content place job) plan card y → IsAt size content plan card y
at_request size content place job plan card y e unmaps i = subst (λ (k : TaskJob). IsAt size content (record { job = k; steps = plan.steps; answer = plan.answer }) card y) (sym e)
    (by (subst (λ (k : TaskJob). IsAs (request_role size content place job) (record { job = k; steps = plan.steps; answer = plan.answer }) card y) e i))
  where
    by : IsAs (request_role size content place job) (plan_of job plan.steps plan.answer) card y → IsAt size content (plan_of job plan.steps plan.answer) card y
    by i = record { place = place; buffer = i.buffer; is = i.is ∙ ap (λ (t : AbstractAnswer). acting (request_role size content place job) (wants_of size place (job_for size content (OnBlock job)) plan.steps) t (held_for plan.steps card) i.buffer) i.alike; saw = i.saw; unmaps = unmaps }

-- Before the number of its block is looked at, any place is the one at which it is.
pub placed : (size : ℕ) (content : Content) (place : Option CBlock) (job : BlockJob) (block : OBlock) (later : List Want) (answer : Answer) (card : Card) (y : AbstractActor) → IsAt size content (plan_of job (Cell (Look (Number block)) ∷ later) answer) card y →
    IsAs (request_role size content place job) (plan_of job (Cell (Look (Number block)) ∷ later) answer) card y
placed size content place job block later answer card y i = record { answer = answer_for (job_for size content (OnBlock job)) answer; buffer = i.buffer; is = i.is; alike = refl; saw = i.saw }

-- So it is where its seal is looked at.
pub placed_seal : (size : ℕ) (content : Content) (place : Option CBlock) (job : BlockJob) (block : OBlock) (later : List Want) (answer : Answer) (card : Card) (y : AbstractActor) → IsAt size content (plan_of job (Cell (Look (SealWord block)) ∷ later) answer) card y →
    IsAs (request_role size content place job) (plan_of job (Cell (Look (SealWord block)) ∷ later) answer) card y
placed_seal size content place job block later answer card y i = record { answer = answer_for (job_for size content (OnBlock job)) answer; buffer = i.buffer; is = i.is; alike = refl; saw = i.saw }

-- So a request plays its part, where its work is this by a seal, and hangs on the dirty bit of a mapped block alone.
module _ (size : ℕ) (content : Content) (place : Option CBlock) (job : BlockJob) (sized : size ≡ (range_of job).block_sectors) where
  abbrev there : ℕ → AbstractJob
  there n = job_for n content (OnBlock job)

  request_plays : abstract_acquire (there size) ≡ claim (access_of job) (block_of job) ∷ Look_seal (block_of job).0 ∷ [] → breaking (there size) ≡ Set_failed ∷ [] → job_alone (there size) ≡ false → AnsweredBusy ≡ answer_for (there size) (Refuses Busy) → ((d e : Bool) → work_there (there size) (record { location = None; dirty = d }) ≡ work_there (there size) (record { location = None; dirty = e })) →
      ((word : ℕ) (answer : Answer) → answer_seeing (OnBlock job) word answer ≡ answer) → ((place : Option CBlock) (dirty : Bool) → wants_of (range_of job).block_sectors place (there (range_of job).block_sectors) (work job place dirty) ≡ work_there (there (range_of job).block_sectors) (record { location = number_of place; dirty = dirty })) → Plays (request_role size content place job) job
  request_plays begins breaks among busy any undeferred is = record {
    begins = begins;
    steps = λ step later. refl;
    ends = refl;
    works = λ word seal f a. same_work (there size) (place_in word) (dirty_in word) seal (λ d. any d (dirty_in word)) a.location a.dirty
        ∙ subst (λ (n : ℕ). work_there (there n) (record { location = number_of (place_in word); dirty = dirty_in word }) ≡ wants_of n place (there n) (work job (place_in word) (dirty_in word))) (sym sized)
        (subst (λ (p : Option CBlock). work_there (there (range_of job).block_sectors) (record { location = number_of (place_in word); dirty = dirty_in word }) ≡ wants_of (range_of job).block_sectors p (there (range_of job).block_sectors) (work job (place_in word) (dirty_in word))) f (sym (is (place_in word) (dirty_in word))));
    undeferred = undeferred;
    breaks = breaks;
    among_others = among;
    failed = refl;
    busy = busy;
    undone = undone (there size);
  }

pub requests_play : (size : ℕ) (content : Content) (place : Option CBlock) (job : BlockJob) → IsRequest job → 0 < size → size ≡ (range_of job).block_sectors → Plays (request_role size content place job) job
requests_play size content place (Reading part) r some e = let b = part.block.0 in let os = offsets size part.extents in let same = read_is b os part.mode in request_plays size content place (Reading part) e same.acquires same.breaks same.among same.busy same.any
    (λ word answer. refl) (read_work part (subst (λ v. 0 < v) e some) content)
requests_play size content place (Writing part) r some e = let b = part.block.0 in let os = offsets size part.extents in let same = write_is b os content part.mode in request_plays size content place (Writing part) e same.acquires same.breaks same.among same.busy same.any
    (λ word answer. undeferred_in part.mode r (place_in word) answer) (write_work part (subst (λ v. 0 < v) e some) r content)
requests_play size content place (Displacing part) r some e = request_plays size content place (Displacing part) e refl refl refl refl (λ d e. refl) (λ word answer. refl) (displacing_work part (subst (λ v. 0 < v) e some) content)
requests_play size content place (Invalidating part) r some e = request_plays size content place (Invalidating part) e refl refl refl refl (λ d e. refl) (λ word answer. refl) (invalidating_work part (subst (λ v. 0 < v) e some) content)
requests_play size content place (Migrating migration part) r some e = absurd r

-- what a migration's work is hangs on no more of the seal than agrees
same_there : (migration : Migration) (order : Order) (os : List (List ℕ)) (c : CBlock) (seen : ℕ) (seal : SealThere) → IsWhere migration c (place_in seen) → SealAgrees seen seal → work_there (job_under order os migration) seal ≡ work_there (job_under order os migration) (record { location = number_of (place_in seen); dirty = dirty_in seen })
same_there (Promote k) order os c seen seal where_is a = refl
same_there Demote order os c seen seal where_is a = ap (work_there (job_under order os Demote)) (λ i. record { location = a.location i; dirty = a.dirty c where_is i })
same_there Clean order os c seen seal where_is a = ap (work_there (job_under order os Clean)) (λ i. record { location = a.location i; dirty = a.dirty c where_is i })

-- each migration owns its block first, sets the failed bit where it breaks, and is alone no more than another
parts : (part : BlockRange) (c : CBlock) (next : Option ℕ) (os : List (List ℕ)) (migration : Migration) → (abstract_acquire (job_under (order_on part c next) os migration) ≡ claim (access_of (Migrating migration part)) part.block ∷ Look_seal part.block.0 ∷ [])
    × (breaking (job_under (order_on part c next) os migration) ≡ Set_failed ∷ []) × (job_alone (job_under (order_on part c next) os migration) ≡ false)
parts part c next os (Promote k) = (refl, refl, refl)
parts part c next os migration = (refl, refl, refl)

pub migrations_play : (part : BlockRange) (c : CBlock) (next : Option ℕ) (migration : Migration) (kept : Option Order) → 0 < part.block_sectors → Fills migration c → Plays (migration_role part c next migration kept) (Migrating migration part)
migrations_play part c next migration kept some fills = let its = parts part c next (offsets part.block_sectors part.extents) migration in record {
  begins = its.0;
  steps = λ step later. refl;
  ends = refl;
  works = λ word seal f a. same_there migration (order_on part c next) (offsets part.block_sectors part.extents) c word seal f a ∙ sym (works part c next migration (place_in word) (dirty_in word) some fills f);
  undeferred = λ word answer. refl;
  breaks = its.1;
  among_others = its.2;
  failed = λ e. absurd (cc);
  busy = λ e. absurd (cc);
  undone = λ refusal answer n. n;
}

-- so their steps on the words are followed
pub request_cells_followed : RequestCellsFollowed
request_cells_followed size content place job request some sized = cell_steps_followed (request_role size content place job) job (requests_play size content place job request some sized)

pub migration_cells_followed : MigrationCellsFollowed
migration_cells_followed part c next migration kept some fills = cell_steps_followed (migration_role part c next migration kept) (Migrating migration part) (migrations_play part c next migration kept some fills)
