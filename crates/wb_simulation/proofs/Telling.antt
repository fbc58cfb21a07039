-- What steps of an actor are told as.
use Rattle.std.proofs.Common.{Bool, ◌≡◌, ◌≢◌, inl, inr, sym, subst, ℕ, List, [], ◌∷◌, Option, Some, None, refl}
use Rattle.wb_types.specs.declared.number.CBlock.{CBlock}
use Rattle.wb_disk.specs.Device.{Content}
use Rattle.wb_words.specs.declared.card.Card.{Card}
use Rattle.wb_tasks.specs.Tables.{TaskJob}
use Rattle.wb_tasks.specs.Plan.{Plan, table}
use Rattle.wb_tasks.specs.declared.step.Answer.{Answer}
use Rattle.wb_tasks.specs.declared.step.Answer.TheVariants.{Done as Finished, Refused as Refuses}
use Rattle.wb_link.specs.Tables.{Job as AbstractJob, Script, Want, Write_all, End, Got, abstract_want}
use Rattle.wb_link.specs.World.{AbstractActor, task_after}
use Rattle.wb_refines.specs.Going.{records, IsQuiet, AreQuiet}
use Rattle.wb_refines.specs.Translation.{script_for, job_for}
use Rattle.wb_refines.specs.Models.{HasStopped}
use Rattle.wb_refines.proofs.Cells.{refused_undone}
use Rattle.wb_simulation.specs.Actors.{IsLate}
use Rattle.wb_simulation.specs.Telling.{IsUnnoted, AreUnnoted, AnswersSo}

pub unnoted_none : (task : Option Script) → AreUnnoted task []
unnoted_none None = tt
unnoted_none (Some script) = tt

quiet_unnoted : (next : Want) (job : AbstractJob) → IsQuiet next → IsUnnoted next job
quiet_unnoted (Write_all location block os) job q = absurd q
quiet_unnoted (End answer) job q = q
quiet_unnoted next job q = tt

-- nothing is noted of what touches no device and is no answer
pub quiet_are_unnoted : (task : Option Script) (gots : List Got) → AreQuiet task gots → AreUnnoted task gots
quiet_are_unnoted None gots q = tt
quiet_are_unnoted (Some script) [] q = tt
quiet_are_unnoted (Some script) (got ∷ gots) q = (quiet_unnoted (abstract_want script) script.job q.0, quiet_are_unnoted (task_after script (abstract_want script) got) gots q.1)

-- nothing is told of who has no task, whatever the results
pub nothing_told : (a : ℕ) (task : Option Script) (results : List Got) → task ≡ None → records a task [] ≡ records a task results
nothing_told a None results e = refl
nothing_told a (Some script) results e = absurd (cc)

-- ---- answers

-- who is at the same there, with nothing left, answers the same
pub answers_at : (size : ℕ) (content : Content) (place : Option CBlock) (job : TaskJob) (answer : Answer) (y : AbstractActor) → y.task ≡ Some (script_for size content place (record { job = job; steps = []; answer = answer })) → AnswersSo (job_for size content job) answer y.task
answers_at size content place job Finished y e = subst (λ (t : Option Script). AnswersSo (job_for size content job) Finished t) (sym e) (refl, refl, refl)
answers_at size content place job (Refuses refusal) y e = subst (λ (t : Option Script). AnswersSo (job_for size content job) (Refuses refusal) t) (sym e) (refl, refused_undone (job_for size content job) refusal)

pub stopped_answers : (job : AbstractJob) (failed : Bool) (plan : Plan) (card : Card) (answer : Answer) (y : AbstractActor) → plan.answer ≡ answer → HasStopped failed plan card y → AnswersSo job answer y.task
stopped_answers job failed plan card Finished y e k = absurd (k.refused e)
stopped_answers job failed plan card (Refuses refusal) y e k = subst (λ (t : Option Script). AnswersSo job (Refuses refusal) t) (sym k.task) (k.nothing, k.undone)

-- who is late has been refused
pub late_answers_so : (job : AbstractJob) (failed : Bool) (plan : Plan) (answer : Answer) (y : AbstractActor) → plan.answer ≡ answer → (plan ≡ table plan.job → ⊥) → IsLate failed plan y → AnswersSo job answer y.task
late_answers_so job failed plan answer y e begun l = elim l.at [ inl t ↦ absurd (begun t) | inr n ↦ by answer e n.1 ]
  where
    by : (answer : Answer) → plan.answer ≡ answer → plan.answer ≢ Finished → AnswersSo job answer y.task
    by Finished e n = absurd (n e)
    by (Refuses refusal) e n = subst (λ (t : Option Script). AnswersSo job (Refuses refusal) t) (sym l.nothing) tt
