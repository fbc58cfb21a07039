-- No step of a task gives cause for a refusal of its range.
use Rattle.std.proofs.Common.{◌≡◌, List, [], ◌∷◌, Result, Ok, Err, IfErr, inl, inr, subst}
use Rattle.wb_types.specs.declared.refusal.Refusal.{Refusal}
use Rattle.wb_types.specs.declared.refusal.Refusal.TheVariants.{Range}
use Rattle.wb_tasks.specs.Tables.{TaskJob, BlockJob, OnBlock}
use Rattle.wb_tasks.specs.Plan.{Plan, table}
use Rattle.wb_tasks.specs.Run.{IsRunOf}
use Rattle.wb_tasks.specs.Causes.{GaveCause}
use Rattle.wb_tasks.specs.declared.step.Answer.{Answer}
use Rattle.wb_tasks.specs.declared.step.Answer.TheVariants.{Refused as Refuses}
use Rattle.wb_tasks.specs.declared.step.Want.{Want}
use Rattle.wb_tasks.specs.declared.step.Got.{Got}
use Rattle.wb_tasks.proofs.Causing.{refuses_for_cause}

-- no step gives cause for it
pub no_range : (job : TaskJob) (steps : List (Want × Got)) → GaveCause job Range steps → ⊥
no_range job [] h = h
no_range job (step ∷ steps) h = elim h [ inl now ↦ now | inr later ↦ no_range job steps later ]

-- so none is refused so
pub never_range : {A : Type 0} (s : Plan) (job : BlockJob) (steps : List (Want × Got)) (answer : Answer) (r : Result A Refusal) → s ≡ table (OnBlock job) → IsRunOf s steps answer → IfErr r (λ refusal. answer ≡ Refuses refusal) → IfErr r (λ refusal. refusal ≡ Range → ⊥)
never_range s job steps answer (Ok x) begun run e = tt
never_range s job steps answer (Err refusal) begun run e =
    let whole : IsRunOf (table (OnBlock job)) steps (Refuses refusal) = subst (λ (t : Plan). IsRunOf t steps (Refuses refusal)) begun (subst (λ (x : Answer). IsRunOf s steps x) e run) in
    λ range. no_range (OnBlock job) steps (subst (λ (x : Refusal). GaveCause (OnBlock job) x steps) range (refuses_for_cause (OnBlock job) steps refusal whole))
