-- Who begins a task without a block is ready for each of its steps, and has none after the answer.
use Rattle.std.proofs.Common.{◌≡◌, ◌∙◌, ◌<◌, ℕ, ap, List, [], ◌∷◌, refl, sym, subst}
use Rattle.wb_words.specs.declared.card.Card.{Card}
use Rattle.wb_words.specs.declared.card.Hold.TheVariants.{Nothing}
use Rattle.wb_tasks.specs.Tables.{BlockJob, TaskJob, OnBlock}
use Rattle.wb_tasks.specs.Ready.{AreFirst, MayTake, MayMake, IsOwnStep, Suits, left_by, block_of}
use Rattle.wb_tasks.specs.Plan.{Plan, table, want, after, Fits}
use Rattle.wb_tasks.specs.Run.{IsRunOf, Leads}
use Rattle.wb_tasks.specs.declared.step.Answer.{Answer}
use Rattle.wb_tasks.specs.declared.step.Want.{Want}
use Rattle.wb_tasks.specs.declared.step.Got.{Got}
use Rattle.wb_tasks.proofs.Driving.{run_first}
use Rattle.wb_tasks.proofs.Readiness.{begins_ready, keeps_ready, is_ready, is_own_step, job_stays, ends_holding_nothing}

-- what no step changes is as it was
pub kept_by : {S C : Type 0} (led : S → Want → Got → S → Type 0) (part : S → C) → ((s : S) (w : Want) (g : Got) (t : S) → led s w g t → part t ≡ part s) → (old : S) (steps : List (Want × Got)) (new : S) → Leads led old steps new → part new ≡ part old
kept_by {S} {C} led part keeps old [] new e = subst (λ (x : S). part x ≡ part old) e refl
kept_by {S} {C} led part keeps old (step ∷ steps) new h = kept_by led part keeps h.0 steps new h.2 ∙ keeps old step.0 step.1 h.0 h.1

-- a task stays on its job
same_job : (s : Plan) (steps : List (Want × Got)) → (left_by s steps).job ≡ s.job
same_job s [] = refl
same_job s (step ∷ steps) = same_job (after s step.1) steps ∙ job_stays s step.1

-- Where every step makes of a card what such a step may make, its actor is ready wherever the steps have led.
module _ {S : Type 0} (led : S → Want → Got → S → Type 0) (card : S → Card) (makes : (s : S) (w : Want) (g : Got) (t : S) → led s w g t → MayMake w g (card s) (card t)) where
  pub suits_there : (blocks : ℕ) (s : Plan) (old : S) (steps : List (Want × Got)) (mid : S) → Suits blocks s (card old) → AreFirst s steps → Leads led old steps mid → Suits blocks (left_by s steps) (card mid)
  suits_there blocks s old [] mid suits f e = subst (λ (x : S). Suits blocks s (card x)) e suits
  suits_there blocks s old (step ∷ steps) mid suits f l =
      let fits : Fits (want s) step.1 = subst (λ (w : Want). Fits w step.1) f.0 f.1 in
      let made : MayMake (want s) step.1 (card old) (card l.0) = subst (λ (w : Want). MayMake w step.1 (card old) (card l.0)) f.0 (makes old step.0 step.1 l.0 l.1) in
      suits_there blocks (after s step.1) l.0 steps mid (keeps_ready blocks s (card old) (card l.0) step.1 suits fits made) f.2 l.2

  -- a task over one block
  module _ (blocks : ℕ) (s : Plan) (job : BlockJob) (old : S) (begun : s ≡ table (OnBlock job)) (there : (block_of job).0 < blocks) (idle : (card old).hold ≡ Nothing) where
    at_first : Suits blocks s (card old)
    at_first = subst (λ (t : Plan). Suits blocks t (card old)) (sym begun) (begins_ready blocks job (card old) there idle)

    pub ready_there : (steps : List (Want × Got)) (mid : S) → AreFirst s steps → Leads led old steps mid → MayTake blocks (card mid) (want (left_by s steps)) × IsOwnStep (OnBlock job) (want (left_by s steps))
    ready_there steps mid f l =
        let suits = suits_there blocks s old steps mid at_first f l in
        let same : (left_by s steps).job ≡ OnBlock job = same_job s steps ∙ ap (λ (t : Plan). t.job) begun in
        (is_ready blocks (left_by s steps) (card mid) suits, subst (λ (j : TaskJob). IsOwnStep j (want (left_by s steps))) same (is_own_step blocks (left_by s steps) (card mid) suits))

    pub idle_again : (steps : List (Want × Got)) (answer : Answer) (new : S) → IsRunOf s steps answer → Leads led old steps new → (card new).hold ≡ Nothing
    idle_again steps answer new run l =
        let whole = run_first s steps answer run in
        ends_holding_nothing blocks (left_by s steps) (card new) answer (suits_there blocks s old steps new at_first whole.0 l) whole.1
