-- A request that has met a fault lets its block go, and is not answered done.
use Rattle.std.proofs.Common.{◌≡◌, List, [], ◌∷◌, refl, subst}
use Rattle.wb_types.specs.declared.refusal.Refusal.{Refusal}
use Rattle.wb_words.specs.declared.step.CellStep.TheVariants.{Release, SetFailed}
use Rattle.wb_tasks.specs.Tables.{BlockJob, Reading, Writing, OnBlock}
use Rattle.wb_tasks.specs.Plan.{Plan, after, refused, after_fault_of, Fits}
use Rattle.wb_tasks.specs.Run.{IsRunOf}
use Rattle.wb_tasks.specs.declared.step.DeskStep.TheVariants.{BreakCommit}
use Rattle.wb_tasks.specs.declared.step.DeviceStep.{DeviceStep}
use Rattle.wb_tasks.specs.declared.step.DeviceStep.TheVariants.{Read}
use Rattle.wb_tasks.specs.declared.step.Answer.TheVariants.{Done as Finished, Refused as Refuses}
use Rattle.wb_tasks.specs.declared.step.Want.{Want}
use Rattle.wb_tasks.specs.declared.step.Want.TheVariants.{Cell, Device, Desk, End}
use Rattle.wb_tasks.specs.declared.step.Got.{Got}
use Rattle.wb_tasks.specs.declared.step.Got.TheVariants.{Done}
use Rattle.wb_tasks.proofs.Driving.{no_result}
use Rattle.wb_port.specs.Requests.{IsReadOrWrite}

-- what is done after a fault: a block is given back, or the failed bit is set, and the commits are broken
abbrev pub AreLettingGo : List Want → Type 0
AreLettingGo [] = Unit {0}
AreLettingGo (Cell (Release access block) ∷ ws) = AreLettingGo ws
AreLettingGo (Cell SetFailed ∷ ws) = AreLettingGo ws
AreLettingGo (Desk BreakCommit ∷ ws) = AreLettingGo ws
AreLettingGo (w ∷ ws) = ⊥

pub lets_go_after : (job : BlockJob) (step : DeviceStep) → IsReadOrWrite job → AreLettingGo (after_fault_of (OnBlock job) step)
lets_go_after (Reading part) (Read device e) q = tt
lets_go_after (Writing part) (Read device e) q = tt
lets_go_after job (Read device e) q = absurd q
lets_go_after job step q = tt

only_done : (w : Want) (ws : List Want) (g : Got) → AreLettingGo (w ∷ ws) → Fits w g → (g ≡ Done) × AreLettingGo ws
only_done (Cell (Release access block)) ws Done l f = (refl, l)
only_done (Cell SetFailed) ws Done l f = (refl, l)
only_done (Desk BreakCommit) ws Done l f = (refl, l)
only_done (Cell (Release access block)) ws g l f = absurd f
only_done (Cell SetFailed) ws g l f = absurd f
only_done (Desk BreakCommit) ws g l f = absurd f
only_done w ws g l f = absurd l

no_answer : (w : Want) (ws : List Want) → AreLettingGo (w ∷ ws) → w ≡ End Finished → ⊥
no_answer (Cell step) ws l e = absurd (cc)
no_answer (Device step) ws l e = absurd (cc)
no_answer (Desk step) ws l e = absurd (cc)
no_answer (End answer) ws l e = l

-- so it is not answered done
pub not_done : (s : Plan) (ws : List Want) (x : Refusal) → AreLettingGo ws → (steps : List (Want × Got)) → IsRunOf (refused s ws x) steps Finished → ⊥
not_done s [] x l [] e = absurd (cc)
not_done s [] x l (step ∷ steps) h = no_result (Refuses x) step.1 (subst (λ (w : Want). Fits w step.1) h.0 h.1)
not_done s (w ∷ ws) x l [] e = no_answer w ws l e
not_done s (w ∷ ws) x l (step ∷ steps) h =
    let done = only_done w ws step.1 l (subst (λ (v : Want). Fits v step.1) h.0 h.1) in
    not_done s ws x done.1 steps (subst (λ (g : Got). IsRunOf (after (refused s (w ∷ ws) x) g) steps Finished) done.0 h.2)
