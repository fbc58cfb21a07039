-- Runs that are refused as busy, and the one after them that is not, make a job that was done.
use Rattle.std.proofs.Common.{◌≡◌, ◌∙◌, ℕ, List, [], ◌∷◌, Result, refl, sym, subst}
use Rattle.std.proofs.lemmas.Result.{on_ok_weaker}
use Rattle.std.specs.Prelude.{OnOk}
use Rattle.wb_types.specs.declared.refusal.Refusal.{Refusal}
use Rattle.wb_types.specs.declared.refusal.Refusal.TheVariants.{Busy}
use Rattle.wb_disk.specs.Device.{History}
use Rattle.wb_policy.specs.declared.order.Order.{Order}
use Rattle.wb_tasks.specs.Tables.{TaskJob}
use Rattle.wb_tasks.specs.Plan.{Plan, table}
use Rattle.wb_tasks.specs.declared.step.Answer.{Answer}
use Rattle.wb_tasks.specs.declared.step.Answer.TheVariants.{Done as Finished, Refused as Refuses}
use Rattle.wb_stage.specs.declared.share.Share.{Share}
use Rattle.wb_target.specs.Works.{WorkState, ShareTold, PerformedWith}
use Rattle.wb_target.specs.Carried.{Runs, WasDone, WasDoneWith, WereDone}
use Rattle.wb_target.proofs.Tries.{SoFar}

-- a run, of the job and in the sizes that it is told of
pub run_with : {D : Type 0} (tells : Type 0) (size : D → ℕ) (contents : D → List History) (faults : D → ℕ) (asked : List Order → ShareTold) (held : List Order) (blocks blocks' : ℕ) (plan : Plan) (job job' : TaskJob) (old new : WorkState D) (answer answer' : Answer) (share : Share)
    → plan ≡ table job → job ≡ job' → blocks ≡ blocks' → answer ≡ answer' → PerformedWith tells size contents faults (asked held) blocks plan old answer new share → (run : Runs tells size contents faults asked blocks' held job' old answer' new) × (run.share ≡ share)
run_with {D} tells size contents faults asked held blocks blocks' plan job job' old new answer answer' share is same many told performed =
    let one : PerformedWith tells size contents faults (asked held) blocks (table job) old answer new share = subst (λ (p : Plan). PerformedWith tells size contents faults (asked held) blocks p old answer new share) is performed in
    let two : PerformedWith tells size contents faults (asked held) blocks (table job') old answer new share = subst (λ (j : TaskJob). PerformedWith tells size contents faults (asked held) blocks (table j) old answer new share) same one in
    let three : PerformedWith tells size contents faults (asked held) blocks' (table job') old answer new share = subst (λ (n : ℕ). PerformedWith tells size contents faults (asked held) n (table job') old answer new share) many two in
    let four : PerformedWith tells size contents faults (asked held) blocks' (table job') old answer' new share = subst (λ (a : Answer). PerformedWith tells size contents faults (asked held) blocks' (table job') old a new share) told three in (four.was, four.ends)

-- one that was done so was done
pub done_of : {D : Type 0} (tells : Type 0) (size : D → ℕ) (contents : D → List History) (faults : D → ℕ) (asked : List Order → ShareTold) (blocks : ℕ) (held : List Order) (job : TaskJob) (share : Share) (old new : WorkState D) → WasDoneWith tells size contents faults asked blocks held job share old new → WasDone (Runs tells size contents faults asked blocks held) job old new
done_of tells size contents faults asked blocks held job share old new h = record { tries = h.tries; before = h.before; tried = h.tried; ended = h.ended.0 }

-- A job after runs of it that were refused as busy.
module _ {D : Type 0} (runs : TaskJob → WorkState D → Answer → WorkState D → Type 0) (job : TaskJob) where
  abbrev pub Before : WorkState D → WorkState D → Type 0
  Before old mid = SoFar (λ s t. runs job s (Refuses Busy) t) old mid

  pub done_then : (old mid new : WorkState D) → Before old mid → runs job mid Finished new → WasDone runs job old new
  done_then old mid new so run = record { tries = so.0; before = mid; tried = so.1; ended = run }

-- and with this at its end
pub done_so : {D : Type 0} (tells : Type 0) (size : D → ℕ) (contents : D → List History) (faults : D → ℕ) (asked : List Order → ShareTold) (blocks : ℕ) (held : List Order) (job : TaskJob) (share share' : Share) → share ≡ share' → (old mid new : WorkState D) → Before (Runs tells size contents faults asked blocks held) job old mid
    → (run : Runs tells size contents faults asked blocks held job mid Finished new) × (run.share ≡ share) → WasDoneWith tells size contents faults asked blocks held job share' old new
done_so tells size contents faults asked blocks held job share share' same old mid new so run = record { tries = so.0; before = mid; tried = so.1; ended = (run.0, run.1 ∙ same) }

-- an order of one job
module _ {D A : Type 0} (runs : List Order → TaskJob → WorkState D → Answer → WorkState D → Type 0) (r : Result A Refusal) (job : TaskJob) (jobs : Order → List TaskJob) (order : Order) (single : jobs order ≡ job ∷ []) (old new : WorkState D) where
  pub one_done : OnOk r (WasDone (runs (order ∷ [])) job old new) → OnOk r (WereDone (runs (order ∷ [])) (jobs order) old new)
  one_done h =
      subst (λ (js : List TaskJob). OnOk r (WereDone (runs (order ∷ [])) js old new)) (sym single) (on_ok_weaker r (λ (d : WasDone (runs (order ∷ [])) job old new). (new, d, refl)) h)
