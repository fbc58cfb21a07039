-- The steps of an opening that are left, one by one.
use Rattle.std.proofs.Common.{◌≡◌, ℕ, true, List, [], ◌∷◌, Option, Some, refl, subst}
use Rattle.wb_types.specs.declared.mode.Dev.{Dev}
use Rattle.wb_types.specs.declared.refusal.Refusal.TheVariants.{Io}
use Rattle.wb_disk.specs.Device.{History, synced}
use Rattle.wb_meta.specs.Steps.{DoesStep}
use Rattle.wb_tasks.specs.Tables.{TaskJob, Opening as OpeningJob}
use Rattle.wb_tasks.specs.Plan.{Plan, Fits}
use Rattle.wb_tasks.specs.Run.{IsRunOf, Leads}
use Rattle.wb_tasks.specs.declared.step.Answer.{Answer}
use Rattle.wb_tasks.specs.declared.step.Answer.TheVariants.{Done as Finished, Refused as Refuses}
use Rattle.wb_tasks.specs.declared.step.DeviceStep.{DeviceStep}
use Rattle.wb_tasks.specs.declared.step.Want.{Want}
use Rattle.wb_tasks.specs.declared.step.Got.{Got}
use Rattle.wb_tasks.specs.declared.step.Got.TheVariants.{Done}
use Rattle.wb_tasks.proofs.Driving.{no_result}
use Rattle.wb_devices.specs.Committing.{goes_on}
use Rattle.wb_devices.specs.Stepping.{DidPut}
use Rattle.wb_devices.specs.OpeningLed.{LedOpening}
use Rattle.wb_devices.specs.Outcomes.{OpeningHasEnded}
use Rattle.wb_devices.specs.declared.opening_stage.OpeningStage.{OpeningStage}
use Rattle.wb_devices.specs.declared.running.RunningCommit.{RunningCommit}

-- an opening with these steps to come
abbrev pub to_come : ℕ → List Want → Plan
to_come left steps = record { job = OpeningJob left; steps = steps; answer = Finished }

-- what a node or root that is written does to the device
pub put_done : (size : ℕ) (commit : Option RunningCommit) (running : RunningCommit) (step : DeviceStep) (old : List History) (faults : ℕ) (new : List History) (faults' : ℕ) → commit ≡ Some running → goes_on size running.image running.steps step ≡ true →
    DidPut size commit step Done old faults new faults' → DoesStep running.image running.steps old new
put_done size commit running step old faults new faults' is all did =
    let so : DidPut size (Some running) step Done old faults new faults' = subst (λ (c : Option RunningCommit). DidPut size c step Done old faults new faults') is did in
    (so.0 all).0

-- what the metadata device holds once it is durable, from the stage before the first step
abbrev pub settled : {D : Type 0} → (D → List History) → OpeningStage D → List History
settled contents first = synced (contents first.devices.metadata)

-- Every lemma from here on is about the same stages, from the one before the first step.
module _ {D : Type 0} (tells : Type 0) (size : D → ℕ) (contents : D → List History) (faults : D → ℕ) (first : OpeningStage D) where
  abbrev pub Led : OpeningStage D → Want → Got → OpeningStage D → Type 0
  Led = LedOpening tells size contents faults

  abbrev pub HasSo : Answer → OpeningStage D → Type 0
  HasSo answer new = OpeningHasEnded tells size contents first answer new

  -- with no step left the stage stays, and the answer is the plan's
  pub ended : (job : TaskJob) (a : Answer) (mid : OpeningStage D) (steps : List (Want × Got)) (answer : Answer) (new : OpeningStage D) →
      IsRunOf (record { job = job; steps = []; answer = a }) steps answer → Leads Led mid steps new → HasSo a mid → HasSo answer new
  ended job a mid [] answer new r e h =
      let same : a ≡ answer = cc in
      subst (λ (s : OpeningStage D). HasSo answer s) e (subst (λ (b : Answer). HasSo b mid) same h)
  ended job a mid (step ∷ steps) answer new r e h = absurd (no_result a step.1 (subst (λ (w : Want). Fits w step.1) r.0 r.1))

  -- after a fault nothing is said
  pub failed : (job : TaskJob) (device : Dev) (mid : OpeningStage D) (steps : List (Want × Got)) (answer : Answer) (new : OpeningStage D) →
      IsRunOf (record { job = job; steps = []; answer = Refuses (Io device) }) steps answer → Leads Led mid steps new → HasSo answer new
  failed job device mid steps answer new r l = ended job (Refuses (Io device)) mid steps answer new r l (λ other. absurd (other device refl))
