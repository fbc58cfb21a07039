-- What is left of the task of an opening, and why it is to be refused, where it is.
use Rattle.std.proofs.Common.{◌≡◌, ◌≢◌, ◌∙◌, ◌+◌, ◌++◌, inl, inr, ℕ, zero, suc, Bool, List, [], ◌∷◌, Option, Some, None, refl, sym, ap, subst}
use Rattle.wb_types.specs.declared.mode.Mode.{Mode}
use Rattle.wb_types.specs.declared.refusal.Refusal.{Refusal}
use Rattle.wb_types.specs.declared.refusal.Refusal.TheVariants.{Io, NotClean, Memory, GenerationEnd}
use Rattle.wb_types.proofs.Lists.{Contains-first, Contains-behind}
use Rattle.wb_disk.specs.Device.{History}
use Rattle.wb_meta.specs.declared.read_steps.ReadSteps.{ReadSteps}
use Rattle.wb_tasks.specs.Tables.{Opening}
use Rattle.wb_types.specs.declared.mode.Dev.TheVariants.{Metadata}
use Rattle.wb_tasks.specs.Plan.{Plan, want, after, device_of, node_writes, opening_root}
use Rattle.wb_tasks.specs.declared.step.Answer.TheVariants.{Refused as Refuses}
use Rattle.wb_tasks.specs.declared.step.DeviceStep.{DeviceStep}
use Rattle.wb_tasks.specs.declared.step.DeviceStep.TheVariants.{Sync, ReadMetadata, WriteNode, WriteRoot}
use Rattle.wb_tasks.specs.declared.step.Want.{Want}
use Rattle.wb_tasks.specs.declared.step.Want.TheVariants.{Device, End}
use Rattle.wb_tasks.specs.declared.step.Got.{Got}
use Rattle.wb_tasks.specs.declared.step.Got.TheVariants.{Done, Fault, Refused as GotRefused, Began, More}
use Rattle.wb_devices.specs.declared.running.RunningCommit.{RunningCommit}
use Rattle.wb_tasks.specs.Ready.{IsOpenings}
use Rattle.wb_devices.specs.Opened.{HasCome, got_of_refusal}
use Rattle.wb_promise.specs.declared.job.Job.{Job}
use Rattle.wb_promise.specs.declared.job.Job.TheVariants.{Open}
use Rattle.wb_promise.specs.States.{Shape, Phase, Stands, Gone, Opens, OfReading}
use Rattle.wb_promise.specs.Happenings.{Chosen, Reaches, DoesRead}
use Rattle.wb_promise.specs.Clerk.{Doing, failing}
use Rattle.wb_promise.specs.Headline.{MayRefuse}
use Rattle.wb_runs.proofs.Plans.{plan_of}
use Rattle.wb_runs.proofs.Images.{Images}
use Rattle.wb_runs.proofs.Metadata.{MetadataKept, HasReached, AtOpening}
use Rattle.wb_runs.proofs.Refusing.{Cause, refused_for}

abbrev pub OpensOnly : List Want → Type 0
OpensOnly [] = Unit {0}
OpensOnly (Device (Sync device) ∷ ws) = OpensOnly ws
OpensOnly (Device (ReadMetadata n) ∷ ws) = OpensOnly ws
OpensOnly (Device (WriteNode number) ∷ ws) = OpensOnly ws
OpensOnly (Device WriteRoot ∷ ws) = OpensOnly ws
OpensOnly (w ∷ ws) = ⊥

-- where it is to be refused there is a cause
pub record OpenClaim (plan : Plan) (doing : Doing) : Type 0 where
  pub left : ℕ
  pub job_is : plan.job ≡ Opening left
  pub fine : OpensOnly plan.steps
  pub cause : (refusal : Refusal) → plan.answer ≡ Refuses refusal → MayRefuse doing refusal

-- what comes of its steps
abbrev pub Comes : Got → Type 0
Comes Done = Unit {0}
Comes More = Unit {0}
Comes Fault = Unit {0}
Comes (GotRefused refusal) = Unit {0}
Comes (Began nodes) = Unit {0}
Comes got = ⊥

-- why a step makes an opening answer so
abbrev pub Causes : DeviceStep → Got → Refusal → Type 0
Causes step Fault refusal = refusal ≡ Io (device_of step)
Causes step (GotRefused because) refusal = refusal ≡ because
Causes step got refusal = ⊥

-- its first step is such a one, and so are those behind it
opens_by : (w : Want) (ws : List Want) → OpensOnly (w ∷ ws) → IsOpenings w × OpensOnly ws
opens_by (Device (Sync d)) ws f = (tt, f)
opens_by (Device (ReadMetadata m)) ws f = (tt, f)
opens_by (Device (WriteNode number)) ws f = (tt, f)
opens_by (Device WriteRoot) ws f = (tt, f)
opens_by w ws f = absurd f

-- so are the nodes, their sync and the root
nodes_open : (left from : ℕ) → OpensOnly (node_writes left from ++ Device (Sync Metadata) ∷ opening_root)
nodes_open zero from = tt
nodes_open (suc left) from = nodes_open left (from + 1)

-- the plan is its parts
parts : (plan : Plan) (n : ℕ) (steps : List Want) → plan.job ≡ Opening n → plan.steps ≡ steps → plan ≡ plan_of (Opening n) steps plan.answer
parts plan n steps j s = λ k. record { job = j k; steps = s k; answer = plan.answer }

pub open_next : (plan : Plan) (doing : Doing) → OpenClaim plan doing → IsOpenings (want plan)
open_next plan doing c = by_steps plan.steps refl c.fine
  where
    by_steps : (steps : List Want) → plan.steps ≡ steps → OpensOnly steps → IsOpenings (want plan)
    by_steps [] s f = subst (λ (p : Plan). IsOpenings (want p)) (sym (parts plan c.left [] c.job_is s)) tt
    by_steps (w ∷ ws) s f = subst (λ (p : Plan). IsOpenings (want p)) (sym (parts plan c.left (w ∷ ws) c.job_is s)) (opens_by w ws f).0

-- an opening that answers with a refusal has a cause
pub open_refuses : (plan : Plan) (doing : Doing) (refusal : Refusal) → OpenClaim plan doing → End (Refuses refusal) ≡ want plan → MayRefuse doing refusal
open_refuses plan doing refusal c e = by_steps plan.steps refl c.fine
  where
    by_steps : (steps : List Want) → plan.steps ≡ steps → OpensOnly steps → MayRefuse doing refusal
    by_steps [] s f = c.cause refusal (let w : End (Refuses refusal) ≡ End plan.answer = e ∙ ap want (parts plan c.left [] c.job_is s) in cc)
    by_steps (w ∷ ws) s f = absurd (subst (λ (v : Want). OpensOnly (v ∷ ws)) (sym (e ∙ ap want (parts plan c.left (w ∷ ws) c.job_is s))) f)

-- a step of it
pub open_on : (plan : Plan) (doing doing' : Doing) (step : DeviceStep) (got : Got) → OpenClaim plan doing → Device step ≡ want plan → Comes got → ((refusal : Refusal) → MayRefuse doing refusal → MayRefuse doing' refusal) →
    ((refusal : Refusal) → Causes step got refusal → MayRefuse doing' refusal) → OpenClaim (after plan got) doing'
open_on plan doing doing' step got c e comes grows why = by_steps plan.steps refl c.fine
  where
    more : (ws : List Want) → OpensOnly (Device step ∷ ws) → (s : DeviceStep) → step ≡ s → OpenClaim (after (plan_of (Opening c.left) (Device s ∷ ws) plan.answer) More) doing'
    more ws f (ReadMetadata k) q = record { left = c.left; job_is = refl; fine = (opens_by (Device step) ws f).1; cause = λ r a. grows r (c.cause r a) }
    more ws f s q = record { left = c.left; job_is = refl; fine = (opens_by (Device step) ws f).1; cause = λ r a. grows r (c.cause r a) }

    by_got : (ws : List Want) → OpensOnly (Device step ∷ ws) → (got : Got) → Comes got → ((refusal : Refusal) → Causes step got refusal → MayRefuse doing' refusal) → OpenClaim (after (plan_of (Opening c.left) (Device step ∷ ws) plan.answer) got) doing'
    by_got ws f Done k why = record { left = c.left; job_is = refl; fine = (opens_by (Device step) ws f).1; cause = λ r a. grows r (c.cause r a) }
    by_got ws f More k why = more ws f step refl
    by_got ws f Fault k why = record { left = c.left; job_is = refl; fine = tt; cause = λ r a. why r (let same : Io (device_of step) ≡ r = cc in sym same) }
    by_got ws f (GotRefused because) k why = record { left = c.left; job_is = refl; fine = tt; cause = λ r a. why r (let same : because ≡ r = cc in sym same) }
    by_got ws f (Began nodes) k why = record { left = c.left; job_is = refl; fine = nodes_open nodes 0; cause = λ r a. grows r (c.cause r a) }
    by_got ws f got k why = absurd k

    by_steps : (steps : List Want) → plan.steps ≡ steps → OpensOnly steps → OpenClaim (after plan got) doing'
    by_steps [] s f = absurd (let bad : Device step ≡ End plan.answer = e ∙ ap want (parts plan c.left [] c.job_is s) in cc)
    by_steps (w ∷ ws) s f =
        let here : Device step ≡ w = e ∙ ap want (parts plan c.left (w ∷ ws) c.job_is s) in
        subst (λ (p : Plan). OpenClaim (after p got) doing') (sym (parts plan c.left (w ∷ ws) c.job_is s))
        (subst (λ (v : Want). OpenClaim (after (plan_of (Opening c.left) (v ∷ ws) plan.answer) got) doing') here (by_got ws (subst (λ (v : Want). OpensOnly (v ∷ ws)) (sym here) f) got comes why))

-- ---- causes

pub failing_same : (doing : Doing) (step : DeviceStep) (got : Got) → (failing doing step got).job ≡ doing.job
failing_same doing step Fault = refl
failing_same doing step got = refl

pub still_refuses : (doing : Doing) (step : DeviceStep) (got : Got) (refusal : Refusal) → MayRefuse doing refusal → MayRefuse (failing doing step got) refusal
still_refuses doing step Fault (Io device) m = Contains-behind (device_of step) doing.failed device m
still_refuses doing step Fault Memory m = m
still_refuses doing step Fault GenerationEnd m = m
still_refuses doing step Fault NotClean m = m
still_refuses doing step Fault refusal m = absurd m
still_refuses doing step got refusal m = m

-- a step that fails has its device noted
pub fault_why : (doing : Doing) (step : DeviceStep) (refusal : Refusal) → Causes step Fault refusal → MayRefuse (failing doing step Fault) refusal
fault_why doing step refusal c = subst (λ (r : Refusal). MayRefuse (failing doing step Fault) r) (sym c) (Contains-first (device_of step) doing.failed)

-- requests, flushes and migrations are at work where a target stands, openings where one is at work, in its mode
abbrev pub IsServed : Job → Type 0
IsServed (Open mode second) = ⊥
IsServed job = Unit {0}

abbrev pub IsOpeningJob : Mode → Job → Type 0
IsOpeningJob mode (Open opened second) = opened ≡ mode
IsOpeningJob mode job = ⊥

pub opens_in : (mode : Mode) (job : Job) → IsOpeningJob mode job → (second : Bool) × (job ≡ Open mode second)
opens_in mode (Open opened second) i = (second, ap (λ (m : Mode). Open m second) i)
opens_in mode job i = absurd i

abbrev pub InPhase : {P A : Type 0} → Phase P A → Job → Type 0
InPhase (Stands t) job = IsServed job
InPhase (Opens mode r) job = IsOpeningJob mode job
InPhase Gone job = ⊥

module _ (P A : Type 0) (shape : Shape) (images : Images) (device : List History) (doing : Doing) (second : Bool) (left : ℕ) where
  reads_come : (mode : Mode) (was : ReadSteps A) (commit : Option RunningCommit) (got : Got) (chosen : Chosen P A) → DoesRead mode shape.geometry second left was device commit got chosen → Comes got
  reads_come mode was commit got (Reaches after' c) (fine, inl more) = elim more.3.2 [ inl in_time ↦ by_got got fine in_time.0 | inr unclean ↦ subst Comes (sym unclean.1) tt ]
    where
      by_got : (got : Got) → (got ≢ Fault) → HasCome more.3.0 left more.0 commit got after' c → Comes got
      by_got Done f h = tt
      by_got More f h = tt
      by_got (Began nodes) f h = tt
      by_got (GotRefused r) f h = tt
      by_got Fault f h = tt
      by_got got f h = absurd h
  reads_come mode was commit got (Reaches after' c) (fine, inr more) = by_refusal more.0 more.3
    where
      by_refusal : (r : Refusal) → got ≡ got_of_refusal r → Comes got
      by_refusal (Io d) h = subst Comes (sym h) tt
      by_refusal r h = subst Comes (sym h) tt
  reads_come mode was commit got chosen g = absurd g

  pub reading_comes : (phase : Phase P A) (commit : Option RunningCommit) (got : Got) (chosen : Chosen P A) → OfReading phase (λ mode was. DoesRead mode shape.geometry second left was device commit got chosen) → Comes got
  reading_comes (Opens mode (Some was)) commit got chosen g = reads_come mode was commit got chosen g
  reading_comes phase commit got chosen g = absurd g

  no_fault : (mode : Mode) (was : ReadSteps A) (chosen : Chosen P A) → DoesRead mode shape.geometry second left was device None Fault chosen → ⊥
  no_fault mode was (Reaches r d) g = g.0 refl
  no_fault mode was chosen g = g

  -- a reading is refused for want of memory or of generations, or since what was read was not left clean
  pub reading_why : (phase : Phase P A) (commit : Option RunningCommit) (got : Got) (chosen : Chosen P A) → MetadataKept shape.geometry images phase commit device → commit ≡ None → OfReading phase (λ mode was. DoesRead mode shape.geometry second left was device commit got chosen) →
      InPhase phase doing.job → (refusal : Refusal) → Causes (ReadMetadata left) got refusal → MayRefuse (failing doing (ReadMetadata left) got) refusal
  reading_why (Opens mode (Some was)) commit got chosen known e g at refusal c = by_got got (subst (λ (x : Option RunningCommit). DoesRead mode shape.geometry second left was device x got chosen) e g) c
    where
      reached : HasReached shape.geometry images was device
      reached = subst (λ (x : Option RunningCommit). AtOpening shape.geometry images (Some was) x device) e known

      by_cause : (r : Refusal) → Cause mode r → MayRefuse doing r
      by_cause r (inl m) = subst (λ (x : Refusal). MayRefuse doing x) (sym m) tt
      by_cause r (inr (inl n)) = subst (λ (x : Refusal). MayRefuse doing x) (sym n) tt
      by_cause r (inr (inr past)) = subst (λ (x : Refusal). MayRefuse doing x) (sym past.1) (let o = opens_in mode doing.job at in (o.0, o.1 ∙ ap (λ (m : Mode). Open m o.0) past.0))

      by_got : (got : Got) → DoesRead mode shape.geometry second left was device None got chosen → Causes (ReadMetadata left) got refusal → MayRefuse (failing doing (ReadMetadata left) got) refusal
      by_got (GotRefused because) d c = subst (λ (x : Refusal). MayRefuse doing x) (sym c) (by_cause because (refused_for P A shape.geometry images device was mode second left because chosen reached d))
      by_got Fault d c = absurd (no_fault mode was chosen d)
      by_got got d c = absurd c
  reading_why phase commit got chosen known e g at refusal c = absurd g
