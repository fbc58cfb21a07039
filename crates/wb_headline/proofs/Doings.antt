-- What holds of what an actor is at from its begin on: it was noted what was finished of each sector then, and each reading that it was given
-- is noted as the latest.
use Rattle.std.proofs.Common.{◌≡◌, inl, inr, ℕ, zero, suc, List, [], ◌∷◌, Option, Some, None, All, refl, sym, ap, subst, arith, length, unwrap_or, slice_get, slice_set, Bool, true, false, cond}
use Rattle.std.proofs.lemmas.List.Elements.{All-append}
use Rattle.wb_types.proofs.Lists.{set_cases}
use Rattle.wb_types.specs.declared.mode.Mode.{Mode}
use Rattle.wb_disk.specs.Device.{Content as Bytes}
use Rattle.wb_tasks.specs.declared.step.Answer.TheVariants.{Done as Finished, Refused as Refuses}
use Rattle.wb_tasks.specs.declared.step.DeviceStep.{DeviceStep}
use Rattle.wb_tasks.specs.declared.step.DeviceStep.TheVariants.{Read as ReadExtent, Write as WriteExtent}
use Rattle.wb_tasks.specs.declared.step.Want.{Want}
use Rattle.wb_tasks.specs.declared.step.Want.TheVariants.{Device, End}
use Rattle.wb_tasks.specs.declared.step.Got.{Got}
use Rattle.wb_tasks.specs.declared.step.Got.TheVariants.{Done, Fault}
use Rattle.wb_promise.specs.declared.job.Job.{Job}
use Rattle.wb_promise.specs.declared.job.Job.TheVariants.{Read, Write, Open}
use Rattle.wb_promise.specs.declared.event.Event.{Event}
use Rattle.wb_promise.specs.declared.event.Event.TheVariants.{Start, Step, FaultStep, Stop}
use Rattle.wb_promise.specs.declared.event.What.{What}
use Rattle.wb_promise.specs.declared.event.What.TheVariants.{Started, Stepped, Stopped}
use Rattle.wb_promise.specs.States.{Shape}
use Rattle.wb_promise.specs.Happenings.{begun_as}
use Rattle.wb_promise.specs.Clerk.{Notes, Doing, begun, put, nobody, starting, failing, device_note, finished_note, noted_step, noted_what, readings_from, sector_for, is_entered}
use Rattle.wb_promise.specs.Headline.{IsLatest}
use Rattle.wb_promise.specs.Latest.{IsGiven, GivesLatest, ReadsRightly}
use Rattle.wb_contents.proofs.Lists.{replicated}

-- a step that is chosen to fail does
abbrev pub IsFault : Event → What → Type 0
IsFault (FaultStep a choice) (Stepped next got) = got ≡ Fault
IsFault event what = Unit {0}

module _ (sectors : ℕ) where
  -- what was finished when it began is of so many sectors, and what it has read since was the latest
  abbrev pub NotedSo : Doing → Type 0
  NotedSo d = (length d.then_finished ≡ sectors) × All IsLatest d.readings

  abbrev pub AllNotedSo : List (Option Doing) → Type 0
  AllNotedSo doings = (a : ℕ) (d : Doing) → slice_get doings a ≡ Some (Some d) → NotedSo d

  put_each : (doings : List (Option Doing)) (a : ℕ) (d : Doing) → AllNotedSo doings → NotedSo d → AllNotedSo (slice_set doings a (Some d))
  put_each doings a d all here b e q = elim (set_cases doings a b (Some d) (Some e) q) [
    | inl at ↦ (let same : e ≡ d = ap (λ (o : Option Doing). unwrap_or o e) at.1 in subst NotedSo (sym same) here)
    | inr other ↦ all b e other.1
  ]

  none_each : (doings : List (Option Doing)) (a : ℕ) → AllNotedSo doings → AllNotedSo (slice_set doings a None)
  none_each doings a all b e q = elim (set_cases doings a b None (Some e) q) [
    | inl at ↦ absurd (let bad : ◌≡◌ {A = Option Doing} (Some e) None = at.1 in cc)
    | inr other ↦ all b e other.1
  ]

  nobody_each : (doings : List (Option Doing)) → AllNotedSo (nobody doings)
  nobody_each (o ∷ os) (suc a) d e = nobody_each os a d e
  nobody_each doings a d e = absurd (cc)

  -- what a step of a read gave is the latest, if it was done
  abbrev Gave : Shape → Notes → Job → DeviceStep → Got → List Bytes → Type 0
  Gave shape n (Read extent) (ReadExtent d e) Done read = All IsLatest (readings_from n.histories (sector_for shape extent e) read)
  Gave shape n job step got read = Unit {0}

  -- whether it was entered or not
  either : (entered : Bool) (n m : Notes) → AllNotedSo n.doings → AllNotedSo m.doings → AllNotedSo (cond entered n m).doings
  either true n m a b = a
  either false n m a b = b

  device_each : (shape : Shape) (mode : Mode) (n : Notes) (a : ℕ) (doing : Doing) (job : Job) (step : DeviceStep) (got : Got) (read : List Bytes) → AllNotedSo n.doings → NotedSo doing → Gave shape n job step got read →
      AllNotedSo (device_note shape mode (put n a (Some (failing doing step got))) a (failing doing step got) job step got read).doings
  device_each shape mode n a doing (Read extent) (ReadExtent d e) Done read all l r = put_each (slice_set n.doings a (Some doing)) a _ (put_each n.doings a doing all l) (l.0, All-append IsLatest doing.readings (readings_from n.histories (sector_for shape extent e) read) l.1 r)
  device_each shape mode n a doing (Write extent content) (WriteExtent d e) Fault read all l r =
      either (is_entered mode d) _ _ (put_each (slice_set n.doings a (Some (failing doing (WriteExtent d e) Fault))) a _ (put_each n.doings a (failing doing (WriteExtent d e) Fault) all l) l) (put_each n.doings a (failing doing (WriteExtent d e) Fault) all l)
  device_each shape mode n a doing (Write extent content) (WriteExtent d e) got read all l r = either (is_entered mode d) _ _ (put_each (slice_set n.doings a (Some doing)) a _ (put_each n.doings a doing all l) l) (put_each n.doings a doing all l)
  device_each shape mode n a doing job step Fault read all l r = put_each n.doings a _ all l
  device_each shape mode n a doing job step got read all l r = put_each n.doings a doing all l

  finished_each : (n : Notes) (a : ℕ) (doing : Doing) (job : Job) (shown : List Bytes) → AllNotedSo n.doings → AllNotedSo (finished_note n a doing job shown).doings
  finished_each n a doing (Open mode second) shown all = λ b d e. absurd (let same : ◌≡◌ {A = Option Doing} None (Some d) = replicated (length n.doings) b None (Some d) e in cc)
  finished_each n a doing job shown all = none_each n.doings a all

  step_each : (shape : Shape) (mode : Mode) (shown : List Bytes) (n : Notes) (a : ℕ) (o : Option (Option Doing)) (next : Want) (got : Got) (read : List Bytes) → slice_get n.doings a ≡ o → AllNotedSo n.doings → ((doing : Doing) (step : DeviceStep) → o ≡ Some (Some doing) → next ≡ Device step → Gave shape n doing.job step got read) →
      AllNotedSo (noted_step shape mode shown n a o next got read).doings
  step_each shape mode shown n a (Some (Some doing)) (Device step) got read e all r = device_each shape mode n a doing doing.job step got read all (all a doing e) (r doing step refl refl)
  step_each shape mode shown n a (Some (Some doing)) (End Finished) got read e all r = finished_each n a doing doing.job shown all
  step_each shape mode shown n a (Some (Some doing)) (End (Refuses refusal)) got read e all r = none_each n.doings a all
  step_each shape mode shown n a o next got read e all r = all

  starting_each : (n : Notes) (job : Job) → AllNotedSo n.doings → AllNotedSo (starting n job).doings
  starting_each n (Open mode second) all = nobody_each n.doings
  starting_each n job all = all

  module _ (shape : Shape) (mode : Mode) (shown : List Bytes) (n : Notes) (read : List Bytes) (sized : length n.finished ≡ sectors) (all : AllNotedSo n.doings) where
    given : (a : ℕ) (doing : Doing) → slice_get n.doings a ≡ Some (Some doing) → (job : Job) → doing.job ≡ job → (step : DeviceStep) (got : Got) → ReadsRightly shape n (Step a) (Stepped (Device step) got) read → Gave shape n job step got read
    given a doing noted (Read extent) is (ReadExtent d x) Done g = subst (λ (j : Job). GivesLatest shape n j x read) is (subst (λ (o : Option (Option Doing)). IsGiven shape n o x read) noted g)
    given a doing noted job is step got g = tt

    failed : (job : Job) (step : DeviceStep) → Gave shape n job step Fault read
    failed (Read extent) (ReadExtent d x) = tt
    failed job step = tt

    pub what_noted : (event : Event) (what : What) → ReadsRightly shape n event what read → IsFault event what → AllNotedSo (noted_what shape mode shown n event what read).doings
    what_noted (Start a job) Started r fails = put_each (starting n job).doings a (begun n (begun_as job)) (starting_each n job all) (sized, λ i d l. absurd (omega (arith, l)))
    what_noted (Step a) (Stepped next got) r fails = step_each shape mode shown n a (slice_get n.doings a) next got read refl all (λ doing step noted is. given a doing noted doing.job refl step got (subst (λ (v : Want). ReadsRightly shape n (Step a) (Stepped v got) read) is r))
    what_noted (FaultStep a choice) (Stepped next got) r fails = step_each shape mode shown n a (slice_get n.doings a) next got read refl all (λ doing step noted is. subst (λ (v : Got). Gave shape n doing.job step v read) (sym fails) (failed doing.job step))
    what_noted (Stop choice) Stopped r fails = nobody_each n.doings
    what_noted event what r fails = all
