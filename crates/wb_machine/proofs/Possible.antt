-- What every run gives to a state over a target: whoever has a task can do its next step.
use Rattle.std.proofs.Common.{◌≡◌, ◌≤◌, ◌<◌, ◌+◌, ℕ, zero, suc, List, [], ◌∷◌, Option, Some, None, refl, sym, ap, subst, arith, slice_get, length}
use Rattle.std.specs.declared.alloc.Global.{Global}
use Rattle.wb_types.specs.declared.mode.Dev.{Dev}
use Rattle.wb_types.specs.declared.mode.Dev.TheVariants.{Metadata}
use Rattle.wb_types.specs.declared.extent.Extent.{Extent}
use Rattle.wb_disk.specs.Device.{Content as Bytes, History}
use Rattle.wb_disk.specs.Extents.{GivesEach}
use Rattle.wb_disk.specs.Memory.{Memory}
use Rattle.wb_policy.specs.declared.quiet.Quiet.{Quiet}
use Rattle.wb_tasks.specs.Plan.{Plan, want}
use Rattle.wb_tasks.specs.declared.step.Answer.TheVariants.{Done as Finished, Refused as Refuses}
use Rattle.wb_tasks.specs.declared.step.DeviceStep.{DeviceStep}
use Rattle.wb_tasks.specs.declared.step.DeviceStep.TheVariants.{Read as ReadExtent, Write as WriteExtent, Sync, ReadMetadata, WriteNode, WriteRoot}
use Rattle.wb_tasks.specs.declared.step.DeskStep.{DeskStep}
use Rattle.wb_tasks.specs.declared.step.DeskStep.TheVariants.{Unmap, ReleaseOrder, Arrive, Ask, BeginCommit, EndCommit, BreakCommit}
use Rattle.wb_tasks.specs.declared.step.Want.{Want}
use Rattle.wb_tasks.specs.declared.step.Want.TheVariants.{Cell, Device, Desk, End}
use Rattle.wb_tasks.specs.declared.step.Got.{Got}
use Rattle.wb_devices.specs.declared.devices.Devices.{Devices}
use Rattle.wb_devices.specs.declared.running.RunningCommit.{RunningCommit}
use Rattle.wb_devices.specs.Moving.{device_in}
use Rattle.wb_promise.specs.declared.job.Job.{Job}
use Rattle.wb_promise.specs.declared.job.Job.TheVariants.{Read, Write, Flush, Open, Invalidate, Migrate}
use Rattle.wb_promise.specs.States.{Shape, Actor, Opens as OpensIn, Stands, Target as RunTarget}
use Rattle.wb_promise.specs.Happenings.{Awaits, Chosen, Puts, Opened, OfSome, DoesOpen, DoesPut, DoesSync, Gives}
use Rattle.wb_meta.specs.declared.read_steps.ReadSteps.{ReadSteps}
use Rattle.wb_runs.specs.Holding.{AreUsedRightly}
use Rattle.wb_runs.specs.Laws.{OpeningFinds}
use Rattle.wb_runs.specs.Progress.{IsFree}
use Rattle.wb_machine.specs.declared.phase.Phase.{Phase}
use Rattle.wb_machine.specs.declared.phase.Phase.TheVariants.{Closed, Underway, Standing}
use Rattle.wb_machine.specs.Life.{contents_of, state_of}
use Rattle.wb_machine.specs.Members.{with_cards}
use Rattle.wb_machine.specs.Serving.{AllCan, CanStep, ComesNext, IsAskable, IsDoable, IsPossible, IsPhaseServed, Opens, stood, target_told}

third : {A B C : Type 0} → A × B × C → C
third p = p.2

pub is_inside : {X : Type 0} (xs : List X) (i : ℕ) (x : X) → slice_get xs i ≡ Some x → i < length xs
is_inside [] i x e = absurd (cc)
is_inside (z ∷ xs) zero x e = omega arith
is_inside (z ∷ xs) (suc i) x e = let later = is_inside xs i x e in omega (arith, later)

-- each content that was given stands in a sector that is there
gives_inside : (device : List History) (read : List Bytes) (at : ℕ) → GivesEach device at read → 1 ≤ length read → at + length read ≤ length device
gives_inside device [] at g l = absurd (omega arith)
gives_inside device (c ∷ []) at g l = let here = is_inside device at g.0.0 g.0.1 in omega (arith, here)
gives_inside device (c ∷ d ∷ cs) at g l = let later = gives_inside device (d ∷ cs) (suc at) g.1 (omega arith) in omega (arith, later)

extent_inside : (device : List History) (read : List Bytes) (e : Extent) → length read ≡ e.count → GivesEach device e.first read → 1 ≤ e.count → e.first + e.count ≤ length device
extent_inside device read e many g l = let all = gives_inside device read e.first g (omega (arith, l, many)) in omega (arith, all, many)

opens_nobody : (t : RunTarget Quiet) (commit : Option RunningCommit) (chosen : Chosen Quiet Global) → DoesOpen (Stands t) commit chosen → ⊥
opens_nobody t commit (Opened policy) d = d.0
opens_nobody t commit chosen d = d

syncs_next : (t : RunTarget Quiet) (commit : Option RunningCommit) (device : List History) (chosen : Chosen Quiet Global) → DoesSync (Stands t) commit device chosen → ComesNext commit (Sync Metadata) device
syncs_next t None device chosen d = d
syncs_next t (Some commit) device chosen d = (d.0, tt)

puts_next : (commit : Option RunningCommit) (step : DeviceStep) (device : List History) (chosen : Chosen Quiet Global) → DoesPut commit step device chosen → ComesNext commit step device
puts_next None step device (Puts new) d = d
puts_next (Some commit) step device (Puts new) d = (d.0, tt)
puts_next commit step device chosen d = absurd d

module _ (shape : Shape) (devices : Devices (List History)) (commit : Option RunningCommit) (t : RunTarget Quiet) (actors : List Actor) (actor : Actor) (got : Got) (read : List Bytes) (chosen : Chosen Quiet Global) where
  abbrev G : Job → Want → Type 0
  G job next = Gives shape (stood devices commit t actors) actor job next got read chosen

  reads : (job : Job) (device : Dev) (e : Extent) → G job (Device (ReadExtent device e)) → IsDoable devices commit job (ReadExtent device e)
  reads (Read extent) device e g = (tt, g.0, λ l. extent_inside (device_in device devices) read e g.3 g.4 l)
  reads (Migrate migration block) device e g = (tt, g.0, g.3)
  reads job device e g = absurd g

  writes : (job : Job) (device : Dev) (e : Extent) → G job (Device (WriteExtent device e)) → IsDoable devices commit job (WriteExtent device e)
  writes (Write extent content) device e g = (tt, g.0, g.3)
  writes (Migrate migration block) device e g = (tt, g.0, g.3)
  writes job device e g = absurd g

  -- (Where all jobs are alike one is named, and the next clause looks at each of the others.)
  syncs : (job : Job) → G job (Device (Sync Metadata)) → ComesNext commit (Sync Metadata) devices.metadata
  syncs Flush g = syncs_next t commit devices.metadata chosen g.2
  syncs job g = syncs_next t commit devices.metadata chosen g.2

  writes_node : (job : Job) (number : ℕ) → G job (Device (WriteNode number)) → ComesNext commit (WriteNode number) devices.metadata
  writes_node Flush number g = puts_next commit (WriteNode number) devices.metadata chosen g.2
  writes_node job number g = puts_next commit (WriteNode number) devices.metadata chosen g.2

  writes_root : (job : Job) → G job (Device WriteRoot) → ComesNext commit WriteRoot devices.metadata
  writes_root Flush g = puts_next commit WriteRoot devices.metadata chosen g.2
  writes_root job g = puts_next commit WriteRoot devices.metadata chosen g.2

  reads_metadata : (job : Job) (left : ℕ) → G job (Device (ReadMetadata left)) → ⊥
  reads_metadata Flush left g = g.2
  reads_metadata job left g = g.2

  asks : (job : Job) (step : DeskStep) → G job (Desk step) → IsAskable commit job step
  asks job (Arrive most) g = tt
  asks job (Ask most) g = tt
  asks job (BeginCommit most) g = tt
  asks job BreakCommit g = tt
  asks Flush EndCommit g = g.2
  asks job EndCommit g = g.2
  asks (Migrate migration block) step g = tt
  asks (Write extent content) (Unmap b) g = tt
  asks (Invalidate block) (Unmap b) g = tt
  asks Flush (ReleaseOrder b) g = tt
  asks job step g = absurd g

  ends : (job : Job) → G job (End Finished) → ¬ Opens job
  ends (Open mode second) g = λ o. opens_nobody t commit chosen (third g)
  ends job g = λ o. o

  pub possible : (job : Job) (next : Want) → G job next → IsPossible devices commit job next
  possible job (Cell step) g = tt
  possible job (Device (ReadExtent device e)) g = reads job device e g
  possible job (Device (WriteExtent device e)) g = writes job device e g
  possible job (Device (Sync Metadata)) g = syncs job g
  possible job (Device (Sync device)) g = tt
  possible job (Device (ReadMetadata left)) g = reads_metadata job left g
  possible job (Device (WriteNode number)) g = writes_node job number g
  possible job (Device WriteRoot) g = writes_root job g
  possible job (Desk step) g = asks job step g
  possible job (End Finished) g = ends job g
  possible job (End (Refuses refusal)) g = tt

-- what holds of who is at work holds of the actor and the task there
pub the_task : (actors : List Actor) (a : ℕ) (x : Actor) (doing : Job × Plan) (P : Actor → Job → Plan → Type 0) → slice_get actors a ≡ Some x → x.task ≡ Some doing
    → OfSome (slice_get actors a) (λ (y : Actor). OfSome y.task (λ d. P y d.0 d.1)) → P x doing.0 doing.1
the_task actors a x doing P at e h = subst (λ (o : Option (Job × Plan)). OfSome o (λ d. P x d.0 d.1)) e (subst (λ (o : Option Actor). OfSome o (λ (y : Actor). OfSome y.task (λ d. P y d.0 d.1))) at h)

pub has_task : (actors : List Actor) (a : ℕ) (x : Actor) (doing : Job × Plan) (P : Actor → Job × Plan → Type 0) → slice_get actors a ≡ Some x → x.task ≡ Some doing
    → P x doing → OfSome (slice_get actors a) (λ (y : Actor). OfSome y.task (P y))
has_task actors a x doing P at e p = subst (λ (o : Option Actor). OfSome o (λ (y : Actor). OfSome y.task (P y))) (sym at) (subst (λ (o : Option (Job × Plan)). OfSome o (P x)) (sym e) p)

module _ (shape : Shape) (devices : Devices (List History)) (commit : Option RunningCommit) (t : RunTarget Quiet) (actors : List Actor) (free_so : IsFree shape (stood devices commit t actors)) where
  can_step : (a : ℕ) (x : Actor) → slice_get actors a ≡ Some x → (task : Option (Job × Plan)) → x.task ≡ task → CanStep devices commit task
  can_step a x at None e = tt
  can_step a x at (Some doing) e = by_next (want doing.1) refl
    where
      goes_on : (Awaits t.desk x.share (want doing.1) → ⊥) → IsPossible devices commit doing.0 (want doing.1)
      goes_on n =
          let something = free_so.steps a (has_task actors a x doing (λ y d. Unit {0}) at e tt) (λ waits. n (the_task actors a x doing (λ y job plan. Awaits t.desk y.share (want plan)) at e waits)) in
          let does = the_task actors a x doing (λ y job plan. (something.next ≡ want plan) × Gives shape (stood devices commit t actors) y job something.next something.got something.read something.chosen) at e something.may in
          possible shape devices commit t actors x something.got something.read something.chosen doing.0 (want doing.1)
          (subst (λ (next : Want). Gives shape (stood devices commit t actors) x doing.0 next something.got something.read something.chosen) does.0 does.1)

      -- who asks with a ticket can do so once it has not to wait
      by_next : (next : Want) → want doing.1 ≡ next → IsPossible devices commit doing.0 (want doing.1)
      by_next (Desk (Ask most)) n = subst (λ (next : Want). IsPossible devices commit doing.0 next) (sym n) tt
      by_next next n = goes_on (λ waits. subst (λ (w : Want). Awaits t.desk x.share w) n waits)

  pub all_can : AllCan devices commit actors
  all_can = λ a x at. can_step a x at x.task refl

pub served : (shape : Shape) (n : ℕ) (devices : Devices Memory) (o : Phase) → IsFree shape (state_of n devices o) → AreUsedRightly shape (state_of n devices o) → OpeningFinds shape.geometry (state_of n devices o) → IsPhaseServed shape.geometry devices o
served shape n devices Closed is_free used finds = tt
served shape n devices (Underway opener) is_free used finds = λ was is none. finds opener.asked.mode was (ap (λ (r : Option (ReadSteps Global)). OpensIn opener.asked.mode r) is) none
served shape n devices (Standing t members) is_free used finds = record { suited = used.suited; can = all_can shape (contents_of devices) t.commit (target_told t) (with_cards members.items t.crew.cards) is_free }
