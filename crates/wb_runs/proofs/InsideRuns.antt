-- In every run each task's next step is on sectors that are there, and cache and origin keep their sizes.
use Rattle.std.proofs.Common.{◌≡◌, ◌∙◌, ◌≤◌, ◌<◌, ◌+◌, ◌-◌, ◌*◌, ◌/◌, ◌%◌, ℕ, zero, suc, true, List, [], ◌∷◌, Option, Some, None, Contains, refl, sym, ap, subst, arith, length, slice_get, slice_set, mul_comm}
use Rattle.std.proofs.lemmas.List.{length-map, length-replicate}
use Rattle.std.proofs.lemmas.Nat.{div-mul-add}
use Rattle.std.proofs.Math.Nat.{div-add-mod, mod-lt}
use Rattle.wb_types.specs.Extents.{IsCutInto}
use Rattle.wb_types.specs.declared.extent.Extent.{Extent}
use Rattle.wb_types.specs.declared.mode.Mode.{Mode}
use Rattle.wb_types.specs.declared.mode.Mode.TheVariants.{Writeback, Writethrough, Passthrough}
use Rattle.wb_types.specs.declared.mode.Dev.{Dev}
use Rattle.wb_types.specs.declared.mode.Dev.TheVariants.{Metadata, Cache, Origin}
use Rattle.wb_types.specs.declared.number.OBlock.{OBlock}
use Rattle.wb_disk.specs.Device.{Content as Bytes, History, newest, only}
use Rattle.wb_disk.specs.Failing.{lands}
use Rattle.wb_disk.specs.Crash.{Choice}
use Rattle.wb_disk.proofs.FailedSyncs.{length-synced_from}
use Rattle.wb_disk.proofs.Crashes.{Crashed-crashed_from}
use Rattle.wb_words.specs.SharedWords.{fresh_words, word_at}
use Rattle.wb_words.specs.declared.word.Word.TheVariants.{Seal as SealWord}
use Rattle.wb_words.specs.declared.step.CellStep.{CellStep}
use Rattle.wb_words.specs.declared.step.CellStep.TheVariants.{Look}
use Rattle.wb_words.specs.Effects.{result_of}
use Rattle.wb_meta.specs.Formats.{IsFormatted}
use Rattle.wb_meta.specs.declared.read_steps.ReadSteps.{ReadSteps}
use Rattle.wb_meta.specs.declared.read_steps.ReadSteps.TheVariants.{Begun, FirstSlotRead, RootFound, Done as AllRead}
use Rattle.wb_tasks.specs.Tables.{TaskJob, OnBlock, whole_block}
use Rattle.wb_tasks.specs.Plan.{Plan, want, table, got_of, device_of}
use Rattle.wb_tasks.specs.Ready.{HoldsBlocks}
use Rattle.wb_tasks.proofs.Readiness.{job_stays}
use Rattle.wb_tasks.specs.declared.step.Migration.{Migration}
use Rattle.wb_tasks.specs.declared.step.Migration.TheVariants.{Promote, Demote, Clean}
use Rattle.wb_tasks.specs.declared.step.DeviceStep.{DeviceStep}
use Rattle.wb_tasks.specs.declared.step.DeviceStep.TheVariants.{Read as ReadExtent, Write as WriteExtent, Sync}
use Rattle.wb_tasks.specs.declared.step.Want.{Want}
use Rattle.wb_tasks.specs.declared.step.Want.TheVariants.{Cell, Device, Desk, End}
use Rattle.wb_tasks.specs.declared.step.Got.{Got}
use Rattle.wb_tasks.specs.declared.step.Got.TheVariants.{Word, Fault}
use Rattle.wb_devices.specs.declared.devices.Devices.{Devices}
use Rattle.wb_devices.specs.declared.running.RunningCommit.{RunningCommit}
use Rattle.wb_devices.specs.Moving.{device_in}
use Rattle.wb_promise.specs.declared.job.Job.{Job}
use Rattle.wb_promise.specs.declared.job.Job.TheVariants.{Read, Write, Flush, Suspend, Open, Migrate, Replace, Invalidate}
use Rattle.wb_promise.specs.declared.event.Event.{Event}
use Rattle.wb_promise.specs.declared.event.Event.TheVariants.{Start, Step, FaultStep, Stop}
use Rattle.wb_promise.specs.declared.event.What.{What}
use Rattle.wb_promise.specs.declared.event.What.TheVariants.{Started, Stepped, Stopped}
use Rattle.wb_promise.specs.States.{Shape, State, Actor, Phase, Stands, Gone, Opens, OfTarget, mode_of, resting, with_device, block_size, sector_count, cache_sector_count, start}
use Rattle.wb_promise.specs.Happenings.{Chosen, Plain, Cut, Orders, Opened, Happening, OfSome, Gives, Falters, MayFailAt, StartGives, MayBe, orders_in, order_for, block_range, write_job, task_job, begun_as, StartsAs, Looks}
use Rattle.wb_promise.specs.Effects.{put_by, contents_for, device_done, device_failed, devices_then, commit_then, phase_then, phase_opened, phase_given, task_then, actor_then, cut_of, stepped, with_actor, cleared, given, started, job_of, all_resting, after_what, after_happening, after_all, IsRun, looks_of}
use Rattle.wb_promise.specs.Clerk.{Notes, formatted}
use Rattle.wb_promise.specs.Headline.{note_happening}
use Rattle.wb_runs.specs.Inside.{StepInside, TaskInside, StaysInside}
use Rattle.wb_contents.proofs.Lists.{replicated}
use Rattle.wb_runs.proofs.Lists.{first_or}
use Rattle.wb_runs.proofs.Extents.{MayStart, Within, AllWithin, may_start, cut_within, cut_inside, cut_of_block}
use Rattle.wb_runs.proofs.Images.{Images}
use Rattle.wb_runs.proofs.Metadata.{MetadataKept}
use Rattle.wb_runs.proofs.Stepping.{done_kept}
use Rattle.wb_runs.proofs.Given.{given_keeps}
use Rattle.wb_runs.proofs.Ordering.{OrderInside, OrdersInside, in_orders}
use Rattle.wb_runs.proofs.Ruling.{each_set, all_rest}
use Rattle.wb_runs.proofs.Using.{order_inside, replacement_inside}
use Rattle.wb_runs.proofs.Bounds.{SealInside, SealsInside, seals_after, fresh_inside, sealed_inside, AllInside, PartInside, JobInside, MigrationInside, inside_after, looks_inside}
use Rattle.wb_runs.proofs.LinkedRuns.{Base, base_after, base_start}
use Rattle.wb_policy.specs.declared.order.Order.{Order}
use Rattle.wb_devices.specs.Clean.{entries_of}
use Rattle.wb_devices.proofs.BitEntries.{length-with_bits}
use Rattle.wb_disk.proofs.Lengths.{length_written_where}

-- ---- sizes

-- cache and origin are as long as before
abbrev SameSizes : Devices (List History) → Devices (List History) → Type 0
SameSizes old new = (length new.cache ≡ length old.cache) × (length new.origin ≡ length old.origin)

same_with : (d : Dev) (devices : Devices (List History)) (new : List History) → (HoldsBlocks d → length new ≡ length (device_in d devices)) → SameSizes devices (with_device d devices new)
same_with Metadata devices new h = (refl, refl)
same_with Cache devices new h = (h tt, refl)
same_with Origin devices new h = (refl, h tt)

-- ---- extents of a job

pub some_there : (whole : Extent) (cut : List Extent) → AllWithin whole cut → (e : Extent) → Contains cut e → Within whole e
some_there whole [] i e c = absurd (omega (arith, c.1))
some_there whole (x ∷ xs) i e c = first_or x e xs (Within whole e) c (λ s. subst (λ (y : Extent). Within whole y) (sym s) i.0) (λ r. some_there whole xs i.1 e r)

-- sectors of one block
pub in_one_block : (b first count q : ℕ) → 0 < b → 1 ≤ count → first / b ≡ q → (first + count - 1) / b ≡ q → first % b + count ≤ b
in_one_block b first count q some many f l =
    let low = div-add-mod first b in
    let high = div-add-mod (first + count - 1) b in
    let low' : b * q + first % b ≡ first = ap (λ (k : ℕ). b * k + first % b) (sym f) ∙ low in
    let high' : b * q + (first + count - 1) % b ≡ first + count - 1 = ap (λ (k : ℕ). b * k + (first + count - 1) % b) (sym l) ∙ high in
    let less = mod-lt (first + count - 1) some in
    omega (arith, low', high', less, many)

part_inside : (shape : Shape) (mode : Mode) (whole : Extent) (block : OBlock) (cut : List Extent) → MayStart shape whole → IsCutInto whole cut → PartInside shape (record { mode = mode; block_sectors = block_size shape; block = block; extents = cut })
part_inside shape mode whole block cut m i =
    let within = cut_within whole cut i in
    record {
      size = refl;
      each = λ e c. let some = (some_there whole cut within e c).some in record {
        inside = cut_inside shape whole cut m within e c;
        in_block = in_one_block (block_size shape) e.first e.count (whole.first / block_size shape) (omega (arith, shape.geometry.within.block_from)) some
            (cut_of_block shape whole cut m within e c e.first (omega arith) (omega (arith, some))) (cut_of_block shape whole cut m within e c (e.first + e.count - 1) (omega (arith, some)) (omega (arith, some)));
      };
    }

block_ends : (b k n : ℕ) → k < n → k * b + b ≤ b * n
block_ends b k zero l = absurd (omega (arith, l))
block_ends b zero (suc n) l = omega (arith, mul_comm b (suc n))
block_ends b (suc k) (suc n) l = let r = block_ends b k n (omega (arith, l)) in omega (arith, r, mul_comm b (suc n), mul_comm b n)

whole_starts : (shape : Shape) (block : OBlock) → block.0 < shape.geometry.origin_blocks → MayStart shape (whole_block (block_size shape) block)
whole_starts shape block l =
    let some = shape.geometry.within.block_from in
    let b = block_size shape in
    record {
      some = omega (arith, some);
      inside = block_ends b block.0 shape.geometry.origin_blocks l;
      one_block = first b block.0 (omega (arith, some)) ∙ sym (last b block.0 (omega (arith, some)));
    }
  where
    first : (b k : ℕ) → 0 < b → (k * b) / b ≡ k
    first b k s = ap (λ (x : ℕ). x / b) (let e : k * b ≡ k * b + 0 = omega arith in e) ∙ div-mul-add k b 0 s

    last : (b k : ℕ) → 0 < b → (k * b + b - 1) / b ≡ k
    last b k s = ap (λ (x : ℕ). x / b) (let e : k * b + b - 1 ≡ k * b + (b - 1) = omega (arith, s) in e) ∙ div-mul-add k b (b - 1) (omega (arith, s))

-- ---- a state

abbrev pub PlanInside : Shape → Option (Job × Plan) → Type 0
PlanInside shape None = Unit {0}
PlanInside shape (Some task) = JobInside shape task.1.job × AllInside shape task.1.steps

abbrev SealsHere : {P A : Type 0} → Shape → Phase P A → Type 0
SealsHere shape (Stands t) = SealsInside shape.geometry.cache_blocks t.words.seals
SealsHere shape phase = Unit {0}

pub record Inside {P A : Type 0} (shape : Shape) (w : State P A) : Type 0 where
  pub cache : length w.devices.cache ≡ cache_sector_count shape
  pub origin : length w.devices.origin ≡ sector_count shape
  pub seals : SealsHere shape w.phase
  pub tasks : (a : ℕ) (x : Actor) → slice_get w.actors a ≡ Some x → PlanInside shape x.task

pub want_inside : (shape : Shape) (plan : Plan) → AllInside shape plan.steps → StepInside shape (want plan)
want_inside shape plan a = by_steps plan.steps a
  where
    by_steps : (steps : List Want) → AllInside shape steps → StepInside shape (Rattle.wb_tasks.specs.Plan.first_step steps plan.answer)
    by_steps [] a = tt
    by_steps (w ∷ ws) a = a.0

module _ (P A : Type 0) (shape : Shape) where
  -- ---- a step of an actor

  plain_read : (w : State P A) (actor : Actor) (got : Got) (read : List Bytes) (chosen : Chosen P A) (job : Job) (d : Dev) (e : Extent) → Gives shape w actor job (Device (ReadExtent d e)) got read chosen → chosen ≡ Plain
  plain_read w actor got read chosen (Read x) d e g = g.1
  plain_read w actor got read chosen (Migrate migration block) d e g = g.1.1
  plain_read w actor got read chosen job d e g = absurd g

  done_sizes : (w : State P A) (actor : Actor) (got : Got) (read : List Bytes) (chosen : Chosen P A) (job : Job) (buffer : List Bytes) (next : Want) → Gives shape w actor job next got read chosen → SameSizes w.devices (devices_then (λ step. device_done job buffer step chosen) w.devices next)
  done_sizes w actor got read chosen job buffer (Device (ReadExtent d e)) g = same_with d w.devices _ (λ h. ap (λ (c : Chosen P A). length (put_by c (device_in d w.devices))) (plain_read w actor got read chosen job d e g))
  done_sizes w actor got read chosen job buffer (Device (WriteExtent d e)) g = same_with d w.devices _ (λ h. length_written_where (λ at. true) (device_in d w.devices) e.first (contents_for job buffer e.count))
  done_sizes w actor got read chosen job buffer (Device (Sync d)) g = same_with d w.devices _ (λ h. length-map (device_in d w.devices) (λ (h : History). only (newest h)))
  done_sizes w actor got read chosen job buffer next g = (refl, refl)

  failed_sizes : (w : State P A) (choice : Choice) (chosen : Chosen P A) (job : Job) (buffer : List Bytes) (next : Want) → Falters w choice next chosen → SameSizes w.devices (devices_then (λ step. device_failed (lands (device_of step) choice) job buffer step chosen) w.devices next)
  failed_sizes w choice chosen job buffer (Device (ReadExtent d e)) g = same_with d w.devices _ (λ h. ap (λ (c : Chosen P A). length (put_by c (device_in d w.devices))) g.0)
  failed_sizes w choice chosen job buffer (Device (WriteExtent d e)) g = same_with d w.devices _ (λ h. length_written_where (lands d choice) (device_in d w.devices) e.first (contents_for job buffer e.count))
  failed_sizes w choice chosen job buffer (Device (Sync d)) g = same_with d w.devices _ (λ h. length-synced_from (lands d choice) 0 (device_in d w.devices))
  failed_sizes w choice chosen job buffer next g = (refl, refl)

  -- what a look at a seal finds
  seal_found : (phase : Phase P A) (step : CellStep) (got : Got) (b : OBlock) (v : ℕ) → SealsHere shape phase → OfTarget phase (λ t. got ≡ got_of (result_of t.words step)) → step ≡ Look (SealWord b) → got ≡ Word v → SealInside shape.geometry.cache_blocks v
  seal_found (Stands t) step got b v s g e f =
      let found : Word v ≡ Word (word_at t.words.seals b) = sym f ∙ g ∙ ap (λ (x : CellStep). got_of (result_of t.words x)) e in
      let same : v ≡ word_at t.words.seals b = cc in
      subst (λ (x : ℕ). SealInside shape.geometry.cache_blocks x) (sym same) (s b.0)
  seal_found phase step got b v s g e f = absurd g

  cell_given : (w : State P A) (actor : Actor) (got : Got) (read : List Bytes) (chosen : Chosen P A) (job : Job) (step : CellStep) → Gives shape w actor job (Cell step) got read chosen → OfTarget w.phase (λ t. got ≡ got_of (result_of t.words step))
  cell_given w actor got read chosen job step g = g.1

  plan_on : (w : State P A) (actor : Actor) (got : Got) (read : List Bytes) (chosen : Chosen P A) (job : Job) (plan : Plan) (next : Want) → SealsHere shape w.phase → PlanInside shape (Some (job, plan)) → next ≡ want plan → Gives shape w actor job next got read chosen → PlanInside shape (task_then (Some (job, plan)) next got)
  plan_on w actor got read chosen job plan (End answer) s i h g = tt
  plan_on w actor got read chosen job plan (Cell step) s i h g = (
    subst (λ (j : TaskJob). JobInside shape j) (sym (job_stays plan got)) i.0,
    inside_after shape plan got i.0 i.1 (λ b v e f. seal_found w.phase step got b v s (cell_given w actor got read chosen job step g) (let x : Cell step ≡ Cell (Look (SealWord b)) = h ∙ e in cc) f) (λ answer e. absurd (let x : Cell step ≡ End answer = h ∙ e in cc)),
  )
  plan_on w actor got read chosen job plan (Device step) s i h g = (
    subst (λ (j : TaskJob). JobInside shape j) (sym (job_stays plan got)) i.0,
    inside_after shape plan got i.0 i.1 (λ b v e f. absurd (let x : Device step ≡ Cell (Look (SealWord b)) = h ∙ e in cc)) (λ answer e. absurd (let x : Device step ≡ End answer = h ∙ e in cc)),
  )
  plan_on w actor got read chosen job plan (Desk step) s i h g = (
    subst (λ (j : TaskJob). JobInside shape j) (sym (job_stays plan got)) i.0,
    inside_after shape plan got i.0 i.1 (λ b v e f. absurd (let x : Desk step ≡ Cell (Look (SealWord b)) = h ∙ e in cc)) (λ answer e. absurd (let x : Desk step ≡ End answer = h ∙ e in cc)),
  )

  -- the seals after it
  opened_seals : (mode : Mode) (reading : Option (ReadSteps A)) (commit : Option RunningCommit) (got : Got) (chosen : Chosen P A) (m : List History) (i : Images) → MetadataKept {P = P} {A = A} shape.geometry i (phase_opened shape mode reading chosen) None m → SealsHere shape (phase_opened shape mode reading chosen)
  opened_seals mode (Some (AllRead stored)) commit got (Opened policy) m i k = sealed_inside shape stored.root.clean 0 (entries_of stored) (fresh_words shape.geometry.origin_blocks) (omega (arith, k.is.kept.mapping.size, k.is.sizes.cache_blocks, length-with_bits stored.dirty stored.tree.entries)) (fresh_inside shape.geometry.cache_blocks shape.geometry.origin_blocks)
  opened_seals mode (Some (Begun alloc global)) commit got (Opened policy) m i k = tt
  opened_seals mode (Some (FirstSlotRead alloc global first)) commit got (Opened policy) m i k = tt
  opened_seals mode (Some (RootFound global root loader nodes)) commit got (Opened policy) m i k = tt
  opened_seals mode None commit got (Opened policy) m i k = tt
  opened_seals mode reading commit got Plain m i k = tt
  opened_seals mode reading commit got (Cut es) m i k = tt
  opened_seals mode reading commit got (Orders es c) m i k = tt
  opened_seals mode reading commit got (Rattle.wb_promise.specs.Happenings.Looks bs) m i k = tt
  opened_seals mode reading commit got (Rattle.wb_promise.specs.Happenings.Begins now) m i k = tt
  opened_seals mode reading commit got (Rattle.wb_promise.specs.Happenings.Reaches now c) m i k = tt
  opened_seals mode reading commit got (Rattle.wb_promise.specs.Happenings.Puts new) m i k = tt
  opened_seals mode reading commit got (Rattle.wb_promise.specs.Happenings.Commits c tree) m i k = tt
  opened_seals mode reading commit got (Rattle.wb_promise.specs.Happenings.Asks new) m i k = tt

  seals_on : (phase : Phase P A) (commit : Option RunningCommit) (m : List History) (next : Want) (got : Got) (chosen : Chosen P A) (i : Images) → SealsHere shape phase → StepInside shape next → MetadataKept shape.geometry i (phase_then shape phase next got chosen) (commit_then phase commit next got chosen) m → SealsHere shape (phase_then shape phase next got chosen)
  seals_on (Stands t) commit m (Cell step) got chosen i s l k = seals_after shape t.words step l s
  seals_on (Opens mode reading) commit m (End answer) got chosen i s l k = opened_seals mode reading commit got chosen m i k
  seals_on (Stands t) commit m next got chosen i s l k = s
  seals_on phase commit m next got chosen i s l k = tt

  module _ (w : State P A) (i : Inside shape w) (a : ℕ) where
    goes : (x : Actor) (next : Want) (got : Got) (chosen : Chosen P A) (change : DeviceStep → List History → List History) (images : Images) → slice_get w.actors a ≡ Some x → SameSizes w.devices (devices_then change w.devices next) → StepInside shape next →
        MetadataKept shape.geometry images (phase_then shape w.phase next got chosen) (commit_then w.phase w.commit next got chosen) (devices_then change w.devices next).metadata → PlanInside shape (task_then x.task next got) → Inside shape (stepped shape w a x next got chosen change)
    goes x next got chosen change images e sizes l k p = record {
      cache = sizes.0 ∙ i.cache;
      origin = sizes.1 ∙ i.origin;
      seals = seals_on w.phase w.commit (devices_then change w.devices next).metadata next got chosen images i.seals l k;
      tasks = each_set w.actors a x (actor_then shape w.phase w.devices x next got) (λ (z : Actor). PlanInside shape z.task) e p i.tasks;
    }

  step_inside : (w : State P A) (n : Notes) (a : ℕ) (next : Want) (got : Got) (read : List Bytes) (chosen : Chosen P A) (o : Option Actor) → slice_get w.actors a ≡ o → Base P A shape w n → Inside shape w → OfSome o (λ x. OfSome x.task (λ doing. (next ≡ want doing.1) × Gives shape w x doing.0 next got read chosen)) →
      Inside shape (with_actor w o (λ x. stepped shape w a x next got chosen (λ step. device_done (job_of x.task) x.buffer step chosen)))
  step_inside w n a next got read chosen None e b i h = absurd h
  step_inside w n a next got read chosen (Some x) e b i h = by_task x.task refl h
    where
      by_task : (t : Option (Job × Plan)) → x.task ≡ t → OfSome t (λ doing. (next ≡ want doing.1) × Gives shape w x doing.0 next got read chosen) → Inside shape (stepped shape w a x next got chosen (λ step. device_done (job_of x.task) x.buffer step chosen))
      by_task None xt h = absurd h
      by_task (Some doing) xt h =
          let p = subst (λ (t : Option (Job × Plan)). PlanInside shape t) xt (i.tasks a x e) in
          let k = done_kept P A shape w x got read chosen b.known.images x.buffer doing.0 next b.known.known h.1 in
          subst (λ (j : Job). Inside shape (stepped shape w a x next got chosen (λ step. device_done j x.buffer step chosen))) (sym (ap job_of xt))
          (goes w i a x next got chosen (λ step. device_done doing.0 x.buffer step chosen) k.now e (done_sizes w x got read chosen doing.0 x.buffer next h.1) (subst (λ (v : Want). StepInside shape v) (sym h.0) (want_inside shape doing.1 p.1)) k.kept
          (subst (λ (t : Option (Job × Plan)). PlanInside shape (task_then t next got)) (sym xt) (plan_on w x got read chosen doing.0 doing.1 next i.seals p h.0 h.1)))

  fault_inside : (w : State P A) (n : Notes) (a : ℕ) (choice : Choice) (next : Want) (chosen : Chosen P A) (o : Option Actor) → slice_get w.actors a ≡ o → Base P A shape w n → Inside shape w → OfSome o (λ x. OfSome x.task (λ doing. (next ≡ want doing.1) × MayFailAt w.devices choice next × Falters w choice next chosen)) →
      Inside shape (with_actor w o (λ x. stepped shape w a x next Fault chosen (λ step. device_failed (lands (device_of step) choice) (job_of x.task) x.buffer step chosen)))
  fault_inside w n a choice next chosen None e b i h = absurd h
  fault_inside w n a choice next chosen (Some x) e b i h = by_task x.task refl h
    where
      on_device : (job : Job) (plan : Plan) (next : Want) → x.task ≡ Some (job, plan) → next ≡ want plan → MayFailAt w.devices choice next → PlanInside shape (task_then (Some (job, plan)) next Fault)
      on_device job plan (Device step) xt h m =
          let p = subst (λ (t : Option (Job × Plan)). PlanInside shape t) xt (i.tasks a x e) in (
            subst (λ (j : TaskJob). JobInside shape j) (sym (job_stays plan Fault)) p.0,
            inside_after shape plan Fault p.0 p.1 (λ b v e f. absurd (cc)) (λ answer e. absurd (let y : Device step ≡ End answer = h ∙ e in cc)),
          )
      on_device job plan next xt h m = absurd m

      by_task : (t : Option (Job × Plan)) → x.task ≡ t → OfSome t (λ doing. (next ≡ want doing.1) × MayFailAt w.devices choice next × Falters w choice next chosen) → Inside shape (stepped shape w a x next Fault chosen (λ step. device_failed (lands (device_of step) choice) (job_of x.task) x.buffer step chosen))
      by_task None xt h = absurd h
      by_task (Some doing) xt h =
          let p = subst (λ (t : Option (Job × Plan)). PlanInside shape t) xt (i.tasks a x e) in
          let k = Rattle.wb_runs.proofs.Faltering.failed_kept P A shape w choice chosen b.known.images x.buffer doing.0 next b.known.known h.2 in
          subst (λ (j : Job). Inside shape (stepped shape w a x next Fault chosen (λ step. device_failed (lands (device_of step) choice) j x.buffer step chosen))) (sym (ap job_of xt))
          (goes w i a x next Fault chosen (λ step. device_failed (lands (device_of step) choice) doing.0 x.buffer step chosen) k.now e (failed_sizes w choice chosen doing.0 x.buffer next h.2) (subst (λ (v : Want). StepInside shape v) (sym h.0) (want_inside shape doing.1 p.1)) k.kept
          (subst (λ (t : Option (Job × Plan)). PlanInside shape (task_then t next Fault)) (sym xt) (on_device doing.0 doing.1 next xt h.0 h.1)))

  -- ---- starts

  same_seals : (phase : Phase P A) (job : Job) (chosen : Chosen P A) → SealsHere shape phase → SealsHere shape (phase_given phase job chosen)
  same_seals = given_keeps (SealsHere shape) (λ t desk seals. seals)

  migration_inside : (migration : Migration) (block : OBlock) → OrderInside shape.geometry (order_for migration block) → (block.0 < shape.geometry.origin_blocks) × MigrationInside shape migration
  migration_inside (Promote c) block i = i
  migration_inside Demote block i = (i, tt)
  migration_inside Clean block i = (i, tt)

  orders_of_actor : (w : State P A) (a : ℕ) (o : Option Actor) → ((x : Actor) → o ≡ Some x → OrdersInside shape.geometry x.orders) → OrdersInside shape.geometry (orders_in o)
  orders_of_actor w a None f = λ order m. absurd (omega (arith, m.1))
  orders_of_actor w a (Some x) f = f x refl

  cut_migrated : (phase : Phase P A) (actor : Option Actor) (migration : Migration) (block : OBlock) (chosen : Chosen P A) → StartGives shape phase actor (Migrate migration block) Started chosen → IsCutInto (whole_block (block_size shape) block) (cut_of chosen)
  cut_migrated phase actor migration block (Cut cut) g = g.0
  cut_migrated phase actor migration block (Orders cut cache) g = g.0
  cut_migrated phase actor migration block chosen g = absurd g

  cut_replacing : (phase : Phase P A) (actor : Option Actor) (old new : OBlock) (chosen : Chosen P A) → StartGives shape phase actor (Replace old new) Started chosen → IsCutInto (whole_block (block_size shape) old) (cut_of chosen)
  cut_replacing phase actor old new (Cut cut) g = g.0
  cut_replacing phase actor old new (Orders cut cache) g = g.0
  cut_replacing phase actor old new chosen g = absurd g

  table_inside : (w : State P A) (n : Notes) (a : ℕ) (job : Job) (chosen : Chosen P A) → Base P A shape w n → StartsAs shape w a job Started chosen →
      (mode : Mode) (awaiting : List Order) → PlanInside shape (Some (begun_as job, table (task_job shape mode awaiting job (cut_of chosen) (looks_of chosen))))
  table_inside w n a (Read extent) (Cut cut) b g mode awaiting = (part_inside shape mode extent (record { 0 = extent.first / block_size shape }) cut (may_start shape extent g.0) g.1, (tt, (tt, tt)))
  table_inside w n a (Write extent content) (Cut cut) b g mode awaiting = by_mode mode
    where
      by_mode : (mode : Mode) → PlanInside shape (Some (Write extent content, table (OnBlock (write_job mode (block_range shape mode extent cut)))))
      by_mode Writeback = (part_inside shape Writeback extent (record { 0 = extent.first / block_size shape }) cut (may_start shape extent g.0) g.1, (tt, (tt, tt)))
      by_mode Writethrough = (part_inside shape Writethrough extent (record { 0 = extent.first / block_size shape }) cut (may_start shape extent g.0) g.1, (tt, (tt, tt)))
      by_mode Passthrough = (part_inside shape Passthrough extent (record { 0 = extent.first / block_size shape }) cut (may_start shape extent g.0) g.1, (tt, (tt, tt)))
  table_inside w n a Flush chosen b g mode awaiting = (tt, (tt, (tt, tt)))
  table_inside w n a Suspend (Looks looks) b g mode awaiting = (tt, (tt, looks_inside shape looks (Rattle.wb_promise.specs.Happenings.most_for shape.geometry true)))
  table_inside w n a (Open opened_in second) chosen b g mode awaiting = (tt, (tt, (tt, (tt, (tt, (tt, (tt, tt)))))))
  table_inside w n a (Invalidate block) chosen b g mode awaiting = (tt, (tt, (tt, tt)))
  table_inside w n a (Migrate migration block) chosen b g mode awaiting =
      let kept = orders_of_actor w a (slice_get w.actors a) (λ x e order m. b.used.orders a x e order (in_orders x order m)) in
      let inside = migration_inside migration block (order_inside P A shape b.known.images w.phase w.commit w.devices.metadata (slice_get w.actors a) migration block chosen b.known.known kept g) in
      ((part_inside shape Writeback (whole_block (block_size shape) block) block (cut_of chosen) (whole_starts shape block inside.0) (cut_migrated w.phase (slice_get w.actors a) migration block chosen g), inside.1), (tt, (tt, tt)))
  table_inside w n a (Replace old new) chosen b g mode awaiting =
      let kept = orders_of_actor w a (slice_get w.actors a) (λ x e order m. b.used.orders a x e order (in_orders x order m)) in
      let inside = replacement_inside P A shape b.known.images w.phase w.commit w.devices.metadata (slice_get w.actors a) old new chosen b.known.known kept g in
      ((part_inside shape Writeback (whole_block (block_size shape) old) old (cut_of chosen) (whole_starts shape old inside.1.0) (cut_replacing w.phase (slice_get w.actors a) old new chosen g), tt), (tt, (tt, tt)))
  table_inside w n a job chosen b g mode awaiting = absurd g

  rest_inside : (actors : List Actor) (a : ℕ) (x : Actor) → slice_get (all_resting actors) a ≡ Some x → PlanInside shape x.task
  rest_inside actors a x e = subst (λ (v : Actor). PlanInside shape v.task) (sym (all_rest actors a x e)) tt

  clear : (w : State P A) (job : Job) → Inside shape w → Inside shape (cleared w job)
  clear w (Open mode second) i = record { cache = i.cache; origin = i.origin; seals = tt; tasks = rest_inside w.actors }
  clear w job i = i

  starts : (w : State P A) (n : Notes) (a : ℕ) (job : Job) (chosen : Chosen P A) → Base P A shape w n → Inside shape (cleared w job) → ((mode : Mode) (awaiting : List Order) → PlanInside shape (Some (begun_as job, table (task_job shape mode awaiting job (cut_of chosen) (looks_of chosen))))) → Inside shape (started shape w a job chosen)
  starts w n a job chosen b i p = by_actor (slice_get (cleared w job).actors a) refl
    where
      by_actor : (o : Option Actor) → slice_get (cleared w job).actors a ≡ o → Inside shape (with_actor (cleared w job) o (λ x. record (cleared w job) { phase = phase_given (cleared w job).phase job chosen; actors = slice_set (cleared w job).actors a (given shape (mode_of (cleared w job).phase) x job chosen) }))
      by_actor None e = i
      by_actor (Some x) e = record {
        cache = i.cache;
        origin = i.origin;
        seals = same_seals (cleared w job).phase job chosen i.seals;
        tasks = each_set (cleared w job).actors a x (given shape (mode_of (cleared w job).phase) x job chosen) (λ (z : Actor). PlanInside shape z.task) e (p (mode_of (cleared w job).phase) x.awaiting) i.tasks;
      }

  -- ---- every event

  pub inside_what : (w : State P A) (n : Notes) (event : Event) (what : What) (read : List Bytes) (chosen : Chosen P A) → Base P A shape w n → Inside shape w → MayBe shape w event what read chosen → Inside shape (after_what shape w event what chosen)
  inside_what w n (Start a job) Started read chosen b i h = starts w n a job chosen b (clear w job i) (table_inside w n a job chosen b h.2)
  inside_what w n (Step a) (Stepped next got) read chosen b i h = step_inside w n a next got read chosen (slice_get w.actors a) refl b i h
  inside_what w n (FaultStep a choice) (Stepped next got) read chosen b i h = subst (λ (g : Got). Inside shape (after_what shape w (FaultStep a choice) (Stepped next g) chosen)) (sym h.1) (fault_inside w n a choice next chosen (slice_get w.actors a) refl b i h.2)
  inside_what w n (Stop choice) Stopped read chosen b i h = record {
    cache = (Crashed-crashed_from Cache choice 0 w.devices.cache).size ∙ i.cache;
    origin = (Crashed-crashed_from Origin choice 0 w.devices.origin).size ∙ i.origin;
    seals = tt;
    tasks = rest_inside w.actors;
  }
  inside_what w n event what read chosen b i h = i

  always : (w : State P A) (n : Notes) (hs : List (Happening P A)) → Base P A shape w n → Inside shape w → IsRun shape w hs → Inside shape (after_all shape w hs)
  always w n [] b i r = i
  always w n (h ∷ hs) b i r = always (after_happening shape w h) (note_happening shape w n h) hs (base_after P A shape w n h b r.0) (inside_what w n h.record_is.event h.record_is.what h.record_is.read.items h.chosen b i r.0) r.1

  next_inside : (t : Option (Job × Plan)) → PlanInside shape t → TaskInside shape t
  next_inside None p = tt
  next_inside (Some task) p = want_inside shape task.1 p.1

  pub run_inside : (metadata : List History) (hs : List (Happening P A)) → IsFormatted shape.geometry metadata → length metadata ≡ shape.geometry.meta_sectors → IsRun shape (start shape metadata) hs → StaysInside shape (after_all shape (start shape metadata) hs)
  run_inside metadata hs f size run =
      let i = always (start shape metadata) (formatted shape) hs (base_start P A shape metadata f size) (record {
        cache = length-replicate (cache_sector_count shape) _;
        origin = length-replicate (sector_count shape) _;
        seals = tt;
        tasks = λ a x e. subst (λ (v : Actor). PlanInside shape v.task) (replicated shape.actors a resting x e) tt;
      }) run in
      record { cache = i.cache; origin = i.origin; tasks = λ a x e. next_inside x.task (i.tasks a x e) }
