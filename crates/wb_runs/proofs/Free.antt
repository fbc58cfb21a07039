-- After every run every event has a happening, and whoever has a task may do its next step.
use Rattle.std.proofs.lemmas.Bool.{cases_Bool}
use Rattle.wb_tasks.specs.declared.step.DeskStep.TheVariants.{Ask}
use Rattle.wb_tasks.specs.declared.step.Want.TheVariants.{Desk}
use Rattle.wb_tasks.specs.declared.step.Want.{Want}
use Rattle.wb_stage.specs.declared.share.Share.{Share}
use Rattle.std.proofs.Common.{Global, ◌≡◌, ◌∙◌, ◌⊎◌, inl, inr, ℕ, List, [], Option, Some, None, refl, sym, subst, arith, length, slice_get, ◌∷◌, zero, suc, ap, Contains}
use Rattle.wb_types.specs.declared.mode.Mode.{Mode}
use Rattle.wb_types.specs.declared.mode.Dev.{Dev}
use Rattle.wb_types.specs.declared.mode.Dev.TheVariants.{Metadata, Cache, Origin}
use Rattle.wb_types.specs.declared.refusal.Refusal.{Refusal}
use Rattle.wb_types.specs.declared.number.CBlock.{CBlock}
use Rattle.wb_types.specs.declared.extent.Extent.{Extent}
use Rattle.wb_types.specs.declared.refusal.Refusal.TheVariants.{Busy}
use Rattle.wb_types.proofs.Cutting.{pieces_cut}
use Rattle.wb_types.specs.Extents.{IsCutInto, pieces}
use Rattle.wb_disk.specs.Device.{History}
use Rattle.wb_disk.specs.Crash.{Choice}
use Rattle.wb_meta.specs.Formats.{IsFormatted}
use Rattle.wb_meta.specs.Reads.{sectors_read}
use Rattle.wb_meta.specs.declared.read_steps.ReadSteps.{ReadSteps}
use Rattle.wb_meta.specs.declared.read_steps.ReadSteps.TheVariants.{Begun, FirstSlotRead, RootFound, Done as AllRead}
use Rattle.wb_policy.specs.declared.order.Order.{Order}
use Rattle.wb_policy.specs.declared.order.Order.TheVariants.{Replace as ReplaceOrder}
use Rattle.wb_desk.specs.Desks.{DeskState}
use Rattle.wb_tasks.specs.Plan.{Plan, want}
use Rattle.wb_tasks.specs.Ready.{HoldsBlocks, IsOwnStep}
use Rattle.wb_tasks.specs.Tables.{BlockJob, Reading, Invalidating, Migrating, OnBlock, whole_block}
use Rattle.wb_tasks.specs.declared.step.Got.TheVariants.{Fault}
use Rattle.wb_devices.specs.Moving.{device_in}
use Rattle.wb_promise.specs.declared.job.Job.{Job}
use Rattle.wb_promise.specs.declared.job.Job.TheVariants.{Read, Write, Flush, Open, Migrate, Replace, Suspend, Invalidate}
use Rattle.wb_promise.specs.declared.event.Event.{Event}
use Rattle.wb_promise.specs.declared.event.Event.TheVariants.{Start, Step, FaultStep, Stop}
use Rattle.wb_promise.specs.declared.event.What.{What}
use Rattle.wb_promise.specs.declared.event.What.TheVariants.{Skipped, Refused, Started, Stepped, Stopped}
use Rattle.wb_promise.specs.States.{Shape, State, Actor, Target, Phase, Stands, Gone, Opens, OfTarget, mode_of, block_size, start}
use Rattle.wb_promise.specs.Happenings.{Chosen, Plain, Cut, Orders, Happening, OfSome, OnTask, MayFailAt, DoesNotApply, Gives, Falters, KeepsMigration, KeepsReplacement, MayOrder, MigrationStarts, job_refusal, extent_refusal, block_range, write_job, orders_in, order_for, StartsAs, Looks, AreMapped, NoTaskRuns, Awaits, WaitsForCommit}
use Rattle.wb_promise.specs.Effects.{after_all, IsRun}
use Rattle.wb_runs.specs.Progress.{GivesSomething}
use Rattle.wb_runs.specs.Inside.{StepInside, TaskInside, StaysInside, size_on}
use Rattle.wb_runs.specs.Progress.{HasHappening, IsFree}
use Rattle.wb_runs.proofs.Metadata.{AtDesk, AtOpening, MetadataKept}
use Rattle.wb_runs.proofs.Claims.{JobClaim, TaskClaim, Noted, noted_of}
use Rattle.wb_runs.proofs.Linking.{TaskHere}
use Rattle.wb_runs.proofs.Opening.{IsOpeningJob, IsServed, InPhase}
use Rattle.wb_runs.proofs.InsideRuns.{run_inside}
use Rattle.wb_runs.proofs.Making.{desk_begins}
use Rattle.wb_runs.proofs.Applying.{may_stop, may_fail_at, out_of_place, may_order, may_replace, keeps_migration, keeps_replacement}
use Rattle.wb_runs.proofs.Spelling.{Decided}
use Rattle.wb_runs.proofs.Points.{FlushJob, FlushTask, OpenJob, OpenTask, Going, Flushes, Suspends}
use Rattle.wb_runs.proofs.Giving.{CanGive, CanFalter, read_gives, write_gives, invalidation_gives, migration_gives, block_falters, flush_gives, flush_falters, open_gives, open_falters, is_covered}
use Rattle.wb_runs.proofs.Progressing.{Kept, run_kept, own_step}
use Rattle.wb_types.specs.declared.entry.Entry.{Entry}
use Rattle.wb_types.specs.declared.number.OBlock.{OBlock}
use Rattle.wb_policy.specs.Law.{IsMappedAt, origins}
use Rattle.wb_runs.proofs.Lists.{first_or}
use Rattle.wb_runs.proofs.Plans.{task_suits}
use Rattle.wb_types.proofs.Lists.{Contains-first, Contains-behind}

-- ---- who has a task

-- an actor has this task
pub record Tasked {P A : Type 0} (w : State P A) (a : ℕ) : Type 0 where
  pub actor : Actor
  pub job : Job
  pub plan : Plan
  pub there : slice_get w.actors a ≡ Some actor
  pub task : actor.task ≡ Some (job, plan)

abbrev IsAt : Option Actor → (Actor → Job → Plan → Type 0) → Type 0
IsAt o on = OfSome o (λ x. OfSome x.task (λ doing. on x doing.0 doing.1))

no_task : (x : Actor) (task : Option (Job × Plan)) (on : Actor → Job → Plan → Type 0) → task ≡ None → OfSome task (λ doing. on x doing.0 doing.1) → ⊥
no_task x None on e h = h
no_task x (Some t) on e h = absurd (cc)

module _ (P A : Type 0) (w : State P A) (a : ℕ) where
  tasked : Tasked w a ⊎ ((on : Actor → Job → Plan → Type 0) → ¬ OnTask w a on)
  tasked = by_actor (slice_get w.actors a) refl
    where
      by_task : (x : Actor) → slice_get w.actors a ≡ Some x → (task : Option (Job × Plan)) → x.task ≡ task → Tasked w a ⊎ ((on : Actor → Job → Plan → Type 0) → ¬ IsAt (Some x) on)
      by_task x e None xt = inr (λ on. no_task x x.task on xt)
      by_task x e (Some t) xt = inl (record { actor = x; job = t.0; plan = t.1; there = e; task = xt })

      by_actor : (o : Option Actor) → slice_get w.actors a ≡ o → Tasked w a ⊎ ((on : Actor → Job → Plan → Type 0) → ¬ IsAt o on)
      by_actor None e = inr (λ on h. h)
      by_actor (Some x) e = by_task x e x.task refl

  is_at : (k : Tasked w a) (on : Actor → Job → Plan → Type 0) → on k.actor k.job k.plan → OnTask w a on
  is_at k on h = subst (λ (o : Option Actor). IsAt o on) (sym k.there) (subst (λ (t : Option (Job × Plan)). OfSome t (λ doing. on k.actor doing.0 doing.1)) (sym k.task) h)

  was_at : (k : Tasked w a) (on : Actor → Job → Plan → Type 0) → OnTask w a on → on k.actor k.job k.plan
  was_at k on h = subst (λ (t : Option (Job × Plan)). OfSome t (λ doing. on k.actor doing.0 doing.1)) k.task (subst (λ (o : Option Actor). IsAt o on) k.there h)

-- ---- who is at what, and what is mapped

abbrev SomeTask : (Job → Plan → Type 0) → List Actor → Type 0
SomeTask Holds actors = (a : ℕ) × OfSome (slice_get actors a) (λ x. OfSome x.task (λ doing. Holds doing.0 doing.1))

-- one more actor before these
first_or_later : (Holds : Job → Plan → Type 0) → ((job : Job) (plan : Plan) → Decided (Holds job plan)) → (x : Actor) (xs : List Actor) → Decided (SomeTask Holds xs) → Decided (SomeTask Holds (x ∷ xs))
first_or_later Holds holds x xs later = by_task x.task refl
  where
    behind : (¬ OfSome x.task (λ doing. Holds doing.0 doing.1)) → Decided (SomeTask Holds (x ∷ xs))
    behind none = elim later [
      | inl s ↦ inl (suc s.0, s.1)
      | inr n ↦ inr (λ s. by_index n s.0 s.1)
    ]
      where
        by_index : (¬ SomeTask Holds xs) → (a : ℕ) → OfSome (slice_get (x ∷ xs) a) (λ y. OfSome y.task (λ doing. Holds doing.0 doing.1)) → ⊥
        by_index n zero h = none h
        by_index n (suc a) h = n (a, h)

    by_task : (t : Option (Job × Plan)) → x.task ≡ t → Decided (SomeTask Holds (x ∷ xs))
    by_task None e = behind (λ h. subst (λ (t : Option (Job × Plan)). OfSome t (λ doing. Holds doing.0 doing.1)) e h)
    by_task (Some doing) e = elim (holds doing.0 doing.1) [
      | inl h ↦ inl (0, subst (λ (t : Option (Job × Plan)). OfSome t (λ doing. Holds doing.0 doing.1)) (sym e) h)
      | inr n ↦ behind (λ h. n (subst (λ (t : Option (Job × Plan)). OfSome t (λ doing. Holds doing.0 doing.1)) e h))
    ]

some_task : (Holds : Job → Plan → Type 0) → ((job : Job) (plan : Plan) → Decided (Holds job plan)) → (actors : List Actor) → Decided (SomeTask Holds actors)
some_task Holds holds [] = inr (λ s. s.1)
some_task Holds holds (x ∷ xs) = first_or_later Holds holds x xs (some_task Holds holds xs)

is_suspend : (job : Job) → Decided (job ≡ Suspend)
is_suspend Suspend = inl refl
is_suspend job = inr (λ e. absurd (cc))

abbrev mapped_in : List (Option Entry) → List OBlock
mapped_in [] = []
mapped_in (None ∷ es) = mapped_in es
mapped_in (Some e ∷ es) = e.origin ∷ mapped_in es

mapped_each : (es : List (Option Entry)) (b : OBlock) → Contains (mapped_in es) b → (c : ℕ) × IsMappedAt (origins es) b.0 c
mapped_each [] b h = absurd (omega (arith, h.1))
mapped_each (None ∷ es) b h = let r = mapped_each es b h in (suc r.0, r.1)
mapped_each (Some e ∷ es) b h = first_or e.origin b (mapped_in es) ((c : ℕ) × IsMappedAt (origins (Some e ∷ es)) b.0 c) h (λ s. (0, ap (λ (x : OBlock). Some (Some x.0)) (sym s))) (λ l. let r = mapped_each es b l in (suc r.0, r.1))

mapped_all : (es : List (Option Entry)) (b : OBlock) (c : ℕ) → IsMappedAt (origins es) b.0 c → Contains (mapped_in es) b
mapped_all (None ∷ es) b (suc c) m = mapped_all es b c m
mapped_all (Some e ∷ es) b zero m = let s : e.origin.0 ≡ b.0 = cc in subst (λ (x : OBlock). Contains (e.origin ∷ mapped_in es) x) (ap (λ (n : ℕ). record { 0 = n }) s) (Contains-first e.origin (mapped_in es))
mapped_all (Some e ∷ es) b (suc c) m = Contains-behind e.origin (mapped_in es) b (mapped_all es b c m)
mapped_all es b c m = absurd (cc)

-- whether a step has to wait
awaits : {P : Type 0} (desk : DeskState P) (share : Share) (next : Want) → Decided (Awaits desk share next)
awaits desk share (Desk (Ask most)) = elim (is_covered desk share) [
  | inl covered ↦ inr (λ m. m.uncovered covered)
  | inr uncovered ↦ elim (cases_Bool desk.broken) [
    | inl broken ↦ inr (λ m. absurd (let whole = m.whole in cc))
    | inr whole ↦ elim (cases_Bool desk.space.committing) [
      | inl runs ↦ inl (record { whole = whole; runs = runs; uncovered = uncovered })
      | inr idle ↦ inr (λ m. absurd (let runs = m.runs in cc))
    ]
  ]
]
awaits desk share next = inr (λ m. m)

module _ (P A : Type 0) (shape : Shape) (policy : P) (first : ReadSteps A) (begins : sectors_read first ≡ 0) where
  -- ---- what is left of a task can go on

  module _ (w : State P A) (kept : Kept P A shape w) (stays : StaysInside shape w) (a : ℕ) (k : Tasked w a) where
    sizes : (d : Dev) → HoldsBlocks d → length (device_in d w.devices) ≡ size_on shape d
    sizes Metadata h = absurd h
    sizes Cache h = stays.cache
    sizes Origin h = stays.origin

    -- it is at one of its own steps, on sectors that are there
    own : (job : BlockJob) → k.plan.job ≡ OnBlock job → IsOwnStep (OnBlock job) (want k.plan)
    own job j = own_step P A shape k.actor.card k.plan job j (task_suits shape.geometry.origin_blocks k.actor k.task (kept.base.used.suited a k.actor k.there))

    inside : StepInside shape (want k.plan)
    inside = subst (λ (t : Option (Job × Plan)). TaskInside shape t) k.task (stays.tasks a k.actor k.there)

    claim : Noted shape (mode_of w.phase) k.job k.plan (slice_get kept.notes.doings a)
    claim = noted_of shape (mode_of w.phase) k.job k.plan (slice_get kept.notes.doings a) (subst (λ (t : Option (Job × Plan)). TaskClaim shape (mode_of w.phase) t (slice_get kept.notes.doings a)) k.task (kept.base.linked.claims a k.actor k.there))

    here : InPhase w.phase k.job
    here = subst (λ (t : Option (Job × Plan)). TaskHere w.phase t) k.task (kept.base.linked.here a k.actor k.there)

    -- that phase, with what is known of it
    abbrev At : Phase P A → State P A
    At phase = record { devices = w.devices; commit = w.commit; phase = phase; actors = w.actors }

    by_phase : (Can : Phase P A → Job → Plan → Type 0) →
        ((t : Target P) → AtDesk shape.geometry kept.base.known.images t.desk w.commit w.devices.metadata → (leader : ℕ) → IsServed k.job → FlushJob w.commit (a ≡ leader) k.job k.plan → Can (Stands t) k.job k.plan) →
        ((mode : Mode) (reading : Option (ReadSteps A)) → AtOpening shape.geometry kept.base.known.images reading w.commit w.devices.metadata → IsOpeningJob mode k.job → OpenJob reading w.commit k.job k.plan → Can (Opens mode reading) k.job k.plan) →
        Can w.phase k.job k.plan
    by_phase Can stands opens = cases w.phase kept.base.known.known kept.goes here
      where
        cases : (phase : Phase P A) → MetadataKept shape.geometry kept.base.known.images phase w.commit w.devices.metadata → Going phase w.commit w.actors → InPhase phase k.job → Can phase k.job k.plan
        cases (Stands t) known goes h = stands t known goes.0 h (subst (λ (q : Option (Job × Plan)). FlushTask w.commit (a ≡ goes.0) q) k.task (goes.1 a k.actor k.there))
        cases Gone known goes h = absurd h
        cases (Opens mode reading) known goes h = opens mode reading known h (subst (λ (q : Option (Job × Plan)). OpenTask reading w.commit q) k.task (goes a k.actor k.there))

    -- where its actor has not to wait
    abbrev GoesOn : Phase P A → Plan → Type 0
    GoesOn phase plan = ¬ OfTarget phase (λ t. Awaits t.desk k.actor.share (want plan))

    steps_on : GoesOn w.phase k.plan → CanGive shape w k.actor k.job (want k.plan)
    steps_on = by_phase (λ phase job plan. GoesOn phase plan → CanGive {P = P} {A = A} shape (At phase) k.actor job (want plan)) (λ t known leader s f goes_on. stands t known leader k.job s f claim.claim goes_on) (λ mode reading known o f goes_on. opens mode reading known k.job o f)
      where
        stands : (t : Target P) → AtDesk shape.geometry kept.base.known.images t.desk w.commit w.devices.metadata → (leader : ℕ) → (job : Job) → IsServed job → FlushJob w.commit (a ≡ leader) job k.plan → JobClaim shape (mode_of w.phase) job k.plan claim.doing → GoesOn (Stands t) k.plan → CanGive {P = P} {A = A} shape (At (Stands t)) k.actor job (want k.plan)
        stands t known leader (Read extent) s f c goes_on = read_gives P A shape w.devices w.commit w.actors k.actor t known.is.kept sizes extent (block_range shape (mode_of w.phase) extent c.cut) (want k.plan) (own (Reading (block_range shape (mode_of w.phase) extent c.cut)) c.is_job) inside
        stands t known leader (Write extent content) s f c goes_on = write_gives P A shape w.devices w.commit w.actors k.actor t known.is.kept sizes known.is.sound (mode_of w.phase) extent content (block_range shape (mode_of w.phase) extent c.cut) (want k.plan) (own (write_job (mode_of w.phase) (block_range shape (mode_of w.phase) extent c.cut)) c.is_job) inside
        stands t known leader (Invalidate block) s f c goes_on = invalidation_gives P A shape w.devices w.commit w.actors k.actor t known.is.kept sizes known.is.sound block f.0 (want k.plan) (own (Invalidating f.0) f.1)
        stands t known leader (Migrate migration block) s f c goes_on = migration_gives P A shape w.devices w.commit w.actors k.actor t known.is.kept sizes known.is.sound migration block f.0 (want k.plan) (own (Migrating migration f.0) f.1) inside
        stands t known leader Flush s f c goes_on = subst (λ (p : Plan). CanGive {P = P} {A = A} shape (At (Stands t)) k.actor Flush (want p)) (sym f.is)
            (flush_gives P A shape w.devices w.commit w.actors k.actor t kept.base.known.images known f.answer (Flushes f.blocks f.most) f.point f.of f.at (subst (λ (p : Plan). ¬ Awaits t.desk k.actor.share (want p)) f.is goes_on))
        stands t known leader Suspend s f c goes_on = subst (λ (p : Plan). CanGive {P = P} {A = A} shape (At (Stands t)) k.actor Suspend (want p)) (sym f.is)
            (flush_gives P A shape w.devices w.commit w.actors k.actor t kept.base.known.images known f.answer (Suspends f.blocks f.most) f.point f.of f.at (subst (λ (p : Plan). ¬ Awaits t.desk k.actor.share (want p)) f.is goes_on))
        stands t known leader (Open mode second) s f c goes_on = absurd s
        stands t known leader (Replace old new) s f c goes_on = absurd f

        opens : (mode : Mode) (reading : Option (ReadSteps A)) → AtOpening shape.geometry kept.base.known.images reading w.commit w.devices.metadata → (job : Job) → IsOpeningJob mode job → OpenJob reading w.commit job k.plan → CanGive {P = P} {A = A} shape (At (Opens mode reading)) k.actor job (want k.plan)
        opens mode reading known (Open m' second) o f = subst (λ (p : Plan). CanGive {P = P} {A = A} shape (At (Opens mode reading)) k.actor (Open m' second) (want p)) (sym f.is)
            (open_gives P A shape w.devices w.commit w.actors k.actor mode m' second reading kept.base.known.images known f.sectors policy first begins f.point f.at)
        opens mode reading known job o f = absurd o

    fails_on : (choice : Choice) → MayFailAt w.devices choice (want k.plan) → CanFalter w choice (want k.plan)
    fails_on choice m = by_phase (λ phase job plan. CanFalter {P = P} {A = A} (At phase) choice (want plan)) (λ t known leader s f. stands t known leader k.job s f claim.claim) (λ mode reading known o f. opens mode reading known k.job o f)
      where
        stands : (t : Target P) → AtDesk shape.geometry kept.base.known.images t.desk w.commit w.devices.metadata → (leader : ℕ) → (job : Job) → IsServed job → FlushJob w.commit (a ≡ leader) job k.plan → JobClaim shape (mode_of w.phase) job k.plan claim.doing → CanFalter {P = P} {A = A} (At (Stands t)) choice (want k.plan)
        stands t known leader (Read extent) s f c = block_falters P A shape w.devices w.commit w.actors k.actor t (Reading (block_range shape (mode_of w.phase) extent c.cut)) choice (want k.plan) (own (Reading (block_range shape (mode_of w.phase) extent c.cut)) c.is_job) m
        stands t known leader (Write extent content) s f c = block_falters P A shape w.devices w.commit w.actors k.actor t (write_job (mode_of w.phase) (block_range shape (mode_of w.phase) extent c.cut)) choice (want k.plan) (own (write_job (mode_of w.phase) (block_range shape (mode_of w.phase) extent c.cut)) c.is_job) m
        stands t known leader (Invalidate block) s f c = block_falters P A shape w.devices w.commit w.actors k.actor t (Invalidating f.0) choice (want k.plan) (own (Invalidating f.0) f.1) m
        stands t known leader (Migrate migration block) s f c = block_falters P A shape w.devices w.commit w.actors k.actor t (Migrating migration f.0) choice (want k.plan) (own (Migrating migration f.0) f.1) m
        stands t known leader Flush s f c = subst (λ (p : Plan). CanFalter {P = P} {A = A} (At (Stands t)) choice (want p)) (sym f.is)
            (flush_falters P A shape w.devices w.commit w.actors k.actor t kept.base.known.images known f.answer (Flushes f.blocks f.most) choice f.point f.at (subst (λ (p : Plan). MayFailAt w.devices choice (want p)) f.is m))
        stands t known leader Suspend s f c = subst (λ (p : Plan). CanFalter {P = P} {A = A} (At (Stands t)) choice (want p)) (sym f.is)
            (flush_falters P A shape w.devices w.commit w.actors k.actor t kept.base.known.images known f.answer (Suspends f.blocks f.most) choice f.point f.at (subst (λ (p : Plan). MayFailAt w.devices choice (want p)) f.is m))
        stands t known leader (Open mode second) s f c = absurd s
        stands t known leader (Replace old new) s f c = absurd f

        opens : (mode : Mode) (reading : Option (ReadSteps A)) → AtOpening shape.geometry kept.base.known.images reading w.commit w.devices.metadata → (job : Job) → IsOpeningJob mode job → OpenJob reading w.commit job k.plan → CanFalter {P = P} {A = A} (At (Opens mode reading)) choice (want k.plan)
        opens mode reading known (Open m' second) o f = subst (λ (p : Plan). CanFalter {P = P} {A = A} (At (Opens mode reading)) choice (want p)) (sym f.is)
            (open_falters P A shape w.devices w.commit w.actors k.actor mode m' second reading kept.base.known.images known f.sectors policy first begins choice f.point f.at (subst (λ (p : Plan). MayFailAt w.devices choice (want p)) f.is m))
        opens mode reading known job o f = absurd o

  -- ---- every event

  -- a reading that has read nothing names the heap
  heap_of : (reading : ReadSteps A) → sectors_read reading ≡ 0 → Global
  heap_of (Begun alloc global) e = global
  heap_of (FirstSlotRead alloc global found) e = global
  heap_of (RootFound global root loader nodes) e = global
  heap_of (AllRead state) e = absurd (omega (arith, e))

  -- whether it has to wait
  waits : (w : State P A) (a : ℕ) (k : Tasked w a) → WaitsForCommit w a ⊎ ((¬ WaitsForCommit w a) × (¬ OfTarget w.phase (λ t. Awaits t.desk k.actor.share (want k.plan))))
  waits w a k = elim (by_phase w.phase) [
    | inl h ↦ inl (is_at P A w a k (λ x job s. OfTarget w.phase (λ t. Awaits t.desk x.share (want s))) h)
    | inr n ↦ inr ((λ h. n (was_at P A w a k (λ x job s. OfTarget w.phase (λ t. Awaits t.desk x.share (want s))) h)), n)
  ]
    where
      by_phase : (phase : Phase P A) → Decided (OfTarget phase (λ t. Awaits t.desk k.actor.share (want k.plan)))
      by_phase (Stands t) = awaits t.desk k.actor.share (want k.plan)
      by_phase Gone = inr (λ h. h)
      by_phase (Opens mode reading) = inr (λ h. h)

  steps : (w : State P A) → Kept P A shape w → StaysInside shape w → (a : ℕ) → (k : Tasked w a) → (¬ OfTarget w.phase (λ t. Awaits t.desk k.actor.share (want k.plan))) → GivesSomething shape w a
  steps w kept stays a k goes_on = let g = steps_on w kept stays a k goes_on in record {
    next = want k.plan;
    got = g.got;
    read = g.read;
    chosen = g.chosen;
    may = is_at P A w a k (λ x job s. (want k.plan ≡ want s) × Gives shape w x job (want k.plan) g.got g.read g.chosen) (refl, g.gives);
  }

  skipped : (w : State P A) (event : Event) → DoesNotApply w event → HasHappening shape w event
  skipped w event d = record { what = Skipped; read = []; chosen = Plain; may = ((refl, refl), d) }

  -- A job on a whole block starts or is refused, where it is decided whether its actor keeps an order for it, and whether one may be given.
  block_starts : (w : State P A) (a : ℕ) (job : Job) → (¬ DoesNotApply w (Start a job)) → (¬ ¬ OfTarget w.phase (λ t. Unit {0})) → (whole : Extent) (Keeps : DeskState P → Type 0) → ((desk : DeskState P) → Decided (Keeps desk)) →
      (order : CBlock → Order) → ((desk : DeskState P) → Decided (MayOrder desk order)) → ((what : What) (chosen : Chosen P A) → MigrationStarts whole w.phase Keeps order what chosen → StartsAs shape w a job what chosen) →
      HasHappening shape w (Start a job)
  block_starts w a job applies place whole Keeps keeps order may gives = by_phase w.phase refl
    where
      Comes : What → Chosen P A → Phase P A → Type 0
      Comes what chosen phase = MigrationStarts whole phase Keeps order what chosen

      cut : List Extent
      cut = pieces 1 whole

      cut_into : IsCutInto whole cut
      cut_into = pieces_cut 1 whole (omega arith)

      by_phase : (phase : Phase P A) → w.phase ≡ phase → HasHappening shape w (Start a job)
      by_phase (Stands t) e = elim (keeps t.desk) [
        | inl kept ↦ record { what = Started; read = []; chosen = Cut cut; may = (refl, applies, gives Started (Cut cut) (subst (Comes Started (Cut cut)) (sym e) (cut_into, kept))) }
        | inr none ↦ elim (may t.desk) [
          | inl m ↦ record { what = Started; read = []; chosen = Orders cut m.0; may = (refl, applies, gives Started (Orders cut m.0) (subst (Comes Started (Orders cut m.0)) (sym e) (cut_into, m.1))) }
          | inr never ↦ record { what = Refused Busy; read = []; chosen = Plain; may = (refl, applies, gives (Refused Busy) Plain (subst (Comes (Refused Busy) Plain) (sym e) (none, never))) }
        ]
      ]
      by_phase phase e = absurd (place (λ o. subst (λ (p : Phase P A). OfTarget p (λ t. Unit {0})) e o))

  starts : (w : State P A) (a : ℕ) (job : Job) → (¬ DoesNotApply w (Start a job)) → HasHappening shape w (Start a job)
  starts w a (Read extent) applies = by_refusal (extent_refusal shape extent) refl
    where
      by_refusal : (o : Option Refusal) → extent_refusal shape extent ≡ o → HasHappening shape w (Start a (Read extent))
      by_refusal (Some r) e = record { what = Refused r; read = []; chosen = Plain; may = (refl, applies, e) }
      by_refusal None e = record { what = Started; read = []; chosen = Cut (pieces 1 extent); may = (refl, applies, (e, pieces_cut 1 extent (omega arith))) }
  starts w a (Write extent content) applies = by_refusal (extent_refusal shape extent) refl
    where
      by_refusal : (o : Option Refusal) → extent_refusal shape extent ≡ o → HasHappening shape w (Start a (Write extent content))
      by_refusal (Some r) e = record { what = Refused r; read = []; chosen = Plain; may = (refl, applies, e) }
      by_refusal None e = record { what = Started; read = []; chosen = Cut (pieces 1 extent); may = (refl, applies, (e, pieces_cut 1 extent (omega arith))) }
  starts w a Flush applies = record { what = Started; read = []; chosen = Plain; may = (refl, applies, tt) }
  starts w a Suspend applies = elim (some_task (λ job plan. Unit {0}) (λ job plan. inl tt) w.actors) [
    | inl s ↦ record { what = Refused Busy; read = []; chosen = Plain; may = (refl, applies, λ idle. idle s.0 s.1) }
    | inr none ↦ by_phase (λ b h. none (b, h)) w.phase refl
  ]
    where
      by_phase : NoTaskRuns w → (phase : Phase P A) → w.phase ≡ phase → HasHappening shape w (Start a Suspend)
      by_phase idle (Stands t) e = record { what = Started; read = []; chosen = Looks (mapped_in t.desk.tree.entries); may = (refl, applies, (idle, subst (λ (p : Phase P A). OfTarget p (λ u. AreMapped u.desk (mapped_in t.desk.tree.entries))) (sym e) (record { each = mapped_each t.desk.tree.entries; all = mapped_all t.desk.tree.entries }))) }
      by_phase idle phase e = absurd (applies (inr (inr (inr (λ o. subst (λ (p : Phase P A). OfTarget p (λ t. Unit {0})) e o)))))
  starts w a (Open mode second) applies = by_refusal (job_refusal shape (Open mode second)) refl
    where
      by_refusal : (o : Option Refusal) → job_refusal shape (Open mode second) ≡ o → HasHappening shape w (Start a (Open mode second))
      by_refusal (Some r) e = record { what = Refused r; read = []; chosen = Plain; may = (refl, applies, e) }
      by_refusal None e = record { what = Started; read = []; chosen = Plain; may = (refl, applies, e) }
  starts w a (Invalidate block) applies = by_refusal (job_refusal shape (Invalidate block)) refl
    where
      by_refusal : (o : Option Refusal) → job_refusal shape (Invalidate block) ≡ o → HasHappening shape w (Start a (Invalidate block))
      by_refusal (Some r) e = record { what = Refused r; read = []; chosen = Plain; may = (refl, applies, e) }
      by_refusal None e = record { what = Started; read = []; chosen = Plain; may = (refl, applies, e) }
  starts w a (Migrate migration block) applies = let kept = orders_in (slice_get w.actors a) in
      block_starts w a (Migrate migration block) applies (λ p. applies (inr (inr (inr p)))) (whole_block (block_size shape) block) (λ desk. KeepsMigration desk kept migration block) (λ desk. keeps_migration desk kept migration block)
      (λ cache. order_for migration block) (λ desk. may_order desk migration block) (λ what chosen s. s)
  starts w a (Replace old new) applies = let kept = orders_in (slice_get w.actors a) in
      block_starts w a (Replace old new) applies (λ p. applies (inr (inr (inr p)))) (whole_block (block_size shape) old) (λ desk. KeepsReplacement desk kept old new) (λ desk. keeps_replacement desk kept old new)
      (λ cache. ReplaceOrder old new cache) (λ desk. may_replace desk old new) (λ what chosen s. s)

  start_happens : (w : State P A) (a : ℕ) (job : Job) → HasHappening shape w (Start a job)
  start_happens w a job = by_actor (slice_get w.actors a) refl
    where
      by_actor : (o : Option Actor) → slice_get w.actors a ≡ o → HasHappening shape w (Start a job)
      by_actor None e = skipped w (Start a job) (inl e)
      by_actor (Some x) e = elim (tasked P A w a) [
        | inl k ↦ skipped w (Start a job) (inr (inl (is_at P A w a k (λ x job s. Unit {0}) tt)))
        | inr none ↦ elim (some_task (λ job plan. job ≡ Suspend) (λ job plan. is_suspend job) w.actors) [
          | inl s ↦ skipped w (Start a job) (inr (inr (inl s)))
          | inr calm ↦ elim (out_of_place w.phase job) [
            | inl out ↦ skipped w (Start a job) (inr (inr (inr out)))
            | inr place ↦ starts w a job (λ d. elim d [
              | inl gone ↦ absurd (let bad : Some x ≡ None = sym e ∙ gone in cc)
              | inr more ↦ elim more [ inl task ↦ none (λ x job s. Unit {0}) task | inr rest ↦ elim rest [ inl suspends ↦ calm suspends | inr out ↦ place out ] ]
            ])
          ]
        ]
      ]

  step_happens : (w : State P A) → Kept P A shape w → StaysInside shape w → (a : ℕ) → HasHappening shape w (Step a)
  step_happens w kept stays a = elim (tasked P A w a) [
    | inl k ↦ elim (waits w a k) [
      | inl waiting ↦ skipped w (Step a) (inr waiting)
      | inr goes_on ↦ let g = steps w kept stays a k goes_on.1 in record { what = Stepped g.next g.got; read = g.read; chosen = g.chosen; may = g.may }
    ]
    | inr none ↦ skipped w (Step a) (inl (none (λ x job s. Unit {0})))
  ]

  fault_happens : (w : State P A) → Kept P A shape w → StaysInside shape w → (a : ℕ) (choice : Choice) → HasHappening shape w (FaultStep a choice)
  fault_happens w kept stays a choice = elim (tasked P A w a) [
    | inl k ↦ elim (may_fail_at w.devices choice (want k.plan)) [
      | inl m ↦ let f = fails_on w kept stays a k choice m in record {
        what = Stepped (want k.plan) Fault;
        read = [];
        chosen = f.chosen;
        may = (refl, refl, is_at P A w a k (λ x job s. (want k.plan ≡ want s) × MayFailAt w.devices choice (want k.plan) × Falters w choice (want k.plan) f.chosen) (refl, m, f.falters));
      }
      | inr n ↦ skipped w (FaultStep a choice) (λ h. n (was_at P A w a k (λ x job s. MayFailAt w.devices choice (want s)) h))
    ]
    | inr none ↦ skipped w (FaultStep a choice) (none (λ x job s. MayFailAt w.devices choice (want s)))
  ]

  happens : (w : State P A) → Kept P A shape w → StaysInside shape w → (event : Event) → HasHappening shape w event
  happens w kept stays (Start a job) = start_happens w a job
  happens w kept stays (Step a) = step_happens w kept stays a
  happens w kept stays (FaultStep a choice) = fault_happens w kept stays a choice
  happens w kept stays (Stop choice) = elim (may_stop choice w.devices) [
    | inl m ↦ record { what = Stopped; read = []; chosen = Plain; may = ((refl, refl), m) }
    | inr n ↦ skipped w (Stop choice) n
  ]

  pub run_free : (metadata : List History) (hs : List (Happening P A)) → IsFormatted shape.geometry metadata → length metadata ≡ shape.geometry.meta_sectors → IsRun shape (start shape metadata) hs → IsFree shape (after_all shape (start shape metadata) hs)
  run_free metadata hs f size run =
      let w = after_all shape (start shape metadata) hs in
      let kept = run_kept P A shape metadata hs f size run in
      let stays = run_inside P A shape metadata hs f size run in
      record {
        events = happens w kept stays;
        steps = λ a h goes_on. elim (tasked P A w a) [
          | inl k ↦ elim (waits w a k) [ inl waiting ↦ absurd (goes_on waiting) | inr on ↦ steps w kept stays a k on.1 ]
          | inr none ↦ absurd (none (λ x job s. Unit {0}) h)
        ];
        commits = λ t most is once enough may. desk_begins (heap_of first begins) P A shape.geometry kept.base.known.images t.desk w.commit w.devices.metadata
            (subst (λ (phase : Phase P A). MetadataKept shape.geometry kept.base.known.images phase w.commit w.devices.metadata) is kept.base.known.known) once most enough may;
      }
