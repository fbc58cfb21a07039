-- Every run keeps where its flushes and openings stand.
use Rattle.std.proofs.Common.{◌≡◌, ◌≢◌, ◌∙◌, inl, inr, ℕ, List, [], ◌∷◌, Option, Some, None, refl, sym, ap, subst, arith, length, slice_get, slice_set, map, Bool, true, false}
use Rattle.std.proofs.lemmas.Bool.{cases_eq}
use Rattle.wb_types.specs.declared.mode.Mode.{Mode}
use Rattle.wb_disk.specs.Device.{Content as Bytes, History}
use Rattle.wb_disk.specs.Crash.{Choice}
use Rattle.wb_disk.specs.Failing.{lands}
use Rattle.wb_meta.specs.Formats.{IsFormatted}
use Rattle.wb_meta.specs.declared.read_steps.ReadSteps.{ReadSteps}
use Rattle.wb_words.specs.declared.card.Card.{Card}
use Rattle.wb_tasks.specs.Plan.{Plan, want, table, device_of}
use Rattle.wb_tasks.specs.Ready.{Suits, IsOwnStep}
use Rattle.wb_tasks.specs.Tables.{BlockJob, Reading, Writing, Displacing, Invalidating, Migrating, TaskJob, OnBlock}
use Rattle.wb_tasks.proofs.Readiness.{is_own_step, job_stays}
use Rattle.wb_tasks.specs.declared.step.Answer.TheVariants.{Done as Finished}
use Rattle.wb_tasks.specs.declared.step.DeskStep.TheVariants.{Map, Unmap, ReleaseOrder}
use Rattle.wb_tasks.specs.declared.step.DeviceStep.TheVariants.{Read as ReadExtent, Write as WriteExtent}
use Rattle.wb_tasks.specs.declared.step.Want.{Want}
use Rattle.wb_tasks.specs.declared.step.Want.TheVariants.{Cell, Device, Desk, End}
use Rattle.wb_tasks.specs.declared.step.Got.{Got}
use Rattle.wb_tasks.specs.declared.step.Got.TheVariants.{Fault}
use Rattle.wb_devices.specs.declared.devices.Devices.{Devices}
use Rattle.wb_devices.specs.declared.running.RunningCommit.{RunningCommit}
use Rattle.wb_promise.specs.declared.job.Job.{Job}
use Rattle.wb_promise.specs.declared.job.Job.TheVariants.{Read, Write, Flush, Open, Migrate, Replace, Suspend, Invalidate}
use Rattle.wb_promise.specs.declared.event.Event.{Event}
use Rattle.wb_promise.specs.declared.event.Event.TheVariants.{Start, Step, FaultStep, Stop}
use Rattle.wb_promise.specs.declared.event.What.{What}
use Rattle.wb_promise.specs.declared.event.What.TheVariants.{Started, Stepped, Stopped}
use Rattle.wb_runs.proofs.Given.{given_keeps}
use Rattle.wb_promise.specs.States.{Shape, State, Actor, Target, Phase, Stands, Gone, Opens, OfTarget, mode_of, resting, start}
use Rattle.wb_promise.specs.Happenings.{Chosen, Happening, OfSome, Gives, Falters, MayFailAt, DoesNotApply, MayBe, block_range, invalidated_range, migrated_range, blocks_left, task_job, begun_as, most_for, write_job}
use Rattle.wb_promise.specs.Effects.{device_done, device_failed, commit_then, reading_then, task_then, phase_then, phase_opened, phase_given, actor_then, stepped, with_actor, cleared, given, started, job_of, cut_of, after_what, after_happening, after_all, IsRun, looks_of}
use Rattle.wb_promise.specs.Clerk.{Notes, formatted}
use Rattle.wb_promise.specs.Headline.{note_happening}
use Rattle.wb_runs.specs.Holding.{AllSuited}
use Rattle.wb_contents.proofs.Lists.{set_other, set_there}
use Rattle.wb_runs.proofs.Lists.{rests, free}
use Rattle.wb_runs.proofs.Images.{Images}
use Rattle.wb_runs.proofs.Metadata.{AtDesk, MetadataKept}
use Rattle.wb_runs.proofs.Claims.{TaskClaim, Noted, noted_of}
use Rattle.wb_runs.proofs.Opening.{IsOpeningJob, IsServed}
use Rattle.wb_runs.proofs.Linking.{TaskHere, IsTask, Linked}
use Rattle.wb_runs.proofs.LinkedRuns.{Base, base_after, base_start}
use Rattle.wb_runs.proofs.Plans.{plan_of, task_suits}
use Rattle.wb_tasks.specs.Points.{AtFirst}
use Rattle.wb_runs.proofs.Points.{ToLook, FlushAt, FlushJob, FlushTask, OpenAt, OpenTask, Going, CommitJob, Flushes, Suspends, task_of, doing_of, commit_left, FlushPoint, IsOf, AtFlush, IsLeading}
use Rattle.wb_runs.proofs.Passing.{target_stands}
use Rattle.wb_runs.proofs.Going.{Moved, flush_moves, flush_fails, open_moves, open_fails}
use Rattle.wb_types.specs.declared.number.OBlock.{OBlock}
use Rattle.wb_tasks.specs.declared.step.Answer.{Answer}

-- ---- one actor of a list changed

lifted : (commit commit' : Option RunningCommit) (L L' : Type 0) (task : Option (Job × Plan)) → ((Makes : List OBlock → ℕ → CommitJob) (plan : Plan) → FlushAt Makes commit L plan → FlushAt Makes commit' L' plan) → FlushTask commit L task → FlushTask commit' L' task
lifted commit commit' L L' (Some (Flush, plan)) f k = f Flushes plan k
lifted commit commit' L L' (Some (Suspend, plan)) f k = f Suspends plan k
lifted commit commit' L L' (Some (Invalidate block, plan)) f k = k
lifted commit commit' L L' (Some (Migrate migration block, plan)) f k = k
lifted commit commit' L L' (Some (Replace old new, plan)) f k = absurd k
lifted commit commit' L L' task f k = tt

flushes_set : (actors : List Actor) (a : ℕ) (x y : Actor) (commit commit' : Option RunningCommit) (leader leader' : ℕ) → slice_get actors a ≡ Some x → ((b : ℕ) (z : Actor) → slice_get actors b ≡ Some z → FlushTask commit (b ≡ leader) z.task) →
    FlushTask commit' (a ≡ leader') y.task → ((Makes : List OBlock → ℕ → CommitJob) (b : ℕ) (plan : Plan) → b ≢ a → FlushAt Makes commit (b ≡ leader) plan → FlushAt Makes commit' (b ≡ leader') plan) →
    (b : ℕ) (z : Actor) → slice_get (slice_set actors a y) b ≡ Some z → FlushTask commit' (b ≡ leader') z.task
flushes_set actors a x y commit commit' leader leader' e each here others b z f = elim (cases_eq b a) [
  | inl s ↦ let there : Some y ≡ Some z = sym (set_there actors a x y e) ∙ ap (slice_get (slice_set actors a y)) (sym s) ∙ f in
      let same : y ≡ z = cc in
      subst (λ (k : ℕ). FlushTask commit' (k ≡ leader') z.task) (sym s) (subst (λ (v : Actor). FlushTask commit' (a ≡ leader') v.task) same here)
  | inr o ↦ lifted commit commit' (b ≡ leader) (b ≡ leader') z.task (λ Makes plan k. others Makes b plan o k) (each b z (sym (set_other actors a b y o) ∙ f))
]

opens_set : {A : Type 0} (actors : List Actor) (a : ℕ) (x y : Actor) (opener : ℕ) (reading : Option (ReadSteps A)) (commit : Option RunningCommit) → slice_get actors a ≡ Some x → ((b : ℕ) (z : Actor) → slice_get actors b ≡ Some z → IsTask z.task → b ≡ opener) → a ≡ opener →
    OpenTask reading commit y.task → (b : ℕ) (z : Actor) → slice_get (slice_set actors a y) b ≡ Some z → OpenTask reading commit z.task
opens_set {A} actors a x y opener reading commit e alone mine here b z f = elim (cases_eq b a) [
  | inl s ↦ let there : Some y ≡ Some z = sym (set_there actors a x y e) ∙ ap (slice_get (slice_set actors a y)) (sym s) ∙ f in
      let same : y ≡ z = cc in subst (λ (v : Actor). OpenTask reading commit v.task) same here
  | inr o ↦ none z.task (λ i. o (alone b z (sym (set_other actors a b y o) ∙ f) i ∙ sym mine))
]
  where
    none : (task : Option (Job × Plan)) → (IsTask task → ⊥) → OpenTask reading commit task
    none None i = tt
    none (Some task) i = absurd (i tt)

-- the others rest, and this one is done
all_idle : (actors : List Actor) (a : ℕ) (x y : Actor) (opener : ℕ) → slice_get actors a ≡ Some x → ((b : ℕ) (z : Actor) → slice_get actors b ≡ Some z → IsTask z.task → b ≡ opener) → a ≡ opener → y.task ≡ None →
    (b : ℕ) (z : Actor) → slice_get (slice_set actors a y) b ≡ Some z → z.task ≡ None
all_idle actors a x y opener e alone mine idle b z f = elim (cases_eq b a) [
  | inl s ↦ let there : Some y ≡ Some z = sym (set_there actors a x y e) ∙ ap (slice_get (slice_set actors a y)) (sym s) ∙ f in
      let same : y ≡ z = cc in ap (λ (v : Actor). v.task) (sym same) ∙ idle
  | inr o ↦ none z.task refl (λ i. o (alone b z (sym (set_other actors a b y o) ∙ f) i ∙ sym mine))
]
  where
    none : (task : Option (Job × Plan)) → z.task ≡ task → (IsTask task → ⊥) → z.task ≡ None
    none None e i = e
    none (Some task) e i = absurd (i tt)

module _ (P A : Type 0) (shape : Shape) where
  abbrev pub GoesOn : State P A → Type 0
  GoesOn w = Going w.phase w.commit w.actors

  idle : (phase : Phase P A) (commit : Option RunningCommit) (actors : List Actor) → ((b : ℕ) (z : Actor) → slice_get actors b ≡ Some z → z.task ≡ None) → Going phase commit actors
  idle (Stands t) commit actors f = (0, λ b z e. subst (λ (k : Option (Job × Plan)). FlushTask commit (b ≡ 0) k) (sym (f b z e)) tt)
  idle Gone commit actors f = tt
  idle (Opens mode reading) commit actors f = λ b z e. subst (λ (k : Option (Job × Plan)). OpenTask reading commit k) (sym (f b z e)) tt

  -- ---- where a target stands

  -- a step of a job of a block is none of the commit's
  same_commit : (t : Target P) (commit : Option RunningCommit) (job : BlockJob) (next : Want) (got : Got) (chosen : Chosen P A) → IsOwnStep (OnBlock job) next → commit_then {P = P} {A = A} (Stands t) commit next got chosen ≡ commit
  same_commit t commit job (Cell step) got chosen i = refl
  same_commit t commit job (End answer) got chosen i = refl
  same_commit t commit job (Device (ReadExtent d e)) got chosen i = refl
  same_commit t commit job (Device (WriteExtent d e)) got chosen i = refl
  same_commit t commit job (Desk (Map b c)) got chosen i = refl
  same_commit t commit job (Desk (Unmap b)) got chosen i = refl
  same_commit t commit job (Desk (ReleaseOrder b)) got chosen i = refl
  same_commit t commit (Reading part) next got chosen i = absurd i
  same_commit t commit (Writing part) next got chosen i = absurd i
  same_commit t commit (Displacing part) next got chosen i = absurd i
  same_commit t commit (Invalidating part) next got chosen i = absurd i
  same_commit t commit (Migrating m part) next got chosen i = absurd i

  -- a task of a block is at its own step
  pub own_step : (card : Card) (plan : Plan) (job : BlockJob) → plan.job ≡ OnBlock job → Suits shape.geometry.origin_blocks plan card → IsOwnStep (OnBlock job) (want plan)
  own_step card plan job j suits = subst (λ (q : TaskJob). IsOwnStep q (want plan)) j (is_own_step shape.geometry.origin_blocks plan card suits)

  module _ (t : Target P) (devices : Devices (List History)) (commit : Option RunningCommit) (actors : List Actor) (n : Notes) (images : Images) (known : AtDesk shape.geometry images t.desk commit devices.metadata) (l : Linked {P = P} {A = A} shape (Stands t) actors n)
      (suited : AllSuited shape.geometry.origin_blocks actors) (leader : ℕ) (each : (b : ℕ) (z : Actor) → slice_get actors b ≡ Some z → FlushTask commit (b ≡ leader) z.task) (a : ℕ) (x : Actor) (e : slice_get actors a ≡ Some x) where
    abbrev w : State P A
    w = record { devices = devices; commit = commit; phase = Stands t; actors = actors }

    abbrev Then : Want → Got → Chosen P A → Type 0
    Then next got chosen = Going {P = P} {A = A} (phase_then shape (Stands t) next got chosen) (commit_then {P = P} {A = A} (Stands t) commit next got chosen) (slice_set actors a (actor_then {P = P} {A = A} shape (Stands t) devices x next got))

    from_moved : (next : Want) (got : Got) (chosen : Chosen P A) (task : Option (Job × Plan)) → task_then x.task next got ≡ task → Moved commit (commit_then {P = P} {A = A} (Stands t) commit next got chosen) a leader task → Then next got chosen
    from_moved next got chosen task is m = (
      m.leader',
      flushes_set actors a x (actor_then {P = P} {A = A} shape (Stands t) devices x next got) commit _ leader m.leader' e each
          (subst (λ (k : Option (Job × Plan)). FlushTask (commit_then {P = P} {A = A} (Stands t) commit next got chosen) (a ≡ m.leader') k) (sym is) m.here) m.others,
    )

    -- a task that is no flush
    not_flush : (commit' : Option RunningCommit) (task : Option (Job × Plan)) → commit' ≡ commit → FlushTask commit (a ≡ leader) task → Moved commit commit' a leader task
    not_flush commit' task same here = subst (λ (c : Option RunningCommit). Moved commit c a leader task) (sym same) (record { leader' = leader; here = here; others = λ Makes b p o k. k })

    mine : (job : Job) (plan : Plan) → x.task ≡ Some (job, plan) → FlushJob commit (a ≡ leader) job plan
    mine job plan xt = subst (λ (k : Option (Job × Plan)). FlushTask commit (a ≡ leader) k) xt (each a x e)

    -- the job of a block that a task is on
    abbrev OnSome : Plan → Type 0
    OnSome plan = (part : BlockJob) × (plan.job ≡ OnBlock part)

    -- it runs no commit
    abbrev IsOther : Job → Type 0
    IsOther Flush = ⊥
    IsOther Suspend = ⊥
    IsOther job = Unit {0}

    -- what is left of it
    block_task : (job : Job) (plan : Plan) (next : Want) (got : Got) → OnSome plan → FlushJob commit (a ≡ leader) job plan → IsOther job → FlushTask commit (a ≡ leader) (task_then (Some (job, plan)) next got)
    block_task job plan (End answer) got o k f = tt
    block_task (Read extent) plan next got o k f = tt
    block_task (Write extent content) plan next got o k f = tt
    block_task (Open mode second) plan next got o k f = tt
    block_task (Invalidate block) plan next got o k f = (k.0, job_stays plan got ∙ k.1)
    block_task (Migrate migration block) plan next got o k f = (k.0, job_stays plan got ∙ k.1)
    block_task (Replace old new) plan next got o k f = absurd k
    block_task job plan next got o k f = absurd f

    -- whatever a step of a job of a block gave
    block_goes : (job : Job) (plan : Plan) (next : Want) (got : Got) (chosen : Chosen P A) → OnSome plan → IsOther job → x.task ≡ Some (job, plan) → next ≡ want plan → Then next got chosen
    block_goes job plan next got chosen o f xt h =
        let suits = task_suits shape.geometry.origin_blocks x xt (suited a x e) in
        let own = subst (λ (v : Want). IsOwnStep (OnBlock o.0) v) (sym h) (own_step x.card plan o.0 o.1 suits) in
        from_moved next got chosen _ (ap (λ k. task_then k next got) xt) (not_flush _ _ (same_commit t commit o.0 next got chosen own) (block_task job plan next got o (mine job plan xt) f))

    claim : (job : Job) (plan : Plan) → x.task ≡ Some (job, plan) → Noted shape t.desk.mode job plan (slice_get n.doings a)
    claim job plan xt = noted_of shape t.desk.mode job plan (slice_get n.doings a) (subst (λ (k : Option (Job × Plan)). TaskClaim shape t.desk.mode k (slice_get n.doings a)) xt (l.claims a x e))

    served : (job : Job) (plan : Plan) → x.task ≡ Some (job, plan) → IsServed job
    served job plan xt = subst (λ (k : Option (Job × Plan)). TaskHere {P = P} {A = A} (Stands t) k) xt (l.here a x e)

    module _ (job : CommitJob) (answer : Answer) (point : FlushPoint) (of : IsOf point job) (at : AtFlush point commit) (leads : IsLeading point → a ≡ leader) (plan : Plan) (is : plan ≡ plan_of (task_of job) (commit_left job point) answer) where
      abbrev F : Plan
      F = plan_of (task_of job) (commit_left job point) answer

      flush_done : (next : Want) (got : Got) (read : List Bytes) (chosen : Chosen P A) → next ≡ want plan → Gives shape w x (doing_of job) next got read chosen →
          Moved commit (commit_then {P = P} {A = A} (Stands t) commit next got chosen) a leader (task_then (Some (doing_of job, plan)) next got)
      flush_done next got read chosen h g =
          subst (λ (s : Plan). Moved commit (commit_then {P = P} {A = A} (Stands t) commit next got chosen) a leader (task_then (Some (doing_of job, s)) next got)) (sym is)
          (subst (λ (v : Want). Gives shape w x (doing_of job) v got read chosen → Moved commit (commit_then {P = P} {A = A} (Stands t) commit v got chosen) a leader (task_then (Some (doing_of job, F)) v got)) (sym (h ∙ ap want is))
          (λ g. flush_moves P A shape t commit devices.metadata images known a leader job answer w x refl refl got read chosen point of at leads g) g)

      flush_failed : (next : Want) (choice : Choice) (chosen : Chosen P A) → next ≡ want plan → Falters w choice next chosen →
          Moved commit (commit_then {P = P} {A = A} (Stands t) commit next Fault chosen) a leader (task_then (Some (doing_of job, plan)) next Fault)
      flush_failed next choice chosen h g =
          subst (λ (s : Plan). Moved commit (commit_then {P = P} {A = A} (Stands t) commit next Fault chosen) a leader (task_then (Some (doing_of job, s)) next Fault)) (sym is)
          (subst (λ (v : Want). Falters w choice v chosen → Moved commit (commit_then {P = P} {A = A} (Stands t) commit v Fault chosen) a leader (task_then (Some (doing_of job, F)) v Fault)) (sym (h ∙ ap want is))
          (λ g. flush_fails P A shape t commit devices.metadata images known a leader job answer w choice chosen point at leads g) g)

    stands_done : (job : Job) (plan : Plan) (next : Want) (got : Got) (read : List Bytes) (chosen : Chosen P A) → x.task ≡ Some (job, plan) → next ≡ want plan → Gives shape w x job next got read chosen → Then next got chosen
    stands_done (Read extent) plan next got read chosen xt h g = let c = (claim (Read extent) plan xt).claim in block_goes (Read extent) plan next got chosen (Reading (block_range shape t.desk.mode extent c.cut), c.is_job) tt xt h
    stands_done (Write extent content) plan next got read chosen xt h g = let c = (claim (Write extent content) plan xt).claim in block_goes (Write extent content) plan next got chosen (write_job t.desk.mode (block_range shape t.desk.mode extent c.cut), c.is_job) tt xt h
    stands_done (Invalidate block) plan next got read chosen xt h g = let m = mine (Invalidate block) plan xt in block_goes (Invalidate block) plan next got chosen (Invalidating m.0, m.1) tt xt h
    stands_done (Migrate migration block) plan next got read chosen xt h g = let m = mine (Migrate migration block) plan xt in block_goes (Migrate migration block) plan next got chosen (Migrating migration m.0, m.1) tt xt h
    stands_done Flush plan next got read chosen xt h g = from_moved next got chosen _ (ap (λ k. task_then k next got) xt) (let k = mine Flush plan xt in flush_done (Flushes k.blocks k.most) k.answer k.point k.of k.at k.leads plan k.is next got read chosen h g)
    stands_done Suspend plan next got read chosen xt h g = from_moved next got chosen _ (ap (λ k. task_then k next got) xt) (let k = mine Suspend plan xt in flush_done (Suspends k.blocks k.most) k.answer k.point k.of k.at k.leads plan k.is next got read chosen h g)
    stands_done (Open mode second) plan next got read chosen xt h g = absurd (served (Open mode second) plan xt)
    stands_done (Replace old new) plan next got read chosen xt h g = absurd (mine (Replace old new) plan xt)

    stands_failed : (job : Job) (plan : Plan) (next : Want) (choice : Choice) (chosen : Chosen P A) → x.task ≡ Some (job, plan) → next ≡ want plan → Falters w choice next chosen → Then next Fault chosen
    stands_failed (Read extent) plan next choice chosen xt h g = let c = (claim (Read extent) plan xt).claim in block_goes (Read extent) plan next Fault chosen (Reading (block_range shape t.desk.mode extent c.cut), c.is_job) tt xt h
    stands_failed (Write extent content) plan next choice chosen xt h g = let c = (claim (Write extent content) plan xt).claim in block_goes (Write extent content) plan next Fault chosen (write_job t.desk.mode (block_range shape t.desk.mode extent c.cut), c.is_job) tt xt h
    stands_failed (Invalidate block) plan next choice chosen xt h g = let m = mine (Invalidate block) plan xt in block_goes (Invalidate block) plan next Fault chosen (Invalidating m.0, m.1) tt xt h
    stands_failed (Migrate migration block) plan next choice chosen xt h g = let m = mine (Migrate migration block) plan xt in block_goes (Migrate migration block) plan next Fault chosen (Migrating migration m.0, m.1) tt xt h
    stands_failed Flush plan next choice chosen xt h g = from_moved next Fault chosen _ (ap (λ k. task_then k next Fault) xt) (let k = mine Flush plan xt in flush_failed (Flushes k.blocks k.most) k.answer k.point k.of k.at k.leads plan k.is next choice chosen h g)
    stands_failed Suspend plan next choice chosen xt h g = from_moved next Fault chosen _ (ap (λ k. task_then k next Fault) xt) (let k = mine Suspend plan xt in flush_failed (Suspends k.blocks k.most) k.answer k.point k.of k.at k.leads plan k.is next choice chosen h g)
    stands_failed (Open mode second) plan next choice chosen xt h g = absurd (served (Open mode second) plan xt)
    stands_failed (Replace old new) plan next choice chosen xt h g = absurd (mine (Replace old new) plan xt)

  -- ---- an opening

  module _ (mode : Mode) (reading : Option (ReadSteps A)) (devices : Devices (List History)) (commit : Option RunningCommit) (actors : List Actor) (n : Notes) (l : Linked {P = P} {A = A} shape (Opens mode reading) actors n)
      (each : (b : ℕ) (z : Actor) → slice_get actors b ≡ Some z → OpenTask reading commit z.task) (a : ℕ) (x : Actor) (e : slice_get actors a ≡ Some x) where
    abbrev v : State P A
    v = record { devices = devices; commit = commit; phase = Opens mode reading; actors = actors }

    opening_work : (job : Job) (plan : Plan) → x.task ≡ Some (job, plan) → IsOpeningJob mode job
    opening_work job plan xt = subst (λ (k : Option (Job × Plan)). TaskHere {P = P} {A = A} (Opens mode reading) k) xt (l.here a x e)

    opener : (job : Job) (plan : Plan) → x.task ≡ Some (job, plan) → a ≡ l.alone.0
    opener job plan xt = l.alone.1 a x e (subst (λ (k : Option (Job × Plan)). IsTask k) (sym xt) tt)

    task_left : (m' : Mode) (second : Bool) (plan : Plan) (next : Want) (got : Got) (chosen : Chosen P A) (k : OpenAt reading commit plan) → next ≡ want plan → (Goes : Want → Type 0) → Goes next →
        ((Goes (want (plan_of (Rattle.wb_tasks.specs.Tables.Opening k.sectors) (Rattle.wb_tasks.specs.Points.open_left k.sectors k.point) (Rattle.wb_tasks.specs.Points.open_answer k.point)))) →
        OpenTask (reading_then reading (want (plan_of (Rattle.wb_tasks.specs.Tables.Opening k.sectors) (Rattle.wb_tasks.specs.Points.open_left k.sectors k.point) (Rattle.wb_tasks.specs.Points.open_answer k.point))) got chosen)
        (commit_then {P = P} {A = A} (Opens mode reading) commit (want (plan_of (Rattle.wb_tasks.specs.Tables.Opening k.sectors) (Rattle.wb_tasks.specs.Points.open_left k.sectors k.point) (Rattle.wb_tasks.specs.Points.open_answer k.point))) got chosen)
        (task_then (Some (Open m' second, plan_of (Rattle.wb_tasks.specs.Tables.Opening k.sectors) (Rattle.wb_tasks.specs.Points.open_left k.sectors k.point) (Rattle.wb_tasks.specs.Points.open_answer k.point))) (want (plan_of (Rattle.wb_tasks.specs.Tables.Opening k.sectors) (Rattle.wb_tasks.specs.Points.open_left k.sectors k.point) (Rattle.wb_tasks.specs.Points.open_answer k.point))) got)) →
        OpenTask (reading_then reading next got chosen) (commit_then {P = P} {A = A} (Opens mode reading) commit next got chosen) (task_then (Some (Open m' second, plan)) next got)
    task_left m' second plan next got chosen k h Goes g f =
        let O = plan_of (Rattle.wb_tasks.specs.Tables.Opening k.sectors) (Rattle.wb_tasks.specs.Points.open_left k.sectors k.point) (Rattle.wb_tasks.specs.Points.open_answer k.point) in
        subst (λ (s : Plan). OpenTask (reading_then reading next got chosen) (commit_then {P = P} {A = A} (Opens mode reading) commit next got chosen) (task_then (Some (Open m' second, s)) next got)) (sym k.is)
        (subst (λ (u : Want). Goes u → OpenTask (reading_then reading u got chosen) (commit_then {P = P} {A = A} (Opens mode reading) commit u got chosen) (task_then (Some (Open m' second, O)) u got)) (sym (h ∙ ap want k.is)) f g)

    abbrev Later : Want → Got → Chosen P A → Type 0
    Later next got chosen = Going {P = P} {A = A} (phase_then shape (Opens mode reading) next got chosen) (commit_then {P = P} {A = A} (Opens mode reading) commit next got chosen) (slice_set actors a (actor_then {P = P} {A = A} shape (Opens mode reading) devices x next got))

    goes_later : (job : Job) (plan : Plan) (next : Want) (got : Got) (chosen : Chosen P A) → x.task ≡ Some (job, plan) → OpenTask (reading_then reading next got chosen) (commit_then {P = P} {A = A} (Opens mode reading) commit next got chosen) (task_then x.task next got) → Later next got chosen
    goes_later job plan (Cell step) got chosen xt k = opens_set actors a x (actor_then {P = P} {A = A} shape (Opens mode reading) devices x (Cell step) got) l.alone.0 _ _ e l.alone.1 (opener job plan xt) k
    goes_later job plan (Device step) got chosen xt k = opens_set actors a x (actor_then {P = P} {A = A} shape (Opens mode reading) devices x (Device step) got) l.alone.0 _ _ e l.alone.1 (opener job plan xt) k
    goes_later job plan (Desk step) got chosen xt k = opens_set actors a x (actor_then {P = P} {A = A} shape (Opens mode reading) devices x (Desk step) got) l.alone.0 _ _ e l.alone.1 (opener job plan xt) k
    goes_later job plan (End answer) got chosen xt k = idle (phase_opened shape mode reading chosen) _ _ (all_idle actors a x (actor_then {P = P} {A = A} shape (Opens mode reading) devices x (End answer) got) l.alone.0 e l.alone.1 (opener job plan xt) (ap (λ k. task_then k (End answer) got) xt))

    my_opening : (m' : Mode) (second : Bool) (plan : Plan) → x.task ≡ Some (Open m' second, plan) → OpenAt reading commit plan
    my_opening m' second plan xt = subst (λ (k : Option (Job × Plan)). OpenTask reading commit k) xt (each a x e)

    opens_done : (job : Job) (plan : Plan) (next : Want) (got : Got) (read : List Bytes) (chosen : Chosen P A) → x.task ≡ Some (job, plan) → next ≡ want plan → Gives shape v x job next got read chosen → Later next got chosen
    opens_done (Open m' second) plan next got read chosen xt h g = let k = my_opening m' second plan xt in goes_later (Open m' second) plan next got chosen xt
        (subst (λ (q : Option (Job × Plan)). OpenTask (reading_then reading next got chosen) (commit_then {P = P} {A = A} (Opens mode reading) commit next got chosen) (task_then q next got)) (sym xt)
        (task_left m' second plan next got chosen k h (λ u. Gives shape v x (Open m' second) u got read chosen) g (λ g. open_moves P A shape mode m' second reading commit v k.sectors x got read chosen k.point k.at g)))
    opens_done (Read extent) plan next got read chosen xt h g = absurd (opening_work (Read extent) plan xt)
    opens_done (Write extent content) plan next got read chosen xt h g = absurd (opening_work (Write extent content) plan xt)
    opens_done Flush plan next got read chosen xt h g = absurd (opening_work Flush plan xt)
    opens_done Suspend plan next got read chosen xt h g = absurd (opening_work Suspend plan xt)
    opens_done (Invalidate block) plan next got read chosen xt h g = absurd (opening_work (Invalidate block) plan xt)
    opens_done (Migrate migration block) plan next got read chosen xt h g = absurd (opening_work (Migrate migration block) plan xt)
    opens_done (Replace old new) plan next got read chosen xt h g = absurd (opening_work (Replace old new) plan xt)

    opens_failed : (job : Job) (plan : Plan) (next : Want) (choice : Choice) (chosen : Chosen P A) → x.task ≡ Some (job, plan) → next ≡ want plan → Falters v choice next chosen → Later next Fault chosen
    opens_failed (Open m' second) plan next choice chosen xt h g = let k = my_opening m' second plan xt in goes_later (Open m' second) plan next Fault chosen xt
        (subst (λ (q : Option (Job × Plan)). OpenTask (reading_then reading next Fault chosen) (commit_then {P = P} {A = A} (Opens mode reading) commit next Fault chosen) (task_then q next Fault)) (sym xt)
        (task_left m' second plan next Fault chosen k h (λ u. Falters v choice u chosen) g (λ g. open_fails P A shape mode m' second reading commit v k.sectors choice chosen k.point g)))
    opens_failed (Read extent) plan next choice chosen xt h g = absurd (opening_work (Read extent) plan xt)
    opens_failed (Write extent content) plan next choice chosen xt h g = absurd (opening_work (Write extent content) plan xt)
    opens_failed Flush plan next choice chosen xt h g = absurd (opening_work Flush plan xt)
    opens_failed Suspend plan next choice chosen xt h g = absurd (opening_work Suspend plan xt)
    opens_failed (Invalidate block) plan next choice chosen xt h g = absurd (opening_work (Invalidate block) plan xt)
    opens_failed (Migrate migration block) plan next choice chosen xt h g = absurd (opening_work (Migrate migration block) plan xt)
    opens_failed (Replace old new) plan next choice chosen xt h g = absurd (opening_work (Replace old new) plan xt)

  -- ---- events

  module _ (w : State P A) (n : Notes) (base : Base P A shape w n) (k : GoesOn w) (a : ℕ) (x : Actor) (e : slice_get w.actors a ≡ Some x) (job : Job) (plan : Plan) (xt : x.task ≡ Some (job, plan)) where
    -- by a step that this phase lets it do
    by_phase : (next : Want) (got : Got) (chosen : Chosen P A) (Does : State P A → Type 0) → Does w →
        ((t : Target P) → Does (record { devices = w.devices; commit = w.commit; phase = Stands t; actors = w.actors }) → (known : AtDesk shape.geometry base.known.images t.desk w.commit w.devices.metadata) → Linked {P = P} {A = A} shape (Stands t) w.actors n → Going {P = P} {A = A} (Stands t) w.commit w.actors →
        Going {P = P} {A = A} (phase_then shape (Stands t) next got chosen) (commit_then {P = P} {A = A} (Stands t) w.commit next got chosen) (slice_set w.actors a (actor_then {P = P} {A = A} shape (Stands t) w.devices x next got))) →
        ((mode : Mode) (reading : Option (ReadSteps A)) → Does (record { devices = w.devices; commit = w.commit; phase = Opens mode reading; actors = w.actors }) → Linked {P = P} {A = A} shape (Opens mode reading) w.actors n → Going {P = P} {A = A} (Opens mode reading) w.commit w.actors →
        Going {P = P} {A = A} (phase_then shape (Opens mode reading) next got chosen) (commit_then {P = P} {A = A} (Opens mode reading) w.commit next got chosen) (slice_set w.actors a (actor_then {P = P} {A = A} shape (Opens mode reading) w.devices x next got))) →
        Going {P = P} {A = A} (phase_then shape w.phase next got chosen) (commit_then w.phase w.commit next got chosen) (slice_set w.actors a (actor_then shape w.phase w.devices x next got))
    by_phase next got chosen Does d stands opens = cases w.phase base.known.known base.linked k d
      where
        cases : (phase : Phase P A) → MetadataKept shape.geometry base.known.images phase w.commit w.devices.metadata → Linked {P = P} {A = A} shape phase w.actors n → Going phase w.commit w.actors → Does (record { devices = w.devices; commit = w.commit; phase = phase; actors = w.actors }) →
            Going {P = P} {A = A} (phase_then shape phase next got chosen) (commit_then phase w.commit next got chosen) (slice_set w.actors a (actor_then shape phase w.devices x next got))
        cases (Stands t) known l k d = stands t d known l k
        cases Gone known l k d = tt
        cases (Opens mode reading) known l k d = opens mode reading d l k

    steps_on : (next : Want) (got : Got) (read : List Bytes) (chosen : Chosen P A) → next ≡ want plan → Gives shape w x job next got read chosen →
        Going {P = P} {A = A} (phase_then shape w.phase next got chosen) (commit_then w.phase w.commit next got chosen) (slice_set w.actors a (actor_then shape w.phase w.devices x next got))
    steps_on next got read chosen h g = by_phase next got chosen (λ v. Gives shape v x job next got read chosen) g
        (λ t d known l k. stands_done t w.devices w.commit w.actors n base.known.images known l base.used.suited k.0 k.1 a x e job plan next got read chosen xt h d)
        (λ mode reading d l k. opens_done mode reading w.devices w.commit w.actors n l k a x e job plan next got read chosen xt h d)

    faults_on : (choice : Choice) (next : Want) (chosen : Chosen P A) → next ≡ want plan → Falters w choice next chosen →
        Going {P = P} {A = A} (phase_then shape w.phase next Fault chosen) (commit_then w.phase w.commit next Fault chosen) (slice_set w.actors a (actor_then shape w.phase w.devices x next Fault))
    faults_on choice next chosen h g = by_phase next Fault chosen (λ v. Falters v choice next chosen) g
        (λ t d known l k. stands_failed t w.devices w.commit w.actors n base.known.images known l base.used.suited k.0 k.1 a x e job plan next choice chosen xt h d)
        (λ mode reading d l k. opens_failed mode reading w.devices w.commit w.actors n l k a x e job plan next choice chosen xt h d)

  by_step : (w : State P A) (n : Notes) (a : ℕ) (next : Want) (got : Got) (read : List Bytes) (chosen : Chosen P A) (o : Option Actor) → slice_get w.actors a ≡ o → Base P A shape w n → GoesOn w →
      OfSome o (λ x. OfSome x.task (λ doing. (next ≡ want doing.1) × Gives shape w x doing.0 next got read chosen)) → GoesOn (with_actor w o (λ x. stepped shape w a x next got chosen (λ step. device_done (job_of x.task) x.buffer step chosen)))
  by_step w n a next got read chosen None e b k h = absurd h
  by_step w n a next got read chosen (Some x) e b k h = by_task x.task refl h
    where
      by_task : (task : Option (Job × Plan)) → x.task ≡ task → OfSome task (λ doing. (next ≡ want doing.1) × Gives shape w x doing.0 next got read chosen) → GoesOn (stepped shape w a x next got chosen (λ step. device_done (job_of x.task) x.buffer step chosen))
      by_task None xt h = absurd h
      by_task (Some doing) xt h = steps_on w n b k a x e doing.0 doing.1 xt next got read chosen h.0 h.1

  by_fault : (w : State P A) (n : Notes) (a : ℕ) (choice : Choice) (next : Want) (chosen : Chosen P A) (o : Option Actor) → slice_get w.actors a ≡ o → Base P A shape w n → GoesOn w →
      OfSome o (λ x. OfSome x.task (λ doing. (next ≡ want doing.1) × MayFailAt w.devices choice next × Falters w choice next chosen)) →
      GoesOn (with_actor w o (λ x. stepped shape w a x next Fault chosen (λ step. device_failed (lands (device_of step) choice) (job_of x.task) x.buffer step chosen)))
  by_fault w n a choice next chosen None e b k h = absurd h
  by_fault w n a choice next chosen (Some x) e b k h = by_task x.task refl h
    where
      by_task : (task : Option (Job × Plan)) → x.task ≡ task → OfSome task (λ doing. (next ≡ want doing.1) × MayFailAt w.devices choice next × Falters w choice next chosen) →
          GoesOn (stepped shape w a x next Fault chosen (λ step. device_failed (lands (device_of step) choice) (job_of x.task) x.buffer step chosen))
      by_task None xt h = absurd h
      by_task (Some doing) xt h = faults_on w n b k a x e doing.0 doing.1 xt choice next chosen h.0 h.2

  -- an opening starts, alone
  opening_starts : (over mode : Mode) (second : Bool) (actors : List Actor) (a : ℕ) (chosen : Chosen P A) (x : Actor) → slice_get (map (λ (x : Actor). resting) actors) a ≡ Some x →
      (b : ℕ) (z : Actor) → slice_get (slice_set (map (λ (x : Actor). resting) actors) a (given {P = P} {A = A} shape over x (Open mode second) chosen)) b ≡ Some z → OpenTask {A = A} None None z.task
  opening_starts over mode second actors a chosen x e b z f = elim (cases_eq b a) [
    | inl s ↦ let there : Some y ≡ Some z = sym (set_there rs a x y e) ∙ ap (slice_get (slice_set rs a y)) (sym s) ∙ f in
        let same : y ≡ z = cc in
        subst (λ (v : Actor). OpenTask {A = A} None None v.task) same first
    | inr o ↦ subst (λ (k : Option (Job × Plan)). OpenTask {A = A} None None k) (sym (rests actors b z (sym (set_other rs a b y o) ∙ f)).0) tt
  ]
    where
      rs : List Actor
      rs = map (λ (x : Actor). resting) actors

      y : Actor
      y = given {P = P} {A = A} shape over x (Open mode second) chosen

      first : OpenAt {A = A} None None (table (task_job shape over x.awaiting (Open mode second) (cut_of chosen) (looks_of chosen)))
      first = record { sectors = shape.geometry.meta_sectors; point = AtFirst; is = refl; at = (refl, omega (arith, shape.geometry.within.meta_from)) }

  -- an order that is given leaves where everybody stands
  given_goes : (phase : Phase P A) (commit : Option RunningCommit) (actors : List Actor) (job : Job) (chosen : Chosen P A) → Going phase commit actors → Going (phase_given phase job chosen) commit actors
  given_goes phase commit actors job chosen = given_keeps (λ (q : Phase P A). Going q commit actors) (λ t desk k. k) phase job chosen

  -- a task starts where a target stands
  task_by_phase : (phase : Phase P A) (commit : Option RunningCommit) (actors : List Actor) (a : ℕ) (x : Actor) (job : Job) (chosen : Chosen P A) → slice_get actors a ≡ Some x → (¬ (¬ OfTarget phase (λ t. Unit {0}))) → Going phase commit actors →
      Going (phase_given phase job chosen) commit (slice_set actors a (given {P = P} {A = A} shape (mode_of phase) x job chosen))
  task_by_phase (Stands t) commit actors a x job chosen e p k = given_goes (Stands t) commit _ job chosen
      (k.0, flushes_set actors a x (given {P = P} {A = A} shape t.desk.mode x job chosen) commit commit k.0 k.0 e k.1 (by_job job) (λ Makes b p o f. f))
    where
      by_job : (job : Job) → FlushJob commit (a ≡ k.0) (begun_as job) (table (task_job shape t.desk.mode x.awaiting job (cut_of chosen) (looks_of chosen)))
      by_job Flush = record { blocks = blocks_left x.awaiting; most = most_for shape.geometry false; answer = Finished; point = ToLook; of = tt; is = refl; at = tt; leads = λ i. absurd i }
      by_job Suspend = record { blocks = looks_of chosen; most = most_for shape.geometry true; answer = Finished; point = ToLook; of = tt; is = refl; at = tt; leads = λ i. absurd i }
      by_job (Invalidate block) = (invalidated_range shape block, refl)
      by_job (Migrate migration block) = (migrated_range shape block (cut_of chosen), refl)
      by_job (Replace old new) = (migrated_range shape old (cut_of chosen), refl)
      by_job job = tt
  task_by_phase Gone commit actors a x job chosen e p k = tt
  task_by_phase (Opens mode reading) commit actors a x job chosen e p k = absurd (p (λ z. z))

  starts : (w : State P A) (a : ℕ) (job : Job) (chosen : Chosen P A) → GoesOn w → (¬ DoesNotApply w (Start a job)) → GoesOn (started shape w a job chosen)
  starts w a (Open mode second) chosen k applies = by_actor (slice_get (map (λ (x : Actor). resting) w.actors) a) refl
    where
      by_actor : (o : Option Actor) → slice_get (map (λ (x : Actor). resting) w.actors) a ≡ o →
          GoesOn (with_actor (cleared w (Open mode second)) o (λ x. record (cleared w (Open mode second)) { phase = phase_given (cleared w (Open mode second)).phase (Open mode second) chosen; actors = slice_set (cleared w (Open mode second)).actors a (given shape (mode_of (cleared w (Open mode second)).phase) x (Open mode second) chosen) }))
      by_actor None e = λ b z f. subst (λ (k : Option (Job × Plan)). OpenTask {A = A} None None k) (sym (rests w.actors b z f).0) tt
      by_actor (Some x) e = opening_starts (mode_of (cleared w (Open mode second)).phase) mode second w.actors a chosen x e
  starts w a (Read extent) chosen k applies = let f = free P A w a (Read extent) applies in
      subst (λ (o : Option Actor). GoesOn (with_actor w o (λ x. record w { phase = phase_given w.phase (Read extent) chosen; actors = slice_set w.actors a (given shape (mode_of w.phase) x (Read extent) chosen) }))) (sym f.1) (task_by_phase w.phase w.commit w.actors a f.0 (Read extent) chosen f.1 (λ p. applies (inr (inr (inr p)))) k)
  starts w a (Write extent content) chosen k applies = let f = free P A w a (Write extent content) applies in
      subst (λ (o : Option Actor). GoesOn (with_actor w o (λ x. record w { phase = phase_given w.phase (Write extent content) chosen; actors = slice_set w.actors a (given shape (mode_of w.phase) x (Write extent content) chosen) }))) (sym f.1) (task_by_phase w.phase w.commit w.actors a f.0 (Write extent content) chosen f.1 (λ p. applies (inr (inr (inr p)))) k)
  starts w a Flush chosen k applies = let f = free P A w a Flush applies in
      subst (λ (o : Option Actor). GoesOn (with_actor w o (λ x. record w { phase = phase_given w.phase Flush chosen; actors = slice_set w.actors a (given shape (mode_of w.phase) x Flush chosen) }))) (sym f.1) (task_by_phase w.phase w.commit w.actors a f.0 Flush chosen f.1 (λ p. applies (inr (inr (inr p)))) k)
  starts w a Suspend chosen k applies = let f = free P A w a Suspend applies in
      subst (λ (o : Option Actor). GoesOn (with_actor w o (λ x. record w { phase = phase_given w.phase Suspend chosen; actors = slice_set w.actors a (given shape (mode_of w.phase) x Suspend chosen) }))) (sym f.1) (task_by_phase w.phase w.commit w.actors a f.0 Suspend chosen f.1 (λ p. applies (inr (inr (inr p)))) k)
  starts w a (Invalidate block) chosen k applies = let f = free P A w a (Invalidate block) applies in
      subst (λ (o : Option Actor). GoesOn (with_actor w o (λ x. record w { phase = phase_given w.phase (Invalidate block) chosen; actors = slice_set w.actors a (given shape (mode_of w.phase) x (Invalidate block) chosen) }))) (sym f.1)
      (task_by_phase w.phase w.commit w.actors a f.0 (Invalidate block) chosen f.1 (λ p. applies (inr (inr (inr (λ o. p (target_stands w.phase o)))))) k)
  starts w a (Migrate migration block) chosen k applies = let f = free P A w a (Migrate migration block) applies in
      subst (λ (o : Option Actor). GoesOn (with_actor w o (λ x. record w { phase = phase_given w.phase (Migrate migration block) chosen; actors = slice_set w.actors a (given shape (mode_of w.phase) x (Migrate migration block) chosen) }))) (sym f.1) (task_by_phase w.phase w.commit w.actors a f.0 (Migrate migration block) chosen f.1 (λ p. applies (inr (inr (inr p)))) k)
  starts w a (Replace old new) chosen k applies = let f = free P A w a (Replace old new) applies in
      subst (λ (o : Option Actor). GoesOn (with_actor w o (λ x. record w { phase = phase_given w.phase (Replace old new) chosen; actors = slice_set w.actors a (given shape (mode_of w.phase) x (Replace old new) chosen) }))) (sym f.1) (task_by_phase w.phase w.commit w.actors a f.0 (Replace old new) chosen f.1 (λ p. applies (inr (inr (inr p)))) k)

  by_event : (w : State P A) (n : Notes) (event : Event) (what : What) (read : List Bytes) (chosen : Chosen P A) → Base P A shape w n → GoesOn w → MayBe shape w event what read chosen → GoesOn (after_what shape w event what chosen)
  by_event w n (Start a job) Started read chosen b k h = starts w a job chosen k h.1
  by_event w n (Step a) (Stepped next got) read chosen b k h = by_step w n a next got read chosen (slice_get w.actors a) refl b k h
  by_event w n (FaultStep a choice) (Stepped next got) read chosen b k h =
      subst (λ (g : Got). GoesOn (after_what shape w (FaultStep a choice) (Stepped next g) chosen)) (sym h.1) (by_fault w n a choice next chosen (slice_get w.actors a) refl b k h.2)
  by_event w n (Stop choice) Stopped read chosen b k h = tt
  by_event w n event what read chosen b k h = k

  -- what every run keeps
  pub record Kept (w : State P A) : Type 0 where
    pub notes : Notes
    pub base : Base P A shape w notes
    pub goes : GoesOn w

  always_kept : (w : State P A) (n : Notes) (hs : List (Happening P A)) → Base P A shape w n → GoesOn w → IsRun shape w hs → Kept (after_all shape w hs)
  always_kept w n [] b k r = record { notes = n; base = b; goes = k }
  always_kept w n (h ∷ hs) b k r = always_kept (after_happening shape w h) (note_happening shape w n h) hs (base_after P A shape w n h b r.0) (by_event w n h.record_is.event h.record_is.what h.record_is.read.items h.chosen b k r.0) r.1

  pub run_kept : (metadata : List History) (hs : List (Happening P A)) → IsFormatted shape.geometry metadata → length metadata ≡ shape.geometry.meta_sectors → IsRun shape (start shape metadata) hs → Kept (after_all shape (start shape metadata) hs)
  run_kept metadata hs f size run = always_kept (start shape metadata) (formatted shape) hs (base_start P A shape metadata f size) tt run
