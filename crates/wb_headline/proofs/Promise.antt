-- One recursion over a run: what each kind of event leads to, and that every answer on the way is right.
use Rattle.std.proofs.Common.{Bool, false, true, arith, ◌≡◌, ◌∙◌, inl, inr, ℕ, List, [], ◌∷◌, Option, Some, None, All, refl, sym, ap, subst, length, slice_get, slice_set}
use Rattle.wb_types.specs.declared.mode.Mode.{Mode}
use Rattle.wb_types.specs.declared.mode.Mode.TheVariants.{Writeback, Writethrough, Passthrough}
use Rattle.wb_types.specs.declared.refusal.Refusal.{Refusal}
use Rattle.wb_types.specs.declared.extent.Extent.{Extent}
use Rattle.wb_types.specs.declared.mode.Dev.{Dev}
use Rattle.wb_disk.specs.Device.{Content as Bytes, History}
use Rattle.wb_meta.specs.Formats.{IsFormatted}
use Rattle.wb_tasks.specs.Plan.{Plan, want, device_of}
use Rattle.wb_tasks.specs.declared.step.Answer.{Answer}
use Rattle.wb_tasks.specs.declared.step.Answer.TheVariants.{Done as Finished, Refused as Refuses}
use Rattle.wb_tasks.specs.declared.step.DeviceStep.{DeviceStep}
use Rattle.wb_tasks.specs.declared.step.DeviceStep.TheVariants.{Read as ReadExtent}
use Rattle.wb_tasks.specs.declared.step.Want.{Want}
use Rattle.wb_tasks.specs.declared.step.Want.TheVariants.{Device, End}
use Rattle.wb_tasks.specs.declared.step.Got.{Got}
use Rattle.wb_tasks.specs.declared.step.Got.TheVariants.{Done, Fault}
use Rattle.wb_devices.specs.declared.devices.Devices.{Devices}
use Rattle.wb_devices.specs.declared.running.RunningCommit.{RunningCommit}
use Rattle.wb_promise.specs.declared.job.Job.{Job}
use Rattle.wb_promise.specs.declared.job.Job.TheVariants.{Read, Write, Open, Migrate, Flush, Suspend, Replace, Invalidate}
use Rattle.wb_promise.specs.declared.event.Event.{Event}
use Rattle.wb_promise.specs.declared.event.Event.TheVariants.{Step, FaultStep, Start, Stop}
use Rattle.wb_promise.specs.declared.event.What.{What}
use Rattle.wb_promise.specs.declared.event.What.TheVariants.{Stepped, Started, Stopped}
use Rattle.wb_promise.specs.States.{resting, Shape, State, Actor, Phase, Stands, Gone, Opens, start, Target, sector_count, mode_of}
use Rattle.wb_promise.specs.Happenings.{IsOutOfPlace, IsSuspending, Plain, Chosen, Happening, OfSome, Gives, MayBe, Cut, Looks, Falters, MayFailAt, StartGives, StartsAs, begun_as}
use Rattle.wb_promise.specs.Effects.{all_resting, stepped, with_actor, device_done, job_of, phase_then, after_what, after_happening, after_all, IsRun, device_failed, given, cleared, phase_given, started, actor_then}
use Rattle.wb_promise.specs.Clerk.{Notes, Doing, formatted, noted_step, noted_what, put, begun, starting}
use Rattle.wb_promise.specs.Headline.{IsLatest, shown, shown_in, note_happening, noted, ShowsAllowed, ShownBy, ShowsRightly, OpensRightly, AllOpenRightly, IsRightAnswer, DoingRightly, AnswersRightly, AllRight, CrashConsistent, Headline}
use Rattle.wb_runs.specs.Laws.{AllAlong, IsCovered, DoingCovers, AnswerCovers, RefusedBy, RefusedRightly, RefusesByCause}
use Rattle.wb_promise.specs.Latest.{IsGiven, GivesLatest, ReadsRightly, AllReadRightly}
use Rattle.wb_runs.specs.Holding.{TaskSuits}
use Rattle.wb_runs.proofs.Claims.{Noted}
use Rattle.wb_runs.proofs.Linking.{TaskHere}
use Rattle.wb_runs.proofs.Opening.{InPhase}
use Rattle.wb_runs.proofs.LinkedRuns.{run_refuses, run_covers, all_skip, links_what}
use Rattle.wb_promise.specs.Sealed.{SealsTell}
use Rattle.wb_headline.proofs.Following.{Goes}
use Rattle.wb_headline.proofs.Opened.{opening_keeps, opening_steps, opening_faults, opening_shows}
use Rattle.wb_headline.proofs.Requests.{given_latest, read_steps, read_faults, write_steps, write_faults, invalidation_steps, invalidation_faults}
use Rattle.wb_headline.proofs.Showing.{crash_consistent}
use Rattle.wb_headline.proofs.Doings.{IsFault, what_noted}
use Rattle.wb_headline.proofs.Keeping.{Keeping}
use Rattle.wb_headline.proofs.Whole.{Whole, Stepped_to, Faulted_to, at_target, known_of, base_of, noted_for, with_task}
use Rattle.wb_headline.proofs.Begin.{whole_start}
use Rattle.wb_disk.specs.Crash.{Choice}
use Rattle.wb_disk.specs.Failing.{lands}
use Rattle.wb_tasks.specs.Ready.{Suits}
use Rattle.wb_runs.proofs.Lists.{free, there_rests}
use Rattle.wb_runs.proofs.Using.{used_what}
use Rattle.wb_runs.proofs.InsideRuns.{Inside, inside_what, want_inside}
use Rattle.wb_headline.proofs.Kept.{at_nothing, fault_keeps, none_goes, none_rest, none_set, start_keeps, step_keeps}
use Rattle.wb_headline.proofs.Targets.{never_replaces}
use Rattle.wb_headline.proofs.Arriving.{crash_goes}
use Rattle.wb_headline.proofs.Starts.{any_start, any_replacement, read_starts, write_starts, invalidation_starts, flush_starts, suspend_starts, opening_starts}
use Rattle.wb_simulation.specs.Actors.{IsAmong, IsAmongOthers, AreAmongOthers}
use Rattle.wb_headline.proofs.Commits.{commit_steps, commit_faults}
use Rattle.wb_runs.proofs.Plans.{task_suits}
use Rattle.wb_headline.proofs.Migrations.{any_step, any_fault}

module _ (P A : Type 0) (shape : Shape) where
  -- what an event leads to: it is followed, and its orders and seals are kept
  abbrev Onward : State P A → Notes → Type 0
  Onward w n = Goes P A shape w n × Keeping w.phase w.actors

  -- ---- a step

  module _ (devices : Devices (List History)) (commit : Option RunningCommit) (actors : List Actor) (n : Notes) (a : ℕ) (x : Actor) (ex : slice_get actors a ≡ Some x) where
    abbrev in_phase : Phase P A → State P A
    in_phase phase = record { devices = devices; commit = commit; phase = phase; actors = actors }

    abbrev Keeps : Phase P A → Want → Got → Chosen P A → Type 0
    Keeps phase next got chosen = Keeping (phase_then shape phase next got chosen) (slice_set actors a (actor_then shape phase devices x next got))

    step_by_phase : (phase : Phase P A) → Whole P A shape (in_phase phase) n → (job : Job) (plan : Plan) → x.task ≡ Some (job, plan) → (d : Noted shape (mode_of phase) job plan (slice_get n.doings a)) (next : Want) (got : Got) (read : List Bytes) (chosen : Chosen P A) → next ≡ want plan → Gives shape (in_phase phase) x job next got read chosen →
        Stepped_to P A shape (in_phase phase) n a x job next got read chosen d.doing × Keeps phase next got chosen
    step_by_phase (Stands t) b job plan xt d next got read chosen e g =
        (by_job job xt d g, step_keeps P A shape b.goes.images t commit devices actors n b.goes.known b.goes.followed b.used.here b.used.suited b.keeping a x ex plan job xt next got read chosen e g)
      where
        suits : Suits shape.geometry.origin_blocks plan x.card
        suits = task_suits shape.geometry.origin_blocks x xt (b.used.suited a x ex)

        asked : (doing : Doing) → slice_get n.doings a ≡ Some (Some doing) → length doing.then_finished ≡ length n.floors
        asked doing noted = (b.noted_so a doing noted).0 ∙ sym b.goes.followed.sized.sectors ∙ sym b.goes.followed.notes_agree.floors_as_many

        by_job : (job : Job) → x.task ≡ Some (job, plan) → (d : Noted shape t.desk.mode job plan (slice_get n.doings a)) → Gives shape (in_phase (Stands t)) x job next got read chosen → Stepped_to P A shape (in_phase (Stands t)) n a x job next got read chosen d.doing
        by_job (Read extent) xt d g = read_steps P A shape b.goes.images t commit devices actors n b.goes.known b.goes.followed b.used.here a x ex plan suits d.doing d.is extent xt d.job_is d.claim next got read chosen e g
        by_job (Write extent content) xt d g = write_steps P A shape b.goes.images t commit devices actors n b.goes.known b.goes.followed b.used.here a x ex plan suits d.doing d.is extent content xt d.job_is d.claim next got read chosen e g
        by_job (Invalidate block) xt d g = invalidation_steps P A shape b.goes.images t commit devices actors n b.goes.known b.goes.followed b.used.here a x ex plan suits d.doing d.is block xt d.job_is next got read chosen e g
        by_job Flush xt d g = commit_steps P A shape b.goes.images t commit devices actors n b.goes.known b.goes.followed b.used.here b.used.suited b.keeping a x ex plan d.doing d.is suits false xt d.job_is next got read chosen (asked d.doing d.is) e g
        by_job Suspend xt d g = commit_steps P A shape b.goes.images t commit devices actors n b.goes.known b.goes.followed b.used.here b.used.suited b.keeping a x ex plan d.doing d.is suits true xt d.job_is next got read chosen (asked d.doing d.is) e g
        by_job (Open mode second) xt d g = absurd (subst (λ (o : Option (Job × Plan)). TaskHere {P = P} {A = A} (Stands t) o) xt (b.linked.here a x ex))
        by_job (Migrate migration block) xt d g = any_step P A shape t commit devices actors n b a x migration block plan d.doing ex xt d.is d.job_is next got read chosen e g
        by_job (Replace old new) xt d g = absurd (never_replaces P A shape b.goes.images t commit devices actors n b.goes.known b.goes.followed a x ex old new plan xt)
    step_by_phase Gone b job plan xt d next got read chosen e g = absurd (subst (λ (o : Option (Job × Plan)). TaskHere {P = P} {A = A} Gone o) xt (b.linked.here a x ex))
    step_by_phase (Opens mode reading) b job plan xt d next got read chosen e g = by_job job xt d g (subst (λ (o : Option (Job × Plan)). TaskHere {P = P} {A = A} (Opens mode reading) o) xt (b.linked.here a x ex))
      where
        keeps : (m : Mode) (second : Bool) → x.task ≡ Some (Open m second, plan) → (v : Want) → v ≡ want plan → Gives shape (in_phase (Opens mode reading)) x (Open m second) v got read chosen → Keeps (Opens mode reading) v got chosen
        keeps m second jt (End answer) e g = opening_keeps P A shape b.goes.images devices commit mode reading actors n b.goes.known b.goes.followed b.linked.alone b.keeping a x ex m second plan jt b.inside.cache b.inside.origin got read answer chosen e g
        keeps m second jt v e g = none_goes P A shape (Opens mode reading) devices actors a x v got ex b.keeping

        by_job : (job : Job) → x.task ≡ Some (job, plan) → (d : Noted shape Writeback job plan (slice_get n.doings a)) → Gives shape (in_phase (Opens mode reading)) x job next got read chosen → InPhase {P = P} {A = A} (Opens mode reading) job → Stepped_to P A shape (in_phase (Opens mode reading)) n a x job next got read chosen d.doing × Keeps (Opens mode reading) next got chosen
        by_job (Open m second) xt d g h = (opening_steps P A shape b.goes.images devices commit mode reading actors n b.goes.known b.goes.followed b.linked.alone b.keeping a x ex m second d.doing d.job_is b.inside.cache b.inside.origin plan xt (Open m second) x.buffer next got read chosen e g, keeps m second xt next e g)
        by_job job xt d g h = absurd h

    keep_fault : (phase : Phase P A) → Whole P A shape (in_phase phase) n → (job : Job) (plan : Plan) → x.task ≡ Some (job, plan) → (choice : Choice) (next : Want) (chosen : Chosen P A) → next ≡ want plan → MayFailAt devices choice next → Keeps phase next Fault chosen
    keep_fault (Stands t) b job plan xt choice (Device step) chosen e m = fault_keeps P A shape b.goes.images t commit devices actors n b.goes.known b.goes.followed b.used.here b.used.suited b.keeping a x ex plan job xt step chosen e
    keep_fault phase b job plan xt choice (Device step) chosen e m = none_goes P A shape phase devices actors a x (Device step) Fault ex b.keeping
    keep_fault phase b job plan xt choice next chosen e m = absurd m

    fault_by_phase : (phase : Phase P A) → Whole P A shape (in_phase phase) n → (job : Job) (plan : Plan) → x.task ≡ Some (job, plan) → (d : Noted shape (mode_of phase) job plan (slice_get n.doings a)) (choice : Choice) (next : Want) (read : List Bytes) (chosen : Chosen P A) → next ≡ want plan → MayFailAt devices choice next → Falters (in_phase phase) choice next chosen →
        Faulted_to P A shape (in_phase phase) n a x choice job next read chosen d.doing
    fault_by_phase (Stands t) b job plan xt d choice next read chosen e m g = by_job job xt d
      where
        suits : Suits shape.geometry.origin_blocks plan x.card
        suits = task_suits shape.geometry.origin_blocks x xt (b.used.suited a x ex)

        inside : Rattle.wb_runs.specs.Inside.StepInside shape next
        inside = subst (λ (v : Want). Rattle.wb_runs.specs.Inside.StepInside shape v) (sym e) (want_inside shape plan (subst (λ (o : Option (Job × Plan)). Rattle.wb_runs.proofs.InsideRuns.PlanInside shape o) xt (b.inside.tasks a x ex)).1)

        by_job : (job : Job) → x.task ≡ Some (job, plan) → (d : Noted shape t.desk.mode job plan (slice_get n.doings a)) → Faulted_to P A shape (in_phase (Stands t)) n a x choice job next read chosen d.doing
        by_job (Read extent) xt d = read_faults P A shape b.goes.images t commit devices actors n b.goes.known b.goes.followed b.used.here a x ex plan suits d.doing d.is extent xt d.job_is d.claim choice next read chosen e m g
        by_job (Write extent content) xt d = write_faults P A shape b.goes.images t commit devices actors n b.goes.known b.goes.followed b.used.here a x ex plan suits d.doing d.is extent content xt d.job_is d.claim choice next read chosen inside b.inside.cache b.inside.origin e m g
        by_job (Invalidate block) xt d = invalidation_faults P A shape b.goes.images t commit devices actors n b.goes.known b.goes.followed b.used.here a x ex plan suits d.doing d.is block xt d.job_is choice next read chosen e m
        by_job Flush xt d = commit_faults P A shape b.goes.images t commit devices actors n b.goes.known b.goes.followed b.used.here b.used.suited b.keeping a x ex plan d.doing d.is suits false xt d.job_is choice next read chosen e m g
        by_job Suspend xt d = commit_faults P A shape b.goes.images t commit devices actors n b.goes.known b.goes.followed b.used.here b.used.suited b.keeping a x ex plan d.doing d.is suits true xt d.job_is choice next read chosen e m g
        by_job (Open mode second) xt d = absurd (subst (λ (o : Option (Job × Plan)). TaskHere {P = P} {A = A} (Stands t) o) xt (b.linked.here a x ex))
        by_job (Migrate migration block) xt d = any_fault P A shape t commit devices actors n b a x migration block plan d.doing ex xt d.is d.job_is choice next read chosen e m g
        by_job (Replace old new) xt d = absurd (never_replaces P A shape b.goes.images t commit devices actors n b.goes.known b.goes.followed a x ex old new plan xt)
    fault_by_phase Gone b job plan xt d choice next read chosen e m g = absurd (subst (λ (o : Option (Job × Plan)). TaskHere {P = P} {A = A} Gone o) xt (b.linked.here a x ex))
    fault_by_phase (Opens mode reading) b job plan xt d choice next read chosen e m g = by_job job xt d (subst (λ (o : Option (Job × Plan)). TaskHere {P = P} {A = A} (Opens mode reading) o) xt (b.linked.here a x ex))
      where
        by_job : (job : Job) → x.task ≡ Some (job, plan) → (d : Noted shape Writeback job plan (slice_get n.doings a)) → InPhase {P = P} {A = A} (Opens mode reading) job → Faulted_to P A shape (in_phase (Opens mode reading)) n a x choice job next read chosen d.doing
        by_job (Open md second) xt d h = opening_faults P A shape b.goes.images devices commit mode reading actors n b.goes.known b.goes.followed b.linked.alone b.keeping a x ex md second d.doing d.job_is b.inside.cache b.inside.origin plan xt (Open md second) x.buffer choice next read chosen e g
        by_job job xt d h = absurd h

  -- whoever has a task does its next step, done or failing
  module _ (w : State P A) (n : Notes) (b : Whole P A shape w n) (a : ℕ) (next : Want) (got : Got) (read : List Bytes) (chosen : Chosen P A) (change : Job → List Bytes → DeviceStep → List History → List History) (May : Actor → Job → Plan → Type 0) where
    abbrev To : Actor → Job → Option (Option Doing) → Type 0
    To x job doing = Onward (stepped shape w a x next got chosen (change job x.buffer)) (noted_step shape (mode_of w.phase) (shown shape (stepped shape w a x next got chosen (change job x.buffer))) n a doing next got read)

    abbrev Went : Option Actor → State P A
    Went o = with_actor w o (λ x. stepped shape w a x next got chosen (change (job_of x.task) x.buffer))

    task_goes : ((x : Actor) (job : Job) (plan : Plan) → slice_get w.actors a ≡ Some x → x.task ≡ Some (job, plan) → (d : Noted shape (mode_of w.phase) job plan (slice_get n.doings a)) → May x job plan → To x job (Some (Some d.doing))) →
        (o : Option Actor) → slice_get w.actors a ≡ o → OfSome o (λ x. OfSome x.task (λ doing. May x doing.0 doing.1)) → Onward (Went o) (noted_step shape (mode_of w.phase) (shown shape (Went o)) n a (slice_get n.doings a) next got read)
    task_goes each o e h = with_task o (λ x doing. May x doing.0 doing.1) (λ o. Onward (Went o) (noted_step shape (mode_of w.phase) (shown shape (Went o)) n a (slice_get n.doings a) next got read)) h
        (λ x task is xt h.
        let d = noted_for P A shape w n b a x task.0 task.1 (e ∙ is) xt in
        subst (λ (v : Option (Option Doing)). To x (job_of x.task) v) (sym d.is) (subst (λ (j : Job). To x j (Some (Some d.doing))) (sym (ap job_of xt)) (each x task.0 task.1 (e ∙ is) xt d h)))

  -- ---- a start

  -- whoever is there is given it
  put_there : (w : State P A) (n' : Notes) (a : ℕ) (x : Actor) (job : Job) (chosen : Chosen P A) → slice_get w.actors a ≡ Some x → Onward (record w { phase = phase_given w.phase job chosen; actors = slice_set w.actors a (given shape (mode_of w.phase) x job chosen) }) n' →
      Onward (with_actor w (slice_get w.actors a) (λ y. record w { phase = phase_given w.phase job chosen; actors = slice_set w.actors a (given shape (mode_of w.phase) y job chosen) })) n'
  put_there w n' a x job chosen ex g = subst (λ (o : Option Actor). Onward (with_actor w o (λ y. record w { phase = phase_given w.phase job chosen; actors = slice_set w.actors a (given shape (mode_of w.phase) y job chosen) })) n') (sym ex) g

  abbrev Begun_to : State P A → Notes → ℕ → Job → Chosen P A → Type 0
  Begun_to w n a job chosen = Onward (started shape w a job chosen) (put (starting n job) a (Some (begun n (begun_as job))))

  start_opening : (w : State P A) (n : Notes) → Whole P A shape w n → (a : ℕ) (x : Actor) (mode : Mode) (second : Bool) (chosen : Chosen P A) → slice_get w.actors a ≡ Some x → (¬ IsOutOfPlace w.phase (Open mode second)) → Begun_to w n a (Open mode second) chosen
  start_opening w n b a x mode second chosen ex place = put_there (cleared w (Open mode second)) (put (starting n (Open mode second)) a (Some (begun n (Open mode second)))) a resting (Open mode second) chosen (there_rests w.actors a x ex)
      (opening_starts P A shape b.goes.images w n b.goes.known b.goes.followed a mode second (given shape Writeback resting (Open mode second) chosen) place refl, none_set (all_resting w.actors) a (given shape Writeback resting (Open mode second) chosen) (λ order h. absurd (omega (arith, h.1))) (none_rest w.actors))

  module _ (t : Target P) (commit : Option RunningCommit) (devices : Devices (List History)) (actors : List Actor) (n : Notes) (b : Whole P A shape (at_target P A shape t commit devices actors) n) (a : ℕ) (x : Actor) (ex : slice_get actors a ≡ Some x) (xt : x.task ≡ None) where
    abbrev w_now : State P A
    w_now = at_target P A shape t commit devices actors

    holds_none : TaskSuits shape.geometry.origin_blocks x.card None
    holds_none = task_suits shape.geometry.origin_blocks x xt (b.used.suited a x ex)

    module _ (among : AreAmongOthers actors) where
      goes_and : (job : Job) (chosen : Chosen P A) → StartsAs shape w_now a job Started chosen → Goes P A shape (record w_now { phase = phase_given {P = P} {A = A} (Stands t) job chosen; actors = slice_set actors a (given shape t.desk.mode x job chosen) }) (put n a (Some (begun n (begun_as job)))) →
          Onward (with_actor w_now (slice_get actors a) (λ y. record w_now { phase = phase_given {P = P} {A = A} (Stands t) job chosen; actors = slice_set actors a (given shape t.desk.mode y job chosen) })) (put n a (Some (begun n (begun_as job))))
      goes_and job chosen g goes = put_there w_now (put n a (Some (begun n (begun_as job)))) a x job chosen ex (goes, start_keeps P A shape b.goes.images t commit devices actors n b.goes.known b.goes.followed b.used.here b.used.suited b.keeping a x ex xt among job chosen g)

      -- whose orders it has
      its : (job : Job) (chosen : Chosen P A) → StartGives shape (Stands t) (slice_get actors a) job Started chosen → StartGives shape (Stands t) (Some x) job Started chosen
      its job chosen g = subst (λ (o : Option Actor). StartGives shape (Stands t) o job Started chosen) ex g

      start_at_target : (job : Job) (chosen : Chosen P A) → (¬ IsOutOfPlace {P = P} {A = A} (Stands t) job) → StartsAs shape w_now a job Started chosen → Begun_to w_now n a job chosen
      start_at_target (Open mode second) chosen place g = start_opening w_now n b a x mode second chosen ex place
      start_at_target (Read extent) (Cut cut) place g = goes_and (Read extent) (Cut cut) g (read_starts P A shape b.goes.images t commit devices actors n b.goes.known b.goes.followed a x ex xt extent cut among holds_none g.0 g.1)
      start_at_target (Write extent content) (Cut cut) place g = goes_and (Write extent content) (Cut cut) g (write_starts P A shape b.goes.images t commit devices actors n b.goes.known b.goes.followed a x ex xt extent content cut among holds_none g.0 g.1)
      start_at_target (Invalidate block) Plain place g = goes_and (Invalidate block) Plain g (invalidation_starts P A shape b.goes.images t commit devices actors n b.goes.known b.goes.followed a x ex xt block among holds_none (passes place))
        where
          -- it is in place where the target passes through
          passes : (¬ (¬ (t.desk.mode ≡ Passthrough))) → t.desk.mode ≡ Passthrough
          passes not = by t.desk.mode refl not
            where
              by : (mode : Mode) → t.desk.mode ≡ mode → (¬ (¬ (mode ≡ Passthrough))) → t.desk.mode ≡ Passthrough
              by Passthrough e not = e
              by mode e not = absurd (not (λ f. absurd (cc)))
      start_at_target Flush Plain place g = goes_and Flush Plain g (flush_starts P A shape b.goes.images t commit devices actors n b.goes.known b.goes.followed a x ex xt [] among)
      start_at_target Suspend (Looks blocks) place g = goes_and Suspend (Looks blocks) g (suspend_starts P A shape b.goes.images t commit devices actors n b.goes.known b.goes.followed a x ex xt blocks (λ c z ez. at_nothing P A w_now c z ez (g.0 c)))
      start_at_target (Migrate migration block) chosen place g = goes_and (Migrate migration block) chosen g (any_start P A shape t commit devices actors n b a x ex xt among migration block chosen (its (Migrate migration block) chosen g))
      start_at_target (Replace old new) chosen place g = goes_and (Replace old new) chosen g (any_replacement P A shape t commit devices actors n b a x ex xt among old new chosen (its (Replace old new) chosen g))
      start_at_target job chosen place g = absurd g

  -- nobody suspends where a start is in place
  all_among : (w : State P A) → (IsSuspending w → ⊥) → AreAmongOthers w.actors
  all_among w none b z ez = by z.task refl
    where
      by : (o : Option (Job × Plan)) → z.task ≡ o → IsAmongOthers o
      by None e = tt
      by (Some doing) e = by_job doing.0 refl
        where
          by_job : (job : Job) → doing.0 ≡ job → IsAmong job
          by_job Suspend is = none (b, subst (λ (o : Option Actor). OfSome o (λ v. OfSome v.task (λ d. d.0 ≡ Suspend))) (sym ez) (subst (λ (o : Option (Job × Plan)). OfSome o (λ d. d.0 ≡ Suspend)) (sym e) is))
          by_job job is = tt

  -- where none stands, nothing but an opening is in place
  start_by_phase : (w : State P A) (phase : Phase P A) → w.phase ≡ phase → (n : Notes) → Whole P A shape w n → (a : ℕ) (x : Actor) (job : Job) (chosen : Chosen P A) → slice_get w.actors a ≡ Some x → x.task ≡ None → (IsSuspending w → ⊥) → (¬ IsOutOfPlace phase job) → StartsAs shape w a job Started chosen → Begun_to w n a job chosen
  start_by_phase w (Stands t) e n b a x job chosen ex xt alone place g =
      let is : record { devices = w.devices; commit = w.commit; phase = Stands t; actors = w.actors } ≡ w = λ i. record w { phase = sym e i } in
      subst (λ (v : State P A). Begun_to v n a job chosen) is (start_at_target t w.commit w.devices w.actors n (subst (λ (v : State P A). Whole P A shape v n) (sym is) b) a x ex xt (all_among w alone) job chosen place (subst (λ (v : State P A). StartsAs shape v a job Started chosen) (sym is) g))
  start_by_phase w phase e n b a x (Open mode second) chosen ex xt alone place g = start_opening w n b a x mode second chosen ex (subst (λ (p : Phase P A). ¬ IsOutOfPlace p (Open mode second)) (sym e) place)
  start_by_phase w phase e n b a x job chosen ex xt alone place g = absurd (place (λ z. z))

  -- ---- every event

  on_what : (w : State P A) (n : Notes) → Whole P A shape w n → (event : Event) (what : What) (read : List Bytes) (chosen : Chosen P A) → MayBe shape w event what read chosen → Onward (after_what shape w event what chosen) (noted_what shape (mode_of w.phase) (shown shape (after_what shape w event what chosen)) n event what read)
  on_what w n b (Start a job) Started read chosen h =
      let x = free P A w a job h.1 in
      start_by_phase w w.phase refl n b a x.0 job chosen x.1 x.2 (λ s. h.1 (inr (inr (inl s)))) (λ o. h.1 (inr (inr (inr o)))) h.2
  on_what w n b (Step a) (Stepped next got) read chosen h = task_goes w n b a next got read chosen (λ job buffer step. device_done job buffer step chosen) (λ x job plan. (next ≡ want plan) × Gives shape w x job next got read chosen)
      (λ x job plan ex xt d g. step_by_phase w.devices w.commit w.actors n a x ex w.phase b job plan xt d next got read chosen g.0 g.1) (slice_get w.actors a) refl h
  on_what w n b (FaultStep a choice) (Stepped next got) read chosen h =
      subst (λ (g : Got). Onward (after_what shape w (FaultStep a choice) (Stepped next g) chosen) (noted_what shape (mode_of w.phase) (shown shape (after_what shape w (FaultStep a choice) (Stepped next g) chosen)) n (FaultStep a choice) (Stepped next g) read)) (sym h.1)
      (task_goes w n b a next Fault read chosen (λ job buffer step. device_failed (lands (device_of step) choice) job buffer step chosen) (λ x job plan. (next ≡ want plan) × MayFailAt w.devices choice next × Falters w choice next chosen)
      (λ x job plan ex xt d g. (fault_by_phase w.devices w.commit w.actors n a x ex w.phase b job plan xt d choice next read chosen g.0 g.1 g.2, keep_fault w.devices w.commit w.actors n a x ex w.phase b job plan xt choice next chosen g.0 g.1)) (slice_get w.actors a) refl h.2)
  on_what w n b (Stop choice) Stopped read chosen h = (crash_goes P A shape b.goes.images w n b.goes.known b.goes.followed choice, none_rest w.actors)
  on_what w n b event what read chosen h = (b.goes, b.keeping)

  -- ---- reads

  read_by_phase : (devices : Devices (List History)) (commit : Option RunningCommit) (phase : Phase P A) (actors : List Actor) (n : Notes) → Whole P A shape (record { devices = devices; commit = commit; phase = phase; actors = actors }) n → (a : ℕ) (x : Actor) (job : Job) (plan : Plan) → slice_get actors a ≡ Some x → x.task ≡ Some (job, plan) →
      (d : Noted shape (mode_of phase) job plan (slice_get n.doings a)) (device : Dev) (e : Extent) (read : List Bytes) (chosen : Chosen P A) → Device (ReadExtent device e) ≡ want plan → Gives shape (record { devices = devices; commit = commit; phase = phase; actors = actors }) x job (Device (ReadExtent device e)) Done read chosen → GivesLatest shape n job e read
  read_by_phase devices commit (Stands t) actors n b a x (Read extent) plan ex xt d device e read chosen next g =
      given_latest P A shape b.goes.images t commit devices actors n b.goes.known b.goes.followed a x ex plan (task_suits shape.geometry.origin_blocks x xt (b.used.suited a x ex)) d.doing d.is extent xt d.job_is d.claim device e next g.0 read g.3 g.4
  read_by_phase devices commit (Stands t) actors n b a x (Migrate migration block) plan ex xt d device e read chosen next g = g.1.0
  read_by_phase devices commit Gone actors n b a x job plan ex xt d device e read chosen next g = absurd (subst (λ (o : Option (Job × Plan)). TaskHere {P = P} {A = A} Gone o) xt (b.linked.here a x ex))
  read_by_phase devices commit (Opens mode reading) actors n b a x job plan ex xt d device e read chosen next g = by_job job (subst (λ (o : Option (Job × Plan)). TaskHere {P = P} {A = A} (Opens mode reading) o) xt (b.linked.here a x ex)) g
    where
      by_job : (job : Job) → InPhase {P = P} {A = A} (Opens mode reading) job → Gives shape (record { devices = devices; commit = commit; phase = Opens mode reading; actors = actors }) x job (Device (ReadExtent device e)) Done read chosen → GivesLatest shape n job e read
      by_job (Open m second) h g = absurd g
      by_job job h g = absurd h
  read_by_phase devices commit (Stands t) actors n b a x job plan ex xt d device e read chosen next g = absurd g

  -- ---- what an opening shows

  shows_by_phase : (devices : Devices (List History)) (commit : Option RunningCommit) (phase : Phase P A) (actors : List Actor) (n : Notes) → Whole P A shape (record { devices = devices; commit = commit; phase = phase; actors = actors }) n → (a : ℕ) (x : Actor) (opened_in : Mode) (second : Bool) (plan : Plan) → slice_get actors a ≡ Some x → x.task ≡ Some (Open opened_in second, plan) →
      (got : Got) (read : List Bytes) (chosen : Chosen P A) → End Finished ≡ want plan → Gives shape (record { devices = devices; commit = commit; phase = phase; actors = actors }) x (Open opened_in second) (End Finished) got read chosen → ShowsAllowed n (shown_in shape devices (phase_then shape phase (End Finished) got chosen))
  shows_by_phase devices commit (Stands t) actors n b a x opened_in second plan ex xt got read chosen next g = absurd (subst (λ (o : Option (Job × Plan)). TaskHere {P = P} {A = A} (Stands t) o) xt (b.linked.here a x ex))
  shows_by_phase devices commit Gone actors n b a x opened_in second plan ex xt got read chosen next g = absurd (subst (λ (o : Option (Job × Plan)). TaskHere {P = P} {A = A} Gone o) xt (b.linked.here a x ex))
  shows_by_phase devices commit (Opens mode reading) actors n b a x opened_in second plan ex xt got read chosen next g =
      opening_shows P A shape b.goes.images devices commit mode reading actors n b.goes.known b.goes.followed b.linked.alone b.keeping a x ex opened_in second plan xt b.inside.cache b.inside.origin got read chosen next g

  module _ (w : State P A) (n : Notes) (b : Whole P A shape w n) (a : ℕ) where
    read_rightly : (device : Dev) (ext : Extent) (read : List Bytes) (chosen : Chosen P A) (o : Option Actor) → slice_get w.actors a ≡ o → OfSome o (λ x. OfSome x.task (λ doing. (Device (ReadExtent device ext) ≡ want doing.1) × Gives shape w x doing.0 (Device (ReadExtent device ext)) Done read chosen)) → IsGiven shape n (slice_get n.doings a) ext read
    read_rightly device ext read chosen o e h = with_task o (λ x doing. (Device (ReadExtent device ext) ≡ want doing.1) × Gives shape w x doing.0 (Device (ReadExtent device ext)) Done read chosen) (λ o. IsGiven shape n (slice_get n.doings a) ext read) h
        (λ x task is xt h.
        let d = noted_for P A shape w n b a x task.0 task.1 (e ∙ is) xt in
        subst (λ (v : Option (Option Doing)). IsGiven shape n v ext read) (sym d.is) (subst (λ (j : Job). GivesLatest shape n j ext read) (sym d.job_is)
        (read_by_phase w.devices w.commit w.phase w.actors n b a x task.0 task.1 (e ∙ is) xt d device ext read chosen h.0 h.1)))

    open_rightly : (got : Got) (read : List Bytes) (chosen : Chosen P A) (o : Option Actor) → slice_get w.actors a ≡ o → OfSome o (λ x. OfSome x.task (λ doing. (End Finished ≡ want doing.1) × Gives shape w x doing.0 (End Finished) got read chosen)) →
        ShowsRightly n (shown shape (with_actor w o (λ x. stepped shape w a x (End Finished) got chosen (λ step. device_done (job_of x.task) x.buffer step chosen)))) (slice_get n.doings a)
    open_rightly got read chosen None e h = absurd h
    open_rightly got read chosen (Some x) e h = by_task x.task refl h
      where
        by_task : (t : Option (Job × Plan)) → x.task ≡ t → OfSome t (λ doing. (End Finished ≡ want doing.1) × Gives shape w x doing.0 (End Finished) got read chosen) →
            ShowsRightly n (shown shape (stepped shape w a x (End Finished) got chosen (λ step. device_done (job_of x.task) x.buffer step chosen))) (slice_get n.doings a)
        by_task None xt h = absurd h
        by_task (Some task) xt h =
            let d = noted_for P A shape w n b a x task.0 task.1 e xt in
            subst (λ (v : Option (Option Doing)). ShowsRightly n (shown_in shape w.devices (phase_then shape w.phase (End Finished) got chosen)) v) (sym d.is) (subst (λ (j : Job). ShownBy n (shown_in shape w.devices (phase_then shape w.phase (End Finished) got chosen)) j) (sym d.job_is)
            (by_job task.0 task.1 xt h.0 h.1))
          where
            by_job : (job : Job) (plan : Plan) → x.task ≡ Some (job, plan) → End Finished ≡ want plan → Gives shape w x job (End Finished) got read chosen → ShownBy n (shown_in shape w.devices (phase_then shape w.phase (End Finished) got chosen)) job
            by_job (Open m second) plan xt next g = shows_by_phase w.devices w.commit w.phase w.actors n b a x m second plan e xt got read chosen next g
            by_job job plan xt next g = tt

  -- ---- one happening

  reads_rightly : (w : State P A) (n : Notes) → Whole P A shape w n → (event : Event) (what : What) (read : List Bytes) (chosen : Chosen P A) → MayBe shape w event what read chosen → ReadsRightly shape n event what read
  reads_rightly w n b (Step a) (Stepped (Device (ReadExtent device e)) Done) read chosen h = read_rightly w n b a device e read chosen (slice_get w.actors a) refl h
  reads_rightly w n b event what read chosen h = tt

  opens_rightly : (w : State P A) (n : Notes) → Whole P A shape w n → (event : Event) (what : What) (read : List Bytes) (chosen : Chosen P A) → MayBe shape w event what read chosen → OpensRightly (shown shape (after_what shape w event what chosen)) n event what
  opens_rightly w n b (Step a) (Stepped (End Finished) got) read chosen h = open_rightly w n b a got read chosen (slice_get w.actors a) refl h
  opens_rightly w n b event what read chosen h = tt

  fault_is : (w : State P A) (event : Event) (what : What) (read : List Bytes) (chosen : Chosen P A) → MayBe shape w event what read chosen → IsFault event what
  fault_is w (FaultStep a choice) (Stepped next got) read chosen h = h.1
  fault_is w event what read chosen h = tt

  whole_after : (w : State P A) (n : Notes) (h : Happening P A) → Whole P A shape w n → MayBe shape w h.record_is.event h.record_is.what h.record_is.read.items h.chosen → Whole P A shape (after_happening shape w h) (note_happening shape w n h)
  whole_after w n h b m =
      let event = h.record_is.event in
      let what = h.record_is.what in
      let read = h.record_is.read.items in
      let known = known_of P A shape w n b in
      let on = on_what w n b event what read h.chosen m in
      record {
        goes = on.0;
        used = used_what P A shape w event what read h.chosen known b.used m;
        linked = links_what P A shape (shown shape (after_happening shape w h)) w n event what read h.chosen known b.used b.linked m;
        inside = inside_what P A shape w n event what read h.chosen (base_of P A shape w n b) b.inside m;
        noted_so = what_noted (sector_count shape) shape (mode_of w.phase) (shown shape (after_happening shape w h)) n read (b.goes.followed.notes_agree.as_many ∙ b.goes.followed.sized.sectors) b.noted_so event what (reads_rightly w n b event what read h.chosen m) (fault_is w event what read h.chosen m);
        keeping = on.1;
      }

  -- an answer is right, by what it covers, why it refuses, what it has read and what it shows
  right_doing : (n : Notes) (shown_now : List Bytes) (o : Option (Option Doing)) (answer : Answer) → ((d : Doing) → o ≡ Some (Some d) → All IsLatest d.readings) → DoingCovers o answer → ((refusal : Refusal) → answer ≡ Refuses refusal → RefusedRightly o refusal) → (answer ≡ Finished → ShowsRightly n shown_now o) → DoingRightly n shown_now o answer
  right_doing n shown_now (Some (Some doing)) answer latest covers refuses shows = by_job doing.job answer covers refuses shows
    where
      by_job : (job : Job) (answer : Answer) → IsCovered doing job answer → ((refusal : Refusal) → answer ≡ Refuses refusal → RefusedBy doing job refusal) → (answer ≡ Finished → ShownBy n shown_now job) → IsRightAnswer n shown_now doing job answer
      by_job (Read extent) Finished c r s = (c, latest doing refl)
      by_job (Write extent content) Finished c r s = c
      by_job (Open mode second) Finished c r s = s refl
      by_job (Open mode second) (Refuses refusal) c r s = r refusal refl
      by_job job answer c r s = tt
  right_doing n shown_now o answer latest covers refuses _ = absurd covers

  right_answer : (shown_now : List Bytes) (n : Notes) (event : Event) (what : What) → ((a : ℕ) (d : Doing) → slice_get n.doings a ≡ Some (Some d) → All IsLatest d.readings) → AnswerCovers n event what → RefusesByCause n event what → OpensRightly shown_now n event what → AnswersRightly shown_now n event what
  right_answer shown_now n (Step a) (Stepped (End Finished) got) l c r o = right_doing n shown_now (slice_get n.doings a) Finished (λ d e. l a d e) c (λ refusal e. absurd (cc)) (λ e. o)
  right_answer shown_now n (Step a) (Stepped (End (Refuses refusal)) got) l c r o = right_doing n shown_now (slice_get n.doings a) (Refuses refusal) (λ d e. l a d e) c
      (λ other e. subst (λ (v : Refusal). RefusedRightly (slice_get n.doings a) v) (ap (refusal_in refusal) e) r) (λ e. absurd (cc))
    where
      refusal_in : Refusal → Answer → Refusal
      refusal_in d (Refuses r) = r
      refusal_in d Finished = d
  right_answer shown_now n event what l c r o = tt

  -- ---- runs

  -- what is so at each happening of a run, and after it
  record Kept_over (w : State P A) (n : Notes) (hs : List (Happening P A)) : Type 0 where
    pub reads : AllReadRightly shape w n hs
    pub opens : AllOpenRightly shape w n hs
    pub answers : AllAlong AnswerCovers shape w n hs → AllAlong RefusesByCause shape w n hs → AllRight shape w n hs
    pub last : Whole P A shape (after_all shape w hs) (noted shape w n hs)

  over_run : (w : State P A) (n : Notes) (hs : List (Happening P A)) → Whole P A shape w n → IsRun shape w hs → Kept_over w n hs
  over_run w n [] b r = record { reads = tt; opens = tt; answers = λ c f. tt; last = b }
  over_run w n (h ∷ hs) b r =
      let event = h.record_is.event in
      let what = h.record_is.what in
      let opens = opens_rightly w n b event what h.record_is.read.items h.chosen r.0 in
      let rest = over_run (after_happening shape w h) (note_happening shape w n h) hs (whole_after w n h b r.0) r.1 in
      record {
        reads = (reads_rightly w n b event what h.record_is.read.items h.chosen r.0, rest.reads);
        opens = (opens, rest.opens);
        answers = λ c f. (right_answer (shown shape (after_happening shape w h)) n event what (λ a d e. (b.noted_so a d e).1) c.0 f.0 opens, rest.answers c.1 f.1);
        last = rest.last;
      }

  module _ (metadata : List History) (hs : List (Happening P A)) (f : IsFormatted shape.geometry metadata) (sized : length metadata ≡ shape.geometry.meta_sectors) (run : IsRun shape (start shape metadata) hs) where
    kept : Kept_over (start shape metadata) (formatted shape) hs
    kept = over_run (start shape metadata) (formatted shape) hs (whole_start P A shape metadata f sized) run

    pub run_reads : AllReadRightly shape (start shape metadata) (formatted shape) hs
    run_reads = kept.reads

    pub run_opens : AllOpenRightly shape (start shape metadata) (formatted shape) hs
    run_opens = kept.opens

    pub run_consistent : CrashConsistent shape (noted shape (start shape metadata) (formatted shape) hs) (after_all shape (start shape metadata) hs).devices
    run_consistent = crash_consistent P A shape kept.last.goes.images (after_all shape (start shape metadata) hs) (noted shape (start shape metadata) (formatted shape) hs) kept.last.goes.known kept.last.goes.followed kept.last.inside.cache kept.last.inside.origin

    -- the seals tell where the target that stands has each block
    pub run_seals : SealsTell (after_all shape (start shape metadata) hs)
    run_seals = record { tells = λ t e block. (subst (λ (p : Phase P A). Keeping p (after_all shape (start shape metadata) hs).actors) e kept.last.keeping).tells block }

    pub run_promises : Headline shape metadata hs
    run_promises = record {
      skips = all_skip P A shape (start shape metadata) hs run;
      answers = kept.answers (run_covers P A shape metadata hs f sized run) (run_refuses P A shape metadata hs f sized run);
      crashes = run_consistent;
    }
