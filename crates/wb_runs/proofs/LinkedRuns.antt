-- Every run is linked: so whoever answers done has moved each of its sectors once, and an opening that is refused has a cause.
use Rattle.std.proofs.Common.{◌≡◌, ◌≢◌, ◌∙◌, inl, inr, ℕ, zero, suc, Bool, List, [], ◌∷◌, Option, Some, None, refl, sym, ap, subst, arith, length, slice_get, slice_set, replicate}
use Rattle.std.proofs.lemmas.Bool.{cases_eq}
use Rattle.std.proofs.lemmas.Option.{slice_get_within, slice_get-map}
use Rattle.wb_types.specs.declared.mode.Mode.{Mode}
use Rattle.wb_types.specs.declared.mode.Mode.TheVariants.{Writeback}
use Rattle.wb_types.specs.declared.refusal.Refusal.{Refusal}
use Rattle.wb_disk.specs.Device.{Content as Bytes, History}
use Rattle.wb_disk.specs.Crash.{Choice}
use Rattle.wb_disk.specs.Failing.{lands}
use Rattle.wb_meta.specs.Formats.{IsFormatted}
use Rattle.wb_meta.specs.declared.read_steps.ReadSteps.{ReadSteps}
use Rattle.wb_meta.specs.declared.read_steps.ReadSteps.TheVariants.{Done as AllRead}
use Rattle.wb_tasks.specs.Plan.{Plan, want, table, device_of}
use Rattle.wb_tasks.specs.Ready.{Suits}
use Rattle.wb_tasks.specs.declared.step.Answer.{Answer}
use Rattle.wb_tasks.specs.declared.step.Answer.TheVariants.{Done as Finished, Refused as Refuses}
use Rattle.wb_tasks.specs.declared.step.DeviceStep.{DeviceStep}
use Rattle.wb_tasks.specs.declared.step.Want.{Want}
use Rattle.wb_tasks.specs.declared.step.Want.TheVariants.{Cell, Device, Desk, End}
use Rattle.wb_tasks.specs.declared.step.Got.{Got}
use Rattle.wb_tasks.specs.declared.step.Got.TheVariants.{Fault}
use Rattle.wb_promise.specs.declared.job.Job.{Job}
use Rattle.wb_promise.specs.declared.job.Job.TheVariants.{Read, Write, Flush, Suspend, Open, Migrate, Replace, Invalidate}
use Rattle.wb_promise.specs.declared.event.Event.{Event}
use Rattle.wb_promise.specs.declared.event.Event.TheVariants.{Start, Step, FaultStep, Stop}
use Rattle.wb_promise.specs.declared.event.What.{What}
use Rattle.wb_promise.specs.declared.event.What.TheVariants.{Skipped, Started, Stepped, Stopped}
use Rattle.wb_desk.specs.Desks.{DeskState}
use Rattle.wb_runs.proofs.Given.{given_keeps}
use Rattle.wb_promise.specs.States.{Shape, State, Actor, Target, Phase, Stands, Gone, Opens, OfTarget, mode_of, resting, start}
use Rattle.wb_promise.specs.Happenings.{Chosen, Cut, Opened, Happening, OfSome, Gives, MayFailAt, Falters, DoesNotApply, MayBe, task_job, begun_as, StartsAs, Looks}
use Rattle.wb_promise.specs.Effects.{phase_then, phase_opened, phase_given, task_then, actor_then, stepped, with_actor, cleared, given, job_of, cut_of, device_done, device_failed, all_resting, after_what, after_happening, IsRun, looks_of}
use Rattle.wb_promise.specs.Clerk.{Notes, Doing, noted_step, noted_what, finished_note, begun, nobody, put, formatted}
use Rattle.wb_promise.specs.Headline.{SkipsRightly, AllSkipRightly, note_happening, noted}
use Rattle.wb_runs.specs.Laws.{RefusedBy, RefusedRightly, AllAlong, RefusesByCause, IsCovered, DoingCovers, AnswerCovers}
use Rattle.wb_contents.proofs.Lists.{set_other, set_there, replicated, replicated_there}
use Rattle.wb_runs.proofs.Lists.{rests, there_rests, free}
use Rattle.wb_runs.proofs.MetadataRuns.{IsKnown, known_after, known_at_start}
use Rattle.wb_runs.proofs.Modes.{IsAnswer, mode_stays, mode_faults, mode_given}
use Rattle.wb_runs.proofs.Passing.{target_stands}
use Rattle.wb_runs.proofs.Claims.{JobClaim, NotedClaim, TaskClaim, AllClaim, Noted, claim_set, noted_of, read_ends, write_ends}
use Rattle.wb_runs.proofs.Ruling.{each_set}
use Rattle.wb_runs.proofs.Using.{UsedRightly, used_what, used_start}
use Rattle.wb_runs.proofs.Opening.{IsServed, InPhase, open_refuses, opens_in}
use Rattle.wb_runs.proofs.Plans.{task_suits}
use Rattle.std.specs.Option.{option_map}
use Rattle.wb_runs.proofs.Linking.{TaskHere, IsTask, AtPhase, Linked, others_stay, claims_on, claims_failed}

all_none : (doings : List (Option Doing)) (b : ℕ) (o : Option Doing) → slice_get doings b ≡ Some o → slice_get (nobody doings) b ≡ Some None
all_none doings b o e = slice_get-map (λ (d : Option Doing). None) doings b ∙ ap (option_map (λ (d : Option Doing). None)) e

-- something is noted of each actor
noted_there : (shape : Shape) (mode : Mode) (t : Option (Job × Plan)) (d : Option (Option Doing)) → TaskClaim shape mode t d → (o : Option Doing) × (d ≡ Some o)
noted_there shape mode None d k = (None, k)
noted_there shape mode (Some task) d k = let c = noted_of shape mode task.0 task.1 d k in (Some c.doing, c.is)

module _ (P A : Type 0) (shape : Shape) where
  abbrev pub LinkedTo : State P A → Notes → Type 0
  LinkedTo w n = Linked {P = P} {A = A} shape w.phase w.actors n

  -- everybody rests
  idle : (actors : List Actor) (doings : List (Option Doing)) (phase : Phase P A) (n : Notes) → n.doings ≡ doings → ((b : ℕ) (z : Actor) → slice_get actors b ≡ Some z → (z.task ≡ None) × (slice_get doings b ≡ Some None)) → AtPhase phase actors → Linked shape phase actors n
  idle actors doings phase n same each alone = record {
    claims = λ b z e. let r = each b z e in subst (λ (t : Option (Job × Plan)). TaskClaim shape (mode_of phase) t (slice_get n.doings b)) (sym r.0) (ap (λ (ds : List (Option Doing)). slice_get ds b) same ∙ r.1);
    here = λ b z e. let r = each b z e in subst (λ (t : Option (Job × Plan)). TaskHere phase t) (sym r.0) tt;
    alone = alone;
  }

  all_idle : (mode : Mode) (actors : List Actor) (n : Notes) → AllClaim shape mode actors n.doings → (b : ℕ) (z : Actor) → slice_get (all_resting actors) b ≡ Some z → (z.task ≡ None) × (slice_get (nobody n.doings) b ≡ Some None)
  all_idle mode actors n claims b z e = let r = rests actors b z e in let d = noted_there shape mode r.1.0.task (slice_get n.doings b) (claims b r.1.0 r.1.1) in (r.0, all_none n.doings b d.0 d.1)

  -- ---- an actor's step

  -- its phase after a step that is no answer is of the same kind
  here_on : (phase : Phase P A) (next : Want) (got : Got) (chosen : Chosen P A) (t : Option (Job × Plan)) → ¬ IsAnswer next → TaskHere phase t → TaskHere (phase_then shape phase next got chosen) t
  here_on (Opens mode reading) (End answer) got chosen (Some task) o h = absurd (o tt)
  here_on phase next got chosen (Some task) o h = h
  here_on phase next got chosen None o h = tt

  here_after : (phase : Phase P A) (next : Want) (got : Got) (task : Option (Job × Plan)) → TaskHere phase task → TaskHere phase (task_then task next got)
  here_after phase next got None h = tt
  here_after phase (End answer) got (Some task) h = tt
  here_after phase next got (Some task) h = h

  still_task : (task : Option (Job × Plan)) (next : Want) (got : Got) → IsTask (task_then task next got) → IsTask task
  still_task None next got i = i
  still_task (Some task) next got i = tt

  module _ (w : State P A) (n : Notes) (l : LinkedTo w n) (a : ℕ) (x : Actor) (e : slice_get w.actors a ≡ Some x) (next : Want) (got : Got) (chosen : Chosen P A) where
    abbrev y : Actor
    y = actor_then shape w.phase w.devices x next got

    still_alone : (opener : ℕ) → ((b : ℕ) (z : Actor) → slice_get w.actors b ≡ Some z → IsTask z.task → b ≡ opener) → (b : ℕ) (z : Actor) → slice_get (slice_set w.actors a y) b ≡ Some z → IsTask z.task → b ≡ opener
    still_alone opener k b z f i = elim (cases_eq b a) [
      | inl s ↦ let is : Some y ≡ Some z = sym (set_there w.actors a x y e) ∙ ap (slice_get (slice_set w.actors a y)) (sym s) ∙ f in
          let same : y ≡ z = cc in
          s ∙ k a x e (still_task x.task next got (subst (λ (v : Actor). IsTask v.task) (sym same) i))
      | inr o ↦ k b z (sym (set_other w.actors a b y o) ∙ f) i
    ]

    alone_on : (phase : Phase P A) (v : Want) → ¬ IsAnswer v → AtPhase phase w.actors → AtPhase (phase_then shape phase v got chosen) (slice_set w.actors a y)
    alone_on (Stands t) v o k = tt
    alone_on Gone v o k = tt
    alone_on (Opens mode reading) (End answer) o k = absurd (o tt)
    alone_on (Opens mode reading) v o k = (k.0, still_alone k.0 k.1)

    -- it goes on
    goes_on : (n' : Notes) → ¬ IsAnswer next → mode_of (phase_then shape w.phase next got chosen) ≡ mode_of w.phase → ((b : ℕ) → b ≢ a → slice_get n'.doings b ≡ slice_get n.doings b) → TaskClaim shape (mode_of w.phase) y.task (slice_get n'.doings a) → Linked shape (phase_then shape w.phase next got chosen) (slice_set w.actors a y) n'
    goes_on n' o same others mine = record {
      claims = subst (λ (m : Mode). AllClaim shape m (slice_set w.actors a y) n'.doings) (sym same) (claim_set shape (mode_of w.phase) w.actors n.doings n'.doings a x y e others mine l.claims);
      here = each_set w.actors a x y (λ (z : Actor). TaskHere (phase_then shape w.phase next got chosen) z.task) e (here_after (phase_then shape w.phase next got chosen) next got x.task (here_on w.phase next got chosen x.task o (l.here a x e)))
          (λ b z f. here_on w.phase next got chosen z.task o (l.here b z f));
      alone = alone_on w.phase next o l.alone;
    }

  -- ---- an answer

  opened_alone : (mode : Mode) (reading : Option (ReadSteps A)) (chosen : Chosen P A) (actors : List Actor) → AtPhase (phase_opened shape mode reading chosen) actors
  opened_alone mode (Some (AllRead stored)) (Opened policy) actors = tt
  opened_alone mode (Some reading) (Opened policy) actors = tt
  opened_alone mode None (Opened policy) actors = tt
  opened_alone mode reading chosen actors = tt

  -- what is noted of others stays at an answer, but an opening's that is done
  answer_others : (mode : Mode) (shown : List Bytes) (n : Notes) (a : ℕ) (doing : Doing) (job : Job) (answer : Answer) (got : Got) (read : List Bytes) → IsServed job → doing.job ≡ job → (b : ℕ) → b ≢ a → slice_get (noted_step shape mode shown n a (Some (Some doing)) (End answer) got read).doings b ≡ slice_get n.doings b
  answer_others mode shown n a doing job (Refuses refusal) got read s j b o = set_other n.doings a b None o
  answer_others mode shown n a doing job Finished got read s j b o = subst (λ (q : Job). slice_get (finished_note n a doing q shown).doings b ≡ slice_get n.doings b) (sym j) (by_job job s)
    where
      by_job : (q : Job) → IsServed q → slice_get (finished_note n a doing q shown).doings b ≡ slice_get n.doings b
      by_job (Open opened_in second) s = absurd s
      by_job q s = set_other n.doings a b None o

  answer_mine : (mode : Mode) (shown : List Bytes) (n : Notes) (a : ℕ) (doing : Doing) (job : Job) (answer : Answer) (got : Got) (read : List Bytes) → IsServed job → doing.job ≡ job → slice_get n.doings a ≡ Some (Some doing) → slice_get (noted_step shape mode shown n a (Some (Some doing)) (End answer) got read).doings a ≡ Some None
  answer_mine mode shown n a doing job (Refuses refusal) got read s j e = set_there n.doings a (Some doing) None e
  answer_mine mode shown n a doing job Finished got read s j e = subst (λ (q : Job). slice_get (finished_note n a doing q shown).doings a ≡ Some None) (sym j) (by_job job s)
    where
      by_job : (q : Job) → IsServed q → slice_get (finished_note n a doing q shown).doings a ≡ Some None
      by_job (Open opened_in second) s = absurd s
      by_job q s = set_there n.doings a (Some doing) None e

  module _ (shown : List Bytes) (w : State P A) (n : Notes) (l : LinkedTo w n) (a : ℕ) (x : Actor) (e : slice_get w.actors a ≡ Some x) (job : Job) (plan : Plan) (xt : x.task ≡ Some (job, plan)) (answer : Answer) (got : Got) (read : List Bytes) (chosen : Chosen P A)
      (d : Noted shape (mode_of w.phase) job plan (slice_get n.doings a)) where
    abbrev y' : Actor
    y' = actor_then shape w.phase w.devices x (End answer) got

    abbrev n' : Notes
    n' = noted_step shape (mode_of w.phase) shown n a (Some (Some d.doing)) (End answer) got read

    rested : y'.task ≡ None
    rested = ap (λ (t : Option (Job × Plan)). task_then t (End answer) got) xt

    -- where a target stands
    served_ends : (phase : Phase P A) → w.phase ≡ phase → phase_then shape phase (End answer) got chosen ≡ phase → ((b : ℕ) (z : Actor) → slice_get w.actors b ≡ Some z → TaskHere phase z.task) → AtPhase phase (slice_set w.actors a y') → IsServed job → Linked shape (phase_then shape phase (End answer) got chosen) (slice_set w.actors a y') n'
    served_ends phase was same here alone s = subst (λ (p : Phase P A). Linked shape p (slice_set w.actors a y') n') (sym same) (record {
      claims = claim_set shape (mode_of phase) w.actors n.doings n'.doings a x y' e (answer_others (mode_of w.phase) shown n a d.doing job answer got read s d.job_is)
          (subst (λ (t : Option (Job × Plan)). TaskClaim shape (mode_of phase) t (slice_get n'.doings a)) (sym rested) (answer_mine (mode_of w.phase) shown n a d.doing job answer got read s d.job_is d.is)) (subst (λ (p : Phase P A). AllClaim shape (mode_of p) w.actors n.doings) was l.claims);
      here = each_set w.actors a x y' (λ (z : Actor). TaskHere phase z.task) e (subst (λ (t : Option (Job × Plan)). TaskHere phase t) (sym rested) tt) here;
      alone = alone;
    })

    -- nobody has a task once an opening was answered
    all_rest_then : (opener : ℕ) → ((b : ℕ) (z : Actor) → slice_get w.actors b ≡ Some z → IsTask z.task → b ≡ opener) → (b : ℕ) (z : Actor) → slice_get (slice_set w.actors a y') b ≡ Some z → z.task ≡ None
    all_rest_then opener alone b z f = elim (cases_eq b a) [
      | inl s ↦ let is : Some y' ≡ Some z = sym (set_there w.actors a x y' e) ∙ ap (slice_get (slice_set w.actors a y')) (sym s) ∙ f in
          let same : y' ≡ z = cc in subst (λ (v : Actor). v.task ≡ None) same rested
      | inr o ↦ other z.task refl (λ i. o (alone b z (sym (set_other w.actors a b y' o) ∙ f) i ∙ sym (alone a x e (subst (λ (t : Option (Job × Plan)). IsTask t) (sym xt) tt))))
    ]
      where
        other : (t : Option (Job × Plan)) → z.task ≡ t → (IsTask t → ⊥) → z.task ≡ None
        other None s i = s
        other (Some task) s i = absurd (i tt)

    was_there : (b : ℕ) (z : Actor) → slice_get (slice_set w.actors a y') b ≡ Some z → (o : Option Doing) × (slice_get n.doings b ≡ Some o)
    was_there b z f = elim (cases_eq b a) [
      | inl s ↦ (Some d.doing, ap (slice_get n.doings) s ∙ d.is)
      | inr o ↦ let old = sym (set_other w.actors a b y' o) ∙ f in noted_there shape (mode_of w.phase) z.task (slice_get n.doings b) (l.claims b z old)
    ]

    opens_end : (mode : Mode) (reading : Option (ReadSteps A)) (opener : ℕ) → ((b : ℕ) (z : Actor) → slice_get w.actors b ≡ Some z → IsTask z.task → b ≡ opener) → (mode' : Mode) (second : Bool) → job ≡ Open mode' second → Linked shape (phase_opened shape mode reading chosen) (slice_set w.actors a y') n'
    opens_end mode reading opener alone mode' second j = by_answer answer refl
      where
        none : (b : ℕ) (z : Actor) → slice_get (slice_set w.actors a y') b ≡ Some z → z.task ≡ None
        none = all_rest_then opener alone

        begun_doings : List (Option Doing)
        begun_doings = replicate (length n.doings) None

        begun_there : (b : ℕ) (z : Actor) → slice_get (slice_set w.actors a y') b ≡ Some z → slice_get begun_doings b ≡ Some None
        begun_there b z f = let o = was_there b z f in replicated_there {X = Option Doing} (length n.doings) b None (slice_get_within n.doings b o.0 o.1)

        put_there : (b : ℕ) (z : Actor) → slice_get (slice_set w.actors a y') b ≡ Some z → slice_get (slice_set n.doings a None) b ≡ Some None
        put_there b z f = elim (cases_eq b a) [
          | inl s ↦ ap (slice_get (slice_set n.doings a None)) s ∙ set_there n.doings a (Some d.doing) None d.is
          | inr o ↦ set_other n.doings a b None o ∙ (let old = sym (set_other w.actors a b y' o) ∙ f in subst (λ (t : Option (Job × Plan)). TaskClaim shape (mode_of w.phase) t (slice_get n.doings b)) (none b z f) (l.claims b z old))
        ]

        by_answer : (v : Answer) → answer ≡ v → Linked shape (phase_opened shape mode reading chosen) (slice_set w.actors a y') n'
        by_answer Finished v = idle (slice_set w.actors a y') begun_doings (phase_opened shape mode reading chosen) n'
            (ap (λ (q : Answer). (noted_step shape (mode_of w.phase) shown n a (Some (Some d.doing)) (End q) got read).doings) v ∙ ap (λ (q : Job). (finished_note n a d.doing q shown).doings) (d.job_is ∙ j)) (λ b z f. (none b z f, begun_there b z f)) (opened_alone mode reading chosen (slice_set w.actors a y'))
        by_answer (Refuses refusal) v = idle (slice_set w.actors a y') (slice_set n.doings a None) (phase_opened shape mode reading chosen) n'
            (ap (λ (q : Answer). (noted_step shape (mode_of w.phase) shown n a (Some (Some d.doing)) (End q) got read).doings) v) (λ b z f. (none b z f, put_there b z f)) (opened_alone mode reading chosen (slice_set w.actors a y'))

    pub answers : (phase : Phase P A) → w.phase ≡ phase → Linked shape (phase_then shape phase (End answer) got chosen) (slice_set w.actors a y') n'
    answers (Stands t) p = served_ends (Stands t) p refl (λ b z f. subst (λ (q : Phase P A). TaskHere q z.task) p (l.here b z f)) tt (subst (λ (q : Phase P A). InPhase q job) p (subst (λ (t : Option (Job × Plan)). TaskHere w.phase t) xt (l.here a x e)))
    answers Gone p = absurd (subst (λ (q : Phase P A). InPhase q job) p (subst (λ (t : Option (Job × Plan)). TaskHere w.phase t) xt (l.here a x e)))
    answers (Opens mode reading) p =
        let alone = subst (λ (q : Phase P A). AtPhase q w.actors) p l.alone in
        let o = opens_in mode job (subst (λ (q : Phase P A). InPhase q job) p (subst (λ (t : Option (Job × Plan)). TaskHere w.phase t) xt (l.here a x e))) in
        opens_end mode reading alone.0 alone.1 mode o.0 o.1

  -- ---- whoever takes a step

  module _ (shown : List Bytes) (w : State P A) (n : Notes) (known : IsKnown P A shape w) (l : LinkedTo w n) (u : UsedRightly P A shape w.phase w.actors) (a : ℕ) where
    noted_for : (x : Actor) (job : Job) (plan : Plan) → slice_get w.actors a ≡ Some x → x.task ≡ Some (job, plan) → Noted shape (mode_of w.phase) job plan (slice_get n.doings a)
    noted_for x job plan e xt = noted_of shape (mode_of w.phase) job plan (slice_get n.doings a) (subst (λ (t : Option (Job × Plan)). TaskClaim shape (mode_of w.phase) t (slice_get n.doings a)) xt (l.claims a x e))

    suits_for : (x : Actor) (job : Job) (plan : Plan) → slice_get w.actors a ≡ Some x → x.task ≡ Some (job, plan) → Suits shape.geometry.origin_blocks plan x.card
    suits_for x job plan e xt = task_suits shape.geometry.origin_blocks x xt (u.suited a x e)

    one_steps : (x : Actor) (job : Job) (plan : Plan) (next : Want) (got : Got) (read : List Bytes) (chosen : Chosen P A) → slice_get w.actors a ≡ Some x → x.task ≡ Some (job, plan) → next ≡ want plan → Gives shape w x job next got read chosen →
        Linked shape (phase_then shape w.phase next got chosen) (slice_set w.actors a (actor_then shape w.phase w.devices x next got)) (noted_step shape (mode_of w.phase) shown n a (slice_get n.doings a) next got read)
    one_steps x job plan next got read chosen e xt h g =
        let d = noted_for x job plan e xt in
        subst (λ (o : Option (Option Doing)). Linked shape (phase_then shape w.phase next got chosen) (slice_set w.actors a (actor_then shape w.phase w.devices x next got)) (noted_step shape (mode_of w.phase) shown n a o next got read)) (sym d.is) (by_next d next h g)
      where
        here : InPhase w.phase job
        here = subst (λ (t : Option (Job × Plan)). TaskHere w.phase t) xt (l.here a x e)

        by_next : (d : Noted shape (mode_of w.phase) job plan (slice_get n.doings a)) (next : Want) → next ≡ want plan → Gives shape w x job next got read chosen → Linked shape (phase_then shape w.phase next got chosen) (slice_set w.actors a (actor_then shape w.phase w.devices x next got)) (noted_step shape (mode_of w.phase) shown n a (Some (Some d.doing)) next got read)
        by_next d (Cell step) h g = goes_on w n l a x e (Cell step) got chosen (noted_step shape (mode_of w.phase) shown n a (Some (Some d.doing)) (Cell step) got read) (λ z. z) (mode_stays P A shape w x job (Cell step) got read chosen (λ z. z) g) (λ b o. refl)
            (subst (λ (t : Option (Job × Plan)). TaskClaim shape (mode_of w.phase) (task_then t (Cell step) got) (slice_get (noted_step shape (mode_of w.phase) shown n a (Some (Some d.doing)) (Cell step) got read).doings a)) (sym xt)
            (claims_on P A shape w n known.images known.known a x d.doing d.is plan (suits_for x job plan e xt) (mode_of w.phase) shown job (Cell step) got read chosen tt d.job_is d.claim h g here))
        by_next d (Device step) h g = goes_on w n l a x e (Device step) got chosen (noted_step shape (mode_of w.phase) shown n a (Some (Some d.doing)) (Device step) got read) (λ z. z) (mode_stays P A shape w x job (Device step) got read chosen (λ z. z) g) (others_stay shape (mode_of w.phase) shown n a d.doing step got read)
            (subst (λ (t : Option (Job × Plan)). TaskClaim shape (mode_of w.phase) (task_then t (Device step) got) (slice_get (noted_step shape (mode_of w.phase) shown n a (Some (Some d.doing)) (Device step) got read).doings a)) (sym xt)
            (claims_on P A shape w n known.images known.known a x d.doing d.is plan (suits_for x job plan e xt) (mode_of w.phase) shown job (Device step) got read chosen tt d.job_is d.claim h g here))
        by_next d (Desk step) h g = goes_on w n l a x e (Desk step) got chosen (noted_step shape (mode_of w.phase) shown n a (Some (Some d.doing)) (Desk step) got read) (λ z. z) (mode_stays P A shape w x job (Desk step) got read chosen (λ z. z) g) (λ b o. refl)
            (subst (λ (t : Option (Job × Plan)). TaskClaim shape (mode_of w.phase) (task_then t (Desk step) got) (slice_get (noted_step shape (mode_of w.phase) shown n a (Some (Some d.doing)) (Desk step) got read).doings a)) (sym xt)
            (claims_on P A shape w n known.images known.known a x d.doing d.is plan (suits_for x job plan e xt) (mode_of w.phase) shown job (Desk step) got read chosen tt d.job_is d.claim h g here))
        by_next d (End answer) h g = answers shown w n l a x e job plan xt answer got read chosen d w.phase refl

    one_faults : (x : Actor) (job : Job) (plan : Plan) (step : DeviceStep) (read : List Bytes) (chosen : Chosen P A) → slice_get w.actors a ≡ Some x → x.task ≡ Some (job, plan) → Device step ≡ want plan →
        Linked shape (phase_then shape w.phase (Device step) Fault chosen) (slice_set w.actors a (actor_then shape w.phase w.devices x (Device step) Fault)) (noted_step shape (mode_of w.phase) shown n a (slice_get n.doings a) (Device step) Fault read)
    one_faults x job plan step read chosen e xt h =
        let d = noted_for x job plan e xt in
        subst (λ (o : Option (Option Doing)). Linked shape (phase_then shape w.phase (Device step) Fault chosen) (slice_set w.actors a (actor_then shape w.phase w.devices x (Device step) Fault)) (noted_step shape (mode_of w.phase) shown n a o (Device step) Fault read)) (sym d.is)
        (goes_on w n l a x e (Device step) Fault chosen (noted_step shape (mode_of w.phase) shown n a (Some (Some d.doing)) (Device step) Fault read) (λ z. z) (mode_faults P A shape w.phase step Fault chosen) (others_stay shape (mode_of w.phase) shown n a d.doing step Fault read)
        (subst (λ (t : Option (Job × Plan)). TaskClaim shape (mode_of w.phase) (task_then t (Device step) Fault) (slice_get (noted_step shape (mode_of w.phase) shown n a (Some (Some d.doing)) (Device step) Fault read).doings a)) (sym xt)
        (claims_failed P A shape w n known.images known.known a x d.doing d.is plan (suits_for x job plan e xt) (mode_of w.phase) shown job step read d.job_is d.claim h)))

    step_links : (next : Want) (got : Got) (read : List Bytes) (chosen : Chosen P A) (o : Option Actor) → slice_get w.actors a ≡ o → OfSome o (λ x. OfSome x.task (λ doing. (next ≡ want doing.1) × Gives shape w x doing.0 next got read chosen)) →
        LinkedTo (with_actor w o (λ x. stepped shape w a x next got chosen (λ step. device_done (job_of x.task) x.buffer step chosen))) (noted_step shape (mode_of w.phase) shown n a (slice_get n.doings a) next got read)
    step_links next got read chosen None e h = absurd h
    step_links next got read chosen (Some x) e h = by_task x.task refl h
      where
        by_task : (t : Option (Job × Plan)) → x.task ≡ t → OfSome t (λ doing. (next ≡ want doing.1) × Gives shape w x doing.0 next got read chosen) →
            LinkedTo (stepped shape w a x next got chosen (λ step. device_done (job_of x.task) x.buffer step chosen)) (noted_step shape (mode_of w.phase) shown n a (slice_get n.doings a) next got read)
        by_task None xt h = absurd h
        by_task (Some doing) xt h = one_steps x doing.0 doing.1 next got read chosen e xt h.0 h.1

    fault_links : (choice : Choice) (next : Want) (read : List Bytes) (chosen : Chosen P A) (o : Option Actor) → slice_get w.actors a ≡ o → OfSome o (λ x. OfSome x.task (λ doing. (next ≡ want doing.1) × MayFailAt w.devices choice next × Falters w choice next chosen)) →
        LinkedTo (with_actor w o (λ x. stepped shape w a x next Fault chosen (λ step. device_failed (lands (device_of step) choice) (job_of x.task) x.buffer step chosen))) (noted_step shape (mode_of w.phase) shown n a (slice_get n.doings a) next Fault read)
    fault_links choice next read chosen None e h = absurd h
    fault_links choice next read chosen (Some x) e h = by_task x.task refl h
      where
        by_next : (job : Job) (plan : Plan) (next : Want) → x.task ≡ Some (job, plan) → next ≡ want plan → MayFailAt w.devices choice next → LinkedTo (stepped shape w a x next Fault chosen (λ step. device_failed (lands (device_of step) choice) (job_of x.task) x.buffer step chosen)) (noted_step shape (mode_of w.phase) shown n a (slice_get n.doings a) next Fault read)
        by_next job plan (Device step) xt h m = one_faults x job plan step read chosen e xt h
        by_next job plan next xt h m = absurd m

        by_task : (t : Option (Job × Plan)) → x.task ≡ t → OfSome t (λ doing. (next ≡ want doing.1) × MayFailAt w.devices choice next × Falters w choice next chosen) →
            LinkedTo (stepped shape w a x next Fault chosen (λ step. device_failed (lands (device_of step) choice) (job_of x.task) x.buffer step chosen)) (noted_step shape (mode_of w.phase) shown n a (slice_get n.doings a) next Fault read)
        by_task None xt h = absurd h
        by_task (Some doing) xt h = by_next doing.0 doing.1 next xt h.0 h.1

  -- ---- starts

  same_here : (phase : Phase P A) (job : Job) (chosen : Chosen P A) (t : Option (Job × Plan)) → TaskHere phase t → TaskHere (phase_given phase job chosen) t
  same_here phase job chosen t h = given_keeps (λ (q : Phase P A). TaskHere q t) (by_task t) phase job chosen h
    where
      by_task : (task : Option (Job × Plan)) → (t : Target P) (desk : DeskState P) → TaskHere {P = P} {A = A} (Stands t) task → TaskHere {P = P} {A = A} (Stands (record { words = t.words; desk = desk })) task
      by_task None t desk h = tt
      by_task (Some task) t desk h = h

  same_alone : (t : _) (job : Job) (chosen : Chosen P A) (actors : List Actor) → AtPhase (phase_given {P = P} {A = A} (Stands t) job chosen) actors
  same_alone t job chosen actors = given_keeps (λ (q : Phase P A). AtPhase q actors) (λ t desk k. k) (Stands t) job chosen tt

  abbrev Started_so : List Bytes → State P A → Notes → ℕ → Job → Chosen P A → Option Actor → Type 0
  Started_so shown w n a job chosen o = LinkedTo (with_actor (cleared w job) o (λ x. record (cleared w job) { phase = phase_given (cleared w job).phase job chosen; actors = slice_set (cleared w job).actors a (given shape (mode_of (cleared w job).phase) x job chosen) })) (noted_what shape (mode_of w.phase) shown n (Start a job) Started [])

  -- a request, a flush or a migration starts where a target stands
  served_starts : (phase : Phase P A) (actors : List Actor) (n : Notes) (a : ℕ) (x y : Actor) (job : Job) (plan : Plan) (chosen : Chosen P A) → Linked shape phase actors n → slice_get actors a ≡ Some x → x.task ≡ None → y.task ≡ Some (begun_as job, plan) → IsServed (begun_as job) → JobClaim shape (mode_of phase) (begun_as job) plan (begun n (begun_as job)) → (¬ ¬ OfTarget phase (λ t. Unit {0})) →
      Linked shape (phase_given phase job chosen) (slice_set actors a y) (put n a (Some (begun n (begun_as job))))
  served_starts (Stands t) actors n a x y job plan chosen l e xt yt s c there = record {
    claims = subst (λ (m : Mode). AllClaim shape m (slice_set actors a y) (slice_set n.doings a (Some (begun n (begun_as job))))) (sym (mode_given P A (Stands t) job chosen))
        (claim_set shape t.desk.mode actors n.doings (slice_set n.doings a (Some (begun n (begun_as job)))) a x y e (λ b o. set_other n.doings a b (Some (begun n (begun_as job))) o)
        (subst (λ (q : Option (Job × Plan)). TaskClaim shape t.desk.mode q (slice_get (slice_set n.doings a (Some (begun n (begun_as job)))) a)) (sym yt)
        (subst (λ (o : Option (Option Doing)). NotedClaim shape t.desk.mode (begun_as job) plan o) (sym (set_there n.doings a None (Some (begun n (begun_as job))) (subst (λ (q : Option (Job × Plan)). TaskClaim shape t.desk.mode q (slice_get n.doings a)) xt (l.claims a x e)))) (refl, c))) l.claims);
    here = each_set actors a x y (λ (z : Actor). TaskHere (phase_given (Stands t) job chosen) z.task) e (same_here (Stands t) job chosen y.task (subst (λ (q : Option (Job × Plan)). TaskHere {P = P} {A = A} (Stands t) q) (sym yt) s)) (λ b z f. same_here (Stands t) job chosen z.task (l.here b z f));
    alone = same_alone t job chosen (slice_set actors a y);
  }
  served_starts phase actors n a x y job plan chosen l e xt yt s c there = absurd (there (λ z. z))

  starts : (shown : List Bytes) (w : State P A) (n : Notes) (a : ℕ) (job : Job) (chosen : Chosen P A) → LinkedTo w n → (¬ DoesNotApply w (Start a job)) → StartsAs shape w a job Started chosen → Started_so shown w n a job chosen (slice_get (cleared w job).actors a)
  starts shown w n a (Open mode second) chosen l applies gives = by_actor (slice_get (all_resting w.actors) a) refl
    where
      by_actor : (o : Option Actor) → slice_get (all_resting w.actors) a ≡ o → Started_so shown w n a (Open mode second) chosen o
      by_actor None f = absurd (found (slice_get w.actors a) refl)
        where
          found : (o : Option Actor) → slice_get w.actors a ≡ o → ⊥
          found None g = applies (inl g)
          found (Some x) g = let r = there_rests w.actors a x g in let bad : Some resting ≡ None = sym r ∙ f in absurd (cc)
      by_actor (Some x) f =
          let r = rests w.actors a x f in
          let m = begun n (Open mode second) in
          let y : Actor = given shape Writeback x (Open mode second) chosen in
          let old = all_idle (mode_of w.phase) w.actors n l.claims in
          let mine = set_there (nobody n.doings) a None (Some m) (old a x f).1 in
          let yt : y.task ≡ Some (Open mode second, table (task_job shape Writeback [] (Open mode second) (cut_of chosen) (looks_of chosen))) = refl in
          record {
            claims = λ b z g. elim (cases_eq b a) [
              | inl s ↦ let is : Some y ≡ Some z = sym (set_there (all_resting w.actors) a x y f) ∙ ap (slice_get (slice_set (all_resting w.actors) a y)) (sym s) ∙ g in
                  let same : y ≡ z = cc in
                  subst (λ (k : ℕ). TaskClaim shape Writeback z.task (slice_get (slice_set (nobody n.doings) a (Some m)) k)) (sym s) (subst (λ (v : Actor). TaskClaim shape Writeback v.task (slice_get (slice_set (nobody n.doings) a (Some m)) a)) same
                  (subst (λ (o : Option (Option Doing)). NotedClaim shape Writeback (Open mode second) (table (task_job shape Writeback [] (Open mode second) (cut_of chosen) (looks_of chosen))) o) (sym mine) (refl, record { left = shape.geometry.meta_sectors; job_is = refl; fine = tt; cause = λ q h. absurd (cc) })))
              | inr o ↦ let was = old b z (sym (set_other (all_resting w.actors) a b y o) ∙ g) in
                  subst (λ (t : Option (Job × Plan)). TaskClaim shape Writeback t (slice_get (slice_set (nobody n.doings) a (Some m)) b)) (sym was.0) (set_other (nobody n.doings) a b (Some m) o ∙ was.1)
            ];
            here = each_set (all_resting w.actors) a x y (λ (z : Actor). TaskHere {P = P} {A = A} (Opens mode None) z.task) f refl (λ b z g. subst (λ (t : Option (Job × Plan)). TaskHere {P = P} {A = A} (Opens mode None) t) (sym (old b z g).0) tt);
            alone = (
              a,
              λ b z g i. elim (cases_eq b a) [
                | inl s ↦ s
                | inr o ↦ absurd (subst (λ (t : Option (Job × Plan)). IsTask t) (old b z (sym (set_other (all_resting w.actors) a b y o) ∙ g)).0 i)
              ],
            );
          }
  starts shown w n a (Read extent) (Cut cut) l applies gives =
      let f = free P A w a (Read extent) applies in
      subst (λ (o : Option Actor). Started_so shown w n a (Read extent) (Cut cut) o) (sym f.1)
      (served_starts w.phase w.actors n a f.0 (given {P = P} {A = A} shape (mode_of w.phase) f.0 (Read extent) (Cut cut)) (Read extent) (table (task_job shape (mode_of w.phase) [] (Read extent) cut [])) (Cut cut) l f.1 f.2 refl tt (record { cut = cut; is_job = refl; cuts = gives.1; inside = gives.0; covers = λ d. refl }) (λ p. applies (inr (inr (inr p)))))
  starts shown w n a (Write extent content) (Cut cut) l applies gives =
      let f = free P A w a (Write extent content) applies in
      subst (λ (o : Option Actor). Started_so shown w n a (Write extent content) (Cut cut) o) (sym f.1)
      (served_starts w.phase w.actors n a f.0 (given {P = P} {A = A} shape (mode_of w.phase) f.0 (Write extent content) (Cut cut)) (Write extent content) (table (task_job shape (mode_of w.phase) [] (Write extent content) cut [])) (Cut cut) l f.1 f.2 refl tt (record { cut = cut; is_job = refl; cuts = gives.1; inside = gives.0; covers = λ d. refl }) (λ p. applies (inr (inr (inr p)))))
  starts shown w n a Flush chosen l applies gives =
      let f = free P A w a Flush applies in
      subst (λ (o : Option Actor). Started_so shown w n a Flush chosen o) (sym f.1)
      (served_starts w.phase w.actors n a f.0 (given shape (mode_of w.phase) f.0 Flush chosen) Flush _ chosen l f.1 f.2 refl tt tt (λ p. applies (inr (inr (inr p)))))
  starts shown w n a Suspend (Looks looks) l applies gives =
      let f = free P A w a Suspend applies in
      subst (λ (o : Option Actor). Started_so shown w n a Suspend (Looks looks) o) (sym f.1)
      (served_starts w.phase w.actors n a f.0 (given {P = P} {A = A} shape (mode_of w.phase) f.0 Suspend (Looks looks)) Suspend _ (Looks looks) l f.1 f.2 refl tt tt (λ p. applies (inr (inr (inr p)))))
  starts shown w n a (Invalidate block) chosen l applies gives =
      let f = free P A w a (Invalidate block) applies in
      subst (λ (o : Option Actor). Started_so shown w n a (Invalidate block) chosen o) (sym f.1)
      (served_starts w.phase w.actors n a f.0 (given shape (mode_of w.phase) f.0 (Invalidate block) chosen) (Invalidate block) _ chosen l f.1 f.2 refl tt tt (λ p. applies (inr (inr (inr (λ o. p (target_stands w.phase o)))))))
  starts shown w n a (Migrate migration block) chosen l applies gives =
      let f = free P A w a (Migrate migration block) applies in
      subst (λ (o : Option Actor). Started_so shown w n a (Migrate migration block) chosen o) (sym f.1)
      (served_starts w.phase w.actors n a f.0 (given shape (mode_of w.phase) f.0 (Migrate migration block) chosen) (Migrate migration block) _ chosen l f.1 f.2 refl tt tt (λ p. applies (inr (inr (inr p)))))
  starts shown w n a (Replace old new) chosen l applies gives =
      let f = free P A w a (Replace old new) applies in
      subst (λ (o : Option Actor). Started_so shown w n a (Replace old new) chosen o) (sym f.1)
      (served_starts w.phase w.actors n a f.0 (given shape (mode_of w.phase) f.0 (Replace old new) chosen) (Replace old new) _ chosen l f.1 f.2 refl tt tt (λ p. applies (inr (inr (inr p)))))
  starts shown w n a job chosen l applies gives = absurd gives

  -- ---- every event

  pub links_what : (shown : List Bytes) (w : State P A) (n : Notes) (event : Event) (what : What) (read : List Bytes) (chosen : Chosen P A) → IsKnown P A shape w → UsedRightly P A shape w.phase w.actors → LinkedTo w n → MayBe shape w event what read chosen →
      LinkedTo (after_what shape w event what chosen) (noted_what shape (mode_of w.phase) shown n event what read)
  links_what shown w n (Start a job) Started read chosen k u l h = starts shown w n a job chosen l h.1 h.2
  links_what shown w n (Step a) (Stepped next got) read chosen k u l h = step_links shown w n k l u a next got read chosen (slice_get w.actors a) refl h
  links_what shown w n (FaultStep a choice) (Stepped next got) read chosen k u l h =
      subst (λ (g : Got). LinkedTo (after_what shape w (FaultStep a choice) (Stepped next g) chosen) (noted_what shape (mode_of w.phase) shown n (FaultStep a choice) (Stepped next g) read)) (sym h.1) (fault_links shown w n k l u a choice next read chosen (slice_get w.actors a) refl h.2)
  links_what shown w n (Stop choice) Stopped read chosen k u l h = idle (all_resting w.actors) (nobody n.doings) Gone (record n { doings = nobody n.doings }) refl (all_idle (mode_of w.phase) w.actors n l.claims) tt
  links_what shown w n event what read chosen k u l h = l

  pub links_start : (metadata : List History) → LinkedTo (start shape metadata) (formatted shape)
  links_start metadata = idle (replicate shape.actors resting) (replicate shape.actors None) Gone (formatted shape) refl
      (λ b z e. let same = sym (replicated shape.actors b resting z e) in (ap (λ (v : Actor). v.task) same, replicated_there shape.actors b None (inside shape.actors b z e))) tt
    where
      inside : (k b : ℕ) (z : Actor) → slice_get (replicate k resting) b ≡ Some z → Rattle.std.specs.Prelude.◌<◌ b k
      inside zero b z e = absurd (cc)
      inside (suc k) zero z e = omega arith
      inside (suc k) (suc b) z e = let r = inside k b z e in omega (arith, r)

  -- what every run keeps
  pub record Base (w : State P A) (n : Notes) : Type 0 where
    pub known : IsKnown P A shape w
    pub used : UsedRightly P A shape w.phase w.actors
    pub linked : LinkedTo w n

  pub base_after : (w : State P A) (n : Notes) (h : Happening P A) → Base w n → MayBe shape w h.record_is.event h.record_is.what h.record_is.read.items h.chosen → Base (after_happening shape w h) (note_happening shape w n h)
  base_after w n h b m = record {
    known = known_after P A shape w h b.known m;
    used = used_what P A shape w h.record_is.event h.record_is.what h.record_is.read.items h.chosen b.known b.used m;
    linked = links_what (Rattle.wb_promise.specs.Headline.shown shape (after_happening shape w h)) w n h.record_is.event h.record_is.what h.record_is.read.items h.chosen b.known b.used b.linked m;
  }

  pub base_start : (metadata : List History) → IsFormatted shape.geometry metadata → length metadata ≡ shape.geometry.meta_sectors → Base (start shape metadata) (formatted shape)
  base_start metadata f size = record { known = known_at_start P A shape metadata f size; used = used_start P A shape metadata; linked = links_start metadata }

  -- ---- answers

  refused_by : (mode : Mode) (job : Job) (plan : Plan) (doing : Doing) (refusal : Refusal) → JobClaim shape mode job plan doing → End (Refuses refusal) ≡ want plan → RefusedBy doing job refusal
  refused_by mode (Open opened_in second) plan doing refusal c e = open_refuses plan doing refusal c e
  refused_by mode job plan doing refusal c e = tt

  covered : (mode : Mode) (job : Job) (plan : Plan) (x : Actor) (doing : Doing) (answer : Answer) → Suits shape.geometry.origin_blocks plan x.card → JobClaim shape mode job plan doing → End answer ≡ want plan → IsCovered doing job answer
  covered mode (Read extent) plan x doing Finished s c e = read_ends shape mode plan x s extent doing c e
  covered mode (Write extent content) plan x doing Finished s c e = write_ends shape mode plan x s extent content doing c e
  covered mode job plan x doing answer s c e = tt

  module _ (w : State P A) (n : Notes) (b : Base w n) (a : ℕ) (answer : Answer) where
    -- what an answer says, of whoever gives it
    of_answer : (Says : Doing → Job → Type 0) (got : Got) (read : List Bytes) (chosen : Chosen P A) → ((x : Actor) (job : Job) (plan : Plan) (doing : Doing) → Suits shape.geometry.origin_blocks plan x.card → JobClaim shape (mode_of w.phase) job plan doing → End answer ≡ want plan → Says doing job) → (o : Option Actor) → slice_get w.actors a ≡ o →
        OfSome o (λ x. OfSome x.task (λ doing. (End answer ≡ want doing.1) × Gives shape w x doing.0 (End answer) got read chosen)) → (d : Doing) × (slice_get n.doings a ≡ Some (Some d)) × Says d d.job
    of_answer Says got read chosen says None e h = absurd h
    of_answer Says got read chosen says (Some x) e h = by_task x.task refl h
      where
        by_task : (t : Option (Job × Plan)) → x.task ≡ t → OfSome t (λ doing. (End answer ≡ want doing.1) × Gives shape w x doing.0 (End answer) got read chosen) → (d : Doing) × (slice_get n.doings a ≡ Some (Some d)) × Says d d.job
        by_task None xt h = absurd h
        by_task (Some doing) xt h =
            let d = noted_of shape (mode_of w.phase) doing.0 doing.1 (slice_get n.doings a) (subst (λ (t : Option (Job × Plan)). TaskClaim shape (mode_of w.phase) t (slice_get n.doings a)) xt (b.linked.claims a x e)) in
            let s = task_suits shape.geometry.origin_blocks x xt (b.used.suited a x e) in
            (d.doing, d.is, subst (λ (j : Job). Says d.doing j) (sym d.job_is) (says x doing.0 doing.1 d.doing s d.claim h.0))

  refuses_rightly : (w : State P A) (n : Notes) (event : Event) (what : What) (read : List Bytes) (chosen : Chosen P A) → Base w n → MayBe shape w event what read chosen → RefusesByCause n event what
  refuses_rightly w n (Step a) (Stepped (End (Refuses refusal)) got) read chosen b h =
      let d = of_answer w n b a (Refuses refusal) (λ doing job. RefusedBy doing job refusal) got read chosen (λ x job plan doing s c e. refused_by (mode_of w.phase) job plan doing refusal c e) (slice_get w.actors a) refl h in
      subst (λ (o : Option (Option Doing)). RefusedRightly o refusal) (sym d.1) d.2
  refuses_rightly w n event what read chosen b h = tt

  covers_rightly : (w : State P A) (n : Notes) (event : Event) (what : What) (read : List Bytes) (chosen : Chosen P A) → Base w n → MayBe shape w event what read chosen → AnswerCovers n event what
  covers_rightly w n (Step a) (Stepped (End answer) got) read chosen b h =
      let d = of_answer w n b a answer (λ doing job. IsCovered doing job answer) got read chosen (λ x job plan doing s c e. covered (mode_of w.phase) job plan x doing answer s c e) (slice_get w.actors a) refl h in
      subst (λ (o : Option (Option Doing)). DoingCovers o answer) (sym d.1) d.2
  covers_rightly w n event what read chosen b h = tt

  all_along : (Holds : Notes → Event → What → Type 0) → ((w : State P A) (n : Notes) (event : Event) (what : What) (read : List Bytes) (chosen : Chosen P A) → Base w n → MayBe shape w event what read chosen → Holds n event what) →
      (w : State P A) (n : Notes) (hs : List (Happening P A)) → Base w n → IsRun shape w hs → AllAlong Holds shape w n hs
  all_along Holds holds w n [] b r = tt
  all_along Holds holds w n (h ∷ hs) b r = (holds w n h.record_is.event h.record_is.what h.record_is.read.items h.chosen b r.0, all_along Holds holds (after_happening shape w h) (note_happening shape w n h) hs (base_after w n h b r.0) r.1)

  pub run_refuses : (metadata : List History) (hs : List (Happening P A)) → IsFormatted shape.geometry metadata → length metadata ≡ shape.geometry.meta_sectors → IsRun shape (start shape metadata) hs → AllAlong RefusesByCause shape (start shape metadata) (formatted shape) hs
  run_refuses metadata hs f size run = all_along RefusesByCause refuses_rightly (start shape metadata) (formatted shape) hs (base_start metadata f size) run

  pub run_covers : (metadata : List History) (hs : List (Happening P A)) → IsFormatted shape.geometry metadata → length metadata ≡ shape.geometry.meta_sectors → IsRun shape (start shape metadata) hs → AllAlong AnswerCovers shape (start shape metadata) (formatted shape) hs
  run_covers metadata hs f size run = all_along AnswerCovers covers_rightly (start shape metadata) (formatted shape) hs (base_start metadata f size) run

  -- ---- what is skipped

  skips_rightly : (w : State P A) (event : Event) (what : What) (read : List Bytes) (chosen : Chosen P A) → MayBe shape w event what read chosen → SkipsRightly w event what
  skips_rightly w event Skipped read chosen h = h.1
  skips_rightly w event what read chosen h = tt

  pub all_skip : (w : State P A) (hs : List (Happening P A)) → IsRun shape w hs → AllSkipRightly shape w hs
  all_skip w [] run = tt
  all_skip w (h ∷ hs) run = (skips_rightly w h.record_is.event h.record_is.what h.record_is.read.items h.chosen run.0, all_skip (after_happening shape w h) hs run.1)
