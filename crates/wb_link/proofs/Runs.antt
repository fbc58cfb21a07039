-- Every run of the world is a run of the contents machine, whose histories are the clerk's.
use Rattle.std.proofs.Common.{◌≡◌, inl, inr, ℕ, true, List, [], Option, Some, None, refl, sym, ap, subst, ◌∙◌, arith, replicate, slice_get, slice_set}
use Rattle.wb_disk.specs.Device.{Content, History, newest, only}
use Rattle.wb_contents.specs.Volume.{Volume, changed}
use Rattle.wb_contents.specs.Acts.{Act, volume_after_all as after_acts}
use Rattle.wb_contents.specs.Conditions.{IsRunOfActs as IsActs}
use Rattle.wb_contents.proofs.Positions.{changed_same, changed_other}
use Rattle.wb_link.specs.Tables.{Want, End, Got, Gave, Job, Flushing, Suspending, Script, abstract_want, abstract_after, abstract_table, Reading, Read_all}
use Rattle.wb_link.specs.World.{Release, Held, effect, AbstractActor, World, Record, Start, Step, actor_after, task_after, abstract_given, abstract_resting, after_record, AbstractMay, MayStep, Again}
use Rattle.wb_link.specs.Clerk.{AbstractNotes, abstract_note, histories_after, abstract_noted_step, entered_after, Entry, job_noted, AbstractGivesLatest, AbstractRight, abstract_opened}
use Rattle.wb_link.proofs.Copying.{alike_on}
use Rattle.wb_link.proofs.Link.{Linked, acts_of, start_acts, Ready, ReadsRight}
use Rattle.wb_contents.proofs.Lists.{replicated}
use Rattle.wb_link.proofs.Steps.{in_set, stepped, step_is, step_linked, Facts, step_facts}
use Rattle.wb_link.proofs.Acts.{AtMost, Keeps}
use Rattle.wb_link.proofs.Aside.{release_is, release_linked}
use Rattle.wb_link.proofs.Starting.{again_is, again_linked, start_is, start_linked, start_run, start_keeps}
use Rattle.wb_link.proofs.Noting.{AllEntered, all_below, finished_ok, flushes, floors_ok, entered_on, entered_ok}
use Rattle.wb_link.proofs.Actors.{job_on, no_task}

-- The clerk knows the machine's histories and each actor's job; what it takes as finished is, and its floors are the
-- machine's or lower.
pub record Noted (actors : List AbstractActor) (d : Volume) (n : AbstractNotes) : Type 0 where
  pub histories : n.histories ≡ d.histories
  pub finished : AtMost n.finished d.finished
  pub floors : AtMost n.floors d.floor
  pub jobs : (a : ℕ) (x : AbstractActor) (script : Script) → slice_get actors a ≡ Some x → x.task ≡ Some script → n.jobs a ≡ Some script.job
  pub asked : (a : ℕ) (x : AbstractActor) (script : Script) → slice_get actors a ≡ Some x → x.task ≡ Some script → flushes script.job ≡ true → AtMost (n.asked a) (d.then_finished a)
  pub entered : (a : ℕ) (x : AbstractActor) (script : Script) → slice_get actors a ≡ Some x → x.task ≡ Some script → AllEntered x.held d (n.entered a)

-- one record is a list of acts, two at most
pub record Moves (size : ℕ) (w : World) (d : Volume) (n : AbstractNotes) (r : Record) : Type 0 where
  pub acts : List Act
  pub run : IsActs d acts
  pub linked : Linked size (after_record w r) (after_acts d acts)
  pub noted : Noted (after_record w r).actors (after_acts d acts) (abstract_note n r)
  pub right : AbstractRight n r

start_books : (a : ℕ) (d : Volume) (job : Job) → (after_acts d (start_acts a job)).histories ≡ d.histories
start_books a d (Flushing o) = refl
start_books a d job = refl

-- a task goes on with its job, or it is answered
same_job : (script : Script) (w : Want) (got : Got) (later : Script) → task_after script w got ≡ Some later → (job_noted script.job w ≡ Some later.job) × (later.job ≡ script.job)
same_job script (End answer) got later e = absurd (cc)
same_job script w got later e = let same : abstract_after script got ≡ later = cc in let job : later.job ≡ script.job = sym (ap (λ (v : Script). v.job) same) ∙ job_on script got in (ap (λ j. Some j) (sym job), job)

start_noted : (a : ℕ) (d : Volume) (job : Job) → flushes job ≡ true → (after_acts d (start_acts a job)).then_finished a ≡ d.finished
start_noted a d (Flushing o) f = changed_same d.then_finished a d.finished
start_noted a d Suspending f = changed_same d.then_finished a d.finished
start_noted a d job f = absurd (cc)

reads_right : (histories : ℕ → ℕ → History) (job : Job) (w : Want) (got : Got) (d : Volume) → histories ≡ d.histories → ReadsRight job w got d → AbstractGivesLatest histories (Some job) w got
reads_right histories (Reading past block extents) (Read_all location b os) (Gave contents) d e r = alike_on os contents (λ o. newest (d.histories b o)) (λ o. newest (histories b o)) (λ o. ap (λ f. newest (f b o)) e) r
reads_right histories job w got d e r = tt

started_noted : (size : ℕ) (w : World) (d : Volume) (n : AbstractNotes) (a : ℕ) (x : AbstractActor) (job : Job) → Keeps a x w.shared.committing d (after_acts d (start_acts a job)) → Noted w.actors d n → slice_get w.actors a ≡ Some x → Noted (slice_set w.actors a (abstract_given x job)) (after_acts d (start_acts a job)) (abstract_note n (Start a job))
started_noted size w d n a x job keeps k here = record {
  histories = k.histories ∙ sym (start_books a d job);
  finished = λ b o. let p = k.finished b o in let q = keeps.grows.finished b o in omega arith;
  floors = λ b o. let p = k.floors b o in let q = keeps.grows.floor b o in omega arith;
  jobs = λ c y script g t. in_set w.actors a x (abstract_given x job) here (λ c y. (s : Script) → y.task ≡ Some s → changed n.jobs a (Some job) c ≡ Some s.job)
      (λ s f. let same : abstract_table job ≡ s = cc in changed_same n.jobs a (Some job) ∙ ap (λ (v : Script). Some v.job) same)
      (λ c y o g s f. changed_other n.jobs a c (Some job) o ∙ k.jobs c y s g f)
      c y g script t;
  asked = λ c y script g t. in_set w.actors a x (abstract_given x job) here (λ c y. (s : Script) → y.task ≡ Some s → flushes s.job ≡ true → AtMost (changed n.asked a n.finished c) (e.then_finished c))
      (λ s f h b o. let same : abstract_table job ≡ s = cc in let mine : flushes job ≡ true = ap (λ (v : Script). flushes v.job) same ∙ h in let p = k.finished b o in
      let l : changed n.asked a n.finished a b o ≡ n.finished b o = ap (λ f. f b o) (changed_same n.asked a n.finished) in let r : e.then_finished a b o ≡ d.finished b o = ap (λ f. f b o) (start_noted a d job mine) in omega arith)
      (λ c y o g s f h b q. let l : changed n.asked a n.finished c b q ≡ n.asked c b q = ap (λ f. f b q) (changed_other n.asked a c n.finished o) in
      let r : e.then_finished c b q ≡ d.then_finished c b q = ap (λ f. f b q) (keeps.then_finished c (inl o)) in let p = k.asked c y s g f h b q in omega arith)
      c y g script t;
  entered = λ c y script g t. in_set w.actors a x (abstract_given x job) here (λ c y. (s : Script) → y.task ≡ Some s → AllEntered y.held e (changed n.entered a [] c))
      (λ s f. subst (λ (v : List Entry). AllEntered x.held e v) (sym (changed_same n.entered a [])) tt)
      (λ c y o g s f. subst (λ (v : List Entry). AllEntered y.held e v) (sym (changed_other n.entered a c [] o)) (entered_on y.held d e (n.entered c) keeps.grows (k.entered c y s g f)))
      c y g script t;
} where
  e : Volume
  e = after_acts d (start_acts a job)

-- a step of an actor whose job the clerk knows
step_noted : (size : ℕ) (w : World) (d : Volume) (n : AbstractNotes) (a : ℕ) (x : AbstractActor) (script : Script) (next : Want) (got : Got) → Linked size w d → Noted w.actors d n → MayStep w a next got x script →
    Noted (stepped w a x script got).actors (after_acts d (acts_of w.shared.mapping a script.job x.buffer (abstract_want script) got)) (abstract_noted_step n a (Some script.job) (abstract_want script))
step_noted size w d n a x script next got i k m = record {
  histories = ap (λ f. histories_after f script.job (abstract_want script)) k.histories ∙ sym facts.right.histories;
  finished = finished_ok script.job (abstract_want script) (n.entered a) n.finished e.finished (λ b o. let p = k.finished b o in let q = facts.keeps.grows.finished b o in omega arith)
      (λ is. all_below d e (n.entered a) facts.keeps.grows (subst (λ (h : Held). AllEntered h d (n.entered a)) (subst (λ (v : Want). Ready v x w.shared) is facts.ready) mine));
  floors = floors_ok a script.job (abstract_want script) (n.asked a) n.floors d e (λ b o. let p = k.floors b o in let q = facts.keeps.grows.floor b o in omega arith) (k.asked a x script m.actor m.task) facts.right.flushes;
  jobs = λ c y later g t. in_set w.actors a x y' m.actor (λ c y. (s : Script) → y.task ≡ Some s → changed n.jobs a (job_noted script.job (abstract_want script)) c ≡ Some s.job)
      (λ s f. changed_same n.jobs a (job_noted script.job (abstract_want script)) ∙ (same_job script (abstract_want script) got s f).0)
      (λ c y o g s f. changed_other n.jobs a c (job_noted script.job (abstract_want script)) o ∙ k.jobs c y s g f)
      c y g later t;
  asked = λ c y later g t. in_set w.actors a x y' m.actor (λ c y. (s : Script) → y.task ≡ Some s → flushes s.job ≡ true → AtMost (n.asked c) (e.then_finished c))
      (λ s f h b o. let mine : flushes script.job ≡ true = ap flushes (sym (same_job script (abstract_want script) got s f).1) ∙ h in let p = k.asked a x script m.actor m.task mine b o in
      let r : e.then_finished a b o ≡ d.then_finished a b o = ap (λ f. f b o) (facts.keeps.then_finished a (inr (no_task x script m.task))) in omega arith)
      (λ c y o g s f h b q. let p = k.asked c y s g f h b q in let r : e.then_finished c b q ≡ d.then_finished c b q = ap (λ f. f b q) (facts.keeps.then_finished c (inl o)) in omega arith)
      c y g later t;
  entered = λ c y later g t. in_set w.actors a x y' m.actor (λ c y. (s : Script) → y.task ≡ Some s → AllEntered y.held e (changed n.entered a (entered_after n.histories script.job (abstract_want script) (n.entered a)) c))
      (λ s f. subst (λ (v : List Entry). AllEntered y'.held e v) (sym (changed_same n.entered a (entered_after n.histories script.job (abstract_want script) (n.entered a))))
      (entered_ok x w.shared (effect w.shared script.job x.buffer (abstract_want script) got) d e script.job (abstract_want script) got n.histories (n.entered a) k.histories facts.right.histories facts.keeps.grows facts.ready facts.owes mine))
      (λ c y o g s f. subst (λ (v : List Entry). AllEntered y.held e v) (sym (changed_other n.entered a c (entered_after n.histories script.job (abstract_want script) (n.entered a)) o)) (entered_on y.held d e (n.entered c) facts.keeps.grows (k.entered c y s g f)))
      c y g later t;
} where
  e : Volume
  e = after_acts d (acts_of w.shared.mapping a script.job x.buffer (abstract_want script) got)

  y' : AbstractActor
  y' = actor_after x script (abstract_want script) got

  facts : Facts a x script got w.shared (effect w.shared script.job x.buffer (abstract_want script) got) d (after_acts d (acts_of w.shared.mapping a script.job x.buffer (abstract_want script) got)) (acts_of w.shared.mapping a script.job x.buffer (abstract_want script) got)
  facts = step_facts size w d a x script next got i m

  mine : AllEntered x.held d (n.entered a)
  mine = k.entered a x script m.actor m.task

-- nobody is at anything, and nothing is finished or covered but what an opening showed
pub fresh_noted : (many : ℕ) (d : Volume) (view : ℕ → ℕ → Content) → (λ b o. only (view b o)) ≡ d.histories → Noted (replicate many abstract_resting) d (abstract_opened view)
fresh_noted many d view e = record {
  histories = e;
  finished = λ b o. omega arith;
  floors = λ b o. omega arith;
  jobs = λ a x script g. subst (λ (v : AbstractActor). v.task ≡ Some script → None ≡ Some script.job) (replicated many a abstract_resting x g) (λ e. absurd (cc));
  asked = λ a x script g. subst (λ (v : AbstractActor). v.task ≡ Some script → flushes script.job ≡ true → AtMost (λ b o. 0) (d.then_finished a)) (replicated many a abstract_resting x g) (λ e. absurd (cc));
  entered = λ a x script g t. tt;
}

-- after the record the world is this one
moved : (size : ℕ) (w v : World) (d : Volume) (n : AbstractNotes) (r : Record) (acts : List Act) → after_record w r ≡ v → IsActs d acts → Linked size v (after_acts d acts) → Noted v.actors (after_acts d acts) (abstract_note n r) → AbstractRight n r → Moves size w d n r
moved size w v d n r acts is run linked noted right = record {
  acts = acts;
  run = run;
  linked = subst (λ (v : World). Linked size v (after_acts d acts)) (sym is) linked;
  noted = subst (λ (v : World). Noted v.actors (after_acts d acts) (abstract_note n r)) (sym is) noted;
  right = right;
}

pub moves : (size : ℕ) (w : World) (d : Volume) (n : AbstractNotes) (r : Record) → Linked size w d → Noted w.actors d n → AbstractMay size w r → Moves size w d n r
moves size w d n (Start a job) i k m = moved size w _ d n (Start a job) (start_acts a job) (start_is size w a job m.0 m.1) (start_run a d job) (start_linked size w d a m.0 job i m.1) (started_noted size w d n a m.0 job (start_keeps size w d a m.0 job i m.1.task) k m.1.actor) tt
moves size w d n (Again a job) i k m = moved size w _ d n (Again a job) (start_acts a job) (again_is size w a job m.0 m.1) (start_run a d job) (again_linked size w d a m.0 job i m.1) (started_noted size w d n a m.0 job (start_keeps size w d a m.0 job i m.1.task) k m.1.actor) tt
moves size w d n (Step a next got) i k m =
    let step = m.2 in
    let job : n.jobs a ≡ Some m.1.job = k.jobs a m.0 m.1 step.actor step.task in
    let good = step_facts size w d a m.0 m.1 next got i step in
    let is : abstract_noted_step n a (n.jobs a) next ≡ abstract_noted_step n a (Some m.1.job) (abstract_want m.1) = ap (λ o. abstract_noted_step n a o next) job ∙ ap (λ v. abstract_noted_step n a (Some m.1.job) v) step.asked in
    moved size w (stepped w a m.0 m.1 got) d n (Step a next got) (acts_of w.shared.mapping a m.1.job m.0.buffer (abstract_want m.1) got) (step_is w a next got m.0 m.1 step) good.run (step_linked size w d a m.0 m.1 next got i step)
    (subst (λ (v : AbstractNotes). Noted (stepped w a m.0 m.1 got).actors (after_acts d (acts_of w.shared.mapping a m.1.job m.0.buffer (abstract_want m.1) got)) v) (sym is) (step_noted size w d n a m.0 m.1 next got i k step))
    (subst (λ (v : Want). AbstractGivesLatest n.histories (n.jobs a) v got) (sym step.asked) (subst (λ (v : Option Job). AbstractGivesLatest n.histories v (abstract_want m.1) got) (sym job) (reads_right n.histories m.1.job (abstract_want m.1) got d k.histories good.right.reads)))
moves size w d n (Release k) i k' m = moved size w _ d n (Release k) [] (release_is w k m.0 m.1) tt (release_linked size w d k m.0 i m.1 m.2) k' tt
