-- The two clerks' notes stay alike.
use Rattle.std.proofs.Common.{◌≡◌, ◌≢◌, ◌<◌, ◌≤◌, ◌+◌, ◌*◌, ◌∙◌, inl, inr, ℕ, zero, suc, Bool, true, false, cond, nat_lt, unwrap_or, List, [], ◌∷◌, Option, Some, None, length, map, max, refl, sym, ap, subst, arith, slice_get, slice_set}
use Rattle.std.proofs.lemmas.List.{length-map, length-set}
use Rattle.std.proofs.lemmas.Bool.{cases_eq}
use Rattle.wb_types.specs.Extents.{rising}
use Rattle.wb_types.specs.declared.mode.Mode.{Mode}
use Rattle.wb_types.specs.declared.mode.Mode.TheVariants.{Writeback}
use Rattle.wb_types.specs.declared.refusal.Refusal.{Refusal}
use Rattle.wb_tasks.specs.declared.step.Answer.TheVariants.{Done as Finished, Refused as Refuses}
use Rattle.wb_disk.specs.Device.{Content, History, only}
use Rattle.wb_contents.specs.Volume.{changed}
use Rattle.wb_contents.specs.Devices.{by_block}
use Rattle.wb_contents.proofs.Positions.{changed_same, changed_other}
use Rattle.wb_link.specs.Tables.{Script, Job as AbstractJob, Reading, Writing, Writing_through, Promoting, Returning, Flushing, Suspending, Want, Write_all, End, Got, Gave, Done, Answer as AbstractAnswer, Finished as AnsweredDone, abstract_want, abstract_after, abstract_table, Flag, Order as AbstractOrder, Invalidating}
use Rattle.wb_link.specs.World.{Release, release_order, World, Shared, Record, Start, Again, AbstractActor, abstract_resting, abstract_after_all, after_record, actor_after, task_after, start_actor, again_actor, abstract_reserved, abstract_given, aside, abstract_taken, abstract_order_of}
use Rattle.wb_link.specs.Clerk.{AbstractNotes, Entry, histories_after, entered_after, finished_after, abstract_floors_after, job_noted, abstract_note, abstract_noted_step as noted_step, abstract_opened, abstract_raised as raised_there}
use Rattle.wb_link.specs.Openings.{On, AllEventsRight}
use Rattle.wb_contents.proofs.Lists.{set_there, set_other, replicated, set_twice, set_same}
use Rattle.wb_link.proofs.Steps.{in_set}
use Rattle.wb_refines.specs.Going.{records, shared_after, gone}
use Rattle.wb_refines.specs.Translation.{writing_in, reading_in}
use Rattle.wb_refines.specs.Commits.{commit_there}
use Rattle.wb_refines.proofs.Going.{own_steps, with_own}
use Rattle.wb_promise.specs.declared.job.Job.{Job}
use Rattle.wb_promise.specs.Clerk.{Notes, Doing, Position, Entering, begins, begun, put, nobody, entering, enter, enter_each, write_note, all_raised, greater_of}
use Rattle.wb_simulation.specs.Noting.{counts_by_block, AreEntries, DoesAlike, IsNotedSo, NotesAgree}
use Rattle.wb_simulation.specs.Noted.{told, AreNewest, NotesFollowed}
use Rattle.std.proofs.lemmas.Option.{slice_get_within}
use Rattle.wb_simulation.specs.Telling.{IsMigrating, IsResumed, Given, Kept, Failing, Nowhere, Rested, AreCarried, IsNoEnd, AreUnnoted, AnswersSo, NotesAt, writing}
use Rattle.wb_simulation.specs.Worlds.{zeros}
use Rattle.wb_simulation.proofs.Counts.{everywhere, all_raised-length, no_entries_alike, greater_counts, greater-length}
use Rattle.wb_link.proofs.Actors.{job_on}
use Rattle.wb_simulation.proofs.Told.{IsJob, untold, reads_newest, Wrote, writes_told, length-written, changed_nothing, is_past, reads_past}

-- ---- where an actor's own steps lead

abbrev AreGoing : Option Script → List Got → Type 0
AreGoing None gots = Unit {0}
AreGoing (Some script) [] = Unit {0}
AreGoing (Some script) (got ∷ gots) = IsNoEnd (abstract_want script) × AreGoing (task_after script (abstract_want script) got) gots

unnoted_goes : (next : Want) (job : AbstractJob) → Rattle.wb_simulation.specs.Telling.IsUnnoted next job → IsNoEnd next
unnoted_goes (End answer) job u = u
unnoted_goes next job u = tt

unnoted_going : (task : Option Script) (gots : List Got) → AreUnnoted task gots → AreGoing task gots
unnoted_going None gots u = tt
unnoted_going (Some script) [] u = tt
unnoted_going (Some script) (got ∷ gots) u = (unnoted_goes (abstract_want script) script.job u.0, unnoted_going (task_after script (abstract_want script) got) gots u.1)

task_goes : (script : Script) (next : Want) (got : Got) → IsNoEnd next → task_after script next got ≡ Some (abstract_after script got)
task_goes script (End answer) got u = absurd u
task_goes script next got u = refl

-- whoever has no task has none, and the job stays
abbrev SameJob : Option Script → Option Script → Type 0
SameJob None then_task = then_task ≡ None
SameJob (Some script) then_task = (later : Script) × (then_task ≡ Some later) × (later.job ≡ script.job)

gone_job : (gots : List Got) (y : AbstractActor) (task : Option Script) → y.task ≡ task → AreGoing task gots → SameJob task (gone y task gots).task
gone_job [] y None e u = e
gone_job [] y (Some script) e u = (script, e, refl)
gone_job (got ∷ gots) y None e u = e
gone_job (got ∷ gots) y (Some script) e u =
    let y' = actor_after y script (abstract_want script) got in
    let then_task = (gone y' (task_after script (abstract_want script) got) gots).task in
    let later = subst (λ (t : Option Script). SameJob t then_task) (task_goes script (abstract_want script) got u.0) (gone_job gots y' (task_after script (abstract_want script) got) refl u.1) in
    (later.0, later.1, later.2 ∙ job_on script got)

noted_job : (size sectors : ℕ) (task then_task : Option Script) (o : Option (Option Doing)) (a : ℕ) (m : AbstractNotes) → SameJob task then_task → IsNotedSo size sectors task o a m → IsNotedSo size sectors then_task o a m
noted_job size sectors None then_task o a m same is = subst (λ (t : Option Script). IsNotedSo size sectors t o a m) (sym same) tt
noted_job size sectors (Some script) then_task (Some (Some doing)) a m same is = subst (λ (t : Option Script). IsNotedSo size sectors t (Some (Some doing)) a m) (sym same.1) (subst (λ (job : AbstractJob). DoesAlike size sectors doing job a m) (sym same.2) is)
noted_job size sectors (Some script) then_task o a m same is = absurd is

is_job : (size sectors : ℕ) (task : Option Script) (o : Option (Option Doing)) (a : ℕ) (m : AbstractNotes) → IsNotedSo size sectors task o a m → IsJob m a task
is_job size sectors None o a m is = tt
is_job size sectors (Some script) (Some (Some doing)) a m is = is.job_is
is_job size sectors (Some script) o a m is = absurd is

-- what is noted of an actor hangs on its own notes alone
noted_beside : (size sectors : ℕ) (task : Option Script) (o : Option (Option Doing)) (a : ℕ) (m m' : AbstractNotes) → m'.jobs a ≡ m.jobs a → m'.entered a ≡ m.entered a → m'.asked a ≡ m.asked a → IsNotedSo size sectors task o a m → IsNotedSo size sectors task o a m'
noted_beside size sectors None o a m m' j e k is = tt
noted_beside size sectors (Some script) (Some (Some doing)) a m m' j e k is = record { job_is = j ∙ is.job_is; entered = subst (λ (es : List Entry). AreEntries size sectors doing.entered es) (sym e) is.entered; asked = k ∙ is.asked }
noted_beside size sectors (Some script) o a m m' j e k is = absurd is

-- a refused answer is noted as the end of the task alone
refused_note : (m : AbstractNotes) (a : ℕ) (job : AbstractJob) (answer : AbstractAnswer) → answer ≢ AnsweredDone → noted_step m a (Some job) (End answer) ≡ record m { jobs = changed m.jobs a None }
refused_note m a job answer undone = λ i. record {
  histories = histories_end m.histories job answer i;
  finished = finished_end job answer (m.entered a) m.finished undone i;
  floors = λ b o. floors_end job answer (m.asked a) m.floors undone b o i;
  jobs = changed m.jobs a None;
  entered = (ap (λ (es : List Entry). changed m.entered a es) (entered_end m.histories job answer (m.entered a)) ∙ changed_nothing m.entered a (m.entered a) refl) i;
  asked = m.asked;
}
  where
    histories_end : (h : ℕ → ℕ → History) (job : AbstractJob) (answer : AbstractAnswer) → histories_after h job (End answer) ≡ h
    histories_end h (Writing past b os c) answer = refl
    histories_end h job answer = refl

    entered_end : (h : ℕ → ℕ → History) (job : AbstractJob) (answer : AbstractAnswer) (es : List Entry) → entered_after h job (End answer) es ≡ es
    entered_end h (Writing past b os c) answer es = refl
    entered_end h job answer es = refl

    finished_end : (job : AbstractJob) (answer : AbstractAnswer) (es : List Entry) (f : ℕ → ℕ → ℕ) → answer ≢ AnsweredDone → finished_after job (End answer) es f ≡ f
    finished_end (Writing past b os c) AnsweredDone es f undone = absurd (undone refl)
    finished_end (Writing_through b os c) AnsweredDone es f undone = absurd (undone refl)
    finished_end job answer es f undone = refl

    floors_end : (job : AbstractJob) (answer : AbstractAnswer) (asked floors : ℕ → ℕ → ℕ) → answer ≢ AnsweredDone → (b o : ℕ) → abstract_floors_after job (End answer) asked floors b o ≡ floors b o
    floors_end (Flushing order) AnsweredDone asked floors undone b o = absurd (undone refl)
    floors_end Suspending AnsweredDone asked floors undone b o = absurd (undone refl)
    floors_end job answer asked floors undone b o = refl

-- a task of this job that has only to answer that it is done
pub record IsOver (job : AbstractJob) (task : Option Script) : Type 0 where
  pub script : Script
  pub at : task ≡ Some script
  pub none : script.steps ≡ []
  pub done : script.answer ≡ AnsweredDone
  pub is : script.job ≡ job

-- Who has done something is another one now, and of others nothing has changed.
module _ (size a : ℕ) (s : World) (y : AbstractActor) (n : Notes) (m : AbstractNotes) (ey : slice_get s.actors a ≡ Some y) (among : a < length n.doings) (g : NotesAgree size n s m) where
  agree_after : (waiting : ℕ → Option AbstractOrder) (n' : Notes) (m' : AbstractNotes) (t : Shared) (y' : AbstractActor) → m'.histories ≡ by_block size zeros n'.histories → m'.finished ≡ counts_by_block size n'.finished → m'.floors ≡ counts_by_block size n'.floors →
      length n'.histories ≡ length n.histories → length n'.finished ≡ length n.finished → length n'.floors ≡ length n.floors →
      ((b : ℕ) → b ≢ a → slice_get n'.doings b ≡ slice_get n.doings b) → length n'.doings ≡ length n.doings → ((b : ℕ) → b ≢ a → m'.jobs b ≡ m.jobs b) → ((b : ℕ) → b ≢ a → m'.entered b ≡ m.entered b) → ((b : ℕ) → b ≢ a → m'.asked b ≡ m.asked b) →
      IsNotedSo size (length n.histories) y'.task (slice_get n'.doings a) a m' → NotesAgree size n' (record { shared = t; actors = slice_set s.actors a y'; waiting = waiting }) m'
  agree_after waiting n' m' t y' h f l long finished_long floors_long doings many jobs entered asked here = record {
    histories = h;
    finished = f;
    floors = l;
    as_many = finished_long ∙ g.as_many ∙ sym long;
    floors_as_many = floors_long ∙ g.floors_as_many ∙ sym long;
    each = λ b z l e. in_set s.actors a y y' ey (λ b z. b < length n'.doings → IsNotedSo size (length n'.histories) z.task (slice_get n'.doings b) b m') (λ k. subst (λ (k : ℕ). IsNotedSo size k y'.task (slice_get n'.doings a) a m') (sym long) here)
        (λ b z ne e k. subst (λ (k : ℕ). IsNotedSo size k z.task (slice_get n'.doings b) b m') (sym long) (subst (λ (o : Option (Option Doing)). IsNotedSo size (length n.histories) z.task o b m') (sym (doings b ne))
        (noted_beside size (length n.histories) z.task (slice_get n.doings b) b m m' (jobs b ne) (entered b ne) (asked b ne) (g.each b z (omega (arith, k, many)) e)))) b z e l;
  }

  -- by these steps
  abbrev After : List Got → Notes → Type 0
  After gots n' = NotesAgree size n' (abstract_after_all s (records a y.task gots)) (told m (records a y.task gots))

  to_world : (gots : List Got) (n' : Notes) → NotesAgree size n' (with_own s a (shared_after s.shared y y.task gots) (gone y y.task gots)) (told m (records a y.task gots)) → After gots n'
  to_world gots n' k = subst (λ (v : World). NotesAgree size n' v (told m (records a y.task gots))) (sym (own_steps gots s a y y.task ey refl)) k

  -- who has the same job still, and of whom nothing was told, is noted as before
  job_here : IsJob m a y.task
  job_here = is_job size (length n.histories) y.task (slice_get n.doings a) a m (g.each a y among ey)

  untold_after : (gots : List Got) → told m (records a y.task gots) ≡ m → AreGoing y.task gots → After gots n
  untold_after gots same go = to_world gots n (subst (λ (k : AbstractNotes). NotesAgree size n (with_own s a (shared_after s.shared y y.task gots) (gone y y.task gots)) k) (sym same)
      (agree_after s.waiting n m (shared_after s.shared y y.task gots) (gone y y.task gots) g.histories g.finished g.floors refl refl refl (λ b e. refl) refl (λ b e. refl) (λ b e. refl) (λ b e. refl)
      (noted_job size (length n.histories) y.task (gone y y.task gots).task (slice_get n.doings a) a m (gone_job gots y y.task refl go) (g.each a y among ey))))

  unnoted_after : (gots : List Got) → AreUnnoted y.task gots → After gots n
  unnoted_after gots u = untold_after gots (untold gots y.task m a job_here u) (unnoted_going y.task gots u)

  put_others : (o : Option Doing) (b : ℕ) → b ≢ a → slice_get (slice_set n.doings a o) b ≡ slice_get n.doings b
  put_others o b ne = set_other n.doings a b o ne

  set_here : (o was : Option Doing) → slice_get n.doings a ≡ Some was → slice_get (slice_set n.doings a o) a ≡ Some o
  set_here o was e = set_there n.doings a was o e

  -- ---- a write

  entering_length : (content : Content) (sectors : List ℕ) (e : Entering) → length (enter_each content sectors e).histories ≡ length e.histories
  entering_length content [] e = refl
  entering_length content (at ∷ sectors) e = entering_length content sectors (enter content at e) ∙ length-written e.histories at content

  write_after : (block offset count : ℕ) (content : Content) (mode : Mode) (location : Option ℕ) (all : List (List ℕ)) (rest : List Want) (answer : AbstractAnswer) (got : Got) (doing : Doing) → NotesAt mode location → y.task ≡ Some (writing mode block all content (Write_all location block (rising offset count) ∷ rest) answer) →
      slice_get n.doings a ≡ Some (Some doing) → offset + count ≤ size → block * size + offset + count ≤ length n.histories → After (got ∷ []) (write_note n a doing (enter_each content (rising (block * size + offset) count) (entering n doing)))
  write_after block offset count content mode location all rest answer got doing notes at here l inside =
      let script = writing mode block all content (Write_all location block (rising offset count) ∷ rest) answer in
      let d : DoesAlike size (length n.histories) doing (writing_in mode block all content) a m = subst (λ (t : Option Script). IsNotedSo size (length n.histories) t (Some (Some doing)) a m) at (subst (λ (o : Option (Option Doing)). IsNotedSo size (length n.histories) y.task o a m) here (g.each a y among ey)) in
      let e = enter_each content (rising (block * size + offset) count) (entering n doing) in
      let m' = told m (records a y.task (got ∷ [])) in
      let w : Wrote size (length n.histories) a m m' e = subst (λ (t : Option Script). Wrote size (length n.histories) a m (told m (records a t (got ∷ []))) e) (sym at)
      (writes_told size mode location block all content a count got offset m n.histories doing.entered notes d.job_is g.histories d.entered l inside) in
      let doing' : Doing = record doing { entered = e.entered } in
      to_world (got ∷ []) (write_note n a doing e) (agree_after s.waiting (write_note n a doing e) m' (shared_after s.shared y y.task (got ∷ [])) (gone y y.task (got ∷ [])) w.histories (w.finished ∙ g.finished) (w.floors ∙ g.floors)
      (entering_length content (rising (block * size + offset) count) (entering n doing)) refl refl (put_others (Some doing')) (length-set n.doings a (Some doing')) (λ b ne. ap (λ (f : ℕ → Option AbstractJob). f b) w.jobs) w.others (λ b ne. ap (λ (f : ℕ → ℕ → ℕ → ℕ). f b) w.asked)
      (subst (λ (o : Option (Option Doing)). IsNotedSo size (length n.histories) (gone y y.task (got ∷ [])).task o a m') (sym (set_here (Some doing') (Some doing) here))
      (noted_job size (length n.histories) (Some script) (gone y y.task (got ∷ [])).task (Some (Some doing')) a m'
      (subst (λ (t : Option Script). SameJob (Some script) (gone y t (got ∷ [])).task) (sym at) (gone_job (got ∷ []) y (Some script) at (tt, tt)))
      (record { job_is = ap (λ (f : ℕ → Option AbstractJob). f a) w.jobs ∙ d.job_is; entered = w.entered; asked = ap (λ (f : ℕ → ℕ → ℕ → ℕ). f a) w.asked ∙ d.asked }))))

  -- ---- answers

  abbrev AfterOf : Option Script → List Got → Notes → Type 0
  AfterOf task gots n' = NotesAgree size n' (with_own s a (shared_after s.shared y task gots) (gone y task gots)) (told m (records a task gots))

  of_task : (task : Option Script) (gots : List Got) (n' : Notes) → y.task ≡ task → AfterOf task gots n' → After gots n'
  of_task task gots n' e k = to_world gots n' (subst (λ (t : Option Script). AfterOf t gots n') (sym e) k)

  -- who has no task there goes nowhere
  absent : (gots : List Got) (n' : Notes) → y.task ≡ None → NotesAgree size n' (with_own s a s.shared y) m → After gots n'
  absent [] n' e k = of_task None [] n' e k
  absent (got ∷ gots) n' e k = of_task None (got ∷ gots) n' e k

  -- the answer was given, and these are the notes then
  answered : (n' : Notes) (script : Script) (job : AbstractJob) (answer : AbstractAnswer) → y.task ≡ Some script → script.steps ≡ [] → script.answer ≡ answer → script.job ≡ job →
      NotesAgree size n' (with_own s a s.shared (record y { task = None })) (noted_step m a (Some job) (End answer)) → After (Done ∷ []) n'
  answered n' script job answer at none ans is k =
      let own : m.jobs a ≡ Some script.job = subst (λ (t : Option Script). IsJob m a t) at job_here in
      of_task (Some (record { job = job; steps = []; answer = answer })) (Done ∷ []) n' (at ∙ (λ i. Some (record { job = is i; steps = none i; answer = ans i })))
      (subst (λ (k : AbstractNotes). NotesAgree size n' (with_own s a s.shared (record y { task = None })) k) (λ i. noted_step m a ((sym (own ∙ ap (λ (j : AbstractJob). Some j) is)) i) (End answer)) k)

  abbrev over : AbstractActor
  over = record y { task = None }

  read_answers : (past : Bool) (block : ℕ) (os : List (List ℕ)) (script : Script) → y.task ≡ Some script → script.steps ≡ [] → script.answer ≡ AnsweredDone → script.job ≡ Reading past block os → After (Done ∷ []) (put n a None)
  read_answers past block os script at none ans is = answered (put n a None) script (Reading past block os) AnsweredDone at none ans is
      (agree_after s.waiting (put n a None) (noted_step m a (Some (Reading past block os)) (End AnsweredDone)) s.shared over g.histories g.finished g.floors refl refl refl (put_others None) (length-set n.doings a None) (λ b ne. changed_other m.jobs a b None ne) (λ b ne. changed_other m.entered a b (m.entered a) ne) (λ b ne. refl) tt)

  invalidation_answers : (block : ℕ) (script : Script) → y.task ≡ Some script → script.steps ≡ [] → script.answer ≡ AnsweredDone → script.job ≡ Invalidating block → After (Done ∷ []) (put n a None)
  invalidation_answers block script at none ans is = answered (put n a None) script (Invalidating block) AnsweredDone at none ans is
      (agree_after s.waiting (put n a None) (noted_step m a (Some (Invalidating block)) (End AnsweredDone)) s.shared over g.histories g.finished g.floors refl refl refl (put_others None) (length-set n.doings a None) (λ b ne. changed_other m.jobs a b None ne) (λ b ne. changed_other m.entered a b (m.entered a) ne) (λ b ne. refl) tt)

  does_alike : (job : AbstractJob) (script : Script) (doing : Doing) → y.task ≡ Some script → script.job ≡ job → slice_get n.doings a ≡ Some (Some doing) → DoesAlike size (length n.histories) doing job a m
  does_alike job script doing at is here = subst (λ (j : AbstractJob). DoesAlike size (length n.histories) doing j a m) is
      (subst (λ (t : Option Script). IsNotedSo size (length n.histories) t (Some (Some doing)) a m) at (subst (λ (o : Option (Option Doing)). IsNotedSo size (length n.histories) y.task o a m) here (g.each a y among ey)))

  write_answers : (mode : Mode) (block : ℕ) (os : List (List ℕ)) (content : Content) (script : Script) (doing : Doing) → y.task ≡ Some script → script.steps ≡ [] → script.answer ≡ AnsweredDone → script.job ≡ writing_in mode block os content → slice_get n.doings a ≡ Some (Some doing) →
      After (Done ∷ []) (put (record n { finished = all_raised n.finished doing.entered }) a None)
  write_answers mode block os content script doing at none ans is here =
      let d = does_alike (writing_in mode block os content) script doing at is here in
      let k = ends_here mode in
      answered (put (record n { finished = all_raised n.finished doing.entered }) a None) script (writing_in mode block os content) AnsweredDone at none ans is
      (agree_after s.waiting (put (record n { finished = all_raised n.finished doing.entered }) a None) (noted_step m a (Some (writing_in mode block os content)) (End AnsweredDone)) s.shared over (k.0 ∙ g.histories)
      (k.1 ∙ ap (raised_there (m.entered a)) g.finished ∙ d.entered n.finished g.as_many) (k.2 ∙ g.floors) refl (all_raised-length n.finished doing.entered) refl (put_others None) (length-set n.doings a None) (λ b ne. changed_other m.jobs a b None ne) (λ b ne. changed_other m.entered a b (entered_after m.histories (writing_in mode block os content) (End AnsweredDone) (m.entered a)) ne) (λ b ne. refl) tt)
    where
      -- what its answer makes finished, whichever of both it is
      ends_here : (mode : Mode) → (histories_after m.histories (writing_in mode block os content) (End AnsweredDone) ≡ m.histories) × (finished_after (writing_in mode block os content) (End AnsweredDone) (m.entered a) m.finished ≡ raised_there (m.entered a) m.finished)
          × ((λ b o. abstract_floors_after (writing_in mode block os content) (End AnsweredDone) (m.asked a) m.floors b o) ≡ m.floors)
      ends_here Writeback = (refl, refl, refl)
      ends_here mode = (refl, refl, refl)

  commit_answers : (clean : Bool) (script : Script) (doing : Doing) → y.task ≡ Some script → script.steps ≡ [] → script.answer ≡ AnsweredDone → script.job ≡ commit_there clean → slice_get n.doings a ≡ Some (Some doing) → length doing.then_finished ≡ length n.floors →
      After (Done ∷ []) (put (record n { floors = greater_of n.floors doing.then_finished }) a None)
  commit_answers clean script doing at none ans is here long =
      let d = does_alike (commit_there clean) script doing at is here in
      let k = ends_here clean in
      answered (put (record n { floors = greater_of n.floors doing.then_finished }) a None) script (commit_there clean) AnsweredDone at none ans is
      (agree_after s.waiting (put (record n { floors = greater_of n.floors doing.then_finished }) a None) (noted_step m a (Some (commit_there clean)) (End AnsweredDone)) s.shared over (k.0 ∙ g.histories) (k.1 ∙ g.finished)
      (k.2 ∙ (λ i b o. max (g.floors i b o) (d.asked i b o)) ∙ sym (greater_counts size n.floors doing.then_finished (sym long))) refl refl (greater-length n.floors doing.then_finished (sym long)) (put_others None) (length-set n.doings a None) (λ b ne. changed_other m.jobs a b None ne) (λ b ne. changed_other m.entered a b (entered_after m.histories (commit_there clean) (End AnsweredDone) (m.entered a)) ne) (λ b ne. refl) tt)
    where
      -- what its answer makes durable, whichever of both it is
      ends_here : (clean : Bool) → (histories_after m.histories (commit_there clean) (End AnsweredDone) ≡ m.histories) × (finished_after (commit_there clean) (End AnsweredDone) (m.entered a) m.finished ≡ m.finished)
          × ◌≡◌ {A = ℕ → ℕ → ℕ} (λ b o. abstract_floors_after (commit_there clean) (End AnsweredDone) (m.asked a) m.floors b o) (λ b o. max (m.floors b o) (m.asked a b o))
      ends_here true = (refl, refl, refl)
      ends_here false = (refl, refl, refl)

  -- of which nothing is noted but that its task is over
  ends_alone : (script : Script) → y.task ≡ Some script → script.steps ≡ [] → noted_step m a (Some script.job) (End script.answer) ≡ record m { jobs = changed m.jobs a None } → After (Done ∷ []) (put n a None)
  ends_alone script at none same = answered (put n a None) script script.job script.answer at none refl refl (subst (λ (k : AbstractNotes). NotesAgree size (put n a None) (with_own s a s.shared over) k) (sym same)
      (agree_after s.waiting (put n a None) (record m { jobs = changed m.jobs a None }) s.shared over g.histories g.finished g.floors refl refl refl (put_others None) (length-set n.doings a None) (λ b ne. changed_other m.jobs a b None ne) (λ b ne. refl) (λ b ne. refl) tt))

  -- who has no task there is of no account
  without_task : (doing : Option Doing) → y.task ≡ None → NotesAgree size (put n a doing) (with_own s a s.shared y) m
  without_task doing e = agree_after s.waiting (put n a doing) m s.shared y g.histories g.finished g.floors refl refl refl (put_others doing) (length-set n.doings a doing) (λ b ne. refl) (λ b ne. refl) (λ b ne. refl) (subst (λ (t : Option Script). IsNotedSo size (length n.histories) t (slice_get (slice_set n.doings a doing) a) a m) (sym e) tt)

  set_aside : (doing : Option Doing) → y.task ≡ None → NotesAgree size (put n a doing) s m
  set_aside doing e = subst (λ (ys : List AbstractActor). NotesAgree size (put n a doing) (record { shared = s.shared; actors = ys; waiting = s.waiting }) m) (set_same s.actors a y ey) (without_task doing e)

  -- ---- starts

  -- its job is given to it, under whatever order
  began_after : (waiting : ℕ → Option AbstractOrder) (t : Shared) (abstract_job : AbstractJob) (job : Job) (was : Option Doing) → slice_get n.doings a ≡ Some was → NotesAgree size (put n a (Some (begun n job))) (record { shared = t; actors = slice_set s.actors a (abstract_given y abstract_job); waiting = waiting }) (abstract_note m (Start a abstract_job))
  began_after waiting t abstract_job job was here = agree_after waiting (put n a (Some (begun n job))) (abstract_note m (Start a abstract_job)) t (abstract_given y abstract_job) g.histories g.finished g.floors refl refl refl (put_others (Some (begun n job))) (length-set n.doings a (Some (begun n job)))
      (λ b ne. changed_other m.jobs a b (Some abstract_job) ne) (λ b ne. changed_other m.entered a b [] ne) (λ b ne. changed_other m.asked a b m.finished ne)
      (subst (λ (o : Option (Option Doing)). IsNotedSo size (length n.histories) (Some (abstract_table abstract_job)) o a (abstract_note m (Start a abstract_job))) (sym (set_here (Some (begun n job)) was here)) (record {
        job_is = changed_same m.jobs a (Some abstract_job);
        entered = subst (λ (es : List Entry). AreEntries size (length n.histories) [] es) (sym (changed_same m.entered a [])) (no_entries_alike size (length n.histories));
        asked = changed_same m.asked a m.finished ∙ g.finished;
      }))

  start_after : (abstract_job : AbstractJob) (job : Job) (was : Option Doing) → slice_get n.doings a ≡ Some was → NotesAgree size (put n a (Some (begun n job))) (abstract_after_all s (Start a abstract_job ∷ [])) (told m (Start a abstract_job ∷ []))
  start_after abstract_job job was here = subst (λ (v : World). NotesAgree size (put n a (Some (begun n job))) v (abstract_note m (Start a abstract_job))) (sym (ap (λ o. start_actor s a o abstract_job) ey)) (began_after (aside s.waiting y.order) (abstract_reserved s.shared abstract_job) abstract_job job was here)

  late_after : (gots : List Got) (job : Job) → y.task ≡ None → After gots (put n a (Some (begun n job)))
  late_after gots job e = absent gots (put n a (Some (begun n job))) e (without_task (Some (begun n job)) e)

-- ---- what hangs on no step

redone_so : (size sectors : ℕ) (task : Option Script) (doing doing' : Doing) (a : ℕ) (m : AbstractNotes) → doing'.entered ≡ doing.entered → doing'.then_finished ≡ doing.then_finished → IsNotedSo size sectors task (Some (Some doing)) a m → IsNotedSo size sectors task (Some (Some doing')) a m
redone_so size sectors None doing doing' a m e f is = tt
redone_so size sectors (Some script) doing doing' a m e f is = record { job_is = is.job_is; entered = subst (λ (ps : List Position). AreEntries size sectors ps (m.entered a)) (sym e) is.entered; asked = is.asked ∙ ap (counts_by_block size) (sym f) }

none_counted : (at : ℕ) (shown : List Content) → unwrap_or (slice_get (map (λ (c : Content). zero) shown) at) zero ≡ zero
none_counted at [] = refl
none_counted zero (c ∷ cs) = refl
none_counted (suc at) (c ∷ cs) = none_counted at cs

none_counted_in : (t : Bool) (at : ℕ) (shown : List Content) → cond t (unwrap_or (slice_get (map (λ (c : Content). zero) shown) at) zero) zero ≡ zero
none_counted_in true at shown = none_counted at shown
none_counted_in false at shown = refl

no_counts : (size : ℕ) (shown : List Content) → (λ (b o : ℕ). zero) ≡ counts_by_block size (map (λ (c : Content). zero) shown)
no_counts size shown = sym (everywhere (counts_by_block size (map (λ (c : Content). zero) shown)) (λ b o. zero) (λ b o. none_counted_in (nat_lt o size) (b * size + o) shown))

-- ---- migrations

-- a migration's steps are noted as nothing, whatever they are
migrating_note : (m : AbstractNotes) (a : ℕ) (job : AbstractJob) (next : Want) → IsMigrating job → noted_step m a (Some job) next ≡ record m { jobs = changed m.jobs a (job_noted job next) }
migrating_note m a (Promoting order os) next i = λ k. record { histories = m.histories; finished = m.finished; floors = λ b o. m.floors b o; jobs = changed m.jobs a (job_noted (Promoting order os) next); entered = changed_nothing m.entered a (m.entered a) refl k; asked = m.asked }
migrating_note m a (Returning leaves order os) next i = λ k. record { histories = m.histories; finished = m.finished; floors = λ b o. m.floors b o; jobs = changed m.jobs a (job_noted (Returning leaves order os) next); entered = changed_nothing m.entered a (m.entered a) refl k; asked = m.asked }
migrating_note m a job next i = absurd i

carried_goes : (task : Option Script) (gots : List Got) → AreCarried task gots → AreGoing task gots
carried_goes None gots c = tt
carried_goes (Some script) [] c = tt
carried_goes (Some script) (got ∷ gots) c = (c.1, carried_goes (task_after script (abstract_want script) got) gots c.2)

-- a step that is no answer is noted as nothing
migrating_nothing : (m : AbstractNotes) (a : ℕ) (job : AbstractJob) (next : Want) → m.jobs a ≡ Some job → IsMigrating job → IsNoEnd next → noted_step m a (m.jobs a) next ≡ m
migrating_nothing m a job next own i no_end = ap (λ (o : Option AbstractJob). noted_step m a o next) own ∙ migrating_note m a job next i ∙ (λ k. record m { jobs = changed_nothing m.jobs a (job_noted job next) (own ∙ sym (stays next no_end)) k })
  where
    stays : (w : Want) → IsNoEnd w → job_noted job w ≡ Some job
    stays (End answer) n = absurd n
    stays w n = refl

carried_untold : (gots : List Got) (task : Option Script) (m : AbstractNotes) (a : ℕ) → IsJob m a task → AreCarried task gots → told m (records a task gots) ≡ m
carried_untold gots None m a j c = refl
carried_untold [] (Some script) m a j c = refl
carried_untold (got ∷ gots) (Some script) m a j c =
    let is = task_goes script (abstract_want script) got c.1 in
    let later : IsJob m a (task_after script (abstract_want script) got) = subst (λ (t : Option Script). IsJob m a t) (sym is) (j ∙ ap (λ (k : AbstractJob). Some k) (sym (job_on script got))) in
    ap (λ (k : AbstractNotes). told k (records a (task_after script (abstract_want script) got) gots)) (migrating_nothing m a script.job (abstract_want script) j c.0 c.1) ∙ carried_untold gots (task_after script (abstract_want script) got) m a later c.2

module _ (size a : ℕ) (s : World) (y : AbstractActor) (n : Notes) (m : AbstractNotes) (ey : slice_get s.actors a ≡ Some y) (among : a < length n.doings) (g : NotesAgree size n s m) where
  carried_after : (gots : List Got) → AreCarried y.task gots → NotesAgree size n (abstract_after_all s (records a y.task gots)) (told m (records a y.task gots))
  carried_after gots u = untold_after size a s y n m ey among g gots (carried_untold gots y.task m a (job_here size a s y n m ey among g) u) (carried_goes y.task gots u)

  -- its answer
  rests_after : (task : Option Script) → y.task ≡ task → Rested y.task → NotesAgree size (put n a None) (abstract_after_all s (records a y.task (Done ∷ []))) (told m (records a y.task (Done ∷ [])))
  rests_after None e r = absent size a s y n m ey among g (Done ∷ []) (put n a None) e (without_task size a s y n m ey among g None e)
  rests_after (Some script) e r = let k = subst (λ (t : Option Script). Rested t) e r in ends_alone size a s y n m ey among g script e k.0 (migrating_note m a script.job (End script.answer) k.1)

  -- it begins once more
  again_after : (abstract_job : AbstractJob) (job : Job) (was : Option Doing) → slice_get n.doings a ≡ Some was → NotesAgree size (put n a (Some (begun n job))) (abstract_after_all s (Again a abstract_job ∷ [])) (told m (Again a abstract_job ∷ []))
  again_after abstract_job job was here = subst (λ (v : World). NotesAgree size (put n a (Some (begun n job))) v (abstract_note m (Again a abstract_job))) (sym (ap (λ o. again_actor s a o abstract_job) ey))
      (began_after size a s y n m ey among g (abstract_taken (aside s.waiting y.order) (abstract_order_of abstract_job)) s.shared abstract_job job was here)

-- an order that is given up is no actor's
release_after : (size : ℕ) (n : Notes) (s : World) (m : AbstractNotes) (k : ℕ) → NotesAgree size n s m → NotesAgree size n (abstract_after_all s (Release k ∷ [])) (told m (Release k ∷ []))
release_after size n s m k g = by (s.waiting k)
  where
    by : (o : Option AbstractOrder) → NotesAgree size n (release_order s k o) m
    by None = g
    by (Some p) = record { histories = g.histories; finished = g.finished; floors = g.floors; as_many = g.as_many; floors_as_many = g.floors_as_many; each = g.each }

-- it begins, and is refused at once
module _ (size a : ℕ) (s : World) (y : AbstractActor) (n : Notes) (m : AbstractNotes) (ey : slice_get s.actors a ≡ Some y) (among : a < length n.doings) (g : NotesAgree size n s m) (abstract_job : AbstractJob) (migrates : IsMigrating abstract_job) (job : Job) (was : Option Doing) (here : slice_get n.doings a ≡ Some was) where
  abbrev n1 : Notes
  n1 = put n a (Some (begun n job))

  abbrev s1 : World
  s1 = after_record s (Start a abstract_job)

  abbrev y1 : AbstractActor
  y1 = abstract_given y abstract_job

  ey1 : slice_get s1.actors a ≡ Some y1
  ey1 = subst (λ (w : World). slice_get w.actors a ≡ Some y1) (sym (ap (λ o. start_actor s a o abstract_job) ey)) (set_there s.actors a y y1 ey)

  among1 : a < length n1.doings
  among1 = subst (λ (k : ℕ). a < k) (sym (length-set n.doings a (Some (begun n job)))) among

  abbrev s2 : World
  s2 = abstract_after_all s1 (records a (Some (abstract_table abstract_job)) (Flag true ∷ []))

  abbrev y2 : AbstractActor
  y2 = gone y1 (Some (abstract_table abstract_job)) (Flag true ∷ [])

  abbrev looked : Script
  looked = abstract_after (abstract_table abstract_job) (Flag true)

  ey2 : slice_get s2.actors a ≡ Some y2
  ey2 = subst (λ (w : World). slice_get w.actors a ≡ Some y2) (sym (own_steps (Flag true ∷ []) s1 a y1 (Some (abstract_table abstract_job)) ey1 refl)) (set_there s1.actors a y1 y2 ey1)

  g2 : NotesAgree size n1 s2 (told (abstract_note m (Start a abstract_job)) (records a (Some (abstract_table abstract_job)) (Flag true ∷ [])))
  g2 = carried_after size a s1 y1 n1 (abstract_note m (Start a abstract_job)) ey1 among1 (start_after size a s y n m ey among g abstract_job job was here) (Flag true ∷ []) (migrates, tt, tt)

  stops : (j : AbstractJob) → IsMigrating j → ((abstract_after (abstract_table j) (Flag true)).steps ≡ []) × IsMigrating (abstract_after (abstract_table j) (Flag true)).job
  stops (Promoting order os) i = (refl, tt)
  stops (Returning leaves order os) i = (refl, tt)
  stops j i = absurd i

  abbrev s3 : World
  s3 = abstract_after_all s2 (records a (Some looked) (Done ∷ []))

  ends : (script : Script) → y2.task ≡ Some script → script.steps ≡ [] → (gone y2 (Some script) (Done ∷ [])).task ≡ None
  ends script e n' = ap (λ (w : Script). (gone y2 (Some w) (Done ∷ [])).task) (λ i. record { job = script.job; steps = n' i; answer = script.answer })

  ey3 : slice_get s3.actors a ≡ Some (gone y2 (Some looked) (Done ∷ []))
  ey3 = subst (λ (w : World). slice_get w.actors a ≡ Some (gone y2 (Some looked) (Done ∷ []))) (sym (own_steps (Done ∷ []) s2 a y2 (Some looked) ey2 refl)) (set_there s2.actors a y2 (gone y2 (Some looked) (Done ∷ [])) ey2)

  failing_after : NotesAgree size n1 (abstract_after_all s (Start a abstract_job ∷ records a (Some (abstract_table abstract_job)) (Flag true ∷ Done ∷ []))) (told m (Start a abstract_job ∷ records a (Some (abstract_table abstract_job)) (Flag true ∷ Done ∷ [])))
  failing_after =
      let k = stops abstract_job migrates in
      let g3 = rests_after size a s2 y2 n1 (told (abstract_note m (Start a abstract_job)) (records a (Some (abstract_table abstract_job)) (Flag true ∷ []))) ey2 among1 g2 (Some looked) refl k in
      let among3 : a < length (put n1 a None).doings = subst (λ (i : ℕ). a < i) (sym (length-set n1.doings a None)) among1 in
      let g4 = set_aside size a s3 (gone y2 (Some looked) (Done ∷ [])) (put n1 a None) _ ey3 among3 g3 (Some (begun n job)) (ends looked refl k.0) in
      subst (λ (ds : List (Option Doing)). NotesAgree size (record n { doings = ds }) s3 (told m (Start a abstract_job ∷ records a (Some (abstract_table abstract_job)) (Flag true ∷ Done ∷ []))))
      (set_twice (slice_set n.doings a (Some (begun n job))) a None (Some (begun n job)) ∙ set_twice n.doings a (Some (begun n job)) (Some (begun n job))) g4

pub notes_followed : NotesFollowed
notes_followed = record {
  quiet = λ turn a s now x f y n m ey among g.
      let t = f.told y ey in
      subst (λ (rs : List Record). NotesAgree now.size n (abstract_after_all s rs) (told m rs)) (sym t.2) (unnoted_after now.size a s y n m ey among g t.0 t.1);
  read = λ block offset contents turn a s now x f y n m ey among g.
      let t = f.told y ey in
      subst (λ (rs : List Record). NotesAgree now.size n (abstract_after_all s rs) (told m rs)) (sym t.told_is)
      (unnoted_after now.size a s y n m ey among g (Gave t.there ∷ []) (subst (λ (k : Option Script). AreUnnoted k (Gave t.there ∷ [])) (sym t.at) (tt, tt)));
  write = λ block offset count content turn a s now x f y n m ey among g doing here l inside.
      let t = f.told y ey in
      let n' = write_note n a doing (enter_each content (rising (block * now.size + offset) count) (entering n doing)) in
      subst (λ (rs : List Record). NotesAgree now.size n' (abstract_after_all s rs) (told m rs)) (sym t.told_is)
      (write_after now.size a s y n m ey among g block offset count content t.mode t.location t.all t.rest t.answer t.got doing t.notes t.at here l inside);
  read_answered = λ mode block os turn a s now x f y n m ey among g.
      let t = f.told y ey in let k = script_of (reading_in mode block os) y.task t.0 in
      subst (λ (rs : List Record). NotesAgree now.size (put n a None) (abstract_after_all s rs) (told m rs)) (sym t.1) (read_answers now.size a s y n m ey among g (is_past mode) block os k.script k.at k.none k.done (k.is ∙ reads_past mode block os));
  write_answered = λ mode block os content turn a s now x f y n m ey among g doing here.
      let t = f.told y ey in let k = script_of (writing_in mode block os content) y.task t.0 in
      subst (λ (rs : List Record). NotesAgree now.size (put (record n { finished = all_raised n.finished doing.entered }) a None) (abstract_after_all s rs) (told m rs)) (sym t.1)
      (write_answers now.size a s y n m ey among g mode block os content k.script doing k.at k.none k.done k.is here);
  invalidation_answered = λ block turn a s now x f y n m ey among g.
      let t = f.told y ey in let k = script_of (Invalidating block) y.task t.0 in
      subst (λ (rs : List Record). NotesAgree now.size (put n a None) (abstract_after_all s rs) (told m rs)) (sym t.1) (invalidation_answers now.size a s y n m ey among g block k.script k.at k.none k.done k.is);
  commit_answered = λ clean turn a s now x f y n m ey among g doing here long.
      let t = f.told y ey in let k = script_of (commit_there clean) y.task t.0 in
      subst (λ (rs : List Record). NotesAgree now.size (put (record n { floors = greater_of n.floors doing.then_finished }) a None) (abstract_after_all s rs) (told m rs)) (sym t.1)
      (commit_answers now.size a s y n m ey among g clean k.script doing k.at k.none k.done k.is here long);
  refused = λ job refusal turn a s now x f y n m ey among g.
      let t = f.told y ey in
      subst (λ (rs : List Record). NotesAgree now.size (put n a None) (abstract_after_all s rs) (told m rs)) (sym t.1) (by_task now.size a s y n m ey among g job refusal y.task refl t.0);
  starts = λ abstract_job job turn a s now x f y n m ey among g was here.
      subst (λ (rs : List Record). NotesAgree now.size (put n a (Some (begun n job))) (abstract_after_all s rs) (told m rs)) (sym (f.told y ey)) (start_after now.size a s y n m ey among g abstract_job job was here);
  starts_late = λ job turn a s now x f y n m ey among g none.
      let t = f.told y ey in
      subst (λ (rs : List Record). NotesAgree now.size (put n a (Some (begun n job))) (abstract_after_all s rs) (told m rs)) (sym t.2) (late_after now.size a s y n m ey among g t.0 job none);
  resumes = λ job turn a s now x f y n m ey among g was here. resumed now.size a s y n m ey among g job was here f.records (f.told y ey);
  carries = λ turn a s now x f y n m ey among g.
      let t = f.told y ey in
      subst (λ (rs : List Record). NotesAgree now.size n (abstract_after_all s rs) (told m rs)) (sym t.2) (carried_after now.size a s y n m ey among g t.0 t.1);
  released = λ turn a s now x f y n m ey among g.
      let t = f.told y ey in
      subst (λ (rs : List Record). NotesAgree now.size n (abstract_after_all s rs) (told m rs)) (sym t.1) (release_after now.size n s m t.0 g);
  rests = λ turn a s now x f y n m ey among g.
      let t = f.told y ey in
      subst (λ (rs : List Record). NotesAgree now.size (put n a None) (abstract_after_all s rs) (told m rs)) (sym t.1) (rests_after now.size a s y n m ey among g y.task refl t.0);
  redone = λ size n s m a doing doing' g here e f. record {
    histories = g.histories;
    finished = g.finished;
    floors = g.floors;
    as_many = g.as_many;
    floors_as_many = g.floors_as_many;
    each = λ b z l ez. elim (cases_eq b a) [
      | inl same ↦ subst (λ (k : ℕ). IsNotedSo size (length n.histories) z.task (slice_get (slice_set n.doings a (Some doing')) k) k m) (sym same)
          (subst (λ (o : Option (Option Doing)). IsNotedSo size (length n.histories) z.task o a m) (sym (set_there n.doings a (Some doing) (Some doing') here))
          (redone_so size (length n.histories) z.task doing doing' a m e f (subst (λ (o : Option (Option Doing)). IsNotedSo size (length n.histories) z.task o a m) here (g.each a z (slice_get_within n.doings a (Some doing) here) (ap (slice_get s.actors) (sym same) ∙ ez)))))
      | inr ne ↦ subst (λ (o : Option (Option Doing)). IsNotedSo size (length n.histories) z.task o b m) (sym (set_other n.doings a b (Some doing') ne)) (g.each b z (subst (λ (k : ℕ). b < k) (length-set n.doings a (Some doing')) l) ez)
    ];
  };
  ended = λ size n s t m g. record {
    histories = g.histories;
    finished = g.finished;
    floors = g.floors;
    as_many = g.as_many;
    floors_as_many = g.floors_as_many;
    each = λ b z l e. subst (λ (v : AbstractActor). IsNotedSo size (length n.histories) v.task (slice_get (nobody n.doings) b) b m) (replicated (length s.actors) b abstract_resting z e) tt;
  };
  anew = λ size many shown view s t same. record {
    histories = sym same;
    finished = no_counts size shown;
    floors = no_counts size shown;
    as_many = length-map shown (λ (c : Content). 0) ∙ sym (length-map shown only);
    floors_as_many = length-map shown (λ (c : Content). 0) ∙ sym (length-map shown only);
    each = λ b z l e. subst (λ (v : AbstractActor). IsNotedSo size (length (map only shown)) v.task (slice_get (begins many shown).doings b) b (abstract_opened view)) (replicated (length s.actors) b abstract_resting z e) tt;
  };
  newest_read = λ turn block offset contents a s now x f y n m ey among g right.
      let t = f.told y ey in
      let job = subst (λ (k : Option Script). IsJob m a k) t.at (is_job now.size (length n.histories) y.task (slice_get n.doings a) a m (g.each a y among ey)) in
      subst (λ (h : ℕ → ℕ → History). AreNewest h block offset contents) g.histories
      (reads_newest t.mode t.location block t.all contents t.there offset m a job t.given
      (subst (λ (k : Option Script). AllEventsRight m (map (λ (r : Record). On r) (records a k (Gave t.there ∷ [])))) t.at (subst (λ (rs : List Record). AllEventsRight m (map (λ (r : Record). On r) rs)) t.told_is right)).0);
}
  where
    script_of : (job : AbstractJob) (task : Option Script) → AnswersSo job Finished task → IsOver job task
    script_of job None so = absurd so
    script_of job (Some script) so = record { script = script; at = refl; none = so.0; done = so.1; is = so.2 }

    by_task : (size a : ℕ) (s : World) (y : AbstractActor) (n : Notes) (m : AbstractNotes) (ey : slice_get s.actors a ≡ Some y) (among : a < length n.doings) (g : NotesAgree size n s m) (job : AbstractJob) (refusal : Refusal) (task : Option Script) → y.task ≡ task → AnswersSo job (Refuses refusal) y.task →
        NotesAgree size (put n a None) (abstract_after_all s (records a y.task (Done ∷ []))) (told m (records a y.task (Done ∷ [])))
    by_task size a s y n m ey among g job refusal None e so = absent size a s y n m ey among g (Done ∷ []) (put n a None) e (without_task size a s y n m ey among g None e)
    by_task size a s y n m ey among g job refusal (Some script) e so = let so' = subst (λ (t : Option Script). AnswersSo job (Refuses refusal) t) e so in ends_alone size a s y n m ey among g script e so'.0 (refused_note m a script.job script.answer so'.1)

    resumed : (size a : ℕ) (s : World) (y : AbstractActor) (n : Notes) (m : AbstractNotes) (ey : slice_get s.actors a ≡ Some y) (among : a < length n.doings) (g : NotesAgree size n s m) (job : Job) (was : Option Doing) → slice_get n.doings a ≡ Some was → (rs : List Record) → IsResumed a y.task rs → NotesAgree size (put n a (Some (begun n job))) (abstract_after_all s rs) (told m rs)
    resumed size a s y n m ey among g job was here rs (Given j i e) = subst (λ (qs : List Record). NotesAgree size (put n a (Some (begun n job))) (abstract_after_all s qs) (told m qs)) (sym e) (start_after size a s y n m ey among g j job was here)
    resumed size a s y n m ey among g job was here rs (Kept j i e) = subst (λ (qs : List Record). NotesAgree size (put n a (Some (begun n job))) (abstract_after_all s qs) (told m qs)) (sym e) (again_after size a s y n m ey among g j job was here)
    resumed size a s y n m ey among g job was here rs (Failing j i none e) = subst (λ (qs : List Record). NotesAgree size (put n a (Some (begun n job))) (abstract_after_all s qs) (told m qs)) (sym e) (failing_after size a s y n m ey among g j i job was here)
    resumed size a s y n m ey among g job was here rs (Nowhere none e) = subst (λ (qs : List Record). NotesAgree size (put n a (Some (begun n job))) (abstract_after_all s qs) (told m qs)) (sym e) (set_aside size a s y n m ey among g (Some (begun n job)) none)
