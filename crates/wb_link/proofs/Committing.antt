-- A commit's steps, by a flush or a suspend that leads it.
use Rattle.std.proofs.Common.{◌≡◌, ◌≢◌, ◌≤◌, ℕ, zero, suc, Bool, true, false, List, [], ◌∷◌, Option, refl, sym, ap, subst, ◌∙◌, arith}
use Rattle.wb_disk.specs.Device.{Content}
use Rattle.wb_contents.specs.Volume.{Volume, Locations}
use Rattle.wb_contents.specs.Acts.{Act, volume_after as after_act, End_flush, Sync_cache, Sync_origin, Fail_cache_sync, Fail_origin_sync, Write_root, End_commit, volume_after_all as after_acts}
use Rattle.wb_link.specs.Tables.{Order, Job, Flushing, Suspending, Answer, Finished, Io, Want, Set_failed, Break_commits, Sync_cache_device, Sync_origin_device, Put_root, Sync_metadata, End_running, End, Got, Done, Fault, breaking}
use Rattle.wb_link.specs.World.{Shared, Nothing, AbstractActor, actor_after}
use Rattle.wb_link.proofs.Views.{CommitView, commit_view}
use Rattle.wb_contents.specs.Conditions.{IsRunOfActs as IsActs}
use Rattle.wb_link.proofs.Link.{Agrees, Ready, Owes, Others, Right, AllMine, Goes, Safe, acts_of, flush_acts}
use Rattle.wb_link.proofs.Agreeing.{cached_agrees, based_agrees, cached_partly_agrees, based_partly_agrees, root_agrees, end_agrees, flush_agrees, failed_agrees, broken_agrees}
use Rattle.wb_link.proofs.Calm.{calmly}
use Rattle.wb_link.proofs.Givings.{at_work, script_of, Comes, holds_nothing, resting_safe, gives_done, gives_fault}

abbrev pub Commits : Job → Type 0
Commits (Flushing order) = Unit {0}
Commits Suspending = Unit {0}
Commits job = ⊥

commit_acts : (job : Job) → Commits job → (locations : Locations) (a : ℕ) (c : ℕ → Content) (w : Want) (got : Got) → acts_of locations a job c w got ≡ flush_acts a w got
commit_acts (Flushing order) commits l a c w got = refl
commit_acts Suspending commits l a c w got = refl
commit_acts job commits l a c w got = absurd commits

-- a step before its answer
abbrev IsWork : Want → Type 0
IsWork (End answer) = ⊥
IsWork w = Unit {0}

commit_right : (a : ℕ) (job : Job) → Commits job → (w : Want) → IsWork w → (got : Got) (d e : Volume) → e.histories ≡ d.histories → Right a job w got d e
commit_right a (Flushing order) commits (End answer) work got d e r = absurd work
commit_right a Suspending commits (End answer) work got d e r = absurd work
commit_right a (Flushing order) commits w work got d e r = record { reads = tt; histories = r; flushes = tt }
commit_right a Suspending commits w work got d e r = record { reads = tt; histories = r; flushes = tt }
commit_right a job commits w work got d e r = absurd commits

refused_right : (a : ℕ) (job : Job) → Commits job → (answer : Answer) → answer ≢ Finished → (locations : Locations) (c : ℕ → Content) (e : Volume) → (acts_of locations a job c (End answer) Done ≡ []) × Right a job (End answer) Done e e
refused_right a (Flushing order) commits Finished other l c e = absurd (other refl)
refused_right a Suspending commits Finished other l c e = absurd (other refl)
refused_right a (Flushing order) commits answer other l c e = (refl, record { reads = tt; histories = refl; flushes = tt })
refused_right a Suspending commits answer other l c e = (refl, record { reads = tt; histories = refl; flushes = tt })
refused_right a job commits answer other l c e = absurd commits

breaks : (job : Job) → Commits job → breaking job ≡ Set_failed ∷ Break_commits ∷ []
breaks (Flushing order) commits = refl
breaks Suspending commits = refl
breaks job commits = absurd commits

-- answered otherwise than done
pub refused_safe : (n size a : ℕ) (job : Job) → Commits job → (answer : Answer) → answer ≢ Finished → (order : Option Order) (leads : Bool) (c : ℕ → Content) (s : Shared) (d : Volume) →
    ((t : Shared) (e : Volume) → Others a (at_work job [] answer Nothing order leads c) s d t e → Owes job (End answer) t e) → Safe n size a (at_work job [] answer Nothing order leads c) s d
refused_safe zero size a job commits answer other order leads c s d owes = tt
refused_safe (suc n) size a job commits answer other order leads c s d owes = λ t e got o g v r. let no = refused_right a job commits answer other t.mapping c e in
    gives_done (λ k. Comes n size a job [] answer Nothing order leads c t e k)
    (calmly size a (λ y u f. Safe n size a y u f) _ _ (End answer) Done t t e _ no.0 g.agrees (holds_nothing answer t) (owes t e o) no.1 (resting_safe n size a Nothing order leads c t e)) got v

-- answered done, once its commit has ended
pub finishing : (n size a : ℕ) (job : Job) → Commits job → (order : Option Order) (c : ℕ → Content) (s : Shared) (d : Volume) → d.ticket a ≤ d.ended →
    ((t : Shared) (e : Volume) → Others a (at_work job [] Finished Nothing order false c) s d t e → Owes job (End Finished) t (after_act e (End_flush a))) → Safe n size a (at_work job [] Finished Nothing order false c) s d
finishing zero size a job commits order c s d k owes = tt
finishing (suc n) size a job commits order c s d k owes = λ t e got o g v r. gives_done (λ w. Comes n size a job [] Finished Nothing order false c t e w)
    (subst (λ (ys : List Act). Goes size a (λ y v f. Safe n size a y v f) (at_work job [] Finished Nothing order false c) (script_of job [] Finished) (End Finished) Done t t e (after_acts e ys) ys) (sym (commit_acts job commits t.mapping a c (End Finished) Done)) (record {
      run = (omega (arith, k, o.ticket, o.ended), tt);
      mine = (refl, tt);
      agrees = flush_agrees t e a g.agrees;
      ready = refl;
      owes = owes t e o;
      right = flush_right job commits e;
      left = resting_safe n size a Nothing order false c t (after_act e (End_flush a));
    }))
    got v
  where
    flush_right : (job : Job) → Commits job → (e : Volume) → Right a job (End Finished) Done e (after_act e (End_flush a))
    flush_right (Flushing order) commits e = record { reads = tt; histories = refl; flushes = λ b i. omega arith }
    flush_right Suspending commits e = record { reads = tt; histories = refl; flushes = λ b i. omega arith }
    flush_right job commits e = absurd commits

-- what its leader knows of the commit: it serves this flush; and which of its steps are done
pub record Led (a : ℕ) (cached based root_written : Bool) (d : Volume) : Type 0 where
  pub ticket : d.ticket a ≤ d.began
  pub is_cached : cached ≡ true → d.cache_synced ≡ true
  pub is_based : based ≡ true → d.origin_synced ≡ true
  pub is_rooted : root_written ≡ true → d.root_written ≡ true

led_on : (a : ℕ) (x : AbstractActor) (cached based root_written : Bool) (s t : Shared) (d e : Volume) → x.leads ≡ true → Others a x s d t e → Led a cached based root_written d → Led a cached based root_written e
led_on a x cached based root_written s t d e l o k =
    let same : commit_view e ≡ commit_view d = o.commit l in
    let number : e.began ≡ d.began = ap (λ (v : CommitView). v.began) same in record {
      ticket = omega (arith, k.ticket, number, o.ticket);
      is_cached = λ f. ap (λ (v : CommitView). v.cache_synced) same ∙ k.is_cached f;
      is_based = λ f. ap (λ (v : CommitView). v.origin_synced) same ∙ k.is_based f;
      is_rooted = λ f. ap (λ (v : CommitView). v.root_written) same ∙ k.is_rooted f;
    }

module _ (size a : ℕ) (job : Job) (commits : Commits job) (order : Option Order) (c : ℕ → Content) (rest : List Want)
    (broken : (n : ℕ) (s : Shared) (d : Volume) → s.fail ≡ true → Safe n size a (at_work job [] Io Nothing order true c) s d)
    (ended : (n : ℕ) (s : Shared) (d : Volume) → d.ticket a ≤ d.ended → Safe n size a (at_work job rest Finished Nothing order false c) s d) where
  abbrev at : List Want → Answer → AbstractActor
  at steps answer = at_work job steps answer Nothing order true c

  -- A step of its leader: its acts are a flush's, and it adds nothing to a history.
  step : (n : ℕ) (steps : List Want) (answer : Answer) (w : Want) → IsWork w → (got : Got) (t u : Shared) (e : Volume) → IsActs e (flush_acts a w got) → AllMine size a (at steps answer) t.committing (flush_acts a w got) → Agrees u (after_acts e (flush_acts a w got)) → Ready w (at steps answer) t →
      Owes job w u (after_acts e (flush_acts a w got)) → (after_acts e (flush_acts a w got)).histories ≡ e.histories → Safe n size a (actor_after (at steps answer) (script_of job steps answer) w got) u (after_acts e (flush_acts a w got)) →
      Goes size a (λ y v f. Safe n size a y v f) (at steps answer) (script_of job steps answer) w got t u e (after_acts e (acts_of t.mapping a job c w got)) (acts_of t.mapping a job c w got)
  step n steps answer w work got t u e run mine agrees ready owes same left = subst (λ (ys : List Act). Goes size a (λ y v f. Safe n size a y v f) (at steps answer) (script_of job steps answer) w got t u e (after_acts e ys) ys) (sym (commit_acts job commits t.mapping a c w got))
      (record { run = run; mine = mine; agrees = agrees; ready = ready; owes = owes; right = commit_right a job commits w work got e _ same; left = left })

  -- after a fault the commit stays begun, and no other begins
  breaking_off : (n : ℕ) (s : Shared) (d : Volume) → s.fail ≡ true → Safe n size a (at (Break_commits ∷ []) Io) s d
  breaking_off zero s d h = tt
  breaking_off (suc n) s d h = λ t e got o g v r. gives_done (λ k. Comes n size a job (Break_commits ∷ []) Io Nothing order true c t e k)
      (step n (Break_commits ∷ []) Io Break_commits tt Done t (record t { broken = true }) e tt tt (broken_agrees t e g.agrees) tt tt refl (broken n (record t { broken = true }) e (o.fail h))) got v

  failing : (n : ℕ) (s : Shared) (d : Volume) → Safe n size a (at (breaking job) Io) s d
  failing n s d = subst (λ (ws : List Want). Safe n size a (at ws Io) s d) (sym (breaks job commits)) (on n) where
    on : (n : ℕ) → Safe n size a (at (Set_failed ∷ Break_commits ∷ []) Io) s d
    on zero = tt
    on (suc n) = λ t e got o g v r. gives_done (λ k. Comes n size a job (Set_failed ∷ Break_commits ∷ []) Io Nothing order true c t e k)
        (step n (Set_failed ∷ Break_commits ∷ []) Io Set_failed tt Done t (record t { fail = true }) e tt tt (failed_agrees t e g.agrees) tt tt refl (breaking_off n (record t { fail = true }) e refl)) got v

  ending : (n : ℕ) (s : Shared) (d : Volume) → Led a true true true d → Safe n size a (at (End_running ∷ rest) Finished) s d
  ending zero s d k = tt
  ending (suc n) s d k = λ t e got o g v r. let steps = End_running ∷ rest in let now = led_on a (at steps Finished) true true true s t d e refl o k in
      gives_done (λ w. Comes n size a job steps Finished Nothing order true c t e w)
      (step n steps Finished End_running tt Done t _ e (now.is_rooted refl, tt) (refl, tt) (end_agrees t e _ g.agrees) refl tt refl (ended n _ (after_act e End_commit) now.ticket)) got v

  settling : (n : ℕ) (s : Shared) (d : Volume) → Led a true true true d → Safe n size a (at (Sync_metadata ∷ End_running ∷ rest) Finished) s d
  settling zero s d k = tt
  settling (suc n) s d k = λ t e got o g v r. let steps = Sync_metadata ∷ End_running ∷ rest in let now = led_on a (at steps Finished) true true true s t d e refl o k in
      gives_fault (λ w. Comes n size a job steps Finished Nothing order true c t e w)
      (step n steps Finished Sync_metadata tt Done t t e tt tt g.agrees tt tt refl (ending n t e now))
      (λ lands. step n steps Finished Sync_metadata tt (Fault lands) t t e tt tt g.agrees tt tt refl (failing n t e))
      got v

  rooting : (n : ℕ) (s : Shared) (d : Volume) → Led a true true false d → Safe n size a (at (Put_root ∷ Sync_metadata ∷ End_running ∷ rest) Finished) s d
  rooting zero s d k = tt
  rooting (suc n) s d k = λ t e got o g v r. let steps = Put_root ∷ Sync_metadata ∷ End_running ∷ rest in let now = led_on a (at steps Finished) true true false s t d e refl o k in
      gives_fault (λ w. Comes n size a job steps Finished Nothing order true c t e w)
      (step n steps Finished Put_root tt Done t _ e ((now.is_cached refl, now.is_based refl), tt) (refl, tt) (root_agrees t e g.agrees) refl tt refl (settling n _ (after_act e Write_root) (record { ticket = now.ticket; is_cached = now.is_cached; is_based = now.is_based; is_rooted = λ f. refl })))
      (λ lands. step n steps Finished Put_root tt (Fault lands) t _ e ((now.is_cached refl, now.is_based refl), tt) (refl, tt) (root_agrees t e g.agrees) refl tt refl (failing n _ (after_act e Write_root)))
      got v

  basing : (n : ℕ) (s : Shared) (d : Volume) → Led a true false false d → Safe n size a (at (Sync_origin_device ∷ Put_root ∷ Sync_metadata ∷ End_running ∷ rest) Finished) s d
  basing zero s d k = tt
  basing (suc n) s d k = λ t e got o g v r. let steps = Sync_origin_device ∷ Put_root ∷ Sync_metadata ∷ End_running ∷ rest in let now = led_on a (at steps Finished) true false false s t d e refl o k in
      gives_fault (λ w. Comes n size a job steps Finished Nothing order true c t e w)
      (step n steps Finished Sync_origin_device tt Done t _ e (tt, tt) (refl, tt) (based_agrees t e g.agrees) tt tt refl (rooting n _ (after_act e Sync_origin) (record { ticket = now.ticket; is_cached = now.is_cached; is_based = λ f. refl; is_rooted = λ f. absurd (cc) })))
      (λ lands. step n steps Finished Sync_origin_device tt (Fault lands) t _ e (tt, tt) (refl, tt) (based_partly_agrees t e lands g.agrees) tt tt refl (failing n _ (after_act e (Fail_origin_sync lands))))
      got v

  -- from its begin on
  pub caching : (n : ℕ) (s : Shared) (d : Volume) → Led a false false false d → Safe n size a (at (Sync_cache_device ∷ Sync_origin_device ∷ Put_root ∷ Sync_metadata ∷ End_running ∷ rest) Finished) s d
  caching zero s d k = tt
  caching (suc n) s d k = λ t e got o g v r. let steps = Sync_cache_device ∷ Sync_origin_device ∷ Put_root ∷ Sync_metadata ∷ End_running ∷ rest in let now = led_on a (at steps Finished) false false false s t d e refl o k in
      gives_fault (λ w. Comes n size a job steps Finished Nothing order true c t e w)
      (step n steps Finished Sync_cache_device tt Done t _ e (tt, tt) (refl, tt) (cached_agrees t e g.agrees) tt tt refl (basing n _ (after_act e Sync_cache) (record { ticket = now.ticket; is_cached = λ f. refl; is_based = λ f. absurd (cc); is_rooted = λ f. absurd (cc) })))
      (λ lands. step n steps Finished Sync_cache_device tt (Fault lands) t _ e (tt, tt) (refl, tt) (cached_partly_agrees t e lands g.agrees) tt tt refl (failing n _ (after_act e (Fail_cache_sync lands))))
      got v
