-- What an event does to an opening is what wb_promise says.
use Rattle.std.proofs.Common.{◌≡◌, ◌≢◌, ◌≤◌, ◌<◌, if◌then◌else◌, not, inl, inr, ℕ, zero, suc, Bool, true, false, List, [], ◌∷◌, Option, Some, None, refl, sym, ap, subst, ◌∙◌, arith, slice_get, slice_set, length, length-set, replicate}
use Rattle.std.proofs.lemmas.Option.{slice_get_past}
use Rattle.std.proofs.lemmas.Bool.{cases_eq, eqb-false, eqb-true}
use Rattle.std.specs.Bool.{OnTrue, OnFalse}
use Rattle.std.specs.declared.alloc.Global.{Global}
use Rattle.wb_types.specs.declared.geometry.Geometry.{Geometry}
use Rattle.wb_words.specs.SharedWords.{flag}
use Rattle.wb_types.specs.declared.mode.Mode.{Mode}
use Rattle.wb_types.specs.declared.refusal.Refusal.TheVariants.{Geometry as TooSmall}
use Rattle.wb_types.specs.declared.mode.Dev.{Dev}
use Rattle.wb_types.specs.declared.mode.Dev.TheVariants.{Metadata, Cache, Origin}
use Rattle.wb_policy.specs.declared.quiet.Quiet.{Quiet}
use Rattle.wb_disk.specs.Device.{Content as Bytes, History, synced}
use Rattle.wb_disk.specs.Memory.{Memory}
use Rattle.wb_disk.specs.Crash.{Choice, Applies, crashed}
use Rattle.wb_disk.specs.Failing.{MayFail, lands, synced_where}
use Rattle.wb_meta.specs.Steps.{steps_after}
use Rattle.wb_meta.specs.declared.read_steps.ReadSteps.{ReadSteps}
use Rattle.wb_meta.specs.declared.read_steps.ReadSteps.TheVariants.{Begun}
use Rattle.wb_tasks.specs.Plan.{Plan, want, after, table, device_of}
use Rattle.wb_tasks.specs.Tables.{Opening}
use Rattle.wb_tasks.specs.declared.step.DeviceStep.{DeviceStep}
use Rattle.wb_tasks.specs.declared.step.DeviceStep.TheVariants.{Sync, ReadMetadata, WriteNode, WriteRoot}
use Rattle.wb_tasks.specs.declared.step.Want.{Want}
use Rattle.wb_tasks.specs.declared.step.Want.TheVariants.{Device}
use Rattle.wb_tasks.specs.declared.step.Got.{Got}
use Rattle.wb_tasks.specs.declared.step.Got.TheVariants.{Done, Fault}
use Rattle.wb_devices.specs.declared.devices.Devices.{Devices}
use Rattle.wb_devices.specs.Committing.{goes_on}
use Rattle.wb_devices.specs.Moving.{device_in}
use Rattle.wb_devices.specs.declared.running.RunningCommit.{RunningCommit}
use Rattle.wb_promise.specs.declared.job.Job.{Job}
use Rattle.wb_promise.specs.declared.job.Job.TheVariants.{Open, Suspend}
use Rattle.wb_promise.specs.declared.event.Event.{Event}
use Rattle.wb_promise.specs.declared.event.Event.TheVariants.{Start, Step, FaultStep, Stop}
use Rattle.wb_promise.specs.declared.event.What.{What}
use Rattle.wb_promise.specs.declared.event.What.TheVariants.{Skipped, Refused as RefusedWhat, Started, Stepped, Stopped}
use Rattle.wb_promise.specs.States.{Shape, Actor, Opens, OfTarget, OfReading, resting, with_device}
use Rattle.wb_promise.specs.Happenings.{Chosen, Plain, Begins, Reaches, Puts, OfSome, DoesNotApply, DoesRead, IsSuspending, MayStop, has_room_for}
use Rattle.wb_promise.specs.Effects.{after_what, all_crashed, all_resting, job_of, led, stepped, with_actor, device_done, device_failed, went}
use Rattle.wb_machine.specs.declared.asked.Asked.{Asked}
use Rattle.wb_machine.specs.declared.opener.Opener.{Opener}
use Rattle.wb_machine.specs.declared.phase.Phase.{Phase}
use Rattle.wb_machine.specs.declared.phase.Phase.TheVariants.{Closed, Underway, Standing}
use Rattle.wb_machine.specs.Life.{Now, Happens, FailsOn, IsThere, MayBePut, WasPut, actors_of, asked_by, commit_failed, contents_of, device_step_of, has_task, is_sound, is_suspending, opening_actor, phase_of, reading_synced, reading_failed, stands, state_of}
use Rattle.wb_machine.specs.Making.{reading_of}
use Rattle.wb_machine.specs.Serving.{IsPut}
use Rattle.wb_machine.specs.Standing.{StandsSo}
use Rattle.wb_machine.specs.Members.{suspends}
use Rattle.wb_machine.proofs.Members.{busy_there, idle_there, length_seated, none_at, some_at, suspends_so, suspends_told}
use Rattle.wb_contents.proofs.Lists.{set_there, set_other, set_twice, replicated_there, there_is}

-- ---- lists of one actor that opens, beside others that rest

pub set_replicate : {X : Type 0} (n i : ℕ) (x : X) → slice_set (replicate n x) i x ≡ replicate n x
set_replicate zero i x = refl
set_replicate (suc n) zero x = refl
set_replicate (suc n) (suc i) x = ap (λ xs. x ∷ xs) (set_replicate n i x)

pub length_replicate : {X : Type 0} (n : ℕ) (x : X) → length (replicate n x) ≡ n
length_replicate zero x = refl
length_replicate (suc n) x = ap suc (length_replicate n x)

resting_all : (xs : List Actor) → all_resting xs ≡ replicate (length xs) resting
resting_all [] = refl
resting_all (x ∷ xs) = ap (λ ys. resting ∷ ys) (resting_all xs)

many : (n : ℕ) (o : Phase) → IsThere n o → length (actors_of n o) ≡ n
many n Closed h = length_replicate n resting
many n (Underway o) h = length-set (replicate n resting) o.asked.actor (opening_actor o.asked o.task) ∙ length_replicate n resting
many n (Standing t members) h = length_seated members.items t.crew.cards (h.1 ∙ sym h.0) ∙ h.0

pub all_rest : (n : ℕ) (o : Phase) → IsThere n o → all_resting (actors_of n o) ≡ replicate n resting
all_rest n o h = resting_all (actors_of n o) ∙ ap (λ k. replicate k resting) (many n o h)

within : (n : ℕ) (o : Phase) → IsThere n o → (a : ℕ) → a < n → (x : Actor) × (slice_get (actors_of n o) a ≡ Some x)
within n o t a h = there_is (actors_of n o) a (let l = many n o t in omega (arith, l))

pub there : (n : ℕ) (o : Opener) → o.asked.actor < n → slice_get (actors_of n (Underway o)) o.asked.actor ≡ Some (opening_actor o.asked o.task)
there n o h = set_there (replicate n resting) o.asked.actor resting (opening_actor o.asked o.task) (replicated_there n o.asked.actor resting h)

rests : (n a : ℕ) (P : Job × Plan → Type 0) → OfSome (slice_get (replicate n resting) a) (λ (x : Actor). OfSome x.task P) → ⊥
rests zero a P h = h
rests (suc n) zero P h = h
rests (suc n) (suc a) P h = rests n a P h

pub idle_beside : (n : ℕ) (o : Opener) (a : ℕ) (P : Job × Plan → Type 0) → o.asked.actor ≢ a → OfSome (slice_get (actors_of n (Underway o)) a) (λ (x : Actor). OfSome x.task P) → ⊥
idle_beside n o a P e h = rests n a P (subst (λ (x : Option Actor). OfSome x (λ (y : Actor). OfSome y.task P)) (set_other (replicate n resting) o.asked.actor a (opening_actor o.asked o.task) (λ q. e (sym q))) h)

-- who has no task is at nothing
pub idle : (n : ℕ) (o : Phase) (a : ℕ) (P : Job × Plan → Type 0) → has_task a o ≡ false → OfSome (slice_get (actors_of n o) a) (λ (x : Actor). OfSome x.task P) → ⊥
idle n Closed a P e h = rests n a P h
idle n (Underway o) a P e h = idle_beside n o a P (eqb-false o.asked.actor a e) h
idle n (Standing t members) a P e h = idle_there members.items t.crew.cards a P e h

-- where neither an opening is at work nor a target stands, nobody has one
pub nobody_opens : (o : Phase) (a : ℕ) → stands o ≡ false → ((x : Opener) → o ≡ Underway x → ⊥) → has_task a o ≡ false
nobody_opens Closed a e h = refl
nobody_opens (Underway x) a e h = absurd (h x refl)
nobody_opens (Standing t members) a e h = absurd (cc)

-- and who opens is at its opening
pub busy : (n : ℕ) (o : Opener) (P : Job × Plan → Type 0) → o.asked.actor < n → P (Open o.asked.mode o.asked.second, o.task) → OfSome (slice_get (actors_of n (Underway o)) o.asked.actor) (λ (x : Actor). OfSome x.task P)
busy n o P h p = subst (λ (x : Option Actor). OfSome x (λ (y : Actor). OfSome y.task P)) (sym (there n o h)) p

pub only_busy : (n : ℕ) (o : Opener) (P : Job × Plan → Type 0) → o.asked.actor < n → OfSome (slice_get (actors_of n (Underway o)) o.asked.actor) (λ (x : Actor). OfSome x.task P) → P (Open o.asked.mode o.asked.second, o.task)
only_busy n o P h p = subst (λ (x : Option Actor). OfSome x (λ (y : Actor). OfSome y.task P)) (there n o h) p

-- ---- an event that does not apply

pub passes : (shape : Shape) (w : Now) (event : Event) (what : What) → DoesNotApply w event → what ≡ Skipped → Happens shape w event what [] w
passes shape w (Stop choice) what d e = rw e (record { chosen = Plain; may = ((refl, refl), d); leads = refl })
passes shape w event what d e = rw e (record { chosen = Plain; may = ((refl, refl), d); leads = refl })

-- ---- starts

calm : (n : ℕ) → flag n ≡ false → n ≡ 0
calm zero e = refl
calm (suc n) e = absurd (cc)

has_not : (b : Bool) → not b ≡ false → b ≡ false → ⊥
has_not false e f = cc
has_not true e f = cc

pub nobody_starts : (devices : Devices Memory) (n : ℕ) (o : Phase) → IsThere n o → (a : ℕ) (job : Job) → n ≤ a → DoesNotApply (state_of n devices o) (Start a job)
nobody_starts devices n o t a job h = inl (slice_get_past (actors_of n o) a (let l = many n o t in omega (arith, l)))

pub busy_starts : (devices : Devices Memory) (n : ℕ) (o : Phase) (a : ℕ) (job : Job) → IsThere n o → has_task a o ≡ true → DoesNotApply (state_of n devices o) (Start a job)
busy_starts devices n Closed a job h e = absurd (cc)
busy_starts devices n (Underway o) a job h e =
    let same : o.asked.actor ≡ a = eqb-true o.asked.actor a e in
    inr (inl (subst (λ k. OfSome (slice_get (actors_of n (Underway o)) k) (λ (x : Actor). OfSome x.task (λ doing. Unit {0}))) same (busy n o (λ doing. Unit {0}) h tt)))
busy_starts devices n (Standing t members) a job h e = inr (inl (busy_there members.items t.crew.cards a (let l = h.0 in let k = h.1 in omega (arith, l, k)) e))

-- while somebody suspends the target nothing starts
pub suspended_starts : (devices : Devices Memory) (n : ℕ) (o : Phase) (a : ℕ) (job : Job) → IsThere n o → is_suspending o ≡ true → DoesNotApply (state_of n devices o) (Start a job)
suspended_starts devices n Closed a job h e = absurd (cc)
suspended_starts devices n (Underway o) a job h e = absurd (cc)
suspended_starts devices n (Standing t members) a job h e = inr (inr (inl (some_at suspends (λ doing. doing.0 ≡ Suspend) suspends_so members.items t.crew.cards (let l = h.0 in let k = h.1 in omega (arith, l, k)) e)))

-- where none of the members does, nobody does
pub nobody_suspends : (devices : Devices Memory) (n : ℕ) (o : Phase) → IsThere n o → is_suspending o ≡ false → IsSuspending (state_of n devices o) → ⊥
nobody_suspends devices n Closed h e s = rests n s.0 (λ doing. doing.0 ≡ Suspend) s.1
nobody_suspends devices n (Underway o) h e s = elim (cases_eq o.asked.actor s.0) [
  | inl same ↦
      let there = subst (λ (k : ℕ). OfSome (slice_get (actors_of n (Underway o)) k) (λ (x : Actor). OfSome x.task (λ doing. doing.0 ≡ Suspend))) (sym same) s.1 in
      let opens : Open o.asked.mode o.asked.second ≡ Suspend = only_busy n o (λ doing. doing.0 ≡ Suspend) h there in
      absurd (cc)
  | inr other ↦ idle_beside n o s.0 (λ doing. doing.0 ≡ Suspend) other s.1
]
nobody_suspends devices n (Standing t members) h e s = none_at suspends (λ doing. doing.0 ≡ Suspend) suspends_told members.items t.crew.cards s.0 e s.1

begun_state : (n : ℕ) (devices : Devices Memory) (o : Phase) → IsThere n o → (a : ℕ) (mode : Mode) (second : Bool) (plan : Plan) (new : Opener) → new.asked ≡ record { actor = a; mode = mode; second = second } → new.task ≡ plan → reading_of new ≡ None → new.opening.commit ≡ None →
    state_of n devices (Underway new) ≡ record { devices = contents_of devices; commit = None; phase = Opens mode None; actors = slice_set (all_resting (actors_of n o)) a (opening_actor (record { actor = a; mode = mode; second = second }) plan) }
begun_state n devices o t a mode second plan new e f g k = rw (e, f, g, k, all_rest n o t) refl

no_standing : (g : Geometry) (n : ℕ) (o : Phase) → StandsSo g n o → is_sound o ≡ false → OfTarget (phase_of o) (λ t. t.words.fail ≡ 0) → ⊥
no_standing g n Closed s f t = t
no_standing g n (Underway o) s f t = t
no_standing g n (Standing x members) s f t = has_not x.failed f (s.failed ∙ ap flag t)

module _ (shape : Shape) (devices : Devices Memory) (n : ℕ) (o : Phase) (is_there : IsThere n o) (so : StandsSo shape.geometry n o) (a : ℕ) (h : a < n) (i : has_task a o ≡ false) (alone : is_suspending o ≡ false) (calm : is_sound o ≡ false) where
  applies : (mode : Mode) (second : Bool) → DoesNotApply (state_of n devices o) (Start a (Open mode second)) → ⊥
  applies mode second (inl none) = let inside = within n o is_there a h in let is = inside.1 in absurd (cc)
  applies mode second (inr (inl t)) = idle n o a (λ doing. Unit {0}) i t
  applies mode second (inr (inr (inl s))) = nobody_suspends devices n o is_there alone s
  applies mode second (inr (inr (inr p))) = no_standing shape.geometry n o so calm p

  starts_in : (mode : Mode) (second : Bool) (what : What) (new : Opener) → has_room_for second shape.geometry ≡ true → new.asked ≡ record { actor = a; mode = mode; second = second } → new.task ≡ table (Opening shape.geometry.meta_sectors) → reading_of new ≡ None → new.opening.commit ≡ None → what ≡ Started →
      Happens shape (state_of n devices o) (Start a (Open mode second)) what [] (state_of n devices (Underway new))
  starts_in mode second what new room e f g k s = rw s (record {
    chosen = Plain;
    may = (refl, applies mode second, ap (λ (b : Bool). if b then None else Some TooSmall) room);
    leads = begun_state n devices o is_there a mode second (table (Opening shape.geometry.meta_sectors)) new e f g k ∙ sym given;
  })
    where
      some : slice_get (all_resting (actors_of n o)) a ≡ Some resting
      some = ap (λ xs. slice_get xs a) (all_rest n o is_there) ∙ replicated_there n a resting h

      given : after_what shape (state_of n devices o) (Start a (Open mode second)) Started Plain
          ≡ record { devices = contents_of devices; commit = None; phase = Opens mode None; actors = slice_set (all_resting (actors_of n o)) a (opening_actor (record { actor = a; mode = mode; second = second }) (table (Opening shape.geometry.meta_sectors))) }
      given = rw some refl

  pub starts : (job : Job) (asked : Asked) (what : What) (new : Opener) → asked_by a job ≡ Some asked → has_room_for asked.second shape.geometry ≡ true → new.asked ≡ asked → new.task ≡ table (Opening shape.geometry.meta_sectors) → reading_of new ≡ None → new.opening.commit ≡ None → what ≡ Started →
      Happens shape (state_of n devices o) (Start a job) what [] (state_of n devices (Underway new))
  starts (Open mode second) asked what new j room e f g k s =
      let same : asked ≡ record { actor = a; mode = mode; second = second } = cc in
      starts_in mode second what new (subst (λ (x : Asked). has_room_for x.second shape.geometry ≡ true) same room) (e ∙ same) f g k s
  starts job asked what new j room e f g k s = absurd (cc)

  -- the metadata have no room for the version that it asks for
  pub starts_not : (job : Job) (asked : Asked) (what : What) → asked_by a job ≡ Some asked → has_room_for asked.second shape.geometry ≡ false → what ≡ RefusedWhat TooSmall →
      Happens shape (state_of n devices o) (Start a job) what [] (state_of n devices o)
  starts_not (Open mode second) asked what j room s =
      let same : asked ≡ record { actor = a; mode = mode; second = second } = cc in
      let none : has_room_for second shape.geometry ≡ false = subst (λ (x : Asked). has_room_for x.second shape.geometry ≡ false) same room in
      rw s (record { chosen = Plain; may = (refl, applies mode second, ap (λ (b : Bool). if b then None else Some TooSmall) none); leads = refl })
  starts_not job asked what j room s = absurd (cc)

pub asked_actor : (a : ℕ) (job : Job) (asked : Asked) → asked_by a job ≡ Some asked → a ≡ asked.actor
asked_actor a (Open mode second) asked e = let same : record { actor = a; mode = mode; second = second } ≡ asked = cc in ap (λ (x : Asked). x.actor) same
asked_actor a job asked e = absurd (cc)

-- ---- steps of who opens

module _ (shape : Shape) (n : ℕ) (devices devices' : Devices Memory) (o new : Opener) (h : o.asked.actor < n) (same : new.asked ≡ o.asked) where
  -- before its step, with this commit
  abbrev w : Option RunningCommit → Now
  w commit = record { devices = contents_of devices; commit = commit; phase = phase_of (Underway o); actors = actors_of n (Underway o) }

  -- the actors once its task is this
  acts : (plan : Plan) → new.task ≡ plan → actors_of n (Underway new) ≡ slice_set (actors_of n (Underway o)) o.asked.actor (opening_actor o.asked plan)
  acts plan t = rw (same, t) (sym (set_twice (replicate n resting) o.asked.actor (opening_actor o.asked o.task) (opening_actor o.asked plan)))

  -- what its step leads to
  leads : (commit : Option RunningCommit) (next : Want) (got : Got) (chosen : Chosen Quiet Global) (change : Job → List Bytes → DeviceStep → List History → List History) →
      went shape (w commit) o.asked.actor next got chosen change ≡ stepped shape (w commit) o.asked.actor (opening_actor o.asked o.task) next got chosen (change (Open o.asked.mode o.asked.second) [])
  leads commit next got chosen change = ap (λ (x : Option Actor). with_actor (w commit) x (λ y. stepped shape (w commit) o.asked.actor y next got chosen (change (job_of y.task) y.buffer))) (there n o h)

  next_state : (contents : Devices (List History)) (reading : Option (ReadSteps Global)) (commit : Option RunningCommit) (plan : Plan) → contents_of devices' ≡ contents → (reading_of new) ≡ reading → new.opening.commit ≡ commit → new.task ≡ plan →
      state_of n devices' (Underway new) ≡ record { devices = contents; commit = commit; phase = Opens o.asked.mode reading; actors = slice_set (actors_of n (Underway o)) o.asked.actor (opening_actor o.asked plan) }
  next_state contents reading commit plan d r c t = rw (d, r, c, acts plan t, same) refl

  pub syncs : (alloc : Global) (device : Dev) (what : What) → want o.task ≡ Device (Sync device) → what ≡ Stepped (Device (Sync device)) Done → new.task ≡ after o.task Done → (reading_of new) ≡ reading_synced alloc device None (reading_of o) → new.opening.commit ≡ None →
      contents_of devices' ≡ with_device device (contents_of devices) (synced (device_in device (contents_of devices))) → Happens shape (w None) (Step o.asked.actor) what [] (state_of n devices' (Underway new))
  syncs alloc Metadata what next e t r c d = rw e (record {
    chosen = Begins (Begun alloc alloc);
    may = busy n o _ h (sym next, (refl, refl, refl));
    leads = next_state _ _ _ _ d r c t ∙ sym (leads None (Device (Sync Metadata)) Done (Begins (Begun alloc alloc)) (λ job buffer step. device_done {P = Quiet} {A = Global} job buffer step (Begins (Begun alloc alloc))));
  })
  syncs alloc Cache what next e t r c d = rw e (record {
    chosen = Plain;
    may = busy n o _ h (sym next, ((refl, refl), refl));
    leads = next_state _ _ _ _ d r c t ∙ sym (leads None (Device (Sync Cache)) Done Plain (λ job buffer step. device_done {P = Quiet} {A = Global} job buffer step Plain));
  })
  syncs alloc Origin what next e t r c d = rw e (record {
    chosen = Plain;
    may = busy n o _ h (sym next, ((refl, refl), refl));
    leads = next_state _ _ _ _ d r c t ∙ sym (leads None (Device (Sync Origin)) Done Plain (λ job buffer step. device_done {P = Quiet} {A = Global} job buffer step Plain));
  })

  pub fails : (choice : Choice) (step : DeviceStep) (what : What) → (IsPut step → ⊥) → device_step_of (want o.task) ≡ Some step → want o.task ≡ Device step → what ≡ Stepped (Device step) Fault → MayFail (device_of step) choice (length (device_in (device_of step) (contents_of devices))) → new.task ≡ after o.task Fault → (reading_of new) ≡ reading_failed (device_of step) (reading_of o) → new.opening.commit ≡ None →
      FailsOn None step choice (contents_of devices) (contents_of devices') → Happens shape (w None) (FaultStep o.asked.actor choice) what [] (state_of n devices' (Underway new))
  fails choice (ReadMetadata left) what other kind next e m t r c d = rw e (record {
    chosen = Plain;
    may = (refl, refl, busy n o _ h (sym next, m, (refl, refl)));
    leads = next_state _ _ _ _ d r c t ∙ sym (leads None (Device (ReadMetadata left)) Fault Plain (λ job buffer step. device_failed {P = Quiet} {A = Global} (lands Metadata choice) job buffer step Plain));
  })
  fails choice (Sync Metadata) what other kind next e m t r c d = rw e (record {
    chosen = Plain;
    may = (refl, refl, busy n o _ h (sym next, m, (refl, tt)));
    leads = next_state _ _ _ _ d r c t ∙ sym (leads None (Device (Sync Metadata)) Fault Plain (λ job buffer step. device_failed {P = Quiet} {A = Global} (lands Metadata choice) job buffer step Plain));
  })
  fails choice (Sync Cache) what other kind next e m t r c d = rw e (record {
    chosen = Plain;
    may = (refl, refl, busy n o _ h (sym next, m, refl));
    leads = next_state _ _ _ _ d r c t ∙ sym (leads None (Device (Sync Cache)) Fault Plain (λ job buffer step. device_failed {P = Quiet} {A = Global} (lands Cache choice) job buffer step Plain));
  })
  fails choice (Sync Origin) what other kind next e m t r c d = rw e (record {
    chosen = Plain;
    may = (refl, refl, busy n o _ h (sym next, m, refl));
    leads = next_state _ _ _ _ d r c t ∙ sym (leads None (Device (Sync Origin)) Fault Plain (λ job buffer step. device_failed {P = Quiet} {A = Global} (lands Origin choice) job buffer step Plain));
  })
  fails choice (WriteNode number) what other kind next e m t r c d = absurd (other tt)
  fails choice WriteRoot what other kind next e m t r c d = absurd (other tt)
  fails choice step what other kind next e m t r c d = absurd (cc)

  pub reads : (left : ℕ) (was : ReadSteps Global) (got : Got) (what : What) → want o.task ≡ Device (ReadMetadata left) → what ≡ Stepped (Device (ReadMetadata left)) got → (reading_of o) ≡ Some was →
      DoesRead {P = Quiet} o.asked.mode shape.geometry o.asked.second left was devices.metadata.contents None got (Reaches (reading_of new) new.opening.commit) → new.task ≡ after o.task got → contents_of devices' ≡ contents_of devices → Happens shape (w None) (Step o.asked.actor) what [] (state_of n devices' (Underway new))
  reads left was got what next e present does t d = rw e (record {
    chosen = Reaches (reading_of new) new.opening.commit;
    may = busy n o _ h (sym next, (refl, refl, of_reading (reading_of o) present));
    leads = next_state _ _ _ _ d refl refl t ∙ sym (leads None (Device (ReadMetadata left)) got (Reaches (reading_of new) new.opening.commit) (λ job buffer step. device_done {P = Quiet} {A = Global} job buffer step (Reaches (reading_of new) new.opening.commit)));
  })
    where
      of_reading : (reading : Option (ReadSteps Global)) → reading ≡ Some was → OfReading {P = Quiet} (Opens o.asked.mode reading) (λ mode r. DoesRead {P = Quiet} mode shape.geometry o.asked.second left r devices.metadata.contents None got (Reaches (reading_of new) new.opening.commit))
      of_reading reading e = subst (λ x. OfReading {P = Quiet} (Opens o.asked.mode x) (λ mode r. DoesRead {P = Quiet} mode shape.geometry o.asked.second left r devices.metadata.contents None got (Reaches (reading_of new) new.opening.commit))) (sym e) does

  -- a node or the root is written
  pub puts : (c : RunningCommit) (step : DeviceStep) (what : What) → IsPut step → want o.task ≡ Device step → what ≡ Stepped (Device step) Done → WasPut (Some c) step devices.metadata.contents devices'.metadata.contents →
      new.task ≡ after o.task Done → (reading_of new) ≡ (reading_of o) → new.opening.commit ≡ led (Some c) Done →
      contents_of devices' ≡ record (contents_of devices) { metadata = devices'.metadata.contents } → Happens shape (w (Some c)) (Step o.asked.actor) what [] (state_of n devices' (Underway new))
  puts c (WriteNode number) what put next e was t r k d = rw e (record {
    chosen = Puts devices'.metadata.contents;
    may = busy n o _ h (sym next, (refl, refl, was));
    leads = next_state _ _ _ _ d r k t ∙ sym (leads (Some c) (Device (WriteNode number)) Done (Puts devices'.metadata.contents) (λ job buffer step. device_done {P = Quiet} {A = Global} job buffer step (Puts devices'.metadata.contents)));
  })
  puts c WriteRoot what put next e was t r k d = rw e (record {
    chosen = Puts devices'.metadata.contents;
    may = busy n o _ h (sym next, (refl, refl, was));
    leads = next_state _ _ _ _ d r k t ∙ sym (leads (Some c) (Device WriteRoot) Done (Puts devices'.metadata.contents) (λ job buffer step. device_done {P = Quiet} {A = Global} job buffer step (Puts devices'.metadata.contents)));
  })
  puts c step what put next e was t r k d = absurd put

  -- it is durable
  pub settles : (c : RunningCommit) (what : What) → want o.task ≡ Device (Sync Metadata) → what ≡ Stepped (Device (Sync Metadata)) Done → goes_on (length devices.metadata.contents) c.image c.steps (Sync Metadata) ≡ true →
      new.task ≡ after o.task Done → (reading_of new) ≡ (reading_of o) → new.opening.commit ≡ Some (record c { steps = steps_after c.image c.steps }) →
      contents_of devices' ≡ record (contents_of devices) { metadata = synced devices.metadata.contents } → Happens shape (w (Some c)) (Step o.asked.actor) what [] (state_of n devices' (Underway new))
  settles c what next e on t r k d = rw e (record {
    chosen = Plain;
    may = busy n o _ h (sym next, (refl, refl, (on, refl)));
    leads = next_state _ _ _ _ d r k t ∙ sym (leads (Some c) (Device (Sync Metadata)) Done Plain (λ job buffer step. device_done {P = Quiet} {A = Global} job buffer step Plain));
  })

  -- its write fails, having landed or not
  pub fails_to_put : (choice : Choice) (c : RunningCommit) (step : DeviceStep) (what : What) → IsPut step → want o.task ≡ Device step → what ≡ Stepped (Device step) Fault → MayFail (device_of step) choice (length (device_in (device_of step) (contents_of devices))) →
      MayBePut (Some c) choice step devices.metadata.contents devices'.metadata.contents → new.task ≡ after o.task Fault → (reading_of new) ≡ reading_failed (device_of step) (reading_of o) → new.opening.commit ≡ commit_failed (device_of step) (Some c) →
      contents_of devices' ≡ record (contents_of devices) { metadata = devices'.metadata.contents } → Happens shape (w (Some c)) (FaultStep o.asked.actor choice) what [] (state_of n devices' (Underway new))
  fails_to_put choice c (WriteNode number) what put next e m may t r k d = rw e (record {
    chosen = Puts devices'.metadata.contents;
    may = (refl, refl, busy n o _ h (sym next, m, may));
    leads = next_state _ _ _ _ d r k t ∙ sym (leads (Some c) (Device (WriteNode number)) Fault (Puts devices'.metadata.contents) (λ job buffer step. device_failed {P = Quiet} {A = Global} (lands Metadata choice) job buffer step (Puts devices'.metadata.contents)));
  })
  fails_to_put choice c WriteRoot what put next e m may t r k d = rw e (record {
    chosen = Puts devices'.metadata.contents;
    may = (refl, refl, busy n o _ h (sym next, m, may));
    leads = next_state _ _ _ _ d r k t ∙ sym (leads (Some c) (Device WriteRoot) Fault (Puts devices'.metadata.contents) (λ job buffer step. device_failed {P = Quiet} {A = Global} (lands Metadata choice) job buffer step (Puts devices'.metadata.contents)));
  })
  fails_to_put choice c step what put next e m may t r k d = absurd put

  -- its sync fails
  pub fails_to_settle : (choice : Choice) (c : RunningCommit) (what : What) → want o.task ≡ Device (Sync Metadata) → what ≡ Stepped (Device (Sync Metadata)) Fault → goes_on (length devices.metadata.contents) c.image c.steps (Sync Metadata) ≡ true →
      MayFail Metadata choice (length devices.metadata.contents) → new.task ≡ after o.task Fault → (reading_of new) ≡ None → new.opening.commit ≡ None →
      contents_of devices' ≡ record (contents_of devices) { metadata = synced_where (lands Metadata choice) devices.metadata.contents } → Happens shape (w (Some c)) (FaultStep o.asked.actor choice) what [] (state_of n devices' (Underway new))
  fails_to_settle choice c what next e on m t r k d = rw e (record {
    chosen = Plain;
    may = (refl, refl, busy n o _ h (sym next, m, ((refl, (on, tt)))));
    leads = next_state _ _ _ _ d r k t ∙ sym (leads (Some c) (Device (Sync Metadata)) Fault Plain (λ job buffer step. device_failed {P = Quiet} {A = Global} (lands Metadata choice) job buffer step Plain));
  })

-- where this commit runs
pub at_commit : (n : ℕ) (devices : Devices Memory) (o : Opener) (P : Now → Type 0) (commit : Option RunningCommit) → o.opening.commit ≡ commit → P (record { devices = contents_of devices; commit = commit; phase = phase_of (Underway o); actors = actors_of n (Underway o) }) → P (state_of n devices (Underway o))
at_commit n devices o P commit is p = subst (λ (c : Option RunningCommit). P (record { devices = contents_of devices; commit = c; phase = phase_of (Underway o); actors = actors_of n (Underway o) })) (sym is) p

-- ---- a crash

pub stops : (shape : Shape) (n : ℕ) (devices devices' : Devices Memory) (o : Phase) → IsThere n o → (choice : Choice) (what : What) → MayStop choice (contents_of devices) → contents_of devices' ≡ all_crashed choice (contents_of devices) → what ≡ Stopped →
    Happens shape (state_of n devices o) (Stop choice) what [] (state_of n devices' Closed)
stops shape n devices devices' o is_there choice what m d e = rw e (record {
  chosen = Plain;
  may = ((refl, refl), m);
  leads = rw (d, all_rest n o is_there) refl;
})

pub on_false : {P : Type 0} (b : Bool) → b ≡ false → OnFalse b P → P
on_false false e h = h
on_false true e h = absurd (cc)

pub on_true : {P : Type 0} (b : Bool) → b ≡ true → OnTrue b P → P
on_true true e h = h
on_true false e h = absurd (cc)

pub crashes : (device : Dev) (choice : Choice) (d0 d1 d2 : Memory) (b : Bool) → d1 ≡ d0 → Applies device choice d0.contents → (Applies device choice d1.contents → b ≡ true) → OnTrue b (d2 ≡ record d1 { contents = crashed device choice d1.contents }) → d2.contents ≡ crashed device choice d0.contents
crashes device choice d0 d1 d2 b same applies stops crashed_so =
    let applied : Applies device choice d1.contents = subst (λ (d : Memory). Applies device choice d.contents) (sym same) applies in
    ap (λ (d : Memory). d.contents) (on_true b (stops applied) crashed_so) ∙ ap (λ (d : Memory). crashed device choice d.contents) same

-- ---- what kind a step is

-- it is a step on a device
pub is_device_step : (next : Want) (step : DeviceStep) → device_step_of next ≡ Some step → next ≡ Device step
is_device_step (Device (Sync device)) step e = let same : Sync device ≡ step = cc in ap (λ s. Device s) same
is_device_step (Device (ReadMetadata left)) step e = let same : ReadMetadata left ≡ step = cc in ap (λ s. Device s) same
is_device_step (Device (WriteNode number)) step e = let same : WriteNode number ≡ step = cc in ap (λ s. Device s) same
is_device_step (Device WriteRoot) step e = let same : WriteRoot ≡ step = cc in ap (λ s. Device s) same
is_device_step next step e = absurd (cc)

pub cannot_fail : (b : Bool) → b ≡ false → b ≡ true → ⊥
cannot_fail b e f = cc
