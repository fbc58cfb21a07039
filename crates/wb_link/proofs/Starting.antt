-- A start of a task: what is known between two steps is known after it, and all that is left is safe. The one location
-- that names every task.
use Rattle.std.proofs.Common.{◌≡◌, ◌≢◌, ◌≤◌, ◌+◌, ◌⊎◌, inl, inr, ℕ, Bool, true, false, List, ◌∷◌, Option, Some, None, refl, sym, ap, subst, ◌∙◌, arith, slice_get, slice_set}
use Rattle.std.proofs.lemmas.Bool.{cases_eq}
use Rattle.wb_disk.specs.Device.{Content}
use Rattle.wb_contents.specs.Volume.{Volume, Locations, changed}
use Rattle.wb_types.specs.declared.mode.Mode.TheVariants.{Writethrough, Passthrough}
use Rattle.wb_contents.specs.Acts.{volume_after_all as after_acts}
use Rattle.wb_contents.specs.Conditions.{IsRunOfActs as IsActs}
use Rattle.wb_contents.proofs.Positions.{changed_same, changed_other}
use Rattle.wb_link.specs.Tables.{Order, Job, Reading, Writing, Writing_through, Flushing, Suspending, Promoting, Returning, Invalidating, Seal, Finished, Look_fail, abstract_acquire, Script}
use Rattle.wb_link.specs.World.{HoldsNothing, job_alone, AllWithin, AllDistinct, Covers, Block, Free, Mapped, Reserved, Retained, Shared, Nothing, Owns, AbstractActor, World, Start, abstract_reserved, abstract_order_of, abstract_given, start_actor, ShareNoBlock, MayStart, MayGiveJob, after_record, drops, job_drops, Again, again_actor, aside, abstract_taken, MayAgain, MayRepeat}
use Rattle.wb_link.proofs.Views.{block_view}
use Rattle.wb_link.proofs.Acts.{Keeps}
use Rattle.wb_link.proofs.Link.{NobodyAlone, Ordered, Turns, SetAside, Agrees, Placing, Good, Sound, AllSound, Rests, Safe, Disjoint, Unowned, Linked, AllMine, start_acts}
use Rattle.wb_contents.proofs.Lists.{set_there, set_other}
use Rattle.wb_link.proofs.Aside.{apart_back, aside_cases, put_aside, take_up, without_order, beside_set, kept_safe}
use Rattle.wb_link.proofs.Steady.{Acted, acted}
use Rattle.wb_link.proofs.Effects.{KeepsShared, sound_put}
use Rattle.wb_link.proofs.Actors.{turned, placing_on, others_of, safe_on}
use Rattle.wb_link.proofs.Agreeing.{asked_agrees, blocks_agrees}
use Rattle.wb_link.proofs.Steps.{in_set}
use Rattle.wb_link.proofs.Givings.{at_work}
use Rattle.wb_link.proofs.Reading.{reading_safe}
use Rattle.wb_link.proofs.Writing.{mode_of, writing_safe}
use Rattle.wb_link.proofs.WritingThrough.{writing_through_safe}
use Rattle.wb_link.proofs.Flushing.{flushing_safe}
use Rattle.wb_link.proofs.Suspending.{suspending_safe}
use Rattle.wb_link.proofs.Promoting.{Granted, promoting_safe}
use Rattle.wb_link.proofs.Invalidating.{invalidating_safe}
use Rattle.wb_link.proofs.Returning.{returning_safe}

-- What a job's start has to give its task.
abbrev Startable : ℕ → ℕ → Job → Shared → Volume → Type 0
Startable size a (Reading past b os) t e = past ≡ true → e.mode ≡ Passthrough
Startable size a (Writing past b os x) t e = AllWithin size os × (e.mode ≡ mode_of past)
Startable size a (Writing_through b os x) t e = AllWithin size os × AllDistinct os × (e.mode ≡ Writethrough)
Startable size a (Invalidating b) t e = e.mode ≡ Passthrough
Startable size a (Flushing q) t e = e.ticket a ≤ e.began + 1
Startable size a Suspending t e = (e.ticket a ≤ e.began + 1) × (t.fail ≡ false → e.live ≡ true)
Startable size a (Promoting p os) t e = AllWithin size os × Covers size os × Granted p t e
Startable size a (Returning leaves p os) t e = AllWithin size os × Covers size os × (e.mapping p.block ≡ Some p.cache)

abbrev beginner : Job → (ℕ → Content) → AbstractActor
beginner job c = at_work job (Look_fail ∷ abstract_acquire job) Finished Nothing (abstract_order_of job) false c

job_safe : (n size a : ℕ) (job : Job) (c : ℕ → Content) (t : Shared) (e : Volume) → Startable size a job t e → Safe n size a (beginner job c) t e
job_safe n size a (Reading past b os) c t e k = reading_safe n size a past b os c t e k
job_safe n size a (Writing past b os x) c t e k = writing_safe n size a past b os x c t e k.0 k.1
job_safe n size a (Writing_through b os x) c t e k = writing_through_safe n size a b os x c t e k.0 k.1 k.2
job_safe n size a (Invalidating b) c t e k = invalidating_safe n size a b c t e k
job_safe n size a (Flushing q) c t e k = flushing_safe q n size a c t e k
job_safe n size a Suspending c t e k = suspending_safe n size a c t e k.0 k.1
job_safe n size a (Promoting p os) c t e k = promoting_safe n size a p os c t e k.0 k.1 k.2
job_safe n size a (Returning leaves p os) c t e k = returning_safe n size a leaves p os c t e k.0 k.1 k.2

-- What a start changes that is shared.
record Reserves (size a : ℕ) (x : AbstractActor) (job : Job) (s t : Shared) (d e : Volume) : Type 0 where
  agrees : Agrees t e
  sound : AllSound t
  seals : t.seals ≡ s.seals
  committing : t.committing ≡ s.committing
  root_written : t.root_written ≡ s.root_written
  fail : t.fail ≡ s.fail
  keeps : KeepsShared x s t
  startable : Startable size a job t e
  turns : (k : ℕ) → Ordered (s.blocks k) → Turns (s.blocks k) (t.blocks k)
  mapping : t.mapping ≡ s.mapping
  placed : (p : Order) → abstract_order_of job ≡ Some p → Placing t p
  stands : (p : Order) → abstract_order_of job ≡ Some p → Ordered (t.blocks p.cache)

-- most change nothing
unmoved : (size a : ℕ) (x : AbstractActor) (job : Job) (s : Shared) (d e : Volume) → Agrees s e → AllSound s → Startable size a job s e → ((p : Order) → abstract_order_of job ≡ Some p → Placing s p) → ((p : Order) → abstract_order_of job ≡ Some p → Ordered (s.blocks p.cache)) → Reserves size a x job s s d e
unmoved size a x job s d e agrees sound startable placed stands = record {
  agrees = agrees;
  sound = sound;
  seals = refl;
  committing = refl;
  root_written = refl;
  fail = refl;
  keeps = record { seal = λ b n. refl; state = λ h k n r. inl refl };
  startable = startable;
  turns = λ k r. inl refl;
  mapping = refl;
  placed = placed;
  stands = stands;
}

sound_free : (b : Block) (m c r : Locations) (k : ℕ) → b ≡ Free → Sound b m c r k → Sound Reserved m c r k
sound_free b m c r k e i = subst (λ (v : Block). Sound v m c r k) e i

not_free : (b : Block) → b ≡ Free → Ordered b → ⊥
not_free b e (inl (inl f)) = absurd (cc)
not_free b e (inl (inr f)) = absurd (cc)
not_free b e (inr f) = let bad : Free ≡ Retained f.0 = sym e ∙ f.1 in absurd (cc)

reserves : (size : ℕ) (w : World) (d : Volume) (a : ℕ) (x : AbstractActor) (job : Job) → Good size w.shared d → (w.shared.fail ≡ false → d.live ≡ true) → MayStart size w job → Reserves size a x job w.shared (abstract_reserved w.shared job) d (after_acts d (start_acts a job))
reserves size w d a x (Reading false b os) g l m = unmoved size a x _ w.shared d d g.agrees g.sound (λ f. absurd (cc)) (λ p e. absurd (cc)) (λ p e. absurd (cc))
reserves size w d a x (Reading true b os) g l m = unmoved size a x _ w.shared d d g.agrees g.sound (λ f. sym g.agrees.mode ∙ m.1) (λ p e. absurd (cc)) (λ p e. absurd (cc))
reserves size w d a x (Writing past b os c) g l m = unmoved size a x _ w.shared d d g.agrees g.sound (m.0, sym g.agrees.mode ∙ m.1) (λ p e. absurd (cc)) (λ p e. absurd (cc))
reserves size w d a x (Writing_through b os c) g l m = unmoved size a x _ w.shared d d g.agrees g.sound (m.0, m.1, sym g.agrees.mode ∙ m.2) (λ p e. absurd (cc)) (λ p e. absurd (cc))
reserves size w d a x (Invalidating b) g l m = unmoved size a x _ w.shared d d g.agrees g.sound (sym g.agrees.mode ∙ m) (λ p e. absurd (cc)) (λ p e. absurd (cc))
reserves size w d a x (Flushing q) g l m = unmoved size a x _ w.shared d _ (asked_agrees w.shared d a g.agrees) g.sound (let e = changed_same d.ticket a (d.began + 1) in omega (arith, e)) (λ p e. absurd (cc)) (λ p e. absurd (cc))
reserves size w d a x Suspending g l m = unmoved size a x _ w.shared d _ (asked_agrees w.shared d a g.agrees) g.sound (let e = changed_same d.ticket a (d.began + 1) in omega (arith, e), l) (λ p e. absurd (cc)) (λ p e. absurd (cc))
reserves size w d a x (Promoting p os) g l m = record {
  agrees = blocks_agrees w.shared d _ g.agrees;
  sound = sound_put w.shared p.cache Reserved w.shared.mapping (sound_free (w.shared.blocks p.cache) w.shared.mapping w.shared.committed w.shared.running p.cache m.5 (g.sound p.cache)) (λ j n u. u) g.sound;
  seals = refl;
  committing = refl;
  root_written = refl;
  fail = refl;
  keeps = record {
    seal = λ b n. refl;
    state = λ h k n r. inl (changed_other w.shared.blocks p.cache k Reserved (λ e. not_free (w.shared.blocks k) (ap w.shared.blocks e ∙ m.5) r));
  };
  turns = λ k r. inl (changed_other w.shared.blocks p.cache k Reserved (λ e. not_free (w.shared.blocks k) (ap w.shared.blocks e ∙ m.5) r));
  startable = (m.0, m.1, record { unmapped = sym (ap (λ f. f p.block) g.agrees.mapping) ∙ m.4; reserved = changed_same w.shared.blocks p.cache Reserved });
  mapping = refl;
  placed = λ q e. let same : p ≡ q = cc in subst (λ (v : Order). Placing (abstract_reserved w.shared (Promoting p os)) v) same (λ f. m.4, λ f. let was = changed_same w.shared.blocks p.cache Reserved in absurd (cc), λ f. m.4, m.6);
  stands = λ q e. inl (inl (let same : p ≡ q = cc in ap (λ (v : Order). changed w.shared.blocks p.cache Reserved v.cache) (sym same) ∙ changed_same w.shared.blocks p.cache Reserved));
}
reserves size w d a x (Returning leaves p os) g l m = unmoved size a x _ w.shared d d g.agrees g.sound (m.0, m.1, sym (ap (λ f. f p.block) g.agrees.mapping) ∙ m.4)
    (λ q e. let same : p ≡ q = cc in subst (λ (v : Order). Placing w.shared v) same (λ f. let was = m.5 in absurd (cc), λ f. m.4, λ f. let was : Mapped ≡ Retained f.0 = sym m.5 ∙ f.1 in absurd (cc), m.6))
    (λ q e. inl (inr (let same : p ≡ q = cc in ap (λ (v : Order). w.shared.blocks v.cache) (sym same) ∙ m.5)))

-- its order is apart from all others
ungiven : (size : ℕ) (w : World) (job : Job) → MayStart size w job → (b : ℕ) (y : AbstractActor) (p q : Order) → slice_get w.actors b ≡ Some y → abstract_order_of job ≡ Some p → y.order ≡ Some q → ShareNoBlock q p
ungiven size w (Promoting o os) m k y p q g e f = let same : o ≡ p = cc in subst (λ (v : Order). ShareNoBlock q v) same (m.2.0 k y q g f)
ungiven size w (Returning leaves o os) m k y p q g e f = let same : o ≡ p = cc in subst (λ (v : Order). ShareNoBlock q v) same (m.2.0 k y q g f)
ungiven size w job m k y p q g e f = absurd (cc)

-- and from all that are aside
unwaiting : (size : ℕ) (w : World) (job : Job) → MayStart size w job → (k : ℕ) (p q : Order) → w.waiting k ≡ Some q → abstract_order_of job ≡ Some p → ShareNoBlock q p
unwaiting size w (Promoting o os) m k p q g e = let same : o ≡ p = cc in subst (λ (v : Order). ShareNoBlock q v) same (m.2.1 k q g)
unwaiting size w (Returning leaves o os) m k p q g e = let same : o ≡ p = cc in subst (λ (v : Order). ShareNoBlock q v) same (m.2.1 k q g)
unwaiting size w job m k p q g e = absurd (cc)

-- and from its actor's, which is put aside then
aside_ungiven : (size : ℕ) (w : World) (a : ℕ) (x : AbstractActor) (job : Job) → MayStart size w job → slice_get w.actors a ≡ Some x → (k : ℕ) (p q : Order) → aside w.waiting x.order k ≡ Some p → abstract_order_of job ≡ Some q → ShareNoBlock q p
aside_ungiven size w a x job m here k p q e f = elim (aside_cases w.waiting x.order k p e) [
  | inl o ↦ apart_back p q (ungiven size w job m a x q p here f o.0)
  | inr o ↦ apart_back p q (unwaiting size w job m k q p o.0 f)
]

pub start_run : (a : ℕ) (d : Volume) (job : Job) → IsActs d (start_acts a job)
start_run a d (Flushing o) = (tt, tt)
start_run a d Suspending = (tt, tt)
start_run a d job = tt

start_mine : (size a : ℕ) (x : AbstractActor) (busy : Bool) (job : Job) → x.task ≡ None → AllMine size a x busy (start_acts a job)
start_mine size a x busy (Flushing o) f = ((refl, f), tt)
start_mine size a x busy Suspending f = ((refl, f), tt)
start_mine size a x busy job f = tt

-- orders outside passthrough alone, unmapping without one in it alone
start_order : (size : ℕ) (w : World) (job : Job) (p : Order) → MayStart size w job → abstract_order_of job ≡ Some p → w.shared.mode ≢ Passthrough
start_order size w (Promoting o os) p m e = m.3
start_order size w (Returning leaves o os) p m e = m.3
start_order size w job p m e = absurd (cc)

start_drops : (size : ℕ) (w : World) (job : Job) → MayStart size w job → job_drops job ≡ true → w.shared.mode ≡ Passthrough
start_drops size w (Invalidating b) m e = m
start_drops size w (Writing past b os c) m e = m.1 ∙ ap mode_of e
start_drops size w job m e = absurd (cc)

-- a suspend begins where nobody has a task
start_alone : (size : ℕ) (w : World) (job : Job) → MayStart size w job → job_alone job ≡ true → (b : ℕ) (y : AbstractActor) → slice_get w.actors b ≡ Some y → y.task ≡ None
start_alone size w Suspending m e = m
start_alone size w job m e = absurd (cc)

abbrev pub started : World → ℕ → AbstractActor → Job → World
started w a x job = record { shared = abstract_reserved w.shared job; actors = slice_set w.actors a (abstract_given x job); waiting = aside w.waiting x.order }

pub start_is : (size : ℕ) (w : World) (a : ℕ) (job : Job) (x : AbstractActor) → MayGiveJob size w a job x → after_record w (Start a job) ≡ started w a x job
start_is size w a job x m = ap (λ o. start_actor w a o job) m.actor

-- its task is safe, and so it is on a failed target, whatever it has kept
begins_safe : (n size a : ℕ) (x : AbstractActor) (job : Job) (t : Shared) (e : Volume) → HoldsNothing t x → Startable size a job t e → Safe n size a (abstract_given x job) t e
begins_safe n size a x job t e free startable = elim free [
  | inl f ↦ subst (λ (v : AbstractActor). Safe n size a v t e) (begun f.0 f.1) (job_safe n size a job x.buffer t e startable)
  | inr f ↦ kept_safe job n size a x.held (abstract_order_of job) x.leads x.buffer t e f
] where
  begun : x.held ≡ Nothing → x.leads ≡ false → beginner job x.buffer ≡ abstract_given x job
  begun h l = λ j. record { task = Some (record { job = job; steps = Look_fail ∷ abstract_acquire job; answer = Finished }); held = sym h j; order = abstract_order_of job; leads = sym l j; buffer = x.buffer }

-- it owns what it has kept
was_unowned : (actors : List AbstractActor) (a : ℕ) (x : AbstractActor) (job : Job) (b : ℕ) → slice_get actors a ≡ Some x → Unowned (slice_set actors a (abstract_given x job)) b → Unowned actors b
was_unowned actors a x job b here u c z g = elim (cases_eq c a) [
  | inl is ↦ let now : Some x ≡ Some z = sym here ∙ ap (λ k. slice_get actors k) (sym is) ∙ g in let same : x ≡ z = cc in subst (λ (v : AbstractActor). v.held ≢ Owns b) same (u a (abstract_given x job) (set_there actors a x (abstract_given x job) here))
  | inr o ↦ u c z (set_other actors a c _ o ∙ g)
]

-- What a job needs that is given to an actor, whose order was put aside: this is shared then, and these orders are aside.
record Gives_job (size : ℕ) (w : World) (d : Volume) (a : ℕ) (x : AbstractActor) (job : Job) (t : Shared) (waiting : ℕ → Option Order) : Type 0 where
  res : Reserves size a x job w.shared t d (after_acts d (start_acts a job))
  apart : (b : ℕ) (y : AbstractActor) (p q : Order) → b ≢ a → slice_get w.actors b ≡ Some y → abstract_order_of job ≡ Some p → y.order ≡ Some q → ShareNoBlock q p
  alone : job_alone job ≡ true → (b : ℕ) (y : AbstractActor) → slice_get w.actors b ≡ Some y → y.task ≡ None
  modes : (q : Order) → abstract_order_of job ≡ Some q → d.mode ≢ Passthrough
  drops : job_drops job ≡ true → d.mode ≡ Passthrough
  set : SetAside w.shared (slice_set w.actors a (abstract_given x job)) waiting d.mode

begins_acted : (size : ℕ) (w : World) (d : Volume) (a : ℕ) (x : AbstractActor) (job : Job) → Linked size w d → x.task ≡ None → Acted size a x w.shared.committing d (after_acts d (start_acts a job))
begins_acted size w d a x job i task = acted size a x w.shared.committing d (start_acts a job) i.good.kept i.good.bounded (start_run a d job) (start_mine size a x w.shared.committing job task)

begun_linked : (size : ℕ) (w : World) (d : Volume) (a : ℕ) (x : AbstractActor) (job : Job) (t : Shared) (waiting : ℕ → Option Order) → Linked size w d → slice_get w.actors a ≡ Some x → x.task ≡ None → HoldsNothing w.shared x → NobodyAlone w.actors → Gives_job size w d a x job t waiting →
    Linked size (record { shared = t; actors = slice_set w.actors a (abstract_given x job); waiting = waiting }) (after_acts d (start_acts a job))
begun_linked size w d a x job t waiting i here task free nobody m = record {
  good = record {
    kept = done.kept;
    agrees = m.res.agrees;
    bounded = done.bounded;
    sound = m.res.sound;
    idle = λ e. m.res.root_written ∙ i.good.idle (sym m.res.committing ∙ e);
  };
  rests = λ b u. subst (λ (v : _). Rests (t.seals b) v) (sym (done.keeps.block b (u a y (set_there w.actors a x y here)))) (subst (λ (f : ℕ → Seal). Rests (f b) (block_view d b)) (sym m.res.seals) (i.rests b (was_unowned w.actors a x job b here u)));
  disjoint = λ b c z v g h n. in_set w.actors a x y here (λ k p. (q : AbstractActor) (j : ℕ) → slice_get (slice_set w.actors a y) j ≡ Some q → k ≢ j → Disjoint p q)
      (λ q j f k. in_set w.actors a x y here (λ l r. a ≢ l → Disjoint y r) (λ bad. absurd (bad refl))
      (λ l r o f' k'. record { held = (i.disjoint a l x r here f' k').held; order = λ p q e f. apart_back q p (m.apart l r p q (λ z. k' (sym z)) f' e f); leads = (i.disjoint a l x r here f' k').leads; alone = λ e. m.alone e l r f' }) j q f k)
      (λ k p o f q j f2 k2. in_set w.actors a x y here (λ l r. k ≢ l → Disjoint p r)
      (λ o2. record { held = (i.disjoint k a p x f here o).held; order = λ p' q e f'. m.apart k p q p' o f f' e; leads = (i.disjoint k a p x f here o).leads; alone = λ e. let n = nobody k p f in absurd (cc) })
      (λ l r o3 f3 k3. i.disjoint k l p r f f3 k3) j q f2 k2)
      b z g v c h n;
  leads = in_set w.actors a x y here (λ k p. p.leads ≡ true → t.committing ≡ true)
      (λ e. m.res.committing ∙ i.leads a x here e)
      (λ k p o f l. m.res.committing ∙ i.leads k p f l);
  stands = λ b z p g. in_set w.actors a x y here (λ k v. (q : Order) → v.order ≡ Some q → Ordered (t.blocks q.cache))
      (λ q f. m.res.stands q f)
      (λ k v o f q r. let was = i.stands k v q f r in turned (s.blocks q.cache) (t.blocks q.cache) was (m.res.turns q.cache was))
      b z g p;
  safe = λ b z n g. in_set w.actors a x y here (λ k v. Safe n size k v t e)
      (begins_safe n size a x job t e (elim free [ inl f ↦ inl f | inr f ↦ inr (m.res.fail ∙ f) ]) m.res.startable)
      (λ k v o f. safe_on n size k v s t d e (others_of size a k x v s t d e o i.good (i.disjoint a k x v here f (λ z. o (sym z))) (nobody a x here) (nobody k v f) (λ h. m.res.fail ∙ h) (λ q r. idle_drops) (i.leads k v f) (λ q r. i.stands k v q f r) m.res.keeps done.keeps) (i.safe k v n f))
      b z g;
  placed = λ b z p g. in_set w.actors a x y here (λ k v. (q : Order) → v.order ≡ Some q → Placing t q)
      (λ q f. m.res.placed q f)
      (λ k v o f q r. placing_on s t q (m.res.turns q.cache (i.stands k v q f r)) (ap (λ h. h q.block) m.res.mapping) (λ b n. ap (λ h. h b) m.res.mapping) (i.placed k v q f r))
      b z g p;
  orders = λ b z p g. in_set w.actors a x y here (λ k v. (q : Order) → v.order ≡ Some q → e.mode ≢ Passthrough)
      (λ q f h. m.modes q f (sym done.keeps.mode ∙ h))
      (λ k v o f q r h. i.orders k v q f r (sym done.keeps.mode ∙ h))
      b z g p;
  dropping = in_set w.actors a x y here (λ k v. drops v.task ≡ true → e.mode ≡ Passthrough)
      (λ f. done.keeps.mode ∙ m.drops f)
      (λ k v o f g. done.keeps.mode ∙ i.dropping k v f g);
  resting = in_set w.actors a x y here (λ k v. v.task ≡ None → (v.held ≡ Nothing) ⊎ (t.fail ≡ true))
      (λ f. absurd (cc))
      (λ k v o f g. elim (i.resting k v f g) [ inl h ↦ inl h | inr h ↦ inr (m.res.fail ∙ h) ]);
  aside = record {
    at = m.set.at;
    stands = λ k p f. turned (s.blocks p.cache) (t.blocks p.cache) (m.set.stands k p f) (m.res.turns p.cache (m.set.stands k p f));
    placed = λ k p f. placing_on s t p (m.res.turns p.cache (m.set.stands k p f)) (ap (λ h. h p.block) m.res.mapping) (λ b n. ap (λ h. h b) m.res.mapping) (m.set.placed k p f);
    apart = m.set.apart;
    each = m.set.each;
    modes = λ k p f h. m.set.modes k p f (sym done.keeps.mode ∙ h);
  };
  living = λ still f. done.keeps.live (nobody a x here) ∙ i.living nobody (sym m.res.fail ∙ f);
} where
  s : Shared
  s = w.shared

  y : AbstractActor
  y = abstract_given x job

  e : Volume
  e = after_acts d (start_acts a job)

  done : Acted size a x w.shared.committing d (after_acts d (start_acts a job))
  done = begins_acted size w d a x job i task

  idle_drops : drops x.task ≡ false
  idle_drops = ap (λ (o : Option Script). drops o) task

pub start_linked : (size : ℕ) (w : World) (d : Volume) (a : ℕ) (x : AbstractActor) (job : Job) → Linked size w d → MayGiveJob size w a job x → Linked size (started w a x job) (after_acts d (start_acts a job))
start_linked size w d a x job i m = begun_linked size w d a x job (abstract_reserved w.shared job) (aside w.waiting x.order) i m.actor m.task m.free m.nobody_alone (record {
  res = reserves size w d a x job i.good (i.living m.nobody_alone) m.may;
  apart = λ b y p q n. ungiven size w job m.may b y p q;
  alone = start_alone size w job m.may;
  modes = λ q f h. start_order size w job q m.may f (i.good.agrees.mode ∙ h);
  drops = λ f. sym i.good.agrees.mode ∙ start_drops size w job m.may f;
  set = put_aside size w d a x (abstract_given x job) i m.actor (λ k p q e f. aside_ungiven size w a x job m.may m.actor k p q e f);
})

pub start_keeps : (size : ℕ) (w : World) (d : Volume) (a : ℕ) (x : AbstractActor) (job : Job) → Linked size w d → x.task ≡ None → Keeps a x w.shared.committing d (after_acts d (start_acts a job))
start_keeps size w d a x job i task = let done = begins_acted size w d a x job i task in done.keeps

-- A migration once more: its order stands, and says all that its task has to know.

again_startable : (size a : ℕ) (s : Shared) (d : Volume) (job : Job) (p : Order) → Agrees s d → MayAgain size s job → abstract_order_of job ≡ Some p → Placing s p → Startable size a job s (after_acts d (start_acts a job))
again_startable size a s d (Promoting o os) p g m e h = let same : p ≡ o = cc in let at = subst (λ (v : Order). Placing s v) same h in (m.0, m.1, record { unmapped = sym (ap (λ f. f o.block) g.mapping) ∙ at.0 m.2; reserved = m.2 })
again_startable size a s d (Returning leaves o os) p g m e h = let same : p ≡ o = cc in let at = subst (λ (v : Order). Placing s v) same h in (m.0, m.1, sym (ap (λ f. f o.block) g.mapping) ∙ at.1 m.2)
again_startable size a s d (Flushing q) p g m e h = let f = changed_same d.ticket a (d.began + 1) in omega (arith, f)
again_startable size a s d job p g m e h = absurd m

-- a replacement's flush begins with its task
again_agrees : (size a : ℕ) (s : Shared) (d : Volume) (job : Job) → MayAgain size s job → Agrees s d → Agrees s (after_acts d (start_acts a job))
again_agrees size a s d (Promoting o os) m g = g
again_agrees size a s d (Returning leaves o os) m g = g
again_agrees size a s d (Flushing q) m g = asked_agrees s d a g
again_agrees size a s d job m g = absurd m

again_alone : (size : ℕ) (s : Shared) (job : Job) → MayAgain size s job → (job_alone job ≡ false) × (job_drops job ≡ false)
again_alone size s (Promoting o os) m = (refl, refl)
again_alone size s (Returning leaves o os) m = (refl, refl)
again_alone size s (Flushing q) m = (refl, refl)
again_alone size s job m = absurd m

abbrev pub repeated : World → ℕ → AbstractActor → Job → World
repeated w a x job = record { shared = w.shared; actors = slice_set w.actors a (abstract_given x job); waiting = abstract_taken (aside w.waiting x.order) (abstract_order_of job) }

pub again_is : (size : ℕ) (w : World) (a : ℕ) (job : Job) (x : AbstractActor) → MayRepeat size w a job x → after_record w (Again a job) ≡ repeated w a x job
again_is size w a job x m = ap (λ o. again_actor w a o job) m.actor

pub again_linked : (size : ℕ) (w : World) (d : Volume) (a : ℕ) (x : AbstractActor) (job : Job) → Linked size w d → MayRepeat size w a job x → Linked size (repeated w a x job) (after_acts d (start_acts a job))
again_linked size w d a x job i m = let set_out = without_order size w d a x i m.actor in begun_linked size w d a x job w.shared (abstract_taken (aside w.waiting x.order) (abstract_order_of job)) i m.actor m.task m.free m.nobody_alone (record {
  res = unmoved size a x job w.shared d _ (again_agrees size a w.shared d job m.may i.good.agrees) i.good.sound
      (again_startable size a w.shared d job m.order.0 i.good.agrees m.may m.order.1 ((without_order size w d a x i m.actor).placed m.order.0.cache m.order.0 m.order.2)) (λ p e. (without_order size w d a x i m.actor).placed p.cache p (is_out p e)) (λ p e. (without_order size w d a x i m.actor).stands p.cache p (is_out p e));
  apart = λ b y p q n g e f. (without_order size w d a x i m.actor).apart p.cache p b y q (is_out p e) (beside_set w.actors a b (record x { order = None }) y n g) f;
  alone = λ e. let not = only.0 in absurd (cc);
  modes = λ q f. (without_order size w d a x i m.actor).modes q.cache q (is_out q f);
  drops = λ f. let not = only.1 in absurd (cc);
  set = subst (λ (o : Option Order). SetAside w.shared (slice_set w.actors a (abstract_given x job)) (abstract_taken (aside w.waiting x.order) o) d.mode) (sym m.order.1) (take_up size w d a x (abstract_given x job) m.order.0 i m.actor m.order.1 m.order.2);
}) where
  -- its order, and those that are aside once its own is
  is_out : (p : Order) → abstract_order_of job ≡ Some p → aside w.waiting x.order p.cache ≡ Some p
  is_out p e = let one : Some m.order.0 ≡ Some p = sym m.order.1 ∙ e in let same : m.order.0 ≡ p = cc in subst (λ (v : Order). aside w.waiting x.order v.cache ≡ Some v) same m.order.2

  only : (job_alone job ≡ false) × (job_drops job ≡ false)
  only = again_alone size w.shared job m.may
