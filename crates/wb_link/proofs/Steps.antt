-- A step of an actor, of whatever task: it does its acts, and what is known between two steps is known after it.
use Rattle.std.proofs.Common.{◌≡◌, ◌≢◌, ◌⊎◌, inl, inr, ℕ, zero, suc, Bool, true, false, List, Option, Some, None, refl, sym, ap, subst, ◌∙◌, slice_get, slice_set}
use Rattle.std.proofs.lemmas.Bool.{cases_eq}
use Rattle.wb_contents.specs.Volume.{Volume}
use Rattle.wb_types.specs.declared.mode.Mode.TheVariants.{Passthrough}
use Rattle.wb_contents.specs.Acts.{Act, volume_after_all as after_acts}
use Rattle.wb_contents.specs.Conditions.{IsRunOfActs as IsActs}
use Rattle.wb_link.specs.Tables.{Order, Answer, Want, Look_fail, Share, Own, Begin_clean, End, Got, Done, Flag, Script, abstract_want}
use Rattle.wb_link.specs.World.{ShareNoBlock, is_alone, job_alone, task_after, Nothing, Shared, Owns, AbstractActor, World, Step, effect, actor_after, held_after, AbstractGives, Wins, MayStep, step_task, step_actor, after_record, drops}
use Rattle.wb_link.proofs.Views.{block_view}
use Rattle.wb_link.proofs.Acts.{Keeps, KeepsPlaces}
use Rattle.wb_link.proofs.Link.{Ordered, Turns, Placing, Rests, RestsAt, NobodyAlone, Ready, Owes, Receives, Right, Goes, Next, Safe, Disjoint, Unowned, Linked, acts_of}
use Rattle.wb_contents.proofs.Lists.{set_there, set_other}
use Rattle.wb_link.proofs.Steady.{Acted, acted}
use Rattle.wb_link.proofs.Effects.{KeepsShared, effect_keeps, effect_sound, effect_idle, effect_fail}
use Rattle.wb_link.proofs.Actors.{own_ordered, own_placing, order_from, apart_left, turned, placing_on, drops_was, WinsOver, disjoint_left, disjoint_right, other_busy, leader_busy, others_of, others_same, safe_on, is_false, no_task, task_was, alone_on, owes_alone, may_end, idle_safe, owns_or, disowned}

wins_over : (actors : List AbstractActor) (w : Want) (got : Got) → Wins actors w got → (b : ℕ) (y : AbstractActor) → slice_get actors b ≡ Some y → WinsOver y w got
wins_over actors (Share c) Done wins b y e = wins b y e
wins_over actors (Own c) Done wins b y e = wins b y e
wins_over actors w got wins b y e = tt

-- What the engine tells a step: a block that is taken is one that rests; a target that has not failed stands; where
-- a task is alone, all blocks rest.
nobody_else : (size : ℕ) (w : World) (d : Volume) (a : ℕ) (x : AbstractActor) (script : Script) → Linked size w d → slice_get w.actors a ≡ Some x → x.task ≡ Some script → job_alone script.job ≡ false → NobodyAlone w.actors
nobody_else size w d a x script i e t n b y g = elim (cases_eq b a) [
  | inl s ↦ let now : Some x ≡ Some y = sym e ∙ ap (λ k. slice_get w.actors k) (sym s) ∙ g in let same : x ≡ y = cc in subst (λ (v : AbstractActor). is_alone v.task ≡ false) same (ap (λ (o : Option Script). is_alone o) t ∙ n)
  | inr o ↦ is_false (is_alone y.task) (λ m. no_task x script t ((i.disjoint b a y x g e o).alone m))
]

all_rest : (size : ℕ) (w : World) (d : Volume) (a : ℕ) (x : AbstractActor) → Linked size w d → slice_get w.actors a ≡ Some x → is_alone x.task ≡ true → w.shared.fail ≡ false → (b : ℕ) → x.held ≢ Owns b → RestsAt w.shared d b
all_rest size w d a x i e m f b n = i.rests b (λ c y g. elim (cases_eq c a) [
  | inl s ↦ let now : Some x ≡ Some y = sym e ∙ ap (λ k. slice_get w.actors k) (sym s) ∙ g in let same : x ≡ y = cc in subst (λ (v : AbstractActor). v.held ≢ Owns b) same n
  | inr o ↦ elim (i.resting c y g ((i.disjoint a c x y e g (λ z. o (sym z))).alone m)) [
    | inl h ↦ λ k. let bad : Nothing ≡ Owns b = sym h ∙ k in absurd (cc)
    | inr h ↦ absurd (cc)
  ]
])

flag_received : (size : ℕ) (w : World) (d : Volume) (a : ℕ) (x : AbstractActor) (script : Script) (f : Bool) → Linked size w d → slice_get w.actors a ≡ Some x → x.task ≡ Some script → f ≡ w.shared.fail → Receives x script.job Look_fail (Flag f) w.shared d
flag_received size w d a x script true i e t g = tt
flag_received size w d a x script false i e t g = λ n. i.living (nobody_else size w d a x script i e t n) (sym g)

received : (size : ℕ) (w : World) (d : Volume) (a : ℕ) (x : AbstractActor) (script : Script) (next : Want) (got : Got) → Linked size w d → slice_get w.actors a ≡ Some x → x.task ≡ Some script → AbstractGives w.shared next got → Wins w.actors next got → Receives x script.job next got w.shared d
received size w d a x script (Share c) Done i e t g wins = i.rests c wins
received size w d a x script (Own c) Done i e t g wins = i.rests c (λ b y f. (wins b y f).0)
received size w d a x script Look_fail (Flag f) i e t g wins = flag_received size w d a x script f i e t g
received size w d a x script Begin_clean Done i e t g wins = λ m f. all_rest size w d a x i e (ap (λ (o : Option Script). is_alone o) t ∙ m) f
received size w d a x script next got i e t g wins = tt

-- One actor of a list is another one: of each that is there, it is that one or one of the others.
pub in_set : (actors : List AbstractActor) (a : ℕ) (x y : AbstractActor) → slice_get actors a ≡ Some x → (P : ℕ → AbstractActor → Type 0) → P a y → ((b : ℕ) (z : AbstractActor) → b ≢ a → slice_get actors b ≡ Some z → P b z) →
    (b : ℕ) (z : AbstractActor) → slice_get (slice_set actors a y) b ≡ Some z → P b z
in_set actors a x y e P here there b z g = elim (cases_eq b a) [
  | inl s ↦ let now : Some y ≡ Some z = sym (set_there actors a x y e) ∙ ap (λ k. slice_get (slice_set actors a y) k) (sym s) ∙ g in
      let same : y ≡ z = cc in subst (λ (v : AbstractActor). P b v) same (subst (λ (k : ℕ). P k y) (sym s) here)
  | inr n ↦ there b z n (sym (set_other actors a b y n) ∙ g)
]

-- an actor that takes a step, and what comes of it
abbrev pub Going : ℕ → ℕ → (AbstractActor → Shared → Volume → Type 0) → World → Volume → AbstractActor → Script → Got → Type 0
Going size a rest w d x script got = Goes size a rest x script (abstract_want script) got w.shared (effect w.shared script.job x.buffer (abstract_want script) got) d
    (after_acts d (acts_of w.shared.mapping a script.job x.buffer (abstract_want script) got)) (acts_of w.shared.mapping a script.job x.buffer (abstract_want script) got)

going : (size : ℕ) (w : World) (d : Volume) (a : ℕ) (x : AbstractActor) (script : Script) (asked : Want) (got : Got) (n : ℕ) → Linked size w d → MayStep w a asked got x script → Going size a (λ y t e. Safe n size a y t e) w d x script got
going size w d a x script asked got n i m =
    let safe = i.safe a x (suc n) m.actor in
    let next : Next size a (λ y t e. Safe n size a y t e) x (Some script) w.shared d = subst (λ (o : Option Script). Next size a (λ y t e. Safe n size a y t e) x o w.shared d) m.task safe in
    next w.shared d got (others_same a x w.shared d) i.good m.gives (received size w d a x script (abstract_want script) got i m.actor m.task m.gives m.wins)

abbrev pub stepped : World → ℕ → AbstractActor → Script → Got → World
stepped w a x script got = record {
  shared = effect w.shared script.job x.buffer (abstract_want script) got;
  actors = slice_set w.actors a (actor_after x script (abstract_want script) got);
  waiting = w.waiting;
}

pub step_is : (w : World) (a : ℕ) (asked : Want) (got : Got) (x : AbstractActor) (script : Script) → MayStep w a asked got x script → after_record w (Step a asked got) ≡ stepped w a x script got
step_is w a asked got x script m = ap (λ o. step_actor w a o got) m.actor ∙ ap (λ o. step_task w a x o got) m.task

pub step_linked : (size : ℕ) (w : World) (d : Volume) (a : ℕ) (x : AbstractActor) (script : Script) (asked : Want) (got : Got) → Linked size w d → MayStep w a asked got x script →
    Linked size (stepped w a x script got) (after_acts d (acts_of w.shared.mapping a script.job x.buffer (abstract_want script) got))
step_linked size w d a x script asked got i m = record {
  good = record {
    kept = done.kept;
    agrees = first.agrees;
    bounded = done.bounded;
    sound = effect_sound size x s d script.job x.buffer next got i.good first.ready;
    idle = effect_idle x s script.job x.buffer next got (i.leads a x m.actor) first.ready i.good.idle;
  };
  rests = λ b u. elim (owns_or x.held b) [
    | inl own ↦ disowned x s t e script.job next got b first.ready own (u a y (set_there w.actors a x y m.actor)) first.owes
    | inr n ↦ rest_on b n (i.rests b (was_unowned b n u))
  ];
  disjoint = λ b c z v g h n. in_set w.actors a x y m.actor (λ k p. (q : AbstractActor) (j : ℕ) → slice_get (slice_set w.actors a y) j ≡ Some q → k ≢ j → Disjoint p q)
      (λ q j f k. in_set w.actors a x y m.actor (λ l r. a ≢ l → Disjoint y r) (λ bad. absurd (bad refl)) (λ l r o f' k'. disjoint_left x r script s next got first.ready m.gives m.task (wins_over w.actors next got m.wins l r f') (i.leads l r f') (i.disjoint a l x r m.actor f' k')) j q f k)
      (λ k p o f q j f2 k2. in_set w.actors a x y m.actor (λ l r. k ≢ l → Disjoint p r) (λ o2. disjoint_right x p script s next got first.ready m.gives m.task (wins_over w.actors next got m.wins k p f) (i.leads k p f) (i.disjoint k a p x f m.actor o)) (λ l r o3 f3 k3. i.disjoint k l p r f f3 k3) j q f2 k2)
      b z g v c h n;
  leads = in_set w.actors a x y m.actor (λ k p. p.leads ≡ true → t.committing ≡ true)
      (leader_busy x s script.job x.buffer next got (i.leads a x m.actor))
      (λ k p o f l. other_busy x s script.job x.buffer next got (λ r. (i.disjoint a k x p m.actor f (λ z. o (sym z))).leads r l) first.ready (i.leads k p f l));
  stands = λ b z p g. in_set w.actors a x y m.actor (λ k v. (q : Order) → v.order ≡ Some q → Ordered (t.blocks q.cache))
      (λ q f. own_ordered x s script.job x.buffer next got q first.ready (λ p g. not_dropping a x p m.actor g) (λ p g. i.stands a x p m.actor g) f)
      (λ k v o f q r. let was = i.stands k v q f r in turned (s.blocks q.cache) (t.blocks q.cache) was (keeps.state (not_dropping k v q f r) q.cache (λ p2 m2 e2. ((i.disjoint a k x v m.actor f (λ z. o (sym z))).order p2 q m2 r).1 e2) was))
      b z g p;
  safe = λ b z n g. in_set w.actors a x y m.actor (λ k v. Safe n size k v t e)
      (going size w d a x script asked got n i m).left
      (λ k v o f. others_safe n k v o f v.task refl)
      b z g;
  placed = λ b z p g. in_set w.actors a x y m.actor (λ k v. (q : Order) → v.order ≡ Some q → Placing t q)
      (λ q f. own_placing x s script.job x.buffer next got q first.ready (λ p g. not_dropping a x p m.actor g) (λ p g. i.stands a x p m.actor g) (λ p g. i.placed a x p m.actor g) f)
      (λ k v o f q r. let apart = (i.disjoint a k x v m.actor f (λ z. o (sym z))).order in placing_on s t q (keeps.state (not_dropping k v q f r) q.cache (λ p2 m2 e2. (apart p2 q m2 r).1 e2) (i.stands k v q f r))
      (stays (not_dropping k v q f r) q.block (λ p2 m2 e2. (apart p2 q m2 r).0 q.block (inl e2) (inl refl)))
      (λ b n. stays (not_dropping k v q f r) b (λ p2 m2 e2. (apart p2 q m2 r).0 b (inl e2) (inr n))) (i.placed k v q f r))
      b z g p;
  orders = λ b z p g. in_set w.actors a x y m.actor (λ k v. (q : Order) → v.order ≡ Some q → e.mode ≢ Passthrough)
      (λ q f. let had = order_from x s next q first.ready f in same_mode (i.orders a x had.0 m.actor had.1))
      (λ k v o f q r. same_mode (i.orders k v q f r))
      b z g p;
  dropping = in_set w.actors a x y m.actor (λ k v. drops v.task ≡ true → e.mode ≡ Passthrough)
      (λ f. done.keeps.mode ∙ i.dropping a x m.actor (ap (λ (o : Option Script). drops o) m.task ∙ drops_was script next got f))
      (λ k v o f g. done.keeps.mode ∙ i.dropping k v f g);
  resting = in_set w.actors a x y m.actor (λ k v. v.task ≡ None → (v.held ≡ Nothing) ⊎ (t.fail ≡ true))
      (λ f. let end = task_was script next got f in ended end.0 end.1)
      (λ k v o f g. elim (i.resting k v f g) [ inl h ↦ inl h | inr h ↦ inr (fails h) ]);
  living = λ nobody f. by_alone (job_alone script.job) refl nobody f;
  aside = record {
    at = i.aside.at;
    stands = λ k q r. turned (s.blocks q.cache) (t.blocks q.cache) (i.aside.stands k q r) (turns_aside k q r);
    placed = λ k q r. placing_on s t q (turns_aside k q r) (stays (undropped k q r) q.block (λ p m2 e2. (i.aside.apart k q a x p r m.actor m2).0 q.block (inl e2) (inl refl)))
        (λ b n. stays (undropped k q r) b (λ p m2 e2. (i.aside.apart k q a x p r m.actor m2).0 b (inl e2) (inr n))) (i.aside.placed k q r);
    apart = λ k q b z p r g. in_set w.actors a x y m.actor (λ j v. (p2 : Order) → v.order ≡ Some p2 → ShareNoBlock p2 q)
        (λ p2 f. let had = order_from x s next p2 first.ready f in apart_left p2 had.0 q had.2 (i.aside.apart k q a x had.0 r m.actor had.1))
        (λ j v o h p2 f. i.aside.apart k q j v p2 r h f)
        b z g p;
    each = i.aside.each;
    modes = λ k q r. same_mode (i.aside.modes k q r);
  };
} where
  s : Shared
  s = w.shared

  next : Want
  next = abstract_want script

  y : AbstractActor
  y = actor_after x script (abstract_want script) got

  t : Shared
  t = effect w.shared script.job x.buffer (abstract_want script) got

  e : Volume
  e = after_acts d (acts_of w.shared.mapping a script.job x.buffer (abstract_want script) got)

  first : Going size a (λ y t e. Safe zero size a y t e) w d x script got
  first = going size w d a x script asked got zero i m

  done : Acted size a x w.shared.committing d (after_acts d (acts_of w.shared.mapping a script.job x.buffer (abstract_want script) got))
  done = acted size a x w.shared.committing d (acts_of w.shared.mapping a script.job x.buffer (abstract_want script) got) i.good.kept i.good.bounded first.run first.mine

  keeps : KeepsShared x w.shared (effect w.shared script.job x.buffer (abstract_want script) got)
  keeps = effect_keeps x w.shared script.job x.buffer (abstract_want script) got first.ready

  -- who has an order is not in passthrough, where alone a block is unmapped without one
  not_dropping : (k : ℕ) (v : AbstractActor) (q : Order) → slice_get w.actors k ≡ Some v → v.order ≡ Some q → drops x.task ≡ false
  not_dropping k v q f r = is_false (drops x.task) (λ h. i.orders k v q f r (i.dropping a x m.actor h))

  -- of orders that are aside
  undropped : (k : ℕ) (q : Order) → w.waiting k ≡ Some q → drops x.task ≡ false
  undropped k q r = is_false (drops x.task) (λ h. i.aside.modes k q r (i.dropping a x m.actor h))

  turns_aside : (k : ℕ) (q : Order) → w.waiting k ≡ Some q → Turns (w.shared.blocks q.cache) ((effect w.shared script.job x.buffer (abstract_want script) got).blocks q.cache)
  turns_aside k q r = keeps.state (undropped k q r) q.cache (λ p m2 e2. (i.aside.apart k q a x p r m.actor m2).1 e2) (i.aside.stands k q r)

  -- where it stands no order of this actor's
  stays : KeepsPlaces x s.mapping t.mapping
  stays h b n = ap (λ h. h b) first.agrees.mapping ∙ done.keeps.location h b n ∙ sym (ap (λ h. h b) i.good.agrees.mapping)

  same_mode : d.mode ≢ Passthrough → e.mode ≢ Passthrough
  same_mode n h = n (sym done.keeps.mode ∙ h)

  fails : w.shared.fail ≡ true → (effect w.shared script.job x.buffer (abstract_want script) got).fail ≡ true
  fails = effect_fail w.shared script.job x.buffer (abstract_want script) got

  is_now : is_alone x.task ≡ job_alone script.job
  is_now = ap (λ (o : Option Script). is_alone o) m.task

  others_safe : (n k : ℕ) (v : AbstractActor) → k ≢ a → slice_get w.actors k ≡ Some v → (task : Option Script) → v.task ≡ task → Safe n size k v t e
  others_safe n k v o f None q = idle_safe n size k v t e q
  others_safe n k v o f (Some other) q = safe_on n size k v s t d e (others_of size a k x v s t d e o i.good (i.disjoint a k x v m.actor f (λ z. o (sym z)))
      (is_false (is_alone x.task) (λ p. no_task v other q ((i.disjoint a k x v m.actor f (λ z. o (sym z))).alone p)))
      (is_false (is_alone v.task) (λ p. no_task x script m.task ((i.disjoint k a v x f m.actor o).alone p)))
      fails (λ q r. not_dropping k v q f r) (i.leads k v f) (λ q r. i.stands k v q f r) keeps done.keeps) (i.safe k v n f)

  ready_end : (answer : Answer) → abstract_want script ≡ End answer → (x.held ≡ Nothing) ⊎ (w.shared.fail ≡ true)
  ready_end answer is = may_end answer x.held w.shared (subst (λ (v : Want). Ready v x w.shared) is first.ready)

  ended : (answer : Answer) → abstract_want script ≡ End answer → (held_after x.held (abstract_want script) got ≡ Nothing) ⊎ (t.fail ≡ true)
  ended answer is = subst (λ (v : Want). (held_after x.held v got ≡ Nothing) ⊎ (t.fail ≡ true)) (sym is) (elim (ready_end answer is) [ inl h ↦ inl h | inr h ↦ inr (fails h) ])

  ended_alone : (task : Option Script) → task_after script (abstract_want script) got ≡ task → job_alone script.job ≡ true → is_alone (task_after script (abstract_want script) got) ≡ false → t.fail ≡ false → e.live ≡ true
  ended_alone None q n z f = let end = task_was script (abstract_want script) got q in elim (owes_alone script.job end.0 t e n (subst (λ (v : Want). Owes script.job v t e) end.1 first.owes)) [ inl h ↦ absurd (cc) | inr h ↦ h ]
  ended_alone (Some later) q n z f = let still = alone_on script (abstract_want script) got later q n in absurd (cc)

  -- a target that has not failed stands, once nobody is alone any more
  by_alone : (alone : Bool) → job_alone script.job ≡ alone → NobodyAlone (slice_set w.actors a (actor_after x script (abstract_want script) got)) → t.fail ≡ false → e.live ≡ true
  by_alone false n nobody f = done.keeps.live (is_now ∙ n) ∙ i.living (nobody_else size w d a x script i m.actor m.task n) (is_false w.shared.fail (λ h. let bad = fails h in absurd (cc)))
  by_alone true n nobody f = ended_alone (task_after script (abstract_want script) got) refl n (nobody a (actor_after x script (abstract_want script) got) (set_there w.actors a x (actor_after x script (abstract_want script) got) m.actor)) f

  was_unowned : (b : ℕ) → x.held ≢ Owns b → Unowned (slice_set w.actors a (actor_after x script (abstract_want script) got)) b → Unowned w.actors b
  was_unowned b n u c z g = elim (cases_eq c a) [
    | inl is ↦ let now : Some x ≡ Some z = sym m.actor ∙ ap (λ k. slice_get w.actors k) (sym is) ∙ g in let same : x ≡ z = cc in subst (λ (v : AbstractActor). v.held ≢ Owns b) same n
    | inr o ↦ u c z (set_other w.actors a c _ o ∙ g)
  ]

  rest_on : (b : ℕ) → x.held ≢ Owns b → RestsAt w.shared d b → RestsAt t e b
  rest_on b n r = subst (λ (v : _). Rests (t.seals b) v) (sym (done.keeps.block b n)) (subst (λ (v : _). Rests v (block_view d b)) (sym (keeps.seal b n)) r)

-- and the step is right
pub record Facts (a : ℕ) (x : AbstractActor) (script : Script) (got : Got) (s t : Shared) (d e : Volume) (acts : List Act) : Type 0 where
  pub run : IsActs d acts
  pub right : Right a script.job (abstract_want script) got d e
  pub ready : Ready (abstract_want script) x s
  pub owes : Owes script.job (abstract_want script) t e
  pub keeps : Keeps a x s.committing d e

pub step_facts : (size : ℕ) (w : World) (d : Volume) (a : ℕ) (x : AbstractActor) (script : Script) (asked : Want) (got : Got) → Linked size w d → MayStep w a asked got x script →
    Facts a x script got w.shared (effect w.shared script.job x.buffer (abstract_want script) got) d (after_acts d (acts_of w.shared.mapping a script.job x.buffer (abstract_want script) got)) (acts_of w.shared.mapping a script.job x.buffer (abstract_want script) got)
step_facts size w d a x script asked got i m =
    let g = going size w d a x script asked got zero i m in
    let done = acted size a x w.shared.committing d (acts_of w.shared.mapping a script.job x.buffer (abstract_want script) got) i.good.kept i.good.bounded g.run g.mine in
    record { run = g.run; right = g.right; ready = g.ready; owes = g.owes; keeps = done.keeps }
