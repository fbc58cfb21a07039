-- Plays a run in which the first actor alone is at work, from a list of what comes next: what happens at each, where it leads, and what is to
-- be shown for it. Steps that give what they must need nothing shown.
use Rattle.std.proofs.Common.{Global, ◌≡◌, ◌≤◌, ◌+◌, ◌⊎◌, inl, inr, ℕ, zero, suc, Bool, true, false, ◌&&◌, ◌==◌, List, [], ◌∷◌, ◌++◌, Option, Some, None, refl, ap, arith, length, slice_get, replicate}
use Rattle.std.specs.Prelude.{not}
use Rattle.wb_types.specs.declared.extent.Extent.{Extent}
use Rattle.wb_types.specs.declared.mode.Dev.{Dev}
use Rattle.wb_types.specs.declared.mode.Dev.TheVariants.{Metadata, Cache, Origin}
use Rattle.wb_types.proofs.Truth.{and_true}
use Rattle.wb_disk.specs.Device.{Content as Bytes}
use Rattle.wb_disk.specs.Crash.{Choice}
use Rattle.wb_words.specs.Effects.{result_of}
use Rattle.wb_devices.specs.Moving.{device_in}
use Rattle.wb_tasks.specs.Plan.{Plan, want, got_of}
use Rattle.wb_tasks.specs.Ready.{HoldsBlocks}
use Rattle.wb_tasks.specs.declared.step.Answer.TheVariants.{Done as Finished}
use Rattle.wb_tasks.specs.declared.step.DeviceStep.TheVariants.{Read as ReadExtent, Write as WriteExtent, Sync}
use Rattle.wb_tasks.specs.declared.step.Want.{Want}
use Rattle.wb_tasks.specs.declared.step.Want.TheVariants.{Cell, Device, End}
use Rattle.wb_tasks.specs.declared.step.Got.{Got}
use Rattle.wb_tasks.specs.declared.step.Got.TheVariants.{Done, Fault}
use Rattle.wb_promise.specs.declared.job.Job.{Job}
use Rattle.wb_promise.specs.declared.job.Job.TheVariants.{Read, Write, Flush, Suspend, Open, Migrate, Replace, Invalidate}
use Rattle.wb_promise.specs.declared.event.Event.{Event}
use Rattle.wb_promise.specs.declared.event.Event.TheVariants.{Start, Step, FaultStep, Stop}
use Rattle.wb_promise.specs.declared.event.What.{What}
use Rattle.wb_promise.specs.declared.event.What.TheVariants.{Started, Stepped, Stopped}
use Rattle.wb_promise.specs.States.{Shape, State, Actor, Phase, Stands, Gone, resting}
use Rattle.wb_promise.specs.Happenings.{Chosen, Plain, Happening, OfSome, OnTask, HasTask, IsSuspending, IsOutOfPlace, StartsAs, Gives, MayFailAt, Falters, MayStop, May}
use Rattle.wb_promise.specs.Effects.{after_happening, after_all, all_resting, IsRun}
use Rattle.wb_promise.specs.Clerk.{Notes}
use Rattle.wb_promise.specs.Headline.{note_happening, noted}
use denote.RawPtr.{null_ptr}

-- ---- what happens

-- What comes next: the first actor is given a job; goes on by a step that gives what it must, which is one on the shared words, a sync of cache or
-- origin, or its answer; moves sectors; is given this sector; does a step that gives this; fails at one; or power is lost.
pub data Move (P A : Type 0) : Type 0 where
  Gets : Job → Chosen P A → Move P A
  Goes : Move P A
  Moves : Move P A
  Reads : Bytes → Move P A
  Does : Got → Chosen P A → Move P A
  Fails : Choice → Move P A
  Stops : Choice → Move P A

-- so many steps that need nothing shown, and then these
abbrev pub goes : {P A : Type 0} → ℕ → List (Move P A) → List (Move P A)
goes zero moves = moves
goes (suc n) moves = Goes ∷ goes n moves

abbrev pub happened : {P A : Type 0} → Global → Event → What → Chosen P A → Happening P A
happened global event what chosen = record {
  record_is = record { event = event; what = what; read = record { ptr = null_ptr; len = 0; cap = 0; alloc = global; items = []; ok = (refl, omega arith); small = omega arith } };
  chosen = chosen;
}

abbrev was_given : {P A : Type 0} → Global → Event → What → Bytes → Happening P A
was_given global event what content = record {
  record_is = record { event = event; what = what; read = record { ptr = null_ptr; len = 1; cap = 1; alloc = global; items = content ∷ []; ok = (refl, omega arith); small = omega arith } };
  chosen = Plain;
}

abbrev task_of : Option Actor → Option (Job × Plan)
task_of None = None
task_of (Some x) = x.task

abbrev want_of : Option (Job × Plan) → Want
want_of None = End Finished
want_of (Some doing) = want doing.1

-- what the first actor wants next
abbrev next_in : {P A : Type 0} → State P A → Want
next_in w = want_of (task_of (slice_get w.actors 0))

-- what that gives, where it gives what it must
abbrev given_by : {P A : Type 0} → Phase P A → Want → Got
given_by (Stands t) (Cell step) = got_of (result_of t.words step)
given_by phase next = Done

abbrev pub happens : {P A : Type 0} → Global → State P A → Move P A → Happening P A
happens global w (Gets job chosen) = happened global (Start 0 job) Started chosen
happens global w Goes = happened global (Step 0) (Stepped (next_in w) (given_by w.phase (next_in w))) Plain
happens global w Moves = happened global (Step 0) (Stepped (next_in w) Done) Plain
happens global w (Reads content) = was_given global (Step 0) (Stepped (next_in w) Done) content
happens global w (Does got chosen) = happened global (Step 0) (Stepped (next_in w) got) chosen
happens global w (Fails choice) = happened global (FaultStep 0 choice) (Stepped (next_in w) Fault) Plain
happens global w (Stops choice) = happened global (Stop choice) Stopped Plain

-- the state after it
abbrev pub then : {P A : Type 0} → Global → Shape → State P A → Move P A → State P A
then global shape w move = after_happening shape w (happens global w move)

-- all that happens
abbrev pub played : {P A : Type 0} → Global → Shape → State P A → List (Move P A) → List (Happening P A)
played global shape w [] = []
played global shape w (move ∷ moves) = happens global w move ∷ played global shape (then global shape w move) moves

-- where it leads
abbrev pub ends : {P A : Type 0} → Global → Shape → State P A → List (Move P A) → State P A
ends global shape w moves = after_all shape w (played global shape w moves)

-- ---- what is to be shown

abbrev If : Bool → Type 0 → Type 0
If true on = on
If false on = ⊥

abbrev is_free : Option (Job × Plan) → Bool
is_free None = true
is_free (Some doing) = false

-- an actor is there, and has nothing to do
abbrev pub is_idle : Option Actor → Bool
is_idle None = false
is_idle (Some x) = is_free x.task

-- none of these actors has a task
abbrev pub AreIdle : List Actor → Type 0
AreIdle actors = (a : ℕ) → ¬ OfSome (slice_get actors a) (λ x. OfSome x.task (λ d. Unit {0}))

-- nor has any but the first of these
abbrev OthersAreIdle : List Actor → Type 0
OthersAreIdle [] = ⊥
OthersAreIdle (x ∷ actors) = AreIdle actors

-- an opening is in place where no target stands that could go on, any other job where a target does
abbrev is_in_place : {P A : Type 0} → Phase P A → Job → Bool
is_in_place (Stands t) (Open mode second) = not (t.words.fail == 0)
is_in_place (Stands t) (Invalidate block) = false
is_in_place (Stands t) job = true
is_in_place Gone (Open mode second) = true
is_in_place phase job = false

-- a step that needs nothing shown
abbrev is_plain : {P A : Type 0} → Phase P A → Job → Want → Bool
is_plain (Stands t) job (Cell step) = true
is_plain phase job (Device (Sync Cache)) = true
is_plain phase job (Device (Sync Origin)) = true
is_plain phase (Open mode second) (End answer) = false
is_plain phase job (End answer) = true
is_plain phase job next = false

abbrev is_plain_task : {P A : Type 0} → Phase P A → Option (Job × Plan) → Bool
is_plain_task phase None = false
is_plain_task phase (Some doing) = is_plain phase doing.0 (want doing.1)

-- a write or migration moves sectors, of which this holds
abbrev IfMoves : Job → Want → (Dev → Extent → Type 0) → Type 0
IfMoves (Write extent content) (Device (WriteExtent device e)) on = on device e
IfMoves (Migrate migration block) (Device (ReadExtent device e)) on = on device e
IfMoves (Migrate migration block) (Device (WriteExtent device e)) on = on device e
IfMoves job next on = ⊥

abbrev pub Needs : {P A : Type 0} → Shape → State P A → Move P A → Type 0
Needs shape w (Gets job chosen) = If (is_idle (slice_get w.actors 0) && is_in_place w.phase job) (OthersAreIdle w.actors × StartsAs shape w 0 job Started chosen)
Needs shape w Goes = is_plain_task w.phase (task_of (slice_get w.actors 0)) ≡ true
Needs shape w Moves = OnTask w 0 (λ x job s. IfMoves job (want s) (λ device e. HoldsBlocks device × (e.first + e.count ≤ length (device_in device w.devices))))
Needs shape w (Reads content) = OnTask w 0 (λ x job s. Gives shape w x job (want s) Done (content ∷ []) Plain)
Needs shape w (Does got chosen) = OnTask w 0 (λ x job s. Gives shape w x job (want s) got [] chosen)
Needs shape w (Fails choice) = OnTask w 0 (λ x job s. MayFailAt w.devices choice (want s) × Falters w choice (want s) Plain)
Needs shape w (Stops choice) = MayStop choice w.devices

-- one after the other, those left out that need nothing
abbrev pub MayGo : {P A : Type 0} → Global → Shape → State P A → List (Move P A) → Type 0
MayGo global shape w [] = Unit {0}
MayGo global shape w (Goes ∷ moves) = If (is_plain_task w.phase (task_of (slice_get w.actors 0))) (MayGo global shape (then global shape w Goes) moves)
MayGo global shape w (move ∷ moves) = Needs shape w move × MayGo global shape (then global shape w move) moves

-- what is shown for one, and for those behind it
infixr 20 ◌⨟◌
abbrev pub ◌⨟◌ : {X Y : Type 0} → X → Y → X × Y
x ⨟ y = (x, y)

-- ---- so it is a run

holds : (b : Bool) (X : Type 0) → If b X → (b ≡ true) × X
holds true X h = (refl, h)
holds false X h = absurd h

-- what holds where the first actor's task asks for something holds where that is what it wants next
at_next : (o : Option Actor) (Q : Actor → Job → Want → Type 0) (R : Actor → Job → (next wanted : Want) → Type 0) → ((x : Actor) (job : Job) (next : Want) → Q x job next → R x job next next) →
    OfSome o (λ x. OfSome x.task (λ d. Q x d.0 (want d.1))) → OfSome o (λ x. OfSome x.task (λ d. R x d.0 (want_of (task_of o)) (want d.1)))
at_next None Q R f h = absurd h
at_next (Some x) Q R f h = by_task x.task h
  where
    by_task : (t : Option (Job × Plan)) → OfSome t (λ d. Q x d.0 (want d.1)) → OfSome t (λ d. R x d.0 (want_of t) (want d.1))
    by_task None h = absurd h
    by_task (Some d) h = f x d.0 (want d.1) h

plain_task : {P A : Type 0} (phase : Phase P A) (o : Option Actor) → is_plain_task phase (task_of o) ≡ true → OfSome o (λ x. OfSome x.task (λ d. is_plain phase d.0 (want d.1) ≡ true))
plain_task phase None e = absurd (cc)
plain_task {P} {A} phase (Some x) e = by_task x.task e
  where
    by_task : (t : Option (Job × Plan)) → is_plain_task phase t ≡ true → OfSome t (λ d. is_plain phase d.0 (want d.1) ≡ true)
    by_task None e = absurd (cc)
    by_task (Some d) e = e

-- nobody is at anything
pub nobody_works : (actors : List Actor) → is_idle (slice_get actors 0) ≡ true → OthersAreIdle actors → AreIdle actors
nobody_works [] e o a h = absurd o
nobody_works (x ∷ actors) e o zero h = busy x.task e h
  where
    busy : (t : Option (Job × Plan)) → is_free t ≡ true → OfSome t (λ d. Unit {0}) → ⊥
    busy None e h = h
    busy (Some d) e h = absurd (cc)
nobody_works (x ∷ actors) e o (suc a) h = o a h

-- whoever has a task of some kind has one
pub has_any : (o : Option Actor) (Q : Job → Type 0) → OfSome o (λ x. OfSome x.task (λ d. Q d.0)) → OfSome o (λ x. OfSome x.task (λ d. Unit {0}))
has_any None Q h = h
has_any (Some x) Q h = by_task x.task h
  where
    by_task : (t : Option (Job × Plan)) → OfSome t (λ d. Q d.0) → OfSome t (λ d. Unit {0})
    by_task None h = h
    by_task (Some d) h = tt

pub there : (o : Option Actor) → is_idle o ≡ true → o ≡ None → ⊥
there None e none = absurd (cc)
there (Some x) e none = absurd (cc)

idle_applies : {P A : Type 0} (w : State P A) (job : Job) → is_idle (slice_get w.actors 0) ≡ true → is_in_place w.phase job ≡ true → OthersAreIdle w.actors → (slice_get w.actors 0 ≡ None) ⊎ HasTask w 0 ⊎ IsSuspending w ⊎ IsOutOfPlace w.phase job → ⊥
idle_applies {P} {A} w job e f o d = elim d [
  | inl none ↦ there (slice_get w.actors 0) e none
  | inr more ↦ elim more [
    | inl task ↦ nobody_works w.actors e o 0 task
    | inr later ↦ elim later [ inl suspends ↦ nobody_works w.actors e o suspends.0 (has_any (slice_get w.actors suspends.0) (λ at. at ≡ Suspend) suspends.1) | inr out ↦ placed w.phase job f out ]
  ]
]
  where
    placed : (phase : Phase P A) (job : Job) → is_in_place phase job ≡ true → IsOutOfPlace phase job → ⊥
    placed (Stands t) (Open mode second) e out = absurd (let same : not (t.words.fail == 0) ≡ false = ap (λ n. not (n == 0)) out in cc)
    placed (Stands t) (Invalidate block) e out = absurd (cc)
    placed (Stands t) job e out = out tt
    placed Gone (Open mode second) e out = out
    placed phase job e out = absurd (cc)

module _ {P A : Type 0} (global : Global) (shape : Shape) (w : State P A) where
  synced : (phase : Phase P A) (x : Actor) (job : Job) (device : Dev) → HoldsBlocks device → Gives shape (record w { phase = phase }) x job (Device (Sync device)) Done [] Plain
  synced phase x (Read extent) Cache h = ((refl, refl), refl)
  synced phase x job Metadata h = absurd h
  synced phase x job device h = ((refl, refl), refl)

  plain_gives : (phase : Phase P A) (x : Actor) (job : Job) (next : Want) → is_plain phase job next ≡ true → Gives shape (record w { phase = phase }) x job next (given_by phase next) [] Plain
  plain_gives (Stands t) x job (Cell step) e = ((refl, refl), refl)
  plain_gives phase x job (Device (Sync Cache)) e = synced phase x job Cache tt
  plain_gives phase x job (Device (Sync Origin)) e = synced phase x job Origin tt
  plain_gives phase x (Read extent) (End answer) e = ((refl, refl), refl)
  plain_gives phase x (Write extent content) (End answer) e = ((refl, refl), refl)
  plain_gives phase x Flush (End answer) e = ((refl, refl), refl)
  plain_gives phase x Suspend (End answer) e = ((refl, refl), refl)
  plain_gives phase x (Invalidate block) (End answer) e = ((refl, refl), refl)
  plain_gives phase x (Migrate migration block) (End answer) e = ((refl, refl), refl)
  plain_gives phase x (Replace old new) (End answer) e = ((refl, refl), refl)
  plain_gives phase x job next e = absurd (cc)

  moves_gives : (x : Actor) (job : Job) (next : Want) → IfMoves job next (λ device e. HoldsBlocks device × (e.first + e.count ≤ length (device_in device w.devices))) → Gives shape w x job next Done [] Plain
  moves_gives x (Write extent content) (Device (WriteExtent device e)) h = (h.0, (refl, refl), refl, h.1)
  moves_gives x (Migrate migration block) (Device (ReadExtent device e)) h = (h.0, (refl, refl), refl, h.1)
  moves_gives x (Migrate migration block) (Device (WriteExtent device e)) h = (h.0, (refl, refl), refl, h.1)
  moves_gives x job next h = absurd h

  -- what a step gives that is shown of what is wanted
  by_next : (Q : Actor → Job → Want → Type 0) (got : Got) (read : List Bytes) (chosen : Chosen P A) → ((x : Actor) (job : Job) (next : Want) → Q x job next → Gives shape w x job next got read chosen) → OnTask w 0 (λ x job s. Q x job (want s)) →
      OnTask w 0 (λ x job s. (next_in w ≡ want s) × Gives shape w x job (next_in w) got read chosen)
  by_next Q got read chosen f h = at_next (slice_get w.actors 0) Q (λ x job next wanted. (next ≡ wanted) × Gives shape w x job next got read chosen) (λ x job next q. (refl, f x job next q)) h

  pub may_move : (move : Move P A) → Needs shape w move → May shape w (happens global w move)
  may_move (Gets job chosen) h =
      let r = holds (is_idle (slice_get w.actors 0) && is_in_place w.phase job) (OthersAreIdle w.actors × StartsAs shape w 0 job Started chosen) h in
      let free = and_true (is_idle (slice_get w.actors 0)) (is_in_place w.phase job) r.0 in
      (refl, idle_applies w job free.0 free.1 r.1.0, r.1.1)
  may_move Goes h = at_next (slice_get w.actors 0) (λ x job next. is_plain w.phase job next ≡ true) (λ x job next wanted. (next ≡ wanted) × Gives shape w x job next (given_by w.phase next) [] Plain) (λ x job next e. (refl, plain_gives w.phase x job next e)) (plain_task w.phase (slice_get w.actors 0) h)
  may_move Moves h = by_next (λ x job next. IfMoves job next (λ device e. HoldsBlocks device × (e.first + e.count ≤ length (device_in device w.devices)))) Done [] Plain moves_gives h
  may_move (Reads content) h = by_next (λ x job next. Gives shape w x job next Done (content ∷ []) Plain) Done (content ∷ []) Plain (λ x job next g. g) h
  may_move (Does got chosen) h = by_next (λ x job next. Gives shape w x job next got [] chosen) got [] chosen (λ x job next g. g) h
  may_move (Fails choice) h = (
    refl,
    refl,
    at_next (slice_get w.actors 0) (λ x job next. MayFailAt w.devices choice next × Falters w choice next Plain) (λ x job next wanted. (next ≡ wanted) × MayFailAt w.devices choice next × Falters w choice next Plain) (λ x job next g. (refl, g.0, g.1)) h,
  )
  may_move (Stops choice) h = ((refl, refl), h)

pub goes_on : {P A : Type 0} (global : Global) (shape : Shape) (w : State P A) (moves : List (Move P A)) → MayGo global shape w moves → IsRun shape w (played global shape w moves)
goes_on global shape w [] h = tt
goes_on global shape w (Goes ∷ moves) h =
    let r = holds (is_plain_task w.phase (task_of (slice_get w.actors 0))) (MayGo global shape (then global shape w Goes) moves) h in
    (may_move global shape w Goes r.0, goes_on global shape (then global shape w Goes) moves r.1)
goes_on global shape w (move ∷ moves) h = (may_move global shape w move h.0, goes_on global shape (then global shape w move) moves h.1)

-- ---- two runs, one after the other

pub run_append : {P A : Type 0} (shape : Shape) (w : State P A) (hs ks : List (Happening P A)) → IsRun shape w hs → IsRun shape (after_all shape w hs) ks → IsRun shape w (hs ++ ks)
run_append shape w [] ks r s = s
run_append shape w (h ∷ hs) ks r s = (r.0, run_append shape (after_happening shape w h) hs ks r.1 s)

pub after_append : {P A : Type 0} (shape : Shape) (w : State P A) (hs ks : List (Happening P A)) → after_all shape w (hs ++ ks) ≡ after_all shape (after_all shape w hs) ks
after_append shape w [] ks = refl
after_append shape w (h ∷ hs) ks = after_append shape (after_happening shape w h) hs ks

pub noted_append : {P A : Type 0} (shape : Shape) (w : State P A) (n : Notes) (hs ks : List (Happening P A)) → noted shape w n (hs ++ ks) ≡ noted shape (after_all shape w hs) (noted shape w n hs) ks
noted_append shape w n [] ks = refl
noted_append shape w n (h ∷ hs) ks = noted_append shape (after_happening shape w h) (note_happening shape w n h) hs ks

-- ---- others

-- whoever rests has no task
pub resting_idle : (actors : List Actor) → AreIdle (all_resting actors)
resting_idle [] a h = h
resting_idle (x ∷ actors) zero h = h
resting_idle (x ∷ actors) (suc a) h = resting_idle actors a h

pub replicated_idle : (n : ℕ) → AreIdle (replicate n resting)
replicated_idle zero a h = h
replicated_idle (suc n) zero h = h
replicated_idle (suc n) (suc a) h = replicated_idle n a h
