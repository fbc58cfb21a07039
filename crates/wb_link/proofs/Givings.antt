-- The results that each kind of step may give, as cases; and the steps that do no act.
use Rattle.std.proofs.Common.{◌≡◌, ◌+◌, inl, inr, ◌∙◌, ℕ, zero, suc, Bool, true, false, List, [], Option, Some, None, refl}
use Rattle.wb_disk.specs.Device.{Content}
use Rattle.wb_contents.specs.Volume.{Volume}
use Rattle.wb_types.specs.declared.mode.Mode.{Mode}
use Rattle.wb_contents.specs.Acts.{volume_after_all as after_acts}
use Rattle.wb_link.specs.Tables.{Order, Job, Seal, Answer, Finished, Want, Look_fail, Look_seal, Read_all, Begin, Begin_clean, Got, Done, Lost, Flag, Seen, Gave, Ticket, Served, Broken, Short, Fault, Script, first_of_steps}
use Rattle.wb_link.specs.World.{Serves, Shared, Held, Nothing, AbstractActor, actor_after, newest_at, AreAlike, IsDoneStep, MayBeFault, MayLose, MayLack, AbstractGives, effect}
use Rattle.wb_link.proofs.Link.{Good, Others, MayEnd, Ready, Owes, Right, Goes, Safe, acts_of}

pub gives_done : (P : Got → Type 0) → P Done → (got : Got) → IsDoneStep got → P got
gives_done P p Done g = p
gives_done P p got g = absurd g

pub gives_fault : (P : Got → Type 0) → P Done → ((lands : ℕ → ℕ → Bool) → P (Fault lands)) → (got : Got) → MayBeFault got → P got
gives_fault P p q Done g = p
gives_fault P p q (Fault lands) g = q lands
gives_fault P p q got g = absurd g

pub gives_lost : (P : Got → Type 0) → P Done → P Lost → (got : Got) → MayLose got → P got
gives_lost P p q Done g = p
gives_lost P p q Lost g = q
gives_lost P p q got g = absurd g

pub gives_short : (P : Got → Type 0) → P Done → P Short → (got : Got) → MayLack got → P got
gives_short P p q Done g = p
gives_short P p q Short g = q
gives_short P p q got g = absurd g

pub gives_flag : (s : Shared) (P : Got → Type 0) → ((f : Bool) → f ≡ s.fail → P (Flag f)) → (got : Got) → AbstractGives s Look_fail got → P got
gives_flag s P p (Flag f) g = p f g
gives_flag s P p got g = absurd g

pub gives_seal : (s : Shared) (b : ℕ) (P : Got → Type 0) → ((seal : Seal) → seal ≡ s.seals b → P (Seen seal)) → (got : Got) → AbstractGives s (Look_seal b) got → P got
gives_seal s b P p (Seen seal) g = p seal g
gives_seal s b P p got g = absurd g

pub gives_read : (s : Shared) (location : Option ℕ) (b : ℕ) (os : List ℕ) (P : Got → Type 0) → ((contents : ℕ → Content) → AreAlike os contents (newest_at s location b) → P (Gave contents)) → ((lands : ℕ → ℕ → Bool) → P (Fault lands)) → (got : Got) → AbstractGives s (Read_all location b os) got → P got
gives_read s location b os P p q (Gave contents) g = p contents g
gives_read s location b os P p q (Fault lands) g = q lands
gives_read s location b os P p q got g = absurd g

pub gives_begin : (s : Shared) (ticket : Option ℕ) (P : Got → Type 0) → (s.committing ≡ false → P Done) → ((k : ℕ) → ticket ≡ None → k ≡ s.began + 1 → P (Ticket k)) → (Serves s ticket → P Served) → P Broken → P Short → P Lost → (got : Got) → AbstractGives s (Begin ticket) got → P got
gives_begin s ticket P p q r z y x Done g = p g.0
gives_begin s ticket P p q r z y x (Ticket k) g = q k g.0 g.3
gives_begin s ticket P p q r z y x Served g = r g
gives_begin s ticket P p q r z y x Broken g = z
gives_begin s ticket P p q r z y x Short g = y
gives_begin s ticket P p q r z y x Lost g = x
gives_begin s ticket P p q r z y x got g = absurd g

pub gives_suspend : (s : Shared) (P : Got → Type 0) → (s.committing ≡ false → P Done) → P Lost → P Short → (got : Got) → AbstractGives s Begin_clean got → P got
gives_suspend s P p q r Done g = p g
gives_suspend s P p q r Lost g = q
gives_suspend s P p q r Short g = r
gives_suspend s P p q r got g = absurd g

-- an actor at work
abbrev pub at_work : Job → List Want → Answer → Held → Option Order → Bool → (ℕ → Content) → AbstractActor
at_work job steps answer held order leads buffer = record { task = Some (record { job = job; steps = steps; answer = answer }); held = held; order = order; leads = leads; buffer = buffer }

abbrev pub script_of : Job → List Want → Answer → Script
script_of job steps answer = record { job = job; steps = steps; answer = answer }

-- a step that does no act and changes nothing that is shared
pub quietly : (size a : ℕ) (rest : AbstractActor → Shared → Volume → Type 0) (x : AbstractActor) (script : Script) (w : Want) (got : Got) (t : Shared) (e : Volume) → Good size t e → Ready w x t → Owes script.job w t e → Right a script.job w got e e → rest (actor_after x script w got) t e →
    Goes size a rest x script w got t t e e []
quietly size a rest x script w got t e g ready owes right left = record { run = tt; mine = tt; agrees = g.agrees; ready = ready; owes = owes; right = right; left = left }

-- what comes of a step of an actor at work, with this result
abbrev pub Comes : ℕ → ℕ → ℕ → Job → List Want → Answer → Held → Option Order → Bool → (ℕ → Content) → Shared → Volume → Got → Type 0
Comes n size a job steps answer held order leads buffer t e got =
    Goes size a (λ y u f. Safe n size a y u f) (at_work job steps answer held order leads buffer) (script_of job steps answer) (first_of_steps steps answer) got t (effect t job buffer (first_of_steps steps answer) got) e
    (after_acts e (acts_of t.mapping a job buffer (first_of_steps steps answer) got)) (acts_of t.mapping a job buffer (first_of_steps steps answer) got)

-- nothing is left of a task that is answered
pub resting_safe : (n size a : ℕ) (held : Held) (order : Option Order) (leads : Bool) (c : ℕ → Content) (s : Shared) (d : Volume) → Safe n size a (record { task = None; held = held; order = order; leads = leads; buffer = c }) s d
resting_safe zero size a held order leads c s d = tt
resting_safe (suc n) size a held order leads c s d = tt

-- a target stands, and its mode is this
abbrev pub Life : Mode → Volume → Type 0
Life m d = (d.live ≡ true) × (d.mode ≡ m)

pub life_on : (a : ℕ) (x : AbstractActor) (s t : Shared) (d e : Volume) (m : Mode) → Others a x s d t e → Life m d → Life m e
life_on a x s t d e m o l = (o.live ∙ l.0, o.mode ∙ l.1)

pub may_end_on : (a : ℕ) (x : AbstractActor) (s t : Shared) (d e : Volume) (answer : Answer) (held : Held) → Others a x s d t e → MayEnd answer held s → MayEnd answer held t
may_end_on a x s t d e Finished held o h = h
may_end_on a x s t d e answer held o h = elim h [ inl m ↦ inl m | inr f ↦ inr (o.fail f) ]

pub holds_nothing : (answer : Answer) (s : Shared) → MayEnd answer Nothing s
holds_nothing Finished s = refl
holds_nothing answer s = inl refl
