-- Steps at which no task does an act, and the beginnings and ends that all tasks of one block make of them.
use Rattle.std.proofs.Common.{◌≡◌, inl, inr, ℕ, zero, suc, Bool, true, false, List, [], ◌∷◌, Option, Some, None, refl, sym, subst, ◌∙◌}
use Rattle.wb_disk.specs.Device.{Content}
use Rattle.wb_contents.specs.Volume.{Volume, Locations, changed}
use Rattle.wb_contents.specs.Acts.{Act, volume_after_all as after_acts}
use Rattle.wb_link.specs.Tables.{Order, Job, Reading, Writing, Writing_through, Flushing, Suspending, Promoting, Returning, Invalidating, Seal, Answer, Finished, Busy, Failed, Io, Want, Look_fail, Share, Own, Look_seal, Set_seal, Leave, Disown, Set_failed, Read_all, Write_all, Map_to, Unmap_from, Unmap_plain, Give_up, End, Got, Done, Lost, Flag, Seen, Script, abstract_work, breaking}
use Rattle.wb_link.specs.World.{block_given_back, Shared, Held, Nothing, Owns, AbstractActor, actor_after, job_alone}
use Rattle.wb_link.proofs.Views.{BlockView, block_view, Holds}
use Rattle.wb_link.proofs.Link.{Agrees, Good, Rests, RestsAt, MayEnd, Ready, Receives, Owes, Others, Right, Goes, Safe, acts_of}
use Rattle.wb_link.proofs.Agreeing.{failed_agrees, blocks_agrees}
use Rattle.wb_link.proofs.Givings.{at_work, script_of, Comes, holds_nothing, may_end_on, resting_safe, gives_done, gives_lost, gives_flag, gives_seal}

-- a task of one block
abbrev pub IsPlain : Job → Type 0
IsPlain (Flushing order) = ⊥
IsPlain Suspending = ⊥
IsPlain job = Unit {0}

-- a step that is no act, and of which nothing is promised
abbrev pub IsCalm : Want → Type 0
IsCalm Look_fail = Unit {0}
IsCalm (Share b) = Unit {0}
IsCalm (Own b) = Unit {0}
IsCalm (Look_seal b) = Unit {0}
IsCalm (Leave b) = Unit {0}
IsCalm (Disown b) = Unit {0}
IsCalm Set_failed = Unit {0}
IsCalm (Give_up order) = Unit {0}
IsCalm (End answer) = Unit {0}
IsCalm w = ⊥

pub calm_acts : (job : Job) → IsPlain job → (w : Want) → IsCalm w → (locations : Locations) (a : ℕ) (c : ℕ → Content) (got : Got) → acts_of locations a job c w got ≡ []
calm_acts (Reading past b os) plain w calm l a c got = refl
calm_acts (Writing past b os x) plain (Set_seal k seal) calm l a c got = absurd calm
calm_acts (Writing past b os x) plain (Unmap_plain k j) calm l a c got = absurd calm
calm_acts (Writing past b os x) plain (Write_all to k o) calm l a c got = absurd calm
calm_acts (Writing_through b os x) plain (Write_all to k o) calm l a c got = absurd calm
calm_acts (Invalidating b) plain (Unmap_plain k j) calm l a c got = absurd calm
calm_acts (Promoting p os) plain (Write_all to k o) calm l a c got = absurd calm
calm_acts (Promoting p os) plain (Map_to q) calm l a c got = absurd calm
calm_acts (Returning leaves p os) plain (Write_all to k o) calm l a c got = absurd calm
calm_acts (Returning leaves p os) plain (Unmap_from q) calm l a c got = absurd calm
calm_acts (Returning leaves p os) plain (Set_seal k seal) calm l a c got = absurd calm
calm_acts (Flushing order) plain w calm l a c got = absurd plain
calm_acts Suspending plain w calm l a c got = absurd plain
calm_acts job plain w calm l a c got = refl

-- a step on no sector, of which nothing is promised either
abbrev pub IsStill : Want → Type 0
IsStill (Read_all location b os) = ⊥
IsStill (Write_all location b os) = ⊥
IsStill w = Unit {0}

pub still_right : (a : ℕ) (job : Job) → IsPlain job → (w : Want) → IsStill w → (got : Got) (d e : Volume) → e.histories ≡ d.histories → Right a job w got d e
still_right a (Flushing order) plain w still got d e r = absurd plain
still_right a Suspending plain w still got d e r = absurd plain
still_right a job plain (Read_all location b os) still got d e r = absurd still
still_right a job plain (Write_all location b os) still got d e r = absurd still
still_right a job plain w still got d e r = record { reads = tt; histories = r; flushes = tt }

-- nothing is owed for its answer
end_owes : (job : Job) → IsPlain job → (answer : Answer) (t : Shared) (e : Volume) → Owes job (End answer) t e
end_owes Suspending plain answer t e = absurd plain
end_owes job plain answer t e = tt

-- a step whose acts are none, said of the job that is not known
pub calmly : (size a : ℕ) (rest : AbstractActor → Shared → Volume → Type 0) (x : AbstractActor) (script : Script) (w : Want) (got : Got) (t u : Shared) (e : Volume) (acts : List Act) → acts ≡ [] → Agrees u e → Ready w x t → Owes script.job w u e → Right a script.job w got e e →
    rest (actor_after x script w got) u e → Goes size a rest x script w got t u e (after_acts e acts) acts
calmly size a rest x script w got t u e acts none agrees ready owes right left =
    subst (λ (ys : List Act). Goes size a rest x script w got t u e (after_acts e ys) ys) (sym none) (record { run = tt; mine = tt; agrees = agrees; ready = ready; owes = owes; right = right; left = left })

-- others leave a block that is held, and its seal
pub held_on : (P : Seal → BlockView → Type 0) (a b : ℕ) (x : AbstractActor) (s t : Shared) (d e : Volume) → Others a x s d t e → Holds x.held b → P (s.seals b) (block_view d b) → P (t.seals b) (block_view e b)
held_on P a b x s t d e o h k = subst (λ (w : BlockView). P (t.seals b) w) (sym (o.block b h)) (subst (λ (w : Seal). P w (block_view d b)) (sym (o.seal b h)) k)

pub rests_on : (a b : ℕ) (x : AbstractActor) (s t : Shared) (d e : Volume) → Others a x s d t e → Holds x.held b → RestsAt s d b → RestsAt t e b
rests_on a b x s t d e o h k = held_on (λ w v. Rests w v) a b x s t d e o h k

pub ending : (n size a : ℕ) (job : Job) → IsPlain job → (answer : Answer) (held : Held) (order : Option Order) (c : ℕ → Content) (s : Shared) (d : Volume) → MayEnd answer held s → Safe n size a (at_work job [] answer held order false c) s d
ending zero size a job plain answer held order c s d h = tt
ending (suc n) size a job plain answer held order c s d h = λ t e got o g v r. gives_done (λ k. Comes n size a job [] answer held order false c t e k)
    (calmly size a (λ y u f. Safe n size a y u f) _ _ (End answer) Done t t e _ (calm_acts job plain (End answer) tt t.mapping a c Done) g.agrees (may_end_on a (at_work job [] answer held order false c) s t d e answer held o h)
    (end_owes job plain answer t e) (still_right a job plain (End answer) tt Done e e refl) (resting_safe n size a held order false c t e)) got v

-- after a fault it keeps what it holds
pub failing : (n size a : ℕ) (job : Job) → IsPlain job → (held : Held) (order : Option Order) (c : ℕ → Content) (s : Shared) (d : Volume) → Safe n size a (at_work job (breaking job) Io held order false c) s d
failing n size a job plain held order c s d = subst (λ (ws : List Want). Safe n size a (at_work job ws Io held order false c) s d) (sym (breaks job plain)) (on n) where
  breaks : (job : Job) → IsPlain job → breaking job ≡ Set_failed ∷ []
  breaks (Flushing order) plain = absurd plain
  breaks Suspending plain = absurd plain
  breaks job plain = refl

  on : (n : ℕ) → Safe n size a (at_work job (Set_failed ∷ []) Io held order false c) s d
  on zero = tt
  on (suc n) = λ t e got o g v r. gives_done (λ k. Comes n size a job (Set_failed ∷ []) Io held order false c t e k)
      (calmly size a (λ y u f. Safe n size a y u f) _ _ Set_failed Done t (record t { fail = true }) e _ (calm_acts job plain Set_failed tt t.mapping a c Done) (failed_agrees t e g.agrees) tt tt (still_right a job plain Set_failed tt Done e e refl)
      (ending n size a job plain Io held order c (record t { fail = true }) e (inr refl))) got v

pub disowning : (n size a : ℕ) (job : Job) → IsPlain job → (b : ℕ) (rest : List Want) (answer : Answer) (order : Option Order) (c : ℕ → Content) (s : Shared) (d : Volume) → RestsAt s d b →
    ((t : Shared) (e : Volume) → Safe n size a (at_work job rest answer Nothing order false c) t e) → Safe (suc n) size a (at_work job (Disown b ∷ rest) answer (Owns b) order false c) s d
disowning n size a job plain b rest answer order c s d k next = λ t e got o g v r. gives_done (λ w. Comes n size a job (Disown b ∷ rest) answer (Owns b) order false c t e w)
    (calmly size a (λ y u f. Safe n size a y u f) _ _ (Disown b) Done t t e _ (calm_acts job plain (Disown b) tt t.mapping a c Done) g.agrees refl (rests_on a b _ s t d e o refl k) (still_right a job plain (Disown b) tt Done e e refl) (next t e)) got v

-- the block is left, and the task is answered
pub disowned : (n size a : ℕ) (job : Job) → IsPlain job → (b : ℕ) (answer : Answer) (order : Option Order) (c : ℕ → Content) (s : Shared) (d : Volume) → RestsAt s d b → Safe n size a (at_work job (Disown b ∷ []) answer (Owns b) order false c) s d
disowned zero size a job plain b answer order c s d k = tt
disowned (suc n) size a job plain b answer order c s d k = disowning n size a job plain b [] answer order c s d k (λ t e. ending n size a job plain answer Nothing order c t e (holds_nothing answer t))

giving : (n size a : ℕ) (job : Job) → IsPlain job → (p : Order) (answer : Answer) (c : ℕ → Content) (s : Shared) (d : Volume) → Safe n size a (at_work job (Give_up p ∷ []) answer Nothing (Some p) false c) s d
giving zero size a job plain p answer c s d = tt
giving (suc n) size a job plain p answer c s d = λ t e got o g v r. let after : Shared = record t { blocks = changed t.blocks p.cache (block_given_back (t.blocks p.cache)) } in
    gives_done (λ k. Comes n size a job (Give_up p ∷ []) answer Nothing (Some p) false c t e k)
    (calmly size a (λ y u f. Safe n size a y u f) _ _ (Give_up p) Done t after e _ (calm_acts job plain (Give_up p) tt t.mapping a c Done) (blocks_agrees t e _ g.agrees) refl tt (still_right a job plain (Give_up p) tt Done e e refl)
    (ending n size a job plain answer Nothing None c after e (holds_nothing answer after))) got v

-- the block is left, and its order given up: at the end, after a fault on a read, and without room for an entry
pub returning : (n size a : ℕ) (job : Job) → IsPlain job → (p : Order) (answer : Answer) (c : ℕ → Content) (s : Shared) (d : Volume) → RestsAt s d p.block → Safe n size a (at_work job (Disown p.block ∷ Give_up p ∷ []) answer (Owns p.block) (Some p) false c) s d
returning zero size a job plain p answer c s d k = tt
returning (suc n) size a job plain p answer c s d k = disowning n size a job plain p.block (Give_up p ∷ []) answer (Some p) c s d k (λ t e. giving n size a job plain p answer c t e)

-- Its beginning: it looks at the failed bit, owns its block and sees the seal; what it knew before, others leave so.
module _ (size a : ℕ) (job : Job) (plain : IsPlain job) (b : ℕ) (order : Option Order) (c : ℕ → Content) (Knows : Shared → Volume → Type 0)
    (on : (x : AbstractActor) (s t : Shared) (d e : Volume) → x.order ≡ order → Others a x s d t e → Knows s d → Knows t e)
    (next : (n : ℕ) (seal : Seal) (t : Shared) (e : Volume) → Good size t e → Knows t e → e.live ≡ true → RestsAt t e b → seal ≡ t.seals b → Safe n size a (at_work job (abstract_work job seal) Finished (Owns b) order false c) t e) where
  sealed : (n : ℕ) (s : Shared) (d : Volume) → Knows s d → d.live ≡ true → RestsAt s d b → Safe n size a (at_work job (Look_seal b ∷ []) Finished (Owns b) order false c) s d
  sealed zero s d h l k = tt
  sealed (suc n) s d h l k = λ t e got o g v r. gives_seal t b (λ w. Comes n size a job (Look_seal b ∷ []) Finished (Owns b) order false c t e w)
      (λ seal is. calmly size a (λ y u f. Safe n size a y u f) _ _ (Look_seal b) (Seen seal) t t e _ (calm_acts job plain (Look_seal b) tt t.mapping a c (Seen seal)) g.agrees tt tt (still_right a job plain (Look_seal b) tt (Seen seal) e e refl)
      (next n seal t e g (on _ s t d e refl o h) (o.live ∙ l) (rests_on a b _ s t d e o refl k) is)) got v

  owning : (n : ℕ) (s : Shared) (d : Volume) → Knows s d → d.live ≡ true → Safe n size a (at_work job (Own b ∷ Look_seal b ∷ []) Finished Nothing order false c) s d
  owning zero s d h l = tt
  owning (suc n) s d h l = λ t e got o g v r.
      gives_lost (λ w. Receives (at_work job (Own b ∷ Look_seal b ∷ []) Finished Nothing order false c) job (Own b) w t e → Comes n size a job (Own b ∷ Look_seal b ∷ []) Finished Nothing order false c t e w)
      (λ k. calmly size a (λ y u f. Safe n size a y u f) _ _ (Own b) Done t t e _ (calm_acts job plain (Own b) tt t.mapping a c Done) g.agrees refl tt (still_right a job plain (Own b) tt Done e e refl) (sealed n t e (on _ s t d e refl o h) (o.live ∙ l) k))
      (λ k. calmly size a (λ y u f. Safe n size a y u f) _ _ (Own b) Lost t t e _ (calm_acts job plain (Own b) tt t.mapping a c Lost) g.agrees refl tt (still_right a job plain (Own b) tt Lost e e refl) (ending n size a job plain Busy Nothing order c t e (inl refl)))
      got v r

  alone : (job : Job) → IsPlain job → job_alone job ≡ false
  alone Suspending plain = absurd plain
  alone job plain = refl

  pub beginning : (n : ℕ) (s : Shared) (d : Volume) → Knows s d → Safe n size a (at_work job (Look_fail ∷ Own b ∷ Look_seal b ∷ []) Finished Nothing order false c) s d
  beginning zero s d h = tt
  beginning (suc n) s d h = λ t e got o g v r.
      gives_flag t (λ w. Receives (at_work job (Look_fail ∷ Own b ∷ Look_seal b ∷ []) Finished Nothing order false c) job Look_fail w t e → Comes n size a job (Look_fail ∷ Own b ∷ Look_seal b ∷ []) Finished Nothing order false c t e w)
      (λ f is k. calmly size a (λ y u f. Safe n size a y u f) _ _ Look_fail (Flag f) t t e _ (calm_acts job plain Look_fail tt t.mapping a c (Flag f)) g.agrees tt tt (still_right a job plain Look_fail tt (Flag f) e e refl) (looked n f t e (on _ s t d e refl o h) k)) got v r
    where
      looked : (n : ℕ) (f : Bool) (t : Shared) (e : Volume) → Knows t e → Receives (at_work job (Look_fail ∷ Own b ∷ Look_seal b ∷ []) Finished Nothing order false c) job Look_fail (Flag f) t e →
          Safe n size a (actor_after (at_work job (Look_fail ∷ Own b ∷ Look_seal b ∷ []) Finished Nothing order false c) (script_of job (Look_fail ∷ Own b ∷ Look_seal b ∷ []) Finished) Look_fail (Flag f)) t e
      looked n true t e h k = ending n size a job plain Failed Nothing order c t e (inl refl)
      looked n false t e h k = owning n t e h (k (alone job plain))
