-- Orders that are put aside, and that are taken up again.
use Rattle.std.proofs.Common.{◌≡◌, ◌≢◌, ◌⊎◌, arith, inl, inr, ℕ, zero, suc, Bool, true, List, [], ◌∷◌, Option, Some, None, refl, sym, ap, subst, ◌∙◌, slice_get, slice_set}
use Rattle.std.proofs.lemmas.Bool.{cases_eq}
use Rattle.wb_contents.specs.Volume.{Volume, changed}
use Rattle.wb_contents.proofs.Positions.{changed_same, changed_other}
use Rattle.wb_disk.specs.Device.{Content}
use Rattle.wb_link.specs.Tables.{Order, Job, Suspending, Failed, Finished, Look_fail, End, Done, Flag, abstract_acquire}
use Rattle.wb_link.specs.World.{Shared, Held, AbstractActor, World, ShareNoBlock, aside, abstract_taken, actor_after, Release, release_order, after_record, block_given_back}
use Rattle.wb_link.proofs.Link.{NobodyAlone, Owes, Right, Safe, SetAside, Linked, acts_of}
use Rattle.wb_link.proofs.Calm.{calmly}
use Rattle.wb_link.proofs.Givings.{at_work, script_of, Comes, resting_safe, gives_flag, gives_done}
use Rattle.wb_contents.proofs.Lists.{set_other}
use Rattle.wb_link.proofs.Steps.{in_set}
use Rattle.wb_link.proofs.Actors.{turned, placing_on, safe_on}
use Rattle.wb_link.proofs.Agreeing.{blocks_agrees}
use Rattle.wb_link.proofs.Effects.{sound_put, sound_given}

-- being apart goes both ways
pub apart_back : (p q : Order) → ShareNoBlock p q → ShareNoBlock q p
apart_back p q a = (λ b m n. a.0 b n m, λ e. a.1 (sym e))

-- what is aside once this order was put there: it, or what was there
pub aside_cases : (waiting : ℕ → Option Order) (o : Option Order) (k : ℕ) (q : Order) → aside waiting o k ≡ Some q → ((o ≡ Some q) × (q.cache ≡ k)) ⊎ ((waiting k ≡ Some q) × ((p : Order) → o ≡ Some p → p.cache ≢ k))
aside_cases waiting None k q e = inr (e, λ p f. absurd (cc))
aside_cases waiting (Some p) k q e = elim (cases_eq k p.cache) [
  | inl s ↦ let one : Some p ≡ Some q = sym (changed_same waiting p.cache (Some p)) ∙ ap (changed waiting p.cache (Some p)) (sym s) ∙ e in let same : p ≡ q = cc in inl (one, ap (λ (v : Order). v.cache) (sym same) ∙ sym s)
  | inr n ↦ inr (sym (changed_other waiting p.cache k (Some p) n) ∙ e, λ r f. let same : p ≡ r = cc in λ g. n (sym g ∙ ap (λ (v : Order). v.cache) (sym same)))
]

-- what is aside once this order was taken up was there before
taken_was : (waiting : ℕ → Option Order) (p : Order) (k : ℕ) (q : Order) → abstract_taken waiting (Some p) k ≡ Some q → (k ≢ p.cache) × (waiting k ≡ Some q)
taken_was waiting p k q e = elim (cases_eq k p.cache) [
  | inl s ↦ let bad : None ≡ Some q = sym (changed_same waiting p.cache None) ∙ ap (changed waiting p.cache None) (sym s) ∙ e in absurd (cc)
  | inr n ↦ (n, sym (changed_other waiting p.cache k None n) ∙ e)
]

-- An actor's order is put aside, and it has another one, apart from all that are there then.
pub put_aside : (size : ℕ) (w : World) (d : Volume) (a : ℕ) (x y : AbstractActor) → Linked size w d → slice_get w.actors a ≡ Some x →
    ((k : ℕ) (p q : Order) → aside w.waiting x.order k ≡ Some p → y.order ≡ Some q → ShareNoBlock q p) → SetAside w.shared (slice_set w.actors a y) (aside w.waiting x.order) d.mode
put_aside size w d a x y i here new = record {
  at = λ k p e. elim (aside_cases w.waiting x.order k p e) [ inl o ↦ o.1 | inr o ↦ i.aside.at k p o.0 ];
  stands = λ k p e. elim (aside_cases w.waiting x.order k p e) [ inl o ↦ i.stands a x p here o.0 | inr o ↦ i.aside.stands k p o.0 ];
  placed = λ k p e. elim (aside_cases w.waiting x.order k p e) [ inl o ↦ i.placed a x p here o.0 | inr o ↦ i.aside.placed k p o.0 ];
  apart = λ k p b z q e g. in_set w.actors a x y here (λ j v. (q : Order) → v.order ≡ Some q → ShareNoBlock q p)
      (λ q f. new k p q e f)
      (λ j v n h q f. elim (aside_cases w.waiting x.order k p e) [ inl o ↦ (i.disjoint j a v x h here n).order q p f o.0 | inr o ↦ i.aside.apart k p j v q o.0 h f ])
      b z g q;
  each = λ j k p q e f n. elim (aside_cases w.waiting x.order j p e) [
    | inl o ↦ elim (aside_cases w.waiting x.order k q f) [
      | inl o' ↦ let one : Some p ≡ Some q = sym o.0 ∙ o'.0 in let same : p ≡ q = cc in absurd (n (sym o.1 ∙ ap (λ (v : Order). v.cache) same ∙ o'.1))
      | inr o' ↦ i.aside.apart k q a x p o'.0 here o.0
    ]
    | inr o ↦ elim (aside_cases w.waiting x.order k q f) [
      | inl o' ↦ let back = i.aside.apart j p a x q o.0 here o'.0 in (λ b m l. back.0 b l m, λ s. back.1 (sym s))
      | inr o' ↦ i.aside.each j k p q o.0 o'.0 n
    ]
  ];
  modes = λ k p e. elim (aside_cases w.waiting x.order k p e) [ inl o ↦ i.orders a x p here o.0 | inr o ↦ i.aside.modes k p o.0 ];
}

-- and without another one
pub without_order : (size : ℕ) (w : World) (d : Volume) (a : ℕ) (x : AbstractActor) → Linked size w d → slice_get w.actors a ≡ Some x → SetAside w.shared (slice_set w.actors a (record x { order = None })) (aside w.waiting x.order) d.mode
without_order size w d a x i here = put_aside size w d a x (record x { order = None }) i here (λ k p q e f. absurd (cc))

pub beside_set : (actors : List AbstractActor) (a j : ℕ) (y v : AbstractActor) → j ≢ a → slice_get actors j ≡ Some v → slice_get (slice_set actors a y) j ≡ Some v
beside_set actors a j y v n h = set_other actors a j y n ∙ h

-- And one of those is taken up.
pub take_up : (size : ℕ) (w : World) (d : Volume) (a : ℕ) (x y : AbstractActor) (p : Order) → Linked size w d → slice_get w.actors a ≡ Some x → y.order ≡ Some p → aside w.waiting x.order p.cache ≡ Some p →
    SetAside w.shared (slice_set w.actors a y) (abstract_taken (aside w.waiting x.order) (Some p)) d.mode
take_up size w d a x y p i here own there = let all = without_order size w d a x i here in record {
  at = λ k q e. all.at k q (taken_was (aside w.waiting x.order) p k q e).1;
  stands = λ k q e. all.stands k q (taken_was (aside w.waiting x.order) p k q e).1;
  placed = λ k q e. all.placed k q (taken_was (aside w.waiting x.order) p k q e).1;
  apart = λ k q b z r e g. in_set w.actors a x y here (λ j v. (r : Order) → v.order ≡ Some r → ShareNoBlock r q)
      (λ r f. let was = taken_was (aside w.waiting x.order) p k q e in let one : Some p ≡ Some r = sym own ∙ f in let same : p ≡ r = cc in subst (λ (v : Order). ShareNoBlock v q) same (all.each p.cache k p q there was.1 (λ s. was.0 (sym s))))
      (λ j v n h r f. all.apart k q j v r (taken_was (aside w.waiting x.order) p k q e).1 (beside_set w.actors a j (record x { order = None }) v n h) f)
      b z g r;
  each = λ j k q r e f n. all.each j k q r (taken_was (aside w.waiting x.order) p j q e).1 (taken_was (aside w.waiting x.order) p k r f).1 n;
  modes = λ k q e. all.modes k q (taken_was (aside w.waiting x.order) p k q e).1;
}

-- ---- an order that is aside is given up

-- its cache block is given back
abbrev pub released : World → ℕ → World
released w k = record { shared = record w.shared { blocks = changed w.shared.blocks k (block_given_back (w.shared.blocks k)) }; actors = w.actors; waiting = changed w.waiting k None }

pub release_is : (w : World) (k : ℕ) (p : Order) → w.waiting k ≡ Some p → after_record w (Release k) ≡ released w k
release_is w k p e = ap (λ (o : Option Order). release_order w k o) e

-- which the invariant outlives, where nobody is alone
pub release_linked : (size : ℕ) (w : World) (d : Volume) (k : ℕ) (p : Order) → Linked size w d → w.waiting k ≡ Some p → NobodyAlone w.actors → Linked size (released w k) d
release_linked size w d k p i e nobody = record {
  good = record {
    kept = i.good.kept;
    agrees = blocks_agrees w.shared d _ i.good.agrees;
    bounded = i.good.bounded;
    sound = sound_put w.shared k (block_given_back (w.shared.blocks k)) w.shared.mapping (sound_given (w.shared.blocks k) w.shared.mapping w.shared.committed w.shared.running k (i.good.sound k)) (λ j n u. u) i.good.sound;
    idle = i.good.idle;
  };
  rests = i.rests;
  disjoint = i.disjoint;
  leads = i.leads;
  stands = λ a x q g f. turned (w.shared.blocks q.cache) _ (i.stands a x q g f) (inl (held a x q g f));
  placed = λ a x q g f. placing_on w.shared (released w k).shared q (inl (held a x q g f)) refl (λ b n. refl) (i.placed a x q g f);
  orders = i.orders;
  dropping = i.dropping;
  resting = i.resting;
  living = i.living;
  safe = λ a x n g. safe_on n size a x w.shared (released w k).shared d d (record {
    seal = λ b h. refl;
    block = λ b h. refl;
    location = λ q f. refl;
    state = λ q f r. held a x q g f;
    cached = λ q f r o. refl;
    commit = λ f. refl;
    ticket = refl;
    began = omega arith;
    ended = omega arith;
    fail = λ f. f;
    live = refl;
    mode = refl;
    alone = λ m. let no = nobody a x g in absurd (cc);
  }) (i.safe a x n g);
  aside = record {
    at = λ j q f. i.aside.at j q (was j q f).1;
    stands = λ j q f. turned (w.shared.blocks q.cache) _ (i.aside.stands j q (was j q f).1) (inl (kept j q f));
    placed = λ j q f. placing_on w.shared (released w k).shared q (inl (kept j q f)) refl (λ b n. refl) (i.aside.placed j q (was j q f).1);
    apart = λ j q a x r f g h. i.aside.apart j q a x r (was j q f).1 g h;
    each = λ j l q r f g n. i.aside.each j l q r (was j q f).1 (was l r g).1 n;
    modes = λ j q f. i.aside.modes j q (was j q f).1;
  };
} where
  was : (j : ℕ) (q : Order) → changed w.waiting k None j ≡ Some q → (j ≢ k) × (w.waiting j ≡ Some q)
  was j q f = elim (cases_eq j k) [
    | inl s ↦ let bad : None ≡ Some q = sym (changed_same w.waiting k None) ∙ ap (changed w.waiting k None) (sym s) ∙ f in absurd (cc)
    | inr n ↦ (n, sym (changed_other w.waiting k j None n) ∙ f)
  ]

  -- the cache block of any other order stays as it is
  kept : (j : ℕ) (q : Order) → changed w.waiting k None j ≡ Some q → changed w.shared.blocks k (block_given_back (w.shared.blocks k)) q.cache ≡ w.shared.blocks q.cache
  kept j q f = changed_other w.shared.blocks k q.cache _ (λ s. (was j q f).0 (sym (i.aside.at j q (was j q f).1) ∙ s))

  held : (a : ℕ) (x : AbstractActor) (q : Order) → slice_get w.actors a ≡ Some x → x.order ≡ Some q → changed w.shared.blocks k (block_given_back (w.shared.blocks k)) q.cache ≡ w.shared.blocks q.cache
  held a x q g f = changed_other w.shared.blocks k q.cache _ (λ s. (i.aside.apart k p a x q e g f).1 (s ∙ sym (i.aside.at k p e)))

-- ---- who has kept something at a failure begins nothing: it finds that the target has failed

refusal : (a : ℕ) (job : Job) (c : ℕ → Content) (t : Shared) (e : Volume) → t.fail ≡ true → (acts_of t.mapping a job c (End Failed) Done ≡ []) × Owes job (End Failed) t e × Right a job (End Failed) Done e e
refusal a Suspending c t e f = (refl, inl f, record { reads = tt; histories = refl; flushes = tt })
refusal a job c t e f = (refl, tt, record { reads = tt; histories = refl; flushes = tt })

look : (a : ℕ) (job : Job) (c : ℕ → Content) (flag : Bool) (t : Shared) (e : Volume) → (acts_of t.mapping a job c Look_fail (Flag flag) ≡ []) × Right a job Look_fail (Flag flag) e e
look a Suspending c flag t e = (refl, record { reads = tt; histories = refl; flushes = tt })
look a job c flag t e = (refl, record { reads = tt; histories = refl; flushes = tt })

kept_ends : (job : Job) (n size a : ℕ) (held : Held) (order : Option Order) (leads : Bool) (c : ℕ → Content) (s : Shared) (d : Volume) → s.fail ≡ true → Safe n size a (at_work job [] Failed held order leads c) s d
kept_ends job zero size a held order leads c s d f = tt
kept_ends job (suc n) size a held order leads c s d f = λ t e got o g v r. let no = refusal a job c t e (o.fail f) in
    gives_done (λ k. Comes n size a job [] Failed held order leads c t e k)
    (calmly size a (λ y u h. Safe n size a y u h) _ _ (End Failed) Done t t e _ no.0 g.agrees (inr (o.fail f)) no.1 no.2 (resting_safe n size a held order leads c t e)) got v

-- so, whatever it is given, it only answers
pub kept_safe : (job : Job) (n size a : ℕ) (held : Held) (order : Option Order) (leads : Bool) (c : ℕ → Content) (s : Shared) (d : Volume) → s.fail ≡ true → Safe n size a (at_work job (Look_fail ∷ abstract_acquire job) Finished held order leads c) s d
kept_safe job zero size a held order leads c s d f = tt
kept_safe job (suc n) size a held order leads c s d f = λ t e got o g v r. let steps = Look_fail ∷ abstract_acquire job in
    gives_flag t (λ k. Comes n size a job steps Finished held order leads c t e k) (λ flag is. let no = look a job c flag t e in
    calmly size a (λ y u h. Safe n size a y u h) _ _ Look_fail (Flag flag) t t e _ no.0 g.agrees tt tt no.1
    (subst (λ (w : Bool). Safe n size a (actor_after (at_work job steps Finished held order leads c) (script_of job steps Finished) Look_fail (Flag w)) t e) (sym (is ∙ o.fail f)) (kept_ends job n size a held order leads c t e (o.fail f)))) got v
