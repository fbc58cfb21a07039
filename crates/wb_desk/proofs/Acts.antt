-- The allocation invariant after each act.
use Rattle.std.proofs.Common.{◌≡◌, ◌≢◌, ◌≤◌, ◌<◌, ◌+◌, ◌⊎◌, inl, inr, ℕ, zero, suc, List, [], ◌∷◌, ◌++◌, true, false, Option, Some, None, length, get_or, set, slice_get, refl, sym, ap, subst, ◌∙◌, arith, get_or-set_same, get_or-set_other}
use Rattle.std.proofs.lemmas.Bool.{cases_eq, cases_lt}
use Rattle.std.proofs.lemmas.List.{set_past, get_or_past}
use Rattle.std.proofs.lemmas.Option.{get_or_from_slice_get, slice_get_within}
use Rattle.std.proofs.Math.ListN.{get_or-map}
use Rattle.wb_space.specs.declared.block.Block.{Block}
use Rattle.wb_space.specs.declared.block.Block.TheVariants.{Free, Mapped, Reserved, Quarantined}
use Rattle.wb_space.specs.Blocks.{released, commit_begun, commit_ended, state, IsClaimed}
use Rattle.wb_desk.specs.Allocation.{BlockMap, LiveOrder, Allocation, DeskAct, Give, Over, Map, Unmap, Begin, End, Threshold, Apart, ApartAll, Shareless, WithinFrom, ImageSafe, AllocationInvariant, DeskMayAct, IsActRun, after_act, after_acts, orders_without, cost, origin_in, cache_at, HasOrder, StaysQuarantined, StaysOrEnds, NoneTwice, at_opening, block_as_opened}

-- Orders

apart_sym : (o p : LiveOrder) → Apart o p → Apart p o
apart_sym o p a = record {
  cache = λ e. a.cache (sym e);
  origin = λ e. a.origin (sym e);
  origin_other = λ e. a.other_origin (sym e);
  other_origin = λ e. a.origin_other (sym e);
  other = λ e. a.other (sym e);
}

apart_push : (o p : LiveOrder) (os : List LiveOrder) → ApartAll o os → Apart o p → ApartAll o (os ++ p ∷ [])
apart_push o p [] a b = (b, tt)
apart_push o p (q ∷ os) a b = (a.0, apart_push o p os a.1 b)

pub shareless_push : (os : List LiveOrder) (p : LiveOrder) → Shareless os → ApartAll p os → Shareless (os ++ p ∷ [])
shareless_push [] p s a = (tt, tt)
shareless_push (o ∷ os) p s a = (apart_push o p os s.0 (apart_sym p o a.0), shareless_push os p s.1 a.1)

apart_without : (o : LiveOrder) (os : List LiveOrder) (i : ℕ) → ApartAll o os → ApartAll o (orders_without os i)
apart_without o [] i a = a
apart_without o (p ∷ os) zero a = a.1
apart_without o (p ∷ os) (suc i) a = (a.0, apart_without o os i a.1)

pub shareless_without : (os : List LiveOrder) (i : ℕ) → Shareless os → Shareless (orders_without os i)
shareless_without [] i s = s
shareless_without (o ∷ os) zero s = s.1
shareless_without (o ∷ os) (suc i) s = (apart_without o os i s.0, shareless_without os i s.1)

pub within_push : (before : ℕ) (os : List LiveOrder) (p : LiveOrder) → WithinFrom before os → before + cost os + p.sectors ≤ p.threshold → WithinFrom before (os ++ p ∷ [])
within_push before [] p w b = (omega arith, tt)
within_push before (o ∷ os) p w b = (w.0, within_push (before + o.sectors) os p w.1 (omega arith))

-- fewer sectors before it
within_less : (before less : ℕ) (os : List LiveOrder) → less ≤ before → WithinFrom before os → WithinFrom less os
within_less before less [] l w = w
within_less before less (o ∷ os) l w = (omega (arith, w.0), within_less (before + o.sectors) (less + o.sectors) os (omega arith) w.1)

pub within_without : (before : ℕ) (os : List LiveOrder) (i : ℕ) → WithinFrom before os → WithinFrom before (orders_without os i)
within_without before [] i w = w
within_without before (o ∷ os) zero w = within_less (before + o.sectors) before os (omega arith) w.1
within_without before (o ∷ os) (suc i) w = (w.0, within_without (before + o.sectors) os i w.1)

-- Blocks

abbrev pub SoundAt : Allocation → ℕ → Type 0
SoundAt d c = ImageSafe (state d.blocks c) (origin_in d.mapping c) (origin_in d.committed c) (origin_in d.running c)

abbrev pub AllSound : Allocation → Type 0
AllSound d = (c : ℕ) → SoundAt d c

-- one block changes its state, the mapping and the images stay
pub block_sound : (d : Allocation) (c : ℕ) (b : Block) → (c < length d.blocks → ImageSafe b (origin_in d.mapping c) (origin_in d.committed c) (origin_in d.running c)) → AllSound d → (k : ℕ) → ImageSafe (state (set d.blocks c b) k) (origin_in d.mapping k) (origin_in d.committed k) (origin_in d.running k)
block_sound d c b here all k = elim (cases_eq k c) [
  | inl e ↦ subst (λ (k : ℕ). ImageSafe (state (set d.blocks c b) k) (origin_in d.mapping k) (origin_in d.committed k) (origin_in d.running k)) (sym e) at
  | inr n ↦ subst (λ (x : Block). ImageSafe x (origin_in d.mapping k) (origin_in d.committed k) (origin_in d.running k)) (sym (get_or-set_other d.blocks c k b Free n)) (all k)
]
  where
    at : ImageSafe (state (set d.blocks c b) c) (origin_in d.mapping c) (origin_in d.committed c) (origin_in d.running c)
    at = elim (cases_lt c (length d.blocks)) [
      | inl l ↦ subst (λ (x : Block). ImageSafe x (origin_in d.mapping c) (origin_in d.committed c) (origin_in d.running c)) (sym (get_or-set_same d.blocks c b Free l)) (here l)
      | inr p ↦ subst (λ (x : List Block). ImageSafe (state x c) (origin_in d.mapping c) (origin_in d.committed c) (origin_in d.running c)) (sym (set_past d.blocks c b p)) (all c)
    ]

-- with its entry of the mapping
pub entry_sound : (d : Allocation) (c : ℕ) (b : Block) (m : Option ℕ) → c < length d.blocks → (ImageSafe b (get_or (set d.mapping c m) c None) (origin_in d.committed c) (origin_in d.running c)) → AllSound d → (k : ℕ) → ImageSafe (state (set d.blocks c b) k) (origin_in (set d.mapping c m) k) (origin_in d.committed k) (origin_in d.running k)
entry_sound d c b m l here all k = elim (cases_eq k c) [
  | inl e ↦ subst (λ (k : ℕ). ImageSafe (state (set d.blocks c b) k) (origin_in (set d.mapping c m) k) (origin_in d.committed k) (origin_in d.running k)) (sym e)
      (subst (λ (x : Block). ImageSafe x (origin_in (set d.mapping c m) c) (origin_in d.committed c) (origin_in d.running c)) (sym (get_or-set_same d.blocks c b Free l)) here)
  | inr n ↦ subst (λ (x : Block). ImageSafe x (origin_in (set d.mapping c m) k) (origin_in d.committed k) (origin_in d.running k)) (sym (get_or-set_other d.blocks c k b Free n))
      (subst (λ (x : Option ℕ). ImageSafe (state d.blocks k) x (origin_in d.committed k) (origin_in d.running k)) (sym (get_or-set_other d.mapping c k m None n)) (all k))
]

-- each kind of change, at one block

pub sound_given_back : (b : Block) (now committed running : Option ℕ) → ImageSafe b now committed running → ImageSafe (released b) now committed running
sound_given_back Free now committed running s = s
sound_given_back Mapped now committed running s = s
sound_given_back Reserved now committed running s = s
sound_given_back (Quarantined claimed false) now committed running s = s
sound_given_back (Quarantined claimed true) now committed running s = s

pub sound_begun : (b : Block) (now committed running : Option ℕ) → ImageSafe b now committed running → ImageSafe (commit_begun b) now committed now
sound_begun Free now committed running s = (s.0, s.1, s.0)
sound_begun Mapped now committed running s = (s.0, s.1, s.2, inr s.1)
sound_begun Reserved now committed running s = (s.0, s.1, s.0)
sound_begun (Quarantined claimed false) now committed running s = (s, s)
sound_begun (Quarantined claimed true) now committed running s = (s.0, s.0)

pub sound_ended : (b : Block) (now committed running : Option ℕ) → ImageSafe b now committed running → ImageSafe (commit_ended b) now running running
sound_ended Free now committed running s = (s.0, s.2, s.2)
sound_ended Mapped now committed running s = (s.0, s.1, s.3, s.3)
sound_ended Reserved now committed running s = (s.0, s.2, s.2)
sound_ended (Quarantined claimed false) now committed running s = s
sound_ended (Quarantined true true) now committed running s = (s.0, s.1, s.1)
sound_ended (Quarantined false true) now committed running s = (s.0, s.1, s.1)

-- what is asked at a block gives its state
at_block : (d : Allocation) (c : ℕ) (b : Block) → slice_get d.blocks c ≡ Some b → AllSound d → ImageSafe b (origin_in d.mapping c) (origin_in d.committed c) (origin_in d.running c)
at_block d c b e all = subst (λ (x : Block). ImageSafe x (origin_in d.mapping c) (origin_in d.committed c) (origin_in d.running c)) (get_or_from_slice_get d.blocks c b Free e) (all c)

none_at : (m : BlockMap) (c : ℕ) → get_or (set m c None) c None ≡ None
none_at m c = elim (cases_lt c (length m)) [
  | inl l ↦ get_or-set_same m c None None l
  | inr p ↦ ap (λ (x : BlockMap). get_or x c None) (set_past m c None p) ∙ get_or_past m c None p
]

-- Which blocks orders hold

holds_push : (os : List LiveOrder) (p : LiveOrder) (c : ℕ) → HasOrder os c → HasOrder (os ++ p ∷ []) c
holds_push [] p c h = absurd h
holds_push (o ∷ os) p c (inl e) = inl e
holds_push (o ∷ os) p c (inr h) = inr (holds_push os p c h)

holds_new : (os : List LiveOrder) (p : LiveOrder) (c : ℕ) → p.cache ≡ c → HasOrder (os ++ p ∷ []) c
holds_new [] p c e = inl e
holds_new (o ∷ os) p c e = inr (holds_new os p c e)

holds_without : (os : List LiveOrder) (i c : ℕ) → cache_at os i ≢ c → HasOrder os c → HasOrder (orders_without os i) c
holds_without [] i c n h = h
holds_without (o ∷ os) zero c n (inl e) = absurd (n e)
holds_without (o ∷ os) zero c n (inr h) = h
holds_without (o ∷ os) (suc i) c n (inl e) = inl e
holds_without (o ∷ os) (suc i) c n (inr h) = inr (holds_without os i c n h)

given_back_free : (b : Block) → IsClaimed (released b) → ⊥
given_back_free Free h = h
given_back_free Mapped h = h
given_back_free Reserved h = h
given_back_free (Quarantined claimed early) h = h

pub kept_begun : (b : Block) → IsClaimed (commit_begun b) → IsClaimed b
kept_begun Free h = h
kept_begun Mapped h = h
kept_begun Reserved h = h
kept_begun (Quarantined true early) h = h
kept_begun (Quarantined false early) h = h

pub kept_ended : (b : Block) → IsClaimed (commit_ended b) → IsClaimed b
kept_ended Free h = h
kept_ended Mapped h = h
kept_ended Reserved h = h
kept_ended (Quarantined true true) h = tt
kept_ended (Quarantined true false) h = h
kept_ended (Quarantined false true) h = h
kept_ended (Quarantined false false) h = h

set_held : (d : Allocation) (c : ℕ) (b : Block) (k : ℕ) → (IsClaimed b → HasOrder d.orders c) → IsClaimed (state (set d.blocks c b) k) → AllocationInvariant d → HasOrder d.orders k
set_held d c b k new h i = elim (cases_eq k c) [
  | inl e ↦ subst (λ (k : ℕ). HasOrder d.orders k) (sym e) (at (subst (λ (k : ℕ). IsClaimed (state (set d.blocks c b) k)) e h))
  | inr n ↦ i.held k (subst IsClaimed (get_or-set_other d.blocks c k b Free n) h)
]
  where
    at : IsClaimed (state (set d.blocks c b) c) → HasOrder d.orders c
    at h = elim (cases_lt c (length d.blocks)) [
      | inl l ↦ new (subst IsClaimed (get_or-set_same d.blocks c b Free l) h)
      | inr p ↦ i.held c (subst (λ (x : List Block). IsClaimed (state x c)) (set_past d.blocks c b p) h)
    ]

over_held : (d : Allocation) (n k : ℕ) → IsClaimed (state (set d.blocks (cache_at d.orders n) (released (state d.blocks (cache_at d.orders n)))) k) → AllocationInvariant d → HasOrder (orders_without d.orders n) k
over_held d n k h i = elim (cases_eq k (cache_at d.orders n)) [
  | inl e ↦ absurd (gone (subst (λ (k : ℕ). IsClaimed (state (set d.blocks (cache_at d.orders n) (released (state d.blocks (cache_at d.orders n)))) k)) e h))
  | inr o ↦ holds_without d.orders n k (λ e. o (sym e)) (i.held k (subst IsClaimed (get_or-set_other d.blocks (cache_at d.orders n) k (released (state d.blocks (cache_at d.orders n))) Free o) h))
]
  where
    c : ℕ
    c = cache_at d.orders n

    gone : IsClaimed (state (set d.blocks c (released (state d.blocks c))) c) → ⊥
    gone h = elim (cases_lt c (length d.blocks)) [
      | inl l ↦ given_back_free (state d.blocks c) (subst IsClaimed (get_or-set_same d.blocks c (released (state d.blocks c)) Free l) h)
      | inr p ↦ subst IsClaimed (get_or_past d.blocks c Free p) (subst (λ (x : List Block). IsClaimed (state x c)) (set_past d.blocks c (released (state d.blocks c)) p) h)
    ]

-- No origin block twice

none_some : (m : Option ℕ) (b : ℕ) → m ≡ None → m ≢ Some b
none_some m b e f = let bad : None ≡ Some b = sym e ∙ f in cc

once_mapped : (m : BlockMap) (c b : ℕ) → ((k : ℕ) → origin_in m k ≢ Some b) → NoneTwice m → NoneTwice (set m c (Some b))
once_mapped m c b new once x j k p q = elim (cases_eq j c) [
  | inl e ↦ elim (cases_eq k c) [
    | inl f ↦ e ∙ sym f
    | inr f ↦ absurd (new k (sym (get_or-set_other m c k (Some b) None f) ∙ q ∙ sym (same j e p)))
  ]
  | inr e ↦ elim (cases_eq k c) [
    | inl f ↦ absurd (new j (sym (get_or-set_other m c j (Some b) None e) ∙ p ∙ sym (same k f q)))
    | inr f ↦ once x j k (sym (get_or-set_other m c j (Some b) None e) ∙ p) (sym (get_or-set_other m c k (Some b) None f) ∙ q)
  ]
]
  where
    same : (k : ℕ) → k ≡ c → origin_in (set m c (Some b)) k ≡ Some x → Some b ≡ Some x
    same k e q = elim (cases_lt c (length m)) [
      | inl l ↦ sym (get_or-set_same m c (Some b) None l) ∙ sym (ap (λ (n : ℕ). origin_in (set m c (Some b)) n) e) ∙ q
      | inr past ↦ absurd (none_some (origin_in (set m c (Some b)) k) x
          (ap (λ (n : ℕ). origin_in (set m c (Some b)) n) e ∙ ap (λ (l : BlockMap). origin_in l c) (set_past m c (Some b) past) ∙ get_or_past m c None past) q)
    ]

once_unmapped : (m : BlockMap) (c : ℕ) → NoneTwice m → NoneTwice (set m c None)
once_unmapped m c once x j k p q = elim (cases_eq j c) [
  | inl e ↦ absurd (none_some (origin_in (set m c None) j) x (ap (λ (n : ℕ). origin_in (set m c None) n) e ∙ none_at m c) p)
  | inr e ↦ elim (cases_eq k c) [
    | inl f ↦ absurd (none_some (origin_in (set m c None) k) x (ap (λ (n : ℕ). origin_in (set m c None) n) f ∙ none_at m c) q)
    | inr f ↦ once x j k (sym (get_or-set_other m c j None None e) ∙ p) (sym (get_or-set_other m c k None None f) ∙ q)
  ]
]

-- Every act

pub act_kept : (d : Allocation) (a : DeskAct) → DeskMayAct d a → AllocationInvariant d → AllocationInvariant (after_act d a)
act_kept d (Give o true) may i = let free = at_block d o.cache Free may.1 i.sound in record {
  sound = block_sound d o.cache Reserved (λ l. free) i.sound;
  idle = i.idle;
  held = λ k h. elim (cases_eq k o.cache) [
    | inl e ↦ holds_new d.orders o k (sym e)
    | inr n ↦ holds_push d.orders o k (i.held k (subst IsClaimed (get_or-set_other d.blocks o.cache k Reserved Free n) h))
  ];
  shareless = shareless_push d.orders o i.shareless may.0.apart;
  within = within_push 0 d.orders o i.within (omega (arith, may.0.room, may.0.under));
  mapping_once = i.mapping_once;
  committed_once = i.committed_once;
  running_once = i.running_once;
}
act_kept d (Give o false) may i = record {
  sound = i.sound;
  idle = i.idle;
  held = λ k h. holds_push d.orders o k (i.held k h);
  shareless = shareless_push d.orders o i.shareless may.apart;
  within = within_push 0 d.orders o i.within (omega (arith, may.room, may.under));
  mapping_once = i.mapping_once;
  committed_once = i.committed_once;
  running_once = i.running_once;
}
act_kept d (Over n) may i = let c = cache_at d.orders n in record {
  sound = block_sound d c (released (state d.blocks c)) (λ l. sound_given_back (state d.blocks c) (origin_in d.mapping c) (origin_in d.committed c) (origin_in d.running c) (i.sound c)) i.sound;
  idle = i.idle;
  held = λ k h. over_held d n k h i;
  shareless = shareless_without d.orders n i.shareless;
  within = within_without 0 d.orders n i.within;
  mapping_once = i.mapping_once;
  committed_once = i.committed_once;
  running_once = i.running_once;
}
act_kept d (Map b c) may i = let reserved = at_block d c Reserved may.0 i.sound in let l = slice_get_within d.blocks c Reserved may.0 in record {
  held = λ k h. set_held d c Mapped k (λ x. absurd x) h i;
  sound = entry_sound d c Mapped (Some b) l (b, get_or-set_same d.mapping c (Some b) None may.1, inl reserved.1, inl reserved.2) i.sound;
  idle = i.idle;
  shareless = i.shareless;
  within = i.within;
  mapping_once = once_mapped d.mapping c b may.2 i.mapping_once;
  committed_once = i.committed_once;
  running_once = i.running_once;
}
act_kept d (Unmap c false) may i = let l = slice_get_within d.blocks c Mapped may in record {
  held = λ k h. set_held d c (Quarantined false false) k (λ x. absurd x) h i;
  sound = entry_sound d c (Quarantined false false) None l (none_at d.mapping c) i.sound;
  idle = i.idle;
  shareless = i.shareless;
  within = i.within;
  mapping_once = once_unmapped d.mapping c i.mapping_once;
  committed_once = i.committed_once;
  running_once = i.running_once;
}
act_kept d (Unmap c true) may i = let l = slice_get_within d.blocks c Mapped may.0 in record {
  held = λ k h. set_held d c (Quarantined true false) k (λ x. may.1) h i;
  sound = entry_sound d c (Quarantined true false) None l (none_at d.mapping c) i.sound;
  idle = i.idle;
  shareless = i.shareless;
  within = i.within;
  mapping_once = once_unmapped d.mapping c i.mapping_once;
  committed_once = i.committed_once;
  running_once = i.running_once;
}
act_kept d Begin may i = record {
  sound = λ c. subst (λ (x : Block). ImageSafe x (origin_in d.mapping c) (origin_in d.committed c) (origin_in d.mapping c)) (sym (get_or-map commit_begun d.blocks c Free)) (sound_begun (state d.blocks c) (origin_in d.mapping c) (origin_in d.committed c) (origin_in d.running c) (i.sound c));
  idle = λ e. absurd (cc);
  held = λ c h. i.held c (kept_begun (state d.blocks c) (subst IsClaimed (get_or-map commit_begun d.blocks c Free) h));
  shareless = i.shareless;
  within = i.within;
  mapping_once = i.mapping_once;
  committed_once = i.committed_once;
  running_once = i.mapping_once;
}
act_kept d End may i = record {
  sound = λ c. subst (λ (x : Block). ImageSafe x (origin_in d.mapping c) (origin_in d.running c) (origin_in d.running c)) (sym (get_or-map commit_ended d.blocks c Free)) (sound_ended (state d.blocks c) (origin_in d.mapping c) (origin_in d.committed c) (origin_in d.running c) (i.sound c));
  idle = λ e. refl;
  held = λ c h. i.held c (kept_ended (state d.blocks c) (subst IsClaimed (get_or-map commit_ended d.blocks c Free) h));
  shareless = i.shareless;
  within = i.within;
  mapping_once = i.mapping_once;
  committed_once = i.running_once;
  running_once = i.running_once;
}
act_kept d (Threshold n) may i = record { sound = i.sound; idle = i.idle; held = i.held; shareless = i.shareless; within = i.within; mapping_once = i.mapping_once; committed_once = i.committed_once; running_once = i.running_once }

pub all_kept : (d : Allocation) (acts : List DeskAct) → IsActRun d acts → AllocationInvariant d → AllocationInvariant (after_acts d acts)
all_kept d [] run i = i
all_kept d (a ∷ acts) run i = all_kept (after_act d a) acts run.1 (act_kept d a run.0 i)

-- Quarantine

pub same_stays : (B E : Type 0) (b : Block) → StaysQuarantined B E b b
same_stays B E Free = tt
same_stays B E Mapped = tt
same_stays B E Reserved = tt
same_stays B E (Quarantined k true) = tt
same_stays B E (Quarantined k false) = tt

pub stays_given_back : (B E : Type 0) (b : Block) → StaysQuarantined B E b (released b)
stays_given_back B E Free = tt
stays_given_back B E Mapped = tt
stays_given_back B E Reserved = tt
stays_given_back B E (Quarantined k true) = tt
stays_given_back B E (Quarantined k false) = tt

pub stays_begun : (B E : Type 0) (b : Block) → B → StaysQuarantined B E b (commit_begun b)
stays_begun B E Free begins = tt
stays_begun B E Mapped begins = tt
stays_begun B E Reserved begins = tt
stays_begun B E (Quarantined k true) begins = tt
stays_begun B E (Quarantined k false) begins = begins

pub stays_ended : (B E : Type 0) (b : Block) → E → StaysQuarantined B E b (commit_ended b)
stays_ended B E Free ends = tt
stays_ended B E Mapped ends = tt
stays_ended B E Reserved ends = tt
stays_ended B E (Quarantined true true) ends = ends
stays_ended B E (Quarantined false true) ends = ends
stays_ended B E (Quarantined k false) ends = tt

pub set_stays : (B E : Type 0) (blocks : List Block) (c : ℕ) (b : Block) (k : ℕ) → StaysQuarantined B E (state blocks c) b → StaysQuarantined B E (state blocks k) (state (set blocks c b) k)
set_stays B E blocks c b k h = elim (cases_eq k c) [
  | inl e ↦ subst (λ (k : ℕ). StaysQuarantined B E (state blocks k) (state (set blocks c b) k)) (sym e) at
  | inr n ↦ subst (λ (x : Block). StaysQuarantined B E (state blocks k) x) (sym (get_or-set_other blocks c k b Free n)) (same_stays B E (state blocks k))
]
  where
    at : StaysQuarantined B E (state blocks c) (state (set blocks c b) c)
    at = elim (cases_lt c (length blocks)) [
      | inl l ↦ subst (λ (x : Block). StaysQuarantined B E (state blocks c) x) (sym (get_or-set_same blocks c b Free l)) h
      | inr p ↦ subst (λ (x : List Block). StaysQuarantined B E (state blocks c) (state x c)) (sym (set_past blocks c b p)) (same_stays B E (state blocks c))
    ]

pub from_block : (B E : Type 0) (blocks : List Block) (c : ℕ) (b x : Block) → slice_get blocks c ≡ Some b → StaysQuarantined B E b x → StaysQuarantined B E (state blocks c) x
from_block B E blocks c b x e h = subst (λ (y : Block). StaysQuarantined B E y x) (sym (get_or_from_slice_get blocks c b Free e)) h

pub stays : (d : Allocation) (a : DeskAct) → DeskMayAct d a → (c : ℕ) → StaysOrEnds (state d.blocks c) a (state (after_act d a).blocks c)
stays d (Give o true) may c = set_stays _ _ d.blocks o.cache Reserved c (from_block _ _ d.blocks o.cache Free Reserved may.1 tt)
stays d (Give o false) may c = same_stays _ _ (state d.blocks c)
stays d (Over n) may c = set_stays _ _ d.blocks (cache_at d.orders n) (released (state d.blocks (cache_at d.orders n))) c (stays_given_back _ _ (state d.blocks (cache_at d.orders n)))
stays d (Map b k) may c = set_stays _ _ d.blocks k Mapped c (from_block _ _ d.blocks k Reserved Mapped may.0 tt)
stays d (Unmap k false) may c = set_stays _ _ d.blocks k (Quarantined false false) c (from_block _ _ d.blocks k Mapped (Quarantined false false) may tt)
stays d (Unmap k true) may c = set_stays _ _ d.blocks k (Quarantined true false) c (from_block _ _ d.blocks k Mapped (Quarantined true false) may.0 tt)
stays d Begin may c = subst (λ (x : Block). StaysOrEnds (state d.blocks c) Begin x) (sym (get_or-map commit_begun d.blocks c Free)) (stays_begun _ _ (state d.blocks c) refl)
stays d End may c = subst (λ (x : Block). StaysOrEnds (state d.blocks c) End x) (sym (get_or-map commit_ended d.blocks c Free)) (stays_ended _ _ (state d.blocks c) refl)
stays d (Threshold n) may c = same_stays _ _ (state d.blocks c)

-- The first state, and what no image entry_in

opened_sound : (m : Option ℕ) → ImageSafe (block_as_opened m) m m m
opened_sound None = (refl, refl, refl)
opened_sound (Some b) = (b, refl, inr refl, inr refl)

opened_held : (m : Option ℕ) → IsClaimed (block_as_opened m) → ⊥
opened_held None h = h
opened_held (Some b) h = h

pub opened_kept : (m : BlockMap) (n : ℕ) → NoneTwice m → AllocationInvariant (at_opening m n)
opened_kept m n once = record {
  sound = λ c. subst (λ (x : Block). ImageSafe x (origin_in m c) (origin_in m c) (origin_in m c)) (sym (get_or-map block_as_opened m c None)) (opened_sound (origin_in m c));
  idle = λ e. refl;
  held = λ c h. absurd (opened_held (origin_in m c) (subst IsClaimed (get_or-map block_as_opened m c None) h));
  shareless = tt;
  within = tt;
  mapping_once = once;
  committed_once = once;
  running_once = once;
}

pub unnamed : (d : Allocation) → AllocationInvariant d → (c : ℕ) → (state d.blocks c ≡ Free) ⊎ (state d.blocks c ≡ Reserved) → (b : ℕ) → (origin_in d.mapping c ≢ Some b) × (origin_in d.committed c ≢ Some b) × (origin_in d.running c ≢ Some b)
unnamed d i c (inl e) b = let s : ImageSafe Free (origin_in d.mapping c) (origin_in d.committed c) (origin_in d.running c) = subst (λ (x : Block). ImageSafe x (origin_in d.mapping c) (origin_in d.committed c) (origin_in d.running c)) e (i.sound c) in
    (none_some (origin_in d.mapping c) b s.0, none_some (origin_in d.committed c) b s.1, none_some (origin_in d.running c) b s.2)
unnamed d i c (inr e) b = let s : ImageSafe Reserved (origin_in d.mapping c) (origin_in d.committed c) (origin_in d.running c) = subst (λ (x : Block). ImageSafe x (origin_in d.mapping c) (origin_in d.committed c) (origin_in d.running c)) e (i.sound c) in
    (none_some (origin_in d.mapping c) b s.0, none_some (origin_in d.committed c) b s.1, none_some (origin_in d.running c) b s.2)
