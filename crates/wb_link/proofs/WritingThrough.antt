-- What is left of a write by write-through is safe, from its start on.
use Rattle.std.proofs.Common.{◌≡◌, ◌≢◌, ◌<◌, ◌⊎◌, inl, inr, ℕ, zero, suc, Bool, true, false, List, [], ◌∷◌, Option, Some, None, refl, sym, ap, subst, ◌∙◌, length, arith, Contains}
use Rattle.std.proofs.lemmas.Bool.{cases_eq}
use Rattle.wb_disk.specs.Device.{Content, History, added, newest}
use Rattle.wb_contents.specs.Volume.{Volume, Whole, Half, changed_at}
use Rattle.wb_types.specs.declared.mode.Mode.TheVariants.{Writethrough}
use Rattle.wb_contents.specs.Acts.{written_through, volume_after as after_act, Write_origin, Write_cache, Finish}
use Rattle.wb_contents.proofs.Positions.{last_of-append}
use Rattle.wb_contents.proofs.Sectors.{here_is, elsewhere_is}
use Rattle.wb_link.specs.Tables.{Writing_through, Finished, Want, Look_fail, Own, Look_seal, Disown, Write_all, Done, Fault, Seal, write_through_each}
use Rattle.wb_link.specs.World.{Shared, Nothing, Owns, AbstractActor, Within, AllWithin, AreDistinct, AllDistinct, put_sector, if_landed}
use Rattle.wb_link.specs.Clerk.{added_each}
use Rattle.wb_link.proofs.Views.{BlockView, block_view}
use Rattle.wb_link.proofs.Effects.{put_sector_desk}
use Rattle.wb_link.proofs.Link.{Agrees, Rests, RestsAt, Safe, SealsDirty, landed_or, if_so, origin_acts}
use Rattle.wb_link.proofs.Sweeping.{Leads, Sweep, sweep, sweeps}
use Rattle.wb_link.proofs.Agreeing.{based_write_agrees, through_agrees, finish_agrees, lose_agrees}
use Rattle.wb_link.proofs.Copying.{contains_cases, contains_more}
use Rattle.wb_link.proofs.Writing.{writing}
use Rattle.wb_link.proofs.Calm.{held_on, failing, disowned, beginning}
use Rattle.wb_link.proofs.Givings.{at_work, Comes, Life, life_on, gives_fault}

-- Where it is mapped, each extent on the origin and then on the cache.

-- a sector that is on the origin and not yet on the cache; one that is on both; and where the block is, on this cache block
abbrev Halved : Content → BlockView → ℕ → Type 0
Halved x v i = (v.standing i ≡ Half) × (newest (v.histories i) ≡ x)

abbrev Settled : BlockView → ℕ → Type 0
Settled v i = (v.standing i ≡ Whole) × (v.finished i ≡ length (v.histories i).later)

record Mapped_at (k : ℕ) (seal : Seal) (v : BlockView) : Type 0 where
  location : seal.location ≡ v.location
  dirty : SealsDirty seal v
  route : Some k ≡ v.location

-- between the two steps: these sectors are half written
record Halfway (k : ℕ) (pending : List ℕ) (x : Content) (seal : Seal) (v : BlockView) : Type 0 where
  half : (i : ℕ) → Contains pending i → Halved x v i
  whole : (i : ℕ) → ¬ Contains pending i → Settled v i
  stands : Mapped_at k seal v

all_settled : (k : ℕ) (x : Content) (seal : Seal) (v : BlockView) → Mapped_at k seal v → ((i : ℕ) → Settled v i) → Rests seal v
all_settled k x seal v at all = record { whole = λ i. (all i).0; location = at.location; dirty = at.dirty; done = λ i. (all i).1 }

module _ (size a b : ℕ) (all : List (List ℕ)) (x : Content) (k : ℕ) (c : ℕ → Content) where
  put_seal : (Knows : Seal → Type 0) (location : Option ℕ) (t : Shared) (q : ℕ) → Knows (t.seals b) → Knows ((put_sector t location b q x).seals b)
  put_seal Knows location t q h = subst (λ (f : ℕ → Seal). Knows (f b)) (sym (put_sector_desk t location b q x).seals) h

  -- on the origin: of these sectors some are half written, others are left
  record Basing (os left : List ℕ) (seal : Seal) (v : BlockView) : Type 0 where
    touched : (i : ℕ) → Contains os i → Contains left i ⊎ Halved x v i
    whole : (i : ℕ) → ¬ Contains os i → Settled v i
    stands : Mapped_at k seal v
    inside : (i : ℕ) → Contains left i → Contains os i

  abbrev OnOrigin : (List ℕ → Seal → BlockView → Type 0) → (ℕ → ℕ → History) → List ℕ → Shared → Volume → Type 0
  OnOrigin Knows histories = Sweep (λ left h. added_each h b left x) histories (λ left t e. Life Writethrough e × Knows left (t.seals b) (block_view e b))

  based : (y : AbstractActor) (busy : Bool) (histories : ℕ → ℕ → History) (os : List ℕ) → y.held ≡ Owns b → (q : ℕ) (left : List ℕ) (t : Shared) (e : Volume) → q < size → OnOrigin (Basing os) histories (q ∷ left) t e →
      Leads size a y busy (λ f. OnOrigin (Basing os) histories left (put_sector t None b q x) f) e (Write_origin b q x ∷ [])
  based y busy histories os own q left t e l h = let before = h.knows.1 in record {
    run = (h.knows.0.0, tt);
    mine = ((own, l), tt);
    ends = record {
      agrees = based_write_agrees t e b q x h.agrees;
      booked = h.booked;
      knows = (
        h.knows.0,
        put_seal (λ w. Basing os left w (block_view (after_act e (Write_origin b q x)) b)) None t q (record {
          touched = λ i m. elim (cases_eq i q) [
            | inl s ↦ inr (ap (changed_at e.standing b q Half b) s ∙ here_is e.standing b q Half, ap (λ j. newest (changed_at e.histories b q (added (e.histories b q) x) b j)) s ∙ ap newest (here_is e.histories b q (added (e.histories b q) x)) ∙ last_of-append (e.histories b q).first x (e.histories b q).later)
            | inr n ↦ elim (before.touched i m) [
              | inl p ↦ elim (contains_cases q left i p) [ inl s ↦ absurd (n (sym s)) | inr p ↦ inl p ]
              | inr old ↦ inr (elsewhere_is e.standing b q b i Half (inr n) ∙ old.0, ap newest (elsewhere_is e.histories b q b i (added (e.histories b q) x) (inr n)) ∙ old.1)
            ]
          ];
          whole = λ i m.
              let n : i ≢ q = (λ s. m (before.inside i (zero, omega arith, sym s))) in
              let old = before.whole i m in
              (elsewhere_is e.standing b q b i Half (inr n) ∙ old.0, old.1 ∙ ap (λ (h : History). length h.later) (sym (elsewhere_is e.histories b q b i (added (e.histories b q) x) (inr n))));
          stands = record { location = before.stands.location; dirty = before.stands.dirty; route = before.stands.route };
          inside = λ i m. before.inside i (contains_more q left i m);
        }),
      );
    };
  }

  abbrev Unknown : List ℕ → Seal → BlockView → Type 0
  Unknown left seal v = Unit {0}

  lost : (y : AbstractActor) (busy : Bool) (histories : ℕ → ℕ → History) → y.held ≡ Owns b → (landed : Bool) (q : ℕ) (left : List ℕ) (t : Shared) (e : Volume) → q < size → OnOrigin Unknown histories (q ∷ left) t e →
      Leads size a y busy (λ f. OnOrigin Unknown histories left (if_landed landed (put_sector t None b q x) t) f) e (landed_or landed (Write_origin b q x) b q x)
  lost y busy histories own true q left t e l h = record { run = (h.knows.0.0, tt); mine = ((own, l), tt); ends = record { agrees = based_write_agrees t e b q x h.agrees; booked = h.booked; knows = (h.knows.0, tt) } }
  lost y busy histories own false q left t e l h = record { run = (h.knows.0.0, tt); mine = ((own, l), tt); ends = record { agrees = lose_agrees t e b q x h.agrees; booked = h.booked; knows = (h.knows.0, tt) } }

  -- on the cache: those that are left are half written, and no other one where each has landed
  record Caching (whole : Bool) (left : List ℕ) (seal : Seal) (v : BlockView) : Type 0 where
    half : (i : ℕ) → Contains left i → Halved x v i
    others : whole ≡ true → (i : ℕ) → ¬ Contains left i → Settled v i
    stands : Mapped_at k seal v
    distinct : AreDistinct left

  abbrev OnCache : Bool → (ℕ → ℕ → History) → List ℕ → Shared → Volume → Type 0
  OnCache whole histories = Sweep (λ left h. h) histories (λ left t e. Life Writethrough e × Caching whole left (t.seals b) (block_view e b))

  -- a sector reaches the cache, wherever its block is
  cached_one : (whole : Bool) (q : ℕ) (left : List ℕ) (t : Shared) (e : Volume) (p : Option ℕ) → p ≡ Some k → Agrees t e → Life Writethrough e → Caching whole (q ∷ left) (t.seals b) (block_view e b) →
      Agrees (put_sector t (Some k) b q x) (written_through e p b q) × ((written_through e p b q).standing b q ≡ Whole) × ((written_through e p b q).histories ≡ e.histories) × Life Writethrough (written_through e p b q) × Caching false left (t.seals b) (block_view (written_through e p b q) b)
      × (whole ≡ true → Caching true left (t.seals b) (block_view (after_act (written_through e p b q) (Finish b q)) b))
  cached_one whole q left t e None is g l h = absurd (cc)
  cached_one whole q left t e (Some j) is g l h =
      let same : k ≡ j = cc in
      let still : (i : ℕ) → Contains left i → Halved x (block_view (written_through e (Some j) b q) b) i = λ i m.
      let n : i ≢ q = (λ s. h.distinct.0 (subst (λ (v : ℕ). Contains left v) s m)) in let old = h.half i (contains_more q left i m) in (elsewhere_is e.standing b q b i Whole (inr n) ∙ old.0, old.1)
      in (
        subst (λ (i : ℕ). Agrees (put_sector t (Some k) b q x) (written_through e (Some i) b q)) same (through_agrees t e k b q x (sym (h.half q (zero, omega arith, refl)).1) g),
        here_is e.standing b q Whole,
        refl,
        l,
        record { half = still; others = λ f. absurd (cc); stands = record { location = h.stands.location; dirty = h.stands.dirty; route = h.stands.route }; distinct = h.distinct.1 },
        λ f. record {
          half = still;
          others = λ y i m. elim (cases_eq i q) [
            | inl s ↦ (ap (changed_at e.standing b q Whole b) s ∙ here_is e.standing b q Whole, ap (changed_at e.finished b q (length (e.histories b q).later) b) s ∙ here_is e.finished b q (length (e.histories b q).later) ∙ ap (λ v. length (e.histories b v).later) (sym s))
            | inr n ↦ let old = h.others f i (λ p. elim (contains_cases q left i p) [ inl s ↦ n (sym s) | inr p ↦ m p ]) in
                (elsewhere_is e.standing b q b i Whole (inr n) ∙ old.0, elsewhere_is e.finished b q b i (length (e.histories b q).later) (inr n) ∙ old.1)
          ];
          stands = record { location = h.stands.location; dirty = h.stands.dirty; route = h.stands.route };
          distinct = h.distinct.1;
        },
      )

  cached : (y : AbstractActor) (busy : Bool) (histories : ℕ → ℕ → History) → y.held ≡ Owns b → (q : ℕ) (left : List ℕ) (t : Shared) (e : Volume) → q < size → OnCache true histories (q ∷ left) t e →
      Leads size a y busy (λ f. OnCache true histories left (put_sector t (Some k) b q x) f) e (Write_cache b q ∷ Finish b q ∷ [])
  cached y busy histories own q left t e l h = let went = cached_one true q left t e (e.mapping b) (sym h.knows.1.stands.route) h.agrees h.knows.0 h.knows.1 in record {
    run = ((h.knows.0.0, (h.knows.1.half q (zero, omega arith, refl)).0), (went.1, tt));
    mine = ((own, l), (own, tt));
    ends = record { agrees = finish_agrees _ _ b q went.0; booked = went.2 ∙ h.booked; knows = ((went.3.0, went.3.1), went.5 refl) };
  }

  some_cached : (y : AbstractActor) (busy : Bool) (histories : ℕ → ℕ → History) → y.held ≡ Owns b → (landed : Bool) (q : ℕ) (left : List ℕ) (t : Shared) (e : Volume) → q < size → OnCache false histories (q ∷ left) t e →
      Leads size a y busy (λ f. OnCache false histories left (if_landed landed (put_sector t (Some k) b q x) t) f) e (if_so landed (Write_cache b q ∷ []))
  some_cached y busy histories own true q left t e l h = let went = cached_one false q left t e (e.mapping b) (sym h.knows.1.stands.route) h.agrees h.knows.0 h.knows.1 in record {
    run = ((h.knows.0.0, (h.knows.1.half q (zero, omega arith, refl)).0), tt);
    mine = ((own, l), tt);
    ends = record { agrees = went.0; booked = went.2 ∙ h.booked; knows = (went.3, went.4) };
  }
  some_cached y busy histories own false q left t e l h = let old = h.knows.1 in record { run = tt; mine = tt; ends = record { agrees = h.agrees; booked = h.booked; knows = (h.knows.0, record { half = λ i m. old.half i (contains_more q left i m); others = λ f. absurd (cc); stands = old.stands; distinct = old.distinct.1 }) } }

  abbrev first_left : List (List ℕ) → List Want
  first_left extents = write_through_each (Some k) b extents (Disown b ∷ [])

  abbrev second_left : List ℕ → List (List ℕ) → List Want
  second_left os extents = Write_all (Some k) b os ∷ first_left extents

  stands_at : (t : Shared) (e : Volume) → Agrees t e → Some k ≡ e.mapping b → t.mapping b ≡ Some k
  stands_at t e g r = ap (λ f. f b) g.mapping ∙ sym r

  abbrev its : List Want → AbstractActor
  its steps = at_work (Writing_through b all x) steps Finished (Owns b) None false c

  first : (n : ℕ) (os : List ℕ) (extents : List (List ℕ)) (s : Shared) (d : Volume) → Within size os → Life Writethrough d → Halfway k [] x (s.seals b) (block_view d b) →
      ((t : Shared) (e : Volume) → Life Writethrough e → Halfway k os x (t.seals b) (block_view e b) → Safe n size a (its (second_left os extents)) t e) → Safe (suc n) size a (its (first_left (os ∷ extents))) s d
  first n os extents s d w l h next = λ t e got o g v r.
      let y : AbstractActor = its (first_left (os ∷ extents)) in
      let life : Life Writethrough e = life_on a y s t d e Writethrough o l in
      let now : Halfway k [] x (t.seals b) (block_view e b) = held_on (λ w v. Halfway k [] x w v) a b y s t d e o refl h in
      let at = stands_at t e g.agrees now.stands.route in
      gives_fault (λ w. Comes n size a (Writing_through b all x) (first_left (os ∷ extents)) Finished (Owns b) None false c t e w)
      (sweeps size a (λ y u f. Safe n size a y u f) _ _ (Write_all None b os) Done t _ e _ _ _ _ _ (ap (λ p. origin_acts p b os x Done) at)
      (sweep size a y t.committing (λ o. true) None b (λ o. x) (λ q. Write_origin b q x ∷ []) (OnOrigin (Basing os) (added_each e.histories b os x)) (based y t.committing (added_each e.histories b os x) os refl) os t e w
      (record { agrees = g.agrees; booked = refl; knows = (life, record { touched = λ i m. inl m; whole = λ i m. now.whole i (λ z. absurd (let bad = z.1 in omega (arith, bad))); stands = now.stands; inside = λ i m. m }) }))
      refl (λ f. tt) (λ f q. record { reads = tt; histories = q; flushes = tt }) (λ f q. next _ f q.0 (record { half = λ i m. elim (q.1.touched i m) [ inl z ↦ absurd (let bad = z.1 in omega (arith, bad)) | inr z ↦ z ]; whole = q.1.whole; stands = q.1.stands })))
      (λ lands. sweeps size a (λ y u f. Safe n size a y u f) _ _ (Write_all None b os) (Fault lands) t _ e _ _ _ _ _ (ap (λ p. origin_acts p b os x (Fault lands)) at)
      (sweep size a y t.committing (lands b) None b (λ o. x) (λ q. landed_or (lands b q) (Write_origin b q x) b q x) (OnOrigin Unknown (added_each e.histories b os x)) (λ q. lost y t.committing (added_each e.histories b os x) refl (lands b q) q) os t e w (record { agrees = g.agrees; booked = refl; knows = (life, tt) }))
      refl (λ f. tt) (λ f q. record { reads = tt; histories = q; flushes = tt }) (λ f q. failing n size a (Writing_through b all x) tt (Owns b) None c _ f))
      got v

  second : (n : ℕ) (os : List ℕ) (extents : List (List ℕ)) (s : Shared) (d : Volume) → Within size os → AreDistinct os → Life Writethrough d → Halfway k os x (s.seals b) (block_view d b) →
      ((t : Shared) (e : Volume) → Life Writethrough e → Halfway k [] x (t.seals b) (block_view e b) → Safe n size a (its (first_left extents)) t e) → Safe (suc n) size a (its (second_left os extents)) s d
  second n os extents s d w apart l h next = λ t e got o g v r.
      let y : AbstractActor = its (second_left os extents) in
      let life : Life Writethrough e = life_on a y s t d e Writethrough o l in
      let now : Halfway k os x (t.seals b) (block_view e b) = held_on (λ w v. Halfway k os x w v) a b y s t d e o refl h in
      let begins : (whole : Bool) → OnCache whole e.histories os t e = λ whole. record { agrees = g.agrees; booked = refl; knows = (life, record { half = now.half; others = λ f. now.whole; stands = now.stands; distinct = apart }) } in
      gives_fault (λ w. Comes n size a (Writing_through b all x) (second_left os extents) Finished (Owns b) None false c t e w)
      (sweeps size a (λ y u f. Safe n size a y u f) _ _ (Write_all (Some k) b os) Done t _ e _ _ _ _ _ refl
      (sweep size a y t.committing (λ o. true) (Some k) b (λ o. x) (λ q. Write_cache b q ∷ Finish b q ∷ []) (OnCache true e.histories) (cached y t.committing e.histories refl) os t e w (begins true))
      refl (λ f. tt) (λ f q. record { reads = tt; histories = q; flushes = tt }) (λ f q. next _ f q.0 (record { half = q.1.half; whole = q.1.others refl; stands = q.1.stands })))
      (λ lands. sweeps size a (λ y u f. Safe n size a y u f) _ _ (Write_all (Some k) b os) (Fault lands) t _ e _ _ _ _ _ refl
      (sweep size a y t.committing (lands b) (Some k) b (λ o. x) (λ q. if_so (lands b q) (Write_cache b q ∷ [])) (OnCache false e.histories) (λ q. some_cached y t.committing e.histories refl (lands b q) q) os t e w (begins false))
      refl (λ f. tt) (λ f q. record { reads = tt; histories = q; flushes = tt }) (λ f q. failing n size a (Writing_through b all x) tt (Owns b) None c _ f))
      got v

  both : (n : ℕ) (extents : List (List ℕ)) (s : Shared) (d : Volume) → AllWithin size extents → AllDistinct extents → Life Writethrough d → Halfway k [] x (s.seals b) (block_view d b) → Safe n size a (its (first_left extents)) s d
  both zero extents s d w z l h = tt
  both (suc n) [] s d w z l h = disowned (suc n) size a (Writing_through b all x) tt b Finished None c s d (all_settled k x (s.seals b) (block_view d b) h.stands (λ i. h.whole i (λ z. absurd (let bad = z.1 in omega (arith, bad)))))
  both (suc zero) (os ∷ extents) s d w z l h = first zero os extents s d w.0 l h (λ t e life j. tt)
  both (suc (suc n)) (os ∷ extents) s d w z l h = first (suc n) os extents s d w.0 l h (λ t e life j. second n os extents t e w.0 z.0 life j (λ u f now i. both n extents u f w.1 z.1 now i))

-- Where it is unmapped, on the origin alone.
worked : (n size a b : ℕ) (all : List (List ℕ)) (x : Content) (p : Option ℕ) (c : ℕ → Content) (s : Shared) (d : Volume) → AllWithin size all → AllDistinct all → Life Writethrough d → RestsAt s d b → p ≡ (s.seals b).location →
    Safe n size a (at_work (Writing_through b all x) (write_through_each p b all (Disown b ∷ [])) Finished (Owns b) None false c) s d
worked n size a b all x None c s d w z l k is = writing size a (Writing_through b all x) tt b x None Writethrough c (λ q. refl) (λ l os got e. ap (λ p. origin_acts p b os x got) e) (λ os got d e h. record { reads = tt; histories = h; flushes = tt }) n all s d w l
    (record { rests = k; writable = inl (sym (is ∙ k.location)); route = is ∙ k.location })
worked n size a b all x (Some j) c s d w z l k is = both size a b all x j c n all s d w z l (record { half = λ i m. absurd (let bad = m.1 in omega (arith, bad)); whole = λ i m. (k.whole i, k.done i); stands = record { location = k.location; dirty = k.dirty; route = is ∙ k.location } })

pub writing_through_safe : (n size a b : ℕ) (all : List (List ℕ)) (x : Content) (c : ℕ → Content) (s : Shared) (d : Volume) → AllWithin size all → AllDistinct all → d.mode ≡ Writethrough → Safe n size a (at_work (Writing_through b all x) (Look_fail ∷ Own b ∷ Look_seal b ∷ []) Finished Nothing None false c) s d
writing_through_safe n size a b all x c s d w z l = beginning size a (Writing_through b all x) tt b None c (λ t e. e.mode ≡ Writethrough) (λ y s t d e h o k. o.mode ∙ k)
    (λ n seal t e g k live rests is. worked n size a b all x seal.location c t e w z (live, k) rests (ap (λ (w : Seal). w.location) is)) n s d l
