-- What is left of a write is safe, from its start on.
use Rattle.std.proofs.Common.{◌≡◌, ◌≢◌, ◌<◌, ◌⊎◌, inl, inr, ℕ, zero, suc, Bool, true, false, cond, List, [], ◌∷◌, Option, Some, None, refl, sym, ap, subst, ◌∙◌, length}
use Rattle.wb_disk.specs.Device.{Content, History, added}
use Rattle.wb_contents.specs.Volume.{Volume, Standing, Whole, Locations, changed, changed_at}
use Rattle.wb_types.specs.declared.mode.Mode.{Mode}
use Rattle.wb_types.specs.declared.mode.Mode.TheVariants.{Writeback, Passthrough}
use Rattle.wb_contents.specs.Acts.{sector_written, volume_after as after_act, Write, Finish}
use Rattle.std.proofs.lemmas.Bool.{cases_eq}
use Rattle.wb_contents.proofs.Positions.{changed_same}
use Rattle.wb_contents.proofs.Sectors.{here_is, elsewhere_is}
use Rattle.wb_link.specs.Tables.{Job, Writing, Finished, Look_fail, Own, Look_seal, Set_seal, Disown, Write_all, Got, Done, Fault, Seal, write_work, write_each}
use Rattle.wb_link.specs.World.{Shared, Nothing, Owns, AbstractActor, AllWithin, abstract_contents_for, put_sector, if_landed}
use Rattle.wb_link.specs.Clerk.{added_each}
use Rattle.wb_link.proofs.Views.{BlockView, block_view}
use Rattle.wb_link.proofs.Effects.{put_sector_desk}
use Rattle.wb_link.proofs.Link.{Agrees, Rests, RestsAt, Right, Safe, acts_of, landed_or, write_acts}
use Rattle.wb_link.proofs.Sweeping.{Leads, Sweep, sweep, sweeps}
use Rattle.wb_link.proofs.Agreeing.{write_agrees, finish_agrees, lose_agrees, seal_agrees}
use Rattle.wb_link.proofs.Calm.{IsPlain, held_on, failing, disowned, beginning}
use Rattle.wb_link.proofs.Givings.{at_work, Comes, Life, life_on, gives_done, gives_fault}
use Rattle.wb_link.proofs.Moved.{dropped}

-- what a write knows of the block that it owns: it rests, and what is unmapped or dirty may be written
abbrev Writable : BlockView → Type 0
Writable v = (v.location ≡ None) ⊎ (v.dirty ≡ true)

pub record Owning (to : Option ℕ) (seal : Seal) (v : BlockView) : Type 0 where
  pub rests : Rests seal v
  pub writable : Writable v
  pub route : to ≡ v.location

-- the mode in which such a write is made
abbrev pub mode_of : Bool → Mode
mode_of past = cond past Passthrough Writeback

-- A sector is written.

pub written_whole : (e : Volume) (p : Option ℕ) (b o : ℕ) (x : Content) → (sector_written e p b o x).standing b o ≡ Whole
written_whole e None b o x = here_is e.standing b o Whole
written_whole e (Some j) b o x = here_is e.standing b o Whole

pub written_books : (e : Volume) (p : Option ℕ) (b o : ℕ) (x : Content) → (sector_written e p b o x).histories ≡ changed_at e.histories b o (added (e.histories b o) x)
written_books e None b o x = refl
written_books e (Some j) b o x = refl

-- a sector is whole, and the others were
pub whole_still : (f : ℕ → ℕ → Standing) (b o : ℕ) → ((i : ℕ) → i ≢ o → f b i ≡ Whole) → (i : ℕ) → changed_at f b o Whole b i ≡ Whole
whole_still f b o k i = elim (cases_eq i o) [
  | inl e ↦ ap (changed_at f b o Whole b) e ∙ here_is f b o Whole
  | inr n ↦ elsewhere_is f b o b i Whole (inr n) ∙ k i n
]

-- the last write of a sector is finished, and those of the others were
pub finished_all : (f : ℕ → ℕ → ℕ) (histories g : ℕ → ℕ → History) (b o : ℕ) → ((i : ℕ) → i ≢ o → g b i ≡ histories b i) → ((i : ℕ) → i ≢ o → f b i ≡ length (histories b i).later) → (i : ℕ) → changed_at f b o (length (g b o).later) b i ≡ length (g b i).later
finished_all f histories g b o same k i = elim (cases_eq i o) [
  | inl e ↦ ap (changed_at f b o (length (g b o).later) b) e ∙ here_is f b o (length (g b o).later) ∙ ap (λ v. length (g b v).later) (sym e)
  | inr n ↦ elsewhere_is f b o b i (length (g b o).later) (inr n) ∙ k i n ∙ ap (λ (h : History). length h.later) (sym (same i n))
]

pub book_elsewhere : (histories : ℕ → ℕ → History) (b o : ℕ) (h : History) (i : ℕ) → i ≢ o → changed_at histories b o h b i ≡ histories b i
book_elsewhere histories b o h i n = elsewhere_is histories b o b i h (inr n)

pub written_rests : (seal : Seal) (e : Volume) (p : Option ℕ) (b o : ℕ) (x : Content) → Rests seal (block_view e b) → Rests seal (block_view (after_act (sector_written e p b o x) (Finish b o)) b)
written_rests seal e None b o x k = record { whole = whole_still e.standing b o (λ i n. k.whole i); location = k.location; dirty = k.dirty; done = finished_all e.finished e.histories (changed_at e.histories b o (added (e.histories b o) x)) b o (book_elsewhere e.histories b o (added (e.histories b o) x)) (λ i n. k.done i) }
written_rests seal e (Some j) b o x k = record { whole = whole_still e.standing b o (λ i n. k.whole i); location = k.location; dirty = k.dirty; done = finished_all e.finished e.histories (changed_at e.histories b o (added (e.histories b o) x)) b o (book_elsewhere e.histories b o (added (e.histories b o) x)) (λ i n. k.done i) }

written_owning : (to : Option ℕ) (seal : Seal) (e : Volume) (p : Option ℕ) (b o : ℕ) (x : Content) → Owning to seal (block_view e b) → Owning to seal (block_view (after_act (sector_written e p b o x) (Finish b o)) b)
written_owning to seal e None b o x k = record { rests = written_rests seal e None b o x k.rests; writable = k.writable; route = k.route }
written_owning to seal e (Some j) b o x k = record { rests = written_rests seal e (Some j) b o x k.rests; writable = k.writable; route = k.route }

pub written_life : (m : Mode) (e : Volume) (p : Option ℕ) (b o : ℕ) (x : Content) → Life m e → Life m (sector_written e p b o x)
written_life m e None b o x l = l
written_life m e (Some j) b o x l = l

-- after a fault it may be written still
abbrev Reaches : Option ℕ → BlockView → Type 0
Reaches to v = Writable v × (to ≡ v.location)

reaches_written : (to : Option ℕ) (e : Volume) (p : Option ℕ) (b o : ℕ) (x : Content) → Reaches to (block_view e b) → Reaches to (block_view (sector_written e p b o x) b)
reaches_written to e None b o x k = k
reaches_written to e (Some j) b o x k = k

-- Extent by extent, by any job whose writes are these acts.
module _ (size a : ℕ) (job : Job) (plain : IsPlain job) (b : ℕ) (x : Content) (to : Option ℕ) (m : Mode) (c : ℕ → Content) (given : (q : ℕ) → abstract_contents_for job c q ≡ x)
    (acts : (l : Locations) (os : List ℕ) (got : Got) → l b ≡ to → acts_of l a job c (Write_all to b os) got ≡ write_acts x (Write_all to b os) got)
    (right : (os : List ℕ) (got : Got) (d e : Volume) → e.histories ≡ added_each d.histories b os x → Right a job (Write_all to b os) got d e) where
  -- before each sector
  abbrev Still : (Seal → BlockView → Type 0) → (ℕ → ℕ → History) → List ℕ → Shared → Volume → Type 0
  Still Knows histories = Sweep (λ left h. added_each h b left x) histories (λ left t e. Life m e × Knows (t.seals b) (block_view e b))

  put_agrees : (t : Shared) (e : Volume) (q : ℕ) → to ≡ e.mapping b → Agrees t e → Agrees (put_sector t to b q (abstract_contents_for job c q)) (sector_written e (e.mapping b) b q x)
  put_agrees t e q route g = subst (λ (v : Content). Agrees (put_sector t to b q v) (sector_written e (e.mapping b) b q x)) (sym (given q)) (write_agrees t e to b q x route g)

  put_seal : (Knows : Seal → Type 0) (t : Shared) (q : ℕ) → Knows (t.seals b) → Knows ((put_sector t to b q (abstract_contents_for job c q)).seals b)
  put_seal Knows t q k = subst (λ (f : ℕ → Seal). Knows (f b)) (sym (put_sector_desk t to b q (abstract_contents_for job c q)).seals) k

  one : (y : AbstractActor) (busy : Bool) (histories : ℕ → ℕ → History) → y.held ≡ Owns b → (q : ℕ) (left : List ℕ) (t : Shared) (e : Volume) → q < size → Still (Owning to) histories (q ∷ left) t e →
      Leads size a y busy (λ f. Still (Owning to) histories left (put_sector t to b q (abstract_contents_for job c q)) f) e (Write b q x ∷ Finish b q ∷ [])
  one y busy histories own q left t e l k = record {
    run = ((k.knows.0.0, k.knows.1.writable), (written_whole e (e.mapping b) b q x, tt));
    mine = ((own, l), (own, tt));
    ends = record {
      agrees = finish_agrees _ _ b q (put_agrees t e q k.knows.1.route k.agrees);
      booked = ap (λ h. added_each h b left x) (written_books e (e.mapping b) b q x) ∙ k.booked;
      knows = (written_life m e (e.mapping b) b q x k.knows.0, put_seal (λ w. Owning to w (block_view (after_act (sector_written e (e.mapping b) b q x) (Finish b q)) b)) t q (written_owning to (t.seals b) e (e.mapping b) b q x k.knows.1));
    };
  }

  lost : (y : AbstractActor) (busy : Bool) (histories : ℕ → ℕ → History) → y.held ≡ Owns b → (landed : Bool) (q : ℕ) (left : List ℕ) (t : Shared) (e : Volume) → q < size → Still (λ w v. Reaches to v) histories (q ∷ left) t e →
      Leads size a y busy (λ f. Still (λ w v. Reaches to v) histories left (if_landed landed (put_sector t to b q (abstract_contents_for job c q)) t) f) e (landed_or landed (Write b q x) b q x)
  lost y busy histories own true q left t e l k = record {
    run = ((k.knows.0.0, k.knows.1.0), tt);
    mine = ((own, l), tt);
    ends = record { agrees = put_agrees t e q k.knows.1.1 k.agrees; booked = ap (λ h. added_each h b left x) (written_books e (e.mapping b) b q x) ∙ k.booked; knows = (written_life m e (e.mapping b) b q x k.knows.0, reaches_written to e (e.mapping b) b q x k.knows.1) };
  }
  lost y busy histories own false q left t e l k = record { run = (k.knows.0.0, tt); mine = ((own, l), tt); ends = record { agrees = lose_agrees t e b q x k.agrees; booked = k.booked; knows = k.knows } }

  pub writing : (n : ℕ) (extents : List (List ℕ)) (s : Shared) (d : Volume) → AllWithin size extents → Life m d → Owning to (s.seals b) (block_view d b) → Safe n size a (at_work job (write_each to b extents (Disown b ∷ [])) Finished (Owns b) None false c) s d
  writing zero extents s d w l k = tt
  writing (suc n) [] s d w l k = disowned (suc n) size a job plain b Finished None c s d k.rests
  writing (suc n) (os ∷ extents) s d w l k = λ t e got o g v r.
      let y : AbstractActor = at_work job (write_each to b (os ∷ extents) (Disown b ∷ [])) Finished (Owns b) None false c in
      let life : Life m e = life_on a y s t d e m o l in
      let now : Owning to (t.seals b) (block_view e b) = held_on (λ w v. Owning to w v) a b y s t d e o refl k in
      let at : t.mapping b ≡ to = ap (λ f. f b) g.agrees.mapping ∙ sym now.route in
      gives_fault (λ w. Comes n size a job (write_each to b (os ∷ extents) (Disown b ∷ [])) Finished (Owns b) None false c t e w)
      (sweeps size a (λ y u f. Safe n size a y u f) _ _ (Write_all to b os) Done t _ e _ _ _ _ _ (acts t.mapping os Done at)
      (sweep size a y t.committing (λ o. true) to b (abstract_contents_for job c) (λ q. Write b q x ∷ Finish b q ∷ []) (Still (Owning to) (added_each e.histories b os x)) (one y t.committing (added_each e.histories b os x) refl) os t e w.0 (record { agrees = g.agrees; booked = refl; knows = (life, now) }))
      refl (λ f. tt) (λ f. right os Done e f) (λ f h. writing n extents _ f w.1 h.0 h.1))
      (λ lands. sweeps size a (λ y u f. Safe n size a y u f) _ _ (Write_all to b os) (Fault lands) t _ e _ _ _ _ _ (acts t.mapping os (Fault lands) at)
      (sweep size a y t.committing (lands b) to b (abstract_contents_for job c) (λ q. landed_or (lands b q) (Write b q x) b q x) (Still (λ w v. Reaches to v) (added_each e.histories b os x)) (λ q. lost y t.committing (added_each e.histories b os x) refl (lands b q) q) os t e w.0 (record { agrees = g.agrees; booked = refl; knows = (life, (now.writable, now.route)) }))
      refl (λ f. tt) (λ f. right os (Fault lands) e f) (λ f h. failing n size a job plain (Owns b) None c _ f))
      got v

-- The seal, and what comes of it.

-- a write of this job: its acts, and what the clerk enters
module _ (size a : ℕ) (past : Bool) (b : ℕ) (all : List (List ℕ)) (x : Content) (to : Option ℕ) (c : ℕ → Content) where
  pub of_this : (n : ℕ) (s : Shared) (d : Volume) → AllWithin size all → Life (mode_of past) d → Owning to (s.seals b) (block_view d b) → Safe n size a (at_work (Writing past b all x) (write_each to b all (Disown b ∷ [])) Finished (Owns b) None false c) s d
  of_this n s d w l k = writing size a (Writing past b all x) tt b x to (mode_of past) c (λ q. refl) (λ l os got e. refl) (λ os got d e h. record { reads = tt; histories = h; flushes = tt }) n all s d w l k

-- a clean location is sealed dirty first
made_dirty : (n size a b : ℕ) (all : List (List ℕ)) (x : Content) (j : ℕ) (c : ℕ → Content) (s : Shared) (d : Volume) → AllWithin size all → Life Writeback d → RestsAt s d b → d.mapping b ≡ Some j →
    Safe n size a (at_work (Writing false b all x) (Set_seal b (record { location = Some j; dirty = true }) ∷ write_each (Some j) b all (Disown b ∷ [])) Finished (Owns b) None false c) s d
made_dirty zero size a b all x j c s d w l k p = tt
made_dirty (suc n) size a b all x j c s d w l k p = λ t e got o g v r.
    let steps = Set_seal b (record { location = Some j; dirty = true }) ∷ write_each (Some j) b all (Disown b ∷ []) in
    let life : Life Writeback e = (o.live ∙ l.0, o.mode ∙ l.1) in
    let same : block_view e b ≡ block_view d b = o.block b refl in
    let there : e.mapping b ≡ Some j = ap (λ (w : BlockView). w.location) same ∙ p in
    gives_done (λ w. Comes n size a (Writing false b all x) steps Finished (Owns b) None false c t e w)
    (record {
      run = (life.1, tt);
      mine = (refl, tt);
      agrees = seal_agrees t e (changed t.seals b (record { location = Some j; dirty = true })) (changed e.dirty b true) g.agrees;
      ready = refl;
      owes = tt;
      right = record { reads = tt; histories = refl; flushes = tt };
      left = of_this size a false b all x (Some j) c n _ _ w life (record {
        rests = record {
          whole = λ i. ap (λ (w : BlockView). w.standing i) same ∙ k.whole i;
          location = ap (λ (w : Seal). w.location) (changed_same t.seals b (record { location = Some j; dirty = true })) ∙ sym there;
          dirty = λ i f. ap (λ (w : Seal). w.dirty) (changed_same t.seals b (record { location = Some j; dirty = true })) ∙ sym (changed_same e.dirty b true);
          done = λ i. ap (λ (w : BlockView). w.finished i) same ∙ k.done i ∙ sym (ap (λ (w : BlockView). length (w.histories i).later) same);
        };
        writable = inr (changed_same e.dirty b true);
        route = sym there;
      });
    })
    got v

worked : (n size a : ℕ) (past : Bool) (b : ℕ) (all : List (List ℕ)) (x : Content) (p : Option ℕ) (f : Bool) (c : ℕ → Content) (s : Shared) (d : Volume) → AllWithin size all → Life (mode_of past) d → RestsAt s d b → p ≡ (s.seals b).location → f ≡ (s.seals b).dirty →
    Safe n size a (at_work (Writing past b all x) (write_work past b all (record { location = p; dirty = f })) Finished (Owns b) None false c) s d
worked n size a true b all x None f c s d w l k ep ef = of_this size a true b all x None c n s d w l (record { rests = k; writable = inl (sym (ep ∙ k.location)); route = ep ∙ k.location })
-- past the cache a mapped block is unmapped first
worked n size a true b all x (Some j) f c s d w l k ep ef = dropped size a (Writing true b all x) tt b None c (write_each None b all (Disown b ∷ [])) refl (λ l k. refl) (λ l. refl) n j s d l k (sym (ep ∙ k.location))
    (λ n t e life rests gone. of_this size a true b all x None c n t e w life (record { rests = rests; writable = inl gone; route = sym gone }))
worked n size a false b all x None f c s d w l k ep ef = of_this size a false b all x None c n s d w l (record { rests = k; writable = inl (sym (ep ∙ k.location)); route = ep ∙ k.location })
worked n size a false b all x (Some j) true c s d w l k ep ef = of_this size a false b all x (Some j) c n s d w l (record { rests = k; writable = inr (sym (ef ∙ k.dirty j (sym (ep ∙ k.location)))); route = ep ∙ k.location })
worked n size a false b all x (Some j) false c s d w l k ep ef = made_dirty n size a b all x j c s d w l k (sym (ep ∙ k.location))

pub writing_safe : (n size a : ℕ) (past : Bool) (b : ℕ) (all : List (List ℕ)) (x : Content) (c : ℕ → Content) (s : Shared) (d : Volume) → AllWithin size all → d.mode ≡ mode_of past → Safe n size a (at_work (Writing past b all x) (Look_fail ∷ Own b ∷ Look_seal b ∷ []) Finished Nothing None false c) s d
writing_safe n size a past b all x c s d w l = beginning size a (Writing past b all x) tt b None c (λ t e. e.mode ≡ mode_of past) (λ y s t d e h o k. o.mode ∙ k)
    (λ n seal t e g k live rests is. worked n size a past b all x seal.location seal.dirty c t e w (live, k) rests (ap (λ (w : Seal). w.location) is) (ap (λ (w : Seal). w.dirty) is)) n s d l
