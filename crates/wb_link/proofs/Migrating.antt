-- The copy of a migration, extent by extent, whichever way it goes.
use Rattle.std.proofs.Common.{◌≡◌, ◌≢◌, ◌<◌, ℕ, zero, suc, Bool, true, false, List, [], ◌∷◌, Option, Some, refl, sym, subst, ◌∙◌}
use Rattle.wb_disk.specs.Device.{Content, History}
use Rattle.wb_contents.specs.Volume.{Volume, Locations}
use Rattle.wb_contents.specs.Acts.{Act, volume_after as after_act}
use Rattle.wb_contents.specs.Conditions.{MayAct}
use Rattle.wb_link.specs.Tables.{Order, Job, Finished, Io, Want, Disown, Read_all, Write_all, Give_up, Got, Done, Gave, Fault, copy_each, abstract_release}
use Rattle.wb_link.specs.World.{Shared, Owns, AbstractActor, Within, AllWithin, AreAlike, newest_at, abstract_contents_for, put_sector, if_landed}
use Rattle.wb_link.proofs.Acts.{Mine}
use Rattle.wb_link.proofs.Link.{Agrees, Good, RestsAt, Others, Right, Safe, acts_of, copy_acts, if_so}
use Rattle.wb_link.proofs.Copying.{EqualBut, alike_on, equal_on, equal_more, equal_next}
use Rattle.wb_link.proofs.Sweeping.{Leads, Sweep, sweep, sweeps}
use Rattle.wb_link.proofs.Calm.{IsPlain, calmly, failing, returning}
use Rattle.wb_link.proofs.Givings.{at_work, Comes, gives_read, gives_fault}

-- a sector was written, and nothing else
pub record Wrote (size a : ℕ) (p : Order) (Knows : Shared → Volume → Type 0) (source target : Volume → ℕ → Content) (q : ℕ) (c : Content) (e : Volume) (u : Shared) (act : Act) : Type 0 where
  pub run : MayAct e act
  pub mine : (x : AbstractActor) (busy : Bool) → x.held ≡ Owns p.block → x.order ≡ Some p → Mine size a x busy act
  pub agrees : Agrees u (after_act e act)
  pub histories : (after_act e act).histories ≡ e.histories
  pub knows : Knows u (after_act e act)
  pub here : target (after_act e act) q ≡ c
  pub elsewhere : (i : ℕ) → i ≢ q → target (after_act e act) i ≡ target e i
  pub same : (i : ℕ) → source (after_act e act) i ≡ source e i

-- What holds of a task that copies by this order, whichever way: it is of one block, nothing is promised of its steps, it writes what it read, and gives up the order with its block.
pub record IsCopier (a : ℕ) (job : Job) (p : Order) : Type 0 where
  pub plain : IsPlain job
  pub right : (w : Want) (got : Got) (d e : Volume) → e.histories ≡ d.histories → Right a job w got d e
  pub given : (c : ℕ → Content) (q : ℕ) → abstract_contents_for job c q ≡ c q
  pub releases : abstract_release job ≡ Disown p.block ∷ Give_up p ∷ []

-- What a copy asks of its task: what it knows of its block meanwhile, that others leave it so, and what its writes do.
pub record Way (size a : ℕ) (job : Job) (p : Order) (from to : Option ℕ) (act : (ℕ → Content) → ℕ → Act) (Knows : Shared → Volume → Type 0) (source target : Volume → ℕ → Content) : Type 0 where
  pub copier : IsCopier a job p
  open copier use *
  pub reads : (locations : Locations) (c : ℕ → Content) (os : List ℕ) (got : Got) → acts_of locations a job c (Read_all from p.block os) got ≡ []
  pub writes : (locations : Locations) (c : ℕ → Content) (os : List ℕ) (got : Got) → acts_of locations a job c (Write_all to p.block os) got ≡ copy_acts (act c) p.block os got
  pub rests : (s : Shared) (d : Volume) → Knows s d → RestsAt s d p.block
  pub on : (x : AbstractActor) (s t : Shared) (d e : Volume) → x.held ≡ Owns p.block → x.order ≡ Some p → Good size t e → Others a x s d t e → Knows s d → Knows t e × ((i : ℕ) → (target e i ≡ target d i) × (source e i ≡ source d i))
  pub latest : (t : Shared) (e : Volume) (q : ℕ) → Agrees t e → newest_at t from p.block q ≡ source e q
  pub wrote : (t : Shared) (e : Volume) (q : ℕ) (c : ℕ → Content) → Agrees t e → Knows t e → q < size → c q ≡ source e q → Wrote size a p Knows source target q (c q) e (put_sector t to p.block q (c q)) (act c q)

-- how far it has come
abbrev pub Came : ℕ → (Shared → Volume → Type 0) → (source target : Volume → ℕ → Content) → List (List ℕ) → Shared → Volume → Type 0
Came size Knows source target left s d = Knows s d × EqualBut size left (target d) (source d)

pub came_on : {size a : ℕ} {job : Job} {p : Order} {from to : Option ℕ} {act : (ℕ → Content) → ℕ → Act} {Knows : Shared → Volume → Type 0} {source target : Volume → ℕ → Content} (way : Way size a job p from to act Knows source target) (left : List (List ℕ)) (x : AbstractActor) (s t : Shared) (d e : Volume) →
    x.held ≡ Owns p.block → x.order ≡ Some p → Good size t e → Others a x s d t e → Came size Knows source target left s d → Came size Knows source target left t e
came_on {size} way left x s t d e own under g o k = let on = way.on x s t d e own under g o k.0 in (on.0, equal_on size left _ _ _ _ (λ i. (on.1 i).0) (λ i. (on.1 i).1) k.1)

module _ {size a : ℕ} {job : Job} {p : Order} {from to : Option ℕ} {act : (ℕ → Content) → ℕ → Act} {Knows : Shared → Volume → Type 0} {source target : Volume → ℕ → Content} (way : Way size a job p from to act Knows source target)
    (last : List Want)
    (end : (n : ℕ) (c : ℕ → Content) (s : Shared) (d : Volume) → Came size Knows source target [] s d → Safe n size a (at_work job last Finished (Owns p.block) (Some p) false c) s d) where
  abbrev left_of : List Want → (ℕ → Content) → AbstractActor
  left_of steps c = at_work job steps Finished (Owns p.block) (Some p) false c

  abbrev writing : List ℕ → List (List ℕ) → List Want
  writing os rest = Write_all to p.block os ∷ copy_each from to p.block rest last

  -- before each sector of an extent; once one has failed, how far it has come counts no more
  abbrev Copies : Bool → (ℕ → Content) → List (List ℕ) → (ℕ → ℕ → History) → List ℕ → Shared → Volume → Type 0
  Copies whole c rest histories = Sweep (λ left h. h) histories (λ left t e. Knows t e × AreAlike left c (source e) × (whole ≡ true → EqualBut size (left ∷ rest) (target e) (source e)))

  one : (x : AbstractActor) (busy whole landed : Bool) (c : ℕ → Content) (rest : List (List ℕ)) (histories : ℕ → ℕ → History) → x.held ≡ Owns p.block → x.order ≡ Some p → (whole ≡ true → landed ≡ true) →
      (q : ℕ) (left : List ℕ) (t : Shared) (e : Volume) → q < size → Copies whole c rest histories (q ∷ left) t e → Leads size a x busy (λ f. Copies whole c rest histories left (if_landed landed (put_sector t to p.block q (abstract_contents_for job c q)) t) f) e (if_so landed (act c q ∷ []))
  one x busy whole true c rest histories own under all q left t e l k = let done = way.wrote t e q c k.agrees k.knows.0 l k.knows.1.0 in
      subst (λ (v : Content). Leads size a x busy (λ f. Copies whole c rest histories left (put_sector t to p.block q v) f) e (act c q ∷ [])) (sym (way.given c q)) (record {
        run = (done.run, tt);
        mine = (done.mine x busy own under, tt);
        ends = record {
          agrees = done.agrees;
          booked = done.histories ∙ k.booked;
          knows = (done.knows, alike_on left c (source e) _ done.same k.knows.1.1, λ y. equal_more size q left rest (target e) (source e) _ _ (done.here ∙ k.knows.1.0 ∙ sym (done.same q)) done.elsewhere done.same (k.knows.2 y));
        };
      })
  one x busy whole false c rest histories own under all q left t e l k = record { run = tt; mine = tt; ends = record { agrees = k.agrees; booked = k.booked; knows = (k.knows.0, k.knows.1.1, λ y. let bad = all y in absurd (cc)) } }

  write : (n : ℕ) (os : List ℕ) (rest : List (List ℕ)) (c : ℕ → Content) (s : Shared) (d : Volume) → Within size os → AreAlike os c (source d) → Came size Knows source target (os ∷ rest) s d →
      ((t : Shared) (e : Volume) → Came size Knows source target rest t e → Safe n size a (left_of (copy_each from to p.block rest last) c) t e) → Safe (suc n) size a (left_of (writing os rest) c) s d
  write n os rest c s d w is k next = λ t e got o g v r.
      let x : AbstractActor = left_of (writing os rest) c in
      let on = way.on x s t d e refl refl g o k.0 in
      let now = came_on way (os ∷ rest) x s t d e refl refl g o k in
      let begins : (whole : Bool) → Copies whole c rest e.histories os t e = λ whole. record { agrees = g.agrees; booked = refl; knows = (now.0, alike_on os c (source d) (source e) (λ i. (on.1 i).1) is, λ y. now.1) } in
      gives_fault (λ w. Comes n size a job (writing os rest) Finished (Owns p.block) (Some p) false c t e w)
      (sweeps size a (λ y u f. Safe n size a y u f) _ _ (Write_all to p.block os) Done t _ e _ _ _ _ _ (way.writes t.mapping c os Done)
      (sweep size a x t.committing (λ o. true) to p.block (abstract_contents_for job c) (λ q. act c q ∷ []) (Copies true c rest e.histories) (one x t.committing true true c rest e.histories refl refl (λ y. refl)) os t e w (begins true))
      refl (λ f. tt) (λ f h. way.right (Write_all to p.block os) Done e f h) (λ f h. next _ f (h.0, equal_next size rest _ _ (h.2 refl))))
      (λ lands. sweeps size a (λ y u f. Safe n size a y u f) _ _ (Write_all to p.block os) (Fault lands) t _ e _ _ _ _ _ (way.writes t.mapping c os (Fault lands))
      (sweep size a x t.committing (lands p.block) to p.block (abstract_contents_for job c) (λ q. if_so (lands p.block q) (act c q ∷ [])) (Copies false c rest e.histories) (λ q. one x t.committing false (lands p.block q) c rest e.histories refl refl (λ y. absurd (cc)) q) os t e w (begins false))
      refl (λ f. tt) (λ f h. way.right (Write_all to p.block os) (Fault lands) e f h) (λ f h. failing n size a job way.plain (Owns p.block) (Some p) c _ f))
      got v

  read : (n : ℕ) (os : List ℕ) (rest : List (List ℕ)) (c : ℕ → Content) (s : Shared) (d : Volume) → Came size Knows source target (os ∷ rest) s d →
      ((x : ℕ → Content) (t : Shared) (e : Volume) → AreAlike os x (source e) → Came size Knows source target (os ∷ rest) t e → Safe n size a (left_of (writing os rest) x) t e) → Safe (suc n) size a (left_of (copy_each from to p.block (os ∷ rest) last) c) s d
  read n os rest c s d k next = λ t e got o g v r.
      let steps = copy_each from to p.block (os ∷ rest) last in
      let now = came_on way (os ∷ rest) (left_of steps c) s t d e refl refl g o k in
      gives_read t from p.block os (λ w. Comes n size a job steps Finished (Owns p.block) (Some p) false c t e w)
      (λ x is. calmly size a (λ y u f. Safe n size a y u f) _ _ (Read_all from p.block os) (Gave x) t t e _ (way.reads t.mapping c os (Gave x)) g.agrees tt tt (way.right (Read_all from p.block os) (Gave x) e e refl)
      (next x t e (alike_on os x (newest_at t from p.block) (source e) (λ q. sym (way.latest t e q g.agrees)) is) now))
      (λ lands. calmly size a (λ y u f. Safe n size a y u f) _ _ (Read_all from p.block os) (Fault lands) t t e _ (way.reads t.mapping c os (Fault lands)) g.agrees tt tt (way.right (Read_all from p.block os) (Fault lands) e e refl)
      (subst (λ (ws : List Want). Safe n size a (at_work job ws Io (Owns p.block) (Some p) false c) t e) (sym way.releases) (returning n size a job way.plain p Io c t e (way.rests t e now.0))))
      got v

  pub copying : (n : ℕ) (extents : List (List ℕ)) (c : ℕ → Content) (s : Shared) (d : Volume) → AllWithin size extents → Came size Knows source target extents s d → Safe n size a (left_of (copy_each from to p.block extents last) c) s d
  copying zero extents c s d w k = tt
  copying (suc n) [] c s d w k = end (suc n) c s d k
  copying (suc zero) (os ∷ rest) c s d w k = read zero os rest c s d k (λ x t e is h. tt)
  copying (suc (suc n)) (os ∷ rest) c s d w k = read (suc n) os rest c s d k (λ x t e is h. write n os rest x t e w.0 is h (λ u f j. copying n rest x u f w.1 j))
