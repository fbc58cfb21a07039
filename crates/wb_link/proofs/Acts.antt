-- Which acts of the contents machine an actor may do by what it has, and what such an act leaves to all others. Said
-- once for each act, whatever task does it.
use Rattle.std.proofs.Common.{◌≡◌, ◌≢◌, ◌≤◌, ◌<◌, ◌+◌, ◌⊎◌, [], ◌∷◌, length, length-append, inl, inr, inr, ℕ, Bool, true, false, Option, Some, None, refl, sym, ap, ◌∙◌, arith}
use Rattle.std.proofs.lemmas.Bool.{cases_eq}
use Rattle.wb_disk.specs.Device.{Content, History, newest, added}
use Rattle.wb_contents.specs.Volume.{Locations, Volume, Standing, Whole, Half, Torn, location, at_location, changed, changed_at}
use Rattle.wb_contents.specs.Acts.{Act, Write, Write_origin, Write_cache, Fail_write, Finish, Fill_cache, Copy_back, Map, Unmap, Make_dirty, Make_clean, Begin_commit, Begin_suspend, Sync_cache, Sync_origin, Fail_cache_sync, Fail_origin_sync, Write_root, End_commit, Begin_flush, End_flush, volume_after as after_act, sector_written, written_through, all_synced, partly_synced}
use Rattle.wb_contents.specs.Conditions.{MayAct, IsUnnamed}
use Rattle.wb_contents.proofs.Positions.{changed_same, changed_other}
use Rattle.wb_contents.proofs.Floors.{shorter_synced, shorter_partly, finished_bound}
use Rattle.wb_contents.proofs.Images.{rose}
use Rattle.wb_contents.proofs.Sectors.{here_is, by_sector, elsewhere_is, place_is, shorter_newest, away}
use Rattle.wb_contents.proofs.Run.{KeepsAll, ground}
use Rattle.wb_link.specs.Tables.{Order}
use Rattle.wb_link.specs.World.{Owns, AbstractActor, is_alone, drops}
use Rattle.wb_link.proofs.Views.{block_view, same_view, commit_view}

-- not in this actor's order
abbrev pub NotBlock : AbstractActor → ℕ → Type 0
NotBlock x b = (p : Order) → x.order ≡ Some p → p.block ≢ b

abbrev pub NotCache : AbstractActor → ℕ → Type 0
NotCache x k = (p : Order) → x.order ≡ Some p → p.cache ≢ k

-- The act is this actor's to do, on a sector of a block that has so many.
abbrev pub Mine : ℕ → ℕ → AbstractActor → Bool → Act → Type 0
Mine size a x busy (Write b o c) = (x.held ≡ Owns b) × (o < size)
Mine size a x busy (Write_origin b o c) = (x.held ≡ Owns b) × (o < size)
Mine size a x busy (Write_cache b o) = (x.held ≡ Owns b) × (o < size)
Mine size a x busy (Fail_write b o c) = (x.held ≡ Owns b) × (o < size)
Mine size a x busy (Finish b o) = x.held ≡ Owns b
Mine size a x busy (Fill_cache k o c) = ((p : Order) × (x.order ≡ Some p) × (p.cache ≡ k)) × (o < size)
Mine size a x busy (Copy_back b o) = (x.held ≡ Owns b) × (o < size)
Mine size a x busy (Map b k) = (x.held ≡ Owns b) × ((p : Order) × (x.order ≡ Some p) × (p.block ≡ b) × (p.cache ≡ k))
Mine size a x busy (Unmap b) = (x.held ≡ Owns b) × (((p : Order) × (x.order ≡ Some p) × (p.block ≡ b)) ⊎ (drops x.task ≡ true))
Mine size a x busy (Make_dirty b) = x.held ≡ Owns b
Mine size a x busy (Make_clean b) = x.held ≡ Owns b
Mine size a x busy Begin_commit = busy ≡ false
Mine size a x busy Begin_suspend = (busy ≡ false) × (is_alone x.task ≡ true)
Mine size a x busy Sync_cache = x.leads ≡ true
Mine size a x busy Sync_origin = x.leads ≡ true
Mine size a x busy (Fail_cache_sync choice) = x.leads ≡ true
Mine size a x busy (Fail_origin_sync choice) = x.leads ≡ true
Mine size a x busy Write_root = x.leads ≡ true
Mine size a x busy End_commit = x.leads ≡ true
Mine size a x busy (Begin_flush actor) = (actor ≡ a) × (x.task ≡ None)
Mine size a x busy (End_flush actor) = actor ≡ a
Mine size a x busy other = ⊥

-- of each sector no more than that
abbrev pub AtMost : (f g : ℕ → ℕ → ℕ) → Type 0
AtMost f g = (b o : ℕ) → f b o ≤ g b o

-- what only grows
pub record Grows (d e : Volume) : Type 0 where
  pub finished : AtMost d.finished e.finished
  pub histories : AtMost (λ b o. length (d.histories b o).later) (λ b o. length (e.histories b o).later)
  pub floor : AtMost d.floor e.floor

grows_same : (d e : Volume) → e.finished ≡ d.finished → e.histories ≡ d.histories → e.floor ≡ d.floor → Grows d e
grows_same d e f g h = record { finished = λ b o. rw f (omega arith); histories = λ b o. rw g (omega arith); floor = λ b o. rw h (omega arith) }

grows_book : (d e : Volume) (b o : ℕ) (c : Content) → e.finished ≡ d.finished → e.histories ≡ changed_at d.histories b o (added (d.histories b o) c) → e.floor ≡ d.floor → Grows d e
grows_book d e b o c f g h = record {
  finished = λ b' o'. rw f (omega arith);
  histories = by_sector (λ b' o'. length (d.histories b' o').later ≤ length (e.histories b' o').later) b o
      (rw (g, here_is d.histories b o (added (d.histories b o) c), length-append (d.histories b o).later (c ∷ [])) (omega arith))
      (λ b' o' n. rw (g, elsewhere_is d.histories b o b' o' (added (d.histories b o) c) n) (omega arith));
  floor = λ b' o'. rw h (omega arith);
}

-- where a block is that no order of this actor is for stays as it was
abbrev pub KeepsPlaces : AbstractActor → (before after : Locations) → Type 0
KeepsPlaces x before after = drops x.task ≡ false → (b : ℕ) → NotBlock x b → after b ≡ before b

-- What an actor's acts leave to the others.
pub record Keeps (a : ℕ) (x : AbstractActor) (busy : Bool) (d e : Volume) : Type 0 where
  pub block : (b : ℕ) → x.held ≢ Owns b → block_view e b ≡ block_view d b
  pub location : KeepsPlaces x d.mapping e.mapping
  pub cached : (k : ℕ) → NotCache x k → IsUnnamed d.mapping k → (o : ℕ) → newest (e.cache k o) ≡ newest (d.cache k o)
  pub unnamed : (k : ℕ) → NotCache x k → IsUnnamed d.mapping k → IsUnnamed e.mapping k
  pub commit : busy ≡ true → x.leads ≡ false → commit_view e ≡ commit_view d
  pub ticket : (b : ℕ) → b ≢ a → e.ticket b ≡ d.ticket b
  pub began : d.began ≤ e.began
  pub ended : d.ended ≤ e.ended
  pub grows : Grows d e
  pub then_finished : (b : ℕ) → (b ≢ a) ⊎ (x.task ≢ None) → e.then_finished b ≡ d.then_finished b
  pub live : is_alone x.task ≡ false → e.live ≡ d.live
  pub mode : e.mode ≡ d.mode

-- commit, flushes and mode stay as they are
still_keeps : (a : ℕ) (x : AbstractActor) (busy : Bool) (d e : Volume) → ((b : ℕ) → x.held ≢ Owns b → block_view e b ≡ block_view d b) → KeepsPlaces x d.mapping e.mapping →
    ((k : ℕ) → NotCache x k → IsUnnamed d.mapping k → (o : ℕ) → newest (e.cache k o) ≡ newest (d.cache k o)) → ((k : ℕ) → NotCache x k → IsUnnamed d.mapping k → IsUnnamed e.mapping k) →
    commit_view e ≡ commit_view d → e.ticket ≡ d.ticket → e.live ≡ d.live → e.mode ≡ d.mode → Grows d e → e.then_finished ≡ d.then_finished → Keeps a x busy d e
still_keeps a x busy d e view places cached unnamed commit ticket live mode grows finished = record {
  block = view;
  location = places;
  cached = cached;
  unnamed = unnamed;
  commit = λ y l. commit;
  ticket = λ c n. ap (λ f. f c) ticket;
  began = let p : e.began ≡ d.began = ap (λ v. v.began) commit in omega (arith, p);
  ended = let p : e.ended ≡ d.ended = ap (λ v. v.ended) commit in omega (arith, p);
  grows = grows;
  then_finished = λ c n. ap (λ f. f c) finished;
  live = λ n. live;
  mode = mode;
}

-- a flush begins or ends, or nothing does
flush_keeps : (a : ℕ) (x : AbstractActor) (busy : Bool) (d : Volume) (ticket : ℕ → ℕ) (then_finished : ℕ → ℕ → ℕ → ℕ) (floor : ℕ → ℕ → ℕ) → ((b : ℕ) → b ≢ a → ticket b ≡ d.ticket b) → ((b : ℕ) → (b ≢ a) ⊎ (x.task ≢ None) → then_finished b ≡ d.then_finished b) →
    AtMost d.floor floor → Keeps a x busy d (record d { ticket = ticket; then_finished = then_finished; floor = floor })
flush_keeps a x busy d ticket then_finished floor t f raised = record {
  block = λ b n. refl;
  location = λ h b n. refl;
  cached = λ k n u o. refl;
  unnamed = λ k n u. u;
  commit = λ b l. refl;
  ticket = t;
  began = omega arith;
  ended = omega arith;
  grows = record { finished = λ b o. omega arith; histories = λ b o. omega arith; floor = raised };
  then_finished = f;
  live = λ n. refl;
  mode = refl;
}

pub keeps_same : (a : ℕ) (x : AbstractActor) (busy : Bool) (d : Volume) → Keeps a x busy d d
keeps_same a x busy d = flush_keeps a x busy d d.ticket d.then_finished d.floor (λ b n. refl) (λ b n. refl) (λ b o. omega arith)

pub keeps_then : (a : ℕ) (x : AbstractActor) (busy : Bool) (d e f : Volume) → Keeps a x busy d e → Keeps a x busy e f → Keeps a x busy d f
keeps_then a x busy d e f i j = record {
  block = λ b n. j.block b n ∙ i.block b n;
  location = λ h b n. j.location h b n ∙ i.location h b n;
  cached = λ k n u o. j.cached k n (i.unnamed k n u) o ∙ i.cached k n u o;
  unnamed = λ k n u. j.unnamed k n (i.unnamed k n u);
  commit = λ b l. j.commit b l ∙ i.commit b l;
  ticket = λ b n. j.ticket b n ∙ i.ticket b n;
  began = omega (arith, i.began, j.began);
  ended = omega (arith, i.ended, j.ended);
  grows = record { finished = λ b o. let p = i.grows.finished b o in let q = j.grows.finished b o in omega arith; histories = λ b o. let p = i.grows.histories b o in let q = j.grows.histories b o in omega arith; floor = λ b o. let p = i.grows.floor b o in let q = j.grows.floor b o in omega arith };
  then_finished = λ b n. j.then_finished b n ∙ i.then_finished b n;
  live = λ n. j.live n ∙ i.live n;
  mode = j.mode ∙ i.mode;
}

-- an act that is not on the block of the view
another : (x : AbstractActor) (b c : ℕ) → x.held ≡ Owns b → x.held ≢ Owns c → c ≢ b
another x b c e n s = n (e ∙ ap (λ v. Owns v) (sym s))

-- A write on the origin or the cache, by its owner: of the other blocks nothing changes.
sector_elsewhere : {X : Type 0} (f : ℕ → ℕ → X) (b o : ℕ) (v : X) (c : ℕ) → c ≢ b → changed_at f b o v c ≡ f c
sector_elsewhere f b o v c n = changed_other f b c (changed (f b) o v) n

-- by the owner of a block, on that block alone, which stays where it is
owner_keeps : (a : ℕ) (x : AbstractActor) (busy : Bool) (d e : Volume) (b : ℕ) → x.held ≡ Owns b → ((c : ℕ) → c ≢ b → block_view e c ≡ block_view d c) → e.mapping ≡ d.mapping →
    ((k : ℕ) → IsUnnamed d.mapping k → (o : ℕ) → newest (e.cache k o) ≡ newest (d.cache k o)) → commit_view e ≡ commit_view d → e.ticket ≡ d.ticket → e.live ≡ d.live → e.mode ≡ d.mode → Grows d e → e.then_finished ≡ d.then_finished → Keeps a x busy d e
owner_keeps a x busy d e b own view m cached = still_keeps a x busy d e (λ c n. view c (another x b c own n)) (λ h c n. ap (λ f. f c) m) (λ k n u. cached k u) (λ k n u c y. u c (sym (ap (λ f. f c) m) ∙ y))

-- it changes this sector of the origin, and histories and standings of its block
origin_view : (d : Volume) (b o : ℕ) (h : History) (histories : ℕ → ℕ → History) (standing : ℕ → ℕ → Standing) → ((c : ℕ) → c ≢ b → histories c ≡ d.histories c) → ((c : ℕ) → c ≢ b → standing c ≡ d.standing c) →
    (c : ℕ) → c ≢ b → block_view (record d { origin = changed_at d.origin b o h; histories = histories; standing = standing }) c ≡ block_view d c
origin_view d b o h histories standing g s c n =
    let e = record d { origin = changed_at d.origin b o h; histories = histories; standing = standing } in
    let base : (i : ℕ) → newest (e.origin c i) ≡ newest (d.origin c i) = λ i. ap (λ f. newest (f i)) (sector_elsewhere d.origin b o h c n) in
    same_view d e c refl refl (λ i. place_is d.origin d.cache e.origin d.cache (d.mapping c) c i (base i) (λ k y. refl)) base (s c n) (g c n) refl

-- it changes this sector of its location on the cache
cache_view : (d : Volume) (b o k : ℕ) (h : History) (histories : ℕ → ℕ → History) (standing : ℕ → ℕ → Standing) → KeepsAll d → d.mapping b ≡ Some k → ((c : ℕ) → c ≢ b → histories c ≡ d.histories c) → ((c : ℕ) → c ≢ b → standing c ≡ d.standing c) →
    (c : ℕ) → c ≢ b → block_view (record d { cache = changed_at d.cache k o h; histories = histories; standing = standing }) c ≡ block_view d c
cache_view d b o k h histories standing i m g s c n =
    let e = record d { cache = changed_at d.cache k o h; histories = histories; standing = standing } in
    same_view d e c refl refl
    (λ q. place_is d.origin d.cache d.origin e.cache (d.mapping c) c q refl (λ j y. ap newest (elsewhere_is d.cache k o j q h (away i.floors.home d.mapping b o k c q j i.floors.home_of_mapping m y (inl n)))))
    (λ q. refl) (s c n) (g c n) refl

cached_elsewhere : (d : Volume) (b k o : ℕ) (h : History) → d.mapping b ≡ Some k → (j : ℕ) → IsUnnamed d.mapping j → (q : ℕ) → newest (changed_at d.cache k o h j q) ≡ newest (d.cache j q)
cached_elsewhere d b k o h m j u q = ap (λ f. newest (f q)) (sector_elsewhere d.cache k o h j (λ e. u b (m ∙ ap (λ v. Some v) (sym e))))

written_keeps : (a : ℕ) (x : AbstractActor) (busy : Bool) (d : Volume) (b o : ℕ) (c : Content) → x.held ≡ Owns b → KeepsAll d → (p : Option ℕ) → d.mapping b ≡ p → Keeps a x busy d (sector_written d p b o c)
written_keeps a x busy d b o c own i None m = owner_keeps a x busy d (sector_written d None b o c) b own
    (origin_view d b o (added (d.origin b o) c) (changed_at d.histories b o (added (d.histories b o) c)) (changed_at d.standing b o Whole) (λ j n. sector_elsewhere d.histories b o (added (d.histories b o) c) j n) (λ j n. sector_elsewhere d.standing b o Whole j n))
    refl (λ k u q. refl) refl refl refl refl (grows_book d (sector_written d None b o c) b o c refl refl refl) refl
written_keeps a x busy d b o c own i (Some k) m = owner_keeps a x busy d (sector_written d (Some k) b o c) b own
    (cache_view d b o k (added (d.cache k o) c) (changed_at d.histories b o (added (d.histories b o) c)) (changed_at d.standing b o Whole) i m (λ j n. sector_elsewhere d.histories b o (added (d.histories b o) c) j n) (λ j n. sector_elsewhere d.standing b o Whole j n))
    refl (λ j u q. cached_elsewhere d b k o (added (d.cache k o) c) m j u q) refl refl refl refl (grows_book d (sector_written d (Some k) b o c) b o c refl refl refl) refl

through_keeps : (a : ℕ) (x : AbstractActor) (busy : Bool) (d : Volume) (b o : ℕ) → x.held ≡ Owns b → KeepsAll d → (p : Option ℕ) → d.mapping b ≡ p → Keeps a x busy d (written_through d p b o)
through_keeps a x busy d b o own i None m = keeps_same a x busy d
through_keeps a x busy d b o own i (Some k) m = owner_keeps a x busy d (written_through d (Some k) b o) b own
    (cache_view d b o k (added (d.cache k o) (newest (d.histories b o))) d.histories (changed_at d.standing b o Whole) i m (λ j n. refl) (λ j n. sector_elsewhere d.standing b o Whole j n))
    refl (λ j u q. cached_elsewhere d b k o (added (d.cache k o) (newest (d.histories b o))) m j u q) refl refl refl refl (grows_same d (written_through d (Some k) b o) refl refl refl) refl

-- A sector of an unused cache block is in no view but that of its order.
fill_keeps : (a : ℕ) (x : AbstractActor) (busy : Bool) (d : Volume) (k o : ℕ) (c : Content) (p : Order) → x.order ≡ Some p → p.cache ≡ k → IsUnnamed d.mapping k → Keeps a x busy d (after_act d (Fill_cache k o c))
fill_keeps a x busy d k o c p e f free = still_keeps a x busy d (after_act d (Fill_cache k o c))
    (λ b n. same_view d (after_act d (Fill_cache k o c)) b refl refl
    (λ q. place_is d.origin d.cache d.origin (changed_at d.cache k o (added (d.cache k o) c)) (d.mapping b) b q refl
    (λ j y. ap (λ g. newest (g q)) (sector_elsewhere d.cache k o (added (d.cache k o) c) j (λ s. free b (y ∙ ap (λ v. Some v) s)))))
    (λ q. refl) refl refl refl)
    (λ h b n. refl) (λ j n u q. ap (λ g. newest (g q)) (sector_elsewhere d.cache k o (added (d.cache k o) c) j (λ s. n p e (f ∙ sym s)))) (λ j n u. u) refl refl refl refl (grows_same d _ refl refl refl) refl

-- A block moves, by its owner: under its order, or unmapped without one.
moved_keeps : (a : ℕ) (x : AbstractActor) (busy : Bool) (d : Volume) (b : ℕ) (to : Option ℕ) (dirty : ℕ → Bool) → x.held ≡ Owns b → (drops x.task ≡ false → NotBlock x b → ⊥) → ((k : ℕ) → to ≡ Some k → NotCache x k → ⊥) → ((c : ℕ) → c ≢ b → dirty c ≡ d.dirty c) →
    Keeps a x busy d (record d { mapping = changed d.mapping b to; dirty = dirty })
moved_keeps a x busy d b to dirty own away onto f' = still_keeps a x busy d (record d { mapping = changed d.mapping b to; dirty = dirty })
    (λ c n. let m : c ≢ b = another x b c own n in let y = changed_other d.mapping b c to m in
    same_view d (record d { mapping = changed d.mapping b to; dirty = dirty }) c y (f' c m) (λ q. ap (λ v. newest (at_location d.origin d.cache v c q)) y) (λ q. refl) refl refl refl)
    (λ h c n. changed_other d.mapping b c to (λ s. away h (λ p e f. n p e (f ∙ sym s)))) (λ j n u q. refl)
    (λ j n u c y. elim (cases_eq c b) [
      | inl s ↦ onto j (sym (changed_same d.mapping b to) ∙ ap (changed d.mapping b to) (sym s) ∙ y) n
      | inr m ↦ u c (sym (changed_other d.mapping b c to m) ∙ y)
    ])
    refl refl refl refl (grows_same d _ refl refl refl) refl

-- A block becomes dirty or clean.
dirty_keeps : (a : ℕ) (x : AbstractActor) (busy : Bool) (d : Volume) (b : ℕ) (t : Bool) → x.held ≡ Owns b → Keeps a x busy d (record d { dirty = changed d.dirty b t })
dirty_keeps a x busy d b t own = owner_keeps a x busy d (record d { dirty = changed d.dirty b t }) b own
    (λ c n. same_view d (record d { dirty = changed d.dirty b t }) c refl (changed_other d.dirty b c t n) (λ q. refl) (λ q. refl) refl refl refl)
    refl (λ k u q. refl) refl refl refl refl (grows_same d (record d { dirty = changed d.dirty b t }) refl refl refl) refl

-- Shorter lists have the same last contents.
commit_keeps : (a : ℕ) (x : AbstractActor) (busy : Bool) (d e : Volume) → ((b : ℕ) → block_view e b ≡ block_view d b) → e.mapping ≡ d.mapping → ((k o : ℕ) → newest (e.cache k o) ≡ newest (d.cache k o)) → (busy ≡ true → x.leads ≡ false → ⊥) → e.ticket ≡ d.ticket →
    d.began ≤ e.began → d.ended ≤ e.ended → (is_alone x.task ≡ false → e.live ≡ d.live) → e.mode ≡ d.mode → Grows d e → e.then_finished ≡ d.then_finished → Keeps a x busy d e
commit_keeps a x busy d e view m cached leads t began ended lv md gr nt = record {
  grows = gr;
  then_finished = λ c n. ap (λ f. f c) nt;
  live = lv;
  mode = md;
  block = λ c n. view c;
  location = λ h c n. ap (λ f. f c) m;
  cached = λ k n u. cached k;
  unnamed = λ k n u c y. u c (sym (ap (λ f. f c) m) ∙ y);
  commit = λ y l. absurd (leads y l);
  ticket = λ c n. ap (λ f. f c) t;
  began = began;
  ended = ended;
}

shorter_view : (d : Volume) (origin cache : ℕ → ℕ → History) → ((b o : ℕ) → newest (origin b o) ≡ newest (d.origin b o)) → ((k o : ℕ) → newest (cache k o) ≡ newest (d.cache k o)) → (b : ℕ) → block_view (record d { origin = origin; cache = cache }) b ≡ block_view d b
shorter_view d origin cache so sc b = same_view d (record d { origin = origin; cache = cache }) b refl refl (λ q. place_is d.origin d.cache origin cache (d.mapping b) b q (so b q) (λ k e. sc k q)) (so b) refl refl refl

no_leader : (x : AbstractActor) (busy : Bool) → x.leads ≡ true → busy ≡ true → x.leads ≡ false → ⊥
no_leader x busy l b n = absurd (cc)

pub act_keeps : (size a : ℕ) (x : AbstractActor) (busy : Bool) (d : Volume) (y : Act) → KeepsAll d → (ended : d.ended ≤ d.began) → MayAct d y → Mine size a x busy y → Keeps a x busy d (after_act d y)
act_keeps size a x busy d (Write b o c) i z m k = written_keeps a x busy d b o c k.0 i (d.mapping b) refl
act_keeps size a x busy d (Write_origin b o c) i z m k = owner_keeps a x busy d (after_act d (Write_origin b o c)) b k.0
    (origin_view d b o (added (d.origin b o) c) (changed_at d.histories b o (added (d.histories b o) c)) (changed_at d.standing b o Half) (λ j n. sector_elsewhere d.histories b o (added (d.histories b o) c) j n) (λ j n. sector_elsewhere d.standing b o Half j n))
    refl (λ j u q. refl) refl refl refl refl (grows_book d (after_act d (Write_origin b o c)) b o c refl refl refl) refl
act_keeps size a x busy d (Write_cache b o) i z m k = through_keeps a x busy d b o k.0 i (d.mapping b) refl
act_keeps size a x busy d (Fail_write b o c) i z m k = owner_keeps a x busy d (after_act d (Fail_write b o c)) b k.0
    (λ j n. same_view d (after_act d (Fail_write b o c)) j refl refl (λ q. refl) (λ q. refl) (sector_elsewhere d.standing b o Torn j n) (sector_elsewhere d.histories b o (added (d.histories b o) c) j n) refl)
    refl (λ j u q. refl) refl refl refl refl (grows_book d (after_act d (Fail_write b o c)) b o c refl refl refl) refl
act_keeps size a x busy d (Finish b o) i z m k = owner_keeps a x busy d (after_act d (Finish b o)) b k
    (λ j n. same_view d (after_act d (Finish b o)) j refl refl (λ q. refl) (λ q. refl) refl refl (sector_elsewhere d.finished b o (length (d.histories b o).later) j n))
    refl (λ j u q. refl) refl refl refl refl
    (record { finished = rose d.finished b o (length (d.histories b o).later) (finished_bound (ground d) b o i.floors); histories = λ b' o'. omega arith; floor = λ b' o'. omega arith }) refl
act_keeps size a x busy d (Fill_cache k o c) i z m j = fill_keeps a x busy d k o c j.0.0 j.0.1 j.0.2 m.1.0
act_keeps size a x busy d (Copy_back b o) i z m k = owner_keeps a x busy d (after_act d (Copy_back b o)) b k.0
    (origin_view d b o (added (d.origin b o) (newest (location d d.mapping b o))) d.histories d.standing (λ j n. refl) (λ j n. refl))
    refl (λ j u q. refl) refl refl refl refl (grows_same d (after_act d (Copy_back b o)) refl refl refl) refl
act_keeps size a x busy d (Map b k) i z m j = moved_keeps a x busy d b (Some k) (changed d.dirty b false) j.0 (λ h n. n j.1.0 j.1.1 j.1.2) (λ c e n. let s : k ≡ c = cc in n j.1.0 j.1.1 (j.1.3 ∙ s)) (λ c n. changed_other d.dirty b c false n)
act_keeps size a x busy d (Unmap b) i z m j = elim j.1 [ inl o ↦ moved_keeps a x busy d b None d.dirty j.0 (λ h n. n o.0 o.1 o.2) (λ c e n. absurd (cc)) (λ c n. refl) | inr h ↦ moved_keeps a x busy d b None d.dirty j.0 (λ f n. absurd (cc)) (λ c e n. absurd (cc)) (λ c n. refl) ]
act_keeps size a x busy d (Make_dirty b) i z m k = dirty_keeps a x busy d b true k
act_keeps size a x busy d (Make_clean b) i z m k = dirty_keeps a x busy d b false k
act_keeps size a x busy d Begin_commit i z m k = commit_keeps a x busy d (after_act d Begin_commit) (λ b. refl) refl (λ j o. refl) (λ t l. absurd (cc)) refl (omega arith) (omega arith) (λ n. refl) refl (grows_same d _ refl refl refl) refl
act_keeps size a x busy d Begin_suspend i z m k = commit_keeps a x busy d (after_act d Begin_suspend) (λ b. refl) refl (λ j o. refl) (λ t l. let bad = k.0 in absurd (cc)) refl (omega arith) (omega arith) (λ n. let bad = k.1 in absurd (cc)) refl (grows_same d _ refl refl refl) refl
act_keeps size a x busy d Sync_cache i z m k = let s = shorter_newest d.cache (all_synced d.cache) (shorter_synced d.cache) in
    commit_keeps a x busy d (after_act d Sync_cache) (shorter_view d d.origin (all_synced d.cache) (λ b o. refl) s) refl s (no_leader x busy k) refl (omega arith) (omega arith) (λ n. refl) refl (grows_same d _ refl refl refl) refl
act_keeps size a x busy d Sync_origin i z m k = let s = shorter_newest d.origin (all_synced d.origin) (shorter_synced d.origin) in
    commit_keeps a x busy d (after_act d Sync_origin) (shorter_view d (all_synced d.origin) d.cache s (λ j o. refl)) refl (λ j o. refl) (no_leader x busy k) refl (omega arith) (omega arith) (λ n. refl) refl (grows_same d _ refl refl refl) refl
act_keeps size a x busy d (Fail_cache_sync choice) i z m k = let s = shorter_newest d.cache (partly_synced choice d.cache) (shorter_partly choice d.cache) in
    commit_keeps a x busy d (after_act d (Fail_cache_sync choice)) (shorter_view d d.origin (partly_synced choice d.cache) (λ b o. refl) s) refl s (no_leader x busy k) refl (omega arith) (omega arith) (λ n. refl) refl (grows_same d _ refl refl refl) refl
act_keeps size a x busy d (Fail_origin_sync choice) i z m k = let s = shorter_newest d.origin (partly_synced choice d.origin) (shorter_partly choice d.origin) in
    commit_keeps a x busy d (after_act d (Fail_origin_sync choice)) (shorter_view d (partly_synced choice d.origin) d.cache s (λ j o. refl)) refl (λ j o. refl) (no_leader x busy k) refl (omega arith) (omega arith) (λ n. refl) refl (grows_same d _ refl refl refl) refl
act_keeps size a x busy d Write_root i z m k = commit_keeps a x busy d (after_act d Write_root) (λ b. refl) refl (λ j o. refl) (no_leader x busy k) refl (omega arith) (omega arith) (λ n. refl) refl (grows_same d _ refl refl refl) refl
act_keeps size a x busy d End_commit i z m k = commit_keeps a x busy d (after_act d End_commit) (λ b. refl) refl (λ j o. refl) (no_leader x busy k) refl (omega arith) z (λ n. refl) refl (grows_same d _ refl refl refl) refl
act_keeps size a x busy d (Begin_flush actor) i z m k = flush_keeps a x busy d (changed d.ticket actor (d.began + 1)) (changed d.then_finished actor d.finished) d.floor (λ c n. changed_other d.ticket actor c (d.began + 1) (λ s. n (s ∙ k.0)))
    (λ c n. elim n [ inl m ↦ changed_other d.then_finished actor c d.finished (λ s. m (s ∙ k.0)) | inr m ↦ absurd (m k.1) ]) (λ b o. omega arith)
act_keeps size a x busy d (End_flush actor) i z m k = flush_keeps a x busy d d.ticket d.then_finished (after_act d (End_flush actor)).floor (λ c n. refl) (λ c n. refl) (λ b o. omega arith)
act_keeps size a x busy d act i z m k = absurd k
