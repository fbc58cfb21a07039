-- The world is not empty: a run of one actor that writes, promotes, writes again, flushes and demotes.
use Rattle.std.proofs.Common.{◌≡◌, ◌≢◌, ◌<◌, inl, inr, ℕ, zero, suc, Bool, true, false, cond, List, [], ◌∷◌, ◌++◌, Option, Some, None, refl, sym, ap, subst, ◌∙◌, arith, slice_get}
use Rattle.wb_link.specs.Examples.{dones, order, one_actor, abstract_replacement, follower, replaced, settles, abstract_shown as shown, cut_short, lives_of, abstract_opening as opening, reopening, one_clean, past_the_cache}
use Rattle.wb_disk.specs.Device.{Content, History, newest, added, only}
use Rattle.wb_contents.specs.Volume.{changed, changed_at, at_location}
use Rattle.wb_contents.specs.Acts.{all_synced}
use Rattle.wb_disk.proofs.Leaving.{newest_there}
use Rattle.wb_types.specs.declared.mode.Mode.TheVariants.{Writeback}
use Rattle.wb_link.specs.Openings.{Site, site, MayOpen, MayStop, AbstractHappens, after_events}
use Rattle.wb_link.specs.Tables.{Order, Seal, Job, Want, Script, Answer, Done, Set_seal, Disown, Write_all, Sync_cache_device, Sync_origin_device, Put_root, Sync_metadata, End_running, Make_room, Map_to, Unmap_from, abstract_after}
use Rattle.wb_link.specs.World.{World, Record, Shared, AbstractActor, Nothing, Owns, Shares, ShareNoBlock, AreIn, AbstractGives, Wins, AbstractMay, MayStep, IsAbstractRun, abstract_begins, is_alone, task_after, actor_after, after_record, abstract_after_all}
use Rattle.wb_contents.proofs.Lists.{set_there}
use Rattle.wb_link.proofs.Steps.{step_is}

infixr 30 ◌▸◌
-- one record, and then the rest of the run
◌▸◌ : {A B : Type 0} → A → B → A × B
a ▸ b = (a, b)

-- steps that any world lets an actor take, after each of which its task goes on
abbrev AllSure : Shared → List AbstractActor → List Want → Type 0
AllSure s actors [] = Unit {0}
AllSure s actors (w ∷ ws) = AbstractGives s w Done × Wins actors w Done × ((script : Script) → task_after script w Done ≡ Some (abstract_after script Done)) × AllSure s actors ws

-- A run, record by record.
record Runs (size : ℕ) (w : World) (rs : List Record) : Type 0 where
  all : IsAbstractRun size w rs

infixr 30 ◌▹◌
◌▹◌ : {size : ℕ} {w : World} {r : Record} {rs : List Record} → AbstractMay size w r → Runs size (after_record w r) rs → Runs size w (r ∷ rs)
may ▹ run = record { all = (may, run.all) }

over : {size : ℕ} {w : World} → Runs size w []
over = record { all = tt }

-- such steps are taken, and the task is answered
dones_run : (steps : List Want) {size : ℕ} {w : World} {rest : List Record} (a : ℕ) (x : AbstractActor) (job : Job) (answer : Answer) → slice_get w.actors a ≡ Some x → x.task ≡ Some (record { job = job; steps = steps; answer = answer }) → ((s : Shared) (actors : List AbstractActor) → AllSure s actors steps) →
    Runs size (abstract_after_all w (dones a steps answer)) rest → Runs size w (dones a steps answer ++ rest)
dones_run [] a x job answer here task sure run = (x, record { job = job; steps = []; answer = answer }, record { actor = here; task = task; asked = refl; gives = tt; wins = tt }) ▹ run
dones_run (v ∷ vs) {size} {w} {rest} a x job answer here task sure run =
    let script : Script = record { job = job; steps = v ∷ vs; answer = answer } in
    let may : MayStep w a v Done x script = record { actor = here; task = task; asked = refl; gives = (sure w.shared w.actors).0; wins = (sure w.shared w.actors).1 } in
    (x, script, may) ▹ dones_run vs a (actor_after x script v Done) job answer (ap (λ (u : World). slice_get u.actors a) (step_is w a v Done x script may) ∙ set_there w.actors a x _ here) ((sure w.shared w.actors).2 script) (λ s actors. (sure s actors).3) run

only_one : (x y : AbstractActor) (a : ℕ) → slice_get (x ∷ []) a ≡ Some y → x ≡ y
only_one x y zero e = cc
only_one x y (suc a) e = absurd (cc)

nobody : (x : AbstractActor) → is_alone x.task ≡ false → (b : ℕ) (y : AbstractActor) → slice_get (x ∷ []) b ≡ Some y → is_alone y.task ≡ false
nobody x n b y e = subst (λ (v : AbstractActor). is_alone v.task ≡ false) (only_one x y b e) n

free : (x : AbstractActor) → x.held ≡ Nothing → (b : ℕ) (y : AbstractActor) → slice_get (x ∷ []) b ≡ Some y → (y.held ≢ Owns 0) × (y.held ≢ Shares 0)
free x n b y e = subst (λ (v : AbstractActor). (v.held ≢ Owns 0) × (v.held ≢ Shares 0)) (only_one x y b e) (λ f. absurd (cc), λ f. absurd (cc))

ungiven : (x : AbstractActor) → x.order ≡ None → (b : ℕ) (y : AbstractActor) (o : Order) → slice_get (x ∷ []) b ≡ Some y → y.order ≡ Some o → ShareNoBlock o order
ungiven x n b y o e = subst (λ (v : AbstractActor). v.order ≡ Some o → ShareNoBlock o order) (only_one x y b e) (λ f. absurd (cc))

covers : (o : ℕ) → o < 1 → AreIn ((0 ∷ []) ∷ []) o
covers o l = inl (0, omega arith, omega arith)

one : Runs 1 (abstract_begins 1 []) one_actor
one =
    (_, record { actor = refl; task = refl; free = inl (refl, refl); nobody_alone = nobody _ refl; may = ((omega arith, tt), refl) }) ▹
    (_, _, record { actor = refl; task = refl; asked = refl; gives = refl; wins = tt }) ▹
    (_, _, record { actor = refl; task = refl; asked = refl; gives = tt; wins = free _ refl }) ▹
    (_, _, record { actor = refl; task = refl; asked = refl; gives = refl; wins = tt }) ▹
    dones_run (Write_all None 0 (0 ∷ []) ∷ Disown 0 ∷ []) 0 _ _ _ refl refl (λ s xs. (tt, tt, (λ z. refl), (tt, tt, (λ z. refl), tt))) (
    (_, record { actor = refl; task = refl; free = inl (refl, refl); nobody_alone = nobody _ refl; may = ((omega arith, tt), covers, (ungiven _ refl, (λ k o e. absurd (cc))), (λ e. absurd (cc)), refl, refl, (λ b e. absurd (cc))) }) ▹
    (_, _, record { actor = refl; task = refl; asked = refl; gives = refl; wins = tt }) ▹
    (_, _, record { actor = refl; task = refl; asked = refl; gives = tt; wins = free _ refl }) ▹
    (_, _, record { actor = refl; task = refl; asked = refl; gives = refl; wins = tt }) ▹
    (_, _, record { actor = refl; task = refl; asked = refl; gives = (refl, tt); wins = tt }) ▹
    dones_run (Write_all (Some 0) 0 (0 ∷ []) ∷ Make_room ∷ Map_to order ∷ Set_seal 0 (record { location = Some 0; dirty = false }) ∷ Disown 0 ∷ []) 0 _ _ _ refl refl (λ s xs. (tt, tt, (λ z. refl), (tt, tt, (λ z. refl), (tt, tt, (λ z. refl), (tt, tt, (λ z. refl), (tt, tt, (λ z. refl), tt)))))) (
    (_, record { actor = refl; task = refl; free = inl (refl, refl); nobody_alone = nobody _ refl; may = ((omega arith, tt), refl) }) ▹
    (_, _, record { actor = refl; task = refl; asked = refl; gives = refl; wins = tt }) ▹
    (_, _, record { actor = refl; task = refl; asked = refl; gives = tt; wins = free _ refl }) ▹
    (_, _, record { actor = refl; task = refl; asked = refl; gives = refl; wins = tt }) ▹
    dones_run (Set_seal 0 (record { location = Some 0; dirty = true }) ∷ Write_all (Some 0) 0 (0 ∷ []) ∷ Disown 0 ∷ []) 0 _ _ _ refl refl (λ s xs. (tt, tt, (λ z. refl), (tt, tt, (λ z. refl), (tt, tt, (λ z. refl), tt)))) (
    (_, record { actor = refl; task = refl; free = inl (refl, refl); nobody_alone = nobody _ refl; may = refl }) ▹
    (_, _, record { actor = refl; task = refl; asked = refl; gives = refl; wins = tt }) ▹
    (_, _, record { actor = refl; task = refl; asked = refl; gives = (refl, refl, tt); wins = tt }) ▹
    dones_run (Sync_cache_device ∷ Sync_origin_device ∷ Put_root ∷ Sync_metadata ∷ End_running ∷ []) 0 _ _ _ refl refl (λ s xs. (tt, tt, (λ z. refl), (tt, tt, (λ z. refl), (tt, tt, (λ z. refl), (tt, tt, (λ z. refl), (tt, tt, (λ z. refl), tt)))))) (
    (_, record { actor = refl; task = refl; free = inl (refl, refl); nobody_alone = nobody _ refl; may = ((omega arith, tt), covers, (ungiven _ refl, (λ k o e. absurd (cc))), (λ e. absurd (cc)), refl, refl, (λ b e. absurd (cc))) }) ▹
    (_, _, record { actor = refl; task = refl; asked = refl; gives = refl; wins = tt }) ▹
    (_, _, record { actor = refl; task = refl; asked = refl; gives = tt; wins = free _ refl }) ▹
    (_, _, record { actor = refl; task = refl; asked = refl; gives = refl; wins = tt }) ▹
    (_, _, record { actor = refl; task = refl; asked = refl; gives = (refl, tt); wins = tt }) ▹
    dones_run (Write_all None 0 (0 ∷ []) ∷ Unmap_from order ∷ Set_seal 0 (record { location = None; dirty = false }) ∷ Disown 0 ∷ []) 0 _ _ _ refl refl (λ s xs. (tt, tt, (λ z. refl), (tt, tt, (λ z. refl), (tt, tt, (λ z. refl), (tt, tt, (λ z. refl), tt))))) (
    over)))))

pub one_actor_runs : IsAbstractRun 1 (abstract_begins 1 []) one_actor
one_actor_runs = one.all

-- Three actors.

each : (P : AbstractActor → Type 0) (x y z : AbstractActor) → P x → P y → P z → (a : ℕ) (v : AbstractActor) → slice_get (x ∷ y ∷ z ∷ []) a ≡ Some v → P v
each P x y z p q r zero v e = let same : x ≡ v = cc in subst P same p
each P x y z p q r (suc zero) v e = let same : y ≡ v = cc in subst P same q
each P x y z p q r (suc (suc zero)) v e = let same : z ≡ v = cc in subst P same r
each P x y z p q r (suc (suc (suc a))) v e = absurd (cc)

abbrev NotHeld : ℕ → AbstractActor → Type 0
NotHeld c v = (v.held ≢ Owns c) × (v.held ≢ Shares c)

not_held : (c : ℕ) (x : AbstractActor) → x.held ≡ Nothing → NotHeld c x
not_held c x e = (λ f. let bad : Nothing ≡ Owns c = sym e ∙ f in absurd (cc), λ f. let bad : Nothing ≡ Shares c = sym e ∙ f in absurd (cc))

free_of : (c : ℕ) (x y z : AbstractActor) → x.held ≡ Nothing → y.held ≡ Nothing → z.held ≡ Nothing → (a : ℕ) (v : AbstractActor) → slice_get (x ∷ y ∷ z ∷ []) a ≡ Some v → NotHeld c v
free_of c x y z p q r = each (λ v. NotHeld c v) x y z (not_held c x p) (not_held c y q) (not_held c z r)

alone_of : (x y z : AbstractActor) → is_alone x.task ≡ false → is_alone y.task ≡ false → is_alone z.task ≡ false → (a : ℕ) (v : AbstractActor) → slice_get (x ∷ y ∷ z ∷ []) a ≡ Some v → is_alone v.task ≡ false
alone_of x y z p q r = each (λ v. is_alone v.task ≡ false) x y z p q r

no_order : (p : Order) (x : AbstractActor) → x.order ≡ None → (o : Order) → x.order ≡ Some o → ShareNoBlock o p
no_order p x e o f = let bad : None ≡ Some o = sym e ∙ f in absurd (cc)

ungiven_of : (p : Order) (x y z : AbstractActor) → x.order ≡ None → y.order ≡ None → z.order ≡ None → (a : ℕ) (v : AbstractActor) (o : Order) → slice_get (x ∷ y ∷ z ∷ []) a ≡ Some v → v.order ≡ Some o → ShareNoBlock o p
ungiven_of p x y z e f g a v o h = each (λ v. v.order ≡ Some o → ShareNoBlock o p) x y z (no_order p x e o) (no_order p y f o) (no_order p z g o) a v h

unmapped : (b : ℕ) → Some 1 ≡ Some b → changed {X = Option ℕ} (λ (c : ℕ). None) 0 (Some 0) b ≡ None
unmapped b e = let is : 1 ≡ b = cc in subst (λ (v : ℕ). changed {X = Option ℕ} (λ (c : ℕ). None) 0 (Some 0) v ≡ None) is refl

three : Runs 1 (abstract_begins 3 []) replaced
three =
    (_, record { actor = refl; task = refl; free = inl (refl, refl); nobody_alone = alone_of _ _ _ refl refl refl; may = ((omega arith, tt), covers, (ungiven_of order _ _ _ refl refl refl, (λ k o e. absurd (cc))), (λ e. absurd (cc)), refl, refl, (λ b e. absurd (cc))) }) ▹
    (_, _, record { actor = refl; task = refl; asked = refl; gives = refl; wins = tt }) ▹
    (_, _, record { actor = refl; task = refl; asked = refl; gives = tt; wins = free_of 0 _ _ _ refl refl refl }) ▹
    (_, _, record { actor = refl; task = refl; asked = refl; gives = refl; wins = tt }) ▹
    (_, _, record { actor = refl; task = refl; asked = refl; gives = (refl, tt); wins = tt }) ▹
    dones_run (Write_all (Some 0) 0 (0 ∷ []) ∷ Make_room ∷ Map_to order ∷ Set_seal 0 (record { location = Some 0; dirty = false }) ∷ Disown 0 ∷ []) 0 _ _ _ refl refl (λ s xs. (tt, tt, (λ z. refl), (tt, tt, (λ z. refl), (tt, tt, (λ z. refl), (tt, tt, (λ z. refl), (tt, tt, (λ z. refl), tt)))))) (
    (_, record { actor = refl; task = refl; free = inl (refl, refl); nobody_alone = alone_of _ _ _ refl refl refl; may = ((omega arith, tt), covers, (ungiven_of abstract_replacement _ _ _ refl refl refl, (λ k o e. absurd (cc))), (λ e. absurd (cc)), refl, refl, unmapped) }) ▹
    (_, _, record { actor = refl; task = refl; asked = refl; gives = refl; wins = tt }) ▹
    (_, _, record { actor = refl; task = refl; asked = refl; gives = tt; wins = free_of 0 _ _ _ refl refl refl }) ▹
    (_, _, record { actor = refl; task = refl; asked = refl; gives = refl; wins = tt }) ▹
    dones_run (Unmap_from abstract_replacement ∷ Set_seal 0 (record { location = None; dirty = false }) ∷ Disown 0 ∷ []) 0 _ _ _ refl refl (λ s xs. (tt, tt, (λ z. refl), (tt, tt, (λ z. refl), (tt, tt, (λ z. refl), tt)))) (
    (_, record { actor = refl; task = refl; free = inl (refl, refl); nobody_alone = alone_of _ _ _ refl refl refl; may = refl }) ▹
    (_, _, record { actor = refl; task = refl; asked = refl; gives = refl; wins = tt }) ▹
    (_, _, record { actor = refl; task = refl; asked = refl; gives = (refl, refl, tt); wins = tt }) ▹
    (_, record { actor = refl; task = refl; free = inl (refl, refl); order = (follower, refl, refl); nobody_alone = alone_of _ _ _ refl refl refl; may = (_, refl) }) ▹
    (_, _, record { actor = refl; task = refl; asked = refl; gives = refl; wins = tt }) ▹
    (_, _, record { actor = refl; task = refl; asked = refl; gives = (refl, refl, refl, refl); wins = tt }) ▹
    (_, record { actor = refl; task = refl; free = inl (refl, refl); nobody_alone = alone_of _ _ _ refl refl refl; may = refl }) ▹
    (_, _, record { actor = refl; task = refl; asked = refl; gives = refl; wins = tt }) ▹
    (_, _, record { actor = refl; task = refl; asked = refl; gives = (refl, refl, refl, refl); wins = tt }) ▹
    dones_run (Sync_cache_device ∷ Sync_origin_device ∷ Put_root ∷ Sync_metadata ∷ End_running ∷ []) 1 _ _ _ refl refl (λ s xs. (tt, tt, (λ z. refl), (tt, tt, (λ z. refl), (tt, tt, (λ z. refl), (tt, tt, (λ z. refl), (tt, tt, (λ z. refl), tt)))))) (
    (_, _, record { actor = refl; task = refl; asked = refl; gives = (refl, refl, omega arith); wins = tt }) ▹
    dones_run (Sync_cache_device ∷ Sync_origin_device ∷ Put_root ∷ Sync_metadata ∷ End_running ∷ []) 0 _ _ _ refl refl (λ s xs. (tt, tt, (λ z. refl), (tt, tt, (λ z. refl), (tt, tt, (λ z. refl), (tt, tt, (λ z. refl), (tt, tt, (λ z. refl), tt)))))) (
    (_, _, record { actor = refl; task = refl; asked = refl; gives = omega arith; wins = tt }) ▹
    (_, _, record { actor = refl; task = refl; asked = refl; gives = tt; wins = tt }) ▹
    (_, record { actor = refl; task = refl; free = inl (refl, refl); order = (follower, refl, refl); nobody_alone = alone_of _ _ _ refl refl refl; may = ((omega arith, tt), covers, refl) }) ▹
    (_, _, record { actor = refl; task = refl; asked = refl; gives = refl; wins = tt }) ▹
    (_, _, record { actor = refl; task = refl; asked = refl; gives = tt; wins = free_of 1 _ _ _ refl refl refl }) ▹
    (_, _, record { actor = refl; task = refl; asked = refl; gives = refl; wins = tt }) ▹
    (_, _, record { actor = refl; task = refl; asked = refl; gives = (refl, tt); wins = tt }) ▹
    dones_run (Write_all (Some 0) 1 (0 ∷ []) ∷ Make_room ∷ Map_to follower ∷ Set_seal 1 (record { location = Some 0; dirty = false }) ∷ Disown 1 ∷ []) 0 _ _ _ refl refl (λ s xs. (tt, tt, (λ z. refl), (tt, tt, (λ z. refl), (tt, tt, (λ z. refl), (tt, tt, (λ z. refl), (tt, tt, (λ z. refl), tt)))))) (
    over)))))

pub three_actors_run : IsAbstractRun 1 (abstract_begins 3 []) replaced
three_actors_run = three.all

-- Lives.

may_settle : (s : Shared) (n : Bool) → (n ≡ true → s.root_written ≡ true) → MayStop s (settles s n)
may_settle s n r = record { root = r; origin = λ b o. newest_there (s.origin b o); cache = λ k o. newest_there (s.cache k o) }

place_same : (f g m n : ℕ → ℕ → History) → ((b o : ℕ) → newest (f b o) ≡ newest (m b o)) → ((k o : ℕ) → newest (g k o) ≡ newest (n k o)) → (p : Option ℕ) (b o : ℕ) → newest (at_location f g p b o) ≡ newest (at_location m n p b o)
place_same f g m n h i None b o = h b o
place_same f g m n h i (Some k) b o = i k o

-- an opening that shows what is there
opened : (size : ℕ) (w : Site) (view : ℕ → ℕ → Content) → MayOpen w → ((b o : ℕ) → view b o ≡ shown w.world.shared b o) → AbstractHappens size w (opening Writeback (record { locations = w.world.shared.committed; clean = w.world.shared.committed_clean }) view)
opened size w view may same =
    may ▸
    (_, _, refl, (λ e. absurd (cc))) ▸
    (_, _, refl, tt) ▸
    (_, _, refl, tt) ▸
    (_, _, refl, (refl, refl, tt)) ▸
    (_, _, refl, tt) ▸
    (_, _, refl, tt) ▸
    (_, _, refl, ((λ k. inl refl), (λ b o. same b o ∙ place_same w.world.shared.origin w.world.shared.cache _ _ (λ c i. refl) (λ c i. refl) (w.world.shared.committed b) b o))) ▸
    tt

pub many_lives : (size : ℕ) (w : Site) → AbstractHappens size w (lives_of w.world.shared)
many_lives size w =
    may_settle w.world.shared false (λ e. absurd (cc)) ▸
    inl (λ e. absurd (cc)) ▸
    (_, _, refl, (λ e. absurd (cc))) ▸
    (_, _, refl, tt) ▸
    (_, _, refl, tt) ▸
    inl (λ e. absurd (cc)) ▸
    (_, _, refl, (λ e. absurd (cc))) ▸
    (_, _, refl, tt) ▸
    (_, _, refl, tt) ▸
    (_, _, refl, (refl, refl, tt)) ▸
    (_, _, refl, tt) ▸
    record { root = λ e. refl; origin = λ b o. newest_there (only (newest (w.world.shared.origin b o))); cache = λ k o. newest_there (only (newest (w.world.shared.cache k o))) } ▸
    opened size (after_events w (cut_short w.world.shared)) (shown w.world.shared) (inl (λ e. absurd (cc))) (λ b o. place_same w.world.shared.origin w.world.shared.cache _ _ (λ c i. refl) (λ c i. refl) (w.world.shared.committed b) b o)

pub without_crash : (size : ℕ) (w : Site) → w.world.shared.fail ≡ true → AbstractHappens size w (reopening w.world.shared)
without_crash size w f = opened size w (shown w.world.shared) (inr f) (λ b o. refl)

-- A life past the cache.

unowned : (x : AbstractActor) → x.held ≡ Nothing → (b : ℕ) (y : AbstractActor) → slice_get (x ∷ []) b ≡ Some y → y.held ≢ Owns 0
unowned x n b y e = (free x n b y e).0

idle : (x : AbstractActor) → x.task ≡ None → (b : ℕ) (y : AbstractActor) → slice_get (x ∷ []) b ≡ Some y → y.task ≡ None
idle x n b y e = subst (λ (v : AbstractActor). v.task ≡ None) (only_one x y b e) n

either_clean : (t : Bool) → cond (cond {A = Seal} t (record { location = Some 0; dirty = false }) (record { location = None; dirty = false })).dirty false true ≡ true
either_clean true = refl
either_clean false = refl

one_is_clean : (b k : ℕ) → one_clean.locations b ≡ Some k → one_clean.clean b ≡ true
one_is_clean b k e = either_clean _

abbrev copied : ℕ → ℕ → History
copied = all_synced (changed_at (λ k o. only []) 0 0 (added (only []) []))

same_copied : (t : Bool) → [] ≡ newest (only (newest (cond {A = History} t (added (only []) []) (only []))))
same_copied true = refl
same_copied false = refl

either_view : (b o : ℕ) (t : Bool) → [] ≡ newest (at_location (λ b o. only []) copied (cond {A = Option ℕ} t (Some 0) None) b o)
either_view b o true = same_copied _
either_view b o false = refl

one_view : (b o : ℕ) → [] ≡ newest (at_location (λ b o. only []) copied (one_clean.locations b) b o)
one_view b o = either_view b o _

pub past_the_cache_happens : AbstractHappens 1 (site 1 []) past_the_cache
past_the_cache_happens = ((refl, (_, record { actor = refl; task = refl; free = inl (refl, refl); nobody_alone = nobody _ refl; may = ((omega arith, tt), covers, (ungiven _ refl, (λ k o e. absurd (cc))), (λ e. absurd (cc)), refl, refl, (λ b e. absurd (cc))) })), ((refl, (_, _, record { actor = refl; task = refl; asked = refl; gives = refl; wins = tt })), ((refl, (_, _, record { actor = refl; task = refl; asked = refl; gives = tt; wins = free _ refl })), ((refl, (_, _, record { actor = refl; task = refl; asked = refl; gives = refl; wins = tt })), ((refl, (_, _, record { actor = refl; task = refl; asked = refl; gives = (refl, tt); wins = tt })), ((refl, (_, _, record { actor = refl; task = refl; asked = refl; gives = tt; wins = tt })), ((refl, (_, _, record { actor = refl; task = refl; asked = refl; gives = tt; wins = tt })), ((refl, (_, _, record { actor = refl; task = refl; asked = refl; gives = tt; wins = tt })), ((refl, (_, _, record { actor = refl; task = refl; asked = refl; gives = tt; wins = tt })), ((refl, (_, _, record { actor = refl; task = refl; asked = refl; gives = tt; wins = tt })), ((refl, (_, _, record { actor = refl; task = refl; asked = refl; gives = tt; wins = tt })), ((refl, (_, record { actor = refl; task = refl; free = inl (refl, refl); nobody_alone = nobody _ refl; may = idle _ refl })), ((refl, (_, _, record { actor = refl; task = refl; asked = refl; gives = refl; wins = tt })), ((refl, (_, _, record { actor = refl; task = refl; asked = refl; gives = tt; wins = tt })), ((refl, (_, _, record { actor = refl; task = refl; asked = refl; gives = tt; wins = tt })), ((refl, (_, record { actor = refl; task = refl; free = inl (refl, refl); nobody_alone = nobody _ refl; may = idle _ refl })), ((refl, (_, _, record { actor = refl; task = refl; asked = refl; gives = refl; wins = tt })), ((refl, (_, _, record { actor = refl; task = refl; asked = refl; gives = refl; wins = tt })), ((refl, (_, _, record { actor = refl; task = refl; asked = refl; gives = tt; wins = tt })), ((refl, (_, _, record { actor = refl; task = refl; asked = refl; gives = tt; wins = tt })), ((refl, (_, _, record { actor = refl; task = refl; asked = refl; gives = tt; wins = tt })), ((refl, (_, _, record { actor = refl; task = refl; asked = refl; gives = tt; wins = tt })), ((refl, (_, _, record { actor = refl; task = refl; asked = refl; gives = tt; wins = tt })), ((refl, (_, _, record { actor = refl; task = refl; asked = refl; gives = tt; wins = tt })), ((refl, (_, _, record { actor = refl; task = refl; asked = refl; gives = tt; wins = tt })), (inr refl, ((_, _, refl, (λ e. absurd (cc))), ((_, _, refl, tt), ((_, _, refl, tt), ((_, _, refl, (refl, refl, one_is_clean)), ((_, _, refl, tt), (inl (λ e. absurd (cc)), ((_, _, refl, (λ e. absurd (cc))), ((_, _, refl, tt), ((_, _, refl, tt), ((_, _, refl, (refl, refl, one_is_clean)), ((_, _, refl, tt), ((_, _, refl, tt), ((_, _, refl, ((λ k. inl refl), one_view)), ((refl, (_, record { actor = refl; task = refl; free = inl (refl, refl); nobody_alone = nobody _ refl; may = ((omega arith, tt), refl) })), ((refl, (_, _, record { actor = refl; task = refl; asked = refl; gives = refl; wins = tt })), ((refl, (_, _, record { actor = refl; task = refl; asked = refl; gives = tt; wins = unowned _ refl })), ((refl, (_, _, record { actor = refl; task = refl; asked = refl; gives = refl; wins = tt })), ((refl, (_, _, record { actor = refl; task = refl; asked = refl; gives = (refl, tt); wins = tt })), ((refl, (_, _, record { actor = refl; task = refl; asked = refl; gives = tt; wins = tt })), ((refl, (_, _, record { actor = refl; task = refl; asked = refl; gives = tt; wins = tt })), ((refl, (_, record { actor = refl; task = refl; free = inl (refl, refl); nobody_alone = nobody _ refl; may = ((omega arith, tt), refl) })), ((refl, (_, _, record { actor = refl; task = refl; asked = refl; gives = refl; wins = tt })), ((refl, (_, _, record { actor = refl; task = refl; asked = refl; gives = tt; wins = free _ refl })), ((refl, (_, _, record { actor = refl; task = refl; asked = refl; gives = refl; wins = tt })), ((refl, (_, _, record { actor = refl; task = refl; asked = refl; gives = tt; wins = tt })), ((refl, (_, _, record { actor = refl; task = refl; asked = refl; gives = tt; wins = tt })), ((refl, (_, _, record { actor = refl; task = refl; asked = refl; gives = tt; wins = tt })), ((refl, (_, _, record { actor = refl; task = refl; asked = refl; gives = tt; wins = tt })), ((refl, (_, _, record { actor = refl; task = refl; asked = refl; gives = tt; wins = tt })), ((refl, (_, record { actor = refl; task = refl; free = inl (refl, refl); nobody_alone = nobody _ refl; may = ((omega arith, tt), refl) })), ((refl, (_, _, record { actor = refl; task = refl; asked = refl; gives = refl; wins = tt })), ((refl, (_, _, record { actor = refl; task = refl; asked = refl; gives = tt; wins = unowned _ refl })), ((refl, (_, _, record { actor = refl; task = refl; asked = refl; gives = refl; wins = tt })), ((refl, (_, _, record { actor = refl; task = refl; asked = refl; gives = (refl, tt); wins = tt })), ((refl, (_, _, record { actor = refl; task = refl; asked = refl; gives = tt; wins = tt })), ((refl, (_, _, record { actor = refl; task = refl; asked = refl; gives = tt; wins = tt })), tt))))))))))))))))))))))))))))))))))))))))))))))))))))))))))))))
