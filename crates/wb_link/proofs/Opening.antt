-- No target: a second invariant, of a sequence alone. What the metadata and the devices hold, and how far an opening is;
-- at its answer the next life begins as the first did.
use Rattle.std.proofs.Common.{◌≡◌, ◌≢◌, ◌⊎◌, inl, inr, ℕ, Bool, true, false, cond, List, [], ◌∷◌, Some, None, refl, sym, ap, subst, ◌∙◌, Contains, length, replicate}
use Rattle.wb_disk.specs.Device.{Content, History, entries, newest, only}
use Rattle.wb_contents.specs.Volume.{Volume, Locations, location, at_location}
use Rattle.wb_types.specs.declared.mode.Mode.{Mode}
use Rattle.wb_types.specs.declared.mode.Mode.TheVariants.{Writeback, Writethrough, Passthrough}
use Rattle.wb_contents.specs.Acts.{Act, Crash, Find_image, Sync_cache, Sync_origin, Fail_cache_sync, Fail_origin_sync, Write_opening_root, Open, image_found, all_synced, partly_synced, volume_after as after_act, volume_after_all as after_acts}
use Rattle.wb_contents.specs.Conditions.{Admits, IsUnnamed, MayAct, IsRunOfActs as IsActs}
use Rattle.wb_contents.specs.Promises.{IsEntryFrom}
use Rattle.wb_contents.proofs.Positions.{only_one}
use Rattle.wb_contents.proofs.Run.{KeepsAll, all_kept, holds}
use Rattle.wb_link.specs.World.{Block, Free, Mapped, Nothing, Shared, AbstractActor, World, abstract_resting, drops}
use Rattle.wb_link.specs.Openings.{Learnt, Stage, Settling, Caching, Basing, Looking, Rooting, Renewing, Answering, AbstractPhase, Stands, Gone, Opens, Stopping, Outcome, Settled, Fine, Learns, Refused, Broke, Shown, found_locations, found_clean, abstract_decided, stopped, Admitted, opened_on, Yields, advanced, next_phase, MayStop, emptied}
use Rattle.wb_link.proofs.Link.{Ordered, Placing, Told, Bounded, Good, Sound, RestsAt, Disjoint, Safe, Linked}
use Rattle.wb_contents.proofs.Lists.{replicated}
use Rattle.wb_link.proofs.Steady.{quiet, part}
use Rattle.wb_link.proofs.Givings.{resting_safe}

-- Where nobody has anything, the desk's rules and resting blocks are all there is.
pub fresh : (size many : ℕ) (s : Shared) (d : Volume) → Good size s d → ((b : ℕ) → RestsAt s d b) → d.live ≡ true → Linked size (record { shared = s; actors = replicate many abstract_resting; waiting = λ k. None }) d
fresh size many s d g rest live = record {
  good = g;
  rests = λ b u. rest b;
  disjoint = λ a b x y e h n. subst (λ (v : AbstractActor). Disjoint v y) (replicated many a abstract_resting x e) (record { held = λ b e. absurd (cc); order = λ p q e f. absurd (cc); leads = λ e f. absurd (cc); alone = λ e. absurd (cc) });
  leads = λ a x e. subst (λ (v : AbstractActor). v.leads ≡ true → s.committing ≡ true) (replicated many a abstract_resting x e) (λ f. absurd (cc));
  stands = λ a x p e. subst (λ (v : AbstractActor). v.order ≡ Some p → Ordered (s.blocks p.cache)) (replicated many a abstract_resting x e) (λ f. absurd (cc));
  placed = λ a x p e. subst (λ (v : AbstractActor). v.order ≡ Some p → Placing s p) (replicated many a abstract_resting x e) (λ f. absurd (cc));
  orders = λ a x p e. subst (λ (v : AbstractActor). v.order ≡ Some p → d.mode ≢ Passthrough) (replicated many a abstract_resting x e) (λ f. absurd (cc));
  dropping = λ a x e. subst (λ (v : AbstractActor). drops v.task ≡ true → d.mode ≡ Passthrough) (replicated many a abstract_resting x e) (λ f. absurd (cc));
  resting = λ a x e. subst (λ (v : AbstractActor). v.task ≡ None → (v.held ≡ Nothing) ⊎ (s.fail ≡ true)) (replicated many a abstract_resting x e) (λ f. inl refl);
  living = λ nobody f. live;
  aside = record { at = λ k p e. absurd (cc); stands = λ k p e. absurd (cc); placed = λ k p e. absurd (cc); apart = λ k p a x q e. absurd (cc); each = λ j k p q e. absurd (cc); modes = λ k p e. absurd (cc) };
  safe = λ a x n e. subst (λ (v : AbstractActor). Safe n size a v s d) (replicated many a abstract_resting x e) (resting_safe n size a Nothing None false (λ o. []) s d);
}

pub record Empty (size : ℕ) (s : Shared) (d : Volume) : Type 0 where
  pub kept : KeepsAll d
  pub told : Told s d
  pub bounded : Bounded size d

-- a metadata sync has decided between the images; which data syncs are done since
pub record Decided (cached based : Bool) (d : Volume) : Type 0 where
  pub live : d.live ≡ false
  pub is_cached : cached ≡ true → d.cache_synced ≡ true
  pub is_based : based ≡ true → d.origin_synced ≡ true

-- what was read is the image
pub record Knows (mode : Mode) (i : Learnt) (d : Volume) : Type 0 where
  pub locations : i.locations ≡ d.committed.locations
  pub clean : (b k : ℕ) → i.locations b ≡ Some k → i.clean b ≡ d.committed.clean b
  pub admitted : Admitted mode i

-- the claim of each stage; until the first metadata sync there is none
abbrev pub Reached : Mode → Stage → Volume → Type 0
Reached mode Settling d = Unit {0}
Reached mode Caching d = Decided false false d × (d.root_written ≡ false)
Reached mode Basing d = Decided true false d × (d.root_written ≡ false)
Reached mode Looking d = Decided true true d × (d.root_written ≡ false)
Reached mode (Rooting i) d = Decided true true d × (d.root_written ≡ false) × Knows mode i d
Reached mode (Renewing i) d = Decided true true d × Knows mode i d
Reached mode (Answering i) d = Decided true true d × Knows mode i d

-- The invariant over lives.
abbrev pub Lived : ℕ → World → AbstractPhase → Volume → Type 0
Lived size w Stands d = Linked size w d
Lived size w Gone d = Empty size w.shared d
Lived size w (Opens mode stage) d = Empty size w.shared d × Reached mode stage d

-- whatever its phase, a site has no less than this
pub lived_empty : (size : ℕ) (w : World) (phase : AbstractPhase) (d : Volume) → Lived size w phase d → Empty size w.shared d
lived_empty size w Stands d i = record { kept = i.good.kept; told = i.good.agrees.told; bounded = i.good.bounded }
lived_empty size w Gone d i = i
lived_empty size w (Opens mode stage) d i = i.0

places_same : (s : Shared) (d : Volume) (n : Bool) → Told s d → found_locations s n ≡ (image_found d n).locations
places_same s d true g = g.running
places_same s d false g = g.committed

clean_same : (s : Shared) (d : Volume) (n : Bool) → Told s d → (b k : ℕ) → found_locations s n b ≡ Some k → found_clean s n b ≡ (image_found d n).clean b
clean_same s d true g = g.running_clean
clean_same s d false g = g.committed_clean

-- A crash, at any moment.

may_stop : (s : Shared) (d : Volume) (r : Stopping) → Told s d → MayStop s r → MayAct d (Crash r.origin r.cache r.new_root)
may_stop s d r g m = (
  λ e. sym g.root_written ∙ m.root e,
  λ b o. subst (λ (f : ℕ → ℕ → History). Contains (entries (f b o)) (r.origin b o)) g.origin (m.origin b o),
  λ k o. subst (λ (f : ℕ → ℕ → History). Contains (entries (f k o)) (r.cache k o)) g.cache (m.cache k o),
)

pub stop_run : (s : Shared) (d : Volume) (r : Stopping) → Told s d → MayStop s r → IsActs d (Crash r.origin r.cache r.new_root ∷ [])
stop_run s d r g m = (may_stop s d r g m, tt)

-- one content alone is left where there was one
one_left : (z : Content) (h : History) (c : Content) → h ≡ only z → Contains (entries h) c → only c ≡ only z
one_left z h c e i = ap only (sym (only_one z c (subst (λ (g : History). Contains (entries g) c) e i)))

sound_opened : (b : Block) (m : Locations) (k : ℕ) → (b ≡ Mapped) ⊎ ((b ≡ Free) × IsUnnamed m k) → Sound b m m m k
sound_opened b m k (inl e) = subst (λ (v : Block). Sound v m m m k) (sym e) tt
sound_opened b m k (inr f) = subst (λ (v : Block). Sound v m m m k) (sym f.0) (f.1, f.1, f.1)

pub stop_empty : (size : ℕ) (s : Shared) (d : Volume) (r : Stopping) → Empty size s d → MayStop s r → Empty size (stopped s r) (after_act d (Crash r.origin r.cache r.new_root))
stop_empty size s d r i m = record {
  kept = all_kept d (Crash r.origin r.cache r.new_root ∷ []) (stop_run s d r i.told m) i.kept;
  told = record { origin = refl; cache = refl; committed = places_same s d r.new_root i.told; running = places_same s d r.new_root i.told; root_written = refl; committed_clean = clean_same s d r.new_root i.told; running_clean = clean_same s d r.new_root i.told };
  bounded = (
    i.bounded.0,
    λ b o l. (
      one_left i.bounded.0 (d.origin b o) (r.origin b o) (i.bounded.1 b o l).0 (subst (λ (f : ℕ → ℕ → History). Contains (entries (f b o)) (r.origin b o)) i.told.origin (m.origin b o)),
      one_left i.bounded.0 (d.cache b o) (r.cache b o) (i.bounded.1 b o l).1 (subst (λ (f : ℕ → ℕ → History). Contains (entries (f b o)) (r.cache b o)) i.told.cache (m.cache b o)),
    ),
  );
}

-- The steps of an opening.

abbrev pub opening_acts : Mode → Stage → Outcome → List Act
opening_acts mode Settling (Settled new_root) = Find_image new_root ∷ []
opening_acts mode Caching Fine = Sync_cache ∷ []
opening_acts mode Caching (Broke lands) = Fail_cache_sync lands ∷ []
opening_acts mode Basing Fine = Sync_origin ∷ []
opening_acts mode Basing (Broke lands) = Fail_origin_sync lands ∷ []
opening_acts mode (Rooting i) Refused = []
opening_acts mode (Rooting i) outcome = Write_opening_root ∷ []
opening_acts mode (Answering i) (Shown blocks view) = Open mode ∷ []
opening_acts mode stage outcome = []

-- after a step
pub record Went (size : ℕ) (w : World) (mode : Mode) (stage : Stage) (outcome : Outcome) (d : Volume) : Type 0 where
  pub run : IsActs d (opening_acts mode stage outcome)
  pub lived : Lived size (emptied w (advanced w.shared mode stage outcome)) (next_phase mode stage outcome) (after_acts d (opening_acts mode stage outcome))

settled_empty : (size : ℕ) (s : Shared) (d : Volume) (n : Bool) → (n ≡ true → s.root_written ≡ true) → Empty size s d → Empty size (abstract_decided s n) (after_act d (Find_image n))
settled_empty size s d n m i = record {
  kept = all_kept d (Find_image n ∷ []) ((λ e. sym i.told.root_written ∙ m e), tt) i.kept;
  told = record { origin = i.told.origin; cache = i.told.cache; committed = places_same s d n i.told; running = places_same s d n i.told; root_written = refl; committed_clean = clean_same s d n i.told; running_clean = clean_same s d n i.told };
  bounded = (quiet size d (after_act d (Find_image n)) refl refl).bounded i.bounded;
}

cached_empty : (size : ℕ) (s : Shared) (d : Volume) → Empty size s d → Empty size (record s { cache = all_synced s.cache }) (after_act d Sync_cache)
cached_empty size s d i = record {
  kept = all_kept d (Sync_cache ∷ []) (tt, tt) i.kept;
  told = record { origin = i.told.origin; cache = ap (λ f. all_synced f) i.told.cache; committed = i.told.committed; running = i.told.running; root_written = i.told.root_written; committed_clean = i.told.committed_clean; running_clean = i.told.running_clean };
  bounded = (i.bounded.0, λ b q p. let j = i.bounded.1 b q p in (j.0, part true (d.cache b q) i.bounded.0 j.1));
}

partly_cached_empty : (size : ℕ) (s : Shared) (d : Volume) (choice : ℕ → ℕ → Bool) → Empty size s d → Empty size (record s { cache = partly_synced choice s.cache }) (after_act d (Fail_cache_sync choice))
partly_cached_empty size s d choice i = record {
  kept = all_kept d (Fail_cache_sync choice ∷ []) (tt, tt) i.kept;
  told = record { origin = i.told.origin; cache = ap (λ f. partly_synced choice f) i.told.cache; committed = i.told.committed; running = i.told.running; root_written = i.told.root_written; committed_clean = i.told.committed_clean; running_clean = i.told.running_clean };
  bounded = (i.bounded.0, λ b q p. let j = i.bounded.1 b q p in (j.0, part (choice b q) (d.cache b q) i.bounded.0 j.1));
}

based_empty : (size : ℕ) (s : Shared) (d : Volume) → Empty size s d → Empty size (record s { origin = all_synced s.origin }) (after_act d Sync_origin)
based_empty size s d i = record {
  kept = all_kept d (Sync_origin ∷ []) (tt, tt) i.kept;
  told = record { origin = ap (λ f. all_synced f) i.told.origin; cache = i.told.cache; committed = i.told.committed; running = i.told.running; root_written = i.told.root_written; committed_clean = i.told.committed_clean; running_clean = i.told.running_clean };
  bounded = (i.bounded.0, λ b q p. let j = i.bounded.1 b q p in (part true (d.origin b q) i.bounded.0 j.0, j.1));
}

partly_based_empty : (size : ℕ) (s : Shared) (d : Volume) (choice : ℕ → ℕ → Bool) → Empty size s d → Empty size (record s { origin = partly_synced choice s.origin }) (after_act d (Fail_origin_sync choice))
partly_based_empty size s d choice i = record {
  kept = all_kept d (Fail_origin_sync choice ∷ []) (tt, tt) i.kept;
  told = record { origin = ap (λ f. partly_synced choice f) i.told.origin; cache = i.told.cache; committed = i.told.committed; running = i.told.running; root_written = i.told.root_written; committed_clean = i.told.committed_clean; running_clean = i.told.running_clean };
  bounded = (i.bounded.0, λ b q p. let j = i.bounded.1 b q p in (part (choice b q) (d.origin b q) i.bounded.0 j.0, j.1));
}

-- from here on the old root and the new one may both be found
rooted_empty : (size : ℕ) (s : Shared) (d : Volume) (mode : Mode) (i : Learnt) → Empty size s d → d.live ≡ false → d.root_written ≡ false → Knows mode i d → Empty size (record s { running = i.locations; running_clean = λ b. false; root_written = true }) (after_act d Write_opening_root)
rooted_empty size s d mode i e l r k = record {
  kept = all_kept d (Write_opening_root ∷ []) ((l, r), tt) e.kept;
  told = record { origin = e.told.origin; cache = e.told.cache; committed = e.told.committed; running = k.locations; root_written = refl; committed_clean = e.told.committed_clean; running_clean = λ b k e. refl };
  bounded = (quiet size d (after_act d Write_opening_root) refl refl).bounded e.bounded;
}

decided_rooted : (d : Volume) → Decided true true d → Decided true true (after_act d Write_opening_root)
decided_rooted d i = record { live = i.live; is_cached = i.is_cached; is_based = i.is_based }

knows_rooted : (mode : Mode) (i : Learnt) (d : Volume) → Knows mode i d → Knows mode i (after_act d Write_opening_root)
knows_rooted mode i d k = record { locations = k.locations; clean = k.clean; admitted = k.admitted }

-- The answer.

admits : (mode : Mode) (i : Learnt) (d : Volume) → Knows mode i d → Admitted mode i → Admits mode d.committed
admits Writeback i d k m = tt
admits Writethrough i d k m = tt
admits Passthrough i d k m = λ b c e. let f : i.locations b ≡ Some c = ap (λ (v : Locations). v b) k.locations ∙ e in sym (k.clean b c f) ∙ m b c f

may_open : (mode : Mode) (i : Learnt) (d : Volume) → Decided true true d → Knows mode i d → MayAct d (Open mode)
may_open mode i d r k = (r.live, r.is_cached refl, r.is_based refl, admits mode i d k k.admitted)

pub shown_is : (s : Shared) (d : Volume) (mode : Mode) (i : Learnt) (view : ℕ → ℕ → Content) → Told s d → Knows mode i d → ((b o : ℕ) → view b o ≡ newest (at_location s.origin s.cache (i.locations b) b o)) → (b o : ℕ) → view b o ≡ newest (location d d.committed.locations b o)
shown_is s d mode i view g k v b o = v b o ∙ ap (λ (f : Locations). newest (at_location s.origin s.cache (f b) b o)) k.locations ∙ ap (λ (f : ℕ → ℕ → History). newest (at_location f s.cache (d.committed.locations b) b o)) g.origin ∙ ap (λ (f : ℕ → ℕ → History). newest (at_location d.origin f (d.committed.locations b) b o)) g.cache

pub shown_right : (size : ℕ) (s : Shared) (d : Volume) (mode : Mode) (i : Learnt) (view : ℕ → ℕ → Content) → Empty size s d → Decided true true d → Knows mode i d → ((b o : ℕ) → view b o ≡ newest (at_location s.origin s.cache (i.locations b) b o)) →
    (b o : ℕ) → IsEntryFrom (d.floor b o) (d.histories b o) (view b o)
shown_right size s d mode i view e r k v b o =
    let at = ((holds d e.kept).shown mode (may_open mode i d r k) b o).0 in
    subst (λ (c : Content). IsEntryFrom (d.floor b o) (d.histories b o) c) (sym (shown_is s d mode i view e.told k v b o)) at

opened_linked : (size : ℕ) (w : World) (d : Volume) (mode : Mode) (i : Learnt) (blocks : ℕ → Block) → Empty size w.shared d → Decided true true d → Knows mode i d → ((k : ℕ) → (blocks k ≡ Mapped) ⊎ ((blocks k ≡ Free) × IsUnnamed i.locations k)) →
    Linked size (emptied w (opened_on w.shared mode i blocks)) (after_act d (Open mode))
opened_linked size w d mode i blocks e r k m =
    fresh size (length w.actors) (opened_on w.shared mode i blocks) (after_act d (Open mode)) (record {
      kept = all_kept d (Open mode ∷ []) (may_open mode i d r k, tt) e.kept;
      agrees = record { told = record { origin = e.told.origin; cache = e.told.cache; committed = k.locations; running = k.locations; root_written = refl; committed_clean = λ b k e. refl; running_clean = λ b k e. refl }; mapping = k.locations; live = refl; mode = refl; began = refl; ended = refl };
      bounded = (quiet size d (after_act d (Open mode)) refl refl).bounded e.bounded;
      sound = λ c. sound_opened (blocks c) i.locations c (m c);
      idle = λ e. refl;
    }) (λ b. record {
      whole = λ o. refl;
      location = ap (λ (f : Locations). f b) k.locations;
      dirty = λ c e. ap (λ v. cond v false true) (k.clean b c (ap (λ (f : Locations). f b) k.locations ∙ e));
      done = λ o. refl;
    }) refl

pub opening_goes : (size : ℕ) (w : World) (mode : Mode) (stage : Stage) (outcome : Outcome) (d : Volume) → Empty size w.shared d → Reached mode stage d → Yields w.shared mode stage outcome → Went size w mode stage outcome d
opening_goes size w mode Settling (Settled n) d e r y = record {
  run = ((λ f. sym e.told.root_written ∙ y f), tt);
  lived = (settled_empty size w.shared d n y e, (record { live = refl; is_cached = λ f. absurd (cc); is_based = λ f. absurd (cc) }, refl));
}
opening_goes size w mode Settling (Broke lands) d e r y = record { run = tt; lived = e }
opening_goes size w mode Caching Fine d e r y = record {
  run = (tt, tt);
  lived = (cached_empty size w.shared d e, (record { live = r.0.live; is_cached = λ f. refl; is_based = λ f. absurd (cc) }, r.1));
}
opening_goes size w mode Caching (Broke lands) d e r y = record { run = (tt, tt); lived = partly_cached_empty size w.shared d lands e }
opening_goes size w mode Basing Fine d e r y = record {
  run = (tt, tt);
  lived = (based_empty size w.shared d e, (record { live = r.0.live; is_cached = r.0.is_cached; is_based = λ f. refl }, r.1));
}
opening_goes size w mode Basing (Broke lands) d e r y = record { run = (tt, tt); lived = partly_based_empty size w.shared d lands e }
opening_goes size w mode Looking (Learns i) d e r y = record {
  run = tt;
  lived = (
    e,
    (
      r.0,
      r.1,
      record {
        locations = y.0 ∙ e.told.committed;
        clean = λ b k f. ap (λ g. g b) y.1 ∙ e.told.committed_clean b k (sym (ap (λ (g : Locations). g b) y.0) ∙ f);
        admitted = y.2;
      },
    ),
  );
}
opening_goes size w mode Looking Refused d e r y = record { run = tt; lived = e }
opening_goes size w mode Looking (Broke lands) d e r y = record { run = tt; lived = e }
opening_goes size w mode (Rooting i) Fine d e r y = record {
  run = ((r.0.live, r.1), tt);
  lived = (rooted_empty size w.shared d mode i e r.0.live r.1 r.2, (decided_rooted d r.0, knows_rooted mode i d r.2));
}
opening_goes size w mode (Rooting i) (Broke lands) d e r y = record { run = ((r.0.live, r.1), tt); lived = rooted_empty size w.shared d mode i e r.0.live r.1 r.2 }
opening_goes size w mode (Rooting i) Refused d e r y = record { run = tt; lived = e }
opening_goes size w mode (Renewing i) Fine d e r y = record { run = tt; lived = (e, r) }
opening_goes size w mode (Renewing i) (Broke lands) d e r y = record { run = tt; lived = e }
opening_goes size w mode (Answering i) (Shown blocks view) d e r y = record { run = (may_open mode i d r.0 r.1, tt); lived = opened_linked size w d mode i blocks e r.0 r.1 y.0 }
opening_goes size w mode stage outcome d e r y = absurd y
