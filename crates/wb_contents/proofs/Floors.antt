use Rattle.std.proofs.Common.{◌≡◌, ◌≤◌, ◌⊎◌, inl, inr, ℕ, Bool, true, false, cond, Option, Some, None, length, refl, sym, ap, subst, ◌∙◌, arith}
use Rattle.std.proofs.lemmas.Bool.{cases_eq}
use Rattle.wb_disk.specs.Device.{Content, History, newest, added, only}
use Rattle.wb_contents.specs.Promises.{IsEntryFrom, AllEntriesFrom}
use Rattle.wb_contents.specs.Volume.{Locations, at_location, changed, changed_at}
use Rattle.wb_contents.specs.Conditions.{IsUnnamed}
use Rattle.wb_contents.specs.Acts.{all_synced, partly_synced}
use Rattle.wb_contents.proofs.Positions.{at_within, changed_same, changed_other}
use Rattle.wb_contents.proofs.Better.{IsNoWorse, all_better, newest_better, better_same, better_noted, better_added, better_copied, better_synced, by_place, changed_at_same}

-- What the floors rest on: no life, dirty bit or mode.
pub record Floored : Type 0 where
  pub origin : ℕ → ℕ → History
  pub cache : ℕ → ℕ → History
  pub mapping : Locations
  pub committed : Locations
  pub running : Locations
  pub root_written : Bool
  pub cache_synced : Bool
  pub origin_synced : Bool
  pub histories : ℕ → ℕ → History
  pub finished : ℕ → ℕ → ℕ
  pub committed_floor : ℕ → ℕ → ℕ
  pub running_floor : ℕ → ℕ → ℕ

abbrev pub there : Floored → Locations → ℕ → ℕ → History
there d locations b o = at_location d.origin d.cache (locations b) b o

abbrev pub HasHomes : (ℕ → Option ℕ) → Locations → Type 0
HasHomes home locations = (b k : ℕ) → locations b ≡ Some k → home k ≡ Some b

pub record KeepsFloors (d : Floored) : Type 0 where
  -- a crash that leaves the committed image leaves allowed contents; so does one that leaves the running image, once its root is written
  pub committed_allowed : (b o : ℕ) → AllEntriesFrom (d.committed_floor b o) (d.histories b o) (there d d.committed b o)
  pub running_allowed : d.root_written ≡ true → (b o : ℕ) → AllEntriesFrom (d.running_floor b o) (d.histories b o) (there d d.running b o)
  -- before that, from each sync on
  pub running_cache : (b k o : ℕ) → d.cache_synced ≡ true → d.running b ≡ Some k → AllEntriesFrom (d.running_floor b o) (d.histories b o) (d.cache k o)
  pub running_origin : (b o : ℕ) → d.origin_synced ≡ true → d.running b ≡ None → AllEntriesFrom (d.running_floor b o) (d.histories b o) (d.origin b o)
  pub running_newest : (b o : ℕ) → IsEntryFrom (d.running_floor b o) (d.histories b o) (newest (there d d.running b o))
  -- the mapping's location has a finished write or a later one
  pub mapping_newest : (b o : ℕ) → IsEntryFrom (d.finished b o) (d.histories b o) (newest (there d d.mapping b o))
  pub running_finished : (b o : ℕ) → d.running_floor b o ≤ d.finished b o
  pub committed_running : (b o : ℕ) → d.committed_floor b o ≤ d.running_floor b o
  -- no two blocks have one cache block in any of the three
  pub home : ℕ → Option ℕ
  pub home_of_mapping : HasHomes home d.mapping
  pub home_of_committed : HasHomes home d.committed
  pub home_of_running : HasHomes home d.running

abbrev pub gone_on : Floored → (ℕ → ℕ → History) → (ℕ → ℕ → History) → (ℕ → ℕ → History) → Floored
gone_on d origin cache histories = record d { origin = origin; cache = cache; histories = histories }

-- Whatever an image names is no worse: then all is kept.
pub kept_by : (d : Floored) (origin cache histories : ℕ → ℕ → History) (i : KeepsFloors d) →
    ((p : Option ℕ) (b o : ℕ) → ((k : ℕ) → p ≡ Some k → i.home k ≡ Some b) → IsNoWorse (d.finished b o) (d.histories b o) (at_location d.origin d.cache p b o) (histories b o) (at_location origin cache p b o)) →
    KeepsFloors (gone_on d origin cache histories)
kept_by d origin cache histories i better = record {
  committed_allowed = λ b o. all_better (d.committed_floor b o) (d.finished b o) (d.histories b o) (there d d.committed b o) (histories b o) (at_location origin cache (d.committed b) b o) (let s = i.running_finished b o in let m = i.committed_running b o in omega arith) (better (d.committed b) b o (λ k e. i.home_of_committed b k e)) (i.committed_allowed b o);
  running_allowed = λ r b o. all_better (d.running_floor b o) (d.finished b o) (d.histories b o) (there d d.running b o) (histories b o) (at_location origin cache (d.running b) b o) (i.running_finished b o) (better (d.running b) b o (λ k e. i.home_of_running b k e)) (i.running_allowed r b o);
  running_cache = λ b k o s e. all_better (d.running_floor b o) (d.finished b o) (d.histories b o) (d.cache k o) (histories b o) (cache k o) (i.running_finished b o) (better (Some k) b o (λ j f. i.home_of_running b j (e ∙ f))) (i.running_cache b k o s e);
  running_origin = λ b o s e. all_better (d.running_floor b o) (d.finished b o) (d.histories b o) (d.origin b o) (histories b o) (origin b o) (i.running_finished b o) (better None b o (λ j f. absurd (cc))) (i.running_origin b o s e);
  running_newest = λ b o. newest_better (d.running_floor b o) (d.finished b o) (d.histories b o) (there d d.running b o) (histories b o) (at_location origin cache (d.running b) b o) (i.running_finished b o) (better (d.running b) b o (λ k e. i.home_of_running b k e)) (i.running_newest b o);
  mapping_newest = λ b o. newest_better (d.finished b o) (d.finished b o) (d.histories b o) (there d d.mapping b o) (histories b o) (at_location origin cache (d.mapping b) b o) (omega arith) (better (d.mapping b) b o (λ k e. i.home_of_mapping b k e)) (i.mapping_newest b o);
  running_finished = i.running_finished;
  committed_running = i.committed_running;
  home = i.home;
  home_of_mapping = i.home_of_mapping;
  home_of_committed = i.home_of_committed;
  home_of_running = i.home_of_running;
}

-- a sector of the origin gets what stands in the history from the last finished write on
pub copied_kept : (d : Floored) (b o : ℕ) (x : Content) → IsEntryFrom (d.finished b o) (d.histories b o) x → KeepsFloors d → KeepsFloors (gone_on d (changed_at d.origin b o (added (d.origin b o) x)) d.cache d.histories)
copied_kept d b o x at i = kept_by d (changed_at d.origin b o (added (d.origin b o) x)) d.cache d.histories i better where
  better : (p : Option ℕ) (b' o' : ℕ) → ((k : ℕ) → p ≡ Some k → i.home k ≡ Some b') → IsNoWorse (d.finished b' o') (d.histories b' o') (at_location d.origin d.cache p b' o') (d.histories b' o') (at_location (changed_at d.origin b o (added (d.origin b o) x)) d.cache p b' o')
  better None b' o' home = by_place (λ b' o' h. IsNoWorse (d.finished b' o') (d.histories b' o') (d.origin b' o') (d.histories b' o') h) d.origin b o b' o' (added (d.origin b o) x)
      (λ e f. better_copied (d.finished b o) (d.histories b o) (d.origin b o) x at)
      (λ n. better_same (d.finished b' o') (d.histories b' o') (d.origin b' o'))
  better (Some k) b' o' home = better_same (d.finished b' o') (d.histories b' o') (d.cache k o')

-- so does a sector of the cache
pub through_kept : (d : Floored) (b k o : ℕ) (x : Content) → d.mapping b ≡ Some k → IsEntryFrom (d.finished b o) (d.histories b o) x → KeepsFloors d → KeepsFloors (gone_on d d.origin (changed_at d.cache k o (added (d.cache k o) x)) d.histories)
through_kept d b k o x m at i = kept_by d d.origin (changed_at d.cache k o (added (d.cache k o) x)) d.histories i better where
  better : (p : Option ℕ) (b' o' : ℕ) → ((j : ℕ) → p ≡ Some j → i.home j ≡ Some b') → IsNoWorse (d.finished b' o') (d.histories b' o') (at_location d.origin d.cache p b' o') (d.histories b' o') (at_location d.origin (changed_at d.cache k o (added (d.cache k o) x)) p b' o')
  better None b' o' home = better_same (d.finished b' o') (d.histories b' o') (d.origin b' o')
  better (Some j) b' o' home = by_place (λ j' o' h. (i.home j' ≡ Some b') → IsNoWorse (d.finished b' o') (d.histories b' o') (d.cache j' o') (d.histories b' o') h) d.cache k o j o' (added (d.cache k o) x)
      (λ e f here. let some : Some b ≡ Some b' = sym (i.home_of_mapping b k m) ∙ here in let same : b ≡ b' = cc in
      subst (λ (v : ℕ). IsNoWorse (d.finished v o) (d.histories v o) (d.cache k o) (d.histories v o) (added (d.cache k o) x)) same (better_copied (d.finished b o) (d.histories b o) (d.cache k o) x at))
      (λ n here. better_same (d.finished b' o') (d.histories b' o') (d.cache j o')) (home j refl)

-- a free cache block gets a home, and loses it
pub home_more : (home : ℕ → Option ℕ) (locations : Locations) (k b : ℕ) → home k ≡ None → HasHomes home locations → HasHomes (changed home k (Some b)) locations
home_more home locations k b nothing i b' j e = elim (cases_eq j k) [
  | inl s ↦ let here : home k ≡ Some b' = ap home (sym s) ∙ i b' j e in absurd (cc)
  | inr n ↦ changed_other home k j (Some b) n ∙ i b' j e
]

pub home_less : (home : ℕ → Option ℕ) (locations : Locations) (k : ℕ) → IsUnnamed locations k → HasHomes home locations → HasHomes (changed home k None) locations
home_less home locations k free i b' j e = elim (cases_eq j k) [
  | inl s ↦ absurd (free b' (e ∙ ap (λ v. Some v) s))
  | inr n ↦ changed_other home k j None n ∙ i b' j e
]

-- an unused cache block has no home
pub freed : (d : Floored) (k : ℕ) → IsUnnamed d.mapping k → IsUnnamed d.committed k → IsUnnamed d.running k → KeepsFloors d → (j : KeepsFloors d) × (j.home k ≡ None)
freed d k m c r i = (
  record i {
    home = changed i.home k None;
    home_of_mapping = home_less i.home d.mapping k m i.home_of_mapping;
    home_of_committed = home_less i.home d.committed k c i.home_of_committed;
    home_of_running = home_less i.home d.running k r i.home_of_running;
  },
  changed_same i.home k None,
)

-- a sector of a free cache block gets anything
pub fill_kept : (d : Floored) (k o : ℕ) (x : Content) (i : KeepsFloors d) → i.home k ≡ None → KeepsFloors (gone_on d d.origin (changed_at d.cache k o (added (d.cache k o) x)) d.histories)
fill_kept d k o x i nothing = kept_by d d.origin (changed_at d.cache k o (added (d.cache k o) x)) d.histories i better where
  better : (p : Option ℕ) (b' o' : ℕ) → ((j : ℕ) → p ≡ Some j → i.home j ≡ Some b') → IsNoWorse (d.finished b' o') (d.histories b' o') (at_location d.origin d.cache p b' o') (d.histories b' o') (at_location d.origin (changed_at d.cache k o (added (d.cache k o) x)) p b' o')
  better None b' o' home = better_same (d.finished b' o') (d.histories b' o') (d.origin b' o')
  better (Some j) b' o' home = by_place (λ j' o' h. (i.home j' ≡ Some b') → IsNoWorse (d.finished b' o') (d.histories b' o') (d.cache j' o') (d.histories b' o') h) d.cache k o j o' (added (d.cache k o) x)
      (λ e f here. absurd (cc)) (λ n here. better_same (d.finished b' o') (d.histories b' o') (d.cache j o')) (home j refl)

-- each list of one device is kept, or its newest alone is left
abbrev pub IsShorter : (ℕ → ℕ → History) → (ℕ → ℕ → History) → Type 0
IsShorter f g = (i o : ℕ) → (g i o ≡ f i o) ⊎ (g i o ≡ only (newest (f i o)))

pub better_shorter : (f : ℕ) (g h h' : History) → (h' ≡ h) ⊎ (h' ≡ only (newest h)) → IsNoWorse f g h g h'
better_shorter f g h h' s = elim s [
  | inl e ↦ subst (λ (x : History). IsNoWorse f g h g x) (sym e) (better_same f g h)
  | inr e ↦ subst (λ (x : History). IsNoWorse f g h g x) (sym e) (better_synced f g h)
]

pub shorter_kept : (d : Floored) (origin cache : ℕ → ℕ → History) → IsShorter d.origin origin → IsShorter d.cache cache → KeepsFloors d → KeepsFloors (gone_on d origin cache d.histories)
shorter_kept d origin cache so sc i = kept_by d origin cache d.histories i better where
  better : (p : Option ℕ) (b' o' : ℕ) → ((j : ℕ) → p ≡ Some j → i.home j ≡ Some b') → IsNoWorse (d.finished b' o') (d.histories b' o') (at_location d.origin d.cache p b' o') (d.histories b' o') (at_location origin cache p b' o')
  better None b' o' home = better_shorter (d.finished b' o') (d.histories b' o') (d.origin b' o') (origin b' o') (so b' o')
  better (Some j) b' o' home = better_shorter (d.finished b' o') (d.histories b' o') (d.cache j o') (cache j o') (sc j o')

pub shorter_synced : (f : ℕ → ℕ → History) → IsShorter f (all_synced f)
shorter_synced f i o = inr refl

pub shorter_same : (f : ℕ → ℕ → History) → IsShorter f f
shorter_same f i o = inl refl

pub shorter_partly : (choice : ℕ → ℕ → Bool) (f : ℕ → ℕ → History) → IsShorter f (partly_synced choice f)
shorter_partly choice f i o = go (choice i o) where
  go : (t : Bool) → (cond t (only (newest (f i o))) (f i o) ≡ f i o) ⊎ (cond t (only (newest (f i o))) (f i o) ≡ only (newest (f i o)))
  go true = inr refl
  go false = inl refl

-- a history got an entry, and a list stays
pub noted_at : (d : Floored) (b o b' o' : ℕ) (c : Content) (h : History) → IsNoWorse (d.finished b' o') (d.histories b' o') h (changed_at d.histories b o (added (d.histories b o) c) b' o') h
noted_at d b o b' o' c h = by_place (λ b' o' g. IsNoWorse (d.finished b' o') (d.histories b' o') h g h) d.histories b o b' o' (added (d.histories b o) c)
    (λ e f. better_noted (d.finished b o) (d.histories b o) h c) (λ n. better_same (d.finished b' o') (d.histories b' o') h)

pub added_at : (d : Floored) (b o : ℕ) (c : Content) (h : History) → d.finished b o ≤ length (d.histories b o).later → IsNoWorse (d.finished b o) (d.histories b o) h (changed_at d.histories b o (added (d.histories b o) c) b o) (added h c)
added_at d b o c h m = subst (λ (g : History). IsNoWorse (d.finished b o) (d.histories b o) h g (added h c)) (sym (changed_at_same d.histories b o (added (d.histories b o) c))) (better_added (d.finished b o) (d.histories b o) h c m)

pub finished_bound : (d : Floored) (b o : ℕ) → KeepsFloors d → d.finished b o ≤ length (d.histories b o).later
finished_bound d b o i = at_within (d.finished b o) (d.histories b o) (newest (there d d.mapping b o)) (i.mapping_newest b o)

-- a write to the origin
pub write_origin_kept : (d : Floored) (b o : ℕ) (c : Content) → KeepsFloors d → KeepsFloors (gone_on d (changed_at d.origin b o (added (d.origin b o) c)) d.cache (changed_at d.histories b o (added (d.histories b o) c)))
write_origin_kept d b o c i = kept_by d (changed_at d.origin b o (added (d.origin b o) c)) d.cache (changed_at d.histories b o (added (d.histories b o) c)) i better where
  better : (p : Option ℕ) (b' o' : ℕ) → ((k : ℕ) → p ≡ Some k → i.home k ≡ Some b') → IsNoWorse (d.finished b' o') (d.histories b' o') (at_location d.origin d.cache p b' o') (changed_at d.histories b o (added (d.histories b o) c) b' o') (at_location (changed_at d.origin b o (added (d.origin b o) c)) d.cache p b' o')
  better None b' o' home = by_place (λ b' o' h. IsNoWorse (d.finished b' o') (d.histories b' o') (d.origin b' o') (changed_at d.histories b o (added (d.histories b o) c) b' o') h) d.origin b o b' o' (added (d.origin b o) c)
      (λ e f. added_at d b o c (d.origin b o) (finished_bound d b o i)) (λ n. noted_at d b o b' o' c (d.origin b' o'))
  better (Some k) b' o' home = noted_at d b o b' o' c (d.cache k o')

-- a write to the cache block that has this block
pub write_cache_kept : (d : Floored) (b o k : ℕ) (c : Content) → d.mapping b ≡ Some k → KeepsFloors d → KeepsFloors (gone_on d d.origin (changed_at d.cache k o (added (d.cache k o) c)) (changed_at d.histories b o (added (d.histories b o) c)))
write_cache_kept d b o k c m i = kept_by d d.origin (changed_at d.cache k o (added (d.cache k o) c)) (changed_at d.histories b o (added (d.histories b o) c)) i better where
  better : (p : Option ℕ) (b' o' : ℕ) → ((j : ℕ) → p ≡ Some j → i.home j ≡ Some b') → IsNoWorse (d.finished b' o') (d.histories b' o') (at_location d.origin d.cache p b' o') (changed_at d.histories b o (added (d.histories b o) c) b' o') (at_location d.origin (changed_at d.cache k o (added (d.cache k o) c)) p b' o')
  better None b' o' home = noted_at d b o b' o' c (d.origin b' o')
  better (Some j) b' o' home = by_place (λ j' o' h. (i.home j' ≡ Some b') → IsNoWorse (d.finished b' o') (d.histories b' o') (d.cache j' o') (changed_at d.histories b o (added (d.histories b o) c) b' o') h) d.cache k o j o' (added (d.cache k o) c)
      (λ e f here. let some : Some b ≡ Some b' = sym (i.home_of_mapping b k m) ∙ here in let same : b ≡ b' = cc in
      subst (λ (v : ℕ). IsNoWorse (d.finished v o) (d.histories v o) (d.cache k o) (changed_at d.histories b o (added (d.histories b o) c) v o) (added (d.cache k o) c)) same (added_at d b o c (d.cache k o) (finished_bound d b o i)))
      (λ n here. noted_at d b o b' o' c (d.cache j o')) (home j refl)

-- a write that never arrives
pub lost_kept : (d : Floored) (b o : ℕ) (c : Content) → KeepsFloors d → KeepsFloors (gone_on d d.origin d.cache (changed_at d.histories b o (added (d.histories b o) c)))
lost_kept d b o c i = kept_by d d.origin d.cache (changed_at d.histories b o (added (d.histories b o) c)) i (λ p b' o' home. noted_at d b o b' o' c (at_location d.origin d.cache p b' o'))
