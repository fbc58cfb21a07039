use Rattle.std.proofs.Common.{◌≡◌, ◌≤◌, inl, inr, ℕ, true, false, Option, Some, None, refl, sym, ap, subst, ◌∙◌, arith, Contains}
use Rattle.std.proofs.lemmas.Bool.{cases_eq}
use Rattle.wb_disk.specs.Device.{Content, History, entries, newest, only}
use Rattle.wb_contents.specs.Promises.{IsEntryFrom, AllEntriesFrom}
use Rattle.wb_contents.specs.Volume.{Locations, at_location, changed, changed_at}
use Rattle.wb_contents.specs.Acts.{all_synced}
use Rattle.wb_contents.proofs.Positions.{changed_same, changed_other, only_one}
use Rattle.wb_disk.proofs.Leaving.{newest_there}
use Rattle.wb_contents.proofs.Floors.{Floored, KeepsFloors, HasHomes, there, home_more, shorter_kept, shorter_synced, shorter_same}

-- the image is taken of the mapping
pub begin_kept : (d : Floored) → d.root_written ≡ false → KeepsFloors d → KeepsFloors (record d { running = d.mapping; running_floor = d.finished; cache_synced = false; origin_synced = false })
begin_kept d unrooted i = record {
  committed_allowed = i.committed_allowed;
  running_allowed = λ r. absurd (cc);
  running_cache = λ b k o s e. absurd (cc);
  running_origin = λ b o s e. absurd (cc);
  running_newest = i.mapping_newest;
  mapping_newest = i.mapping_newest;
  running_finished = λ b o. omega arith;
  committed_running = λ b o. let s = i.running_finished b o in let m = i.committed_running b o in omega arith;
  home = i.home;
  home_of_mapping = i.home_of_mapping;
  home_of_committed = i.home_of_committed;
  home_of_running = i.home_of_mapping;
}

pub sync_cache_kept : (d : Floored) → KeepsFloors d → KeepsFloors (record d { cache = all_synced d.cache; cache_synced = true })
sync_cache_kept d i = let j = shorter_kept d d.origin (all_synced d.cache) (shorter_same d.origin) (shorter_synced d.cache) i in record {
  committed_allowed = j.committed_allowed;
  running_allowed = j.running_allowed;
  running_cache = λ b k o s e c m. subst (λ (x : Content). IsEntryFrom (d.running_floor b o) (d.histories b o) x) (ap (λ p. newest (at_location d.origin d.cache p b o)) e ∙ only_one (newest (d.cache k o)) c m) (i.running_newest b o);
  running_origin = j.running_origin;
  running_newest = j.running_newest;
  mapping_newest = j.mapping_newest;
  running_finished = i.running_finished;
  committed_running = i.committed_running;
  home = j.home;
  home_of_mapping = j.home_of_mapping;
  home_of_committed = j.home_of_committed;
  home_of_running = j.home_of_running;
}

pub sync_origin_kept : (d : Floored) → KeepsFloors d → KeepsFloors (record d { origin = all_synced d.origin; origin_synced = true })
sync_origin_kept d i = let j = shorter_kept d (all_synced d.origin) d.cache (shorter_synced d.origin) (shorter_same d.cache) i in record {
  committed_allowed = j.committed_allowed;
  running_allowed = j.running_allowed;
  running_cache = j.running_cache;
  running_origin = λ b o s e c m. subst (λ (x : Content). IsEntryFrom (d.running_floor b o) (d.histories b o) x) (ap (λ p. newest (at_location d.origin d.cache p b o)) e ∙ only_one (newest (d.origin b o)) c m) (i.running_newest b o);
  running_newest = j.running_newest;
  mapping_newest = j.mapping_newest;
  running_finished = i.running_finished;
  committed_running = i.committed_running;
  home = j.home;
  home_of_mapping = j.home_of_mapping;
  home_of_committed = j.home_of_committed;
  home_of_running = j.home_of_running;
}

-- the running image's contents are allowed once both are synced
pub both_synced : (d : Floored) (p : Option ℕ) (b o : ℕ) → d.running b ≡ p → KeepsFloors d → d.cache_synced ≡ true → d.origin_synced ≡ true → AllEntriesFrom (d.running_floor b o) (d.histories b o) (at_location d.origin d.cache p b o)
both_synced d None b o e i s t = i.running_origin b o t e
both_synced d (Some k) b o e i s t = i.running_cache b k o s e

pub root_kept : (d : Floored) → d.cache_synced ≡ true → d.origin_synced ≡ true → KeepsFloors d → KeepsFloors (record d { root_written = true })
root_kept d s t i = record {
  committed_allowed = i.committed_allowed;
  running_allowed = λ r b o. both_synced d (d.running b) b o refl i s t;
  running_cache = i.running_cache;
  running_origin = i.running_origin;
  running_newest = i.running_newest;
  mapping_newest = i.mapping_newest;
  running_finished = i.running_finished;
  committed_running = i.committed_running;
  home = i.home;
  home_of_mapping = i.home_of_mapping;
  home_of_committed = i.home_of_committed;
  home_of_running = i.home_of_running;
}

pub end_kept : (d : Floored) → d.root_written ≡ true → KeepsFloors d → KeepsFloors (record d { committed = d.running; committed_floor = d.running_floor; root_written = false })
end_kept d r i = record {
  committed_allowed = i.running_allowed r;
  running_allowed = λ r. absurd (cc);
  running_cache = i.running_cache;
  running_origin = i.running_origin;
  running_newest = i.running_newest;
  mapping_newest = i.mapping_newest;
  running_finished = i.running_finished;
  committed_running = λ b o. omega arith;
  home = i.home;
  home_of_mapping = i.home_of_mapping;
  home_of_committed = i.home_of_running;
  home_of_running = i.home_of_running;
}

-- a list that is part of another
abbrev pub IsWithin : History → History → Type 0
IsWithin g h = (c : Content) → Contains (entries g) c → Contains (entries h) c

pub all_within : (k : ℕ) (g h h' : History) → IsWithin h' h → AllEntriesFrom k g h → AllEntriesFrom k g h'
all_within k g h h' w a c m = a c (w c m)

pub within_only : (h : History) (c : Content) → Contains (entries h) c → IsWithin (only c) h
within_only h c m d n = subst (λ (x : Content). Contains (entries h) x) (only_one c d n) m

pub within_place : (origin cache origin' cache' : ℕ → ℕ → History) → ((b o : ℕ) → IsWithin (origin' b o) (origin b o)) → ((k o : ℕ) → IsWithin (cache' k o) (cache k o)) → (p : Option ℕ) (b o : ℕ) → IsWithin (at_location origin' cache' p b o) (at_location origin cache p b o)
within_place origin cache origin' cache' wo wc None b o = wo b o
within_place origin cache origin' cache' wo wc (Some k) b o = wc k o

-- A life ends: one image, of which all contents that are left were allowed.
abbrev pub ended : Floored → (ℕ → ℕ → History) → (ℕ → ℕ → History) → Locations → Floored
ended d origin cache locations = record d { origin = origin; cache = cache; mapping = locations; committed = locations; running = locations; root_written = false; cache_synced = false; origin_synced = false; finished = d.committed_floor; running_floor = d.committed_floor }

pub ended_kept : (d : Floored) (origin' cache' : ℕ → ℕ → History) (locations : Locations) (home : ℕ → Option ℕ) → HasHomes home locations →
    ((b o : ℕ) → IsWithin (origin' b o) (d.origin b o)) → ((k o : ℕ) → IsWithin (cache' k o) (d.cache k o)) →
    ((b o : ℕ) → AllEntriesFrom (d.committed_floor b o) (d.histories b o) (there d locations b o)) → KeepsFloors (ended d origin' cache' locations)
ended_kept d origin' cache' locations home homes wo wc a = record {
  committed_allowed = allowed;
  running_allowed = λ r. absurd (cc);
  running_cache = λ b k o s e. absurd (cc);
  running_origin = λ b o s e. absurd (cc);
  running_newest = fresh;
  mapping_newest = fresh;
  running_finished = λ b o. omega arith;
  committed_running = λ b o. omega arith;
  home = home;
  home_of_mapping = homes;
  home_of_committed = homes;
  home_of_running = homes;
} where
  allowed : (b o : ℕ) → AllEntriesFrom (d.committed_floor b o) (d.histories b o) (at_location origin' cache' (locations b) b o)
  allowed b o = all_within (d.committed_floor b o) (d.histories b o) (there d locations b o) (at_location origin' cache' (locations b) b o) (within_place d.origin d.cache origin' cache' wo wc (locations b) b o) (a b o)

  fresh : (b o : ℕ) → IsEntryFrom (d.committed_floor b o) (d.histories b o) (newest (at_location origin' cache' (locations b) b o))
  fresh b o = allowed b o (newest (at_location origin' cache' (locations b) b o)) (newest_there (at_location origin' cache' (locations b) b o))

-- the opening's root: the same locations
pub open_root_kept : (d : Floored) → KeepsFloors d → KeepsFloors (record d { running = d.committed; running_floor = d.committed_floor; root_written = true })
open_root_kept d i = record {
  committed_allowed = i.committed_allowed;
  running_allowed = λ r. i.committed_allowed;
  running_cache = λ b k o s e. subst (λ (p : Option ℕ). AllEntriesFrom (d.committed_floor b o) (d.histories b o) (at_location d.origin d.cache p b o)) e (i.committed_allowed b o);
  running_origin = λ b o s e. subst (λ (p : Option ℕ). AllEntriesFrom (d.committed_floor b o) (d.histories b o) (at_location d.origin d.cache p b o)) e (i.committed_allowed b o);
  running_newest = λ b o. i.committed_allowed b o (newest (there d d.committed b o)) (newest_there (there d d.committed b o));
  mapping_newest = i.mapping_newest;
  running_finished = λ b o. let s = i.running_finished b o in let m = i.committed_running b o in omega arith;
  committed_running = λ b o. omega arith;
  home = i.home;
  home_of_mapping = i.home_of_mapping;
  home_of_committed = i.home_of_committed;
  home_of_running = i.home_of_committed;
}

-- A life begins: each list has one content, and the histories begin with what is visible.
abbrev pub begun : Floored → Floored
begun d = record d { mapping = d.committed; running = d.committed; root_written = false; cache_synced = false; origin_synced = false; histories = λ b o. only (newest (there d d.committed b o)); finished = λ b o. 0; committed_floor = λ b o. 0; running_floor = λ b o. 0 }

-- all that a list holds is its newest
abbrev pub IsQuiet : History → Type 0
IsQuiet h = (c : Content) → Contains (entries h) c → c ≡ newest h

pub quiet_place : (origin cache : ℕ → ℕ → History) → ((b o : ℕ) → IsQuiet (origin b o)) → ((k o : ℕ) → IsQuiet (cache k o)) → (p : Option ℕ) (b o : ℕ) → IsQuiet (at_location origin cache p b o)
quiet_place origin cache qo qc None b o = qo b o
quiet_place origin cache qo qc (Some k) b o = qc k o

pub begun_kept : (d : Floored) → ((b o : ℕ) → IsQuiet (d.origin b o)) → ((k o : ℕ) → IsQuiet (d.cache k o)) → KeepsFloors d → KeepsFloors (begun d)
begun_kept d qo qc i = record {
  committed_allowed = λ b o c m. (0, omega arith, ap (λ y. Some y) (sym (quiet_place d.origin d.cache qo qc (d.committed b) b o c m)));
  running_allowed = λ r. absurd (cc);
  running_cache = λ b k o s e. absurd (cc);
  running_origin = λ b o s e. absurd (cc);
  running_newest = λ b o. (0, omega arith, refl);
  mapping_newest = λ b o. (0, omega arith, refl);
  running_finished = λ b o. omega arith;
  committed_running = λ b o. omega arith;
  home = i.home;
  home_of_mapping = i.home_of_committed;
  home_of_committed = i.home_of_committed;
  home_of_running = i.home_of_committed;
}

-- a block moves to the cache after its copy
pub map_kept : (d : Floored) (b k : ℕ) → d.mapping b ≡ None → ((o : ℕ) → newest (d.cache k o) ≡ newest (d.origin b o)) → (i : KeepsFloors d) → i.home k ≡ None → KeepsFloors (record d { mapping = changed d.mapping b (Some k) })
map_kept d b k m copied i nothing = record {
  committed_allowed = i.committed_allowed;
  running_allowed = i.running_allowed;
  running_cache = i.running_cache;
  running_origin = i.running_origin;
  running_newest = i.running_newest;
  mapping_newest = λ b' o. elim (cases_eq b' b) [
    | inl e ↦ subst (λ (v : ℕ). IsEntryFrom (d.finished v o) (d.histories v o) (newest (at_location d.origin d.cache (changed d.mapping b (Some k) v) v o))) (sym e)
        (rw (changed_same d.mapping b (Some k)) (subst (λ (x : Content). IsEntryFrom (d.finished b o) (d.histories b o) x) (ap (λ p. newest (at_location d.origin d.cache p b o)) m ∙ sym (copied o)) (i.mapping_newest b o)))
    | inr n ↦ subst (λ (p : Option ℕ). IsEntryFrom (d.finished b' o) (d.histories b' o) (newest (at_location d.origin d.cache p b' o))) (sym (changed_other d.mapping b b' (Some k) n)) (i.mapping_newest b' o)
  ];
  running_finished = i.running_finished;
  committed_running = i.committed_running;
  home = changed i.home k (Some b);
  home_of_mapping = λ b' j e. elim (cases_eq b' b) [
    | inl s ↦ let some : Some k ≡ Some j = sym (changed_same d.mapping b (Some k)) ∙ ap (changed d.mapping b (Some k)) (sym s) ∙ e in let same : k ≡ j = cc in
        ap (changed i.home k (Some b)) (sym same) ∙ changed_same i.home k (Some b) ∙ ap (λ v. Some v) (sym s)
    | inr n ↦ home_more i.home d.mapping k b nothing i.home_of_mapping b' j (sym (changed_other d.mapping b b' (Some k) n) ∙ e)
  ];
  home_of_committed = home_more i.home d.committed k b nothing i.home_of_committed;
  home_of_running = home_more i.home d.running k b nothing i.home_of_running;
}

-- a block moves to the origin after its copy
pub unmap_kept : (d : Floored) (b k : ℕ) → d.mapping b ≡ Some k → ((o : ℕ) → newest (d.cache k o) ≡ newest (d.origin b o)) → KeepsFloors d → KeepsFloors (record d { mapping = changed d.mapping b None })
unmap_kept d b k m copied i = record {
  committed_allowed = i.committed_allowed;
  running_allowed = i.running_allowed;
  running_cache = i.running_cache;
  running_origin = i.running_origin;
  running_newest = i.running_newest;
  mapping_newest = λ b' o. elim (cases_eq b' b) [
    | inl e ↦ subst (λ (v : ℕ). IsEntryFrom (d.finished v o) (d.histories v o) (newest (at_location d.origin d.cache (changed d.mapping b None v) v o))) (sym e)
        (rw (changed_same d.mapping b None) (subst (λ (x : Content). IsEntryFrom (d.finished b o) (d.histories b o) x) (ap (λ p. newest (at_location d.origin d.cache p b o)) m ∙ copied o) (i.mapping_newest b o)))
    | inr n ↦ subst (λ (p : Option ℕ). IsEntryFrom (d.finished b' o) (d.histories b' o) (newest (at_location d.origin d.cache p b' o))) (sym (changed_other d.mapping b b' None n)) (i.mapping_newest b' o)
  ];
  running_finished = i.running_finished;
  committed_running = i.committed_running;
  home = i.home;
  home_of_mapping = λ b' j e. elim (cases_eq b' b) [
    | inl s ↦ let nothing : changed d.mapping b None b' ≡ None = rw s (changed_same d.mapping b None) in absurd (cc)
    | inr n ↦ i.home_of_mapping b' j (sym (changed_other d.mapping b b' None n) ∙ e)
  ];
  home_of_committed = i.home_of_committed;
  home_of_running = i.home_of_running;
}

-- a number of one sector rose
pub rose : (f : ℕ → ℕ → ℕ) (b o p : ℕ) → f b o ≤ p → (b' o' : ℕ) → f b' o' ≤ changed f b (changed (f b) o p) b' o'
rose f b o p m b' o' = elim (cases_eq b' b) [
  | inr n ↦ let same : changed f b (changed (f b) o p) b' o' ≡ f b' o' = ap (λ (g : ℕ → ℕ). g o') (changed_other f b b' (changed (f b) o p) n) in omega arith
  | inl e ↦
      let row : changed f b (changed (f b) o p) b' o' ≡ changed (f b) o p o' = ap (λ v. changed f b (changed (f b) o p) v o') e ∙ ap (λ (g : ℕ → ℕ). g o') (changed_same f b (changed (f b) o p)) in
      let was : f b' o' ≡ f b o' = ap (λ v. f v o') e in
      elim (cases_eq o' o) [
        | inl s ↦ let here : changed (f b) o p o' ≡ p = ap (changed (f b) o p) s ∙ changed_same (f b) o p in let old : f b o' ≡ f b o = ap (f b) s in omega arith
        | inr n ↦ let there : changed (f b) o p o' ≡ f b o' = changed_other (f b) o o' p n in omega arith
      ]
]

-- a write finished
pub finish_kept : (d : Floored) (b o f : ℕ) → d.finished b o ≤ f → IsEntryFrom f (d.histories b o) (newest (there d d.mapping b o)) → KeepsFloors d → KeepsFloors (record d { finished = changed_at d.finished b o f })
finish_kept d b o f m a i = record {
  committed_allowed = i.committed_allowed;
  running_allowed = i.running_allowed;
  running_cache = i.running_cache;
  running_origin = i.running_origin;
  running_newest = i.running_newest;
  mapping_newest = go;
  running_finished = λ b' o'. let r = rose d.finished b o f m b' o' in let s = i.running_finished b' o' in omega arith;
  committed_running = i.committed_running;
  home = i.home;
  home_of_mapping = i.home_of_mapping;
  home_of_committed = i.home_of_committed;
  home_of_running = i.home_of_running;
} where
  P : ℕ → ℕ → ℕ → Type 0
  P b' o' k = IsEntryFrom k (d.histories b' o') (newest (there d d.mapping b' o'))

  go : (b' o' : ℕ) → P b' o' (changed d.finished b (changed (d.finished b) o f) b' o')
  go b' o' = elim (cases_eq b' b) [
    | inr n ↦ subst (λ (g : ℕ → ℕ). P b' o' (g o')) (sym (changed_other d.finished b b' (changed (d.finished b) o f) n)) (i.mapping_newest b' o')
    | inl e ↦ subst (λ (v : ℕ). P v o' (changed d.finished b (changed (d.finished b) o f) v o')) (sym e)
        (subst (λ (g : ℕ → ℕ). P b o' (g o')) (sym (changed_same d.finished b (changed (d.finished b) o f)))
        (elim (cases_eq o' o) [
          | inl s ↦ subst (λ (v : ℕ). P b v (changed (d.finished b) o f v)) (sym s) (subst (λ (k : ℕ). P b o k) (sym (changed_same (d.finished b) o f)) a)
          | inr n ↦ subst (λ (k : ℕ). P b o' k) (sym (changed_other (d.finished b) o o' f n)) (i.mapping_newest b o')
        ]))
  ]
