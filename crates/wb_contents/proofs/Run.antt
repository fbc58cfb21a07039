use Rattle.std.proofs.Common.{◌≡◌, ◌⊎◌, inl, inr, ℕ, List, [], ◌∷◌, Bool, true, false, Option, Some, None, length, refl, sym, ap, ◌∙◌, arith}
use Rattle.wb_disk.specs.Device.{Content, History, newest}
use Rattle.wb_contents.specs.Volume.{Volume, Whole, Half, at_location, location}
use Rattle.wb_types.specs.declared.mode.Mode.{Mode}
use Rattle.wb_types.specs.declared.mode.Mode.TheVariants.{Writeback, Writethrough, Passthrough}
use Rattle.wb_contents.specs.Acts.{sector_written, written_through, life_ended, life_begun, all_synced, partly_synced, only_chosen, image_found, Act, Write, Write_origin, Write_cache, Fail_write, Finish, Fill_cache, Copy_back, Map, Unmap, Make_dirty, Make_clean, Begin_commit, Begin_suspend, Sync_cache, Sync_origin, Fail_cache_sync, Fail_origin_sync, Write_root, End_commit, Begin_flush, End_flush, Crash, Find_image, Write_opening_root, Open, volume_after, volume_after_all}
use Rattle.wb_contents.specs.Conditions.{IsCopied, MayAct, IsRunOfActs}
use Rattle.wb_contents.specs.Promises.{IsEntryFrom, AllEntriesFrom, first_volume, route, visible, IsConsistent}
use Rattle.wb_contents.proofs.Positions.{get_last, at_lower, only_one}
use Rattle.wb_contents.proofs.Floors.{Floored, KeepsFloors, HasHomes, shorter_same, shorter_synced, shorter_partly, shorter_kept, write_origin_kept, write_cache_kept, lost_kept, copied_kept, through_kept, fill_kept, freed, finished_bound}
use Rattle.wb_disk.proofs.Leaving.{newest_there}
use Rattle.wb_contents.proofs.Images.{IsWithin, within_only, begin_kept, sync_cache_kept, sync_origin_kept, root_kept, end_kept, ended_kept, open_root_kept, begun_kept, map_kept, unmap_kept, finish_kept}
use Rattle.wb_contents.proofs.Flushes.{Tally, KeepsFlushes, finish_flushes, begin_flushes, end_flushes, ended_flushes, root_flushes, first_flushes, start_flushes, answer_flushes}
use Rattle.wb_contents.proofs.Sectors.{KeepsLatest, write_origin_latest, write_cache_latest, through_latest, half_write_latest, failed_write_latest, copied_back_latest, fill_latest, shorter_latest, map_latest, unmap_latest, made_dirty_latest, made_clean_latest, ended_latest, opened_latest, clean_copied}
use Rattle.wb_contents.proofs.Sealed.{KeepsClean, IsSameOnClean, sealed_live, shorter_sealed, cache_sealed, origin_sealed, suspend_sealed, root_sealed, end_sealed, ended_clean, open_root_sealed, same_newest}

abbrev pub ground : Volume → Floored
ground d = record {
  origin = d.origin;
  cache = d.cache;
  mapping = d.mapping;
  committed = d.committed.locations;
  running = d.running.locations;
  root_written = d.root_written;
  cache_synced = d.cache_synced;
  origin_synced = d.origin_synced;
  histories = d.histories;
  finished = d.finished;
  committed_floor = d.committed_floor;
  running_floor = d.running_floor;
}

abbrev pub tally : Volume → Tally
tally d = record { finished = d.finished; running_floor = d.running_floor; committed_floor = d.committed_floor; began = d.began; ended = d.ended; ticket = d.ticket; then_finished = d.then_finished; floor = d.floor }

pub record KeepsAll (d : Volume) : Type 0 where
  pub floors : KeepsFloors (ground d)
  pub flushes : KeepsFlushes (tally d)
  pub latest : KeepsLatest d
  pub seals : KeepsClean d

-- the location of a mapping's sector has the history's last entry
pub last_at : (d : Volume) (b o : ℕ) → (c : Content) → c ≡ newest (d.histories b o) → IsEntryFrom (length (d.histories b o).later) (d.histories b o) c
last_at d b o c e = (length (d.histories b o).later, omega arith, get_last (d.histories b o).first (d.histories b o).later ∙ ap (λ x. Some x) (sym e))

pub write_all : (d : Volume) (p : Option ℕ) (b o : ℕ) (c : Content) → d.mapping b ≡ p → d.live ≡ true → (d.mapping b ≡ None) ⊎ (d.dirty b ≡ true) → KeepsAll d → KeepsAll (sector_written d p b o c)
write_all d None b o c e l m i = record {
  flushes = i.flushes;
  floors = write_origin_kept (ground d) b o c i.floors;
  latest = write_origin_latest d b o c e i.latest;
  seals = sealed_live (sector_written d None b o c) l (i.seals.open_committed l) (i.seals.open_running l);
}
write_all d (Some k) b o c e l m i = record {
  flushes = i.flushes;
  floors = write_cache_kept (ground d) b o k c e i.floors;
  latest = write_cache_latest d b o k c i.floors.home i.floors.home_of_mapping e (elim m [ inl nothing ↦ let bad : None ≡ Some k = sym nothing ∙ e in absurd (cc) | inr marked_dirty ↦ marked_dirty ]) i.latest;
  seals = sealed_live (sector_written d (Some k) b o c) l (i.seals.open_committed l) (i.seals.open_running l);
}

pub through_all : (d : Volume) (p : Option ℕ) (b o : ℕ) → d.mapping b ≡ p → d.live ≡ true → d.standing b o ≡ Half → KeepsAll d → KeepsAll (written_through d p b o)
through_all d None b o e l half i = i
through_all d (Some k) b o e l half i = record {
  flushes = i.flushes;
  floors = through_kept (ground d) b k o (newest (d.histories b o)) e (at_lower (d.finished b o) (length (d.histories b o).later) (d.histories b o) (newest (d.histories b o)) (finished_bound (ground d) b o i.floors) (last_at d b o (newest (d.histories b o)) refl)) i.floors;
  latest = through_latest d b o k i.floors.home i.floors.home_of_mapping e half i.latest;
  seals = sealed_live (written_through d (Some k) b o) l (i.seals.open_committed l) (i.seals.open_running l);
}

-- what an image that metadata may stand for has
pub found_floors : (d : Volume) (t : Bool) → (t ≡ true → d.root_written ≡ true) → KeepsAll d → (b o : ℕ) → AllEntriesFrom (d.committed_floor b o) (d.histories b o) (location d (image_found d t).locations b o)
found_floors d true r i b o c m = at_lower (d.committed_floor b o) (d.running_floor b o) (d.histories b o) c (i.floors.committed_running b o) (i.floors.running_allowed (r refl) b o c m)
found_floors d false r i b o c m = i.floors.committed_allowed b o c m

pub found_homes : (d : Volume) (t : Bool) → (i : KeepsAll d) → HasHomes i.floors.home (image_found d t).locations
found_homes d true i = i.floors.home_of_running
found_homes d false i = i.floors.home_of_committed

pub found_same : (d : Volume) (t : Bool) → (t ≡ true → d.root_written ≡ true) → KeepsAll d → IsSameOnClean d.origin d.cache (image_found d t)
found_same d true r i = i.seals.running_same (r refl)
found_same d false r i = i.seals.committed_same

pub ended_all : (d : Volume) (origin cache : ℕ → ℕ → History) (t : Bool) → (t ≡ true → d.root_written ≡ true) → ((b o : ℕ) → IsWithin (origin b o) (d.origin b o)) → ((k o : ℕ) → IsWithin (cache k o) (d.cache k o)) → KeepsAll d → KeepsAll (life_ended d origin cache (image_found d t))
ended_all d origin cache t r wo wc i = record {
  flushes = ended_flushes (tally d) i.flushes;
  floors = ended_kept (ground d) origin cache (image_found d t).locations i.floors.home (found_homes d t i) wo wc (found_floors d t r i);
  latest = ended_latest d origin cache (image_found d t);
  seals = ended_clean d origin cache (image_found d t) (found_same d t r i) wo wc;
}

pub unmap_all : (d : Volume) (b k : ℕ) → d.live ≡ true → d.mapping b ≡ Some k → IsCopied d b k → KeepsAll d → KeepsAll (volume_after d (Unmap b))
unmap_all d b k l m copied i = record {
  flushes = i.flushes;
  floors = unmap_kept (ground d) b k m copied i.floors;
  latest = unmap_latest d b k m copied i.latest;
  seals = sealed_live (volume_after d (Unmap b)) l (i.seals.open_committed l) (i.seals.open_running l);
}

pub act_kept : (d : Volume) (x : Act) → MayAct d x → KeepsAll d → KeepsAll (volume_after d x)
act_kept d (Write b o c) m i = write_all d (d.mapping b) b o c refl m.0 m.1 i
act_kept d (Write_origin b o c) m i = record { flushes = i.flushes; floors = write_origin_kept (ground d) b o c i.floors; latest = half_write_latest d b o c i.latest; seals = sealed_live (volume_after d (Write_origin b o c)) m (i.seals.open_committed m) (i.seals.open_running m) }
act_kept d (Write_cache b o) m i = through_all d (d.mapping b) b o refl m.0 m.1 i
act_kept d (Fail_write b o c) m i = record { flushes = i.flushes; floors = lost_kept (ground d) b o c i.floors; latest = failed_write_latest d b o c i.latest; seals = sealed_live (volume_after d (Fail_write b o c)) m (i.seals.open_committed m) (i.seals.open_running m) }
act_kept d (Finish b o) m i = record {
  flushes = finish_flushes (tally d) b o (length (d.histories b o).later) (finished_bound (ground d) b o i.floors) i.flushes;
  floors = finish_kept (ground d) b o (length (d.histories b o).later) (finished_bound (ground d) b o i.floors) (last_at d b o (newest (location d d.mapping b o)) ((i.latest.sectors b o).latest m)) i.floors;
  latest = record { sectors = i.latest.sectors; passed = i.latest.passed };
  seals = record { open_committed = i.seals.open_committed; open_running = i.seals.open_running; committed_same = i.seals.committed_same; running_equal = i.seals.running_equal; running_same = i.seals.running_same; quiet_cache = i.seals.quiet_cache; quiet_origin = i.seals.quiet_origin };
}
act_kept d (Fill_cache k o c) m i = let j = freed (ground d) k m.1.0 m.1.1 m.1.2 i.floors in record {
  flushes = i.flushes;
  floors = fill_kept (ground d) k o c j.0 j.1;
  latest = fill_latest d k o c m.1.0 i.latest;
  seals = sealed_live (volume_after d (Fill_cache k o c)) m.0 (i.seals.open_committed m.0) (i.seals.open_running m.0);
}
act_kept d (Copy_back b o) m i = record {
  flushes = i.flushes;
  floors = copied_kept (ground d) b o (newest (location d d.mapping b o)) (i.floors.mapping_newest b o) i.floors;
  latest = copied_back_latest d b o m.1 i.latest;
  seals = sealed_live (volume_after d (Copy_back b o)) m.0 (i.seals.open_committed m.0) (i.seals.open_running m.0);
}
act_kept d (Map b k) m i = let j = freed (ground d) k m.1.0 m.1.1 m.1.2 i.floors in record {
  flushes = i.flushes;
  floors = map_kept (ground d) b k m.2 m.3 j.0 j.1;
  latest = map_latest d b k m.2 m.3 i.latest;
  seals = sealed_live (volume_after d (Map b k)) m.0 (i.seals.open_committed m.0) (i.seals.open_running m.0);
}
act_kept d (Unmap b) m i = let k = m.1.0 in elim m.1.2 [
  | inl copied ↦ unmap_all d b k m.0 m.1.1 copied i
  | inr w ↦ unmap_all d b k m.0 m.1.1 (clean_copied d b k i.latest m.1.1 w.0 w.1) i
]
act_kept d (Make_dirty b) m i = record {
  flushes = i.flushes;
  floors = i.floors;
  latest = made_dirty_latest d b m i.latest;
  seals = record { open_committed = i.seals.open_committed; open_running = i.seals.open_running; committed_same = i.seals.committed_same; running_equal = i.seals.running_equal; running_same = i.seals.running_same; quiet_cache = i.seals.quiet_cache; quiet_origin = i.seals.quiet_origin };
}
act_kept d (Make_clean b) m i = record {
  flushes = i.flushes;
  floors = i.floors;
  latest = made_clean_latest d b m.1.0 m.1.1 m.1.2 i.latest;
  seals = sealed_live (volume_after d (Make_clean b)) m.0 (i.seals.open_committed m.0) (i.seals.open_running m.0);
}
act_kept d Begin_commit m i = record {
  flushes = begin_flushes (tally d) i.flushes;
  floors = begin_kept (ground d) m.1 i.floors;
  latest = record { sectors = i.latest.sectors; passed = i.latest.passed };
  seals = sealed_live (volume_after d Begin_commit) m.0 (i.seals.open_committed m.0) (λ b. refl);
}
act_kept d Begin_suspend m i = record { flushes = begin_flushes (tally d) i.flushes; floors = begin_kept (ground d) m.1 i.floors; latest = record { sectors = i.latest.sectors; passed = i.latest.passed }; seals = suspend_sealed d m.0 m.1 m.2 i.latest i.seals }
act_kept d Sync_cache m i = record {
  flushes = i.flushes;
  floors = sync_cache_kept (ground d) i.floors;
  latest = let j = shorter_latest d d.origin (all_synced d.cache) (shorter_same d.origin) (shorter_synced d.cache) i.latest in record { sectors = j.sectors; passed = j.passed };
  seals = cache_sealed d (shorter_sealed d d.origin (all_synced d.cache) (shorter_same d.origin) (shorter_synced d.cache) i.seals);
}
act_kept d Sync_origin m i = record {
  flushes = i.flushes;
  floors = sync_origin_kept (ground d) i.floors;
  latest = let j = shorter_latest d (all_synced d.origin) d.cache (shorter_synced d.origin) (shorter_same d.cache) i.latest in record { sectors = j.sectors; passed = j.passed };
  seals = origin_sealed d (shorter_sealed d (all_synced d.origin) d.cache (shorter_synced d.origin) (shorter_same d.cache) i.seals);
}
act_kept d (Fail_cache_sync choice) m i = record {
  flushes = i.flushes;
  floors = shorter_kept (ground d) d.origin (partly_synced choice d.cache) (shorter_same d.origin) (shorter_partly choice d.cache) i.floors;
  latest = shorter_latest d d.origin (partly_synced choice d.cache) (shorter_same d.origin) (shorter_partly choice d.cache) i.latest;
  seals = shorter_sealed d d.origin (partly_synced choice d.cache) (shorter_same d.origin) (shorter_partly choice d.cache) i.seals;
}
act_kept d (Fail_origin_sync choice) m i = record {
  flushes = i.flushes;
  floors = shorter_kept (ground d) (partly_synced choice d.origin) d.cache (shorter_partly choice d.origin) (shorter_same d.cache) i.floors;
  latest = shorter_latest d (partly_synced choice d.origin) d.cache (shorter_partly choice d.origin) (shorter_same d.cache) i.latest;
  seals = shorter_sealed d (partly_synced choice d.origin) d.cache (shorter_partly choice d.origin) (shorter_same d.cache) i.seals;
}
act_kept d Write_root m i = record { flushes = i.flushes; floors = root_kept (ground d) m.0 m.1 i.floors; latest = record { sectors = i.latest.sectors; passed = i.latest.passed }; seals = root_sealed d m.0 m.1 i.seals }
act_kept d End_commit m i = record { flushes = end_flushes (tally d) i.floors.committed_running i.flushes; floors = end_kept (ground d) m i.floors; latest = record { sectors = i.latest.sectors; passed = i.latest.passed }; seals = end_sealed d m i.seals }
act_kept d (Begin_flush a) m i = record {
  flushes = start_flushes (tally d) a i.flushes;
  floors = i.floors;
  latest = record { sectors = i.latest.sectors; passed = i.latest.passed };
  seals = record { open_committed = i.seals.open_committed; open_running = i.seals.open_running; committed_same = i.seals.committed_same; running_equal = i.seals.running_equal; running_same = i.seals.running_same; quiet_cache = i.seals.quiet_cache; quiet_origin = i.seals.quiet_origin };
}
act_kept d (End_flush a) m i = record {
  flushes = answer_flushes (tally d) a m i.flushes;
  floors = i.floors;
  latest = record { sectors = i.latest.sectors; passed = i.latest.passed };
  seals = record { open_committed = i.seals.open_committed; open_running = i.seals.open_running; committed_same = i.seals.committed_same; running_equal = i.seals.running_equal; running_same = i.seals.running_same; quiet_cache = i.seals.quiet_cache; quiet_origin = i.seals.quiet_origin };
}
act_kept d (Crash origin cache t) m i = ended_all d (only_chosen origin) (only_chosen cache) t m.0 (λ b o. within_only (d.origin b o) (origin b o) (m.1 b o)) (λ k o. within_only (d.cache k o) (cache k o) (m.2 k o)) i
act_kept d (Find_image t) m i = ended_all d d.origin d.cache t m (λ b o c e. e) (λ k o c e. e) i
act_kept d Write_opening_root m i = record { flushes = root_flushes (tally d) i.flushes; floors = open_root_kept (ground d) i.floors; latest = record { sectors = i.latest.sectors; passed = i.latest.passed }; seals = open_root_sealed d i.seals }
act_kept d (Open mode) m i = record {
  flushes = first_flushes;
  floors = begun_kept (ground d) (i.seals.quiet_origin m.0 m.2) (i.seals.quiet_cache m.0 m.1) i.floors;
  latest = opened_latest d mode (λ b k f e o. same_newest (d.cache k o) (d.origin b o) (i.seals.committed_same b k f e o)) m.3;
  seals = sealed_live (life_begun d mode) refl (λ b. refl) (λ b. refl);
}

pub all_kept : (d : Volume) (xs : List Act) → IsRunOfActs d xs → KeepsAll d → KeepsAll (volume_after_all d xs)
all_kept d [] m i = i
all_kept d (x ∷ xs) m i = all_kept (volume_after d x) xs m.1 (act_kept d x m.0 i)

pub first_kept : (m : Mode) (c : ℕ → ℕ → Content) → KeepsAll (first_volume m c)
first_kept m c = record {
  flushes = first_flushes;
  floors = record {
    committed_allowed = λ b o x n. (0, omega arith, ap (λ y. Some y) (only_one (c b o) x n));
    running_allowed = λ r. absurd (cc);
    running_cache = λ b k o s e. absurd (cc);
    running_origin = λ b o s e. absurd (cc);
    running_newest = λ b o. (0, omega arith, refl);
    mapping_newest = λ b o. (0, omega arith, refl);
    running_finished = λ b o. omega arith;
    committed_running = λ b o. omega arith;
    home = λ k. None;
    home_of_mapping = λ b k e. absurd (cc);
    home_of_committed = λ b k e. absurd (cc);
    home_of_running = λ b k e. absurd (cc);
  };
  latest = record { sectors = λ b o. record { latest = λ e. refl; half = λ e. absurd (cc); clean = λ f e. refl }; passed = λ p b k e. absurd (cc) };
  seals = sealed_live (first_volume m c) refl (λ b. refl) (λ b. refl);
}

-- a read's route
pub read_is : (d : Volume) (t : Mode) (p : Option ℕ) (b o : ℕ) → d.mode ≡ t → d.mapping b ≡ p → KeepsLatest d → d.standing b o ≡ Whole → newest (at_location d.origin d.cache (route t p) b o) ≡ newest (at_location d.origin d.cache p b o)
read_is d Writeback p b o e f i w = refl
read_is d Writethrough p b o e f i w = refl
read_is d Passthrough None b o e f i w = refl
read_is d Passthrough (Some k) b o e f i w = sym (ap (λ p. newest (at_location d.origin d.cache p b o)) (sym f) ∙ (i.sectors b o).clean (i.passed e b k f) w)

pub holds : (d : Volume) → KeepsAll d → IsConsistent d
holds d i = record {
  committed_allowed = λ b o c m. at_lower (d.floor b o) (d.committed_floor b o) (d.histories b o) c (i.flushes.floor_committed b o) (i.floors.committed_allowed b o c m);
  running_allowed = λ r b o c m. at_lower (d.floor b o) (d.committed_floor b o) (d.histories b o) c (i.flushes.floor_committed b o) (found_floors d true (λ e. r) i b o c m);
  latest = λ b o w. read_is d d.mode (d.mapping b) b o refl refl i.latest w ∙ (i.latest.sectors b o).latest w;
  shown = λ m may b o. (at_lower (d.floor b o) (d.committed_floor b o) (d.histories b o) (visible d b o) (i.flushes.floor_committed b o) (i.floors.committed_allowed b o (visible d b o) (newest_there (location d d.committed.locations b o))), refl);
}
