-- What may happen to the contents of devices, and what it leaves.
use Rattle.std.specs.Prelude.{◌+◌, ℕ, List, [], ◌∷◌, Bool, true, false, cond, max, length, Option, Some, None}
use Rattle.wb_types.specs.declared.mode.Mode.{Mode}
use Rattle.wb_types.specs.declared.mode.Mode.TheVariants.{Writeback}
use Rattle.wb_disk.specs.Device.{Content, History, newest, added, only}
use Rattle.wb_contents.specs.Volume.{Image, unclean, Whole, Half, Torn, Volume, location, changed, changed_at}

-- What happens. Contents that are copied are computed; a crash and a failed sync choose for each sector.
pub data Act : Type 0 where
  -- a sector is written where the mapping has its block; by write-through to the origin, and then to the cache; or the step
  -- fails and nothing arrives
  Write : (block offset : ℕ) → Content → Act
  Write_origin : (block offset : ℕ) → Content → Act
  Write_cache : (block offset : ℕ) → Act
  Fail_write : (block offset : ℕ) → Content → Act
  -- what was entered of a sector counts as finished
  Finish : (block offset : ℕ) → Act
  -- migrations: a sector of an unused cache block is written; one is copied to the origin from where the mapping has it
  Fill_cache : (cache offset : ℕ) → Content → Act
  Copy_back : (block offset : ℕ) → Act
  Map : (block cache : ℕ) → Act
  Unmap : (block : ℕ) → Act
  Make_dirty : (block : ℕ) → Act
  Make_clean : (block : ℕ) → Act
  -- commits, of which a suspend's keeps the clean bits
  Begin_commit : Act
  Begin_suspend : Act
  Sync_cache : Act
  Sync_origin : Act
  Fail_cache_sync : (ℕ → ℕ → Bool) → Act
  Fail_origin_sync : (ℕ → ℕ → Bool) → Act
  Write_root : Act
  End_commit : Act
  -- flushes, any number of them at once
  Begin_flush : (actor : ℕ) → Act
  End_flush : (actor : ℕ) → Act
  -- A life ends by a crash, or by an opening that finds which image the metadata represent; an opening writes its root, and
  -- a life begins.
  Crash : (origin cache : ℕ → ℕ → Content) → (new_root : Bool) → Act
  Find_image : (new_root : Bool) → Act
  Write_opening_root : Act
  Open : Mode → Act

-- a sector is written where its block is
abbrev pub sector_written : Volume → Option ℕ → ℕ → ℕ → Content → Volume
sector_written d None b o c = record d { origin = changed_at d.origin b o (added (d.origin b o) c); histories = changed_at d.histories b o (added (d.histories b o) c); standing = changed_at d.standing b o Whole }
sector_written d (Some k) b o c = record d { cache = changed_at d.cache k o (added (d.cache k o) c); histories = changed_at d.histories b o (added (d.histories b o) c); standing = changed_at d.standing b o Whole }

-- the cache gets what the origin got
abbrev pub written_through : Volume → Option ℕ → ℕ → ℕ → Volume
written_through d None b o = d
written_through d (Some k) b o = record d { cache = changed_at d.cache k o (added (d.cache k o) (newest (d.histories b o))); standing = changed_at d.standing b o Whole }

-- of each sector the newest content alone
abbrev pub all_synced : (ℕ → ℕ → History) → ℕ → ℕ → History
all_synced f i o = only (newest (f i o))

-- the same for the chosen sectors
abbrev pub partly_synced : (ℕ → ℕ → Bool) → (ℕ → ℕ → History) → ℕ → ℕ → History
partly_synced choice f i o = cond (choice i o) (only (newest (f i o))) (f i o)

-- of each sector the chosen content alone
abbrev pub only_chosen : (ℕ → ℕ → Content) → ℕ → ℕ → History
only_chosen choice i o = only (choice i o)

-- the image that the metadata turn out to represent
abbrev pub image_found : Volume → Bool → Image
image_found d true = d.running
image_found d false = d.committed

-- No target runs: these are the devices, and the metadata represent this image alone. What was finished is what the committed
-- image saw finished.
abbrev pub life_ended : Volume → (origin cache : ℕ → ℕ → History) → Image → Volume
life_ended d origin cache image = record d {
  origin = origin;
  cache = cache;
  live = false;
  mode = Writeback;
  mapping = image.locations;
  dirty = λ b. true;
  committed = image;
  running = image;
  root_written = false;
  cache_synced = false;
  origin_synced = false;
  standing = λ b o. Torn;
  finished = d.committed_floor;
  running_floor = d.committed_floor;
  began = 0;
  ended = 0;
  ticket = λ a. 0;
  then_finished = λ a b o. 0;
}

-- A target runs on what the committed image names. Histories begin with what is visible; a block is clean where the image
-- says so.
abbrev pub life_begun : Volume → Mode → Volume
life_begun d m = record d {
  live = true;
  mode = m;
  mapping = d.committed.locations;
  dirty = λ b. cond (d.committed.clean b) false true;
  committed = unclean d.committed;
  running = unclean d.committed;
  root_written = false;
  cache_synced = false;
  origin_synced = false;
  histories = λ b o. only (newest (location d d.committed.locations b o));
  standing = λ b o. Whole;
  finished = λ b o. 0;
  committed_floor = λ b o. 0;
  running_floor = λ b o. 0;
  began = 0;
  ended = 0;
  ticket = λ a. 0;
  then_finished = λ a b o. 0;
  floor = λ b o. 0;
}

-- what an act leaves
abbrev pub volume_after : Volume → Act → Volume
volume_after d (Write b o c) = sector_written d (d.mapping b) b o c
volume_after d (Write_origin b o c) = record d { origin = changed_at d.origin b o (added (d.origin b o) c); histories = changed_at d.histories b o (added (d.histories b o) c); standing = changed_at d.standing b o Half }
volume_after d (Write_cache b o) = written_through d (d.mapping b) b o
volume_after d (Fail_write b o c) = record d { histories = changed_at d.histories b o (added (d.histories b o) c); standing = changed_at d.standing b o Torn }
volume_after d (Finish b o) = record d { finished = changed_at d.finished b o (length (d.histories b o).later) }
volume_after d (Fill_cache k o c) = record d { cache = changed_at d.cache k o (added (d.cache k o) c) }
volume_after d (Copy_back b o) = record d { origin = changed_at d.origin b o (added (d.origin b o) (newest (location d d.mapping b o))) }
volume_after d (Map b k) = record d { mapping = changed d.mapping b (Some k); dirty = changed d.dirty b false }
volume_after d (Unmap b) = record d { mapping = changed d.mapping b None }
volume_after d (Make_dirty b) = record d { dirty = changed d.dirty b true }
volume_after d (Make_clean b) = record d { dirty = changed d.dirty b false }
volume_after d Begin_commit = record d { began = d.began + 1; running = record { locations = d.mapping; clean = λ b. false }; running_floor = d.finished; cache_synced = false; origin_synced = false }
volume_after d Begin_suspend = record d { began = d.began + 1; running = record { locations = d.mapping; clean = λ b. cond (d.dirty b) false true }; running_floor = d.finished; cache_synced = false; origin_synced = false; live = false }
volume_after d Sync_cache = record d { cache = all_synced d.cache; cache_synced = true }
volume_after d Sync_origin = record d { origin = all_synced d.origin; origin_synced = true }
volume_after d (Fail_cache_sync choice) = record d { cache = partly_synced choice d.cache }
volume_after d (Fail_origin_sync choice) = record d { origin = partly_synced choice d.origin }
volume_after d Write_root = record d { root_written = true }
volume_after d End_commit = record d { ended = d.began; committed = d.running; committed_floor = d.running_floor; root_written = false }
volume_after d (Begin_flush a) = record d { ticket = changed d.ticket a (d.began + 1); then_finished = changed d.then_finished a d.finished }
volume_after d (End_flush a) = record d { floor = λ b o. max (d.floor b o) (d.then_finished a b o) }
volume_after d (Crash origin cache new_root) = life_ended d (only_chosen origin) (only_chosen cache) (image_found d new_root)
volume_after d (Find_image new_root) = life_ended d d.origin d.cache (image_found d new_root)
volume_after d Write_opening_root = record d { running = unclean d.committed; running_floor = d.committed_floor; root_written = true; then_finished = λ a b o. 0 }
volume_after d (Open m) = life_begun d m

-- what a list of acts leaves
abbrev pub volume_after_all : Volume → List Act → Volume
volume_after_all d [] = d
volume_after_all d (x ∷ xs) = volume_after_all (volume_after d x) xs
