-- What is promised of the contents in every run over every list of lives.
use Rattle.std.specs.Prelude.{◌≡◌, ◌≤◌, ℕ, true, false, slice_get, Option, Some, None, Contains}
use Rattle.wb_types.specs.declared.mode.Mode.{Mode}
use Rattle.wb_types.specs.declared.mode.Mode.TheVariants.{Writeback, Writethrough, Passthrough}
use Rattle.wb_disk.specs.Device.{Content, History, entries, newest, only}
use Rattle.wb_contents.specs.Volume.{Volume, Whole, at_location, location}
use Rattle.wb_contents.specs.Acts.{Open, volume_after}
use Rattle.wb_contents.specs.Conditions.{MayAct}

-- an entry of the history at this position or a later one
abbrev pub IsEntryFrom : ℕ → History → Content → Type 0
IsEntryFrom k g c = (p : ℕ) × (k ≤ p) × (slice_get (entries g) p ≡ Some c)

-- each content of a list is such an entry
abbrev pub AllEntriesFrom : ℕ → History → History → Type 0
AllEntriesFrom k g h = (c : Content) → Contains (entries h) c → IsEntryFrom k g c

-- a target over these contents, that has nothing cached
abbrev pub first_volume : Mode → (ℕ → ℕ → Content) → Volume
first_volume m c = record {
  origin = λ b o. only (c b o);
  cache = λ k o. only (c k o);
  live = true;
  mode = m;
  mapping = λ b. None;
  dirty = λ b. true;
  committed = record { locations = λ b. None; clean = λ b. false };
  running = record { locations = λ b. None; clean = λ b. false };
  root_written = false;
  cache_synced = false;
  origin_synced = false;
  histories = λ b o. only (c b o);
  standing = λ b o. Whole;
  finished = λ b o. 0;
  committed_floor = λ b o. 0;
  running_floor = λ b o. 0;
  began = 0;
  ended = 0;
  ticket = λ a. 0;
  then_finished = λ a b o. 0;
  floor = λ b o. 0;
}

-- where a read of a block goes
abbrev pub route : Mode → Option ℕ → Option ℕ
route Writeback p = p
route Writethrough p = p
route Passthrough p = None

-- what a read of a sector is given
abbrev pub read_given : Volume → ℕ → ℕ → Content
read_given d b o = newest (at_location d.origin d.cache (route d.mode (d.mapping b)) b o)

-- what an opening shows
abbrev pub visible : Volume → ℕ → ℕ → Content
visible d b o = newest (location d d.committed.locations b o)

pub record IsConsistent (d : Volume) : Type 0 where
  -- whatever a crash leaves, on the devices and of metadata, is allowed
  pub committed_allowed : (b o : ℕ) → AllEntriesFrom (d.floor b o) (d.histories b o) (location d d.committed.locations b o)
  pub running_allowed : d.root_written ≡ true → (b o : ℕ) → AllEntriesFrom (d.floor b o) (d.histories b o) (location d d.running.locations b o)
  -- a read gives the latest write
  pub latest : (b o : ℕ) → d.standing b o ≡ Whole → read_given d b o ≡ newest (d.histories b o)
  -- what an opening shows is allowed, and the next life's history begins with it
  pub shown : (m : Mode) → MayAct d (Open m) → (b o : ℕ) → IsEntryFrom (d.floor b o) (d.histories b o) (visible d b o) × ((volume_after d (Open m)).histories b o ≡ only (visible d b o))
