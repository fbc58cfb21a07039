-- Above the world: lives that end and begin. A crash leaves no target; so does an opening's start, which drops all
-- tasks. An opening is one task, by steps, alone.
use Rattle.std.specs.Prelude.{◌≡◌, ◌≢◌, ◌⊎◌, ℕ, Bool, true, false, cond, List, [], ◌∷◌, Some, None, Contains, length, replicate}
use Rattle.wb_disk.specs.Device.{Content, entries, newest, only}
use Rattle.wb_contents.specs.Volume.{Locations, at_location}
use Rattle.wb_types.specs.declared.mode.Mode.{Mode}
use Rattle.wb_types.specs.declared.mode.Mode.TheVariants.{Passthrough}
use Rattle.wb_contents.specs.Acts.{all_synced, partly_synced}
use Rattle.wb_contents.specs.Conditions.{IsUnnamed, Admits}
use Rattle.wb_contents.specs.Promises.{IsEntryFrom}
use Rattle.wb_link.specs.World.{Block, Free, Mapped, Shared, World, Record, abstract_resting, abstract_begins, after_record, AbstractMay}
use Rattle.wb_link.specs.Clerk.{AbstractNotes, abstract_note, abstract_opened, AbstractRight}

-- what an opening has read
pub record Learnt : Type 0 where
  pub locations : Locations
  pub clean : ℕ → Bool

-- which step of an opening is next
pub data Stage : Type 0 where
  Settling : Stage
  Caching : Stage
  Basing : Stage
  Looking : Stage
  Rooting : Learnt → Stage
  Renewing : Learnt → Stage
  Answering : Learnt → Stage

pub data AbstractPhase : Type 0 where
  -- a target: its tasks take their steps
  Stands : AbstractPhase
  -- none, and nobody opens
  Gone : AbstractPhase
  Opens : Mode → Stage → AbstractPhase

pub record Site : Type 0 where
  pub world : World
  pub phase : AbstractPhase

-- what a crash leaves of each sector and of the metadata
pub record Stopping : Type 0 where
  pub origin : ℕ → ℕ → Content
  pub cache : ℕ → ℕ → Content
  pub new_root : Bool

-- what comes of an opening's step: the first metadata sync that succeeds decides between the images, the look learns
-- it, and the answer has the blocks of the opened desk and what is shown
pub data Outcome : Type 0 where
  Settled : (new_root : Bool) → Outcome
  Fine : Outcome
  Learns : Learnt → Outcome
  Refused : Outcome
  Broke : (lands : ℕ → ℕ → Bool) → Outcome
  Shown : (blocks : ℕ → Block) → (view : ℕ → ℕ → Content) → Outcome

pub data Event : Type 0 where
  On : Record → Event
  Stopped : Stopping → Event
  Begins : Mode → Event
  Advances : Outcome → Event

-- the image that the metadata stand for
abbrev pub found_locations : Shared → Bool → Locations
found_locations s true = s.running
found_locations s false = s.committed

abbrev pub found_clean : Shared → Bool → ℕ → Bool
found_clean s true = s.running_clean
found_clean s false = s.committed_clean

-- metadata that stand for this image alone
abbrev pub abstract_decided : Shared → Bool → Shared
abstract_decided s new_root = record s {
  committed = found_locations s new_root;
  running = found_locations s new_root;
  root_written = false;
  committed_clean = found_clean s new_root;
  running_clean = found_clean s new_root;
}

abbrev pub stopped : Shared → Stopping → Shared
stopped s r = record (abstract_decided s r.new_root) { origin = λ b o. only (r.origin b o); cache = λ k o. only (r.cache k o) }

-- passthrough opens only what is clean
abbrev pub Admitted : Mode → Learnt → Type 0
Admitted mode i = Admits mode (record { locations = i.locations; clean = i.clean })

abbrev pub opened_on : Shared → Mode → Learnt → (ℕ → Block) → Shared
opened_on s mode i blocks = record {
  origin = s.origin;
  cache = s.cache;
  seals = λ b. record { location = i.locations b; dirty = cond (i.clean b) false true };
  fail = false;
  live = true;
  mode = mode;
  mapping = i.locations;
  blocks = blocks;
  committing = false;
  began = 0;
  ended = 0;
  broken = false;
  committed = i.locations;
  running = i.locations;
  root_written = false;
  committed_clean = λ b. false;
  running_clean = λ b. false;
}

-- what may come of a step
abbrev pub Yields : Shared → Mode → Stage → Outcome → Type 0
Yields s mode Settling (Settled new_root) = new_root ≡ true → s.root_written ≡ true
Yields s mode Settling (Broke lands) = Unit {0}
Yields s mode Caching Fine = Unit {0}
Yields s mode Caching (Broke lands) = Unit {0}
Yields s mode Basing Fine = Unit {0}
Yields s mode Basing (Broke lands) = Unit {0}
Yields s mode Looking (Learns i) = (i.locations ≡ s.committed) × (i.clean ≡ s.committed_clean) × Admitted mode i
Yields s mode Looking Refused = Unit {0}
Yields s mode Looking (Broke lands) = Unit {0}
Yields s mode (Rooting i) Fine = Unit {0}
Yields s mode (Rooting i) (Broke lands) = Unit {0}
Yields s mode (Rooting i) Refused = Unit {0}
Yields s mode (Renewing i) Fine = Unit {0}
Yields s mode (Renewing i) (Broke lands) = Unit {0}
Yields s mode (Answering i) (Shown blocks view) = ((k : ℕ) → (blocks k ≡ Mapped) ⊎ ((blocks k ≡ Free) × IsUnnamed i.locations k)) × ((b o : ℕ) → view b o ≡ newest (at_location s.origin s.cache (i.locations b) b o))
Yields s mode stage outcome = ⊥

-- what it does: a failed root write may have landed
abbrev pub advanced : Shared → Mode → Stage → Outcome → Shared
advanced s mode Settling (Settled new_root) = abstract_decided s new_root
advanced s mode Caching Fine = record s { cache = all_synced s.cache }
advanced s mode Caching (Broke lands) = record s { cache = partly_synced lands s.cache }
advanced s mode Basing Fine = record s { origin = all_synced s.origin }
advanced s mode Basing (Broke lands) = record s { origin = partly_synced lands s.origin }
advanced s mode (Rooting i) Refused = s
advanced s mode (Rooting i) outcome = record s { running = i.locations; running_clean = λ b. false; root_written = true }
advanced s mode (Answering i) (Shown blocks view) = opened_on s mode i blocks
advanced s mode stage outcome = s

abbrev pub next_phase : Mode → Stage → Outcome → AbstractPhase
next_phase mode Settling (Settled new_root) = Opens mode Caching
next_phase mode Caching Fine = Opens mode Basing
next_phase mode Basing Fine = Opens mode Looking
next_phase mode Looking (Learns i) = Opens mode (Rooting i)
next_phase mode (Rooting i) Fine = Opens mode (Renewing i)
next_phase mode (Renewing i) Fine = Opens mode (Answering i)
next_phase mode (Answering i) (Shown blocks view) = Stands
next_phase mode stage outcome = Gone

pub record MayStop (s : Shared) (r : Stopping) : Type 0 where
  pub root : r.new_root ≡ true → s.root_written ≡ true
  pub origin : (b o : ℕ) → Contains (entries (s.origin b o)) (r.origin b o)
  pub cache : (k o : ℕ) → Contains (entries (s.cache k o)) (r.cache k o)

-- an opening begins where there is no target, or one that has failed or was suspended; an unfinished one is dropped
abbrev pub MayOpen : Site → Type 0
MayOpen w = (w.phase ≢ Stands) ⊎ (w.world.shared.fail ≡ true)

abbrev pub MayHappen : ℕ → Site → Event → Type 0
MayHappen size w (On r) = (w.phase ≡ Stands) × AbstractMay size w.world r
MayHappen size w (Stopped r) = MayStop w.world.shared r
MayHappen size w (Begins mode) = MayOpen w
MayHappen size w (Advances outcome) = (mode : Mode) × (stage : Stage) × (w.phase ≡ Opens mode stage) × Yields w.world.shared mode stage outcome

-- no tasks
abbrev pub emptied : World → Shared → World
emptied w s = record { shared = s; actors = replicate (length w.actors) abstract_resting; waiting = λ k. None }

abbrev pub advance : World → AbstractPhase → Outcome → Site
advance w (Opens mode stage) outcome = record { world = emptied w (advanced w.shared mode stage outcome); phase = next_phase mode stage outcome }
advance w phase outcome = record { world = w; phase = phase }

abbrev pub after_event : Site → Event → Site
after_event w (On r) = record { world = after_record w.world r; phase = w.phase }
after_event w (Stopped r) = record { world = emptied w.world (stopped w.world.shared r); phase = Gone }
after_event w (Begins mode) = record { world = emptied w.world w.world.shared; phase = Opens mode Settling }
after_event w (Advances outcome) = advance w.world w.phase outcome

abbrev pub after_events : Site → List Event → Site
after_events w [] = w
after_events w (e ∷ es) = after_events (after_event w e) es

abbrev pub site : ℕ → Content → Site
site many z = record { world = abstract_begins many z; phase = Stands }

abbrev pub AbstractHappens : ℕ → Site → List Event → Type 0
AbstractHappens size w [] = Unit {0}
AbstractHappens size w (e ∷ es) = MayHappen size w e × AbstractHappens size (after_event w e) es

-- The clerk's part: a history begins with what an opening shows.

abbrev pub note_outcome : AbstractNotes → Outcome → AbstractNotes
note_outcome n (Shown blocks view) = abstract_opened view
note_outcome n outcome = n

abbrev pub note_event : AbstractNotes → Event → AbstractNotes
note_event n (On r) = abstract_note n r
note_event n (Stopped r) = n
note_event n (Begins mode) = n
note_event n (Advances outcome) = note_outcome n outcome

abbrev pub abstract_noted : AbstractNotes → List Event → AbstractNotes
abstract_noted n [] = n
abstract_noted n (e ∷ es) = abstract_noted (note_event n e) es

abbrev pub ShowsRight : AbstractNotes → Outcome → Type 0
ShowsRight n (Shown blocks view) = (b o : ℕ) → IsEntryFrom (n.floors b o) (n.histories b o) (view b o)
ShowsRight n outcome = Unit {0}

abbrev pub EventRight : AbstractNotes → Event → Type 0
EventRight n (On r) = AbstractRight n r
EventRight n (Stopped r) = Unit {0}
EventRight n (Begins mode) = Unit {0}
EventRight n (Advances outcome) = ShowsRight n outcome

abbrev pub AllEventsRight : AbstractNotes → List Event → Type 0
AllEventsRight n [] = Unit {0}
AllEventsRight n (e ∷ es) = EventRight n e × AllEventsRight (note_event n e) es
