-- When the three devices are those of the abstract world: what the data devices hold, and what the metadata may be read as.
use Rattle.std.specs.Prelude.{◌≡◌, ◌⊎◌, ℕ, Bool, true, false, List, Option, Some, None, length, map}
use Rattle.wb_devices.specs.Clean.{AreAllClean}
use Rattle.wb_types.specs.declared.geometry.Geometry.{Geometry}
use Rattle.wb_types.specs.declared.mode.Mode.{Mode}
use Rattle.wb_types.specs.declared.mode.Mode.TheVariants.{Passthrough}
use Rattle.wb_types.specs.declared.number.Place.{Place}
use Rattle.wb_format.specs.declared.root.Root.{Root}
use Rattle.wb_tree.specs.Mapping.{Mapping}
use Rattle.wb_disk.specs.Device.{History, Crashed, PartlySynced, newest, synced}
use Rattle.wb_disk.specs.Failing.{synced_where}
use Rattle.wb_contents.specs.Devices.{by_block}
use Rattle.wb_contents.specs.Volume.{Locations}
use Rattle.wb_dirty.specs.ImageReading.{with_bits}
use Rattle.wb_meta.specs.Reads.{FitsDevice}
use Rattle.wb_meta.specs.Representing.{Stored}
use Rattle.wb_meta.specs.States.{RepresentsState}
use Rattle.wb_meta.specs.Roots.{MayBeReadAs, IsSettled}
use Rattle.wb_devices.specs.declared.devices.Devices.{Devices}
use Rattle.wb_contents.specs.Conditions.{IsUnnamed}
use Rattle.wb_link.specs.World.{Shared, Block, Free, Mapped}
use Rattle.wb_link.specs.Openings.{Site, AbstractPhase, Stands, Gone, Opens, Learnt, Stage, Settling, Caching, Basing, Looking, Rooting, Renewing, Answering, Event, MayOpen, MayHappen, after_event}
use Rattle.wb_promise.specs.Headline.{place_of}
use Rattle.wb_simulation.specs.Opened.{TakesClean}
use Rattle.wb_simulation.specs.Worlds.{zeros, Stays, Begins, Puts, Ends, TurnedTo}

-- where a state that is stored has each block
abbrev pub locations : Stored → Locations
locations state block = place_of state.found.entries block

-- so does one of a state that is stored
abbrev pub StateTakesClean : Stored → (ℕ → Bool) → Type 0
StateTakesClean state clean = TakesClean state.root.clean state.found.entries clean

-- the running image is this state's, and its root was written
abbrev pub IsRunning : Option Stored → Shared → Type 0
IsRunning None s = Unit {0}
IsRunning (Some state) s = (s.root_written ≡ true) × (s.running ≡ locations state) × StateTakesClean state s.running_clean

-- The metadata may be read as the committed image, that of this state, and, where a root was written over it, as the running one.
pub record ImagesAgree (geometry : Geometry) (committed : Stored) (later : Option Stored) (metadata : List History) (s : Shared) : Type 0 where
  pub read : MayBeReadAs geometry committed later metadata
  pub committed_is : s.committed ≡ locations committed
  pub clean_is : StateTakesClean committed s.committed_clean
  pub later_is : IsRunning later s

-- cache and origin hold what they hold there, and the metadata agree
pub record DevicesAgree (geometry : Geometry) (size : ℕ) (committed : Stored) (later : Option Stored) (devices : Devices (List History)) (s : Shared) : Type 0 where
  pub origin : s.origin ≡ by_block size zeros devices.origin
  pub cache : s.cache ≡ by_block size zeros devices.cache
  pub images : ImagesAgree geometry committed later devices.metadata s

-- An event may come there, which leads to this phase, these devices agreeing with it then.
pub record LeadsTo (geometry : Geometry) (size : ℕ) (committed : Stored) (later : Option Stored) (w : Site) (phase : AbstractPhase) (devices : Devices (List History)) : Type 0 where
  pub event : Event
  pub may : MayHappen size w event
  pub phase_is : (after_event w event).phase ≡ phase
  pub agrees : DevicesAgree geometry size committed later devices (after_event w event).world.shared

-- the same, once it is known as which of two images the metadata are read
pub record LeadsToOne (geometry : Geometry) (size : ℕ) (committed : Stored) (later : Option Stored) (w : Site) (phase : AbstractPhase) (devices : Devices (List History)) : Type 0 where
  pub state : Stored
  pub one_of : (state ≡ committed) ⊎ (later ≡ Some state)
  pub leads : LeadsTo geometry size state None w phase devices
  pub settled : IsSettled devices.metadata

-- a stage of an opening whose outcome is another one, or none, of this image or these two
abbrev pub Stages : (Geometry → ℕ → Stored → Option Stored → Mode → Site → Devices (List History) → Type 0) → Stage → Type 0
Stages Then stage = (geometry : Geometry) (size : ℕ) (committed : Stored) (later : Option Stored) (mode : Mode) (w : Site) (devices : Devices (List History)) → w.phase ≡ Opens mode stage → DevicesAgree geometry size committed later devices w.world.shared →
    Then geometry size committed later mode w devices

-- A crash, and each step of an opening, done, refused or failing.
pub record OpeningsFollowed : Type 0 where
  -- a crash leaves of the metadata one image alone
  pub crashes : (geometry : Geometry) (size : ℕ) (committed : Stored) (later : Option Stored) (w : Site) (devices devices' : Devices (List History)) → DevicesAgree geometry size committed later devices w.world.shared →
      Crashed devices.metadata devices'.metadata → Crashed devices.cache devices'.cache → Crashed devices.origin devices'.origin → LeadsToOne geometry size committed later w Gone devices'
  pub begins : (geometry : Geometry) (size : ℕ) (committed : Stored) (later : Option Stored) (mode : Mode) (w : Site) (devices : Devices (List History)) → DevicesAgree geometry size committed later devices w.world.shared → MayOpen w → LeadsTo geometry size committed later w (Opens mode Settling) devices
  -- and so does its first sync, where it is done
  pub settles : Stages (λ geometry size committed later mode w devices. LeadsToOne geometry size committed later w (Opens mode Caching) (record devices { metadata = synced devices.metadata })) Settling
  pub settling_fails : Stages (λ geometry size committed later mode w devices. (metadata : List History) → PartlySynced devices.metadata metadata → LeadsTo geometry size committed later w Gone (record devices { metadata = metadata })) Settling
  pub syncs_cache : Stages (λ geometry size committed later mode w devices. LeadsTo geometry size committed later w (Opens mode Basing) (record devices { cache = synced devices.cache })) Caching
  pub cache_fails : Stages (λ geometry size committed later mode w devices. (lands : ℕ → Bool) → LeadsTo geometry size committed later w Gone (record devices { cache = synced_where lands devices.cache })) Caching
  pub syncs_origin : Stages (λ geometry size committed later mode w devices. LeadsTo geometry size committed later w (Opens mode Looking) (record devices { origin = synced devices.origin })) Basing
  pub origin_fails : Stages (λ geometry size committed later mode w devices. (lands : ℕ → Bool) → LeadsTo geometry size committed later w Gone (record devices { origin = synced_where lands devices.origin })) Basing
  -- the tree that was read, with the dirty bits beside it, is that of the one image; passthrough takes it where it was left clean
  pub learns : (geometry : Geometry) (size : ℕ) (committed : Stored) (mode : Mode) (w : Site) (devices : Devices (List History)) (root : Root) (tree : Mapping) (dirty : Option (List Bool)) (used : List Place) → (mode ≡ Passthrough → (root.clean ≡ true) × AreAllClean (with_bits dirty tree.entries)) → w.phase ≡ Opens mode Looking → DevicesAgree geometry size committed None devices w.world.shared → IsSettled devices.metadata →
      RepresentsState (map newest devices.metadata) root tree dirty used → FitsDevice (length devices.metadata) root tree used →
      (learnt : Learnt) × (learnt.locations ≡ (λ b. place_of tree.entries b)) × TakesClean root.clean (with_bits dirty tree.entries) learnt.clean × LeadsTo geometry size committed None w (Opens mode (Rooting learnt)) devices
  pub look_stops : Stages (λ geometry size committed later mode w devices. LeadsTo geometry size committed later w Gone devices) Looking
  -- where the metadata are written anew, a node or the sync behind the nodes is nothing there; where it fails the opening is over
  pub writes_nodes : (learnt : Learnt) (metadata : List History) → Stages (λ geometry size committed later mode w devices. MayBeReadAs geometry committed later metadata → DevicesAgree geometry size committed later (record devices { metadata = metadata }) w.world.shared) (Rooting learnt)
  pub nodes_fail : (learnt : Learnt) (metadata : List History) → Stages (λ geometry size committed later mode w devices. MayBeReadAs geometry committed later metadata → LeadsTo geometry size committed later w Gone (record devices { metadata = metadata })) (Rooting learnt)
  -- its root leads to a state that has the same blocks
  pub roots : (learnt : Learnt) (new : Stored) (metadata : List History) → learnt.locations ≡ locations new → StateTakesClean new (λ block. false) →
      Stages (λ geometry size committed later mode w devices. MayBeReadAs geometry committed (Some new) metadata → LeadsTo geometry size committed (Some new) w (Opens mode (Renewing learnt)) (record devices { metadata = metadata })) (Rooting learnt)
  pub root_fails : (learnt : Learnt) (new : Stored) (metadata : List History) → learnt.locations ≡ locations new → StateTakesClean new (λ block. false) →
      Stages (λ geometry size committed later mode w devices. MayBeReadAs geometry committed (Some new) metadata → LeadsTo geometry size committed (Some new) w Gone (record devices { metadata = metadata })) (Rooting learnt)
  pub renews : (learnt : Learnt) (metadata : List History) → Stages (λ geometry size committed later mode w devices. MayBeReadAs geometry committed later metadata → LeadsTo geometry size committed later w (Opens mode (Answering learnt)) (record devices { metadata = metadata })) (Renewing learnt)
  pub renewing_fails : (learnt : Learnt) (metadata : List History) → Stages (λ geometry size committed later mode w devices. MayBeReadAs geometry committed later metadata → LeadsTo geometry size committed later w Gone (record devices { metadata = metadata })) (Renewing learnt)
  -- and is the one image when the opening is answered done
  pub answers : (learnt : Learnt) (new : Stored) (blocks : ℕ → Block) → learnt.locations ≡ locations new → StateTakesClean new (λ block. false) → ((k : ℕ) → (blocks k ≡ Mapped) ⊎ ((blocks k ≡ Free) × IsUnnamed learnt.locations k)) →
      Stages (λ geometry size committed later mode w devices. MayBeReadAs geometry new None devices.metadata → LeadsTo geometry size new None w Stands devices) (Answering learnt)

-- What comes of the images (`Worlds.Turn`), where the metadata may be read so after it: where they stay, any commit or none runs;
-- one begins of the desk's mapping, where none does; its root is put, which leads to this state, or fails; and it ends.
pub record ImagesFollowed : Type 0 where
  pub stay : (geometry : Geometry) (committed : Stored) (later : Option Stored) (old new : List History) (s t : Shared) → ImagesAgree geometry committed later old s → TurnedTo Stays s t → MayBeReadAs geometry committed later new → ImagesAgree geometry committed later new t
  pub begin : (clean : Bool) (geometry : Geometry) (committed : Stored) (metadata : List History) (s t : Shared) → ImagesAgree geometry committed None metadata s → TurnedTo (Begins clean) s t → ImagesAgree geometry committed None metadata t × (t.running ≡ s.mapping)
  pub put : (geometry : Geometry) (committed state : Stored) (later : Option Stored) (old new : List History) (s t : Shared) → ImagesAgree geometry committed later old s → TurnedTo (Puts true) s t → s.running ≡ locations state → StateTakesClean state s.running_clean → MayBeReadAs geometry committed (Some state) new →
      ImagesAgree geometry committed (Some state) new t
  pub put_none : (geometry : Geometry) (committed : Stored) (written : Bool) (later : Option Stored) (old new : List History) (s t : Shared) → ImagesAgree geometry committed later old s → TurnedTo (Puts written) s t → MayBeReadAs geometry committed None new → ImagesAgree geometry committed None new t
  pub end : (geometry : Geometry) (state : Stored) (metadata : List History) (s t : Shared) → TurnedTo Ends s t → s.running ≡ locations state → StateTakesClean state s.running_clean → MayBeReadAs geometry state None metadata → ImagesAgree geometry state None metadata t
