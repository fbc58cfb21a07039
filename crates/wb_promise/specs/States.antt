-- A cache target over three devices as a pure machine: its states.
use Rattle.std.specs.Prelude.{◌*◌, ℕ, Bool, List, [], Option, Some, None, replicate}
use Rattle.wb_types.specs.declared.geometry.Geometry.{Geometry}
use Rattle.wb_types.specs.declared.mode.Mode.{Mode}
use Rattle.wb_types.specs.declared.mode.Mode.TheVariants.{Writeback}
use Rattle.wb_types.specs.declared.mode.Dev.{Dev}
use Rattle.wb_types.specs.declared.mode.Dev.TheVariants.{Metadata, Cache, Origin}
use Rattle.wb_disk.specs.Device.{Content as Bytes, History}
use Rattle.wb_disk.specs.Memory.{blank}
use Rattle.wb_words.specs.SharedWords.{Words}
use Rattle.wb_words.specs.Cards.{blank_card}
use Rattle.wb_words.specs.declared.card.Card.{Card}
use Rattle.wb_meta.specs.declared.read_steps.ReadSteps.{ReadSteps}
use Rattle.wb_policy.specs.declared.order.Order.{Order}
use Rattle.wb_desk.specs.Desks.{DeskState}
use Rattle.wb_tasks.specs.Plan.{Plan}
use Rattle.wb_devices.specs.declared.devices.Devices.{Devices}
use Rattle.wb_devices.specs.declared.running.RunningCommit.{RunningCommit}
use Rattle.wb_stage.specs.declared.share.Share.{Share}
use Rattle.wb_stage.specs.declared.share.Share.TheVariants.{Nothing}
use Rattle.wb_promise.specs.declared.job.Job.{Job}

-- the sizes of the devices, how many sectors orders may ask for at once, and how many actors there are
pub record Shape : Type 0 where
  pub geometry : Geometry
  pub threshold : ℕ
  pub actors : ℕ

-- What an actor is at, and what is left of it, if it is at anything; what it knows of the shared words; the orders that it has:
-- that of the migration that it is at, and those of migrations that it may start or start again; those of replacements whose block has left,
-- and which wait for a flush of this actor; the contents that a migration has read last, which it writes next; for each cache block
-- whether a suspend has seen its copy dirty; and what a flush has of the commits that others lead.
pub record Actor : Type 0 where
  pub task : Option (Job × Plan)
  pub card : Card
  pub orders : List Order
  pub awaiting : List Order
  pub buffer : List Bytes
  pub seen : List Bool
  pub share : Share

-- what stands from an opening's answer to a crash or the next opening's start
pub record Target (P : Type 0) : Type 0 where
  pub words : Words
  pub desk : DeskState P

-- A target stands; or none, and nobody opens one; or an opening in this mode is at work, whose reading has come so far: it begins
-- once the metadata were synced, and is over where it was refused.
pub data Phase (P A : Type 0) : Type 0 where
  Stands : Target P → Phase P A
  Gone : Phase P A
  Opens : Mode → Option (ReadSteps A) → Phase P A

-- The devices, the commit that runs, if any does that no fault has stopped, and the actors, always as many.
pub record State (P A : Type 0) : Type 0 where
  pub devices : Devices (List History)
  pub commit : Option RunningCommit
  pub phase : Phase P A
  pub actors : List Actor

-- an actor with nothing to do, and with no order
abbrev pub resting : Actor
resting = record { task = None; card = blank_card; orders = []; awaiting = []; buffer = []; seen = []; share = Nothing }

abbrev pub block_size : Shape → ℕ
block_size shape = shape.geometry.block

-- the sectors of the origin, and of the cache
abbrev pub sector_count : Shape → ℕ
sector_count shape = shape.geometry.block * shape.geometry.origin_blocks

abbrev pub cache_sector_count : Shape → ℕ
cache_sector_count shape = shape.geometry.block * shape.geometry.cache_blocks

-- Metadata that were formatted, two devices of zeros, no target yet, and nobody at work.
abbrev pub start : {P A : Type 0} → Shape → List History → State P A
start shape metadata = record {
  devices = record { metadata = metadata; cache = replicate (cache_sector_count shape) blank; origin = replicate (sector_count shape) blank };
  commit = None;
  phase = Gone;
  actors = replicate shape.actors resting;
}

-- the devices with another one in place of one
abbrev pub with_device : Dev → Devices (List History) → List History → Devices (List History)
with_device Metadata devices device = record devices { metadata = device }
with_device Cache devices device = record devices { cache = device }
with_device Origin devices device = record devices { origin = device }

-- ---- what a target shows

-- the mode in which the target that stands was opened; where none stands nothing is read or written in any
abbrev pub mode_of : {P A : Type 0} → Phase P A → Mode
mode_of (Stands target) = target.desk.mode
mode_of phase = Writeback

-- this holds of the target that stands
abbrev pub OfTarget : {P A : Type 0} → Phase P A → (Target P → Type 0) → Type 0
OfTarget (Stands target) on = on target
OfTarget phase on = ⊥

-- this holds of the reading of the opening that is at work
abbrev pub OfReading : {P A : Type 0} → Phase P A → (Mode → ReadSteps A → Type 0) → Type 0
OfReading (Opens mode (Some reading)) on = on mode reading
OfReading phase on = ⊥
