-- What a clerk writes down who sees the records, what an opening shows, and in which mode a target was opened: the write history of each sector, which
-- of its entries are finished, how far a crash may go back, and what each actor has been told to do. No device, word, task phase,
-- desk or metadata stands in it, nor how a job's sectors were cut.
use Rattle.std.specs.Prelude.{◌+◌, ◌*◌, ◌/◌, ◌%◌, ℕ, Bool, true, false, cond, suc, List, [], ◌∷◌, ◌++◌, Option, Some, None, map, replicate, length, slice_get, slice_set, max, unwrap_or}
use Rattle.wb_types.specs.declared.extent.Extent.{Extent}
use Rattle.wb_types.specs.declared.mode.Mode.{Mode}
use Rattle.wb_types.specs.declared.mode.Mode.TheVariants.{Writethrough}
use Rattle.wb_types.specs.declared.mode.Dev.{Dev}
use Rattle.wb_types.specs.declared.mode.Dev.TheVariants.{Cache}
use Rattle.wb_types.specs.Extents.{rising}
use Rattle.wb_disk.specs.Device.{Content as Bytes, History, newest, only, written}
use Rattle.wb_disk.specs.Memory.{blank}
use Rattle.wb_tasks.specs.Plan.{device_of}
use Rattle.wb_tasks.specs.declared.step.Answer.TheVariants.{Done as Finished}
use Rattle.wb_tasks.specs.declared.step.DeviceStep.{DeviceStep}
use Rattle.wb_tasks.specs.declared.step.DeviceStep.TheVariants.{Read as ReadExtent, Write as WriteExtent}
use Rattle.wb_tasks.specs.declared.step.Want.{Want}
use Rattle.wb_tasks.specs.declared.step.Want.TheVariants.{Device, End}
use Rattle.wb_tasks.specs.declared.step.Got.{Got}
use Rattle.wb_tasks.specs.declared.step.Got.TheVariants.{Done, Fault}
use Rattle.wb_promise.specs.declared.job.Job.{Job}
use Rattle.wb_promise.specs.declared.job.Job.TheVariants.{Read, Write, Flush, Suspend, Open}
use Rattle.wb_promise.specs.declared.event.Event.{Event}
use Rattle.wb_promise.specs.declared.event.Event.TheVariants.{Start, Step, FaultStep, Stop}
use Rattle.wb_promise.specs.declared.event.What.{What}
use Rattle.wb_promise.specs.declared.event.What.TheVariants.{Started, Stepped, Stopped}
use Rattle.wb_promise.specs.declared.event.Record.{Record}
use Rattle.wb_promise.specs.States.{Shape, sector_count, block_size}
use Rattle.wb_promise.specs.Happenings.{begun_as}

-- what a step of a read gave of one sector: its content, and the last entry of the sector's history at that step
pub record Reading : Type 0 where
  pub sector : ℕ
  pub content : Bytes
  pub latest : Option Bytes

-- an entry of a sector's history, by its position
pub record Position : Type 0 where
  pub sector : ℕ
  pub position : ℕ

-- what an actor is at: its job, what it has read, what it has entered, what was finished when it started, and the devices on
-- which steps of it have failed
pub record Doing : Type 0 where
  pub job : Job
  pub readings : List Reading
  pub entered : List Position
  pub then_finished : List ℕ
  pub failed : List Dev

-- Of each sector the history of what was written to it, the position of its last finished entry, and the position
-- behind which no crash may go; and what each actor is at.
pub record Notes : Type 0 where
  pub histories : List History
  pub finished : List ℕ
  pub floors : List ℕ
  pub doings : List (Option Doing)

-- At an opening each history begins with what is shown of the sector, and that is finished.
abbrev pub begins : ℕ → List Bytes → Notes
begins actors shown = record {
  histories = map only shown;
  finished = map (λ (content : Bytes). 0) shown;
  floors = map (λ (content : Bytes). 0) shown;
  doings = replicate actors None;
}

-- before the first opening: zeros
abbrev pub formatted : Shape → Notes
formatted shape = record {
  histories = replicate (sector_count shape) blank;
  finished = replicate (sector_count shape) 0;
  floors = replicate (sector_count shape) 0;
  doings = replicate shape.actors None;
}

abbrev pub begun : Notes → Job → Doing
begun n job = record { job = job; readings = []; entered = []; then_finished = n.finished; failed = [] }

-- nobody is at anything
abbrev pub nobody : List (Option Doing) → List (Option Doing)
nobody doings = map (λ (d : Option Doing). None) doings

-- the first sector of the origin's address range that a step on this extent of a device moves, for a request in one block
abbrev pub sector_for : Shape → Extent → Extent → ℕ
sector_for shape request e = request.first / block_size shape * block_size shape + e.first % block_size shape

-- the newest entry, and the position that the next one gets, of a sector's history
abbrev pub latest_of : Option History → Option Bytes
latest_of None = None
latest_of (Some h) = Some (newest h)

abbrev pub next_position : Option History → ℕ
next_position None = 0
next_position (Some h) = length h.later + 1

-- what a read of the sectors from this one on was given
abbrev pub readings_from : List History → ℕ → List Bytes → List Reading
readings_from histories sector [] = []
readings_from histories sector (c ∷ cs) = record { sector = sector; content = c; latest = latest_of (slice_get histories sector) } ∷ readings_from histories (suc sector) cs

-- the histories, and what a write has entered into them
pub record Entering : Type 0 where
  pub histories : List History
  pub entered : List Position

-- one sector more
abbrev pub enter : Bytes → ℕ → Entering → Entering
enter content sector e = record {
  histories = written e.histories sector content;
  entered = e.entered ++ record { sector = sector; position = next_position (slice_get e.histories sector) } ∷ [];
}

abbrev pub enter_each : Bytes → List ℕ → Entering → Entering
enter_each content [] e = e
enter_each content (sector ∷ sectors) e = enter_each content sectors (enter content sector e)

-- the greater of what was finished of a sector and this position
abbrev pub raised : List ℕ → Position → List ℕ
raised finished entry = slice_set finished entry.sector (max (unwrap_or (slice_get finished entry.sector) 0) entry.position)

abbrev pub all_raised : List ℕ → List Position → List ℕ
all_raised finished [] = finished
all_raised finished (entry ∷ entries) = all_raised (raised finished entry) entries

-- of each sector the greater of two positions
abbrev pub greater_of : List ℕ → List ℕ → List ℕ
greater_of (m ∷ ms) (n ∷ ns) = max m n ∷ greater_of ms ns
greater_of ms ns = ms

-- what an actor is at, from now on
abbrev pub put : Notes → ℕ → Option Doing → Notes
put n a doing = record n { doings = slice_set n.doings a doing }

abbrev pub read_note : Notes → ℕ → Doing → ℕ → List Bytes → Notes
read_note n a doing sector contents = put n a (Some (record doing { readings = doing.readings ++ readings_from n.histories sector contents }))

abbrev pub entering : Notes → Doing → Entering
entering n doing = record { histories = n.histories; entered = doing.entered }

abbrev pub write_note : Notes → ℕ → Doing → Entering → Notes
write_note n a doing e = record n { histories = e.histories; doings = slice_set n.doings a (Some (record doing { entered = e.entered })) }

-- A write is entered where its sectors are written first. In write-through the origin gets them before the cache does.
abbrev pub is_entered : Mode → Dev → Bool
is_entered Writethrough Cache = false
is_entered mode device = true

-- A step on a device. A read notes each sector that it was given; a write enters each sector of its extent at the first step that writes
-- it, failing or not.
abbrev pub device_note : Shape → Mode → Notes → ℕ → Doing → Job → DeviceStep → Got → List Bytes → Notes
device_note shape mode n a doing (Read extent) (ReadExtent device e) Done read = read_note n a doing (sector_for shape extent e) read
device_note shape mode n a doing (Write extent content) (WriteExtent device e) got read =
    cond (is_entered mode device) (write_note n a doing (enter_each content (rising (sector_for shape extent e) e.count) (entering n doing))) n
device_note shape mode n a doing job step got read = n

-- a step that failed is noted, with its device
abbrev pub failing : Doing → DeviceStep → Got → Doing
failing doing step Fault = record doing { failed = device_of step ∷ doing.failed }
failing doing step got = doing

-- what was finished when it started is durable
abbrev pub made_durable : Notes → ℕ → Doing → Notes
made_durable n a doing = record n { floors = greater_of n.floors doing.then_finished; doings = slice_set n.doings a None }

-- What a write entered is finished when it is answered done. A flush or a suspend that is answered done has made durable what was finished
-- when it started. After an opening that is answered done, histories begin with what it shows.
abbrev pub finished_note : Notes → ℕ → Doing → Job → List Bytes → Notes
finished_note n a doing (Write extent content) shown = record n { finished = all_raised n.finished doing.entered; doings = slice_set n.doings a None }
finished_note n a doing Flush shown = made_durable n a doing
finished_note n a doing Suspend shown = made_durable n a doing
finished_note n a doing (Open mode second) shown = begins (length n.doings) shown
finished_note n a doing job shown = put n a None

-- a step of an actor that is at something
abbrev pub noted_step : Shape → Mode → List Bytes → Notes → ℕ → Option (Option Doing) → Want → Got → List Bytes → Notes
noted_step shape mode shown n a (Some (Some doing)) (Device step) got read = device_note shape mode (put n a (Some (failing doing step got))) a (failing doing step got) doing.job step got read
noted_step shape mode shown n a (Some (Some doing)) (End Finished) got read = finished_note n a doing doing.job shown
noted_step shape mode shown n a (Some (Some doing)) (End answer) got read = put n a None
noted_step shape mode shown n a doing next got read = n

-- An opening's start, as a crash, ends what everybody is at. The histories stay.
abbrev pub starting : Notes → Job → Notes
starting n (Open mode second) = record n { doings = nobody n.doings }
starting n job = n

abbrev pub noted_what : Shape → Mode → List Bytes → Notes → Event → What → List Bytes → Notes
noted_what shape mode shown n (Start a job) Started read = put (starting n job) a (Some (begun n (begun_as job)))
noted_what shape mode shown n (Step a) (Stepped next got) read = noted_step shape mode shown n a (slice_get n.doings a) next got read
noted_what shape mode shown n (FaultStep a choice) (Stepped next got) read = noted_step shape mode shown n a (slice_get n.doings a) next got read
noted_what shape mode shown n (Stop choice) Stopped read = record n { doings = nobody n.doings }
noted_what shape mode shown n event what read = n

-- the notes after a record, before which the target was of this mode, and after which this is shown
abbrev pub note : Shape → Mode → List Bytes → Notes → Record → Notes
note shape mode shown n r = noted_what shape mode shown n r.event r.what r.read.items
