-- What is promised of the trace of events that ran on a new world, one after the other.
use Rattle.std.specs.Prelude.{◌≡◌, List, map}
use Rattle.wb_promise.specs.declared.event.Event.{Event}
use Rattle.wb_promise.specs.declared.event.Record.{Record}
use Rattle.wb_promise.specs.Clerk.{formatted}
use Rattle.wb_promise.specs.Headline.{Headline}
use Rattle.wb_promise.specs.Latest.{AllReadRightly}
use Rattle.wb_promise.specs.States.{Shape, start}
use Rattle.wb_machine.specs.Life.{IsReached, Life}

-- the events of these records, in order
abbrev pub events_of : List Record → List Event
events_of records = map (λ (r : Record). r.event) records

-- The run that has led to a life keeps the whole promise of a run, and each sector that any step of a read was given is the last
-- entry of its history, also where the read does not come to its end.
pub record KeepsPromises (life : Life) (run : IsReached life) : Type 0 where
  pub headline : Headline life.shape run.metadata run.happenings
  pub reads : AllReadRightly life.shape (start life.shape run.metadata) (formatted life.shape) run.happenings

-- It is the trace of a run from formatted metadata, with one record for each event, in order, and what is promised of every run holds
-- of it.
pub record IsRightRun (shape : Shape) (events : List Event) (records : List Record) : Type 0 where
  pub life : Life
  pub shape_is : life.shape ≡ shape
  pub trace_is : life.trace ≡ records
  pub of_events : events_of records ≡ events
  pub reached : IsReached life
  pub promises : KeepsPromises life reached
