-- A trace as its callers see it.
use Rattle.std.specs.Prelude.{◌<◌, ℕ, List, length}
use Rattle.wb_promise.specs.declared.event.Record.{Record}

-- the records, and for how many there is memory
pub record Log : Type 0 where
  pub records : List Record
  pub capacity : ℕ

-- the next record needs no memory
abbrev pub RecordFits : Log → Type 0
RecordFits log = length log.records < log.capacity
