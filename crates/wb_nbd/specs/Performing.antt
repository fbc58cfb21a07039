-- What performing a task does, and what it tells.
use Rattle.std.specs.Prelude.{◌≡◌, ◌⊎◌, ◌≤◌, ◌+◌, ℕ, List, [], true, false, Result, Ok, Err, Vec, length, replicate}
use Rattle.wb_nbd.specs.declared.errno.Errno.{Errno}
use Rattle.wb_nbd.specs.declared.errno.Errno.TheVariants.{Memory}
use Rattle.wb_nbd.specs.declared.job.Task.{Task}
use Rattle.wb_nbd.specs.declared.job.Task.TheVariants.{Read as ReadTask, Write as WriteTask, Zeroes as ZeroesTask, Flush as FlushTask, Refuse}
use Rattle.wb_nbd.specs.Acts.{ExportCall, Read, Wrote, Flushed, Refused}

-- the sectors of a task are some of so many
abbrev pub TaskFits : ℕ → Task → Type 0
TaskFits size (ReadTask at count) = at.0 + count ≤ size
TaskFits size (WriteTask at content durable) = at.0 + length content.items ≤ size
TaskFits size (ZeroesTask at count durable) = at.0 + count ≤ size
TaskFits size FlushTask = Unit {0}
TaskFits size (Refuse errno) = Unit {0}

-- one act, and another after it
abbrev pub Both : {E : Type 0} → (E → ExportCall → E → Type 0) → E → ExportCall → ExportCall → E → Type 0
Both {E = E} acts old first second new = (between : E) × acts old first between × acts between second new

-- sectors of zeros
abbrev pub zero_sectors : ℕ → List (List ℕ)
zero_sectors count = replicate count (replicate 512 0)

-- so many sectors from a place on were written with zeros, by one write behind the other
pub data WritesZeros {E : Type 0} (acts : E → ExportCall → E → Type 0) (old : E) (at : ℕ) : ℕ → E → Type 0 where
  nothing : WritesZeros acts old at 0 old
  more : {done : ℕ} {between new : E} → WritesZeros acts old at done between → (count : ℕ) → acts between (Wrote (at + done) (zero_sectors count)) new
      → WritesZeros acts old at (done + count) new

-- A task was done, and these sectors were given: those that the export's read gave, or none. What has to be durable was flushed
-- after it was written.
abbrev pub IsTaskDone : {E : Type 0} → (E → ExportCall → E → Type 0) → E → Task → List (List ℕ) → E → Type 0
IsTaskDone acts old (ReadTask at count) given new = acts old (Read at.0 given) new × (length given ≡ count)
IsTaskDone acts old (WriteTask at content false) given new = acts old (Wrote at.0 content.items) new × (given ≡ [])
IsTaskDone acts old (WriteTask at content true) given new = Both acts old (Wrote at.0 content.items) Flushed new × (given ≡ [])
IsTaskDone acts old (ZeroesTask at count false) given new = WritesZeros acts old at.0 count new × (given ≡ [])
IsTaskDone {E = E} acts old (ZeroesTask at count true) given new = ((between : E) × WritesZeros acts old at.0 count between × acts between Flushed new) × (given ≡ [])
IsTaskDone acts old FlushTask given new = acts old Flushed new × (given ≡ [])
IsTaskDone acts old (Refuse errno) given new = ⊥

-- some of the sectors were written with zeros, all at most, and then the export refused
abbrev pub StopsAmongZeros : {E : Type 0} → (E → ExportCall → E → Type 0) → E → ℕ → ℕ → Errno → E → Type 0
StopsAmongZeros {E = E} acts old at count errno new = (done : ℕ) × (done ≤ count) × ((between : E) × WritesZeros acts old at done between × acts between (Refused errno) new)

-- A task was not done for this reason: that of the export's refusal; for a read and for zeros also that there is no memory, and the
-- export was asked nothing.
abbrev pub IsTaskRefused : {E : Type 0} → (E → ExportCall → E → Type 0) → E → Task → Errno → E → Type 0
IsTaskRefused acts old (ReadTask at count) errno new = acts old (Refused errno) new ⊎ ((errno ≡ Memory) × (new ≡ old))
IsTaskRefused acts old (WriteTask at content false) errno new = acts old (Refused errno) new
IsTaskRefused acts old (WriteTask at content true) errno new = acts old (Refused errno) new ⊎ Both acts old (Wrote at.0 content.items) (Refused errno) new
IsTaskRefused acts old (ZeroesTask at count durable) errno new = StopsAmongZeros acts old at.0 count errno new ⊎ ((errno ≡ Memory) × (new ≡ old))
IsTaskRefused acts old FlushTask errno new = acts old (Refused errno) new
IsTaskRefused acts old (Refuse reason) errno new = (errno ≡ reason) × (new ≡ old)

-- what was told of a task
abbrev pub Performs : {E A : Type 0} → (E → ExportCall → E → Type 0) → E → Task → Result (Vec (List ℕ) A) Errno → E → Type 0
Performs acts old task (Ok given) new = IsTaskDone acts old task given.items new
Performs acts old task (Err errno) new = IsTaskRefused acts old task errno new
