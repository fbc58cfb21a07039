-- What one of those who serve a connection beside one another does.
use Rattle.std.specs.Prelude.{◌≡◌, ◌⊎◌, ℕ, ◌+◌, List, Option, Some, None}
use Rattle.wb_nbd.specs.declared.connection.Turns.{Turns}
use Rattle.wb_nbd.specs.declared.answer.Answer.{Answer}
use Rattle.wb_nbd.specs.declared.broken.Broken.{Broken}
use Rattle.wb_nbd.specs.declared.broken.Broken.TheVariants.{Writer}
use Rattle.wb_nbd.specs.declared.job.Job.{Job}
use Rattle.wb_nbd.specs.Acts.{ExportCall}
use Rattle.wb_nbd.specs.Performing.{Performs}
use Rattle.wb_nbd.specs.Talking.{Chain, Turn, stand}

-- One request and its one reply, whatever the others do: from what the reader had when this one took it, and to what the writer held
-- when this one wrote.
pub record Serves {E : Type 0} (size : E → ℕ) (acts : E → ExportCall → E → Type 0) (old new : E) : Type 0 where
  pub input : Option (List ℕ)
  pub input_left : Option (List ℕ)
  pub output : Option (List ℕ)
  pub output_then : Option (List ℕ)
  pub turn : Turn size acts (stand old input output) (stand new input_left output_then)

-- so many of them, one after the other
abbrev pub ServesAll : {E : Type 0} → (E → ℕ) → (E → ExportCall → E → Type 0) → E → E → Type 0
ServesAll size acts old new = Chain (Serves size acts) old new

-- Where it breaks, nothing more was done; or one job was, whose reply could not be written.
abbrev pub BreaksSo : {E : Type 0} → (E → ExportCall → E → Type 0) → Broken → E → E → Type 0
BreaksSo acts broken old new = (new ≡ old) ⊎ ((broken ≡ Writer) × ((job : Job) × (answer : Answer) × Performs acts old job.task answer.told new))

-- and so after those that were served
abbrev pub ServesUntil : {E : Type 0} → (E → ℕ) → (E → ExportCall → E → Type 0) → Broken → E → E → Type 0
ServesUntil {E = E} size acts broken old new = (last : E) × ServesAll size acts old last × BreaksSo acts broken last new

-- one request more was taken, if any
abbrev pub with_taken : Option Job → Turns → Turns
with_taken (Some job) turns = record turns { taken = turns.taken + 1 }
with_taken None turns = turns
