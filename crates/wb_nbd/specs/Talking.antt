-- A conversation of requests and replies.
use Rattle.std.specs.Prelude.{◌≡◌, ℕ, List, Option}
use Rattle.std.specs.Io.KnownBytes.{Consumes, Appends}
use Rattle.wb_nbd.specs.declared.job.Job.{Job}
use Rattle.wb_nbd.specs.declared.answer.Answer.{Answer}
use Rattle.wb_nbd.specs.Acts.{ExportCall}
use Rattle.wb_nbd.specs.Answers.{spelling}
use Rattle.wb_nbd.specs.Jobs.{AsksFor, AsksForEnd}
use Rattle.wb_nbd.specs.Performing.{Performs}

-- what has been reached by such steps from a start
pub data Chain {S : Type 0} (step : S → S → Type 0) (start : S) : S → Type 0 where
  still : Chain step start start
  further : {old new : S} → Chain step start old → step old new → Chain step start new

-- where a conversation stands: the export, what the reader has left and what the writer holds, where they tell
pub record Stand (E : Type 0) : Type 0 where
  pub export : E
  pub input : Option (List ℕ)
  pub output : Option (List ℕ)

abbrev pub stand : {E : Type 0} → E → Option (List ℕ) → Option (List ℕ) → Stand E
stand export input output = record { export = export; input = input; output = output }

-- One request and its one reply: the request is read, its job is done on the export, and what was told of it is written, under the
-- request's cookie.
pub record Turn {E : Type 0} (size : E → ℕ) (acts : E → ExportCall → E → Type 0) (old new : Stand E) : Type 0 where
  pub asked : List ℕ
  pub job : Job
  pub answer : Answer
  pub taken : Consumes old.input new.input asked
  pub spelled : AsksFor (size old.export) asked job
  pub cookie : answer.cookie ≡ job.cookie
  pub done : Performs acts old.export job.task answer.told new.export
  pub sent : Appends old.output new.output (spelling answer)

-- The client ends the connection: nothing is done, and nothing is written.
pub record Ends {E : Type 0} (old new : Stand E) : Type 0 where
  pub asked : List ℕ
  pub taken : Consumes old.input new.input asked
  pub spelled : AsksForEnd asked
  pub export : new.export ≡ old.export
  pub output : new.output ≡ old.output

-- nothing is done, and nothing is written; what is read is not said
pub record IsLeft {E : Type 0} (old new : Stand E) : Type 0 where
  pub export : new.export ≡ old.export
  pub output : new.output ≡ old.output

-- requests, each with its reply, and then an end of this kind
abbrev pub TalksUntil : {E : Type 0} → (E → ℕ) → (E → ExportCall → E → Type 0) → (Stand E → Stand E → Type 0) → Stand E → Stand E → Type 0
TalksUntil {E = E} size acts End old new = (last : Stand E) × Chain (Turn size acts) old last × End last new
