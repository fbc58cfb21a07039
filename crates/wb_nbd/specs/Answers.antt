-- The bytes of an answer, and when one may be given.
use Rattle.std.specs.Prelude.{◌≡◌, ℕ, List, ◌++◌, Result, Ok, Err, Vec}
use Rattle.wb_nbd.specs.declared.errno.Errno.{Errno}
use Rattle.wb_nbd.specs.declared.answer.Answer.{Answer}
use Rattle.wb_nbd.specs.declared.job.Job.{Job}
use Rattle.wb_nbd.specs.Acts.{ExportCall}
use Rattle.wb_nbd.specs.Performing.{Performs}
use Rattle.wb_nbd.specs.Replies.{reply_header, error_number, joined_sectors}

abbrev pub told_spelling : {A : Type 0} → ℕ → Result (Vec (List ℕ) A) Errno → List ℕ
told_spelling cookie (Ok given) = reply_header 0 cookie ++ joined_sectors given.items
told_spelling cookie (Err errno) = reply_header (error_number errno) cookie

-- an error is told alone; without one the sectors follow
abbrev pub spelling : Answer → List ℕ
spelling answer = told_spelling answer.cookie.0 answer.told

-- A job was done on some export, or refused there, with this answer, and that export stands so now.
abbrev pub IsAnswered : {E : Type 0} → (E → ExportCall → E → Type 0) → Job → Answer → E → Type 0
IsAnswered {E = E} acts job answer now = (answer.cookie ≡ job.cookie) × ((old : E) × Performs acts old job.task answer.told now)
