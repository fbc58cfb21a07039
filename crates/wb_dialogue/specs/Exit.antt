-- The exit statuses of the program.
use Rattle.std.specs.Prelude.{ℕ}
use Rattle.wb_types.specs.declared.refusal.Refusal.{Refusal}
use Rattle.wb_types.specs.declared.refusal.Refusal.TheVariants.{Io, Failed}
use Rattle.wb_dialogue.specs.declared.status.Status.{Status}
use Rattle.wb_dialogue.specs.declared.status.Status.TheVariants.{Done, Refused, DeviceFailed, StreamFailed}

-- the exit status that a caller of the program sees
abbrev pub code_of : Status → ℕ
code_of Done = 0
code_of Refused = 1
code_of DeviceFailed = 3
code_of StreamFailed = 4

-- what a printed refusal makes of a run
abbrev pub status_of : Refusal → Status
status_of (Io device) = DeviceFailed
status_of Failed = DeviceFailed
status_of refusal = Refused
