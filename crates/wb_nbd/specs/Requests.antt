-- What the bytes of a request mean.
use Rattle.std.specs.Prelude.{◌≡◌, ◌≢◌, ◌≤◌, ◌⊎◌, ℕ, List, length}
use Rattle.wb_nbd.specs.declared.request.Request.{Request}
use Rattle.wb_nbd.specs.declared.request.Command.{Command}
use Rattle.wb_nbd.specs.declared.request.Command.TheVariants.{Read, Write, Disconnect, Flush, Zeroes, Other}
use Rattle.wb_nbd.specs.declared.request.Flags.{Flags}
use Rattle.wb_nbd.specs.declared.request.Flags.TheVariants.{None as NoFlag, Durable, Other as OtherFlags}
use Rattle.wb_nbd.specs.Bytes.{number_at}

-- 0x25609513
abbrev pub request_magic : ℕ
request_magic = 627086611

-- the number of a command
abbrev pub IsCommand : ℕ → Command → Type 0
IsCommand number Read = number ≡ 0
IsCommand number Write = number ≡ 1
IsCommand number Disconnect = number ≡ 2
IsCommand number Flush = number ≡ 3
IsCommand number Zeroes = number ≡ 6
IsCommand number Other = (4 ≤ number) × (number ≢ 6)

-- The number of a request's flags, of which bit 0 alone is served; of one that writes zeros also bit 1, by which they have to leave no
-- hole, as they never do.
abbrev pub AreFlags : Command → ℕ → Flags → Type 0
AreFlags Zeroes number NoFlag = (number ≡ 0) ⊎ (number ≡ 2)
AreFlags Zeroes number Durable = (number ≡ 1) ⊎ (number ≡ 3)
AreFlags Zeroes number OtherFlags = 4 ≤ number
AreFlags command number NoFlag = number ≡ 0
AreFlags command number Durable = number ≡ 1
AreFlags command number OtherFlags = 2 ≤ number

-- the bytes of a request, without those that it writes
pub record SpellsRequest (bytes : List ℕ) (request : Request) : Type 0 where
  pub size : length bytes ≡ 28
  pub magic : number_at bytes 0 4 ≡ request_magic
  pub flags : AreFlags request.command (number_at bytes 4 2) request.flags
  pub command : IsCommand (number_at bytes 6 2) request.command
  pub cookie : number_at bytes 8 8 ≡ request.cookie.0
  pub offset : number_at bytes 16 8 ≡ request.offset
  pub length : number_at bytes 24 4 ≡ request.length
