-- What has to be done for a request.
use Rattle.std.specs.Prelude.{◌≡◌, ◌≢◌, ◌≤◌, ◌<◌, ◌+◌, ◌*◌, ◌⊎◌, ◌++◌, ℕ, List, [], Option, Some, None, Bool, true, false, length}
use Rattle.wb_nbd.specs.declared.errno.Errno.TheVariants.{Io, Memory, Invalid, Space, Shutdown}
use Rattle.wb_nbd.specs.declared.request.Request.{Request}
use Rattle.wb_nbd.specs.declared.request.Command.{Command}
use Rattle.wb_nbd.specs.declared.request.Command.TheVariants.{Read, Write, Disconnect, Flush, Zeroes, Other}
use Rattle.wb_nbd.specs.declared.request.Flags.{Flags}
use Rattle.wb_nbd.specs.declared.request.Flags.TheVariants.{None as NoFlag, Durable, Other as OtherFlags}
use Rattle.wb_nbd.specs.declared.job.Task.{Task}
use Rattle.wb_nbd.specs.declared.job.Task.TheVariants.{Read as ReadTask, Write as WriteTask, Zeroes as ZeroesTask, Flush as FlushTask, Refuse}
use Rattle.wb_nbd.specs.declared.job.Job.{Job}
use Rattle.wb_nbd.specs.Requests.{SpellsRequest}
use Rattle.wb_nbd.specs.Replies.{joined_sectors}

-- how many bytes one request may speak of: 32 MiB where they are sent with it or with its reply, and as many as it can spell of zeros
abbrev pub most_bytes : Command → ℕ
most_bytes Zeroes = 4294967295
most_bytes command = 33554432

-- so many bytes from an offset on are these sectors of an export of so many: whole ones, at least one, and no more than this
pub record AreSectors (size most offset bytes at count : ℕ) : Type 0 where
  pub start : at * 512 ≡ offset
  pub many : count * 512 ≡ bytes
  pub some : 0 < count
  pub inside : at + count ≤ size
  pub few : bytes ≤ most

-- a request that no sectors of the export are
abbrev pub IsOutsideExport : ℕ → Request → Type 0
IsOutsideExport size request = (at count : ℕ) → AreSectors size (most_bytes request.command) request.offset request.length at count → ⊥

-- a request for bytes past the end of the export
abbrev pub IsPastEnd : ℕ → Request → Type 0
IsPastEnd size request = size * 512 < request.offset + request.length

-- a flush that speaks of a part of the export
abbrev pub IsPartial : Request → Type 0
IsPartial request = (request.offset ≢ 0) ⊎ (request.length ≢ 0)

-- a request that writes
abbrev pub Writes : Request → Type 0
Writes request = (request.command ≡ Write) ⊎ (request.command ≡ Zeroes)

-- a request that is not served: an unknown command or flag, a read or a write outside, or a flush of a part; a write past the end is
-- told so
pub data IsUnserved (size : ℕ) (request : Request) : Type 0 where
  Unknown_command : request.command ≡ Other → IsUnserved size request
  Unknown_flags : request.flags ≡ OtherFlags → IsUnserved size request
  Read_outside : request.command ≡ Read → IsOutsideExport size request → IsUnserved size request
  Write_outside : Writes request → IsOutsideExport size request → request.offset + request.length ≤ size * 512 → IsUnserved size request
  Flush_of_a_part : request.command ≡ Flush → IsPartial request → IsUnserved size request

-- a flag that the protocol has, and whether what is written has to be durable
abbrev pub IsDurable : Flags → Bool → Type 0
IsDurable NoFlag durable = durable ≡ false
IsDurable Durable durable = durable ≡ true
IsDurable OtherFlags durable = ⊥

-- how many bytes follow a request
abbrev pub payload_size : Request → ℕ
payload_size request = size_of request.command request.length where
  size_of : Command → ℕ → ℕ
  size_of Write bytes = bytes
  size_of _ bytes = 0

-- the task of a request on an export of so many sectors, and of the bytes that follow it
abbrev pub IsTask : ℕ → Request → List ℕ → Task → Type 0
IsTask size request payload (ReadTask at count) =
    (request.command ≡ Read) × (payload ≡ []) × AreSectors size 33554432 request.offset request.length at.0 count × (request.flags ≢ OtherFlags)
IsTask size request payload (WriteTask at content durable) =
    (request.command ≡ Write) × (payload ≡ joined_sectors content.items) × IsDurable request.flags durable
    × AreSectors size 33554432 request.offset request.length at.0 (length content.items)
IsTask size request payload (ZeroesTask at count durable) =
    (request.command ≡ Zeroes) × (payload ≡ []) × IsDurable request.flags durable × AreSectors size 4294967295 request.offset request.length at.0 count
IsTask size request payload FlushTask = (request.command ≡ Flush) × (request.offset ≡ 0) × (request.length ≡ 0) × (payload ≡ []) × (request.flags ≢ OtherFlags)
IsTask size request payload (Refuse Invalid) = IsUnserved size request × (length payload ≡ payload_size request)
IsTask size request payload (Refuse Memory) = (request.command ≡ Write) × (length payload ≡ request.length)
IsTask size request payload (Refuse Space) = Writes request × IsPastEnd size request × (length payload ≡ payload_size request)
IsTask size request payload (Refuse Io) = ⊥
IsTask size request payload (Refuse Shutdown) = ⊥

-- the bytes spell a request, and what follows it, for which this is the job
pub record AsksFor (size : ℕ) (all : List ℕ) (job : Job) : Type 0 where
  pub header : List ℕ
  pub payload : List ℕ
  pub request : Request
  pub whole : all ≡ header ++ payload
  pub spelled : SpellsRequest header request
  pub cookie : job.cookie ≡ request.cookie
  pub task : IsTask size request payload job.task

-- the bytes spell the request to end the connection
pub record AsksForEnd (bytes : List ℕ) : Type 0 where
  pub request : Request
  pub spelled : SpellsRequest bytes request
  pub command : request.command ≡ Disconnect

-- the bytes ask for a job, or, where there is none, for the end
abbrev pub BytesAsk : ℕ → List ℕ → Option Job → Type 0
BytesAsk size bytes (Some job) = AsksFor size bytes job
BytesAsk size bytes None = AsksForEnd bytes
