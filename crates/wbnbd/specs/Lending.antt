-- What a call on an export that is a client of a target was of that client.
use Rattle.std.specs.Prelude.{◌≡◌, ◌⊎◌}
use Rattle.wb_types.specs.declared.refusal.Refusal.{Refusal}
use Rattle.wb_types.specs.declared.refusal.Refusal.TheVariants.{Range, Failed, Memory, Io}
use Rattle.wb_nbd.specs.Acts.{ExportCall, Read, Wrote, Flushed, Refused}
use Rattle.wb_nbd.specs.declared.errno.Errno.{Errno}
use Rattle.wb_nbd.specs.declared.errno.Errno.TheVariants.{Io as DeviceFailed, Memory as NoMemory, Invalid, Space, Shutdown}
use Rattle.wb_opened.specs.Deeds.{Deed, Read as HasRead, Wrote as HasWritten, Flushed as HasFlushed}
use Rattle.wb_opened.specs.Refused.{Demand}

-- As what a refusal is told: of a device that it failed, or is full.
abbrev pub IsToldAs : Refusal → Errno → Type 0
IsToldAs Range errno = errno ≡ Invalid
IsToldAs Failed errno = errno ≡ Shutdown
IsToldAs Memory errno = errno ≡ NoMemory
IsToldAs (Io device) errno = (errno ≡ DeviceFailed) ⊎ (errno ≡ Space)
IsToldAs refusal errno = errno ≡ DeviceFailed

-- One that ended well is the client's own, of the same sectors and contents; one that was refused is a call of the client's that met a refusal,
-- which is told so.
abbrev pub DoneBy : {C : Type 0} → (C → Deed → C → Type 0) → (C → Demand → Refusal → C → Type 0) → C → ExportCall → C → Type 0
DoneBy did met old (Read at content) new = did old (HasRead at content) new
DoneBy did met old (Wrote at content) new = did old (HasWritten at content) new
DoneBy did met old Flushed new = did old HasFlushed new
DoneBy did met old (Refused errno) new = (asked : Demand) × (refusal : Refusal) × met old asked refusal new × IsToldAs refusal errno
