-- What a write that is durable when it is answered did: a blocking write, and then a flush.
use Rattle.std.specs.Prelude.{◌⊎◌, ℕ, List, Option, None, length}
use Rattle.wb_types.specs.declared.extent.Extent.{Extent}
use Rattle.wb_types.specs.declared.geometry.Geometry.{Geometry}
use Rattle.wb_types.specs.declared.refusal.Refusal.{Refusal}
use Rattle.wb_disk.specs.Device.{Content as Bytes}
use Rattle.wb_port.specs.declared.hand.Hand.{Hand}
use Rattle.wb_target.specs.Blocking.{InParts, IsInsideOrigin, IsStopped}
use Rattle.wb_target.specs.Works.{WorkState}
use Rattle.wb_target.specs.declared.blocking.Stopped.{Stopped}

-- All its parts were done, and then it was flushed.
pub record WroteDurably {D : Type 0} (came : Option Refusal → Extent → Hand D × List Bytes → Hand D × List Bytes → Type 0) (flushed : WorkState D → WorkState D → Type 0) (geometry : Geometry) (first : ℕ) (from : List Bytes) (old : Hand D) (new : WorkState D) : Type 0 where
  pub parts : ℕ
  pub mid : WorkState D
  pub written : InParts came geometry.block None parts first old from mid.hand from
  pub then_flushed : flushed mid new

-- The write was stopped, and nothing was flushed; or all its parts were done, so many as are told, and the flush was refused.
abbrev pub StoppedDurably : {D : Type 0} → (Option Refusal → Extent → Hand D × List Bytes → Hand D × List Bytes → Type 0) → (Refusal → WorkState D → WorkState D → Type 0) → Geometry → ℕ → Stopped → Hand D → List Bytes → WorkState D → Type 0
StoppedDurably {D} came flush_refused geometry first stopped old from new =
    IsStopped came geometry first stopped old from new.hand from
    ⊎ ((mid : WorkState D) × IsInsideOrigin geometry first (length from) × InParts came geometry.block None stopped.done first old from mid.hand from × flush_refused stopped.refusal mid new)
