-- Neither a flush, nor a durable write of sectors inside the origin, is refused for a range.
use Rattle.std.proofs.Common.{◌≡◌, ◌*◌, ℕ, List, length, inl, inr, refl, subst}
use Rattle.wb_types.specs.declared.geometry.Geometry.{Geometry}
use Rattle.wb_types.specs.declared.refusal.Refusal.{Refusal}
use Rattle.wb_types.specs.declared.refusal.Refusal.TheVariants.{Range}
use Rattle.wb_disk.specs.Device.{History}
use Rattle.wb_policy.specs.declared.order.Order.{Order}
use Rattle.wb_tasks.specs.Causes.{GaveCause}
use Rattle.wb_tasks.proofs.Causing.{refuses_for_cause}
use Rattle.wb_types.specs.declared.extent.Extent.{Extent}
use Rattle.wb_disk.specs.Device.{Content}
use Rattle.wb_port.specs.declared.hand.Hand.{Hand}
use Rattle.wb_port.proofs.Ranging.{no_range}
use Rattle.wb_target.specs.Carried.{Runs, flush_of}
use Rattle.wb_target.specs.Durable.{StoppedDurably}
use Rattle.wb_target.specs.declared.blocking.Stopped.{Stopped}
use Rattle.wb_opened.specs.Inside.{IsInside}
use Rattle.wb_opened.proofs.Inside.{not_outside}
use Rattle.wb_target.specs.Workers.{FlushRefused}
use Rattle.wb_target.specs.Works.{ShareTold, WorkState}
use Rattle.std.specs.Prelude.{Option, None}

pub flush_never_range : {D : Type 0} (tells : Type 0) (size : D → ℕ) (contents : D → List History) (faults : D → ℕ) (asked : List Order → ShareTold) (blocks : ℕ) (geometry : Geometry) (refusal : Refusal) (old new : WorkState D)
    → FlushRefused (Runs tells size contents faults asked blocks) geometry refusal old new → refusal ≡ Range → ⊥
flush_never_range tells size contents faults asked blocks geometry refusal old new f e = elim f [
  | inl refused ↦
      let ended = refused.1.ended in
      no_range (flush_of geometry None) ended.steps (subst (λ (x : Refusal). GaveCause (flush_of geometry None) x ended.steps) e (refuses_for_cause (flush_of geometry None) ended.steps refusal ended.run))
  | inr unbegun ↦ let memory = unbegun.0 in cc
]

pub durably_never_outside : {D : Type 0} (came : Option Refusal → Extent → Hand D × List Content → Hand D × List Content → Type 0) (tells : Type 0) (size : D → ℕ) (contents : D → List History) (faults : D → ℕ) (asked : List Order → ShareTold)
    (geometry : Geometry) (first : ℕ) (stopped : Stopped) (old : Hand D) (from : List Content) (new : WorkState D)
    → StoppedDurably came (FlushRefused (Runs tells size contents faults asked geometry.origin_blocks) geometry) geometry first stopped old from new → stopped.refusal ≡ Range → IsInside first (length from) (geometry.block * geometry.origin_blocks) → ⊥
durably_never_outside came tells size contents faults asked geometry first stopped old from new s e inside = elim s [
  | inl written ↦ elim written [
    | inl outside ↦ not_outside geometry first (length from) (length from) refl outside.0 inside
    | inr later ↦ later.1 e
  ]
  | inr flushed ↦ flush_never_range tells size contents faults asked geometry.origin_blocks geometry stopped.refusal flushed.0 new flushed.3 e
]
