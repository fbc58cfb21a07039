-- What lies inside an origin is not refused for its range.
use Rattle.std.proofs.Common.{◌≡◌, ◌*◌, ℕ, inl, inr, arith}
use Rattle.wb_types.specs.declared.geometry.Geometry.{Geometry}
use Rattle.wb_port.specs.Requests.{IsOutside}
use Rattle.wb_opened.specs.Inside.{IsInside}

pub not_outside : (geometry : Geometry) (first many count : ℕ) → many ≡ count → IsOutside geometry first many → IsInside first count (geometry.block * geometry.origin_blocks) → ⊥
not_outside geometry first many count e o i = elim o [ inl none ↦ absurd (omega (arith, none, e, i.some)) | inr past ↦ absurd (omega (arith, past, e, i.within)) ]
