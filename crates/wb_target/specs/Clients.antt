-- Which devices a client may have, and why there is no client.
use Rattle.std.specs.Prelude.{◌≡◌, ◌*◌, ℕ}
use Rattle.wb_types.specs.declared.geometry.Geometry.{Geometry}
use Rattle.wb_types.specs.declared.refusal.Refusal.{Refusal}
use Rattle.wb_types.specs.declared.refusal.Refusal.TheVariants.{Busy, Failed, Memory, Geometry as OtherSizes}
use Rattle.wb_devices.specs.declared.devices.Devices.{Devices}

-- three devices have just the sizes of this geometry
pub record HaveSizes {D : Type 0} (size : D → ℕ) (geometry : Geometry) (devices : Devices D) : Type 0 where
  pub metadata : size devices.metadata ≡ geometry.meta_sectors
  pub cache : size devices.cache ≡ geometry.block * geometry.cache_blocks
  pub origin : size devices.origin ≡ geometry.block * geometry.origin_blocks

-- A client with these devices is refused so: they have other sizes than the target's; or all places are taken, the target has failed, or
-- there is no memory.
abbrev pub IsNoClientFor : {D : Type 0} → (D → ℕ) → Geometry → Devices D → Refusal → Type 0
IsNoClientFor size sizes devices OtherSizes = ¬ HaveSizes size sizes devices
IsNoClientFor size sizes devices Busy = HaveSizes size sizes devices
IsNoClientFor size sizes devices Failed = HaveSizes size sizes devices
IsNoClientFor size sizes devices Memory = HaveSizes size sizes devices
IsNoClientFor size sizes devices refusal = ⊥
