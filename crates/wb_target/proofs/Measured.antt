-- Devices of which no geometry has the sizes.
use Rattle.std.proofs.Common.{◌≡◌, ◌∙◌, ◌*◌, ℕ, Bool, sym, subst}
use Rattle.wb_types.specs.Limits.{IsWithinLimits, HasRoom}
use Rattle.wb_types.specs.Versions.{version_asked}
use Rattle.wb_types.specs.declared.version.Version.{Version}
use Rattle.wb_devices.specs.declared.devices.Devices.{Devices}
use Rattle.wb_target.specs.NotOpened.{AreNoSizes}

-- no geometry has these sizes, where no numbers of blocks are within the limits and have room
pub outside : {D : Type 0} (size : D → ℕ) (devices : Devices D) (block : ℕ) (metadata2 : Bool) (metadata cache origin : ℕ) → metadata ≡ size devices.metadata → cache ≡ size devices.cache → origin ≡ size devices.origin
    → ((cache_blocks origin_blocks : ℕ) → cache_blocks * block ≡ cache → origin_blocks * block ≡ origin → IsWithinLimits block cache_blocks origin_blocks metadata → ¬ HasRoom (version_asked metadata2) cache_blocks metadata)
    → AreNoSizes size devices block metadata2
outside size devices block metadata2 metadata cache origin metadata_is cache_is origin_is refused geometry is =
    let sectors : geometry.meta_sectors ≡ metadata = is.metadata ∙ sym metadata_is in
    refused geometry.cache_blocks geometry.origin_blocks (is.cache ∙ sym cache_is) (is.origin ∙ sym origin_is)
    (subst (λ (n : ℕ). IsWithinLimits block geometry.cache_blocks geometry.origin_blocks n) sectors
    (subst (λ (n : ℕ). IsWithinLimits n geometry.cache_blocks geometry.origin_blocks geometry.meta_sectors) is.block_is geometry.within))
    (subst (λ (n : ℕ). HasRoom (version_asked metadata2) geometry.cache_blocks n) sectors
    (subst (λ (v : Version). HasRoom v geometry.cache_blocks geometry.meta_sectors) is.version geometry.room))
