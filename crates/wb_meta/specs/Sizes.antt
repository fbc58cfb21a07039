-- Sizes that two geometries have in common, whatever their versions are.
use Rattle.std.specs.Prelude.{◌≡◌}
use Rattle.wb_types.specs.declared.geometry.Geometry.{Geometry}

-- the sizes are the same
pub record AreSameSizes (one other : Geometry) : Type 0 where
  pub block : one.block ≡ other.block
  pub cache_blocks : one.cache_blocks ≡ other.cache_blocks
  pub origin_blocks : one.origin_blocks ≡ other.origin_blocks
  pub meta_sectors : one.meta_sectors ≡ other.meta_sectors
