-- Which metadata serve where a geometry is asked for.
use Rattle.std.specs.Prelude.{◌≡◌, ◌⊎◌}
use Rattle.wb_types.specs.declared.geometry.Geometry.{Geometry}
use Rattle.wb_types.specs.declared.version.Version.TheVariants.{Two}
use Rattle.wb_meta.specs.Sizes.{AreSameSizes}

-- The metadata of this geometry serve where one is asked for: their sizes are the same, and their version is the one asked for, or the
-- second, of which they stay.
pub record IsServedBy (found asked : Geometry) : Type 0 where
  pub sizes : AreSameSizes found asked
  pub version : (found.version ≡ asked.version) ⊎ (found.version ≡ Two)
