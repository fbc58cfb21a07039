-- Sameness of sizes is one of their values.
use Rattle.std.proofs.Common.{◌≡◌, sym, subst, refl}
use Rattle.wb_types.specs.declared.geometry.Geometry.{Geometry}
use Rattle.wb_meta.specs.Sizes.{AreSameSizes}

-- a geometry has its own sizes
pub own_sizes : (one : Geometry) → AreSameSizes one one
own_sizes one = record { block = refl; cache_blocks = refl; origin_blocks = refl; meta_sectors = refl }

pub alike_sizes : (one other : Geometry) → one ≡ other → AreSameSizes one other
alike_sizes one other same = subst (AreSameSizes one) same (own_sizes one)

pub swapped_sizes : (one other : Geometry) → AreSameSizes one other → AreSameSizes other one
swapped_sizes one other same = record {
  block = sym same.block;
  cache_blocks = sym same.cache_blocks;
  origin_blocks = sym same.origin_blocks;
  meta_sectors = sym same.meta_sectors;
}

-- what is of the geometry of an image has the sizes of what it follows
pub following_sizes : (old plan new : Geometry) → AreSameSizes old plan → new ≡ plan → AreSameSizes new old
following_sizes old plan new same is = subst (λ (g : Geometry). AreSameSizes g old) (sym is) (swapped_sizes old plan same)
