-- Sizes that geometries of either version have in common.
use Rattle.std.proofs.Common.{◌≡◌, ◌∙◌, sym, subst, List, Option, Some, None}
use Rattle.wb_types.specs.declared.geometry.Geometry.{Geometry}
use Rattle.wb_disk.specs.Device.{History}
use Rattle.wb_meta.specs.Representing.{Stored}
use Rattle.wb_meta.specs.Roots.{MayBeReadAs, StoredIsOf}
use Rattle.wb_meta.specs.Sizes.{AreSameSizes}

pub joined_sizes : (one between other : Geometry) → AreSameSizes one between → AreSameSizes between other → AreSameSizes one other
joined_sizes one between other first second = record {
  block = first.block ∙ second.block;
  cache_blocks = first.cache_blocks ∙ second.cache_blocks;
  origin_blocks = first.origin_blocks ∙ second.origin_blocks;
  meta_sectors = first.meta_sectors ∙ second.meta_sectors;
}

-- what is of one geometry has the sizes of another with the same ones
pub sized_by : (geometry one other : Geometry) → geometry ≡ one → AreSameSizes one other → AreSameSizes geometry other
sized_by geometry one other same sizes = subst (λ (g : Geometry). AreSameSizes g other) (sym same) sizes

stored_by_sizes : (one other : Geometry) (state : Option Stored) → AreSameSizes one other → StoredIsOf one state → StoredIsOf other state
stored_by_sizes one other None sizes of = tt
stored_by_sizes one other (Some state) sizes of = joined_sizes state.root.geometry one other of sizes

-- a device is read by its sizes
pub read_by_sizes : (one other : Geometry) (committed : Stored) (later : Option Stored) (device : List History) → AreSameSizes one other → MayBeReadAs one committed later device → MayBeReadAs other committed later device
read_by_sizes one other committed later device sizes may = record {
  size = may.size ∙ sizes.meta_sectors;
  sizes = joined_sizes committed.root.geometry one other may.sizes sizes;
  later_sizes = stored_by_sizes one other later sizes may.later_sizes;
  represents = may.represents;
}
