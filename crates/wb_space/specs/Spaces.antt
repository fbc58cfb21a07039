-- The states of the cache blocks, the metadata places in use, and whether a commit runs.
use Rattle.std.specs.Prelude.{List, Bool}
use Rattle.wb_space.specs.declared.block.Block.{Block}
use Rattle.wb_space.specs.Places.{PlacesInUse}

pub record Spaces : Type 0 where
  pub blocks : List Block
  pub places : PlacesInUse
  pub committing : Bool
