-- How the sets of cache blocks belong to their states.
use Rattle.std.specs.Prelude.{◌≡◌, ◌<◌, ◌^◌, length, map}
use Rattle.wb_space.specs.Blocks.{is_free, is_late, is_early}
use Rattle.wb_space.specs.declared.blocks.Blocks.TheInside.{Inside}

-- each set has the blocks in the state that it is kept for
pub record AreIndexed (b : Inside) : Type 0 where
  pub small : length b.states.items < 2 ^ 32
  pub free : b.free ≡ map is_free b.states.items
  pub late : b.late ≡ map is_late b.states.items
  pub early : b.early ≡ map is_early b.states.items
