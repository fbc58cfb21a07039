-- Blocks whose places no other block has, so that their estimates are exact.
use Rattle.std.specs.Prelude.{◌≢◌, ◌⊎◌, ℕ, List, [], ◌∷◌}
use Rattle.wb_sketch.specs.Places.{row_place, door_place, row_constant1, row_constant2, row_constant3, row_constant4, door_constant1, door_constant2}

-- each of these blocks has a property
abbrev pub EachBlock : (ℕ → Type 0) → List ℕ → Type 0
EachBlock P [] = Unit {0}
EachBlock P (block ∷ blocks) = P block × EachBlock P blocks

-- a block does not share another's place in the row of a constant, unless it is that block
abbrev pub LeavesRow : ℕ → ℕ → ℕ → ℕ → Type 0
LeavesRow constant cache_blocks block other = other ≢ block → row_place constant cache_blocks other ≢ row_place constant cache_blocks block

-- a block has neither of its doorkeeper places where another has that of a constant, unless it is that block
abbrev pub LeavesDoor : ℕ → ℕ → ℕ → ℕ → Type 0
LeavesDoor constant cache_blocks block other =
    other ≢ block
    → (door_place door_constant1 cache_blocks other ≢ door_place constant cache_blocks block)
    × (door_place door_constant2 cache_blocks other ≢ door_place constant cache_blocks block)

-- in some one row no other of the blocks shares a block's place
abbrev pub IsAloneInARow : ℕ → List ℕ → ℕ → Type 0
IsAloneInARow cache_blocks blocks block =
    (EachBlock (LeavesRow row_constant1 cache_blocks block) blocks ⊎ EachBlock (LeavesRow row_constant2 cache_blocks block) blocks)
    ⊎ (EachBlock (LeavesRow row_constant3 cache_blocks block) blocks ⊎ EachBlock (LeavesRow row_constant4 cache_blocks block) blocks)

-- some one doorkeeper place of a block is none of any other of the blocks
abbrev pub HasOwnDoor : ℕ → List ℕ → ℕ → Type 0
HasOwnDoor cache_blocks blocks block =
    EachBlock (LeavesDoor door_constant1 cache_blocks block) blocks ⊎ EachBlock (LeavesDoor door_constant2 cache_blocks block) blocks
