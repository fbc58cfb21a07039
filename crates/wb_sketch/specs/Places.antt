-- Where a block has its places in a sketch.
use Rattle.std.specs.Prelude.{◌+◌, ◌-◌, ◌*◌, ◌/◌, ◌%◌, ◌^◌, ℕ}
use Rattle.wb_sketch.specs.Sizes.{row_bits}
use Rattle.wb_sketch.specs.declared.place.Places.{Places}

-- the place of a block among 2 ^ bits: the highest bits of its product with a constant, modulo 2 ^ 64
unfoldable pub place_of : ℕ → ℕ → ℕ → ℕ
place_of constant bits block = (block * constant % 2 ^ 64) / 2 ^ (64 - bits)

-- the constants of the four rows
abbrev pub row_constant1 : ℕ
row_constant1 = 0x9E3779B97F4A7C15

abbrev pub row_constant2 : ℕ
row_constant2 = 0xC2B2AE3D27D4EB4F

abbrev pub row_constant3 : ℕ
row_constant3 = 0x165667B19E3779F9

abbrev pub row_constant4 : ℕ
row_constant4 = 0xD6E8FEB86659FD93

-- the constants of the doorkeeper's two places of a block
abbrev pub door_constant1 : ℕ
door_constant1 = 0xFF51AFD7ED558CCD

abbrev pub door_constant2 : ℕ
door_constant2 = 0xC4CEB9FE1A85EC53

-- the place of a block in the row of a constant
abbrev pub row_place : ℕ → ℕ → ℕ → ℕ
row_place constant cache_blocks block = place_of constant (row_bits cache_blocks) block

-- a place of a block in the doorkeeper, which is eight times as wide as a row
abbrev pub door_place : ℕ → ℕ → ℕ → ℕ
door_place constant cache_blocks block = place_of constant (row_bits cache_blocks + 3) block

-- where a block has its counters, one in each row
unfoldable pub places_of : ℕ → ℕ → Places
places_of cache_blocks block = record {
  row1 = row_place row_constant1 cache_blocks block;
  row2 = row_place row_constant2 cache_blocks block;
  row3 = row_place row_constant3 cache_blocks block;
  row4 = row_place row_constant4 cache_blocks block;
}
