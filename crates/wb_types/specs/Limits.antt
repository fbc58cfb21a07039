-- The limits of a geometry, and how many levels and nodes a mapping and its dirty bits have.
use Rattle.std.specs.Prelude.{◌≡◌, ◌≤◌, ◌+◌, ◌*◌, ◌%◌, ◌^◌, ℕ, zero, suc, Bool, nat_le, if◌then◌else◌}
use Rattle.std.specs.Int.{div_ceil}
use Rattle.wb_types.specs.declared.version.Version.{Version}
use Rattle.wb_types.specs.declared.version.Version.TheVariants.{One, Two}

-- how many nodes of this level it takes to have so many cache blocks below them, 32 ^ level below each
abbrev pub nodes_at : ℕ → ℕ → ℕ
nodes_at level blocks = div_ceil blocks (32 ^ level)

-- how many nodes the levels up to this one have together
unfoldable pub nodes_up_to : ℕ → ℕ → ℕ
nodes_up_to zero blocks = 0
nodes_up_to (suc level) blocks = nodes_up_to level blocks + nodes_at (suc level) blocks

-- This many levels hold so many cache blocks, at least one, and no fewer would do.
pub record IsDepth (blocks depth : ℕ) : Type 0 where
  pub some : 1 ≤ depth
  pub enough : blocks ≤ 32 ^ depth
  pub least : (level : ℕ) → 1 ≤ level → blocks ≤ 32 ^ level → depth ≤ level

-- the levels of a mapping of so many cache blocks, up to 32 ^ 4
unfoldable pub depth_of : ℕ → ℕ
depth_of blocks = if nat_le blocks 32 then 1 else if nat_le blocks 1024 then 2 else if nat_le blocks 32768 then 3 else 4

-- the nodes of a mapping of so many cache blocks, each of which has an entry
unfoldable pub node_count : ℕ → ℕ
node_count blocks = nodes_up_to (depth_of blocks) blocks

-- how many words of 64 bits have a bit for each of so many cache blocks
abbrev pub words_of_bits : ℕ → ℕ
words_of_bits blocks = div_ceil blocks 64

-- The levels and the nodes of a tree of dirty bits: its leaves have 32 such words where those of a mapping have 32 entries,
-- so that a leaf stands for 2,048 cache blocks.
unfoldable pub dirty_depth_of : ℕ → ℕ
dirty_depth_of blocks = depth_of (words_of_bits blocks)

unfoldable pub dirty_node_count : ℕ → ℕ
dirty_node_count blocks = node_count (words_of_bits blocks)

-- the nodes of dirty bits that an image of this version has at most
abbrev pub dirty_nodes : Version → ℕ → ℕ
dirty_nodes One blocks = 0
dirty_nodes Two blocks = dirty_node_count blocks

-- the most nodes of an image: those of its mapping, and of its dirty bits where it is clean
abbrev pub most_nodes : Version → Bool → ℕ → ℕ
most_nodes version clean blocks = node_count blocks + (if clean then dirty_nodes version blocks else 0)

-- A metadata device of this version has two root slots, room for two mappings that have no node in common, and for the
-- dirty bits of one image.
abbrev pub HasRoom : Version → ℕ → ℕ → Type 0
HasRoom version cache_blocks meta_sectors = 2 + 2 * node_count cache_blocks + dirty_nodes version cache_blocks ≤ meta_sectors

-- The sizes that a cache may have: block and metadata in sectors, the others in blocks. The metadata device
-- has two root slots and room for two mappings that have no node in common.
pub record IsWithinLimits (block cache_blocks origin_blocks meta_sectors : ℕ) : Type 0 where
  pub block_from : 64 ≤ block
  pub block_to : block ≤ 2097152
  pub block_step : block % 64 ≡ 0
  pub cache_from : 1 ≤ cache_blocks
  pub cache_to : cache_blocks ≤ 1048575
  pub origin_from : 1 ≤ origin_blocks
  pub origin_to : origin_blocks ≤ 1048576
  pub meta_from : 2 + 2 * node_count cache_blocks ≤ meta_sectors
  pub meta_to : meta_sectors ≤ 4294967295
