-- How many nodes the mapping of so many cache blocks has at most, and its dirty bits.
use Rattle.std.proofs.Common.{◌≡◌, ◌≤◌, ◌+◌, ◌*◌, ◌^◌, ℕ, zero, suc, Bool, true, false, if◌then◌else◌, nat_le, arith, refl}
use Rattle.std.specs.Int.{div_ceil}
use Rattle.wb_types.specs.Limits.{depth_of, dirty_node_count, node_count, nodes_up_to, words_of_bits}
use Rattle.wb_types.proofs.Counting.{div_ceil-le, node_count-levels, nodes_up_to-zero}

more_levels : (level blocks : ℕ) → nodes_up_to (suc level) blocks ≡ nodes_up_to level blocks + div_ceil blocks (32 ^ suc level)
unfolding nodes_up_to
more_levels level blocks = refl

-- a level has at most one node for each block, and one more
one_level : (level blocks most : ℕ) → nodes_up_to level blocks ≤ most → nodes_up_to (suc level) blocks ≤ most + (blocks + 1)
one_level level blocks most h =
    let more = more_levels level blocks in
    let one = div_ceil-le blocks (32 ^ suc level) in
    omega (arith, more, one, h)

no_level : (blocks : ℕ) → nodes_up_to zero blocks ≤ 0
no_level blocks = let none = nodes_up_to-zero blocks in omega (arith, none)

levels_few : (level blocks : ℕ) → level ≤ 4 → nodes_up_to level blocks ≤ 4 * (blocks + 1)
levels_few zero blocks h = let none = no_level blocks in omega (arith, none)
levels_few (suc zero) blocks h = let one = one_level zero blocks 0 (no_level blocks) in omega (arith, one)
levels_few (suc (suc zero)) blocks h =
    let two = one_level (suc zero) blocks (0 + (blocks + 1)) (one_level zero blocks 0 (no_level blocks)) in omega (arith, two)
levels_few (suc (suc (suc zero))) blocks h =
    let two = one_level (suc zero) blocks (0 + (blocks + 1)) (one_level zero blocks 0 (no_level blocks)) in
    let three = one_level (suc (suc zero)) blocks (0 + (blocks + 1) + (blocks + 1)) two in omega (arith, three)
levels_few (suc (suc (suc (suc zero)))) blocks h =
    let two = one_level (suc zero) blocks (0 + (blocks + 1)) (one_level zero blocks 0 (no_level blocks)) in
    let three = one_level (suc (suc zero)) blocks (0 + (blocks + 1) + (blocks + 1)) two in
    let four = one_level (suc (suc (suc zero))) blocks (0 + (blocks + 1) + (blocks + 1) + (blocks + 1)) three in omega (arith, four)
levels_few (suc (suc (suc (suc (suc level))))) blocks h = absurd (omega (arith, h))

either : (b : Bool) (m n most : ℕ) → m ≤ most → n ≤ most → (if b then m else n) ≤ most
either true m n most h k = h
either false m n most h k = k

few_levels : (blocks : ℕ) → depth_of blocks ≤ 4
unfolding depth_of
few_levels blocks = either (nat_le blocks 32) 1 _ 4 (omega arith) (either (nat_le blocks 1024) 2 _ 4 (omega arith) (either (nat_le blocks 32768) 3 4 4 (omega arith) (omega arith)))

nodes_few : (blocks : ℕ) → node_count blocks ≤ 4 * (blocks + 1)
nodes_few blocks =
    let same = node_count-levels blocks in
    let few = levels_few (depth_of blocks) blocks (few_levels blocks) in
    omega (arith, same, few)

bits_few : (blocks : ℕ) → dirty_node_count blocks ≤ 4 * (blocks + 2)
unfolding dirty_node_count
bits_few blocks =
    let words = nodes_few (words_of_bits blocks) in
    let few : words_of_bits blocks ≤ blocks + 1 = div_ceil-le blocks 64 in
    omega (arith, words, few)

-- so both have a number of 32 bits
pub both_few : (blocks : ℕ) → blocks ≤ 1048575 → node_count blocks + dirty_node_count blocks ≤ 8388616
both_few blocks h =
    let nodes = nodes_few blocks in
    let bits = bits_few blocks in
    omega (arith, nodes, bits, h)
