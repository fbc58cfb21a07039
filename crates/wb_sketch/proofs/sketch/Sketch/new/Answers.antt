use Rattle.std.proofs.Common.{◌≡◌, ◌≤◌, ◌+◌, ◌-◌, ◌*◌, ◌%◌, ◌^◌, ℕ, Bool, List, false, sym, replicate, subst, arith}
use Rattle.wb_sketch.specs.Sizes.{IsRowBits, row_bits}
use Rattle.wb_sketch.specs.Frequencies.{IsShaped, frequencies, empty}
use Rattle.wb_sketch.proofs.Sizes.{words_shifted}
use Rattle.wb_sketch.proofs.Steps.{empty-is}
use Rattle.wb_sketch.proofs.Shapes.{shaped-empty}
use Rattle.wb_sketch.proofs.sketch.Sketch.new.Goals as goal

-- rows and doorkeeper of so many words are those of an empty sketch
made : (blocks bits : ℕ) (row1 row2 row3 row4 : List ℕ) (doorkeeper : List Bool) → bits ≡ row_bits blocks → 4 ≤ bits → bits ≤ 20
    → row1 ≡ replicate (16 * (1 * 2 ^ (bits - 4) % 2 ^ 64)) 0 → row2 ≡ replicate (16 * (1 * 2 ^ (bits - 4) % 2 ^ 64)) 0
    → row3 ≡ replicate (16 * (1 * 2 ^ (bits - 4) % 2 ^ 64)) 0 → row4 ≡ replicate (16 * (1 * 2 ^ (bits - 4) % 2 ^ 64)) 0
    → doorkeeper ≡ replicate (64 * (1 * 2 ^ (bits - 3) % 2 ^ 64)) false
    → frequencies blocks row1 row2 row3 row4 doorkeeper 0 ≡ empty blocks
made blocks bits row1 row2 row3 row4 doorkeeper is from to e1 e2 e3 e4 e5 =
    let places : 16 * (1 * 2 ^ (bits - 4) % 2 ^ 64) ≡ 2 ^ bits = words_shifted 4 (bits - 4) bits (omega arith) (omega arith) in
    let doors : 64 * (1 * 2 ^ (bits - 3) % 2 ^ 64) ≡ 2 ^ (bits + 3) = words_shifted 6 (bits - 3) (bits + 3) (omega arith) (omega arith) in
    rw (e1, e2, e3, e4, e5, places, doors) (empty-is blocks bits is)

pub returns-clause-value : goal.returns-clause-value
returns-clause-value c =
    made c.args.cache_blocks c.bits_of_row-bits.result c.in_ok-row1.row1 c.in_ok-row2.row2 c.in_ok-row3.row3 c.in_ok-row4.row4 c.in_ok-doorkeeper.doorkeeper
    c.bits_of_row-bits.ensures.value c.bits_of_row-bits.ensures.least.some c.bits_of_row-bits.ensures.at_most
    c.in_ok-row1.ensures.value c.in_ok-row2.ensures.value c.in_ok-row3.ensures.value c.in_ok-row4.ensures.value c.in_ok-doorkeeper.ensures.value

pub invariant_of-result : goal.invariant_of-result
invariant_of-result c =
    subst (IsShaped c.bits_of_row-bits.result) (sym (made c.args.cache_blocks c.bits_of_row-bits.result c.in_ok-row1.row1 c.in_ok-row2.row2 c.in_ok-row3.row3 c.in_ok-row4.row4 c.in_ok-doorkeeper.doorkeeper
    c.bits_of_row-bits.ensures.value c.bits_of_row-bits.ensures.least.some c.bits_of_row-bits.ensures.at_most
    c.in_ok-row1.ensures.value c.in_ok-row2.ensures.value c.in_ok-row3.ensures.value c.in_ok-row4.ensures.value c.in_ok-doorkeeper.ensures.value))
    (shaped-empty _ _ c.bits_of_row-bits.ensures.value c.bits_of_row-bits.ensures.least.some c.bits_of_row-bits.ensures.at_most c.requires)

pub returns-clause-width : goal.returns-clause-width
returns-clause-width c = subst (λ bits. IsRowBits c.args.cache_blocks bits) c.bits_of_row-bits.ensures.value c.bits_of_row-bits.ensures.least
