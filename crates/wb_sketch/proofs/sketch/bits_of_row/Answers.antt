use Rattle.std.proofs.Common.{◌≡◌, ◌≤◌, ◌<◌, ◌^◌, ◌*◌, ◌%◌, sym, ◌∙◌, arith, below_more}
use Rattle.wb_sketch.proofs.Sizes.{row_bits-start, bits_from-found, bits_from-next, bits_from-end, one_shifted}
use Rattle.wb_sketch.proofs.sketch.bits_of_row.Goals as goal

pub loop-bits-init : goal.loop-bits-init
loop-bits-init c = record { rest = row_bits-start _; below = λ other from to. absurd (omega arith) }

pub returns-then-cache_blocks-bits-clause-value : goal.returns-then-cache_blocks-bits-clause-value
returns-then-cache_blocks-bits-clause-value c =
    sym (bits_from-found c.loop-bits.bits c.args.cache_blocks (omega arith) (omega arith)) ∙ c.loop-bits.invariant.rest

pub loop-bits-preserved : goal.loop-bits-preserved
loop-bits-preserved c =
    let within : 1 * 2 ^ c.loop-bits.bits % 2 ^ 32 ≡ 2 ^ c.loop-bits.bits = one_shifted _ 32 (omega arith) (omega arith) in
    let above : 2 ^ c.loop-bits.bits < c.args.cache_blocks = rw within at c.if-cache_blocks-bits.false in
    record {
      rest = bits_from-next c.loop-bits.bits c.args.cache_blocks (omega arith) above ∙ c.loop-bits.invariant.rest;
      below = λ other from to. below_more (λ k. 4 ≤ k → 2 ^ k < c.args.cache_blocks) c.loop-bits.bits (λ k l from. c.loop-bits.invariant.below k from l) (λ from. above) other to from;
    }

pub returns-clause-value : goal.returns-clause-value
returns-clause-value c =
    let end : c.loop-bits.bits ≡ 20 = omega arith in
    sym (bits_from-end c.loop-bits.bits c.args.cache_blocks end) ∙ c.loop-bits.invariant.rest
