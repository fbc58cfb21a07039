use Rattle.std.proofs.Common.{◌==◌, ◌*◌, ◌^◌, ◌%◌, ℕ, ap, arith}
use Rattle.std.proofs.lemmas.Nat.{or_lt}
use Rattle.std.specs.Int.{w64}
use Rattle.std.proofs.lemmas.Nat.Bits.{bit_at_set_same, bit_at_set_other}
use Rattle.wb_bits.proofs.bit_set.with_bit.Goals as goal

pub returns-clause-differs : goal.returns-clause-differs
returns-clause-differs c = record {
  here = ap (λ (t : ℕ). t == 1) (bit_at_set_same w64 c.args.word c.args.bit c.requires);
  others = λ j h n. bit_at_set_other w64 c.args.word c.args.bit c.requires j n;
}

pub returns-clause-fits : goal.returns-clause-fits
returns-clause-fits c = or_lt 64 c.args.word (1 * 2 ^ c.args.bit % 2 ^ 64) (omega arith) (omega arith)
