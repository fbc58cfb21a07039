use Rattle.std.proofs.Common.{◌==◌, ℕ, ap}
use Rattle.std.specs.Int.{w64}
use Rattle.std.proofs.lemmas.Nat.Bits.{bit_at_clear_same, bit_at_clear_other}
use Rattle.wb_bits.proofs.bit_set.without_bit.Goals as goal

pub returns-clause-differs : goal.returns-clause-differs
returns-clause-differs c = record {
  here = ap (λ (t : ℕ). t == 1) (bit_at_clear_same w64 c.args.word c.args.bit c.requires);
  others = λ j h n. bit_at_clear_other w64 c.args.word c.args.bit c.requires j h n;
}
