use Rattle.std.proofs.Common.{◌/◌, refl, arith}
use Rattle.wb_bits.proofs.Onward.{found_here, none_here}
use Rattle.wb_bits.proofs.bit_set.least_in_from.Goals as goal

pub returns-then-word-eq0-clause-none : goal.returns-then-word-eq0-clause-none
returns-then-word-eq0-clause-none c = none_here c.args.words.now c.args.from _ refl c.if-word-eq0.true

pub returns-clause-found : goal.returns-clause-found
returns-clause-found c = found_here c.args.words.now c.args.from _ refl (omega (arith, c.type_inv.words (c.args.from / 64))) c.if-word-eq0.false
