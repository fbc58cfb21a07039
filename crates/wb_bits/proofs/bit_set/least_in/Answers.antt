use Rattle.std.proofs.Common.{refl, arith}
use Rattle.std.proofs.lemmas.List.{get_or_past}
use Rattle.wb_bits.proofs.Least.{least_in-used, least_in-unused}
use Rattle.wb_bits.proofs.bit_set.least_in.Goals as goal

pub returns-then-at-words : goal.returns-then-at-words
returns-then-at-words c = least_in-unused c.args.words.now c.args.at (get_or_past c.args.words.now c.args.at 0 (omega arith))

pub returns-then-word-eq0 : goal.returns-then-word-eq0
returns-then-word-eq0 c = least_in-unused c.args.words.now c.args.at (omega arith)

pub returns : goal.returns
returns c = least_in-used c.args.words.now c.args.at _ refl (omega arith)
